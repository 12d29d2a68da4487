-- The hexadecimal digit that a byte is, if it is one, by arithmetic alone. Definitions. Assumes nothing.
use Rattle.std.specs.Prelude.{ℕ, ◌+◌, ◌*◌, ◌/◌, ◌%◌}

abbrev pub hex_value_of : ℕ → ℕ
hex_value_of b = (b % 16 + 9 * (b / 64)) % 16
