-- The setting of the code: as many qubits and outcomes as the fixed sets hold. Definitions. Assumes nothing.
use Rattle.std.specs.Prelude.{ℕ}
use Rattle.frames.specs.Forward.{Setting}

abbrev pub full : ℕ → Setting
full shot = record { qubits = 256; outcomes = 1024; shot = shot }
