-- A plain line as its values hold it. Definitions. Assumes nothing.
use Rattle.std.specs.Prelude.{ℕ, ◌*◌, ◌≤◌, List}
use Rattle.text.specs.Template.{Value}
use Rattle.template.specs.Values.{Whole, held_list}
use Rattle.job.specs.Line.{SparsePauli, Line}
use Rattle.job.specs.Grammar.{Written, header_with}
use Rattle.job.specs.Sound.{LineSound}
use Rattle.reader.specs.declared.Form.{Form}
use Rattle.reader.specs.Parsed.{Said}

-- the Pauli of two lists of a line
abbrev pub held_pauli : List ℕ → ℕ → ℕ → SparsePauli
held_pauli f i j = record { x = held_list f i; z = held_list f j }

-- The values say this line, a line of an accepted job of n qubits and m outcomes whose shots lie in w words a row.
pub record Plain (form : Form) (fields : List ℕ) (w n m : ℕ) (line : Line) : Type 0 where
  pub edition : ℕ
  pub shots : ℕ
  pub recorded : ℕ
  pub values : List Value
  pub wide : Whole fields
  pub said : Said form fields values (Written.line line)
  pub sound : LineSound (header_with edition n m shots) recorded line
  pub in_words : shots ≤ 64 * w
  pub in_rows : recorded ≤ m
