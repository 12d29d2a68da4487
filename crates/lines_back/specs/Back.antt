-- A line as lent words hold its values, and what it is to go back over it. Definitions. Assumes nothing.
use Rattle.std.specs.Prelude.{ℕ, ◌≤◌, ◌≡◌, Bool, List, length, Option, Some}
use Rattle.pauli.specs.declared.Pauli.{Pauli as PauliWords}
use Rattle.pauli.specs.Bits.{Bits}
use Rattle.pauli.specs.Fixed.{in_set, as_pauli}
use Rattle.text.specs.Template.{Value}
use Rattle.template.specs.Values.{Whole}
use Rattle.job.specs.declared.Header.{Header}
use Rattle.job.specs.Line.{Line}
use Rattle.job.specs.Grammar.{Written}
use Rattle.job.specs.Sound.{LineSound, HeaderSound}
use Rattle.reader.specs.declared.Form.{Form}
use Rattle.reader.specs.Parsed.{Said}
use Rattle.frames.specs.Forward.{Setting}
use Rattle.backward.specs.Walk.{Carried, carry, counts, Walk, backward}
use Rattle.instructions.specs.Plain.{Plain}
use Rattle.lines_back.specs.Full.{full}
use Rattle.lines_back.specs.declared.Walk.{Walk as WalkWords}

-- ---- a plain line

-- the values hold a line of an accepted job
pub record HeldLine (form : Form) (words : List ℕ) : Type 0 where
  pub qubits : ℕ
  pub outcomes : ℕ
  pub few_qubits : qubits ≤ 256
  pub few_outcomes : outcomes ≤ 1024
  pub line : Line
  pub plain : Plain form words 64 qubits outcomes line

-- an observable in words, and a set
abbrev pub carried_of : PauliWords → Bits → Carried
carried_of b set = record { observable = as_pauli b; set = set }

-- The line that the values say carries the observable b and a set to b' and set', and whether it is counted in the shot.
pub record Back (form : Form) (words : List ℕ) (shot : ℕ) (b : PauliWords) (set : Bits) (b' : PauliWords) (set' : Bits) (counted : Bool) : Type 0 where
  pub carries : (p : HeldLine form words) → carry 256 p.line (carried_of b set) ≡ carried_of b' set'
  pub counts_it : (p : HeldLine form words) → counts (full shot) p.line (carried_of b set) ≡ counted

-- ---- any line

-- The values say what a line of an accepted job says.
pub record Readable (form : Form) (words : List ℕ) : Type 0 where
  pub header : Header
  pub range : HeaderSound header
  pub wide : Whole words
  pub values : List Value
  pub written : Written
  pub said : Said form words values written
  pub sound : (l : Line) → written ≡ Written.line l → (r : ℕ) × (r ≤ header.outcomes) × LineSound header r l

-- the walk so far: the code's struct, and the lent set
abbrev pub walk_of : WalkWords → List ℕ → Walk
walk_of w set = record { carried = carried_of w.observable (in_set set); count = w.count }

-- a line of any kind going back: a plain line alone changes the walk, and noise alone is remembered
unfoldable pub written_back : Setting → Written → Walk → Walk
written_back c (Written.header h) w = w
written_back c (Written.line l) w = backward c l w
written_back c (Written.noise n) w = w
written_back c (Written.element v P) w = w

unfoldable pub noise_back : ℕ → Written → Option ℕ → Option ℕ
noise_back k (Written.header h) before = before
noise_back k (Written.line l) before = before
noise_back k (Written.noise n) before = Some k
noise_back k (Written.element v P) before = before

-- the walk after the line of number k is what that line makes of the walk before
pub record LineBack (form : Form) (words : List ℕ) (shot k : ℕ) (w w' : WalkWords) (set set' : List ℕ) : Type 0 where
  pub long : length set' ≡ 16
  pub walks : (q : Readable form words) → walk_of w' set' ≡ written_back (full shot) q.written (walk_of w set)
  pub noise : (q : Readable form words) → w'.noise ≡ noise_back k q.written w.noise
