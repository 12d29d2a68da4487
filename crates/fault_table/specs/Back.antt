-- A line back for groups whose words are lent. Definitions. Assumes nothing.
use Rattle.std.specs.Prelude.{ℕ, ◌≡◌, Bool, true, false, List, map}
use Rattle.job.specs.Grammar.{Written}
use Rattle.reader.specs.declared.Form.{Form}
use Rattle.reader.specs.declared.Form.TheVariants as form
use Rattle.backward.specs.Walk.{Carried, carry}
use Rattle.lines_back.specs.Back.{Readable}
use Rattle.fault_table.specs.Lent.{carried_in, all_carried}

-- what a line makes of what is carried back, over the 256 qubits of the code's sets: a plain line alone changes it
unfoldable pub carried_by : Written → Carried → Carried
carried_by (Written.header h) w = w
carried_by (Written.line l) w = carry 256 l w
carried_by (Written.noise n) w = w
carried_by (Written.element v P) w = w

-- of one group
pub record GroupBack (form : Form) (words before after : List ℕ) : Type 0 where
  pub back : (q : Readable form words) → carried_in after ≡ carried_by q.written (carried_in before)

-- of n groups
pub record GroupsBack (form : Form) (words : List ℕ) (n : ℕ) (before after : List ℕ) : Type 0 where
  pub back : (q : Readable form words) → all_carried n after ≡ map (carried_by q.written) (all_carried n before)

-- forms of lines that change nothing of it
unfoldable pub still_form : Form → Bool
still_form form.Unread = false
still_form form.Header = false
still_form form.Unitary = false
still_form form.Clifford = false
still_form form.Pauli = true
still_form form.Exponential = false
still_form form.Controlled = false
still_form form.Permute = false
still_form form.Measure = false
still_form form.Allocate = true
still_form form.Conditional = false
still_form form.Reset = false
still_form form.Inject = true
still_form form.Flip = true
still_form form.Single = true
still_form form.Depolarizing = true
still_form form.Uniform = true
still_form form.Weighted = true
still_form form.Element = true
still_form form.WeightedElement = true
still_form form.EditionHeader = false
still_form form.Barrier = true
