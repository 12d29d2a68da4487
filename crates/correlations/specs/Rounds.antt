-- Rounds over a job with a table of limited size. Definitions. Assumes nothing.
use Rattle.std.specs.Prelude.{ℕ, ◌+◌, ◌≤◌, ◌<◌, min, ◌≡◌, Bool, false, cond, List, [], ◌∷◌, eqb, length, take, Option as Maybe, Some, None, Result, Ok, Err}
use Rattle.std.proofs.Math.Option.{Option, none, some}
use Rattle.text.specs.Template.{Value}
use Rattle.job.specs.Line.{Placed}
use Rattle.job.specs.Grammar.{Written}
use Rattle.reader.specs.declared.Form.{Form}
use Rattle.reader.specs.Parsed.{Said}
use Rattle.instructions.specs.Lines.{Left}
use Rattle.instructions.specs.Ahead.{instructions_at}
use Rattle.circuit.specs.Correlation.{Seen, size_fits, correlation_of, said_size, first_differing_of}
use Rattle.correlations.specs.declared.Collected.{Collected}
use Rattle.correlations.specs.declared.Found.{Found}
use Rattle.correlations.specs.declared.Correlated.{Correlated}
use Rattle.correlations.specs.declared.Differing.{Differing}
use Rattle.correlations.specs.Sizes.{correlation_in, size_in, table_of, Looked, look_of, grown, line_in}
use Rattle.correlations.specs.Links.{Unseen, Table}

-- the first line whose size is not the one that a table has for its corr; the table does not grow
unfoldable pub unlike : List Seen → List Placed → Option ℕ
unlike seen [] = none
unlike seen (i ∷ is) =
    let later = unlike seen is in
    cond (size_fits seen (correlation_of i.instruction) (said_size i.instruction)) later (some i.line)

-- the earlier of two lines, of which there may be none
unfoldable pub earliest : Option ℕ → Option ℕ → Option ℕ
earliest none o = o
earliest (some a) none = some a
earliest (some a) (some b) = some (min a b)

-- what a line comes to beside a table
pub record Looks (form : Form) (fields : List ℕ) (line : ℕ) (seen sizes : List ℕ) (r : Looked) : Type 0 where
  pub is : (vs : List Value) (w : Written) → Said form fields vs w → r ≡ look_of line (table_of seen sizes) (correlation_in w) (size_in w)
  pub fresh : (l : Correlated) → r ≡ Ok (Some l) → Unseen l.correlation seen

-- whether a table of n correlations has no room for what is new
unfoldable pub full_of : Maybe Correlated → ℕ → ℕ → Bool
full_of None n room = false
full_of (Some l) n room = eqb n room

-- there is room for what is new
pub record RoomFor (new : Maybe Correlated) (n : ℕ) (seen : List ℕ) : Type 0 where
  pub room : (l : Correlated) → new ≡ Some l → n < length seen
  pub fresh : (l : Correlated) → new ≡ Some l → Unseen l.correlation (take n seen)

-- a table after it took in what is new
pub record Remembers (l : Maybe Correlated) (n : ℕ) (seen sizes : List ℕ) (r : ℕ) (seen-after sizes-after links-after : List ℕ) : Type 0 where
  pub few : r ≤ n + 1
  pub holds : Table r seen-after sizes-after links-after
  pub table : table_of (take r seen-after) (take r sizes-after) ≡ grown (table_of (take n seen) (take n sizes)) l

-- Line `number`, which begins at `from`, and the lines behind it up to `at` differ in no size, and the table holds their correlations, n.
pub record Collecting (job : List ℕ) (number from k at n : ℕ) (seen sizes links : List ℕ) : Type 0 where
  pub left : Left job k at
  pub holds : Table n seen sizes links
  pub onward : from + n ≤ at
  pub same : first_differing_of [] (instructions_at job number from) ≡ first_differing_of (table_of (take n seen) (take n sizes)) (instructions_at job k at)

-- what was collected: a line that differs; or the lines up to a place, behind `from`, and their table
pub record Collects (job : List ℕ) (number from : ℕ) (r : Result Collected Differing) (seen sizes links : List ℕ) : Type 0 where
  pub differs : (d : Differing) → r ≡ Err d → first_differing_of [] (instructions_at job number from) ≡ some d.line
  pub goes_on : (c : Collected) → r ≡ Ok c → Collecting job number from c.number c.at c.n seen sizes links × (from < c.at)

-- the first line that differs is one that the round found, or the first that differs from the next round's place on
pub record RoundOf (job : List ℕ) (number from : ℕ) (r : Found) : Type 0 where
  pub onward : from < r.at
  pub left : r.at < length job → Left job r.number r.at
  pub same : first_differing_of [] (instructions_at job number from)
      ≡ earliest (line_in r.differing) (first_differing_of [] (instructions_at job r.number r.at))
