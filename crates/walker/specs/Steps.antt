-- The steps of the walk. Definitions. Assumes nothing.
use Rattle.std.specs.Prelude.{ℕ, suc, ◌+◌, ◌≤◌, ◌≡◌, List, length, Option as CodeOption, Some, None}
use Rattle.std.proofs.Math.Option.{Option, none, some}
use Rattle.pauli.specs.Bits.{Bits}
use Rattle.pauli.specs.Pauli.{identity}
use Rattle.pauli.specs.Fixed.{as_pauli}
use Rattle.pauli.specs.declared.Pauli.{Pauli as PauliWords}
use Rattle.job.specs.Grammar.{Written}
use Rattle.job.specs.Job.{gathered, job_of}
use Rattle.frames.specs.Forward.{setting_of}
use Rattle.backward.specs.Walk.{Walk, walk_back, walk}
use Rattle.backward.specs.Walking.{first_noise, plain_lines}
use Rattle.lines_back.specs.Full.{full}
use Rattle.lines_back.specs.declared.Walk.{Walk as WalkWords}
use Rattle.lines_from_last.specs.Line.{OfJob, LinesLeft}
use Rattle.lines_back.specs.Back.{walk_of, written_back, noise_back}

-- B starts as identity, the count at 0, and no noise was seen
pub record Started (w : WalkWords) : Type 0 where
  pub observable : as_pauli w.observable ≡ identity
  pub count : w.count ≡ 0
  pub noise : w.noise ≡ None

-- a line's number, or none: the code's Option as the definitions'
unfoldable pub line_or_none : CodeOption ℕ → Option ℕ
line_or_none None = none
line_or_none (Some k) = some k

-- what the walk of a set S over all lines of an accepted job comes to
pub record WalkedBack (job : List ℕ) (shot : ℕ) (S : Bits) (r : WalkWords) : Type 0 where
  pub count : r.count ≡ (walk (setting_of (job_of job).header shot) (plain_lines (job_of job).instructions) S).count
  pub noise : line_or_none r.noise ≡ first_noise (job_of job).instructions

-- ---- a line by its bytes

-- what a line says does nothing in a walk of this shot
pub record PassedOver (shot : ℕ) (v : Written) : Type 0 where
  pub walks : (w : Walk) → w ≡ written_back (full shot) v w
  pub noise : (k : ℕ) (before : CodeOption ℕ) → before ≡ noise_back k v before

-- the walk after the line of number k is what that line makes of the walk before
pub record TextBack (text : List ℕ) (shot k : ℕ) (w w' : WalkWords) (set set' : List ℕ) : Type 0 where
  pub long : length set' ≡ 16
  pub walks : (o : OfJob text) → walk_of w' set' ≡ written_back (full shot) o.known.written (walk_of w set)
  pub noise : (o : OfJob text) → w'.noise ≡ noise_back k o.known.written w.noise

-- ---- the loops

-- the walk before any line
unfoldable pub start_with : Bits → Walk
start_with S = record { carried = record { observable = identity; set = S }; count = 0 }

-- The lines from place e on were walked back over, those of `done`; the k lines before are left.
pub record Going (job : List ℕ) (shot : ℕ) (S : Bits) (w : WalkWords) (set : List ℕ) (k e : ℕ) : Type 0 where
  pub done : List (List ℕ)
  pub left : LinesLeft job k e done
  pub long : length set ≡ 16
  pub counted : w.count + e ≤ length job
  pub walked : walk_of w set ≡ walk_back (setting_of (job_of job).header shot) (plain_lines (gathered (suc k) done).instructions) (start_with S)
  pub noise : line_or_none w.noise ≡ first_noise (gathered (suc k) done).instructions

-- the k lines before place e are left
pub record Left (job : List ℕ) (k e : ℕ) : Type 0 where
  pub done : List (List ℕ)
  pub left : LinesLeft job k e done

-- Lines were walked back over, from place e₀, before which k₀ lines are left, to place e, before which k are. Of every walk that comes to e₀ with the
-- observable b₀ they make the one with b, and change nothing else of it.
pub record GatesGone (job : List ℕ) (b₀ : PauliWords) (k₀ e₀ : ℕ) (b : PauliWords) (k e : ℕ) : Type 0 where
  pub within : e ≤ e₀
  pub left : Left job k e
  pub going : (shot : ℕ) (S : Bits) (c : ℕ) (n : CodeOption ℕ) (set : List ℕ) → Going job shot S (record { observable = b₀; count = c; noise = n }) set k₀ e₀
      → Going job shot S (record { observable = b; count = c; noise = n }) set k e
