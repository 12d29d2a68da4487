-- The walk line after line, from the last to the first. Laws. Assumes nothing.
use Prim.Native.Nat.{ℕ, suc, ◌-◌, ◌≤◌, ◌<◌}
use Rattle.std.proofs.Common.{arith, ◌∙◌}
use Rattle.std.specs.Prelude.{◌≡◌, Bool, true, false, length, Option as CodeOption}
use Rattle.std.proofs.Math.Path.{refl, sym, ap}
use mathlib.Core.List.{List, [], ◌∷◌}
use Rattle.std.proofs.Math.Option.{some}
use Rattle.pauli.specs.Bits.{Bits}
use Rattle.pauli.specs.Fixed.{in_set}
use Rattle.pauli.specs.declared.Pauli.{Pauli as PauliWords}
use Rattle.text.specs.Bytes.{lines}
use Rattle.template.specs.Values.{Whole}
use Rattle.job.specs.declared.Header.{Header}
use Rattle.job.specs.Line.{Line, Placed}
use Rattle.job.specs.Grammar.{Written, read_line_of}
use Rattle.job.specs.Job.{check_job, Gathered, gather, gathered, job_of}
use Rattle.job.specs.Sound.{LineSound}
use Rattle.reader.specs.declared.Form.{Form}
use Rattle.reader.specs.Parsed.{Parsed}
use Rattle.instructions.specs.Reading.{line_at}
use Rattle.instructions.specs.Laws.Meaning.{read_says}
use Rattle.frames.specs.Forward.{Setting, setting_of}
use Rattle.backward.specs.Walk.{counts, Walk, one_more_of, backward, walk_back, walk}
use Rattle.backward.specs.Walking.{noise_first, first_noise, line_first, plain_lines}
use Rattle.lines_back.specs.Full.{full}
use Rattle.lines_back.specs.Laws.Same.{same_backward}
use Rattle.lines_from_last.specs.Line.{LineBefore, OfJob}
use Rattle.lines_from_last.specs.Laws.Left.{all_left, one_done, left_known, line_known, gathered_more, none_left}
use Rattle.lines_back.specs.declared.Walk.{Walk as WalkWords}
use Rattle.lines_back.specs.Back.{Readable, walk_of, written_back, noise_back, LineBack}
use Rattle.walker.specs.Steps.{Started, line_or_none, WalkedBack, PassedOver, TextBack, start_with, Going, Left, GatesGone}

-- ---- one line

-- a line of an accepted job that was read
pub readable : {text : List ℕ} {form : Form} {words : List ℕ} → OfJob text → Parsed text form words → Whole words → Readable form words
readable o parsed wide =
    let (vs, said) = read_says parsed o.known.reads in
    record { header = o.header; range = o.range; wide = wide; values = vs; written = o.known.written; said = said; sound = o.known.sound }

-- by its form and its values, and by its bytes
pub read_back : {text : List ℕ} {form : Form} {words : List ℕ} {shot k : ℕ} {w w' : WalkWords} {set set' : List ℕ} → Parsed text form words → Whole words
    → LineBack form words shot k w w' set set' → TextBack text shot k w w' set set'
unfolding readable
read_back parsed wide l = record { long = l.long; walks = λ o. l.walks (readable o parsed wide); noise = λ o. l.noise (readable o parsed wide) }

-- a line that is passed over
pub passed_back : {text : List ℕ} {shot k : ℕ} {w : WalkWords} {set : List ℕ} → ((v : Written) → read_line_of text ≡ some v → PassedOver shot v) → length set ≡ 16
    → TextBack text shot k w w set set
passed_back {k = k} {w = w} {set = set} p long =
    record {
      long = long;
      walks = λ o. (p o.known.written o.known.reads).walks (walk_of w set);
      noise = λ o. (p o.known.written o.known.reads).noise k w.noise;
    }

-- over the job's own number of qubits
same_written : (h : Header) → h.qubits ≤ 256 → (shot : ℕ) (v : Written) → ((l : Line) → v ≡ Written.line l → (r : ℕ) × (r ≤ h.outcomes) × LineSound h r l)
    → (w : Walk) → written_back (full shot) v w ≡ written_back (setting_of h shot) v w
unfolding written_back
same_written h few shot (Written.header g) sound w = refl
same_written h few shot (Written.line l) sound w = let (r, within, s) = sound l refl in sym (same_backward h few r l s shot w)
same_written h few shot (Written.noise n) sound w = refl
same_written h few shot (Written.element v P) sound w = refl

-- a line in front of others, of which something was gathered
module _ (c : Setting) (k : ℕ) (text : List ℕ) where
  written_lines : (v : Written) (g : Gathered) (w : Walk)
      → walk_back c (plain_lines (gather k text (some v) g).instructions) w ≡ written_back c v (walk_back c (plain_lines g.instructions) w)
  unfolding gather plain_lines line_first walk_back written_back
  written_lines (Written.header h) g w = refl
  written_lines (Written.line l) g w = refl
  written_lines (Written.noise n) g w = refl
  written_lines (Written.element v P) g w = refl

  written_noise : (v : Written) (g : Gathered) (before : CodeOption ℕ) → line_or_none before ≡ first_noise g.instructions
      → line_or_none (noise_back k v before) ≡ first_noise (gather k text (some v) g).instructions
  unfolding gather first_noise noise_first noise_back line_or_none
  written_noise (Written.header h) g before e = e
  written_noise (Written.line l) g before e = e
  written_noise (Written.noise n) g before e = refl
  written_noise (Written.element v P) g before e = e

-- a line counts at most one
one_more : (b : Bool) (n : ℕ) → one_more_of b n ≤ suc n
one_more true n = omega arith
one_more false n = omega arith

written_counts : (c : Setting) (v : Written) (w : Walk) → (written_back c v w).count ≤ suc w.count
unfolding written_back backward
written_counts c (Written.header h) w = omega arith
written_counts c (Written.line l) w = one_more (counts c l w.carried) w.count
written_counts c (Written.noise n) w = omega arith
written_counts c (Written.element v P) w = omega arith

-- ---- the loops

module _ (job : List ℕ) (passes : (check_job job).number ≡ 0) where
  pub going_first : {shot : ℕ} {w : WalkWords} {set : List ℕ} {k : ℕ} → Started w → length set ≡ 16 → k ≡ length (lines job) → Going job shot (in_set set) w set k (length job)
  unfolding gathered plain_lines walk_back start_with first_noise line_or_none
  going_first {set = set} s long number =
      record {
        done = [];
        left = all_left job passes number;
        long = long;
        counted = omega (arith, s.count);
        walked = λ i. record { carried = record { observable = s.observable i; set = in_set set }; count = s.count i };
        noise = rw s.noise;
      }

  module _ {shot : ℕ} {S : Bits} {w : WalkWords} {set : List ℕ} {k e at : ℕ} (g : Going job shot S w set k e) (positive : 0 < e)
      (b : LineBefore job (e - 1) at) where
    abbrev text : List ℕ
    text = line_at job at (e - 1)

    abbrev setting : Setting
    setting = setting_of (job_of job).header shot

    pub going_on : (w' : WalkWords) (set' : List ℕ) → TextBack text shot k w w' set set' → Going job shot S w' set' (k - 1) at
    unfolding line_known
    going_on w' set' l =
        let q = line_known job passes g.left positive b in
        let v = (left_known job passes g.left positive b).written in
        let behind = gathered (suc k) g.done in
        let more = gathered_more job passes g.left positive b in
        record {
          done = text ∷ g.done;
          left = one_done job passes g.left positive b;
          long = l.long;
          counted = omega (arith, b.within, g.counted, ap (λ (x : Walk). x.count) (l.walks q), written_counts (full shot) v (walk_of w set));
          walked =
              l.walks q
              ∙ same_written (job_of job).header q.range.few_qubits shot v q.known.sound (walk_of w set)
              ∙ ap (written_back setting v) g.walked
              ∙ sym (written_lines setting k text v behind (start_with S))
              ∙ sym (ap (λ (x : Gathered). walk_back setting (plain_lines x.instructions) (start_with S)) more);
          noise =
              ap line_or_none (l.noise q)
              ∙ written_noise setting k text v behind w.noise g.noise
              ∙ sym (ap (λ (x : Gathered). first_noise x.instructions) more);
        }

  pub going_done : {shot : ℕ} {S : Bits} {w : WalkWords} {set : List ℕ} {k e : ℕ} → Going job shot S w set k e → e ≡ 0 → WalkedBack job shot S w
  unfolding walk start_with
  going_done {shot} {S} g z =
      let instructions = none_left job passes g.left z in
      record {
        count = ap (λ (x : Walk). x.count) g.walked ∙ ap (λ (is : List Placed). (walk_back (setting_of (job_of job).header shot) (plain_lines is) (start_with S)).count) instructions;
        noise = g.noise ∙ ap first_noise instructions;
      }

  -- ---- gate lines, with the observable alone

  pub gates_none : {b : PauliWords} {k e : ℕ} → Left job k e → GatesGone job b k e b k e
  gates_none l = record { within = omega arith; left = l; going = λ shot S c n set g. g }

  -- a gate line more
  pub gates_on : {b₀ b b' : PauliWords} {k₀ e₀ k e at : ℕ} → GatesGone job b₀ k₀ e₀ b k e → 0 < e → LineBefore job (e - 1) at
      → ((c : ℕ) (n : CodeOption ℕ) (shot : ℕ) (set : List ℕ) → length set ≡ 16
      → TextBack (line_at job at (e - 1)) shot k (record { observable = b; count = c; noise = n }) (record { observable = b'; count = c; noise = n })
      set set)
      → GatesGone job b₀ k₀ e₀ b' (k - 1) at
  gates_on {b' = b'} g positive before goes =
      record {
        within = omega (arith, g.within, before.within);
        left = record { done = _; left = one_done job passes g.left.left positive before };
        going = λ shot S c n set h.
            let on = g.going shot S c n set h in
            going_on on positive before (record { observable = b'; count = c; noise = n }) set (goes c n shot set on.long);
      }

  -- the walk with the observable that gate lines leave
  pub after_gates : {shot : ℕ} {S : Bits} {w w' : WalkWords} {b : PauliWords} {set : List ℕ} {k₀ e₀ k e : ℕ}
      → GatesGone job w.observable k₀ e₀ b k e → w' ≡ record { observable = b; count = w.count; noise = w.noise } → Going job shot S w set k₀ e₀ → Going job shot S w' set k e
  after_gates {shot} {S} {w} {set = set} g is h = rw is (g.going shot S w.count w.noise set h)
