-- Laws: the bits of a shot that the run of a job without noise leaves are those of its lines. Assumes nothing.
use Rattle.std.specs.Prelude.{◌≡◌, refl, ℕ, ◌<◌}
use Rattle.std.proofs.Common.{sym, ◌∙◌}
use Rattle.std.proofs.Math.Path.{ap, ap₂, subst}
use mathlib.Core.List.{List, [], ◌∷◌}
use Rattle.pauli.specs.Bits.{◌⊕◌, ◌△◌}
use Rattle.pauli.specs.Pauli.{◌∗◌}
use Rattle.job.specs.declared.Header.{Header}
use Rattle.job.specs.Line.{Line, Instruction, Placed}
use Rattle.job.specs.Job.{job_of}
use Rattle.frames.specs.Forward.{State, setting_of, run, start}
use Rattle.frames.specs.Shots.{combined}
use Rattle.draws.specs.Settle.{settled_list}
use Rattle.draws.specs.Execute.{States, starts, Ended}
use Rattle.draws.specs.Known.{run_all, on_settled, copy_of, copies}
use Rattle.draws.proofs.Laws.Settling.{execute_settle, ended_same}
use Rattle.draws.proofs.Laws.Within.{settle_copies}
use Rattle.run.specs.Run.{Memory, RunReply, lent_of, finished_reply}
use Rattle.rows.specs.Words.{words_per_row, bit_in}
use Rattle.backward.specs.Walking.{line_first, plain_lines}
use Rattle.backward.specs.Calls.{shot_bits, SameBits, RanQuiet}
use Rattle.backward.proofs.Laws.Replies.{RunsTo, run_ends}
use Rattle.backward.proofs.Laws.CallsAgree.{over_bit}

-- ---- the lines of a job without noise

copied_lines : (is : List Placed) → settled_list (copies is) ≡ plain_lines is
unfolding copies plain_lines
copied_lines [] = refl
copied_lines (i ∷ is) = go i.instruction (copied_lines is)
  where
    go : (j : Instruction) → settled_list (copies is) ≡ plain_lines is → settled_list (copy_of i.text j (copies is)) ≡ line_first j (plain_lines is)
    go (Instruction.line l) e = unfold copy_of line_first in ap (λ (ls : List Line). l ∷ ls) e
    go (Instruction.noise n) e = unfold copy_of line_first in e

-- ---- their run

module _ (job : List ℕ) (m : Memory) (h : Header) (ls : List Line) (r : RanQuiet job m h ls) where
  ran : RunsTo job m
  ran = run_ends job m r.answered

  lines_states : ran.states ≡ run_all (job_of job).header (plain_lines (job_of job).instructions) starts
  unfolding on_settled
  lines_states =
      ended_same _ _
      (sym ran.ends
      ∙ execute_settle (job_of job).header (lent_of (job_of job).header m.source) (job_of job).instructions m.source.main starts
      ∙ ap (on_settled (job_of job).header starts) (settle_copies (lent_of (job_of job).header m.source) m.source.main (job_of job).instructions r.quiet)
      ∙ ap (λ (ks : List Line). Ended.ended (run_all (job_of job).header ks starts)) (copied_lines (job_of job).instructions))

  finished_bits : (shot : ℕ) → shot < (job_of job).header.shots → SameBits (job_of job).header (shot_bits job m shot) (ran.states shot)
  unfolding finished_reply
  finished_bits shot b =
      let g = (job_of job).header in
      let w = words_per_row g.shots in
      record {
        x = λ q a. ap (λ (o : RunReply). bit_in w o.x q shot) ran.reply ∙ over_bit g.qubits g.shots (λ i s. (ran.states s).frame.x i) m.x q shot a b;
        z = λ q a. ap (λ (o : RunReply). bit_in w o.z q shot) ran.reply ∙ over_bit g.qubits g.shots (λ i s. (ran.states s).frame.z i) m.z q shot a b;
        deltas = λ id a. ap (λ (o : RunReply). bit_in w o.deltas id shot) ran.reply ∙ over_bit g.outcomes g.shots (λ i s. (ran.states s).deltas i) m.deltas id shot a b;
      }

  pub line_bits : (shot : ℕ) → shot < h.shots → SameBits h (shot_bits job m shot) (run (setting_of h shot) ls start)
  unfolding run_all
  line_bits shot b =
      subst (λ (ks : List Line). SameBits h (shot_bits job m shot) (run (setting_of h shot) ks start)) r.lines
      (subst (λ (g : Header). SameBits g (shot_bits job m shot) (run (setting_of g shot) (plain_lines (job_of job).instructions) start)) r.header
      (subst (SameBits (job_of job).header (shot_bits job m shot)) (ap (λ (t : States). t shot) lines_states)
      (finished_bits shot (rw r.header b))))

-- ---- states with the same bits

module _ (h : Header) where
  pub same_then : {s t u : State} → SameBits h s t → SameBits h t u → SameBits h s u
  same_then a b = record { x = λ q g. a.x q g ∙ b.x q g; z = λ q g. a.z q g ∙ b.z q g; deltas = λ id g. a.deltas id g ∙ b.deltas id g }

  pub same_back : {s t : State} → SameBits h s t → SameBits h t s
  same_back a = record { x = λ q g. sym (a.x q g); z = λ q g. sym (a.z q g); deltas = λ id g. sym (a.deltas id g) }

  pub same_states : {s t : State} → s ≡ t → SameBits h s t
  same_states {s} e = subst (SameBits h s) e record { x = λ q g. refl; z = λ q g. refl; deltas = λ id g. refl }

  pub same_combined : {s s' t t' : State} → SameBits h s s' → SameBits h t t' → SameBits h (combined s t) (combined s' t')
  unfolding combined ◌∗◌ ◌△◌
  same_combined a b =
      record {
        x = λ q g. ap₂ ◌⊕◌ (a.x q g) (b.x q g);
        z = λ q g. ap₂ ◌⊕◌ (a.z q g) (b.z q g);
        deltas = λ id g. ap₂ ◌⊕◌ (a.deltas id g) (b.deltas id g);
      }
