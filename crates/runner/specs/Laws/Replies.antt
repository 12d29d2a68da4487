-- The reply of a run, and the words beyond those that it needs. Laws. Assumes nothing.
use Rattle.std.specs.Prelude.{◌≡◌, refl, true, false, List, ◌++◌, ℕ, length, drop}
use Rattle.std.proofs.lemmas.List.{length-replicate}
use Rattle.std.proofs.Common.{eq-eqb, ne_eqb}
use Rattle.job.specs.declared.Header.{Header}
use Rattle.job.specs.Job.{answer, job_of, check_job}
use Rattle.draws.specs.Execute.{starts, Ended, execute}
use Rattle.rows.proofs.Laws.Pack.{length_tabulated, length_pack}
use Rattle.run.specs.Run.{Memory, frame_words_of, outcome_words_of, enough_words, lent_of, untouched, spent_reply, flip_totals, finished_reply, ended_reply, run_reply}
use Rattle.needed_words.specs.Needed.{needed_reply}
use Rattle.job_shape.specs.declared.lent_words.Lengths.{Lengths}
use Rattle.job_shape.specs.Enough.{suffice, enough_lent}

-- ---- needed words in front of the others

-- a part of a lent list was written
pub needed_over : (h : Header) (m : Memory) (o : Ended) → ended_reply h m o
    ≡ record {
      answered = (needed_reply h o).answered;
      x = (needed_reply h o).x ++ drop (frame_words_of h) m.x;
      z = (needed_reply h o).z ++ drop (frame_words_of h) m.z;
      deltas = (needed_reply h o).deltas ++ drop (outcome_words_of h) m.deltas;
      totals = (needed_reply h o).totals ++ drop h.outcomes m.totals;
    }
unfolding ended_reply needed_reply spent_reply flip_totals finished_reply
needed_over h m (Ended.spent_at k) = rw (length-replicate, length-replicate, length-replicate)
needed_over h m (Ended.ended states) = rw (length_pack, length_pack, length_pack, length_tabulated)

-- ---- the reply

module _ (job : List ℕ) (m : Memory) where
  pub run_refused : ((check_job job).number ≡ 0 → ⊥) → run_reply job m ≡ untouched (check_job job) m
  unfolding run_reply
  run_refused ne = rw (ne_eqb (check_job job).number 0 ne)

  module _ (passed : (check_job job).number ≡ 0) where
    pub run_short : enough_words (job_of job).header m ≡ false → run_reply job m ≡ untouched (answer 13 0) m
    unfolding run_reply
    run_short e = rw (eq-eqb (check_job job).number 0 passed, e)

    pub run_enough : enough_words (job_of job).header m ≡ true → run_reply job m
        ≡ ended_reply (job_of job).header m
        (execute (job_of job).header (lent_of (job_of job).header m.source) (job_of job).instructions m.source.main starts)
    unfolding run_reply
    run_enough e = rw (eq-eqb (check_job job).number 0 passed, e)

-- ---- 13

-- the lengths of what a run is lent
abbrev pub lengths_of : Memory → Lengths
lengths_of m =
    record { x = length m.x; z = length m.z; deltas = length m.deltas; totals = length m.totals; noiseless = length m.source.noiseless }

-- the test by words is the definition's
pub same_test : (h : Header) (m : Memory) → enough_lent h (lengths_of m) ≡ enough_words h m
unfolding suffice enough_words
same_test h m = refl
