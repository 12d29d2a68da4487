-- A run over exactly the words that it needs. Laws. Assumes nothing.
use Rattle.std.specs.Prelude.{◌≡◌, refl, List, ℕ, ◌≤◌, length, replicate, drop}
use Rattle.std.proofs.Common.{◌∙◌, arith}
use Rattle.instructions.specs.Ahead.{instructions_at}
use Rattle.draws.specs.Left.{left_after}
use Rattle.draws.specs.Execute.{States, starts, Ended, execute}
use Rattle.frames.specs.Forward.{start}
use Rattle.rows.specs.declared.Shape.{Shape}
use Rattle.rows.specs.Overwrite.{cleared}
use Rattle.rows.proofs.Laws.Pack.{cleared_all}
use Rattle.totals.specs.Held.{TotalsHeld}
use Rattle.totals.specs.Laws.Held.{held_zeros}
use Rattle.execution.specs.Holds.{Holds}
use Rattle.execution.specs.Laws.Holds.{holds_starts}
use Rattle.needed_words.specs.declared.Answered.{Answered}
use Rattle.execution.specs.Steps.{header_of, lent_by, RowsFor}
use Rattle.needed_words.specs.Executed.{Finished}
use Rattle.run.specs.Run.{Source, lent_of}
use Rattle.needed_words.specs.Needed.{NeededReady, NeededRun}
use Rattle.needed_words.specs.Laws.Padding.{past_shots}
use Rattle.needed_words.specs.Laws.Replies.{Words, needed_finished, needed_stopped}

-- words that were cleared are zero
zeros : (l l' : List ℕ) → l' ≡ cleared 0 (length l) l → l' ≡ replicate (length l) 0
zeros l l' e = e ∙ cleared_all l

module _ {job : List ℕ} {shape : Shape} {from : ℕ} {x z d totals noiseless : List ℕ} (ready : NeededReady job shape from x z d totals noiseless) where
  pub rows_for : {x' z' d' : List ℕ} → length x' ≡ length x → length z' ≡ length z → length d' ≡ length d → RowsFor shape x' z' d' noiseless
  rows_for ex ez ed =
      let words = ready.words in
      let shots = ready.ahead.header.few_shots in
      record {
        narrow = omega arith;
        in_words = omega arith;
        of_x = ex ∙ rw words ready.of_x;
        of_z = ez ∙ rw words ready.of_z;
        of_deltas = ed ∙ rw words ready.of_deltas;
        of_noiseless = rw words ready.of_noiseless;
      }

  -- cleared words hold the states that a run begins with
  pub holds_cleared : {x' z' d' : List ℕ} → x' ≡ cleared 0 (length x) x → z' ≡ cleared 0 (length z) z → d' ≡ cleared 0 (length d) d → Holds shape.width x' z' d' starts
  holds_cleared {x'} {z'} {d'} ex ez ed =
      rw (zeros x x' ex, zeros z z' ez, zeros d d' ed) (holds_starts shape.width (length x) (length z) (length d))

  -- and the totals of no deltas
  pub totals_cleared : {d' totals' : List ℕ} → d' ≡ cleared 0 (length d) d → totals' ≡ cleared 0 (length totals) totals → TotalsHeld shape.width shape.outcomes d' totals'
  totals_cleared {d'} {totals'} ed et =
      let words = ready.words in
      let shots = ready.ahead.header.few_shots in
      rw (zeros d d' ed, zeros totals totals' et, ready.of_totals) (held_zeros shape.width shape.outcomes (length d) (omega arith))

  module _ (source : Source) (same : source.noiseless ≡ noiseless) {x' z' d' totals' : List ℕ} {r : Answered}
      (finished : Finished (execute (header_of job shape) (lent_by shape noiseless source.second source.base) (instructions_at job 2 from) source.main starts) shape.width x' z' d' r.answer)
      (within : r.taken ≤ length source.main)
      (leaves : drop r.taken source.main ≡ left_after (lent_by shape noiseless source.second source.base) (instructions_at job 2 from) source.main)
      (held : TotalsHeld shape.width shape.outcomes d' totals') (lx : length x' ≡ length x) (lz : length z' ≡ length z) (ld : length d' ≡ length d)
    where
      abbrev all : Ended
      all = execute (header_of job shape) (lent_of (header_of job shape) source) (instructions_at job 2 from) source.main starts

      in_source : Finished all shape.width x' z' d' r.answer
      in_source = rw (← ready.words, same) finished

      left_in_source : drop r.taken source.main ≡ left_after (lent_of (header_of job shape) source) (instructions_at job 2 from) source.main
      left_in_source = rw (← ready.words, same) leaves

      past : (states : States) → all ≡ Ended.ended states → (s : ℕ) → shape.shots ≤ s → states s ≡ start
      past states e s k = past_shots (header_of job shape) (lent_of (header_of job shape) source) (instructions_at job 2 from) source.main states refl ready.sound e s k

      pub run_finished : Words x' → Words z' → Words d' → r.answer.number ≡ 0 → NeededRun job (header_of job shape) source from x' z' d' totals' r
      run_finished fx fz fd zero =
          record {
            is = needed_finished (header_of job shape) ready.words ready.ahead.header.some_shots past (lx ∙ ready.of_x) (lz ∙ ready.of_z) (ld ∙ ready.of_deltas) fx fz fd held in_source zero;
            within = within;
            leaves = left_in_source;
          }

      pub run_stopped : {x'' z'' d'' totals'' : List ℕ} → x'' ≡ cleared 0 (length x') x' → z'' ≡ cleared 0 (length z') z' → d'' ≡ cleared 0 (length d') d'
          → totals'' ≡ cleared 0 (length totals') totals' → (r.answer.number ≡ 0 → ⊥) → NeededRun job (header_of job shape) source from x'' z'' d'' totals'' r
      run_stopped {x''} {z''} {d''} {totals''} ex ez ed et some =
          record {
            is =
                needed_stopped (header_of job shape)
                (zeros x' x'' ex ∙ rw (lx, ready.of_x))
                (zeros z' z'' ez ∙ rw (lz, ready.of_z))
                (zeros d' d'' ed ∙ rw (ld, ready.of_deltas))
                (zeros totals' totals'' et ∙ rw held.long)
                in_source some;
            within = within;
            leaves = left_in_source;
          }
