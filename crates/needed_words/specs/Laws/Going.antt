-- From instruction to instruction, to the end of a job. Laws. Assumes nothing.
use Rattle.std.specs.Prelude.{◌≡◌, Result, Ok, Err, List, ℕ, ◌<◌, ◌≤◌, length, drop}
use Rattle.std.proofs.Math.Path.{refl, ap}
use Rattle.std.proofs.Common.{sym, ◌∙◌, arith}
use Rattle.job.specs.Job.{answer, accepted}
use Rattle.instructions.specs.Ahead.{instructions_at, Ahead}
use Rattle.instructions.specs.Laws.Steps.{none_left}
use Rattle.draws.specs.Draws.{Lent}
use Rattle.draws.specs.Left.{left_after}
use Rattle.draws.specs.Execute.{States, execute}
use Rattle.rows.specs.declared.Shape.{Shape}
use Rattle.propagator.specs.Acts.{state_of}
use Rattle.noise.specs.declared.Place.{Place}
use Rattle.execution.specs.Holds.{Holds}
use Rattle.execution.specs.Laws.Holds.{holds_some}
use Rattle.execution.specs.declared.Spent.{Spent}
use Rattle.execution.specs.Steps.{header_of, Ending, ending_of, EndsBy, EndsAs}
use Rattle.needed_words.specs.Executed.{Finished}

module _ (job : List ℕ) (shape : Shape) (lent : Lent) (main : List ℕ) where
  -- execution goes on from here, with the states that the words hold
  pub record Going (all : Ending) (x z d : List ℕ) (place : Place) : Type 0 where
    pub recorded : ℕ
    pub ahead : Ahead job (header_of job shape) recorded place.line place.byte
    pub within : place.position ≤ length main
    pub states : States
    pub holds : Holds shape.width x z d states
    pub is : ending_of (header_of job shape) lent (instructions_at job place.line place.byte) (drop place.position main) states ≡ all

  -- from whatever states the words held at first
  pub record GoingFrom (from : ℕ) (x₀ z₀ d₀ x z d : List ℕ) (place : Place) : Type 0 where
    pub by : (states : States) → Holds shape.width x₀ z₀ d₀ states → Going (ending_of (header_of job shape) lent (instructions_at job 2 from) main states) x z d place

  pub going_begun : (from recorded : ℕ) → Ahead job (header_of job shape) recorded 2 from → (x z d : List ℕ)
      → GoingFrom from x z d x z d (record { byte = from; line = 2; position = 0 })
  going_begun from recorded ahead x z d =
      record {
        by = λ states holds. record { recorded = recorded; ahead = ahead; within = omega arith; states = states; holds = holds; is = refl };
      }

  module _ {from : ℕ} {x₀ z₀ d₀ x z d : List ℕ} {place : Place} (g : GoingFrom from x₀ z₀ d₀ x z d place) where
    -- there are such states
    pub going_some : Going (ending_of (header_of job shape) lent (instructions_at job 2 from) main (state_of shape.width x₀ z₀ d₀)) x z d place
    going_some = g.by (state_of shape.width x₀ z₀ d₀) (holds_some shape.width x₀ z₀ d₀)

    -- an instruction was obeyed
    abbrev pub Obeying : List ℕ → List ℕ → List ℕ → Result Place Spent → Type 0
    Obeying x' z' d' moved =
        (recorded : ℕ) → Ahead job (header_of job shape) recorded place.line place.byte → (states : States) → Holds shape.width x z d states
        → EndsAs job shape lent main (ending_of (header_of job shape) lent (instructions_at job place.line place.byte) (drop place.position main) states)
        (length (instructions_at job place.line place.byte)) place.line x' z' d' moved

    pub going_on : (x' z' d' : List ℕ) (next : Place) → Obeying x' z' d' (Ok next) → GoingFrom from x₀ z₀ d₀ x' z' d' next
    unfolding EndsBy
    going_on x' z' d' next went =
        record {
          by = λ states₀ holds₀.
              let b = g.by states₀ holds₀ in
              let t = (went b.recorded b.ahead b.states b.holds).by in
              record {
                recorded = t.recorded;
                ahead = t.ahead;
                within = t.within;
                states = t.states;
                holds = t.holds;
                is = t.is ∙ b.is;
              };
        }

    pub going_fewer : (x' z' d' : List ℕ) (next : Place) → Obeying x' z' d' (Ok next)
        → length (instructions_at job next.line next.byte) < length (instructions_at job place.line place.byte)
    unfolding EndsBy
    going_fewer x' z' d' next went =
        let b = going_some in
        (went b.recorded b.ahead b.states b.holds).by.fewer

    pub going_stopped : (x' z' d' : List ℕ) (s : Spent) → Obeying x' z' d' (Err s) → (states₀ : States) → Holds shape.width x₀ z₀ d₀ states₀
        → Finished (execute (header_of job shape) lent (instructions_at job 2 from) main states₀) shape.width x' z' d' (answer 14 place.line)
    unfolding EndsBy
    going_stopped x' z' d' s went states₀ holds₀ =
        let b = g.by states₀ holds₀ in
        Finished.stopped place.line (sym (ap (λ (e : Ending). e.ends) b.is) ∙ (went b.recorded b.ahead b.states b.holds).by.ends) refl

    pub stopped_left : (x' z' d' : List ℕ) (s : Spent) → Obeying x' z' d' (Err s)
        → (s.position ≤ length main) × (drop s.position main ≡ left_after lent (instructions_at job 2 from) main)
    unfolding EndsBy
    stopped_left x' z' d' s went =
        let b = going_some in
        let t = (went b.recorded b.ahead b.states b.holds).by in
        (t.within, t.leaves ∙ ap (λ (e : Ending). e.left) b.is)

    pub going_end : length job ≤ place.byte → (states₀ : States) → Holds shape.width x₀ z₀ d₀ states₀
        → Finished (execute (header_of job shape) lent (instructions_at job 2 from) main states₀) shape.width x z d accepted
    unfolding execute
    going_end past states₀ holds₀ =
        let b = g.by states₀ holds₀ in
        Finished.finished b.states (sym (ap (λ (e : Ending). e.ends) b.is) ∙ rw (none_left job place.line place.byte past)) refl b.holds

    pub end_left : length job ≤ place.byte → (place.position ≤ length main) × (drop place.position main ≡ left_after lent (instructions_at job 2 from) main)
    unfolding left_after
    end_left past =
        let b = going_some in
        let all : left_after lent (instructions_at job place.line place.byte) (drop place.position main) ≡ left_after lent (instructions_at job 2 from) main =
        ap (λ (e : Ending). e.left) b.is in
        (b.within, (rw (none_left job place.line place.byte past) at all))
