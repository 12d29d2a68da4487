-- A noise instruction, made ready and injected. Laws. Assumes nothing.
use Rattle.std.specs.Prelude.{◌≡◌, Option, Some, None, Result, Ok, Err, true, false, ℕ, suc, ◌+◌, ◌^◌, ◌<◌, ◌≤◌, Float, take, drop}
use Rattle.std.proofs.Math.Path.{ap}
use Rattle.std.proofs.Common.{◌∙◌, arith}
use mathlib.Core.List.{List, [], ◌∷◌}
use Rattle.std.proofs.Math.Option.{none}
use Rattle.std.specs.Float.Ieee.{le}
use Rattle.std.proofs.Math.ListN.{length}
use Rattle.job.specs.declared.Header.{Header}
use Rattle.job.specs.Line.{Noise, Instruction, Placed}
use Rattle.job.specs.Float.{float, zero_float}
use Rattle.job.specs.Job.{noise_of, placed_at}
use Rattle.instructions.specs.declared.LineRead.{LineRead}
use Rattle.instructions.specs.Ahead.{instructions_at}
use Rattle.draws.specs.Draws.{Lent, part_of}
use Rattle.draws.specs.Left.{spent_on, left_spent}
use Rattle.draws.proofs.Laws.Left.{left_went, left_stopped}
use Rattle.draws.specs.Execute.{States, Executed, inject_shots, inject_noise, on_main, execute_one, Ended, execute_then, execute}
use Rattle.rows.specs.declared.Shape.{Shape}
use Rattle.propagator.specs.Acts.{state_of}
use Rattle.noise.specs.declared.Place.{Place}
use Rattle.std.specs.Prelude.{Option as Given}
use Rattle.noise.specs.Kinds.{correlation_of}
use Rattle.noise.specs.Words.{position_after_of}
use Rattle.noise.specs.Laws.Position.{main_after_lem, main_stays, main_spent, position_within, position_fits}
use Rattle.faults.specs.Elements.{AllInside}
use Rattle.faults.specs.declared.Prepared.{Prepared}
use Rattle.faults.specs.Prepared.{NoiseLines, noise_in, PreparedAs}
use Rattle.execution.specs.Holds.{Holds}
use Rattle.execution.specs.Injected.{LineReady, FaultsReady, executed_as, place_of, Injected, FaultsInjected}
use Rattle.execution.specs.Laws.Holds.{holds_some}
use Rattle.execution.specs.declared.Spent.{Spent}
use Rattle.execution.specs.Steps.{header_of, lent_by, Ending, ending_of, EndsBy, EndsAs, NoiseReady, NoiseRoom, NoiseDone}

-- ---- what the noise comes to

module _ (h : Header) (lent : Lent) (main : List ℕ) (n : Noise) (corr : Given ℕ) (same : correlation_of corr ≡ n.correlation) (position : ℕ) (states : States)
  where
    abbrev one : Executed
    one = execute_one h lent (drop position main) (Instruction.noise n) states

    one_quiet : le (float n.probability) zero_float ≡ true → one ≡ Executed.done states (drop position main)
    unfolding execute_one inject_noise on_main
    one_quiet e = rw (← same, e) (ap (Executed.done states) (main_stays corr lent main position))

    module _ (some_words : le (float n.probability) zero_float ≡ false) (words : List ℕ) (part : words ≡ part_of lent (correlation_of corr) (drop position main)) where
      one_drawn : one ≡ on_main (correlation_of corr) (drop position main) (inject_shots h lent n lent.shots 0 words states)
      unfolding execute_one inject_noise
      one_drawn = rw (← same, some_words, part)

      one_done : (t : States) (read : ℕ) → inject_shots h lent n lent.shots 0 words states ≡ Executed.done t (drop read words)
          → one ≡ Executed.done t (drop (position_after_of corr position read) main)
      unfolding on_main
      one_done t read e = one_drawn ∙ rw (e, part) (ap (Executed.done t) (main_after_lem corr lent main position read))

      one_spent : inject_shots h lent n lent.shots 0 words states ≡ Executed.spent → one ≡ Executed.spent
      unfolding on_main
      one_spent e = one_drawn ∙ rw e

-- ---- the instruction at the head of those that are left

module _ (h : Header) (lent : Lent) (main : List ℕ) (n : Noise) (text : List ℕ) (rest : List Placed) (k position : ℕ) (states : States) where
  abbrev whole : Ending
  whole = ending_of h lent (placed_at k text (Instruction.noise n) ∷ rest) (drop position main) states

  head_went : (t : States) (left : List ℕ) → execute_one h lent (drop position main) (Instruction.noise n) states ≡ Executed.done t left
      → ending_of h lent rest left t ≡ whole
  unfolding execute execute_then
  head_went t left e =
      let same = left_went h lent (placed_at k text (Instruction.noise n)) rest (drop position main) states t left e in
      let went : execute h lent rest left t ≡ whole.ends = rw e in
      λ i. record { ends = went i; left = same i }

  head_spent : execute_one h lent (drop position main) (Instruction.noise n) states ≡ Executed.spent
      → (whole.ends ≡ Ended.spent_at k) × (spent_on n.correlation (drop position main) ≡ whole.left)
  unfolding execute execute_then left_spent
  head_spent e = (rw e, left_stopped h lent (placed_at k text (Instruction.noise n)) rest (drop position main) states e)

module _ {job : List ℕ} (place : Place) (next : LineRead) {values noiseless : List ℕ} (shape : Shape)
    (q : NoiseLines job (next.end + 1) next.form values noiseless shape.width) (same : q.header ≡ header_of job shape) (lent : Lent) (main : List ℕ)
    (line : q.line ≡ place.line + 1) (text deltas : List ℕ) (states : States)
  where
    abbrev comes : Ending
    comes = ending_of (header_of job shape) lent (placed_at place.line text (Instruction.noise (noise_in q)) ∷ q.rest) (drop place.position main) states

    noise_went : {elements : List ℕ} {sums : List Float} {mask : List ℕ} {r : Prepared} → PreparedAs q elements sums mask r
        → (x z : List ℕ) (position : ℕ) (t : States) → position ≤ length main → Holds shape.width x z deltas t
        → execute_one (header_of job shape) lent (drop place.position main) (Instruction.noise (noise_in q)) states ≡ Executed.done t (drop position main)
        → EndsAs job shape lent main comes (suc (length q.rest)) place.line x z deltas
        (Ok (record { byte = r.behind; line = place.line + 1 + r.element_lines; position = position }))
    unfolding EndsBy
    noise_went {r = r} ready x z position t within holds e =
        let rest : instructions_at job (place.line + 1 + r.element_lines) r.behind ≡ q.rest = rw line at ready.instructions in
        record {
          by = record {
            recorded = q.recorded;
            ahead = rw (same, line) at ready.ahead;
            fewer = rw rest (omega arith);
            within = within;
            states = t;
            holds = holds;
            is = rw rest (head_went (header_of job shape) lent main (noise_in q) text q.rest place.line place.position states t (drop position main) e);
          };
        }

    noise_spent : (x z : List ℕ) (position : ℕ) → position ≤ length main → drop position main ≡ spent_on (noise_in q).correlation (drop place.position main)
        → execute_one (header_of job shape) lent (drop place.position main) (Instruction.noise (noise_in q)) states ≡ Executed.spent
        → EndsAs job shape lent main comes (suc (length q.rest)) place.line x z deltas (Err (record { position = position }))
    unfolding EndsBy
    noise_spent x z position within left e =
        let s = head_spent (header_of job shape) lent main (noise_in q) text q.rest place.line place.position states e in
        record { by = record { ends = s.0; within = within; leaves = left ∙ s.1 } }

-- ---- what the code does

module _ {job : List ℕ} (next : LineRead) {values noiseless : List ℕ} (shape : Shape) {elements : List ℕ} {sums : List Float} {mask : List ℕ} {r : Prepared}
    (prepared : (q : NoiseLines job (next.end + 1) next.form values noiseless shape.width) → PreparedAs q elements sums mask r)
  where
    line_ready : (second : List ℕ) (base : ℕ) (q : NoiseLines job (next.end + 1) next.form values noiseless shape.width) → q.header ≡ header_of job shape
        → LineReady (noise_in q) (lent_by shape noiseless second base) shape.width shape.qubits r.fault.probability r.fault.distribution
        (take r.element_lines sums) elements mask
    unfolding noise_of
    line_ready second base q same =
        let p = prepared q in
        record {
          stands = p.stands;
          small = p.small;
          held = p.held;
          sound = rw same at q.sound.distribution;
          masks = p.satisfied;
        }

    module _ {place : Place} (ready : NoiseReady job place next values noiseless shape) where
      pub few_lines : r.element_lines ≤ 64
      few_lines = rw (prepared ready.lines).lines ready.lines.few

      -- the number of the line behind it is small
      pub line_small : place.line + 1 + r.element_lines ≤ length job + 1
      line_small =
          let ahead = (prepared ready.lines).ahead in
          let number = ahead.number in
          let within = ahead.within in
          omega (arith, ready.number)

      pub faults_ready : {e : List ℕ} {s weights : List Float} {m x z : List ℕ} → NoiseRoom shape values e s weights m x z → AllInside elements
          → shape.width ≤ length mask
          → FaultsReady shape.qubits shape.shots shape.width r.fault.probability r.fault.distribution (take r.element_lines sums) elements mask x z
      faults_ready room long wide =
          record {
            noise = noise_in ready.lines;
            lent = lent_by shape noiseless [] 0;
            line = line_ready [] 0 ready.lines ready.header;
            room = long;
            in_words = room.in_words;
            in_mask = wide;
            of_x = room.of_x;
            of_z = room.of_z;
          }

module _ {job : List ℕ} (place : Place) (next : LineRead) {values noiseless : List ℕ} (shape : Shape) (main second : List ℕ) (base : ℕ)
    {elements : List ℕ} {sums : List Float} {mask : List ℕ} {r : Prepared}
    (prepared : (q : NoiseLines job (next.end + 1) next.form values noiseless shape.width) → PreparedAs q elements sums mask r)
    (within : place.position ≤ length main)
  where
    abbrev lent : Lent
    lent = lent_by shape noiseless second base

    -- what is left after the noise line
    abbrev Done : List ℕ → List ℕ → List ℕ → List ℕ → Result Place Spent → Type 0
    Done x z x' z' moved = NoiseDone job place next values shape noiseless main second base x z x' z' moved

    -- the place behind it, with this position
    abbrev behind : ℕ → Place
    behind position = record { byte = r.behind; line = place.line + 1 + r.element_lines; position = position }

    pub noise_quiet : (x z : List ℕ) → le r.fault.probability zero_float ≡ true → Done x z x z (Ok (behind place.position))
    noise_quiet x z quiet =
        record {
          by = λ q same line text deltas states holds.
              let p = prepared q in
              noise_went place next shape q same lent main line text deltas states p x z place.position states within holds
              (one_quiet (header_of job shape) lent main (noise_in q) r.fault.correlation p.correlation place.position states (rw p.stands.probability at quiet));
        }

    module _ (words : List ℕ) (part : words ≡ part_of lent (correlation_of r.fault.correlation) (drop place.position main))
        (some_words : le r.fault.probability zero_float ≡ false) (x z x' z' : List ℕ) {d : Option ℕ}
        (injected : FaultsInjected shape.qubits shape.shots shape.width r.fault.probability r.fault.distribution (take r.element_lines sums) elements mask words x z x' z' d)
      where
        left : (q : NoiseLines job (next.end + 1) next.form values noiseless shape.width) → q.header ≡ header_of job shape → (deltas : List ℕ) (states : States)
            → Holds shape.width x z deltas states
            → Injected (inject_shots (header_of job shape) lent (noise_in q) shape.shots 0 words states) words shape.width x' z' deltas d
        left q same deltas states holds = injected.by _ shape.outcomes (noise_in q) lent (line_ready next shape prepared second base q same) deltas states holds

        read_within : NoiseReady job place next values noiseless shape → (read : ℕ) → d ≡ Some read → read ≤ length words
        unfolding place_of
        read_within ready read e = rw e at (left ready.lines ready.header [] (state_of shape.width x z []) (holds_some shape.width x z [])).within

        pub read_fits : NoiseReady job place next values noiseless shape → length main < 2 ^ 64 → (read : ℕ) → d ≡ Some read
            → correlation_of r.fault.correlation ≡ none → place.position + read < 2 ^ 64
        read_fits ready small read e = position_fits r.fault.correlation lent main place.position read within small (rw part at (read_within ready read e))

        pub noise_drawn : (read position : ℕ) → d ≡ Some read → position ≡ position_after_of r.fault.correlation place.position read
            → Done x z x' z' (Ok (behind position))
        unfolding place_of executed_as
        noise_drawn read position e after =
            record {
              by = λ q same line text deltas states holds.
                  let p = prepared q in
                  let i = rw e at (left q same deltas states holds) in
                  let fits : read ≤ length (part_of lent (correlation_of r.fault.correlation) (drop place.position main)) = rw (← part) i.within in
                  noise_went place next shape q same lent main line text deltas states p x' z' position i.states
                  (rw after (position_within r.fault.correlation lent main place.position read within fits))
                  i.holds
                  (rw after (one_done (header_of job shape) lent main (noise_in q) r.fault.correlation p.correlation place.position states (rw p.stands.probability at some_words) words part i.states read
                  i.is));
            }

        -- all words of the part are used up
        pub all_fits : length main < 2 ^ 64 → (read : ℕ) → read ≡ length words → correlation_of r.fault.correlation ≡ none → place.position + read < 2 ^ 64
        all_fits small read e = position_fits r.fault.correlation lent main place.position read within small (rw (← part) (omega (arith, e)))

        pub noise_none : (read position : ℕ) → d ≡ None → read ≡ length words → position ≡ position_after_of r.fault.correlation place.position read
            → Done x z x' z' (Err (record { position = position }))
        unfolding executed_as
        noise_none read position e all after =
            record {
              by = λ q same line text deltas states holds.
                  let p = prepared q in
                  let i = rw e at (left q same deltas states holds) in
                  let long : read ≡ length (part_of lent (correlation_of r.fault.correlation) (drop place.position main)) = all ∙ ap length part in
                  noise_spent place next shape q same lent main line text deltas states x' z' position
                  (rw after (position_within r.fault.correlation lent main place.position read within (omega (arith, long))))
                  (rw (after, ← p.correlation) (main_spent r.fault.correlation lent main place.position read long))
                  (one_spent (header_of job shape) lent main (noise_in q) r.fault.correlation p.correlation place.position states (rw p.stands.probability at some_words) words part
                  i.is);
            }
