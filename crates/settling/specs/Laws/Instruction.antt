-- The text of one instruction, and the place behind it. Laws. Assumes nothing.
use Rattle.std.proofs.Math.Path.{◌≡◌, sym, ap, subst}
use Rattle.std.specs.Prelude.{refl, Result, Ok, Err, true, false, ℕ, ◌+◌, ◌-◌, ◌*◌, ◌≤◌, Float, take}
use Rattle.std.proofs.Common.{◌∙◌, arith}
use mathlib.Core.List.{List, [], ◌∷◌}
use Rattle.std.proofs.Math.ListN.{length, drop, length-take}
use Rattle.job.specs.Line.{Instruction, Placed}
use Rattle.job.proofs.Laws.Begun.{ended_parts}
use Rattle.instructions.specs.declared.LineRead.{LineRead}
use Rattle.instructions.specs.Reading.{line_at, NextLine, noise_form}
use Rattle.instructions.specs.Ahead.{instructions_at, NoiseRead}
use Rattle.instructions.specs.Laws.Places.{whole_line}
use Rattle.instructions.specs.Laws.Steps.{plain_read, noise_read}
use Rattle.writer.specs.Placed.{Puts}
use Rattle.draws.specs.Left.{left_spent, left_then, left_after}
use Rattle.draws.specs.Settle.{SettledLine, Step, step_of, Settled, prefixed, settle_then, settle}
use Rattle.faults.specs.Elements.{AllInside}
use Rattle.faults.specs.declared.Prepared.{Prepared}
use Rattle.faults.specs.Prepared.{NoiseLines, noise_in, PreparedAs}
use Rattle.noise_text.specs.declared.Drawn.{Drawn}
use Rattle.noise_text.specs.declared.Spent.{Spent}
use Rattle.settling.specs.declared.instruction_text.Reached.{Reached}
use Rattle.noise_text.specs.Injections.{text_of, PutAs, StepPut, ReadyOf}
use Rattle.settling.specs.Pass.{Pass, lent_by, settled_from, left_from, Between, Onward, SpentHere, MovedTo, InstructionPut}
use Rattle.noise_text.specs.Laws.Elements.{element_of}
use Rattle.noise_text.specs.Laws.Injections.{text_one}

-- the lines that an instruction comes to, and then those of the others; and what they leave
record LinesPut (words : List ℕ) (from shots : ℕ) (out after : List ℕ) (all : Settled) (later : List ℕ → Settled) (left : List ℕ) (onward : List ℕ → List ℕ)
    (i j : ℕ) : Type 0 where
  lines : List SettledLine
  leaves : left ≡ onward (drop i words)
  settles : all ≡ prefixed lines (later (drop i words))
  puts : Puts from (text_of lines) out after j
  few : j ≤ from + 1342 * shots
  within : i ≤ length words

module _ {words : List ℕ} {from shots : ℕ} {out after : List ℕ} {step : Step} {r : Result Drawn Spent} (k : ℕ) (later : List ℕ → Settled) (i : Instruction) (main : List ℕ)
    (onward : List ℕ → List ℕ) (t : StepPut words from shots out (left_spent i main) step after r)
  where
    spent_step : (s : Spent) → r ≡ Err s
        → (settle_then k step later ≡ Settled.spent_at k) × (s.position ≤ length words) × (drop s.position words ≡ left_then i main step onward)
    unfolding PutAs settle_then left_then
    spent_step s e = go step t.put
      where
        go : (st : Step) → PutAs words from shots out (left_spent i main) st after r
            → (settle_then k st later ≡ Settled.spent_at k) × (s.position ≤ length words) × (drop s.position words ≡ left_then i main st onward)
        go Step.spent u =
            let same : u.next ≡ s.position = cc (u.is, e) in
            (refl, rw same at u.within, ap (λ (m : ℕ). drop m words) (sym same) ∙ sym u.rest)
        go (Step.lines ls left) u = let z : ◌≡◌ {A = ℕ} 0 1 = cc (u.is, e) in absurd (omega arith)

    done_step : (d : Drawn) → r ≡ Ok d → LinesPut words from shots out after (settle_then k step later) later (left_then i main step onward) onward d.position d.text
    unfolding PutAs settle_then left_then
    done_step d e = go step t.put
      where
        go : (st : Step) → PutAs words from shots out (left_spent i main) st after r
            → LinesPut words from shots out after (settle_then k st later) later (left_then i main st onward) onward d.position d.text
        go Step.spent u = let z : ◌≡◌ {A = ℕ} 0 1 = cc (u.is, e) in absurd (omega arith)
        go (Step.lines ls left) u =
            let next : u.next ≡ d.position = cc (u.is, e) in
            let place : u.place ≡ d.text = cc (u.is, e) in
            record {
              lines = ls;
              leaves = ap onward (u.rest ∙ ap (λ (m : ℕ). drop m words) next);
              settles = ap (λ (ws : List ℕ). prefixed ls (later ws)) (u.rest ∙ ap (λ (m : ℕ). drop m words) next);
              puts = rw place at u.puts;
              few = rw place at u.few;
              within = rw next at u.within;
            }

module _ {p : Pass} {here : Reached} (b : Between p here) where
  pub few_shots : p.shape.shots ≤ 4096
  few_shots = omega (arith, b.shots_are, b.ahead.header.few_shots)

  pub few_lines : here.place.line ≤ 1048577
  few_lines = omega (arith, b.ahead.number, b.ahead.within, ended_parts p.job b.ahead.ended)

  -- a line that is no noise is copied
  module _ {line : LineRead} {values : List ℕ} (n : NextLine p.job here.place.byte line values) (quiet : noise_form line.form ≡ false) where
    pub plain_put : {out after : List ℕ} {byte : ℕ} → Puts here.text (take (line.end + 1 - here.place.byte) (drop here.place.byte p.job)) out after byte
        → InstructionPut p out here after (Ok (record { place = record { byte = line.end + 1; line = here.place.line + 1; position = here.place.position }; text = byte }))
    unfolding MovedTo settle settle_then step_of left_after left_then
    plain_put {out} {after} {byte} puts =
        let r = plain_read b.ahead n quiet in
        let text = line_at p.job here.place.byte line.end in
        let copy : SettledLine = record { line = r.line; text = text } in
        record {
          put =
              record {
                lines = copy ∷ [];
                settles = ap (λ (is : List Placed). settle (lent_by p) is (drop here.place.position p.main)) r.instructions;
                leaves = ap (λ (is : List Placed). left_after (lent_by p) is (drop here.place.position p.main)) r.instructions;
                puts = subst (λ (t : List ℕ). Puts here.text t out after byte) (whole_line n.place ∙ sym (text_one copy)) puts;
                onward = omega arith;
                few = omega (arith, puts.place, n.place.inside, ended_parts p.job b.ahead.ended, length-take (line.end + 1 - here.place.byte) (drop here.place.byte p.job));
                between =
                    record {
                      header = b.header;
                      recorded = _;
                      ahead = r.ahead;
                      shots_are = b.shots_are;
                      words_are = b.words_are;
                      rows = b.rows;
                      position = b.position;
                    };
              };
        }

  -- noise is made ready for its draws
  module _ {line : LineRead} {values : List ℕ} (n : NextLine p.job here.place.byte line values) (noisy : noise_form line.form ≡ true) where
    pub noise_is : NoiseRead p.job b.header b.recorded here.place.line here.place.byte line values
    noise_is = noise_read b.ahead n noisy

    abbrev pub noise_here : NoiseLines p.job (line.end + 1) line.form values p.noiseless p.shape.width
    noise_here =
        record {
          header = b.header;
          recorded = b.recorded;
          noise = noise_is.noise;
          values = noise_is.values;
          said = noise_is.said;
          elements = noise_is.elements;
          count = noise_is.count;
          few = noise_is.few;
          sound = noise_is.sound;
          rest = instructions_at p.job (here.place.line + 1) (line.end + 1);
          line = here.place.line + 1;
          among = noise_is.among;
          rows = b.rows;
        }

    module _ {elements : List ℕ} {sums : List Float} {mask : List ℕ} {r : Prepared} (ready : PreparedAs noise_here elements sums mask r) (room : AllInside elements)
        (masked : 64 ≤ length mask)
      where
        abbrev pub ready_here : ReadyOf r.fault.probability r.fault.distribution (take r.element_lines sums) mask elements p.shape.shots r.fault.correlation p.second p.base
        ready_here =
            let D = (noise_in noise_here).distribution in
            let sound = noise_is.sound.distribution in
            record {
              ready =
                  record {
                    noise = noise_in noise_here;
                    lent = lent_by p;
                    width = p.shape.width;
                    qubits = b.header.qubits;
                    stands = ready.stands;
                    small = ready.small;
                    sound = sound;
                    satisfied = ready.satisfied;
                    fits = omega (arith, b.words_are);
                    masked = omega (arith, few_shots);
                    inside = λ e h. (element_of b.header.qubits D sound elements ready.held room e h r.fault.distribution ready.stands.chooses).inside;
                    held = λ e h. (element_of b.header.qubits D sound elements ready.held room e h r.fault.distribution ready.stands.chooses).is;
                  };
              correlated = ready.correlation;
              second_is = refl;
              base_is = refl;
              shots_are = refl;
            }

        -- what its draws come to
        module _ {out after : List ℕ} {o : Result Drawn Spent}
            (put : StepPut p.main here.text p.shape.shots out (left_spent (Instruction.noise (noise_in noise_here)) (drop here.place.position p.main))
            (step_of (lent_by p) (drop here.place.position p.main) (line_at p.job here.place.byte line.end) (Instruction.noise (noise_in noise_here))) after o)
          where
            abbrev step : Step
            step = step_of (lent_by p) (drop here.place.position p.main) (line_at p.job here.place.byte line.end) (Instruction.noise (noise_in noise_here))

            abbrev later : List ℕ → Settled
            later = settle (lent_by p) (instructions_at p.job (here.place.line + 1) (line.end + 1))

            abbrev onward : List ℕ → List ℕ
            onward = left_after (lent_by p) (instructions_at p.job (here.place.line + 1) (line.end + 1))

            then_left : left_from p here ≡ left_then (Instruction.noise (noise_in noise_here)) (drop here.place.position p.main) step onward
            unfolding left_after
            then_left = ap (λ (is : List Placed). left_after (lent_by p) is (drop here.place.position p.main)) noise_is.instructions

            then_settled : settled_from p here ≡ settle_then here.place.line step later
            unfolding settle
            then_settled = ap (λ (is : List Placed). settle (lent_by p) is (drop here.place.position p.main)) noise_is.instructions

            pub noise_spent : (s : Spent) → o ≡ Err s → InstructionPut p out here after (Err s)
            unfolding MovedTo
            noise_spent s e =
                let t = spent_step here.place.line later (Instruction.noise (noise_in noise_here)) (drop here.place.position p.main) onward put s e in
                record { put = record { settles = then_settled ∙ t.0; within = t.1; leaves = t.2 ∙ sym then_left } }

            pub noise_done : (d : Drawn) → o ≡ Ok d
                → InstructionPut p out here after (Ok (record { place = record { byte = r.behind; line = here.place.line + 1 + r.element_lines; position = d.position }; text = d.text }))
            unfolding MovedTo
            noise_done d e =
                let t = done_step here.place.line later (Instruction.noise (noise_in noise_here)) (drop here.place.position p.main) onward put d e in
                record {
                  put =
                      record {
                        lines = t.lines;
                        settles =
                            then_settled ∙ t.settles
                            ∙ ap (λ (is : List Placed). prefixed t.lines (settle (lent_by p) is (drop d.position p.main))) (sym ready.instructions);
                        leaves = then_left ∙ t.leaves ∙ ap (λ (is : List Placed). left_after (lent_by p) is (drop d.position p.main)) (sym ready.instructions);
                        puts = t.puts;
                        onward = omega arith;
                        few = omega (arith, t.few, few_shots);
                        between =
                            record {
                              header = b.header;
                              recorded = b.recorded;
                              ahead = ready.ahead;
                              shots_are = b.shots_are;
                              words_are = b.words_are;
                              rows = b.rows;
                              position = t.within;
                            };
                      };
                }

module _ {p : Pass} {out : List ℕ} {here : Reached} {after : List ℕ} {r : Result Reached Spent} (t : InstructionPut p out here after r) where
  pub moved_spent : {s : Spent} → r ≡ Err s → SpentHere p here s.position
  unfolding MovedTo
  moved_spent e = rw e at t.put

  pub moved_to : {next : Reached} → r ≡ Ok next → Onward p out here after next
  unfolding MovedTo
  moved_to e = rw e at t.put
