-- Laws: the settled lines of an accepted job are sound, and say what they are, so that the settled text is an accepted job of these lines. Assumes nothing.
use Rattle.std.specs.Prelude.{◌≡◌, true, ◌&&◌, ℕ, zero, suc, ◌+◌, ◌-◌, ◌<◌, ◌≤◌, ltb, leb, length, get_or}
use Rattle.std.proofs.Math.Path.{refl, sym, subst}
use Rattle.std.proofs.Common.{ap, ◌∙◌, true≢false, arith, eqb-true}
use mathlib.Core.List.{List, [], ◌∷◌, ◌++◌, map}
use Rattle.std.proofs.Math.Option.{some}
use Rattle.std.proofs.Math.Nat.{add-zero, zero-add}
use Rattle.text.specs.Bytes.{LF, unlines}
use Rattle.text.specs.Written.{Free, AllFree}
use Rattle.text.proofs.Theorems.{written_one_line, lines_free, unlines_lines}
use Rattle.text.specs.List.{is_rising_of}
use Rattle.text.proofs.Laws.Values.{both}
use Rattle.job.specs.declared.Header.{Header}
use Rattle.job.specs.Line.{SparsePauli, Line, WeightedPauli, Distribution, Noise, Instruction, Placed}
use Rattle.job.specs.Grammar.{Written, inject_template, read_line_of}
use Rattle.job.specs.Checks.{all_below, records}
use Rattle.job.specs.Job.{well_ended_of, placed_at, gather, gathered, Job, job_of, recorded_by, recorded_in, check_job}
use Rattle.job.specs.Sound.{RisingBelow, Every, PauliSound, LineSound, ElementSound, DistributionSound, InstructionSound, InstructionsSound, SaidBy, LinesSound, HeaderSound, SaidAs}
use Rattle.job.proofs.Theorems.{checked_sound}
use Rattle.job.proofs.Laws.Lists.{below_first}
use Rattle.job.specs.Fits.{PauliFits}
use Rattle.job.specs.Contexts.{between, Accepted}
use Rattle.job.proofs.Laws.Begun.{job_passes, job_begun}
use Rattle.job.proofs.Laws.Instructions.{FirstInstruction, first_instruction}
use Rattle.job.proofs.Laws.Texts.{small_below, inject_one_line, inject_says, gathered_free}
use Rattle.draws.specs.Draws.{Lent, depolarizing_element_of, no_pauli, element_at, Fault}
use Rattle.draws.specs.Settle.{SettledLine, inject_text, injection, Step, step_of, Settled, prefixed, settle_then, settle, settled_list, settled_text, placed_from}
use Rattle.draws.proofs.Laws.Elements.{selected_writable}
use Rattle.draws.specs.Known.{shots_of, Injections, is_line, noise_free, copy_of, copies, Writable}
use Rattle.draws.proofs.Laws.Within.{noise_injects, settle_copies}

-- ---- what is injected

no_pauli_lem : (n : ℕ) → PauliSound n no_pauli
unfolding no_pauli is_rising_of all_below
no_pauli_lem n =
    record {
      x = record { rising = refl; below = refl; few = omega arith };
      z = record { rising = refl; below = refl; few = omega arith };
    }

every_or : {A : Type 0} (P : A → Type 0) (l : List A) (d : A) → Every P l → P d → (e : ℕ) → P (get_or l e d)
every_or P [] d p q e = q
every_or P (a ∷ l) d p q zero = p.0
every_or P (a ∷ l) d p q (suc e) = every_or P l d p.1 q e

paulis_sound : (n : ℕ) (es : List WeightedPauli) → Every (ElementSound n) es → Every (PauliSound n) (map (λ (w : WeightedPauli). w.pauli) es)
paulis_sound n [] s = tt
paulis_sound n (e ∷ es) s = (s.0.pauli, paulis_sound n es s.1)

-- an element of a sound distribution is a Pauli on the qubits
pub element_sound : (n : ℕ) (d : Distribution) → DistributionSound n d → (e : ℕ) → PauliSound n (element_at d e)
unfolding DistributionSound element_at
element_sound n (Distribution.single P) s e = s
element_sound n (Distribution.depolarizing qs) s e =
    unfold depolarizing_element_of in
    record { x = list (selected_writable n (e + 1) qs s.below); z = list (selected_writable n _ qs s.below) }
  where
    list : {l : List ℕ} → Writable n (length qs) l → RisingBelow n l
    list w = record { rising = w.rises; below = w.below; few = omega (arith, w.short, s.few) }
element_sound n (Distribution.uniform Ps) s e = every_or (PauliSound n) Ps no_pauli s.each (no_pauli_lem n) e
element_sound n (Distribution.weighted es) s e = every_or (PauliSound n) (map (λ (w : WeightedPauli). w.pauli) es) no_pauli (paulis_sound n es s.each) (no_pauli_lem n) e

-- its members can be written
pub pauli_fits : (n : ℕ) (P : SparsePauli) → n ≤ 256 → PauliSound n P → PauliFits P
pauli_fits n P h s =
    record {
      x = record { rising = s.x.rising; small = small_below n P.x h s.x.below };
      z = record { rising = s.z.rising; small = small_below n P.z h s.z.below };
    }

-- ---- settled lines

-- A settled line is sound, is what its text says, and is one line.
pub record Told (h : Header) (r : ℕ) (l : SettledLine) : Type 0 where
  pub sound : LineSound h r l.line
  pub says : read_line_of l.text ≡ some (Written.line l.line)
  pub free : Free LF l.text

-- all of them, in order, where r outcomes are recorded before them
unfoldable pub AllTold : Header → ℕ → List SettledLine → Type 0
AllTold h r [] = Unit {0}
AllTold h r (l ∷ ls) = Told h r l × AllTold h (r + recorded_by (Instruction.line l.line)) ls

-- What instructions settle to: told lines that record as many outcomes.
pub record SettledAs (h : Header) (r : ℕ) (is : List Placed) (ls : List SettledLine) : Type 0 where
  pub told : AllTold h r ls
  pub recorded : (k : ℕ) → recorded_in (placed_from k ls) ≡ recorded_in is

module _ (h : Header) (range : HeaderSound h) where
  injection_told : (r : ℕ) (d : Distribution) → DistributionSound h.qubits d → (f : Fault) → f.shot < h.shots → Told h r (injection d f)
  unfolding injection inject_text LineSound
  injection_told r d s f b =
      let P = element_at d f.element in
      let sound = element_sound h.qubits d s f.element in
      record {
        sound = record { within = b; pauli = sound };
        says = inject_says f.shot P (omega (arith, range.few_shots)) (pauli_fits h.qubits P range.few_qubits sound);
        free = written_one_line inject_template inject_one_line _;
      }

  -- injections in front of others record nothing
  injection_more : (r : ℕ) (is : List Placed) (d : Distribution) (f : Fault) (ls : List SettledLine) → Told h r (injection d f) → SettledAs h r is ls
      → SettledAs h r is (injection d f ∷ ls)
  unfolding AllTold recorded_in recorded_by records placed_from injection
  injection_more r is d f ls t more = record { told = (t, rw add-zero more.told); recorded = λ k. zero-add _ ∙ more.recorded (suc k) }

  injections_more : (r : ℕ) (is : List Placed) (d : Distribution) → DistributionSound h.qubits d → (fs : List Fault) → all_below h.shots (shots_of fs) ≡ true
      → (ls : List SettledLine) → SettledAs h r is ls → SettledAs h r is (map (injection d) fs ++ ls)
  injections_more r is d s [] b ls t = t
  injections_more r is d s (f ∷ fs) b ls t =
      let parts = below_first h.shots f.shot (shots_of fs) b in
      injection_more r is d f (map (injection d) fs ++ ls) (injection_told r d s f parts.0) (injections_more r is d s fs parts.1 ls t)

  -- a line in front of others
  line_more : (r : ℕ) (i : Placed) (is : List Placed) (l : Line) → i.instruction ≡ Instruction.line l → LineSound h r l
      → read_line_of i.text ≡ some (Written.line l) → Free LF i.text → (ls : List SettledLine)
      → SettledAs h (r + recorded_by (Instruction.line l)) is ls → SettledAs h r (i ∷ is) (record { line = l; text = i.text } ∷ ls)
  unfolding AllTold recorded_in placed_from
  line_more r i is l e s reads free ls t =
      record {
        told = (record { sound = s; says = reads; free = free }, t.told);
        recorded = λ k. rw (e, t.recorded (suc k));
      }

  -- noise in front of others records nothing
  noise_same : (i : Placed) (is : List Placed) (n : Noise) → i.instruction ≡ Instruction.noise n → recorded_in (i ∷ is) ≡ recorded_in is
  unfolding recorded_in recorded_by
  noise_same i is n e = rw e (zero-add (recorded_in is))

  unfoldable Settles : ℕ → List Placed → Settled → Type 0
  Settles r is (Settled.spent_at k) = Unit {0}
  Settles r is (Settled.settled ls) = SettledAs h r is ls

  settle_as : (r : ℕ) (lent : Lent) (main : List ℕ) (is : List Placed) → lent.shots ≡ h.shots → InstructionsSound h r is
      → Every (λ (p : Placed). SaidBy p.text p.instruction) is → Every (λ (p : Placed). Free LF p.text) is → Settles r is (settle lent is main)
  unfolding settle InstructionsSound
  settle_as r lent main [] e s t f = unfold Settles AllTold placed_from recorded_in in record { told = tt; recorded = λ k. refl }
  settle_as r lent main (i ∷ is) e s t f =
      go i.instruction refl s.0 t.0 (λ left. settle_as (r + recorded_by i.instruction) lent left is e s.1 t.1 f.1)
    where
      after_line : (l : Line) → i.instruction ≡ Instruction.line l → LineSound h r l → read_line_of i.text ≡ some (Written.line l)
          → (o : Settled) → Settles (r + recorded_by (Instruction.line l)) is o → Settles r (i ∷ is) (prefixed (record { line = l; text = i.text } ∷ []) o)
      after_line l q sound reads (Settled.spent_at k) ih = unfold prefixed Settles in tt
      after_line l q sound reads (Settled.settled ls) ih = unfold prefixed Settles in line_more r i is l q sound reads f.0 ls ih

      after_noise : (n : Noise) → i.instruction ≡ Instruction.noise n → DistributionSound h.qubits n.distribution → (fs : List Fault)
          → all_below h.shots (shots_of fs) ≡ true → (o : Settled) → Settles r is o → Settles r (i ∷ is) (prefixed (map (injection n.distribution) fs) o)
      after_noise n q sound fs b (Settled.spent_at k) ih = unfold prefixed Settles in tt
      after_noise n q sound fs b (Settled.settled ls) ih =
          unfold prefixed Settles in
          injections_more r (i ∷ is) n.distribution sound fs b ls record { told = ih.told; recorded = λ k. ih.recorded k ∙ sym (noise_same i is n q) }

      go : (j : Instruction) → i.instruction ≡ j → InstructionSound h r j → SaidBy i.text j
          → ((left : List ℕ) → Settles (r + recorded_by j) is (settle lent is left)) → Settles r (i ∷ is) (settle_then i.line (step_of lent main i.text j) (settle lent is))
      go (Instruction.line l) q sound said ih =
          unfold settle_then step_of InstructionSound SaidBy in after_line l q sound said (settle lent is main) (ih main)
      go (Instruction.noise n) q sound said ih = step (step_of lent main i.text (Instruction.noise n)) refl
        where
          noise_distribution : InstructionSound h r (Instruction.noise n) → DistributionSound h.qubits n.distribution
          noise_distribution t = unfold InstructionSound in t.distribution

          noise_rest : (o : Settled) → Settles (r + recorded_by (Instruction.noise n)) is o → Settles r is o
          noise_rest o t = unfold recorded_by in (rw add-zero at t)

          step : (o : Step) → step_of lent main i.text (Instruction.noise n) ≡ o → Settles r (i ∷ is) (settle_then i.line o (settle lent is))
          step Step.spent d = unfold settle_then Settles in tt
          step (Step.lines ls left) d =
              let found : Injections lent n ls = noise_injects lent main i.text n ls left d in
              unfold settle_then in
              subst (λ (ks : List SettledLine). Settles r (i ∷ is) (prefixed ks (settle lent is left))) (sym found.are)
              (after_noise n q (noise_distribution sound) found.faults (subst (λ (m : ℕ). all_below m (shots_of found.faults) ≡ true) e found.below)
              (settle lent is left) (noise_rest (settle lent is left) (ih left)))

  -- the settled lines of sound instructions that are what their texts say
  pub settled_as : (r : ℕ) (lent : Lent) (main : List ℕ) (is : List Placed) (ls : List SettledLine) → lent.shots ≡ h.shots → InstructionsSound h r is
      → Every (λ (p : Placed). SaidBy p.text p.instruction) is → Every (λ (p : Placed). Free LF p.text) is → settle lent is main ≡ Settled.settled ls
      → SettledAs h r is ls
  unfolding Settles
  settled_as r lent main is ls e s t f settles = subst (Settles r is) settles (settle_as r lent main is e s t f)

-- ---- the settled text

abbrev pub texts_of : List SettledLine → List (List ℕ)
texts_of = map (λ (l : SettledLine). l.text)

module _ (h : Header) where
  pub told_sound : (r : ℕ) (ls : List SettledLine) → AllTold h r ls → LinesSound h r (settled_list ls)
  unfolding AllTold LinesSound
  told_sound r [] t = tt
  told_sound r (l ∷ ls) t = (t.0.sound, told_sound (r + recorded_by (Instruction.line l.line)) ls t.1)

  pub told_says : (r : ℕ) (ls : List SettledLine) → AllTold h r ls → SaidAs (texts_of ls) (map Instruction.line (settled_list ls))
  unfolding AllTold
  told_says r [] t = SaidAs.nothing
  told_says r (l ∷ ls) t = SaidAs.line _ _ _ _ t.0.says (told_says (r + recorded_by (Instruction.line l.line)) ls t.1)

  pub told_free : (r : ℕ) (ls : List SettledLine) → AllTold h r ls → AllFree LF (texts_of ls)
  unfolding AllTold
  told_free r [] t = tt
  told_free r (l ∷ ls) t = (t.0.free, told_free (r + recorded_by (Instruction.line l.line)) ls t.1)

  -- their texts are the instructions of the lines
  pub told_gathers : (r k : ℕ) (ls : List SettledLine) → AllTold h r ls → (gathered k (texts_of ls)).instructions ≡ placed_from k ls
  unfolding AllTold gathered gather placed_from
  told_gathers r k [] t = refl
  told_gathers r k (l ∷ ls) t =
      rw t.0.says (ap (placed_at k l.text (Instruction.line l.line) ∷◌) (told_gathers (r + recorded_by (Instruction.line l.line)) (suc k) ls t.1))

-- ---- settled once more

placed_free : (k : ℕ) (ls : List SettledLine) → noise_free (placed_from k ls) ≡ true
unfolding placed_from noise_free is_line
placed_free k [] = refl
placed_free k (l ∷ ls) = placed_free (suc k) ls

placed_copies : (k : ℕ) (ls : List SettledLine) → copies (placed_from k ls) ≡ ls
unfolding placed_from copies copy_of
placed_copies k [] = refl
placed_copies k (l ∷ ls) = ap (l ∷◌) (placed_copies (suc k) ls)

-- settled lines settle to themselves, whatever is lent
pub settle_placed : (lent : Lent) (main : List ℕ) (k : ℕ) (ls : List SettledLine) → settle lent (placed_from k ls) main ≡ Settled.settled ls
settle_placed lent main k ls = settle_copies lent main (placed_from k ls) (placed_free k ls) ∙ ap Settled.settled (placed_copies k ls)

-- ---- a job without noise

-- where there is no noise each line is an instruction, and its own text
pub copied_texts : (h : Header) (r k : ℕ) (ls : List (List ℕ)) → Accepted k (between h r) ls → noise_free (gathered k ls).instructions ≡ true
    → texts_of (copies (gathered k ls).instructions) ≡ ls
unfolding noise_free is_line copies copy_of
copied_texts h r k [] a f = unfold gathered in refl
copied_texts h r k (l ∷ ls) a f = go (first_instruction h r k l ls a) (λ i s. copied_texts h (r + recorded_by (Instruction.line i)) (suc k) ls s)
  where
    go : FirstInstruction h r k l ls
        → ((i : Line) → Accepted (suc k) (between h (r + recorded_by (Instruction.line i))) ls → noise_free (gathered (suc k) ls).instructions ≡ true
        → texts_of (copies (gathered (suc k) ls).instructions) ≡ ls)
        → texts_of (copies (gathered k (l ∷ ls)).instructions) ≡ l ∷ ls
    go (FirstInstruction.plain i reads s) ih = rw s.gathers (ap (l ∷◌) (ih i s.rest (rw s.gathers at f)))
    go (FirstInstruction.noisy n reads s) ih = absurd (true≢false (sym (rw s.gathers at f)))

-- ---- a job

-- the lines to which an accepted job settles, and its header
pub record JobSettles (job : List ℕ) (ls : List SettledLine) : Type 0 where
  pub says : read_line_of (job_of job).text ≡ some (Written.header (job_of job).header)
  pub range : HeaderSound (job_of job).header
  pub lines : SettledAs (job_of job).header 0 (job_of job).instructions ls
  pub free : AllFree LF ((job_of job).text ∷ texts_of ls)

-- its header and the text of each instruction are one line
pub job_free : (job : List ℕ) → (check_job job).number ≡ 0 → Free LF (job_of job).text × Every (λ (p : Placed). Free LF p.text) (job_of job).instructions
job_free job passes =
    let sound = checked_sound job passes in
    let free : AllFree LF ((job_of job).text ∷ sound.rest) = rw sound.split at (lines_free job) in
    (free.0, rw sound.gathers (gathered_free 2 sound.rest free.1))

pub job_settles : (job : List ℕ) → (check_job job).number ≡ 0 → (lent : Lent) → lent.shots ≡ (job_of job).header.shots → (main : List ℕ) (ls : List SettledLine)
    → settle lent (job_of job).instructions main ≡ Settled.settled ls → JobSettles job ls
job_settles job passes lent shots main ls settles =
    let sound = checked_sound job passes in
    let free = job_free job passes in
    let settled = settled_as (job_of job).header sound.header 0 lent main (job_of job).instructions ls shots sound.instructions sound.texts free.1 settles in
    record { says = sound.reads; range = sound.header; lines = settled; free = (free.0, told_free (job_of job).header 0 ls settled.told) }

-- an accepted job ends in LF
job_ended : (job : List ℕ) → (check_job job).number ≡ 0 → get_or job (length job - 1) 0 ≡ LF
unfolding well_ended_of
job_ended job passes = eqb-true _ _ (both (ltb 0 (length job) && leb (length job) 1048576) _ (job_passes job passes).0).1

-- without noise it is its own settled text
pub job_copied : (job : List ℕ) → (check_job job).number ≡ 0 → noise_free (job_of job).instructions ≡ true
    → settled_text (job_of job).text (copies (job_of job).instructions) ≡ job
unfolding settled_text
job_copied job passes f =
    let b = job_begun job passes in
    let free : noise_free (gathered 2 b.rest).instructions ≡ true = sym (ap (λ (j : Job). noise_free j.instructions) b.is) ∙ f in
    ap (λ (j : Job). unlines (j.text ∷ texts_of (copies j.instructions))) b.is
    ∙ ap (λ (ls : List (List ℕ)). unlines (b.text ∷ ls)) (copied_texts b.header 0 2 b.rest b.passes free)
    ∙ ap unlines (sym b.split)
    ∙ unlines_lines job (λ _. job_ended job passes)
