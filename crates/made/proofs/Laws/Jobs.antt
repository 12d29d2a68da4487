-- The lines of a made job say sound instructions, as many as were asked for. Laws. Assumes nothing.
use Rattle.std.specs.Prelude.{◌≡◌, Bool, cond, ℕ, zero, suc, ◌+◌, ◌*◌, ◌≤◌, length, drop}
use Rattle.std.proofs.Math.Path.{refl}
use Rattle.std.proofs.Common.{ap, subst, ◌∙◌, arith, ltb-true, eqb-true, length-append}
use Rattle.std.proofs.Math.Bool.{true, false}
use mathlib.Core.List.{List, [], ◌∷◌, ◌++◌}
use Rattle.std.proofs.Math.Option.{some}
use Rattle.std.proofs.lemmas.Bool.{eqb-false}
use Rattle.std.proofs.Math.Dec.{eqb}
use Rattle.text.specs.Bytes.{LF, unlines}
use Rattle.text.specs.Template.{Value, line_text}
use Rattle.text.specs.Written.{Free, AllFree}
use Rattle.text.proofs.Laws.Written.{unlines_append}
use Rattle.job.specs.declared.Header.{Header}
use Rattle.job.specs.Line.{Instruction}
use Rattle.job.specs.Grammar.{Written, header_with, read_line_of}
use Rattle.job.specs.Sound.{Every, ListSound, SaidAs, HeaderSound}
use Rattle.made.specs.Choice.{Choice}
use Rattle.made.specs.Making
use Rattle.made.specs.Made.{header_text, made_texts}
use Rattle.made.specs.Kinds.{LineKind, OfKind}
use Rattle.made.proofs.Laws.Choice.{Always, always_then, always_pick}
use Rattle.made.proofs.Laws.Values.{brief_N}
use Rattle.made.proofs.Laws.Lines as lines
use Rattle.made.proofs.Laws.Operands as operands
use Rattle.made.proofs.Laws.Tables as tables
use Rattle.made.proofs.Laws.Makes.{Makes, makes_as, marks, template_by, line_known}
use Rattle.made.proofs.Laws.Noise as noise

-- ---- one instruction

-- of any kind
abbrev pub MakesSome : Header → ℕ → Making.Made → Type 0
MakesSome h r m = Makes h r (λ (i : Instruction). Unit {0}) m

module _ (h : Header) (range : HeaderSound h) (r : ℕ) (within : r ≤ h.outcomes) where
  abbrev Stands : Making.Entry → Type 0
  Stands e = e.stands ≡ true → Always (MakesSome h r) e.made

  -- of this kind, wherever it stands
  known : (kind : LineKind) {made : Choice Making.Made} → Always (Makes h r (OfKind kind)) made → Always (MakesSome h r) made
  known kind a = record { from = λ state. makes_as (λ i is. tt) (a.from state) }

  unitary_known : Always (MakesSome h r) (Making.unitary h r)
  unitary_known = record { from = λ state. makes_as (λ i is. tt) (operands.unitary_makes h range r within state) }

  reset_known : Always (MakesSome h r) (Making.reset h r)
  reset_known = record { from = λ state. makes_as (λ i is. tt) (operands.reset_makes h range r within state) }

  ring_stands : Every Stands (Making.ring h r)
  unfolding Making.ring
  ring_stands = (
    (λ _. unitary_known),
    (
      (λ _. known LineKind.clifford (tables.clifford_makes h range r within)),
      (
        (λ _. known LineKind.pauli (lines.pauli_makes h range r within)),
        (
          (λ _. known LineKind.exponential (lines.exponential_makes h range r within)),
          (
            (λ _. known LineKind.controlled (lines.controlled_makes h range r within)),
            (
              (λ _. known LineKind.permute (operands.permute_makes h range r within)),
              (
                (λ _. known LineKind.conditional (lines.conditional_makes h range r within)),
                (
                  (λ _. reset_known),
                  (
                    (λ _. known LineKind.inject (lines.inject_makes h range r within)),
                    (
                      (λ _. known LineKind.single (noise.single_makes h range r within)),
                      (
                        (λ _. known LineKind.depolarizing (noise.depolarizing_makes h range r within)),
                        (
                          (λ _. known LineKind.uniform (noise.uniform_makes h range r within)),
                          (
                            (λ _. known LineKind.weighted (noise.weighted_makes h range r within)),
                            (
                              (λ e. known LineKind.flip (lines.flip_makes h range r within (ltb-true 0 r e))),
                              (
                                (λ e. known LineKind.measure (lines.measure_makes h range r within (ltb-true r h.outcomes e))),
                                ((λ e. known LineKind.allocate (lines.allocate_makes h range r within (ltb-true r h.outcomes e))), last (eqb h.edition 2) refl),
                              ),
                            ),
                          ),
                        ),
                      ),
                    ),
                  ),
                ),
              ),
            ),
          ),
        ),
      ),
    ),
  )
    where
      last : (b : Bool) → eqb h.edition 2 ≡ b → Every Stands (cond b (Making.always_stands (Making.barrier h r) ∷ []) [])
      last true e = ((λ _. known LineKind.barrier (operands.barrier_makes h range r within (eqb-true _ _ e))), tt)
      last false e = tt

  every_drop : (k : ℕ) (es : List Making.Entry) → Every Stands es → Every Stands (drop k es)
  every_drop zero es s = s
  every_drop (suc k) [] s = tt
  every_drop (suc k) (e ∷ es) s = every_drop k es s.1

  first_stands : (es : List Making.Entry) → Every Stands es → Always (MakesSome h r) (Making.first_standing h r es)
  unfolding Making.first_standing
  first_stands [] s = unitary_known
  first_stands (e ∷ es) s = go e.stands refl (first_stands es s.1)
    where
      go : (b : Bool) → e.stands ≡ b → Always (MakesSome h r) (Making.first_standing h r es)
          → Always (MakesSome h r) (cond b e.made (Making.first_standing h r es))
      go true f later = s.0 f
      go false f later = later

  pub instruction_makes : Always (MakesSome h r) (Making.instruction h r)
  unfolding Making.instruction
  instruction_makes =
      always_then (always_pick (length (Making.ring h r)) (unfold Making.ring in omega arith)) (λ k _.
      first_stands (drop k (Making.ring h r)) (every_drop k (Making.ring h r) ring_stands))

-- ---- many

-- texts of so many sound instructions, where so many outcomes are recorded before them
pub record MadeKnown (h : Header) (r n : ℕ) (ts : List (List ℕ)) : Type 0 where
  pub instructions : List Instruction
  pub count : length instructions ≡ n
  pub said : SaidAs ts instructions
  pub sound : ListSound h r instructions
  pub free : AllFree LF ts
  pub short : length (unlines ts) ≤ 1048 * n

pub unlines_length : (a b : List (List ℕ)) → length (unlines (a ++ b)) ≡ length (unlines a) + length (unlines b)
unlines_length a b = ap length (unlines_append a b) ∙ length-append (unlines a) (unlines b)

unfoldable pub made_more : {h : Header} {r : ℕ} {Is : Instruction → Type 0} {m : Making.Made} {n : ℕ} {ts : List (List ℕ)} → Makes h r Is m → MadeKnown h m.recorded n ts
    → MadeKnown h r (suc n) (m.texts ++ ts)
unfolding ListSound
made_more {h = h} {m = m} {ts = ts} a k =
    record {
      instructions = a.instruction ∷ k.instructions;
      count = ap suc k.count;
      said = a.said ts k.instructions k.said;
      sound = (a.sound, subst (λ (r : ℕ). ListSound h r k.instructions) a.recorded k.sound);
      free = a.free ts k.free;
      short = omega (arith, a.short, k.short, unlines_length m.texts ts);
    }

pub made_known : (h : Header) → HeaderSound h → (n r state : ℕ) → r ≤ h.outcomes → MadeKnown h r n (made_texts h n r state)
unfolding made_texts ListSound unlines
made_known h range zero r state within = record { instructions = []; count = refl; said = SaidAs.nothing; sound = tt; free = tt; short = omega arith }
made_known h range (suc n) r state within =
    let a = (instruction_makes h range r within).from state in
    let i = Making.instruction h r state in
    made_more a (made_known h range n i.value.recorded i.state a.within)

-- ---- the header

pub record HeaderKnown (h : Header) (t : List ℕ) : Type 0 where
  pub reads : read_line_of t ≡ some (Written.header h)
  pub free : Free LF t
  pub short : length t ≤ 208

pub header_known : (h : Header) → HeaderSound h → HeaderKnown h (header_text h)
unfolding header_text marks
header_known h range = go (eqb h.edition 2) refl
  where
    numbers : List Value
    numbers = Value.number h.qubits ∷ Value.number h.outcomes ∷ Value.number h.shots ∷ []

    go : (b : Bool) → eqb h.edition 2 ≡ b → HeaderKnown h (cond b (line_text (template_by 357) (Value.number h.edition ∷ numbers)) (line_text (template_by 369) numbers))
    go true e =
        let t =
        line_known 357 (Value.number h.edition ∷ numbers) refl
        (brief_N _ (omega (arith, range.two_editions)), (brief_N _ (omega (arith, range.few_qubits)), (brief_N _ (omega (arith, range.few_outcomes)), (brief_N _ (omega (arith, range.few_shots)), tt)))) in
        record { reads = t.reads; free = t.free; short = omega (arith, t.short) }
    go false e =
        let one : 1 ≡ h.edition = omega (arith, eqb-false h.edition 2 e, range.some_edition, range.two_editions) in
        let t =
        line_known 369 numbers refl
        (brief_N _ (omega (arith, range.few_qubits)), (brief_N _ (omega (arith, range.few_outcomes)), (brief_N _ (omega (arith, range.few_shots)), tt))) in
        record {
          reads = t.reads ∙ ap (λ (edition : ℕ). some (Written.header (header_with edition h.qubits h.outcomes h.shots))) one;
          free = t.free;
          short = omega (arith, t.short);
        }
