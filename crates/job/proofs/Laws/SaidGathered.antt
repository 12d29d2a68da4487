-- Texts that say instructions: what is gathered of them is these instructions, and accepted lines say theirs. Laws. Assumes nothing.
use Rattle.std.specs.Prelude.{ℕ, suc, ◌≡◌, refl, Bool, true, false, ltb, Float, length}
use Rattle.std.proofs.Common.{arith, sym, ap₂, subst, ◌∙◌, true≢false}
use Rattle.std.proofs.Math.Path.{ap}
use mathlib.Core.List.{List, [], ◌∷◌, ◌++◌, map}
use Rattle.std.proofs.Math.Option.{Option, none, some}
use Rattle.text.proofs.Laws.Values.{both}
use Rattle.job.specs.declared.Header.{Header}
use Rattle.job.specs.Line.{SparsePauli, WeightedPauli, Distribution, Instruction}
use Rattle.job.specs.Grammar.{Kind, NoiseLine, Written, read_line_of}
use Rattle.job.specs.Checks.{Context, next_total, next, same_weight, expected, header_fits_of}
use Rattle.job.specs.Job.{distribution_of, noise_of, weight_of, Gathered, gather, gathered}
use Rattle.job.specs.Contexts.{between, Accepted}
use Rattle.job.specs.Sound.{instructions_of, has_weights_of, said_weight, ElementsSaid, SaidAs}
use Rattle.job.proofs.Laws.Accepted.{Passing, accepted_first}
use Rattle.job.proofs.Laws.Gather.{PartSound, gathered_sound}
use Rattle.job.proofs.Laws.Said.{weighs, weights_first}

-- ---- what is gathered, whatever the number of the first text

pub record Gathers (ts : List (List ℕ)) (es : List WeightedPauli) (is : List Instruction) : Type 0 where
  pub elements : (m : ℕ) → (gathered m ts).elements ≡ es
  pub instructions : (m : ℕ) → instructions_of (gathered m ts).instructions ≡ is

-- an element as its line is read: without weights it has 0
as_said : Bool → WeightedPauli → WeightedPauli
as_said weights e = record { weight = weight_of (said_weight weights e.weight); pauli = e.pauli }

elements_gather : (weights : Bool) (us ts : List (List ℕ)) (es : List WeightedPauli) (is : List Instruction) → ElementsSaid weights us es → Gathers ts [] is
    → Gathers (us ++ ts) (map (as_said weights) es) is
unfolding ElementsSaid gathered gather as_said
elements_gather weights [] ts [] is said g = g
elements_gather weights [] ts (e ∷ es) is said g = absurd said
elements_gather weights (u ∷ us) ts [] is said g = absurd said
elements_gather weights (u ∷ us) ts (e ∷ es) is said g =
    let more = elements_gather weights us ts es is said.1 g in
    record {
      elements = λ m. rw said.0 (ap (λ (l : List WeightedPauli). as_said weights e ∷ l) (more.elements (suc m)));
      instructions = λ m. rw said.0 (more.instructions (suc m));
    }

with_weights : (es : List WeightedPauli) → map (as_said true) es ≡ es
unfolding as_said said_weight weight_of
with_weights [] = refl
with_weights (e ∷ es) = ap (λ (l : List WeightedPauli). e ∷ l) (with_weights es)

without_weights : (es : List WeightedPauli) → map (λ (e : WeightedPauli). e.pauli) (map (as_said false) es) ≡ map (λ (e : WeightedPauli). e.pauli) es
unfolding as_said
without_weights [] = refl
without_weights (e ∷ es) = ap (λ (l : List SparsePauli). e.pauli ∷ l) (without_weights es)

distribution_same : (k : Kind) (es : List WeightedPauli) → distribution_of k (map (as_said (has_weights_of k)) es) ≡ distribution_of k es
unfolding distribution_of has_weights_of
distribution_same (Kind.single P) es = refl
distribution_same (Kind.depolarizing qs) es = refl
distribution_same (Kind.uniform m) es = ap Distribution.uniform (without_weights es)
distribution_same (Kind.weighted m) es = ap Distribution.weighted (with_weights es)

noise_same : (n : NoiseLine) (es : List WeightedPauli) → noise_of n (map (as_said (has_weights_of n.kind)) es) ≡ noise_of n es
unfolding noise_of
noise_same n es = rw (distribution_same n.kind es)

pub said_gathers : (ts : List (List ℕ)) (is : List Instruction) → SaidAs ts is → Gathers ts [] is
unfolding gathered gather
said_gathers ts is SaidAs.nothing = record { elements = λ m. refl; instructions = λ m. refl }
said_gathers _ _ (SaidAs.line t ts l is reads said) =
    let more = said_gathers ts is said in
    record { elements = λ m. rw reads; instructions = λ m. rw reads (ap (λ (j : List Instruction). Instruction.line l ∷ j) (more.instructions (suc m))) }
said_gathers _ _ (SaidAs.noise t us ts n es is reads said) =
    let more = elements_gather (has_weights_of n.kind) us ts es is reads.elements (said_gathers ts is said) in
    record {
      elements = λ m. rw reads.line;
      instructions = λ m.
          rw reads.line
          (ap₂ (λ (e : List WeightedPauli) (j : List Instruction). Instruction.noise (noise_of n e) ∷ j) (more.elements (suc m)) (more.instructions (suc m))
          ∙ ap (λ i. Instruction.noise i ∷ is) (noise_same n es));
    }

-- ---- accepted lines

-- lines that are accepted in a context: the texts of the elements that are due there, and those of instructions
record PartSaid (c : Context) (ls : List (List ℕ)) (g : Gathered) : Type 0 where
  due : List (List ℕ)
  others : List (List ℕ)
  split : ls ≡ due ++ others
  elements : ElementsSaid (weighs c.total) due g.elements
  instructions : SaidAs others (instructions_of g.instructions)

-- where no elements are due, all of the lines are instructions
none_due : (c : Context) (ls : List (List ℕ)) (g : Gathered) → length g.elements ≡ 0 → PartSaid c ls g → SaidAs ls (instructions_of g.instructions)
none_due c ls g count p = subst (λ (l : List (List ℕ)). SaidAs l (instructions_of g.instructions)) (sym (p.split ∙ ap (λ (l : List (List ℕ)). l ++ p.others) (no_texts p.due g.elements count p.elements))) p.instructions
  where
    no_texts : (us : List (List ℕ)) (es : List WeightedPauli) → length es ≡ 0 → ElementsSaid (weighs c.total) us es → us ≡ []
    no_texts [] es count said = refl
    no_texts (u ∷ us) [] count said = unfold ElementsSaid in absurd said
    no_texts (u ∷ us) (e ∷ es) count said = absurd (omega arith)

-- an element line is read with its weight, where weights are due
weight_said : (w : Option ℕ) (t : Option Float) → same_weight w t ≡ true → (w ≡ said_weight (weighs t) (weight_of w)) × (weighs (next_total t w) ≡ weighs t)
unfolding same_weight weighs said_weight weight_of next_total
weight_said none none e = (refl, refl)
weight_said none (some t) e = absurd (true≢false (sym e))
weight_said (some w) none e = absurd (true≢false (sym e))
weight_said (some w) (some t) e = (refl, refl)

part_said : (k : ℕ) (c : Context) (l : List ℕ) (ls : List (List ℕ)) (w : Written) (g : Gathered) → c.begun ≡ true → read_line_of l ≡ some w → Passing c ls w
    → PartSound (next c w) g → PartSaid (next c w) ls g → PartSaid c (l ∷ ls) (gather k l (some w) g)
unfolding gather next ElementsSaid
part_said k c l ls (Written.header h) g begun reads t s p = unfold header_fits_of in absurd (true≢false (sym t.header ∙ rw begun))
part_said k c l ls (Written.line i) g begun reads t s p =
    record { due = []; others = l ∷ ls; split = refl; elements = tt; instructions = SaidAs.line l ls i _ reads (none_due _ ls g s.count p) }
part_said k c l ls (Written.noise n) g begun reads t s p =
    record {
      due = [];
      others = l ∷ p.due ++ p.others;
      split = ap (λ (m : List (List ℕ)). l ∷ m) p.split;
      elements = tt;
      instructions =
          SaidAs.noise l p.due p.others n g.elements _
          (record { line = reads; count = s.count; elements = rw (← weights_first n.kind) p.elements }) p.instructions;
    }
part_said k c l ls (Written.element w P) g begun reads t s p =
    let same = weight_said w c.total (unfold expected in (both (ltb 0 c.due) (same_weight w c.total) t.due).1) in
    record {
      due = l ∷ p.due;
      others = p.others;
      split = ap (λ (m : List (List ℕ)). l ∷ m) p.split;
      elements = (reads ∙ ap (λ (v : Option ℕ). some (Written.element v P)) same.0, subst (λ x. ElementsSaid x p.due g.elements) same.1 p.elements);
      instructions = p.instructions;
    }

accepted_part : (k : ℕ) (c : Context) (ls : List (List ℕ)) → Accepted k c ls → PartSaid c ls (gathered k ls)
unfolding gathered ElementsSaid
accepted_part k c [] a = record { due = []; others = []; split = refl; elements = tt; instructions = SaidAs.nothing }
accepted_part k c (l ∷ ls) a =
    let f = accepted_first a in
    rw f.reads
    (part_said k c l ls f.says (gathered (suc k) ls) a.begun f.reads f.passing (gathered_sound (suc k) (next c f.says) ls f.rest)
    (accepted_part (suc k) (next c f.says) ls f.rest))

pub accepted_said : (h : Header) (r k : ℕ) (ls : List (List ℕ)) → Accepted k (between h r) ls → SaidAs ls (instructions_of (gathered k ls).instructions)
unfolding between
accepted_said h r k ls a = none_due (between h r) ls (gathered k ls) (gathered_sound k (between h r) ls a).count (accepted_part k (between h r) ls a)
