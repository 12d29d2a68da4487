-- Accepted lines instruction by instruction: a line that is no noise, or a noise line with its element lines, and accepted lines behind it. These are
-- the steps of whatever goes through a job after the checks. Laws. Assumes nothing.
use Rattle.std.specs.Prelude.{ℕ, zero, suc, ◌+◌, ◌≤◌, ◌<◌, ◌≡◌, Bool, true, false, List, [], ◌∷◌, eqb, ltb, Float, length, take, drop}
use Rattle.std.proofs.Math.Nat.{add-zero}
use Rattle.std.proofs.Common.{arith, ap, subst, ◌∙◌, true≢false, ltb-false, eqb-true}
use Rattle.std.proofs.Math.Path.{refl, sym}
use Rattle.std.proofs.Math.Bool.{and-false}
use Rattle.std.proofs.Math.Option.{Option, none, some}
use Rattle.std.proofs.lemmas.Bool.{eqb-false}
use Rattle.text.proofs.Laws.Values.{both}
use Rattle.job.specs.declared.Header.{Header}
use Rattle.job.specs.Line.{SparsePauli, Line, WeightedPauli, Noise, Instruction, Placed}
use Rattle.job.specs.Grammar.{NoiseLine, Written, read_line_of}
use Rattle.job.specs.Checks.{Context, element_lines_of, records, next, line_tests, noise_tests, same_weight, expected, header_fits_of, own_tests, lowest, refusal_of}
use Rattle.job.specs.Job.{answer, is_last, next_of, check_lines_of, noise_of, weight_of, placed_at, gather, gathered, recorded_by}
use Rattle.job.specs.Contexts.{between, Accepted}
use Rattle.job.specs.Sound.{LineSound, NoiseSound, InstructionSound, InstructionsSound}
use Rattle.job.proofs.Laws.Accepted.{number_after, checks_bad, checks_good, Passing, passing, accepted_first}
use Rattle.job.proofs.Laws.Gather.{recorded_more, gathered_sound}

-- ---- between instructions the sum of weights is of no account

-- the same with a sum of weights that was left
summed : Header → ℕ → Option Float → Context
summed h r t = record { begun = true; header = h; recorded = r; due = 0; total = t }

module _ (h : Header) (r : ℕ) (t : Option Float) (last : Bool) where
  tests_same : (l : Line) → line_tests (summed h r t) l ≡ line_tests (between h r) l
  unfolding line_tests summed between
  tests_same (Line.unitary g qs) = refl
  tests_same (Line.clifford qs m) = refl
  tests_same (Line.pauli P) = refl
  tests_same (Line.exponential P) = refl
  tests_same (Line.controlled C T) = refl
  tests_same (Line.permute s qs) = refl
  tests_same (Line.measure P id) = refl
  tests_same (Line.allocate id angle) = refl
  tests_same (Line.conditional P ids par) = refl
  tests_same (Line.reset qs) = refl
  tests_same (Line.inject shot P) = refl
  tests_same (Line.flip shot id) = refl
  tests_same (Line.barrier qs) = refl

  refusal_same : (o : Option Written) → refusal_of (summed h r t) last o ≡ refusal_of (between h r) last o
  unfolding refusal_of next expected header_fits_of own_tests noise_tests lowest summed between
  refusal_same none = refl
  refusal_same (some (Written.header g)) = refl
  refusal_same (some (Written.line l)) = rw (tests_same l)
  refusal_same (some (Written.noise n)) = refl
  refusal_same (some (Written.element w P)) = refl

  -- a good line leads to the same context
  next_same : (o : Option Written) → refusal_of (between h r) last o ≡ 0 → next_of (summed h r t) o ≡ next_of (between h r) o
  unfolding refusal_of next_of next expected lowest summed between
  next_same none e = absurd (omega arith)
  next_same (some (Written.header g)) e = refl
  next_same (some (Written.line l)) e = refl
  next_same (some (Written.noise n)) e = refl
  next_same (some (Written.element w P)) e = absurd (omega arith)

checks_same : (k : ℕ) (h : Header) (r : ℕ) (t : Option Float) (ls : List (List ℕ)) → check_lines_of k (summed h r t) ls ≡ check_lines_of k (between h r) ls
checks_same k h r t [] = unfold check_lines_of in refl
checks_same k h r t (l ∷ ls) = go (eqb (number_after (between h r) l ls) 0) refl
  where
    same : number_after (summed h r t) l ls ≡ number_after (between h r) l ls
    same = refusal_same h r t (is_last ls) (read_line_of l)

    go : (b : Bool) → eqb (number_after (between h r) l ls) 0 ≡ b → check_lines_of k (summed h r t) (l ∷ ls) ≡ check_lines_of k (between h r) (l ∷ ls)
    go true e =
        let good = eqb-true (number_after (between h r) l ls) 0 e in
        checks_good k (summed h r t) l ls (same ∙ good)
        ∙ ap (λ (c : Context). check_lines_of (suc k) c ls) (next_same h r t (is_last ls) (read_line_of l) good)
        ∙ sym (checks_good k (between h r) l ls good)
    go false e =
        let bad = eqb-false (number_after (between h r) l ls) 0 e in
        checks_bad k (summed h r t) l ls (λ z. bad (sym same ∙ z))
        ∙ ap (λ (n : ℕ). answer n k) same
        ∙ sym (checks_bad k (between h r) l ls bad)

context_summed : (c : Context) → c.begun ≡ true → c.due ≡ 0 → c ≡ summed c.header c.recorded c.total
unfolding summed
context_summed c b d = λ i. record { begun = b i; header = c.header; recorded = c.recorded; due = d i; total = c.total }

checks_between : (k : ℕ) (c : Context) (ls : List (List ℕ)) → c.begun ≡ true → c.due ≡ 0 → check_lines_of k c ls ≡ check_lines_of k (between c.header c.recorded) ls
checks_between k c ls b d =
    ap (λ (x : Context). check_lines_of k x ls) (context_summed c b d) ∙ checks_same k c.header c.recorded c.total ls

-- lines that are accepted where no elements are due
pub accepted_between : (k : ℕ) (c : Context) (ls : List (List ℕ)) → Accepted k c ls → c.due ≡ 0 → Accepted k (between c.header c.recorded) ls
accepted_between k c ls a d =
    record {
      begun = unfold between in refl;
      ends = unfold between in and-false (is_last ls);
      passes = sym (checks_between k c ls a.begun d) ∙ a.passes;
    }

-- and the other way round
pub between_accepted : (k : ℕ) (c : Context) (ls : List (List ℕ)) → c.begun ≡ true → c.due ≡ 0 → Accepted k (between c.header c.recorded) ls
    → Accepted k c ls
between_accepted k c ls b d a =
    record { begun = b; ends = rw d (and-false (is_last ls)); passes = checks_between k c ls b d ∙ a.passes }

-- ---- elements

-- the element that a line says
unfoldable pub element_of : Option Written → WeightedPauli
element_of none = record { weight = 0; pauli = record { x = []; z = [] } }
element_of (some (Written.header h)) = record { weight = 0; pauli = record { x = []; z = [] } }
element_of (some (Written.line l)) = record { weight = 0; pauli = record { x = []; z = [] } }
element_of (some (Written.noise n)) = record { weight = 0; pauli = record { x = []; z = [] } }
element_of (some (Written.element w P)) = record { weight = weight_of w; pauli = P }

unfoldable pub elements_in : List (List ℕ) → List WeightedPauli
elements_in [] = []
elements_in (l ∷ ls) = element_of (read_line_of l) ∷ elements_in ls

-- where elements are due, a line that passes is one, with a weight or without as the others
pub due_says : (c : Context) (ls : List (List ℕ)) (w : Written) → Passing c ls w → 0 < c.due
    → (v : Option ℕ) × (P : SparsePauli) × (w ≡ Written.element v P) × (same_weight v c.total ≡ true)
unfolding expected
due_says c ls (Written.header h) t d = absurd (omega (arith, eqb-true c.due 0 t.due))
due_says c ls (Written.line l) t d = absurd (omega (arith, eqb-true c.due 0 t.due))
due_says c ls (Written.noise n) t d = absurd (omega (arith, eqb-true c.due 0 t.due))
due_says c ls (Written.element v P) t d = (v, P, refl, (both (ltb 0 c.due) (same_weight v c.total) t.due).1)

-- So many lines are the elements that are due, and behind them instructions follow.
pub record ElementLines (n k : ℕ) (c : Context) (ls : List (List ℕ)) : Type 0 where
  pub enough : n ≤ length ls
  pub elements : (gathered k ls).elements ≡ elements_in (take n ls)
  pub instructions : (gathered k ls).instructions ≡ (gathered (k + n) (drop n ls)).instructions
  pub rest : Accepted (k + n) (between c.header c.recorded) (drop n ls)

no_length : {A : Type 0} (l : List A) → length l ≡ 0 → l ≡ []
no_length [] e = refl
no_length (a ∷ l) e = absurd (omega arith)

element_first : (n k : ℕ) (c : Context) (l : List ℕ) (ls : List (List ℕ)) (v : Option ℕ) (P : SparsePauli) → read_line_of l ≡ some (Written.element v P)
    → ElementLines n (suc k) (next c (Written.element v P)) ls → ElementLines (suc n) k c (l ∷ ls)
unfolding gathered elements_in next gather element_of
element_first n k c l ls v P reads e =
    let m : k + suc n ≡ suc k + n = omega arith in
    record {
      enough = omega (arith, e.enough);
      elements = rw reads (ap (λ (es : List WeightedPauli). record { weight = weight_of v; pauli = P } ∷ es) e.elements);
      instructions = rw (reads, m) e.instructions;
      rest = rw m e.rest;
    }

pub accepted_elements : (n k : ℕ) (c : Context) (ls : List (List ℕ)) → Accepted k c ls → c.due ≡ n → ElementLines n k c ls
accepted_elements zero k c ls a d =
    unfold elements_in in
    record {
      enough = omega arith;
      elements = no_length (gathered k ls).elements ((gathered_sound k c ls a).count ∙ d);
      instructions = rw add-zero;
      rest = rw add-zero (accepted_between k c ls a d);
    }
accepted_elements (suc n) k c [] a d = absurd (omega (arith, ltb-false 0 c.due a.ends))
accepted_elements (suc n) k c (l ∷ ls) a d =
    let f = accepted_first a in
    let says = due_says c ls f.says f.passing (omega arith) in
    go says.0 says.1 (f.reads ∙ ap some says.2) (subst (λ (w : Written). Accepted (suc k) (next c w) ls) says.2 f.rest) (λ e. accepted_elements n (suc k) e ls)
  where
    go : (v : Option ℕ) (P : SparsePauli) → read_line_of l ≡ some (Written.element v P) → Accepted (suc k) (next c (Written.element v P)) ls
        → ((e : Context) → Accepted (suc k) e ls → e.due ≡ n → ElementLines n (suc k) e ls) → ElementLines (suc n) k c (l ∷ ls)
    go v P reads b ih = element_first n k c l ls v P reads (ih (next c (Written.element v P)) b (unfold next in omega arith))

-- ---- instructions

-- a line that is no noise, and what is behind it
pub record LineStep (h : Header) (r k : ℕ) (l : List ℕ) (ls : List (List ℕ)) (i : Line) : Type 0 where
  pub sound : LineSound h r i
  pub rest : Accepted (suc k) (between h (r + recorded_by (Instruction.line i))) ls
  pub gathers : (gathered k (l ∷ ls)).instructions ≡ placed_at k l (Instruction.line i) ∷ (gathered (suc k) ls).instructions

-- a noise line with its elements, and what is behind them
abbrev pub noise_with : NoiseLine → List (List ℕ) → Noise
noise_with n ls = noise_of n (elements_in (take (element_lines_of n.kind) ls))

pub record NoiseStep (h : Header) (r k : ℕ) (l : List ℕ) (ls : List (List ℕ)) (n : NoiseLine) : Type 0 where
  pub sound : NoiseSound h.qubits r (noise_with n ls)
  pub enough : element_lines_of n.kind ≤ length ls
  pub rest : Accepted (suc k + element_lines_of n.kind) (between h r) (drop (element_lines_of n.kind) ls)
  pub gathers : (gathered k (l ∷ ls)).instructions
      ≡ placed_at k l (Instruction.noise (noise_with n ls)) ∷ (gathered (suc k + element_lines_of n.kind) (drop (element_lines_of n.kind) ls)).instructions

-- what is behind the first line, by what that line says
behind_first : {k : ℕ} {c : Context} {l : List ℕ} {ls : List (List ℕ)} (w : Written) → Accepted k c (l ∷ ls) → read_line_of l ≡ some w
    → Accepted (suc k) (next c w) ls
behind_first {k} {c} {l} {ls} w a e =
    let f = accepted_first a in
    let same : f.says ≡ w = says_same f.says w (sym f.reads ∙ e) in
    subst (λ (v : Written). Accepted (suc k) (next c v) ls) same f.rest
  where
    says_same : (v w : Written) → some v ≡ some w → v ≡ w
    says_same v w e = cc

-- the first instruction of accepted lines is sound
first_sound : (h : Header) (r k : ℕ) (ls : List (List ℕ)) (i : Placed) (is : List Placed) → Accepted k (between h r) ls → (gathered k ls).instructions ≡ i ∷ is
    → InstructionSound h r i.instruction
unfolding between InstructionsSound
first_sound h r k ls i is a e = (subst (InstructionsSound h r) e (gathered_sound k (between h r) ls a).instructions).0

-- behind a line that is no noise
pub next_between : (i : Line) (h : Header) (r : ℕ) → next (between h r) (Written.line i) ≡ between h (r + recorded_by (Instruction.line i))
unfolding next between recorded_by
next_between i h r = ap (λ (m : ℕ). record { begun = true; header = h; recorded = m; due = 0; total = none }) (recorded_more (records i) r)

pub line_step : (h : Header) (r k : ℕ) (l : List ℕ) (ls : List (List ℕ)) (i : Line) → Accepted k (between h r) (l ∷ ls) → read_line_of l ≡ some (Written.line i)
    → LineStep h r k l ls i
unfolding gathered gather InstructionSound
line_step h r k l ls i a e =
    let gathers : (gathered k (l ∷ ls)).instructions ≡ placed_at k l (Instruction.line i) ∷ (gathered (suc k) ls).instructions = rw e in
    record {
      sound = first_sound h r k (l ∷ ls) _ _ a gathers;
      rest = subst (λ (c : Context). Accepted (suc k) c ls) (next_between i h r) (behind_first (Written.line i) a e);
      gathers = gathers;
    }

pub noise_step : (h : Header) (r k : ℕ) (l : List ℕ) (ls : List (List ℕ)) (n : NoiseLine) → Accepted k (between h r) (l ∷ ls)
    → read_line_of l ≡ some (Written.noise n) → NoiseStep h r k l ls n
unfolding gathered gather next between InstructionSound
noise_step h r k l ls n a e =
    let f = accepted_elements (element_lines_of n.kind) (suc k) (next (between h r) (Written.noise n)) ls (behind_first (Written.noise n) a e) refl in
    let gathers : (gathered k (l ∷ ls)).instructions
    ≡ placed_at k l (Instruction.noise (noise_with n ls)) ∷ (gathered (suc k + element_lines_of n.kind) (drop (element_lines_of n.kind) ls)).instructions
    = rw (e, f.elements, f.instructions) in
    record {
      sound = first_sound h r k (l ∷ ls) _ _ a gathers;
      enough = f.enough;
      rest = f.rest;
      gathers = gathers;
    }

-- between instructions the first line is one of the two
pub data FirstInstruction (h : Header) (r k : ℕ) (l : List ℕ) (ls : List (List ℕ)) : Type 0 where
  plain : (i : Line) → read_line_of l ≡ some (Written.line i) → LineStep h r k l ls i → FirstInstruction h r k l ls
  noisy : (n : NoiseLine) → read_line_of l ≡ some (Written.noise n) → NoiseStep h r k l ls n → FirstInstruction h r k l ls

pub first_instruction : (h : Header) (r k : ℕ) (l : List ℕ) (ls : List (List ℕ)) → Accepted k (between h r) (l ∷ ls) → FirstInstruction h r k l ls
first_instruction h r k l ls a = let f = accepted_first a in go f.says f.reads f.passing
  where
    go : (w : Written) → read_line_of l ≡ some w → Passing (between h r) ls w → FirstInstruction h r k l ls
    go (Written.header g) e t = unfold header_fits_of between in absurd (true≢false (sym t.header))
    go (Written.line i) e t = plain i e (line_step h r k l ls i a e)
    go (Written.noise n) e t = noisy n e (noise_step h r k l ls n a e)
    go (Written.element w P) e t = unfold expected between in absurd (true≢false (sym t.due))
