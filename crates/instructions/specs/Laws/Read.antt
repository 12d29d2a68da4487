-- What the values of a plain line of each kind say. Laws. Assumes nothing.
use Rattle.std.specs.Prelude.{ℕ, zero, suc, ◌≤◌, ◌<◌, ◌≡◌, refl, List, [], ◌∷◌, length, get_or}
use Rattle.std.proofs.Common.{arith, sym, ap₂, ◌∙◌, subst}
use Rattle.std.proofs.Math.Decide.{ℕ_discrete, dec_lt}
use Rattle.std.proofs.Math.Option.{some}
use Rattle.pauli.specs.Gate.{Gate, I, X, Y, Z, Hadamard, SqrtZ, SqrtZInv, SqrtX, SqrtXInv, SqrtY, SqrtYInv, ControlledX, ControlledZ, Swap, PrepareBell, ControlledY, gate_of, operands_of}
use Rattle.pauli.proofs.Laws.Code.{gate_none}
use Rattle.text.specs.Bytes.{bytes}
use Rattle.text.specs.Template.{Value, numbers_in, lists_in, number_at, list_at_of}
use Rattle.template.specs.Values.{Whole, AllKept, held_number, held_list}
use Rattle.template.specs.Fields.{Held}
use Rattle.template.specs.Laws.Fields.{list_held}
use Rattle.job.specs.Line.{SparsePauli, Line}
use Rattle.job.specs.Clifford.{table_of}
use Rattle.job.specs.Grammar.{Written, header_with, is_one, forms}
use Rattle.job.specs.Sound.{LineSound}
use Rattle.job.proofs.Laws.Permutation.{permutation_parts}
use Rattle.job.proofs.Laws.Table.{few_words}
use Rattle.reader.specs.declared.Form.{Form}
use Rattle.reader.specs.declared.Form.TheVariants as form
use Rattle.reader.specs.Parsed.{place_of}
use Rattle.tables.specs.Rows.{TableFor}
use Rattle.instructions.specs.Laws.Meaning.{unitary_said, clifford_said}
use Rattle.instructions.specs.Plain.{held_pauli, Plain}

-- ---- lists and numbers by their places

-- the first n values of a function
abbrev pub firsts : {A : Type 0} → (ℕ → A) → ℕ → List A
firsts g zero = []
firsts g (suc n) = g 0 ∷ firsts (λ i. g (suc i)) n

-- a list by its members
firsts_are : {A : Type 0} (a : A) (g : ℕ → A) (l : List A) → ((i : ℕ) → i < length l → get_or l i a ≡ g i) → l ≡ firsts g (length l)
firsts_are a g [] h = refl
firsts_are a g (b ∷ l) h = λ i. h 0 (omega arith) i ∷ firsts_are a (λ i. g (suc i)) l (λ i k. h (suc i) (omega arith)) i

module _ {f : List ℕ} {a b : ℕ} {vs : List Value} (h : Held f a b vs) where
  numbers_held : numbers_in vs ≡ firsts (λ i. held_number f i) a
  numbers_held = rw (← h.numbers_in_lem) (firsts_are 0 (λ i. held_number f i) (numbers_in vs) (λ i k. sym (h.number i (omega (arith, h.numbers_in_lem)))))

  lists_held : Whole f → ((i : ℕ) → i < b → AllKept f i) → lists_in vs ≡ firsts (held_list f) b
  lists_held wide few =
      rw (← h.lists_in_lem)
      (firsts_are [] (held_list f) (lists_in vs) (λ i k. let g : i < b = omega (arith, h.lists_in_lem) in sym (list_held h wide i g (few i g))))

-- ---- a line by its values

pub written_line : {a b : Line} → some (Written.line a) ≡ some (Written.line b) → a ≡ b
written_line e = cc

line_of : {a b : Line} → Written.line a ≡ Written.line b → a ≡ b
line_of e = cc

-- The line is l, whose lists are kept whole.
pub record Read {form : Form} {f : List ℕ} {w n m : ℕ} {line : Line} (p : Plain form f w n m line) (lists : ℕ) (l : Line) : Type 0 where
  pub few : (i : ℕ) → i < lists → AllKept f i
  pub is : l ≡ line
  pub sound : LineSound (header_with p.edition n m p.shots) p.recorded l

module _ {kind : Form} {f : List ℕ} {w n m : ℕ} {line : Line} (p : Plain kind f w n m line) where
  by_values : (a b : ℕ) (l : List (List ℕ) → List ℕ → Line) → Held f a b p.values → l (lists_in p.values) (numbers_in p.values) ≡ line
      → (LineSound (header_with p.edition n m p.shots) p.recorded (l (lists_in p.values) (numbers_in p.values))
      → (i : ℕ) → i < b → length (list_at_of i p.values) ≤ 31)
      → Read p b (l (firsts (held_list f) b) (firsts (λ i. held_number f i) a))
  by_values a b l h e short =
      let few : (i : ℕ) → i < b → AllKept f i = λ i k. rw (h.count i k) (short (subst (LineSound _ _) (sym e) p.sound) i k) in
      let is = sym (ap₂ l (lists_held h p.wide few) (numbers_held h)) ∙ e in
      record {
        few = few;
        is = is;
        sound = subst (LineSound _ _) (sym is) p.sound;
      }

-- what holds at each place below a number
none_below : (P : ℕ → Type 0) (i : ℕ) → i < 0 → P i
none_below P i h = absurd (omega arith)

and_at : (P : ℕ → Type 0) (k : ℕ) → ((i : ℕ) → i < k → P i) → P k → (i : ℕ) → i < suc k → P i
and_at P k before here i h = go (ℕ_discrete i k)
  where
    go : Dec (i ≡ k) → P i
    go (yes e) = rw e here
    go (no e) = before i (omega arith)

module _ (P : ℕ → Type 0) where
  at_one : P 0 → (i : ℕ) → i < 1 → P i
  at_one a = and_at P 0 (none_below P) a

  at_two : P 0 → P 1 → (i : ℕ) → i < 2 → P i
  at_two a b = and_at P 1 (at_one a) b

  at_three : P 0 → P 1 → P 2 → (i : ℕ) → i < 3 → P i
  at_three a b c = and_at P 2 (at_two a b) c

  at_four : P 0 → P 1 → P 2 → P 3 → (i : ℕ) → i < 4 → P i
  at_four a b c d = and_at P 3 (at_three a b c) d

-- ---- each kind of line

-- the Pauli of two lists of a line
abbrev pauli_in : ℕ → ℕ → List (List ℕ) → SparsePauli
pauli_in i j ls = record { x = get_or ls i []; z = get_or ls j [] }

module _ {f : List ℕ} {w n m : ℕ} {line : Line} where
  pub unitary_read : (p : Plain form.Unitary f w n m line) → (g : Gate) × (gate_of (held_number f 0) ≡ some g) × Read p 1 (Line.unitary g (held_list f 0))
  unfolding forms place_of bytes LineSound
  unitary_read p =
      let (g, e, k) = unitary_said (gate_of (number_at 0 p.values)) (list_at_of 0 p.values) (Written.line line) p.said.says in (
        g,
        rw (p.said.held.number 0 (omega arith)) e,
        by_values p 1 1 (λ ls ns. Line.unitary g (get_or ls 0 [])) p.said.held (line_of k) (λ s. at_one _ s.operands.few),
      )

  pub clifford_read : (p : Plain form.Clifford f w n m line) → Read p 2 (Line.clifford (held_list f 0) (table_of (held_list f 1)))
  unfolding forms place_of bytes LineSound
  clifford_read p =
      let said = clifford_said (list_at_of 0 p.values) (list_at_of 1 p.values) (Written.line line) p.said.says in
      by_values p 0 2 (λ ls ns. Line.clifford (get_or ls 0 []) (table_of (get_or ls 1 []))) p.said.held (line_of said.1)
      (λ s. at_two _ s.operands.few (omega (arith, said.0 s.few, few_words _ s.few)))

  -- there are as many words as its table has
  pub clifford_table : (p : Plain form.Clifford f w n m line) → TableFor (length (held_list f 0)) (held_list f 1)
  unfolding forms place_of bytes LineSound
  clifford_table p =
      let said = clifford_said (list_at_of 0 p.values) (list_at_of 1 p.values) (Written.line line) p.said.says in
      let read = clifford_read p in
      let list : (i : ℕ) → i < 2 → held_list f i ≡ list_at_of i p.values = λ i h. list_held p.said.held p.wide i h (read.few i h) in
      let few = read.sound.few in
      let long = said.0 (rw (list 0 (omega arith)) at few) in
      record { few = few; long = rw (list 0 (omega arith), list 1 (omega arith)) long }

  pub exponential_read : (p : Plain form.Exponential f w n m line) → Read p 2 (Line.exponential (held_pauli f 0 1))
  unfolding forms place_of bytes LineSound
  exponential_read p =
      by_values p 0 2 (λ ls ns. Line.exponential (pauli_in 0 1 ls)) p.said.held (written_line p.said.says) (λ s. at_two _ s.x.few s.z.few)

  pub controlled_read : (p : Plain form.Controlled f w n m line)
      → Read p 4 (Line.controlled (held_pauli f 0 1) (held_pauli f 2 3))
  unfolding forms place_of bytes LineSound
  controlled_read p =
      by_values p 0 4 (λ ls ns. Line.controlled (pauli_in 0 1 ls) (pauli_in 2 3 ls)) p.said.held (written_line p.said.says)
      (λ s. at_four _ s.control.x.few s.control.z.few s.target.x.few s.target.z.few)

  pub permute_read : (p : Plain form.Permute f w n m line) → Read p 2 (Line.permute (held_list f 0) (held_list f 1))
  unfolding forms place_of bytes LineSound
  permute_read p =
      by_values p 0 2 (λ ls ns. Line.permute (get_or ls 0 []) (get_or ls 1 [])) p.said.held (written_line p.said.says)
      (λ s. at_two _ (rw (permutation_parts _ _ s.places).long s.operands.few) s.operands.few)

  pub measure_read : (p : Plain form.Measure f w n m line) → Read p 2 (Line.measure (held_pauli f 0 1) (held_number f 0))
  unfolding forms place_of bytes LineSound
  measure_read p =
      by_values p 1 2 (λ ls ns. Line.measure (pauli_in 0 1 ls) (get_or ns 0 0)) p.said.held (written_line p.said.says)
      (λ s. at_two _ s.observable.x.few s.observable.z.few)

  -- frames ignore the parity
  pub conditional_read : (p : Plain form.Conditional f w n m line)
      → Read p 3 (Line.conditional (held_pauli f 0 1) (held_list f 2) (is_one (held_number f 0)))
  unfolding forms place_of bytes LineSound
  conditional_read p =
      by_values p 1 3 (λ ls ns. Line.conditional (pauli_in 0 1 ls) (get_or ls 2 []) (is_one (get_or ns 0 0))) p.said.held (written_line p.said.says)
      (λ s. at_three _ s.pauli.x.few s.pauli.z.few s.known.few)

  pub reset_read : (p : Plain form.Reset f w n m line) → Read p 1 (Line.reset (held_list f 0))
  unfolding forms place_of bytes LineSound
  reset_read p =
      by_values p 0 1 (λ ls ns. Line.reset (get_or ls 0 [])) p.said.held (written_line p.said.says) (λ s. at_one _ s.operands.few)

  pub inject_read : (p : Plain form.Inject f w n m line) → Read p 2 (Line.inject (held_number f 0) (held_pauli f 0 1))
  unfolding forms place_of bytes LineSound
  inject_read p =
      by_values p 1 2 (λ ls ns. Line.inject (get_or ns 0 0) (pauli_in 0 1 ls)) p.said.held (written_line p.said.says)
      (λ s. at_two _ s.pauli.x.few s.pauli.z.few)

  pub flip_read : (p : Plain form.Flip f w n m line) → Read p 0 (Line.flip (held_number f 0) (held_number f 1))
  unfolding forms place_of bytes LineSound
  flip_read p =
      by_values p 2 0 (λ ls ns. Line.flip (get_or ns 0 0) (get_or ns 1 0)) p.said.held (written_line p.said.says) (λ s. none_below _)

-- ---- what the propagator asks besides

-- a gate's code is at most 15
pub gate_small : (code : ℕ) {g : Gate} → gate_of code ≡ some g → code ≤ 15
gate_small code {g} e = go (dec_lt code 16)
  where
    go : Dec (code < 16) → code ≤ 15
    go (yes h) = omega arith
    go (no h) = let k = gate_none code (omega arith) in let z : ◌≡◌ {A = ℕ} 0 1 = cc in absurd (omega arith)

-- how many operands a gate takes
pub few_operands : (g : Gate) → operands_of g ≤ 2
unfolding operands_of
few_operands I = omega arith
few_operands X = omega arith
few_operands Y = omega arith
few_operands Z = omega arith
few_operands Hadamard = omega arith
few_operands SqrtZ = omega arith
few_operands SqrtZInv = omega arith
few_operands SqrtX = omega arith
few_operands SqrtXInv = omega arith
few_operands SqrtY = omega arith
few_operands SqrtYInv = omega arith
few_operands ControlledX = omega arith
few_operands ControlledZ = omega arith
few_operands Swap = omega arith
few_operands PrepareBell = omega arith
few_operands ControlledY = omega arith

-- a form that is not one of these, whose line a run and a walk pass over unless it is noise
pub record Idle (f : Form) : Type 0 where
  pub unitary : f ≡ form.Unitary → ⊥
  pub clifford : f ≡ form.Clifford → ⊥
  pub exponential : f ≡ form.Exponential → ⊥
  pub controlled : f ≡ form.Controlled → ⊥
  pub permute : f ≡ form.Permute → ⊥
  pub measure : f ≡ form.Measure → ⊥
  pub conditional : f ≡ form.Conditional → ⊥
  pub reset : f ≡ form.Reset → ⊥
  pub inject : f ≡ form.Inject → ⊥
  pub flip : f ≡ form.Flip → ⊥
