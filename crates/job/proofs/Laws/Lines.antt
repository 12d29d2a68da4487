-- A line that has a form and passes its tests is sound: laws, a clause for each kind of line. Assumes nothing.
use Rattle.std.specs.Prelude.{ℕ, ◌≤◌, ◌≡◌, refl, Bool, true, false, not, ◌&&◌, ◌||◌, List, [], ◌∷◌, ◌++◌, eqb, ltb, leb, length}
use Rattle.std.proofs.Common.{arith, sym, ap, ◌∙◌, true≢false, ltb-true, leb-true, eqb-true, ne_eqb}
use Rattle.std.proofs.lemmas.Bool.{not-false, not-true}
use Rattle.text.specs.Written.{FitQ}
use Rattle.text.proofs.Laws.Values.{both}
use Rattle.job.specs.declared.Header.{Header}
use Rattle.job.specs.Line.{SparsePauli, Line}
use Rattle.job.specs.Grammar.{Written}
use Rattle.job.specs.Checks.{Context, all_below, each_below_of, each_short, distinct, line_tests, is_second_gate, is_second_line, is_second_of, in_edition_of, in_range, known_edition, lists_of}
use Rattle.job.specs.Sound.{Operands, PauliSound, NextOutcome, LineSound, HeaderSound}
use Rattle.pauli.specs.Gate.{operands_of}
use Rattle.job.specs.Clifford.{max_clifford_qubits}
use Rattle.job.proofs.Laws.Table.{clifford_small}
use Rattle.job.proofs.Laws.Lists.{below_first}
use Rattle.job.proofs.Laws.Tests.{AllPass}
use Rattle.job.specs.Fits.{PauliFits, LineFits}

-- ---- tests 4 and 5 on lists

module _ (n : ℕ) where
  -- each of the lists is below n
  first_below : (l : List ℕ) (ls : List (List ℕ)) → each_below_of n (l ∷ ls) ≡ true → (all_below n l ≡ true) × (each_below_of n ls ≡ true)
  unfolding each_below_of
  first_below l ls e = both (all_below n l) (each_below_of n ls) e

pub first_short : (l : List ℕ) (ls : List (List ℕ)) → each_short (l ∷ ls) ≡ true → (length l ≤ 31) × (each_short ls ≡ true)
unfolding each_short
first_short l ls e = let parts = both (leb (length l) 31) (each_short ls) e in (leb-true _ _ parts.0, parts.1)

-- a Pauli whose two lists are the first
first_pauli : (n : ℕ) (P : SparsePauli) (ls : List (List ℕ)) → PauliFits P → each_below_of n (lists_of P ++ ls) ≡ true → each_short (lists_of P ++ ls) ≡ true
    → PauliSound n P × (each_below_of n ls ≡ true) × (each_short ls ≡ true)
first_pauli n P ls f b s =
    let bx = first_below n P.x (P.z ∷ ls) b in
    let bz = first_below n P.z ls bx.1 in
    let sx = first_short P.x (P.z ∷ ls) s in
    let sz = first_short P.z ls sx.1 in (
      record {
        x = record { rising = f.x.rising; below = bx.0; few = sx.0 };
        z = record { rising = f.z.rising; below = bz.0; few = sz.0 };
      },
      bz.1,
      sz.1,
    )

pub pauli_sound : (n : ℕ) (P : SparsePauli) → PauliFits P → each_below_of n (lists_of P) ≡ true → each_short (lists_of P) ≡ true → PauliSound n P
pauli_sound n P f b s = (first_pauli n P [] f b s).0

pub operands_sound : (n : ℕ) (qs : List ℕ) → FitQ qs → each_below_of n (qs ∷ []) ≡ true → distinct qs ≡ true → each_short (qs ∷ []) ≡ true → Operands n qs
operands_sound n qs f b d s =
    record { filled = f.filled; few = (first_short qs [] s).0; apart = d; below = (first_below n qs [] b).0 }

-- an outcome's id by test 8
outcome_sound : (c : Context) (id : ℕ) → (eqb id c.recorded && ltb id c.header.outcomes) ≡ true → NextOutcome c.header.outcomes c.recorded id
outcome_sound c id e =
    let parts = both (eqb id c.recorded) (ltb id c.header.outcomes) e in
    record { next = eqb-true _ _ parts.0; below = ltb-true _ _ parts.1 }

-- ---- lines

-- what stands in the second edition alone
second_only : (e : ℕ) (b : Bool) → (not b || eqb e 2) ≡ true → b ≡ true → e ≡ 2
second_only e true h q = eqb-true e 2 h
second_only e false h q = absurd (true≢false (sym q))

pub line_sound : (c : Context) (l : Line) → LineFits l → in_edition_of c (Written.line l) ≡ true → AllPass (line_tests c l) → LineSound c.header c.recorded l
unfolding LineFits line_tests LineSound is_second_of is_second_line
line_sound c (Line.unitary g qs) f e t =
    let lists = both _ (each_short (qs ∷ [])) (not-false _ t.1.0) in
    let own = both (eqb (length qs) (operands_of g)) (distinct qs) lists.0 in
    record {
      operands = operands_sound _ qs f (not-false _ t.0) own.1 lists.1;
      count = eqb-true _ _ own.0;
      known = λ y. second_only _ (is_second_gate g) e (ap is_second_gate y ∙ unfold is_second_gate in refl);
    }
line_sound c (Line.clifford qs m) f e t =
    let lists = both _ (each_short (qs ∷ [])) (not-false _ t.1.0) in
    let own = both (leb (length qs) max_clifford_qubits) (distinct qs) lists.0 in
    let table = not-false _ t.1.1.0 in
    record {
      operands = operands_sound _ qs f (not-false _ t.0) own.1 lists.1;
      few = leb-true _ _ own.0;
      table = table;
      small = clifford_small _ m table;
    }
line_sound c (Line.pauli P) f e t = pauli_sound _ P f (not-false _ t.0) (not-false _ t.1.0)
line_sound c (Line.exponential P) f e t = pauli_sound _ P f (not-false _ t.0) (not-false _ t.1.0)
line_sound c (Line.controlled C T) f e t =
    let control = first_pauli _ C (lists_of T) f.0 (not-false _ t.0) (not-false _ t.1.0) in
    record { control = control.0; target = pauli_sound _ T f.1 control.1 control.2; commute = not-true _ (not-false _ t.1.1.0) }
line_sound c (Line.permute s qs) f e t =
    let lists = both (distinct qs) (each_short (s ∷ qs ∷ [])) (not-false _ t.1.0) in
    let rest = first_short s (qs ∷ []) lists.1 in
    record { operands = operands_sound _ qs f.1 (not-false _ t.0) lists.0 rest.1; places = not-false _ t.1.1.0 }
line_sound c (Line.measure P id) f e t =
    record {
      observable = pauli_sound _ P f.0 (not-false _ t.0) (not-false _ t.1.0);
      outcome = outcome_sound c id (not-false _ t.1.1.0);
    }
line_sound c (Line.allocate id angle) f e t = outcome_sound c id (not-false _ t.0)
line_sound c (Line.conditional P ids par) f e t =
    let rest = first_short ids (lists_of P) (not-false _ t.1.0) in
    record {
      pauli = pauli_sound _ P f.0 (not-false _ t.0) rest.1;
      known = record { rising = f.1.rising; below = not-false _ t.1.1.0; few = rest.0 };
    }
line_sound c (Line.reset qs) f e t =
    let lists = both (distinct qs) (each_short (qs ∷ [])) (not-false _ t.1.0) in
    record {
      operands = operands_sound _ qs f (not-false _ t.0) lists.0 lists.1;
      several = λ k. second_only _ (not (eqb (length qs) 1)) e (ap not (ne_eqb (length qs) 1 (λ one. omega (arith, one, k))));
    }
line_sound c (Line.inject shot P) f e t =
    record { within = ltb-true _ _ (not-false _ t.1.1.0); pauli = pauli_sound _ P f.1 (not-false _ t.0) (not-false _ t.1.0) }
line_sound c (Line.flip shot id) f e t = record { within = ltb-true _ _ (not-false _ t.1.0); known = (below_first _ id [] (not-false _ t.0)).0 }
line_sound c (Line.barrier qs) f e t =
    let lists = both (distinct qs) (each_short (qs ∷ [])) (not-false _ t.1.0) in
    record { operands = operands_sound _ qs f (not-false _ t.0) lists.0 lists.1; second = second_only _ true e refl }

-- ---- the header

pub header_sound : (h : Header) → in_range h ≡ true → known_edition h.edition ≡ true → HeaderSound h
header_sound h e k =
    let known = both (leb 1 h.edition) (leb h.edition 2) k in
    let a = both _ (leb h.shots 4096) e in
    let b = both _ (leb 1 h.shots) a.0 in
    let c = both _ (leb h.outcomes 1024) b.0 in
    let d = both (leb 1 h.qubits) (leb h.qubits 256) c.0 in
    record {
      some_edition = leb-true _ _ known.0;
      two_editions = leb-true _ _ known.1;
      some_qubits = leb-true _ _ d.0;
      few_qubits = leb-true _ _ d.1;
      few_outcomes = leb-true _ _ c.1;
      some_shots = leb-true _ _ b.1;
      few_shots = leb-true _ _ a.1;
    }
