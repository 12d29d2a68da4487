-- `check_lines::clifford_number` meets its contract. Assumes nothing.
use Prim.Native.Nat.{ℕ}
use native.Mathlib.Omega.{arith}
use mathlib.Core.Path.{sym, ap, ◌∙◌}
use mathlib.Core.List.{List}
use borrow.Author.Tests.{lt-leb, le-leb}
use lib.Dec.{leb}
use lib.ListN.{length}
use Rattle.text.specs.Template.{list_at_of}
use Rattle.job.specs.Clifford.{table_of, is_clifford_of}
use Rattle.check_values.specs.Laws.Lowest.{none_bad, fails, passes, left_false, right_false, both_true, one_short}
use Rattle.check_lines.specs.Laws.Lines.{words_for, tests_clifford, words_kept}
use Rattle.check_lines.proofs.clifford_number.Goals as goal

pub returns-then-not-below : goal.returns-then-not-below
returns-then-not-below c =
    λ vs w h.
    let t = tests_clifford c.args.c h in
    fails 4 _ _ (sym (c.below.ensures _ _ vs t.held (omega arith)) ∙ c.if-not-below.true) ∙ t.own

pub returns-then-k-gt-MAX_CLIFFORD_QUBITS : goal.returns-then-k-gt-MAX_CLIFFORD_QUBITS
returns-then-k-gt-MAX_CLIFFORD_QUBITS c =
    λ vs w h.
    let t = tests_clifford c.args.c h in
    let size = c.count-k.ensures ∙ t.held.count 0 (omega arith) in
    fails 5 _ _ (left_false _ _ (left_false _ _ (lt-leb _ _ (rw size at c.if-k-gt-MAX_CLIFFORD_QUBITS.true))))
    ∙ passes 4 _ _ (sym (c.below.ensures _ _ vs t.held (omega arith)) ∙ c.if-not-below.false)
    ∙ t.own

pub returns-then-not-slot_distinct : goal.returns-then-not-slot_distinct
returns-then-not-slot_distinct c =
    λ vs w h.
    let t = tests_clifford c.args.c h in
    let once = c.slot_distinct.ensures _ _ vs t.held (omega arith) in
    fails 5 _ _ (left_false _ _ (right_false (leb (length (list_at_of 0 vs)) 8) _ (sym once ∙ c.if-not-slot_distinct.true)))
    ∙ passes 4 _ _ (sym (c.below.ensures _ _ vs t.held (omega arith)) ∙ c.if-not-below.false)
    ∙ t.own

pub slice_bounds-is_clifford-end : goal.slice_bounds-is_clifford-end
slice_bounds-is_clifford-end c = rw (c.kept-words.ensures, c.table_words-n.ensures) (sym (words_for _ c.args.f.words.now c.args.f.whole c.if-k-gt-MAX_CLIFFORD_QUBITS.false).long)

pub is_clifford-requires : goal.is_clifford-requires
is_clifford-requires c = rw (c.kept-words.ensures, c.table_words-n.ensures) (words_for _ c.args.f.words.now c.args.f.whole c.if-k-gt-MAX_CLIFFORD_QUBITS.false)

pub returns-then-not-is_clifford : goal.returns-then-not-is_clifford
returns-then-not-is_clifford c =
    λ vs w h.
    let t = tests_clifford c.args.c h in
    let size = c.count-k.ensures ∙ t.held.count 0 (omega arith) in
    let few = rw size at c.if-k-gt-MAX_CLIFFORD_QUBITS.false in
    let words = ap (λ (ws : List ℕ). is_clifford_of (length (list_at_of 0 vs)) (table_of ws)) (words_kept c.args.c h c.args.f.whole few) in
    let right = rw (c.kept-words.ensures, c.table_words-n.ensures, size) at c.is_clifford.ensures ∙ words in
    let once = c.slot_distinct.ensures _ _ vs t.held (omega arith) in
    fails 7 _ _ (sym right ∙ c.if-not-is_clifford.true)
    ∙ passes 5 _ _ (both_true (both_true (le-leb _ _ few) (sym once ∙ c.if-not-slot_distinct.false)) (one_short vs 0 (omega (arith, few))))
    ∙ passes 4 _ _ (sym (c.below.ensures _ _ vs t.held (omega arith)) ∙ c.if-not-below.false)
    ∙ t.own

pub returns : goal.returns
returns c =
    λ vs w h.
    let t = tests_clifford c.args.c h in
    let size = c.count-k.ensures ∙ t.held.count 0 (omega arith) in
    let few = rw size at c.if-k-gt-MAX_CLIFFORD_QUBITS.false in
    let words = ap (λ (ws : List ℕ). is_clifford_of (length (list_at_of 0 vs)) (table_of ws)) (words_kept c.args.c h c.args.f.whole few) in
    let right = rw (c.kept-words.ensures, c.table_words-n.ensures, size) at c.is_clifford.ensures ∙ words in
    let once = c.slot_distinct.ensures _ _ vs t.held (omega arith) in
    none_bad ∙ passes 7 _ _ (sym right ∙ c.if-not-is_clifford.false)
    ∙ passes 5 _ _ (both_true (both_true (le-leb _ _ few) (sym once ∙ c.if-not-slot_distinct.false)) (one_short vs 0 (omega (arith, few))))
    ∙ passes 4 _ _ (sym (c.below.ensures _ _ vs t.held (omega arith)) ∙ c.if-not-below.false)
    ∙ t.own
