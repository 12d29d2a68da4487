-- `checker::tests::own_number` meets its contract. Assumes nothing.
use native.Mathlib.Omega.{arith}
use mathlib.Core.Path.{◌∙◌}
use Rattle.check_lines.specs.Laws.Elements.{unread_said}
use Rattle.check_lines.specs.Laws.Lines.{tests_header, tests_edition, tests_pauli, tests_exponential, tests_reset, tests_barrier}
use Rattle.check_lines.specs.Laws.Noise.{tests_uniform, tests_weighted, tests_element}
use Rattle.check_lines.specs.Laws.Elements.{no_weights, with_weights}
use Rattle.checker.proofs.tests.own_number.Goals as goal

pub returns-in-Unread : goal.returns-in-Unread
returns-in-Unread c = λ vs w h x. absurd (unread_said (rw c.in-Unread.is at h))

pub returns-in-Header : goal.returns-in-Header
returns-in-Header c = λ vs w h x. tests_header c.args.c (rw c.in-Header.is at h)

pub returns-in-Unitary : goal.returns-in-Unitary
returns-in-Unitary c = λ vs w h x. c.unitary_number.ensures vs w (rw c.in-Unitary.is at h)

pub returns-in-Clifford : goal.returns-in-Clifford
returns-in-Clifford c = λ vs w h x. c.clifford_number.ensures vs w (rw c.in-Clifford.is at h)

pub returns-in-Pauli : goal.returns-in-Pauli
returns-in-Pauli c =
    λ vs w h x.
    let t = tests_pauli c.args.c (rw c.in-Pauli.is at h) in
    c.pauli_number.ensures _ _ vs t.held (omega arith) ∙ t.own

pub returns-in-Exponential : goal.returns-in-Exponential
returns-in-Exponential c =
    λ vs w h x.
    let t = tests_exponential c.args.c (rw c.in-Exponential.is at h) in
    c.pauli_number-in-Exponential.ensures _ _ vs t.held (omega arith) ∙ t.own

pub returns-in-Controlled : goal.returns-in-Controlled
returns-in-Controlled c = λ vs w h x. c.controlled_number.ensures vs w (rw c.in-Controlled.is at h)

pub returns-in-Permute : goal.returns-in-Permute
returns-in-Permute c = λ vs w h x. c.permute_number.ensures vs w (rw c.in-Permute.is at h)

pub returns-in-Measure : goal.returns-in-Measure
returns-in-Measure c = λ vs w h x. c.measure_number.ensures vs w (rw c.in-Measure.is at h)

pub returns-in-Allocate : goal.returns-in-Allocate
returns-in-Allocate c = λ vs w h x. c.allocate_number.ensures vs w (rw c.in-Allocate.is at h)

pub returns-in-Conditional : goal.returns-in-Conditional
returns-in-Conditional c = λ vs w h x. c.conditional_number.ensures vs w (rw c.in-Conditional.is at h)

pub returns-in-Reset : goal.returns-in-Reset
returns-in-Reset c =
    λ vs w h x.
    let t = tests_reset c.args.c (rw c.in-Reset.is at h) in
    c.operands_number.ensures _ _ vs t.held (omega arith) ∙ t.own

pub returns-in-Inject : goal.returns-in-Inject
returns-in-Inject c = λ vs w h x. c.inject_number.ensures vs w (rw c.in-Inject.is at h)

pub returns-in-Flip : goal.returns-in-Flip
returns-in-Flip c = λ vs w h x. c.flip_number.ensures vs w (rw c.in-Flip.is at h)

pub returns-in-Single : goal.returns-in-Single
returns-in-Single c = λ vs w h x. c.single_number.ensures vs w (rw c.in-Single.is at h)

pub returns-in-Depolarizing : goal.returns-in-Depolarizing
returns-in-Depolarizing c = λ vs w h x. c.depolarizing_number.ensures vs w (rw c.in-Depolarizing.is at h)

pub returns-in-Uniform : goal.returns-in-Uniform
returns-in-Uniform c =
    λ vs w h x.
    let t = tests_uniform c.args.c (rw c.in-Uniform.is at h) in
    c.listed_number.ensures vs t.held ∙ t.own

pub returns-in-Weighted : goal.returns-in-Weighted
returns-in-Weighted c =
    λ vs w h x.
    let t = tests_weighted c.args.c (rw c.in-Weighted.is at h) in
    c.listed_number-in-Weighted.ensures vs t.held ∙ t.own

pub returns-in-Element : goal.returns-in-Element
returns-in-Element c =
    λ vs w h x.
    let s = rw c.in-Element.is at h in
    let t = tests_element c.args.c s (no_weights c.args.c s x) in
    c.pauli_number-in-Element.ensures _ _ vs t.held (omega arith) ∙ t.own

pub returns-in-WeightedElement : goal.returns-in-WeightedElement
returns-in-WeightedElement c =
    λ vs w h x.
    let s = rw c.in-WeightedElement.is at h in
    c.weighted_element_number.ensures vs w s (with_weights c.args.c s x)

pub returns-in-EditionHeader : goal.returns-in-EditionHeader
returns-in-EditionHeader c =
    λ vs w h x.
    let t = tests_edition c.args.c (rw c.in-EditionHeader.is at h) in
    let edition = c.number.ensures ∙ t.held.number 0 (omega arith) in
    (rw edition at c.edition_number.ensures) ∙ t.own

pub returns-in-Barrier : goal.returns-in-Barrier
returns-in-Barrier c =
    λ vs w h x.
    let t = tests_barrier c.args.c (rw c.in-Barrier.is at h) in
    c.operands_number-in-Barrier.ensures _ _ vs t.held (omega arith) ∙ t.own
