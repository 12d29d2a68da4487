-- `check_lines::recorded_after` meets its contract. Assumes nothing.
use Rattle.std.proofs.Common.{inl, inr}
use Rattle.check_values.specs.Contexts.{context_of}
use Rattle.check_lines.specs.Laws.Header.{none_recorded, recorded_header, recorded_edition, recorded_measure, recorded_allocate}
use Rattle.instructions.specs.Laws.Meaning.{meaning}
use Rattle.check_lines.proofs.recorded_after.Goals as goal

pub returns-in-Header : goal.returns-in-Header
returns-in-Header c = λ vs w h.
    elim c.in-Header.is [ inl e ↦ recorded_header c.args.c vs w (rw e at h) | inr e ↦ recorded_edition c.args.c vs w (rw e at h) ]

pub returns-in-Measure : goal.returns-in-Measure
returns-in-Measure c = λ vs w h.
    elim c.in-Measure.is [ inl e ↦ recorded_measure c.args.c vs w (rw e at h) | inr e ↦ recorded_allocate c.args.c vs w (rw e at h) ]

pub returns-in_default : goal.returns-in_default
unfolding context_of
returns-in_default c = λ vs w h.
    none_recorded (context_of c.args.c) c.args.form
    c.in_default.not-Header
    c.in_default.not-EditionHeader
    c.in_default.not-Measure
    c.in_default.not-Allocate
    w
    (meaning _ vs w h)
