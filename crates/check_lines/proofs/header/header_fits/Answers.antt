-- `check_lines::header::header_fits` meets its contract. Assumes nothing.
use mathlib.Core.Path.{◌∙◌}
use Rattle.check_values.specs.Contexts.{context_of}
use Rattle.check_lines.specs.Laws.Header.{header_before, header_said, edition_said, fits_header}
use Rattle.instructions.specs.Laws.Meaning.{meaning}
use Rattle.check_lines.proofs.header.header_fits.Goals as goal

pub returns-in-Header : goal.returns-in-Header
returns-in-Header c = λ vs w h. c.begins.ensures ∙ fits_header c.args.c (header_said (rw c.in-Header.is at h)) c.header_in.ensures

pub returns-in-EditionHeader : goal.returns-in-EditionHeader
returns-in-EditionHeader c = λ vs w h. c.begins-in-EditionHeader.ensures ∙ fits_header c.args.c (edition_said (rw c.in-EditionHeader.is at h)) c.edition_in.ensures

pub returns-in_default : goal.returns-in_default
unfolding context_of
returns-in_default c = λ vs w h.
    (header_before (context_of c.args.c) c.args.form
    c.in_default.not-Header
    c.in_default.not-EditionHeader
    w
    (meaning _ vs w h.says)
    ).0
