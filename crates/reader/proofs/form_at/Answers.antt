-- `reader::form_at` meets its contract. Assumes nothing.
use native.Mathlib.Omega.{arith}
use mathlib.Core.Path.{refl, ap}
use mathlib.Core.List.{[], ◌∷◌}
use Rattle.text.specs.Bytes.{bytes}
use Rattle.job.specs.Grammar.{forms}
use Rattle.text.proofs.Laws.Places.{literals}
use Rattle.reader.specs.declared.Form.TheVariants as form
use Rattle.reader.specs.Parsed.{place_of}
use Rattle.reader.specs.Tried.{only}
use Rattle.reader.specs.Laws.Sift.{sift, opens, opening, is_among, all_among, none_opening, read_short}
use Rattle.reader.specs.Laws.Tried.{not_parsed, none_left, by_bytes}
use Rattle.reader.proofs.form_at.Goals as goal

pub returns-then-line-lt-LETTER_END : goal.returns-then-line-lt-LETTER_END
returns-then-line-lt-LETTER_END c = not_parsed (read_short _ c.if-line-lt-LETTER_END.true)

pub bounds-line-0 : goal.bounds-line-0
bounds-line-0 c = omega arith

pub bounds-line-3 : goal.bounds-line-3
bounds-line-3 c = omega arith

pub operation-requires : goal.operation-requires
operation-requires c = (c.in-111.is, refl, c.requires)

pub returns-in-111 : goal.returns-in-111
returns-in-111 c = c.operation.ensures

pub returns-in-120 : goal.returns-in-120
unfolding sift opens literals place_of forms bytes
returns-in-120 c = by_bytes 120 _ c.in-120.is refl (only form.Element) refl c.element.ensures

pub returns-in-119 : goal.returns-in-119
unfolding sift opens literals place_of forms bytes
returns-in-119 c = by_bytes 119 _ c.in-119.is refl (only form.WeightedElement) refl c.weighted_element.ensures

pub returns-in_default : goal.returns-in_default
unfolding sift opens literals place_of forms bytes is_among all_among
returns-in_default c = by_bytes _ _ refl refl [] (ap (opening 3 _) (none_opening 0 _ (119 ∷ 120 ∷ 111 ∷ []) forms refl c.in_default.in_default-own.rest)) none_left
