-- `reader::operation` meets its contract. Assumes nothing.
use mathlib.Core.Path.{refl, sym, ◌∙◌}
use mathlib.Core.List.{[], ◌∷◌}
use Rattle.text.specs.Bytes.{bytes}
use Rattle.job.specs.Grammar.{forms}
use Rattle.text.proofs.Laws.Places.{literals}
use Rattle.reader.specs.declared.Form.TheVariants as form
use Rattle.reader.specs.Parsed.{place_of}
use Rattle.reader.specs.Tried.{only, noise_forms, header_forms}
use Rattle.reader.specs.Laws.Sift.{sift, opens, opening, is_among, all_among, none_opening}
use Rattle.reader.specs.Laws.Tried.{none_left, by_bytes}
use Rattle.reader.proofs.operation.Goals as goal

pub returns-in-117 : goal.returns-in-117
unfolding sift opens literals place_of forms bytes
returns-in-117 c =
    let pre = c.requires in
    by_bytes 111 117 pre.0 (sym pre.1 ∙ c.in-117.is) (only form.Unitary) refl c.unitary.ensures

pub returns-in-110 : goal.returns-in-110
unfolding sift opens literals place_of forms bytes
returns-in-110 c =
    let pre = c.requires in
    by_bytes 111 110 pre.0 (sym pre.1 ∙ c.in-110.is) noise_forms refl c.noise.ensures

pub returns-in-105 : goal.returns-in-105
unfolding sift opens literals place_of forms bytes
returns-in-105 c =
    let pre = c.requires in
    by_bytes 111 105 pre.0 (sym pre.1 ∙ c.in-105.is) (only form.Inject) refl c.inject.ensures

pub returns-in-111 : goal.returns-in-111
unfolding sift opens literals place_of forms bytes
returns-in-111 c =
    let pre = c.requires in
    by_bytes 111 111 pre.0 (sym pre.1 ∙ c.in-111.is) (only form.Measure) refl c.measure.ensures

pub returns-in-107 : goal.returns-in-107
unfolding sift opens literals place_of forms bytes
returns-in-107 c =
    let pre = c.requires in
    by_bytes 111 107 pre.0 (sym pre.1 ∙ c.in-107.is) (only form.Controlled) refl c.controlled.ensures

pub returns-in-101 : goal.returns-in-101
unfolding sift opens literals place_of forms bytes
returns-in-101 c =
    let pre = c.requires in
    by_bytes 111 101 pre.0 (sym pre.1 ∙ c.in-101.is) (only form.Exponential) refl c.exponential.ensures

pub returns-in-112 : goal.returns-in-112
unfolding sift opens literals place_of forms bytes
returns-in-112 c =
    let pre = c.requires in
    by_bytes 111 112 pre.0 (sym pre.1 ∙ c.in-112.is) (only form.Pauli) refl c.pauli.ensures

pub returns-in-102 : goal.returns-in-102
unfolding sift opens literals place_of forms bytes
returns-in-102 c =
    let pre = c.requires in
    by_bytes 111 102 pre.0 (sym pre.1 ∙ c.in-102.is) (only form.Conditional) refl c.conditional.ensures

pub returns-in-99 : goal.returns-in-99
unfolding sift opens literals place_of forms bytes
returns-in-99 c =
    let pre = c.requires in
    by_bytes 111 99 pre.0 (sym pre.1 ∙ c.in-99.is) (only form.Clifford) refl c.clifford.ensures

pub returns-in-109 : goal.returns-in-109
unfolding sift opens literals place_of forms bytes
returns-in-109 c =
    let pre = c.requires in
    by_bytes 111 109 pre.0 (sym pre.1 ∙ c.in-109.is) (only form.Permute) refl c.permute.ensures

pub returns-in-114 : goal.returns-in-114
unfolding sift opens literals place_of forms bytes
returns-in-114 c =
    let pre = c.requires in
    by_bytes 111 114 pre.0 (sym pre.1 ∙ c.in-114.is) (only form.Allocate) refl c.allocate.ensures

pub returns-in-116 : goal.returns-in-116
unfolding sift opens literals place_of forms bytes
returns-in-116 c =
    let pre = c.requires in
    by_bytes 111 116 pre.0 (sym pre.1 ∙ c.in-116.is) (only form.Flip) refl c.flip.ensures

pub returns-in-122 : goal.returns-in-122
unfolding sift opens literals place_of forms bytes
returns-in-122 c =
    let pre = c.requires in
    by_bytes 111 122 pre.0 (sym pre.1 ∙ c.in-122.is) (only form.Reset) refl c.reset.ensures

pub returns-in-98 : goal.returns-in-98
unfolding sift opens literals place_of forms bytes
returns-in-98 c =
    let pre = c.requires in
    by_bytes 111 98 pre.0 (sym pre.1 ∙ c.in-98.is) (only form.Barrier) refl c.barrier.ensures

pub returns-in-106 : goal.returns-in-106
unfolding sift opens literals place_of forms bytes
returns-in-106 c =
    let pre = c.requires in
    by_bytes 111 106 pre.0 (sym pre.1 ∙ c.in-106.is) header_forms refl c.header.ensures

pub returns-in_default : goal.returns-in_default
unfolding sift opens literals place_of forms bytes is_among all_among
returns-in_default c =
    let pre = c.requires in
    by_bytes 111 _ pre.0 (sym pre.1) []
    (none_opening 3 _ (106 ∷ 98 ∷ 122 ∷ 116 ∷ 114 ∷ 109 ∷ 99 ∷ 102 ∷ 112 ∷ 101 ∷ 107 ∷ 111 ∷ 105 ∷ 110 ∷ 117 ∷ []) (opening 0 111 forms) refl c.in_default.in_default-own.rest)
    none_left
