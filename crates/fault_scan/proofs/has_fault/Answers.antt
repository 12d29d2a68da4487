use Rattle.std.proofs.Common.{◌≡◌, ℕ, ◌+◌, ◌-◌, ◌^◌, get_or, take, drop, ap, ◌∙◌, subst, arith, leb-false}
use Rattle.std.proofs.lemmas.List.{get_or-take, get_or-drop}
use Rattle.draws.specs.Draws.{falls}
use Rattle.fault_scan.specs.Scan.{Quiet}
use Rattle.fault_scan.specs.Laws.Scan.{seen_none, seen_next}
use Rattle.fault_scan.proofs.has_fault.Goals as goal

pub loop-word-init : goal.loop-word-init
loop-word-init c = (omega arith, seen_none)

pub loop-word-preserved : goal.loop-word-preserved
loop-word-preserved c =
    let a = c.args in
    let i = c.loop-word.word-index in
    let word : get_or (take (a.at + 8 - a.at) (drop a.at a.words.now)) i 0 ≡ get_or a.words.now (a.at + i) 0 =
    get_or-take _ _ i 0 (omega arith) ∙ get_or-drop a.at a.words.now i 0 in
    (omega arith, seen_next c.difference-seen.result c.loop-word.invariant.1 (λ p e. c.difference-seen.ensures p e ∙ ap (λ (x : ℕ). falls x p) word))

pub returns : goal.returns
returns c = λ no p e.
    let all : c.loop-word.word-index ≡ 8 = omega arith in
    subst (Quiet p _ _) all (c.loop-word.invariant.1.quiet (leb-false (2 ^ 63) c.loop-word.seen no) p e)
