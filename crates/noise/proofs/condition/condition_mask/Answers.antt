-- `noise::condition::condition_mask` meets its contract.
use Rattle.std.proofs.Common.{ℕ, ◌≡◌, List, ◌++◌, drop, replicate, ap, ◌∙◌, length-take-le}
use Rattle.noise.specs.Laws.Condition.{masks}
use Rattle.noise.proofs.condition.condition_mask.Goals as goal

pub returns : goal.returns
returns c =
    let a = c.args in
    let filled : c.fill.new.self ≡ replicate a.width c.start_mask.result =
    c.fill.ensures.after (λ y e. e) ∙ ap (λ (n : ℕ). replicate n c.start_mask.result) (length-take-le a.width a.mask.now c.requires.0) in
    masks _ _ _ _ a.parity c.start_mask.ensures _ _ _ c.requires.0 (ap (λ (l : List ℕ). l ++ drop a.width a.mask.now) filled) c.add_listed.ensures
