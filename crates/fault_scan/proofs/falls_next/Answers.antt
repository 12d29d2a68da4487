-- `fault_scan::falls_next` meets its contract.
use Rattle.std.proofs.Common.{◌≡◌, ℕ, true, sym, ◌∙◌, subst, true≢false}
use Rattle.draws.specs.Draws.{falls}
use Rattle.noise.specs.Laws.Words.{word_read}
use Rattle.fault_scan.proofs.falls_next.Goals as goal

pub returns-in-Some : goal.returns-in-Some
returns-in-Some c =
    let a = c.args in
    λ yes. subst (λ (x : ℕ). falls x a.p ≡ true) (word_read c.next_word.ensures c.in-Some.is).1 (sym c.is_fault.ensures ∙ yes)

pub returns-in-None : goal.returns-in-None
returns-in-None c = λ no. absurd (true≢false (sym no))
