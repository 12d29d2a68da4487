use Rattle.std.proofs.Common.{◌≡◌, ℕ, true, false, sym, ◌∙◌, subst, arith, length-append}
use Rattle.draws.specs.Draws.{falls}
use Rattle.fault_scan.specs.Scan.{Quiet}
use Rattle.fault_scan.specs.Laws.Scan.{quiet_none, quiet_more}
use Rattle.fault_scan.proofs.pass_near.Goals as goal

pub loop-i-init : goal.loop-i-init
loop-i-init c = (omega arith, quiet_none)

pub overflow_add-at : goal.overflow_add-at
overflow_add-at c =
    record { fits = omega (arith, length-append c.args.words.now c.args.more.now, c.well_formed) }

pub returns-then-is_fault : goal.returns-then-is_fault
returns-then-is_fault c =
    let a = c.args in
    record {
      within = omega arith;
      quiet = c.loop-i.invariant.1;
      falling = λ l. subst (λ (x : ℕ). falls x a.p ≡ true) c.word_at.ensures (sym c.is_fault.ensures ∙ c.if-is_fault.true);
    }

pub loop-i-preserved : goal.loop-i-preserved
loop-i-preserved c =
    let a = c.args in
    let word = c.word_at.ensures in (
      omega arith,
      quiet_more c.loop-i.invariant.1 (subst (λ (x : ℕ). falls x a.p ≡ false) word (sym c.is_fault.ensures ∙ c.if-is_fault.false)),
    )

pub returns : goal.returns
returns c =
    let all : c.loop-i.i ≡ c.args.n = omega arith in
    record { within = omega arith; quiet = subst (Quiet c.args.p _ c.args.at) all c.loop-i.invariant.1; falling = λ l. absurd (omega arith) }
