-- `replay::record::Record::same_text` meets its contract. Assumes nothing.
use mathlib.Core.Path.{refl}
use Rattle.replay.proofs.Begun.{begun, ok_says}
use Rattle.replay.proofs.record.Record.same_text.Goals as goal

pub returns : goal.returns
returns c =
    let answered = c.in_ok-same_answer.ensures.0 refl in
    ok_says c.same_front.result (λ h. (answered.0, answered.1, answered.2, begun c.args.out.now c.args.text.now h)) c.same_front.ensures
