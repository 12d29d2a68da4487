-- `made_lines::other_lines::put_permute` meets its contract. Assumes nothing.
use mathlib.Core.Path.{sym}
use Rattle.made_fields.specs.Laws.Made.{pick_below}
use lib.Seq.{length-take-le}
use native.Mathlib.Omega.{arith}
use Rattle.text.specs.Bytes.{bytes}
use Rattle.made_lines.specs.Laws.Plain.{stretch_some, permute_made}
use Rattle.made_lines.proofs.other_lines.put_permute.Goals as goal

pub pick-r-requires : goal.pick-r-requires
pick-r-requires c = stretch_some _ _ c.requires.some_qubits c.stretch-q.ensures

pub cyclic-requires : goal.cyclic-requires
cyclic-requires c =
    let some = stretch_some _ _ c.requires.some_qubits c.stretch-q.ensures in
    let below = pick_below _ _ _ some c.pick-r.ensures in
    (omega (arith, c.stretch-q.ensures.short), some, omega (arith, below, c.stretch-q.ensures.short))

pub returns : goal.returns
returns c =
    unfold bytes in
    permute_made c.args.h _ c.stretch-q.ensures (sym (length-take-le _ _ (omega (arith, c.stretch-q.ensures.short)))) c.pick-r.ensures c.cyclic.ensures c.put_members-next.ensures c.put_members-end.ensures c.moved.ensures c.end_line.ensures
