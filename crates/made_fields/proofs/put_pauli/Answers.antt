-- `made_fields::put_pauli` meets its contract. Assumes nothing.
use mathlib.Core.Path.{sym}
use lib.ListN.{length-take}
use lib.Seq.{length-take-le}
use native.Mathlib.Omega.{arith}
use Rattle.text.specs.Bytes.{bytes}
use Rattle.made_fields.specs.Laws.Fields.{pauli_put}
use Rattle.made_fields.proofs.put_pauli.Goals as goal

pub slice_bounds-put_members-end : goal.slice_bounds-put_members-end
slice_bounds-put_members-end c = sym (length-take-le _ _ (omega arith))

pub put_members-next-requires : goal.put_members-next-requires
put_members-next-requires c = (omega arith, omega (arith, length-take c.few-xs.result.count c.few-xs.new.list, c.few-xs.ensures.short), omega arith)

pub put_members-end-requires : goal.put_members-end-requires
put_members-end-requires c = (omega arith, omega (arith, length-take c.few-zs.result.count c.few-zs.new.list, c.few-zs.ensures.short), omega (arith, c.put_members-next.ensures.near))

pub returns : goal.returns
returns c = unfold bytes in pauli_put c.args.n c.few-xs.ensures c.put_members-next.ensures c.few-zs.ensures c.put_members-end.ensures c.moved.ensures
