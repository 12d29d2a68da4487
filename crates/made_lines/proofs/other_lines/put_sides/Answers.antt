-- `made_lines::other_lines::put_sides` meets its contract. Assumes nothing.
use native.Mathlib.Omega.{arith}
use Rattle.text.specs.Bytes.{bytes}
use Rattle.made_lines.specs.Laws.Plain.{sides_x, sides_z}
use Rattle.made_lines.proofs.other_lines.put_sides.Goals as goal

pub returns-then-y-eq0 : goal.returns-then-y-eq0
returns-then-y-eq0 c = unfold bytes in (sides_x _ _ c.if-y-eq0.true c.put_members-next.ensures c.put_members-end.ensures c.put_bytes.ensures, omega (arith, c.put_members-next.ensures.near, c.put_members-end.ensures.near, c.put_bytes.ensures.place))

pub returns : goal.returns
returns c = unfold bytes in (sides_z _ _ c.if-y-eq0.false c.put_members-next-2.ensures c.put_members.ensures, omega (arith, c.put_members-next-2.ensures.near, c.put_members.ensures.near))
