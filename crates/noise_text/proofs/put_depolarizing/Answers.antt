-- `noise_text::put_depolarizing` meets its contract. Assumes nothing.
use mathlib.Core.Path.{refl, sym}
use native.Mathlib.Omega.{arith}
use mathlib.Core.List.{List}
use Prim.Native.Nat.{ℕ}
use lib.ListN.{replicate, length-append}
use Rattle.draws.specs.Settle.{inject_text}
use Rattle.draws.specs.Draws.{depolarizing_element_of}
use Rattle.noise_text.specs.Laws.Lists.{few_selected}
use Rattle.noise_text.specs.Laws.Members.{both_length, both_x, both_z, both_lent}
use Rattle.noise_text.proofs.put_depolarizing.Goals as goal

abbrev zeros : List ℕ
zeros = replicate 31 0

pub slice_bounds-members-end-2 : goal.slice_bounds-members-end-2
slice_bounds-members-end-2 c = omega (arith, length-append c.select-x.new.list zeros, c.select-x.auto)

pub slice_bounds-put_inject-end-2 : goal.slice_bounds-put_inject-end-2
slice_bounds-put_inject-end-2 c = sym (both_length c.select-x.new.list c.select-z.new.list zeros refl c.select-x.auto.list c.select-z.auto.list)

pub put_inject-requires : goal.put_inject-requires
put_inject-requires c = (both_lent c.select-x.new.list c.select-z.new.list zeros refl c.select-x.auto.list c.select-z.auto.list _ _ (omega (arith, few_selected c.select-x.ensures, c.requires.1)) (omega (arith, few_selected c.select-z.ensures, c.requires.1)), omega (arith, c.requires.0))

pub returns : goal.returns
unfolding inject_text depolarizing_element_of
returns c = rw (both_x c.select-x.new.list c.select-z.new.list zeros refl c.select-x.auto.list c.select-z.auto.list c.select-x.result (omega (arith, few_selected c.select-x.ensures, c.requires.1)), both_z c.select-x.new.list c.select-z.new.list zeros refl c.select-x.auto.list c.select-z.auto.list c.select-z.result (omega (arith, few_selected c.select-z.ensures, c.requires.1)), c.select-x.ensures.begins.list, c.select-z.ensures.begins.list) at c.put_inject.ensures
