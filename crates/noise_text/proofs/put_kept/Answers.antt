-- `noise_text::put_kept` meets its contract. Assumes nothing.
use native.Mathlib.Omega.{arith}
use Rattle.draws.specs.Settle.{inject_text}
use Rattle.noise_text.specs.Elements.{kept_element}
use Rattle.noise_text.specs.Laws.Members.{kept_lent, kept_x, kept_z}
use Rattle.noise_text.proofs.put_kept.Goals as goal

pub put_inject-requires : goal.put_inject-requires
put_inject-requires c = (rw (c.element_counts.ensures, c.element_members.ensures) (kept_lent c.requires.1), omega (arith, c.requires.0))

pub returns : goal.returns
unfolding inject_text kept_element
returns c = rw (c.element_counts.ensures, c.element_members.ensures, kept_x c.requires.1, kept_z c.requires.1) at c.put_inject.ensures
