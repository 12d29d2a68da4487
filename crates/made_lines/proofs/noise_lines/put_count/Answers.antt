-- `made_lines::noise_lines::put_count` meets its contract. Assumes nothing.
use mathlib.Core.Bool.{true, false}
use Rattle.text.specs.Bytes.{bytes}
use Rattle.made_lines.specs.Laws.Noise.{count_put}
use Rattle.made_lines.proofs.noise_lines.put_count.Goals as goal
use Rattle.made_lines.proofs.noise_lines.put_count.Goals.{then-weighted, else-weighted}

pub returns : goal.returns
returns c =
    elim c.if-weighted.branch [
      | then-weighted w ↦ rw w.if-weighted.true (unfold bytes in count_put true _ (rw w.name-is at c.put_value-next.ensures) c.put_value.ensures)
      | else-weighted w ↦ rw w.if-weighted.false (unfold bytes in count_put false _ (rw w.name-is at c.put_value-next.ensures) c.put_value.ensures)
    ]
