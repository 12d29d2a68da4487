-- `made_lines::other_lines::put_flip` meets its contract. Assumes nothing.
use Rattle.text.specs.Bytes.{bytes}
use Rattle.made_lines.specs.Laws.Plain.{flip_made}
use Rattle.made_lines.proofs.other_lines.put_flip.Goals as goal

pub returns : goal.returns
returns c = unfold bytes in flip_made c.args.h c.pick-shot.ensures c.put_value-next.ensures c.pick-id.ensures c.put_value-end.ensures c.moved.ensures c.end_line.ensures
