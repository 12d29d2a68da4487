-- `made_lines::standing_recording` meets its contract. Assumes nothing.
use Rattle.made_lines.specs.Laws.Standing.{recording_stands, recording_not}
use Rattle.made_lines.proofs.standing_recording.Goals as goal

pub returns-then-recorded-h : goal.returns-then-recorded-h
returns-then-recorded-h c = recording_stands _ _ _ c.requires.0 c.requires.1 c.if-recorded-h.true

pub returns : goal.returns
returns c = recording_not _ _ _ c.requires.0 c.requires.1 c.if-recorded-h.false (c.standing_last.ensures c.args.recorded)
