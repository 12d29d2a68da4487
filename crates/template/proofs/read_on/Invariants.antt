-- `template::read_on` meets its contract. Assumes nothing.
use lib.ListN.{take}
use Rattle.std.specs.Prelude.{Some}
use Rattle.template.specs.Fields.{ReadNext}
use Rattle.template.proofs.read_on.Given as goal

abbrev pub invariant-loop-byte : goal.invariant-loop-byte
invariant-loop-byte l =
    ReadNext l.line (take l.byte-index l.template) l.fn.from (Some l.p) l.initial.fields l.fields
