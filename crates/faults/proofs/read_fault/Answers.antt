-- `faults::read_fault` meets its contract.
use Rattle.faults.specs.Laws.Prepared.{few_lines, element_lines_lem, totals, probability_sound, fault_read}
use native.Mathlib.Omega.{arith}
use Rattle.faults.proofs.read_fault.Goals as goal

pub gather-behind-requires : goal.gather-behind-requires
gather-behind-requires c =
    let q = c.requires.0.lines in
    let lines = c.requires.0.count _ _ q.said in (
      element_lines_lem q _ _ lines (c.has_weights-weighted.ensures _ _ q.said.says),
      omega (arith, few_lines q _ lines, c.requires.1.of_elements, c.keep_element.ensures.long),
      c.requires.1.of_weights,
    )

pub fault_of-fault-requires : goal.fault_of-fault-requires
fault_of-fault-requires c = probability_sound c.requires.0.lines

pub fill_sums-requires : goal.fill_sums-requires
fill_sums-requires c =
    let q = c.requires.0.lines in
    (omega (arith, c.requires.1.of_sums, c.requires.1.of_weights, c.gather-behind.auto), totals q c.fault_of-fault.ensures _ (c.requires.0.count _ _ q.said) _ (omega (arith, c.requires.1.of_weights, c.gather-behind.auto)) c.total.ensures)

pub returns : goal.returns
returns c =
    λ noiseless w q.
    let lines = c.requires.0.count _ _ q.said in
    let weighted = c.has_weights-weighted.ensures _ _ q.said.says in
    fault_read q _ _ lines weighted c.args.elements.now _ _ (omega (arith, c.requires.1.of_elements)) c.keep_element.ensures c.gather-behind.ensures.0 _
    (omega (arith, c.requires.1.of_weights, c.gather-behind.auto)) _ (c.gather-behind.ensures.1 (element_lines_lem q _ _ lines weighted)) _ c.total.ensures _
    c.fault_of-fault.ensures _ c.fill_sums.ensures
