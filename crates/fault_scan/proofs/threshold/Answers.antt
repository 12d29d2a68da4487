-- `fault_scan::threshold` meets its contract.
use Rattle.std.proofs.Common.{T, sym, ◌∙◌, subst, arith}
use Rattle.fault_scan.specs.Laws.Fraction.{fraction, threshold_none, threshold_all, product_above, product_below, whole_within, threshold_next, threshold_whole}
use Rattle.fault_scan.proofs.threshold.Goals as goal

-- what the type `f64` says of p: the format holds it
pub truncating_f64_to_u64-whole-requires : goal.truncating_f64_to_u64-whole-requires
truncating_f64_to_u64-whole-requires c =
    let q = fraction _ (subst T (sym c.well_formed.0.1) tt) c.if-p.true c.if-p-2.true in
    record { lower_bound = product_above q; upper_bound = product_below q }

pub overflow_mul-whole : goal.overflow_mul-whole
overflow_mul-whole c =
    let q = fraction _ (subst T (sym c.well_formed.0.1) tt) c.if-p.true c.if-p-2.true in
    omega (arith, whole_within q _ c.truncating_f64_to_u64-whole.ensures)

pub overflow_add-result : goal.overflow_add-result
overflow_add-result c =
    let q = fraction _ (subst T (sym c.well_formed.0.1) tt) c.if-p.true c.if-p-2.true in
    omega (arith, whole_within q _ c.truncating_f64_to_u64-whole.ensures)

pub returns-then-is_fault : goal.returns-then-is_fault
returns-then-is_fault c =
    let q = fraction _ (subst T (sym c.well_formed.0.1) tt) c.if-p.true c.if-p-2.true in
    threshold_next q _ c.truncating_f64_to_u64-whole.ensures (sym c.is_fault.ensures ∙ c.if-is_fault.true)

pub returns-then-p-2 : goal.returns-then-p-2
returns-then-p-2 c =
    let q = fraction _ (subst T (sym c.well_formed.0.1) tt) c.if-p.true c.if-p-2.true in
    threshold_whole q _ c.truncating_f64_to_u64-whole.ensures (sym c.is_fault.ensures ∙ c.if-is_fault.false)

pub returns-then-p : goal.returns-then-p
returns-then-p c = threshold_all _ c.if-p.true c.if-p-2.false

pub returns : goal.returns
returns c = threshold_none _ c.if-p.false
