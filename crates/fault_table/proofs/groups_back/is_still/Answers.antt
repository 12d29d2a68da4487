-- `fault_table::groups_back::is_still` meets its contract. Assumes nothing.
use Rattle.std.proofs.Common.{inl, inr}
use mathlib.Core.Bool.{true≢false}
use mathlib.Core.Path.{sym, refl}
use Rattle.fault_table.specs.Back.{still_form}
use Rattle.fault_table.proofs.groups_back.is_still.Goals as goal

pub returns-in-Pauli : goal.returns-in-Pauli
unfolding still_form
returns-in-Pauli c = λ _. elim c.in-Pauli.is [ inl e ↦ rw e refl | inr r ↦ elim r [ inl e ↦ rw e refl | inr r ↦ elim r [ inl e ↦ rw e refl | inr r ↦ elim r [ inl e ↦ rw e refl | inr r ↦ elim r [ inl e ↦ rw e refl | inr r ↦ elim r [ inl e ↦ rw e refl | inr r ↦ elim r [ inl e ↦ rw e refl | inr r ↦ elim r [ inl e ↦ rw e refl | inr r ↦ elim r [ inl e ↦ rw e refl | inr r ↦ elim r [ inl e ↦ rw e refl | inr e ↦ rw e refl ] ] ] ] ] ] ] ] ] ]

pub returns-in_default : goal.returns-in_default
returns-in_default c = λ e. absurd (true≢false (sym e))
