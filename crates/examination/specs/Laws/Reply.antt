-- The reply of an examination from what was found. Laws. Assumes nothing.
use Rattle.std.specs.Prelude.{ℕ, ◌≡◌, List}
use Rattle.std.proofs.Math.Path.{sym}
use Rattle.std.proofs.Common.{ap, ◌∙◌}
use borrow.Author.Tests.{eq-eqb, ne_eqb}
use Rattle.job.specs.declared.Answer.{Answer}
use Rattle.job.specs.Job.{accepted, check_job}
use Rattle.checker.specs.declared.Examined.{Examined}
use Rattle.checker.specs.Examines.{Examines}
use Rattle.examination.specs.Reply.{refused_numbers, examine_reply}

module _ {job : List ℕ} {r : Examined} (examines : Examines job r) where
  pub refused_numbers_lem : (r.answer.number ≡ 0 → ⊥) → refused_numbers r.answer ≡ examine_reply job
  unfolding examine_reply
  refused_numbers_lem h = rw (← examines.answers, ne_eqb _ 0 h)

  pub found_numbers : r.answer.number ≡ 0
      → record { answered = accepted; qubits = r.header.qubits; outcomes = r.header.outcomes; shots = r.header.shots; recorded = r.recorded; lines = r.lines } ≡ examine_reply job
  unfolding examine_reply
  found_numbers h =
      let e = sym (ap (λ (a : Answer). a.number) examines.answers) ∙ h in
      let f = examines.finds e in
      rw (eq-eqb (check_job job).number 0 e, f.header, f.recorded, f.lines_in)
