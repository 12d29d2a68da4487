-- What is said, by the answers of the calls. Laws. Assumes nothing.
use Rattle.std.specs.Prelude.{◌≡◌, refl, Bool, true, false, ℕ, ◌%◌, eqb}
use Rattle.std.proofs.Common.{sym, ap, ◌∙◌}
use borrow.Author.Tests.{eqb-true, eqb-false, eq-eqb, ne_eqb}
use Rattle.job.specs.Reply.{TextReply}
use Rattle.job.specs.declared.CountReply.{CountReply}
use Rattle.run.specs.Run.{RunReply}
use Rattle.agreement.specs.declared.Call.TheVariants.{Run, Settle, Walk}
use Rattle.agreement.specs.declared.Agreement.{Agreement}
use Rattle.agreement.specs.Agree.{refused_by, compared, agreement_of}

module _ (ran : RunReply) (settled : TextReply) (walked : CountReply) (sum : ℕ) where
  pub said_run : (ran.answered.number ≡ 0 → ⊥) → agreement_of ran settled walked sum ≡ refused_by Run ran.answered 0
  unfolding agreement_of
  said_run ne = rw (ne_eqb _ _ ne)

  pub said_settle : ran.answered.number ≡ 0 → (settled.answered.number ≡ 0 → ⊥)
      → agreement_of ran settled walked sum ≡ refused_by Settle settled.answered settled.figure
  unfolding agreement_of
  said_settle e ne = rw (eq-eqb _ _ e, ne_eqb _ _ ne)

  pub said_walk : ran.answered.number ≡ 0 → settled.answered.number ≡ 0 → (walked.answered.number ≡ 0 → ⊥)
      → agreement_of ran settled walked sum ≡ refused_by Walk walked.answered settled.figure
  unfolding agreement_of
  said_walk e f ne = rw (eq-eqb _ _ e, eq-eqb _ _ f, ne_eqb _ _ ne)

  pub said_compared : ran.answered.number ≡ 0 → settled.answered.number ≡ 0 → walked.answered.number ≡ 0
      → agreement_of ran settled walked sum ≡ compared walked settled.figure sum
  unfolding agreement_of
  said_compared e f g = rw (eq-eqb _ _ e, eq-eqb _ _ f, eq-eqb _ _ g)

  -- where the sum and the count are equal modulo 2, an answer of 0 says that they agree
  pub compared_agrees : (ran.answered.number ≡ 0 → settled.answered.number ≡ 0 → walked.answered.number ≡ 0 → sum ≡ walked.count % 2)
      → (agreement_of ran settled walked sum).answer.number ≡ 0 → (agreement_of ran settled walked sum).agrees ≡ true
  compared_agrees same z = by_run (eqb ran.answered.number 0) refl
    where
      by_walk : ran.answered.number ≡ 0 → settled.answered.number ≡ 0 → (c : Bool) → eqb walked.answered.number 0 ≡ c
          → (agreement_of ran settled walked sum).agrees ≡ true
      by_walk e f true g =
          let h = eqb-true walked.answered.number 0 g in
          ap (λ (a : Agreement). a.agrees) (said_compared e f h) ∙ eq-eqb _ _ (same e f h)
      by_walk e f false g =
          let ne = eqb-false walked.answered.number 0 g in
          absurd (ne (sym (ap (λ (a : Agreement). a.answer.number) (said_walk e f ne)) ∙ z))

      by_settle : ran.answered.number ≡ 0 → (b : Bool) → eqb settled.answered.number 0 ≡ b → (agreement_of ran settled walked sum).agrees ≡ true
      by_settle e true g = by_walk e (eqb-true settled.answered.number 0 g) (eqb walked.answered.number 0) refl
      by_settle e false g =
          let ne = eqb-false settled.answered.number 0 g in
          absurd (ne (sym (ap (λ (a : Agreement). a.answer.number) (said_settle e ne)) ∙ z))

      by_run : (a : Bool) → eqb ran.answered.number 0 ≡ a → (agreement_of ran settled walked sum).agrees ≡ true
      by_run true g = by_settle (eqb-true ran.answered.number 0 g) (eqb settled.answered.number 0) refl
      by_run false g =
          let ne = eqb-false ran.answered.number 0 g in
          absurd (ne (sym (ap (λ (a : Agreement). a.answer.number) (said_run ne)) ∙ z))
