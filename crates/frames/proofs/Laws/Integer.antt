-- The ring laws of the whole numbers that the library leaves out. Assumes nothing.
use Rattle.std.specs.Prelude.{◌≡◌, zero, suc, ℤ, pos, negsuc, neg_ℤ, ◌+ℤ◌, ◌-ℤ◌, ◌*ℤ◌}
use Rattle.std.proofs.Common.{sym, ap, ap₂, ◌∙◌}
use Rattle.std.proofs.Math.IntN.{suc_ℤ, pred_ℤ, +ℤ_comm, +ℤ_assoc, +ℤ_idl, neg_ℤ-neg_ℤ, neg_ℤ-+ℤ, neg_ℤ-suc_ℤ, neg_ℤ-pred_ℤ, suc_ℤ-+ℤ, pred_ℤ-+ℤ, suc_ℤ-*ℤ, pred_ℤ-*ℤ, *ℤ_comm, zero-*ℤ}

-- up and down from 0
by_steps : (P : ℤ → Type 0) → P (pos 0) → ((k : ℤ) → P k → P (suc_ℤ k)) → ((k : ℤ) → P k → P (pred_ℤ k)) → (k : ℤ) → P k
by_steps P z s p (pos zero) = z
by_steps P z s p (pos (suc m)) = s (pos m) (by_steps P z s p (pos m))
by_steps P z s p (negsuc zero) = p (pos 0) z
by_steps P z s p (negsuc (suc m)) = p (negsuc m) (by_steps P z s p (negsuc m))

pub +ℤ_left_comm : (a b c : ℤ) → a +ℤ (b +ℤ c) ≡ b +ℤ (a +ℤ c)
+ℤ_left_comm a b c = sym (+ℤ_assoc a b c) ∙ ap (λ x. x +ℤ c) (+ℤ_comm a b) ∙ +ℤ_assoc b a c

pub +ℤ_*ℤ : (a b k : ℤ) → (a +ℤ b) *ℤ k ≡ a *ℤ k +ℤ b *ℤ k
+ℤ_*ℤ a b k =
    by_steps (λ a. (a +ℤ b) *ℤ k ≡ a *ℤ k +ℤ b *ℤ k)
    (ap (λ x. x *ℤ k) (+ℤ_idl b) ∙ sym (ap (λ x. x +ℤ b *ℤ k) (zero-*ℤ k) ∙ +ℤ_idl (b *ℤ k)))
    (λ a e. ap (λ x. x *ℤ k) (suc_ℤ-+ℤ a b) ∙ suc_ℤ-*ℤ (a +ℤ b) k ∙ ap (λ x. x +ℤ k) e ∙ moved (a *ℤ k) k ∙ ap (λ x. x +ℤ b *ℤ k) (sym (suc_ℤ-*ℤ a k)))
    (λ a e. ap (λ x. x *ℤ k) (pred_ℤ-+ℤ a b) ∙ pred_ℤ-*ℤ (a +ℤ b) k ∙ ap (λ x. x -ℤ k) e ∙ moved (a *ℤ k) (neg_ℤ k) ∙ ap (λ x. x +ℤ b *ℤ k) (sym (pred_ℤ-*ℤ a k)))
    a
  where
    moved : (x y : ℤ) → (x +ℤ b *ℤ k) +ℤ y ≡ (x +ℤ y) +ℤ b *ℤ k
    moved x y = +ℤ_assoc x (b *ℤ k) y ∙ ap (λ z. x +ℤ z) (+ℤ_comm (b *ℤ k) y) ∙ sym (+ℤ_assoc x y (b *ℤ k))

pub negℤ_*ℤ : (a k : ℤ) → neg_ℤ a *ℤ k ≡ neg_ℤ (a *ℤ k)
negℤ_*ℤ a k =
    by_steps (λ a. neg_ℤ a *ℤ k ≡ neg_ℤ (a *ℤ k))
    (zero-*ℤ k ∙ sym (ap neg_ℤ (zero-*ℤ k)))
    (λ a e. ap (λ x. x *ℤ k) (neg_ℤ-suc_ℤ a) ∙ pred_ℤ-*ℤ (neg_ℤ a) k ∙ ap (λ x. x -ℤ k) e ∙ sym (ap neg_ℤ (suc_ℤ-*ℤ a k) ∙ neg_ℤ-+ℤ (a *ℤ k) k))
    (λ a e. ap (λ x. x *ℤ k) (neg_ℤ-pred_ℤ a) ∙ suc_ℤ-*ℤ (neg_ℤ a) k ∙ ap (λ x. x +ℤ k) e
    ∙ sym (ap neg_ℤ (pred_ℤ-*ℤ a k) ∙ neg_ℤ-+ℤ (a *ℤ k) (neg_ℤ k) ∙ ap (λ x. neg_ℤ (a *ℤ k) +ℤ x) (neg_ℤ-neg_ℤ k)))
    a

pub *ℤ_assoc : (a b c : ℤ) → (a *ℤ b) *ℤ c ≡ a *ℤ (b *ℤ c)
*ℤ_assoc a b c =
    by_steps (λ a. (a *ℤ b) *ℤ c ≡ a *ℤ (b *ℤ c))
    (ap (λ x. x *ℤ c) (zero-*ℤ b) ∙ zero-*ℤ c ∙ sym (zero-*ℤ (b *ℤ c)))
    (λ a e. ap (λ x. x *ℤ c) (suc_ℤ-*ℤ a b) ∙ +ℤ_*ℤ (a *ℤ b) b c ∙ ap (λ x. x +ℤ b *ℤ c) e ∙ sym (suc_ℤ-*ℤ a (b *ℤ c)))
    (λ a e. ap (λ x. x *ℤ c) (pred_ℤ-*ℤ a b) ∙ +ℤ_*ℤ (a *ℤ b) (neg_ℤ b) c ∙ ap₂ ◌+ℤ◌ e (negℤ_*ℤ b c) ∙ sym (pred_ℤ-*ℤ a (b *ℤ c)))
    a

pub *ℤ_+ℤ : (k a b : ℤ) → k *ℤ (a +ℤ b) ≡ k *ℤ a +ℤ k *ℤ b
*ℤ_+ℤ k a b = *ℤ_comm k (a +ℤ b) ∙ +ℤ_*ℤ a b k ∙ ap₂ ◌+ℤ◌ (*ℤ_comm a k) (*ℤ_comm b k)

pub *ℤ_negℤ : (k a : ℤ) → k *ℤ neg_ℤ a ≡ neg_ℤ (k *ℤ a)
*ℤ_negℤ k a = *ℤ_comm k (neg_ℤ a) ∙ negℤ_*ℤ a k ∙ ap neg_ℤ (*ℤ_comm a k)
