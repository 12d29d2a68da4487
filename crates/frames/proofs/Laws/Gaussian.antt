-- Gaussian integers are a commutative ring; powers of i and complex conjugation on them. Assumes nothing.
use Rattle.std.specs.Prelude.{◌≡◌, refl, Bool, true, false, not, cond, ℕ, zero, suc, ◌+◌, ℤ, pos, neg_ℤ, ◌+ℤ◌, ◌-ℤ◌, ◌*ℤ◌}
use Rattle.std.proofs.Common.{sym, ap, ap₂, ◌∙◌, suc-add, zero-add}
use Rattle.std.proofs.Math.IntN.{+ℤ_comm, +ℤ_assoc, +ℤ_idl, +ℤ_idr, +ℤ_invr, neg_ℤ-neg_ℤ, neg_ℤ-+ℤ, *ℤ_comm, zero-*ℤ, *ℤ-zero, *ℤ-one, one as oneℤ}
use Rattle.pauli.specs.Bits.{◌⊕◌, odd}
use Rattle.pauli.proofs.Laws.F2.{f2}
use Rattle.frames.specs.Conjugation.{Gaussian, whole, plus, times, complex_conjugate, times_I, times_I^}
use Rattle.frames.proofs.Laws.Integer.{+ℤ_left_comm, +ℤ_*ℤ, *ℤ_+ℤ, negℤ_*ℤ, *ℤ_negℤ, *ℤ_assoc}

pub gaussian_path : {c d : Gaussian} → c.re ≡ d.re → c.im ≡ d.im → c ≡ d
gaussian_path p q = λ i. record { re = p i; im = q i }

-- brings a polynomial of whole numbers to a sorted sum of products
ruleset ring = (+ℤ_comm, +ℤ_assoc, +ℤ_left_comm, +ℤ_*ℤ, *ℤ_+ℤ, negℤ_*ℤ, *ℤ_negℤ, *ℤ_assoc, neg_ℤ-+ℤ, neg_ℤ-neg_ℤ)

-- ---- sums

pub plus_comm : (c d : Gaussian) → plus c d ≡ plus d c
unfolding plus
plus_comm c d = gaussian_path (+ℤ_comm c.re d.re) (+ℤ_comm c.im d.im)

pub plus_assoc : (c d e : Gaussian) → plus (plus c d) e ≡ plus c (plus d e)
unfolding plus
plus_assoc c d e = gaussian_path (+ℤ_assoc c.re d.re e.re) (+ℤ_assoc c.im d.im e.im)

pub plus_left_comm : (c d e : Gaussian) → plus c (plus d e) ≡ plus d (plus c e)
plus_left_comm c d e = sym (plus_assoc c d e) ∙ ap (λ s. plus s e) (plus_comm c d) ∙ plus_assoc d c e

pub zero_plus : (c : Gaussian) → plus (whole 0) c ≡ c
unfolding plus whole
zero_plus c = gaussian_path (+ℤ_idl c.re) (+ℤ_idl c.im)

pub plus_zero : (c : Gaussian) → plus c (whole 0) ≡ c
plus_zero c = plus_comm c (whole 0) ∙ zero_plus c

-- ---- products

pub times_comm : (c d : Gaussian) → times c d ≡ times d c
unfolding times
times_comm c d =
    gaussian_path (ap₂ ◌-ℤ◌ (*ℤ_comm c.re d.re) (*ℤ_comm c.im d.im))
    (+ℤ_comm (c.re *ℤ d.im) (c.im *ℤ d.re) ∙ ap₂ ◌+ℤ◌ (*ℤ_comm c.im d.re) (*ℤ_comm c.re d.im))

pub times_assoc : (c d e : Gaussian) → times (times c d) e ≡ times c (times d e)
unfolding times
times_assoc c d e = gaussian_path (simp ring) (simp ring)

pub times_plus : (c d e : Gaussian) → times c (plus d e) ≡ plus (times c d) (times c e)
unfolding times plus
times_plus c d e = gaussian_path (simp ring) (simp ring)

pub plus_times : (c d e : Gaussian) → times (plus c d) e ≡ plus (times c e) (times d e)
plus_times c d e = times_comm (plus c d) e ∙ times_plus e c d ∙ ap₂ plus (times_comm e c) (times_comm e d)

pub zero_times : (c : Gaussian) → times (whole 0) c ≡ whole 0
unfolding times whole
zero_times c = gaussian_path (ap₂ ◌-ℤ◌ (zero-*ℤ c.re) (zero-*ℤ c.im)) (ap₂ ◌+ℤ◌ (zero-*ℤ c.im) (zero-*ℤ c.re))

pub times_zero : (c : Gaussian) → times c (whole 0) ≡ whole 0
times_zero c = times_comm c (whole 0) ∙ zero_times c

pub times_one : (c : Gaussian) → times c (whole 1) ≡ c
unfolding times whole
times_one c =
    gaussian_path (ap₂ ◌-ℤ◌ (by_one c.re) (*ℤ-zero c.im) ∙ +ℤ_idr c.re) (ap₂ ◌+ℤ◌ (*ℤ-zero c.re) (by_one c.im) ∙ +ℤ_idl c.im)
  where
    by_one : (a : ℤ) → a *ℤ pos 1 ≡ a
    by_one a = unfold oneℤ in *ℤ-one a

pub one_times : (c : Gaussian) → times (whole 1) c ≡ c
one_times c = times_comm (whole 1) c ∙ times_one c

-- ---- times i

times_I_plus : (c d : Gaussian) → times_I (plus c d) ≡ plus (times_I c) (times_I d)
unfolding plus times_I
times_I_plus c d = gaussian_path (neg_ℤ-+ℤ c.im d.im) refl

times_I_zero : times_I (whole 0) ≡ whole 0
unfolding times_I whole
times_I_zero = refl

times_I_times : (c d : Gaussian) → times (times_I c) d ≡ times_I (times c d)
unfolding times times_I
times_I_times c d = gaussian_path (re_part c.re c.im d.re d.im) (im_part c.re c.im d.re d.im)
  where
    re_part : (a b x y : ℤ) → neg_ℤ b *ℤ x -ℤ a *ℤ y ≡ neg_ℤ (a *ℤ y +ℤ b *ℤ x)
    re_part a b x y = simp ring

    im_part : (a b x y : ℤ) → neg_ℤ b *ℤ y +ℤ a *ℤ x ≡ a *ℤ x -ℤ b *ℤ y
    im_part a b x y = simp ring

-- i to the power 4 is 1
pub times_I_four : (c : Gaussian) → times_I (times_I (times_I (times_I c))) ≡ c
unfolding times_I
times_I_four c = gaussian_path (neg_ℤ-neg_ℤ c.re) (neg_ℤ-neg_ℤ c.im)

-- ---- powers of i

pub times_I^_plus : (k : ℕ) (c d : Gaussian) → times_I^ k (plus c d) ≡ plus (times_I^ k c) (times_I^ k d)
unfolding times_I^
times_I^_plus zero c d = refl
times_I^_plus (suc k) c d = ap times_I (times_I^_plus k c d) ∙ times_I_plus (times_I^ k c) (times_I^ k d)

pub times_I^_of_zero : (k : ℕ) → times_I^ k (whole 0) ≡ whole 0
unfolding times_I^
times_I^_of_zero zero = refl
times_I^_of_zero (suc k) = ap times_I (times_I^_of_zero k) ∙ times_I_zero

pub times_I^_times : (k : ℕ) (c d : Gaussian) → times (times_I^ k c) d ≡ times_I^ k (times c d)
unfolding times_I^
times_I^_times zero c d = refl
times_I^_times (suc k) c d = times_I_times (times_I^ k c) d ∙ ap times_I (times_I^_times k c d)

pub times_times_I^ : (k : ℕ) (c d : Gaussian) → times c (times_I^ k d) ≡ times_I^ k (times c d)
times_times_I^ k c d = times_comm c (times_I^ k d) ∙ times_I^_times k d c ∙ ap (times_I^ k) (times_comm d c)

times_I^_times_I : (k : ℕ) (c : Gaussian) → times_I^ k (times_I c) ≡ times_I (times_I^ k c)
unfolding times_I^
times_I^_times_I zero c = refl
times_I^_times_I (suc k) c = ap times_I (times_I^_times_I k c)

pub times_I^_comm : (j k : ℕ) (c : Gaussian) → times_I^ j (times_I^ k c) ≡ times_I^ k (times_I^ j c)
unfolding times_I^
times_I^_comm zero k c = refl
times_I^_comm (suc j) k c = ap times_I (times_I^_comm j k c) ∙ sym (times_I^_times_I k (times_I^ j c))

pub times_I^_add : (j k : ℕ) (c : Gaussian) → times_I^ (j + k) c ≡ times_I^ j (times_I^ k c)
unfolding times_I^
times_I^_add zero k c = ap (λ (m : ℕ). times_I^ m c) (zero-add k)
times_I^_add (suc j) k c = ap (λ (m : ℕ). times_I^ m c) (suc-add j k) ∙ ap times_I (times_I^_add j k c)

-- 1 or -1 times c
unfoldable pub signed : Bool → Gaussian → Gaussian
signed true c = times_I (times_I c)
signed false c = c

pub signed_signed : (a b : Bool) (c : Gaussian) → signed a (signed b c) ≡ signed (a ⊕ b) c
unfolding signed ◌⊕◌
signed_signed true true c = times_I_four c
signed_signed true false c = refl
signed_signed false b c = refl

pub times_I^_signed : (k : ℕ) (b : Bool) (c : Gaussian) → times_I^ k (signed b c) ≡ signed b (times_I^ k c)
unfolding signed
times_I^_signed k true c = times_I^_times_I k (times_I c) ∙ ap times_I (times_I^_times_I k c)
times_I^_signed k false c = refl

pub signed_false : (c : Gaussian) → signed false c ≡ c
unfolding signed
signed_false c = refl

-- minus c cancels c
pub plus_minus : (c : Gaussian) → plus c (signed true c) ≡ whole 0
unfolding plus signed times_I whole
plus_minus c = gaussian_path (+ℤ_invr c.re) (+ℤ_invr c.im)

pub times_I^_zero : (c : Gaussian) → times_I^ 0 c ≡ c
unfolding times_I^
times_I^_zero c = refl

pub times_I^_two : (c : Gaussian) → times_I^ 2 c ≡ signed true c
unfolding times_I^ signed
times_I^_two c = refl

pub times_I^_three : (c : Gaussian) → times_I^ 3 c ≡ signed true (times_I^ 1 c)
unfolding times_I^ signed
times_I^_three c = refl

pub times_I^_twice : (k : ℕ) (c : Gaussian) → times_I^ k (times_I^ k c) ≡ signed (odd k) c
unfolding times_I^ signed odd
times_I^_twice zero c = refl
times_I^_twice (suc k) c = ap times_I (times_I^_times_I k (times_I^ k c)) ∙ ap (λ d. times_I (times_I d)) (times_I^_twice k c) ∙ flipped (odd k) c
  where
    flipped : (b : Bool) (c : Gaussian) → times_I (times_I (signed b c)) ≡ signed (not b) c
    flipped true c = times_I_four c
    flipped false c = refl

-- a sign as a power of i
unfoldable pub twice : Bool → ℕ
twice b = cond b 2 0

pub signed_is : (b : Bool) (c : Gaussian) → signed b c ≡ times_I^ (twice b) c
unfolding times_I^ signed twice
signed_is true c = refl
signed_is false c = refl

-- Brings a signed power of i to one sign before sorted powers.
pub ruleset phases = (f2, signed_signed, times_I^_signed, signed_false, times_I^_zero, times_I^_two, times_I^_three, times_I^_twice, times_I^_comm, times_I^_add)

-- a power of i can be taken away on both sides
pub times_I^_cancel : (k : ℕ) {c d : Gaussian} → times_I^ k c ≡ times_I^ k d → c ≡ d
times_I^_cancel k {c} {d} e = sym (four c) ∙ ap (λ x. times_I^ k (times_I^ k (times_I^ k x))) e ∙ four d
  where
    four : (x : Gaussian) → times_I^ k (times_I^ k (times_I^ k (times_I^ k x))) ≡ x
    four x = simp (f2, times_I^_twice, times_I^_signed, signed_signed, signed_false)

-- ---- complex conjugation

pub conjugate_times : (c d : Gaussian) → complex_conjugate (times c d) ≡ times (complex_conjugate d) (complex_conjugate c)
unfolding times complex_conjugate
conjugate_times c d = gaussian_path (re_part c.re c.im d.re d.im) (im_part c.re c.im d.re d.im)
  where
    re_part : (a b x y : ℤ) → a *ℤ x -ℤ b *ℤ y ≡ x *ℤ a -ℤ neg_ℤ y *ℤ neg_ℤ b
    re_part a b x y = simp (ring, *ℤ_comm)

    im_part : (a b x y : ℤ) → neg_ℤ (a *ℤ y +ℤ b *ℤ x) ≡ x *ℤ neg_ℤ b +ℤ neg_ℤ y *ℤ a
    im_part a b x y = simp (ring, *ℤ_comm)

conjugate_times_I : (c : Gaussian) → times_I (complex_conjugate (times_I c)) ≡ complex_conjugate c
unfolding times_I complex_conjugate
conjugate_times_I c = gaussian_path (neg_ℤ-neg_ℤ c.re) refl

pub conjugate_times_I^ : (k : ℕ) (c : Gaussian) → times_I^ k (complex_conjugate (times_I^ k c)) ≡ complex_conjugate c
unfolding times_I^
conjugate_times_I^ zero c = refl
conjugate_times_I^ (suc k) c =
    sym (times_I^_times_I k _) ∙ ap (times_I^ k) (conjugate_times_I (times_I^ k c)) ∙ conjugate_times_I^ k c
