-- The parity of a set's overlap with another is linear in each of the two. Assumes nothing.
use Rattle.std.specs.Prelude.{◌≡◌, refl, Bool, true, false, ◌&&◌, cond, ℕ, zero, suc, ◌<◌, ◌≤◌, T, eqb}
use Rattle.std.proofs.Common.{sym, ap, ap₂, ◌∙◌, subst, not-suc-le-zero, arith, eqb→eq, ne_eqb}
use Rattle.std.proofs.Math.Path.{fun_ext}
use Rattle.std.proofs.Math.Decide.{ℕ_discrete}
use Rattle.std.proofs.Math.Dec.{eqb_refl}
use Rattle.pauli.specs.Bits.{Bits, ◌⊕◌, ◌∩◌, ◌△◌, none, only, given, replaced, added, parity}
use Rattle.pauli.specs.Gate.{exchanged}
use Rattle.pauli.proofs.Laws.F2.{f2}

-- ---- equality tests

true_of_T : (b : Bool) → T b → b ≡ true
true_of_T true t = refl
true_of_T false t = absurd t

eqb_same : (q : ℕ) → eqb q q ≡ true
eqb_same q = true_of_T (eqb q q) (eqb_refl q)

-- a fact that holds at q and wherever i is not q
pub at_or_off : (P : ℕ → Bool → Type 0) (q : ℕ) → P q true → ((i : ℕ) → P i false) → (i : ℕ) → P i (eqb i q)
at_or_off P q here off i = go (eqb i q) refl
  where
    go : (b : Bool) → eqb i q ≡ b → P i b
    go true e = subst (λ (j : ℕ). P j true) (sym (eqb→eq i q (subst T (sym e) tt))) here
    go false e = off i

pub replaced_is : (s : Bits) (q : ℕ) (b : Bool) → replaced s q b ≡ s △ given (s q ⊕ b) (only q)
unfolding replaced ◌△◌ given only
replaced_is s q b =
    fun_ext (at_or_off (λ i e. cond e b (s i) ≡ s i ⊕ ((s q ⊕ b) && e)) q (simp f2) (λ i. simp f2))

pub added_is : (s : Bits) (q : ℕ) (b : Bool) → added s q b ≡ s △ given b (only q)
unfolding added ◌△◌ given only
added_is s q b = fun_ext (at_or_off (λ i e. cond e (s i ⊕ b) (s i) ≡ s i ⊕ (b && e)) q (simp f2) (λ i. simp f2))

-- ---- the parity of an overlap

-- the defining equations, for simp: with the definitions shut, what simp rewrites is what is written
pub parity_zero : (s : Bits) → parity 0 s ≡ false
unfolding parity
parity_zero s = refl

pub parity_suc : (n : ℕ) (s : Bits) → parity (suc n) s ≡ s n ⊕ parity n s
unfolding parity
parity_suc n s = refl

pub ∩_at : (s t : Bits) (i : ℕ) → (s ∩ t) i ≡ s i && t i
unfolding ◌∩◌
∩_at s t i = refl

pub △_at : (s t : Bits) (i : ℕ) → (s △ t) i ≡ s i ⊕ t i
unfolding ◌△◌
△_at s t i = refl

pub given_at : (b : Bool) (s : Bits) (i : ℕ) → given b s i ≡ b && s i
unfolding given
given_at b s i = refl

pub none_at : (i : ℕ) → none i ≡ false
unfolding none
none_at i = refl

pub only_off : (q i : ℕ) → (i ≡ q → ⊥) → only q i ≡ false
unfolding only
only_off q i = ne_eqb i q

pub only_here : (q : ℕ) → only q q ≡ true
unfolding only
only_here q = eqb_same q

pub ruleset bitwise = (f2, parity_zero, parity_suc, ∩_at, △_at, given_at, none_at)

pub parity_comm : (n : ℕ) (s t : Bits) → parity n (s ∩ t) ≡ parity n (t ∩ s)
parity_comm zero s t = simp bitwise
parity_comm (suc n) s t = simp (bitwise, parity_comm n s t)

pub parity_△ : (n : ℕ) (s t u : Bits) → parity n ((s △ t) ∩ u) ≡ parity n (s ∩ u) ⊕ parity n (t ∩ u)
parity_△ zero s t u = simp bitwise
parity_△ (suc n) s t u = simp (bitwise, parity_△ n s t u)

pub parity_given : (n : ℕ) (b : Bool) (s u : Bits) → parity n (given b s ∩ u) ≡ b && parity n (s ∩ u)
parity_given zero b s u = simp bitwise
parity_given (suc n) b s u = simp (bitwise, parity_given n b s u)

pub parity_none : (n : ℕ) (u : Bits) → parity n (none ∩ u) ≡ false
parity_none zero u = simp bitwise
parity_none (suc n) u = simp (bitwise, parity_none n u)

-- the numbers below n do not include q
parity_off : (n q : ℕ) (u : Bits) → n ≤ q → parity n (only q ∩ u) ≡ false
parity_off zero q u h = simp bitwise
parity_off (suc n) q u h = simp (bitwise, only_off q n (λ (e : n ≡ q). omega arith), parity_off n q u (omega arith))

-- one more number, which is q or is not
only_step : (n q : ℕ) (u : Bits) → q < suc n → (q < n → parity n (only q ∩ u) ≡ u q) → Dec (n ≡ q) → parity (suc n) (only q ∩ u) ≡ u q
only_step n q u h ih (yes e) = simp (bitwise, e, only_here, parity_off q q u (omega arith))
only_step n q u h ih (no ne) = simp (bitwise, only_off q n ne, ih (omega (arith, ne)))

pub parity_only : (n q : ℕ) (u : Bits) → q < n → parity n (only q ∩ u) ≡ u q
parity_only zero q u h = absurd (not-suc-le-zero h)
parity_only (suc n) q u h = only_step n q u h (parity_only n q u) (ℕ_discrete n q)

-- ---- the same on the right

pub parity_△_right : (n : ℕ) (u s t : Bits) → parity n (u ∩ (s △ t)) ≡ parity n (u ∩ s) ⊕ parity n (u ∩ t)
parity_△_right n u s t = parity_comm n u (s △ t) ∙ parity_△ n s t u ∙ ap₂ ◌⊕◌ (parity_comm n s u) (parity_comm n t u)

pub parity_given_right : (n : ℕ) (b : Bool) (u s : Bits) → parity n (u ∩ given b s) ≡ b && parity n (u ∩ s)
parity_given_right n b u s = parity_comm n u (given b s) ∙ parity_given n b s u ∙ ap (λ (p : Bool). b && p) (parity_comm n s u)

pub parity_none_right : (n : ℕ) (u : Bits) → parity n (u ∩ none) ≡ false
parity_none_right n u = parity_comm n u none ∙ parity_none n u

pub parity_only_right : (n q : ℕ) (u : Bits) → q < n → parity n (u ∩ only q) ≡ u q
parity_only_right n q u h = parity_comm n u (only q) ∙ parity_only n q u h

pub ∩_assoc : (s k t : Bits) → (s ∩ k) ∩ t ≡ s ∩ (t ∩ k)
∩_assoc s k t = fun_ext (λ i. simp bitwise)

-- ---- equations between sets

pub △_none : (s : Bits) → s △ none ≡ s
△_none s = fun_ext (λ i. simp bitwise)

pub none_△ : (s : Bits) → none △ s ≡ s
none_△ s = fun_ext (λ i. simp bitwise)

pub given_none : (b : Bool) → given b none ≡ none
given_none b = fun_ext (λ i. simp bitwise)

pub given_△ : (b : Bool) (s t : Bits) → given b (s △ t) ≡ given b s △ given b t
given_△ b s t = fun_ext (λ i. simp bitwise)

-- Exchanging the bits at a and b adds, at both, what they differ by.
replaced_other : (s : Bits) (a b : ℕ) → replaced s a (s b) b ≡ s b
unfolding replaced
replaced_other s a b = go (eqb b a)
  where
    go : (e : Bool) → cond e (s b) (s b) ≡ s b
    go true = refl
    go false = refl

pub exchanged_is : (a b : ℕ) (s : Bits) → exchanged a b s ≡ s △ given (s a ⊕ s b) (only a △ only b)
unfolding exchanged
exchanged_is a b s =
    replaced_is (replaced s a (s b)) b (s a)
    ∙ rw (replaced_other s a b) (rw (replaced_is s a (s b)) (fun_ext (λ i. simp bitwise)))
