-- A noise line by value. Laws. Assumes nothing.
use Rattle.std.specs.Prelude.{ℕ, ◌≤◌, ◌<◌, ◌≡◌, Bool, true, false, cond, not, ◌&&◌, Some, None, List, [], ◌∷◌, length, get_or, Float}
use native.Mathlib.Omega.{arith}
use Rattle.std.proofs.Math.Path.{refl, ap}
use Rattle.std.proofs.Common.{sym, subst, ◌∙◌, true≢false}
use Rattle.std.proofs.Math.Option.{none, some}
use Rattle.std.specs.Float.{nan, inf, fin, binary64}
use Rattle.std.specs.Float.Ieee.{is_nan, nan_bits, lt}
use Rattle.std.specs.Float.Ieee.Bits.{nan_bits_is}
use Rattle.text.specs.Bytes.{bytes}
use Rattle.text.specs.Template.{Value, number_at, list_at_of}
use Rattle.template.specs.Values.{held_number, held_count, held_member, kept_members}
use Rattle.template.specs.Fields.{Held}
use Rattle.job.specs.Float.{float, one, is_probability, is_weight_of}
use Rattle.job.specs.Grammar.{Kind, NoiseLine, Written, pauli_at_of, is_one, optional, forms}
use Rattle.reader.specs.declared.Form.{Form}
use Rattle.reader.specs.declared.Form.TheVariants as form
use Rattle.reader.specs.Parsed.{place_of, no_form, form_of, Said}
use Rattle.instructions.specs.Laws.Meaning.{noise_by, noise_said, unitary_said, clifford_said}
use Rattle.rows.specs.Overwrite.{copied}
use Rattle.noise.specs.declared.PauliDistribution.TheVariants.{Single, Depolarizing, Uniform, Weighted}
use Rattle.noise.specs.declared.OutcomeCondition.{OutcomeCondition}
use Rattle.noise.specs.declared.PauliFault.{PauliFault}
use Rattle.noise.specs.Kinds.{correlation_of}
use Rattle.faults.specs.Line.{kind_by, CorrelationHeld, ConditionHeld, FaultOf, FaultHeld}
use Rattle.rows.proofs.Laws.Overwrite.{length_copied}
use Rattle.faults.specs.Laws.Elements.{copied_in, member_kept, list_held}

-- ---- bits that are no NaN's

weight_number : (x : Float) → is_weight_of x ≡ true → is_nan x ≡ false
unfolding is_weight_of is_nan lt
weight_number nan e = absurd (true≢false (sym e))
weight_number (inf s) e = refl
weight_number (fin s m d) e = refl

probability_number : (x : Float) → is_probability x ≡ true → is_nan x ≡ false
unfolding is_probability
probability_number x e = go (is_nan x) e
  where
    go : (b : Bool) → not b && not (lt one x) ≡ true → b ≡ false
    go true k = absurd (true≢false (sym k))
    go false k = refl

pub weight_bits : (bits : ℕ) → is_weight_of (float bits) ≡ true → nan_bits binary64 bits ≡ false
weight_bits bits e = nan_bits_is binary64 bits ∙ weight_number (float bits) e

pub probability_bits : (bits : ℕ) → is_probability (float bits) ≡ true → nan_bits binary64 bits ≡ false
probability_bits bits e = nan_bits_is binary64 bits ∙ probability_number (float bits) e

-- the weight where there is one
pub unweighted : (b : Bool) (x y : Float) → b ≡ false → y ≡ cond b x y
unweighted b x y e = rw e

pub with_weight : (b : Bool) (x y : Float) → b ≡ true → x ≡ cond b x y
with_weight b x y e = rw e

-- ---- what a noise line says, by its form

pub data NoiseView (f : Form) (vs : List Value) : NoiseLine → Type 0 where
  single : f ≡ form.Single → NoiseView f vs (noise_by (Kind.single (pauli_at_of 2 3 vs)) (number_at 2 vs) vs)
  depolarizing : f ≡ form.Depolarizing → NoiseView f vs (noise_by (Kind.depolarizing (list_at_of 2 vs)) (number_at 2 vs) vs)
  uniform : f ≡ form.Uniform → NoiseView f vs (noise_by (Kind.uniform (number_at 2 vs)) (number_at 3 vs) vs)
  weighted : f ≡ form.Weighted → NoiseView f vs (noise_by (Kind.weighted (number_at 2 vs)) (number_at 3 vs) vs)

noise_same : {m n : NoiseLine} → Written.noise m ≡ Written.noise n → m ≡ n
noise_same e = cc

pub noise_view : (f : Form) (vs : List Value) (n : NoiseLine) → (form_of f).says vs ≡ some (Written.noise n) → NoiseView f vs n
unfolding forms place_of bytes no_form
noise_view form.Unread vs n e = let z : ◌≡◌ {A = ℕ} 0 1 = cc in absurd (omega arith)
noise_view form.Header vs n e = let z : ◌≡◌ {A = ℕ} 0 1 = cc in absurd (omega arith)
noise_view form.Unitary vs n e =
    let (g, p, q) = unitary_said _ (list_at_of 0 vs) (Written.noise n) e in
    let z : ◌≡◌ {A = ℕ} 0 1 = cc in absurd (omega arith)
noise_view form.Clifford vs n e =
    let (p, q) = clifford_said (list_at_of 0 vs) (list_at_of 1 vs) (Written.noise n) e in
    let z : ◌≡◌ {A = ℕ} 0 1 = cc in absurd (omega arith)
noise_view form.Pauli vs n e = let z : ◌≡◌ {A = ℕ} 0 1 = cc in absurd (omega arith)
noise_view form.Exponential vs n e = let z : ◌≡◌ {A = ℕ} 0 1 = cc in absurd (omega arith)
noise_view form.Controlled vs n e = let z : ◌≡◌ {A = ℕ} 0 1 = cc in absurd (omega arith)
noise_view form.Permute vs n e = let z : ◌≡◌ {A = ℕ} 0 1 = cc in absurd (omega arith)
noise_view form.Measure vs n e = let z : ◌≡◌ {A = ℕ} 0 1 = cc in absurd (omega arith)
noise_view form.Allocate vs n e = let z : ◌≡◌ {A = ℕ} 0 1 = cc in absurd (omega arith)
noise_view form.Conditional vs n e = let z : ◌≡◌ {A = ℕ} 0 1 = cc in absurd (omega arith)
noise_view form.Reset vs n e = let z : ◌≡◌ {A = ℕ} 0 1 = cc in absurd (omega arith)
noise_view form.Inject vs n e = let z : ◌≡◌ {A = ℕ} 0 1 = cc in absurd (omega arith)
noise_view form.Flip vs n e = let z : ◌≡◌ {A = ℕ} 0 1 = cc in absurd (omega arith)
noise_view form.Single vs n e = subst (NoiseView form.Single vs) (noise_same (noise_said _ _ vs _ e)) (NoiseView.single refl)
noise_view form.Depolarizing vs n e = subst (NoiseView form.Depolarizing vs) (noise_same (noise_said _ _ vs _ e)) (NoiseView.depolarizing refl)
noise_view form.Uniform vs n e = subst (NoiseView form.Uniform vs) (noise_same (noise_said _ _ vs _ e)) (NoiseView.uniform refl)
noise_view form.Weighted vs n e = subst (NoiseView form.Weighted vs) (noise_same (noise_said _ _ vs _ e)) (NoiseView.weighted refl)
noise_view form.Element vs n e = let z : ◌≡◌ {A = ℕ} 0 1 = cc in absurd (omega arith)
noise_view form.WeightedElement vs n e = let z : ◌≡◌ {A = ℕ} 0 1 = cc in absurd (omega arith)
noise_view form.EditionHeader vs n e = let z : ◌≡◌ {A = ℕ} 0 1 = cc in absurd (omega arith)
noise_view form.Barrier vs n e = let z : ◌≡◌ {A = ℕ} 0 1 = cc in absurd (omega arith)

-- ---- the kind

module _ {f : List ℕ} {vs : List Value} {n : NoiseLine} (t : Float) where
  pub kind_depolarizing : {k : ℕ} → k ≡ held_count f 2 → Said form.Depolarizing f vs (Written.noise n) → Depolarizing k ≡ kind_by n.kind t
  unfolding forms place_of bytes kind_by noise_by
  kind_depolarizing e h =
      ap Depolarizing (e ∙ h.held.count 2 (omega arith)) ∙ ap (λ (m : NoiseLine). kind_by m.kind t) (noise_same (noise_said _ _ vs (Written.noise n) h.says))

  pub kind_uniform : {k : ℕ} → k ≡ held_number f 2 → Said form.Uniform f vs (Written.noise n) → Uniform k ≡ kind_by n.kind t
  unfolding forms place_of bytes kind_by noise_by
  kind_uniform e h = ap Uniform (e ∙ h.held.number 2 (omega arith)) ∙ ap (λ (m : NoiseLine). kind_by m.kind t) (noise_same (noise_said _ _ vs (Written.noise n) h.says))

  pub kind_weighted : Said form.Weighted f vs (Written.noise n) → Weighted t ≡ kind_by n.kind t
  unfolding forms place_of bytes kind_by noise_by
  kind_weighted h = ap (λ (m : NoiseLine). kind_by m.kind t) (noise_same (noise_said _ _ vs (Written.noise n) h.says))

  pub kind_single : {g : Form} → (g ≡ form.Depolarizing → ⊥) → (g ≡ form.Uniform → ⊥) → (g ≡ form.Weighted → ⊥) → Said g f vs (Written.noise n)
      → Single ≡ kind_by n.kind t
  kind_single {g} a b c h = go (noise_view g vs n h.says)
    where
      go : {m : NoiseLine} → NoiseView g vs m → Single ≡ kind_by m.kind t
      go (NoiseView.single e) = unfold kind_by noise_by in refl
      go (NoiseView.depolarizing e) = absurd (a e)
      go (NoiseView.uniform e) = absurd (b e)
      go (NoiseView.weighted e) = absurd (c e)

-- ---- correlation and condition

none_listed : (l : List ℕ) → length l ≡ 0 → none ≡ optional l
unfolding optional
none_listed [] e = refl
none_listed (c ∷ l) e = absurd (omega arith)

first_listed : (l : List ℕ) → (length l ≡ 0 → ⊥) → some (get_or l 0 0) ≡ optional l
unfolding optional
first_listed [] ne = absurd (ne refl)
first_listed (c ∷ l) ne = refl

pub correlation_none : (f : List ℕ) → held_count f 0 ≡ 0 → CorrelationHeld f None
unfolding correlation_of
correlation_none f e = record { is = λ a b vs h k. none_listed (list_at_of 0 vs) (sym (h.count 0 k) ∙ e) }

pub correlation_some : (f : List ℕ) {k : ℕ} → (held_count f 0 ≡ 0 → ⊥) → k ≡ held_member f 0 0 → CorrelationHeld f (Some k)
unfolding correlation_of
correlation_some f ne e =
    record {
      is = λ a b vs h k.
          let listed : (length (list_at_of 0 vs) ≡ 0 → ⊥) = λ z. ne (h.count 0 k ∙ z) in
          ap some (e ∙ h.member 0 0 k (omega arith) (omega (arith, listed))) ∙ first_listed (list_at_of 0 vs) listed;
    }

pub condition_held : (f l ms : List ℕ) (r : OutcomeCondition) → length l ≡ 31 → ms ≡ kept_members f 1 → r.outcomes ≡ copied 0 0 31 ms l → r.count ≡ held_count f 1 → r.parity ≡ held_number f 1
    → ConditionHeld f r
condition_held f l ms r size k o c p =
    record {
      is = λ a b vs h numbers lists few.
          let count : r.count ≡ length (list_at_of 1 vs) = c ∙ h.count 1 lists in
          record {
            count = count;
            outcomes_are =
                rw (count, o, k)
                (list_held (copied 0 0 31 (kept_members f 1) l) 0 (list_at_of 1 vs) (omega (arith, length_copied 0 0 31 (kept_members f 1) l))
                (λ j m. copied_in 0 0 31 (kept_members f 1) l j (omega arith) (omega arith) ∙ member_kept f 1 j (omega arith) ∙ h.member 1 j lists (omega arith) m));
            parity_is = p ∙ h.number 1 numbers;
          };
    }

-- ---- the struct

-- the values that all noise lines have
record NoiseValues (f : List ℕ) (vs : List Value) (n : NoiseLine) : Type 0 where
  kind : Kind
  size : ℕ
  is : noise_by kind size vs ≡ n
  numbers : ℕ
  lists : ℕ
  held : Held f numbers lists vs
  two_numbers : 1 < numbers
  two_lists : 1 < lists

noise_values : {g : Form} {f : List ℕ} {vs : List Value} {n : NoiseLine} → Said g f vs (Written.noise n) → NoiseValues f vs n
noise_values {g} {f} {vs} {n} s = go s (noise_view g vs n s.says)
  where
    by : (h : Form) {m : NoiseLine} → g ≡ h → Said g f vs (Written.noise m) → Said h f vs (Written.noise m)
    by h e t = rw e at t

    go : {m : NoiseLine} → Said g f vs (Written.noise m) → NoiseView g vs m → NoiseValues f vs m
    go t (NoiseView.single e) =
        unfold forms place_of bytes in
        record { kind = _; size = _; is = refl; numbers = _; lists = _; held = (by form.Single e t).held; two_numbers = omega arith; two_lists = omega arith }
    go t (NoiseView.depolarizing e) =
        unfold forms place_of bytes in
        record { kind = _; size = _; is = refl; numbers = _; lists = _; held = (by form.Depolarizing e t).held; two_numbers = omega arith; two_lists = omega arith }
    go t (NoiseView.uniform e) =
        unfold forms place_of bytes in
        record { kind = _; size = _; is = refl; numbers = _; lists = _; held = (by form.Uniform e t).held; two_numbers = omega arith; two_lists = omega arith }
    go t (NoiseView.weighted e) =
        unfold forms place_of bytes in
        record { kind = _; size = _; is = refl; numbers = _; lists = _; held = (by form.Weighted e t).held; two_numbers = omega arith; two_lists = omega arith }

pub probability_held : {g : Form} {f : List ℕ} {vs : List Value} {n : NoiseLine} → Said g f vs (Written.noise n) → held_number f 0 ≡ n.probability
unfolding noise_by
probability_held s = let v = noise_values s in v.held.number 0 (omega (arith, v.two_numbers)) ∙ ap (λ (m : NoiseLine). m.probability) v.is

fault_by : {f : List ℕ} {vs : List Value} {n : NoiseLine} {total : Float} {r : PauliFault} (v : NoiseValues f vs n) → length n.condition.outcomes ≤ 31
    → r.probability ≡ float (held_number f 0) → r.distribution ≡ kind_by n.kind total → CorrelationHeld f r.correlation → ConditionHeld f r.condition
    → FaultOf n total r
unfolding noise_by
fault_by {f} {vs} {n} v few p d k c =
    let h = v.held in
    let outcomes : list_at_of 1 vs ≡ n.condition.outcomes = ap (λ (m : NoiseLine). m.condition.outcomes) v.is in
    let condition = c.is _ _ vs h v.two_numbers v.two_lists (rw outcomes few) in
    record {
      probability = p ∙ ap float (h.number 0 (omega (arith, v.two_numbers)) ∙ ap (λ (m : NoiseLine). m.probability) v.is);
      distribution = d;
      correlation = k.is _ _ vs h (omega (arith, v.two_lists)) ∙ ap (λ (m : NoiseLine). m.correlation) v.is;
      count = condition.count ∙ ap length outcomes;
      outcomes = condition.outcomes_are ∙ outcomes;
      parity = ap is_one condition.parity_is ∙ ap (λ (m : NoiseLine). m.condition.parity) v.is;
    }

pub fault_held : {g : Form} {f : List ℕ} {total : Float} {r : PauliFault} → r.probability ≡ float (held_number f 0)
    → ((vs : List Value) (n : NoiseLine) → Said g f vs (Written.noise n) → r.distribution ≡ kind_by n.kind total)
    → CorrelationHeld f r.correlation → ConditionHeld f r.condition → FaultHeld g f total r
fault_held p d k c = record { is = λ vs n s few. fault_by (noise_values s) few p (d vs n s) k c }
