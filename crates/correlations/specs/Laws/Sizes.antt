-- The correlation and the size that a line says, by its form. Laws. Assumes nothing.
use Rattle.std.specs.Prelude.{ℕ, suc, ◌<◌, ◌≡◌, refl, Bool, true, false, not, List, [], ◌∷◌, eqb, length, get_or}
use Rattle.std.proofs.Common.{arith, sym, ap, subst, ◌∙◌, true≢false, ne_eqb}
use Rattle.std.proofs.Math.Option.{Option, none, some}
use Rattle.text.specs.Bytes.{bytes}
use Rattle.text.specs.Template.{Value, number_at, list_at_of}
use Rattle.template.specs.Fields.{Held}
use Rattle.template.specs.Values.{held_number, held_count, held_member}
use Rattle.job.specs.Grammar.{Kind, NoiseLine, Written, optional, noise_line, forms}
use Rattle.reader.specs.declared.Form.{Form}
use Rattle.reader.specs.declared.Form.TheVariants as form
use Rattle.reader.specs.Parsed.{place_of, form_of, Said}
use Rattle.instructions.specs.Reading.{noise_form}
use Rattle.instructions.specs.Laws.Meaning.{noise_by, noise_said, Meaning, meaning, noise_is_noise}
use Rattle.correlations.specs.Sizes.{correlation_in, size_in, present}

-- ---- the size

noise_same : {m n : NoiseLine} → Written.noise m ≡ Written.noise n → m ≡ n
noise_same e = cc

-- what a noise line says of it
size_by : (kind : Kind) (size : ℕ) (vs : List Value) (n : NoiseLine) → noise_line kind size vs ≡ some (Written.noise n) → size ≡ n.size
unfolding noise_by
size_by kind size vs n e = ap (λ (m : NoiseLine). m.size) (noise_same (noise_said kind size vs (Written.noise n) e))

module _ {fields : List ℕ} {vs : List Value} {n : NoiseLine} where
  pub size_uniform : Said form.Uniform fields vs (Written.noise n) → held_number fields 3 ≡ n.size
  unfolding forms place_of bytes
  size_uniform s = s.held.number 3 (omega arith) ∙ size_by _ (number_at 3 vs) vs n s.says

  pub size_weighted : Said form.Weighted fields vs (Written.noise n) → held_number fields 3 ≡ n.size
  unfolding forms place_of bytes
  size_weighted s = s.held.number 3 (omega arith) ∙ size_by _ (number_at 3 vs) vs n s.says

  other_size : (f : Form) → (f ≡ form.Uniform → ⊥) → (f ≡ form.Weighted → ⊥) → noise_form f ≡ true → Said f fields vs (Written.noise n) → held_number fields 2 ≡ n.size
  unfolding forms place_of bytes noise_form
  other_size form.Unread a b t s = absurd (true≢false (sym t))
  other_size form.Header a b t s = absurd (true≢false (sym t))
  other_size form.Unitary a b t s = absurd (true≢false (sym t))
  other_size form.Clifford a b t s = absurd (true≢false (sym t))
  other_size form.Pauli a b t s = absurd (true≢false (sym t))
  other_size form.Exponential a b t s = absurd (true≢false (sym t))
  other_size form.Controlled a b t s = absurd (true≢false (sym t))
  other_size form.Permute a b t s = absurd (true≢false (sym t))
  other_size form.Measure a b t s = absurd (true≢false (sym t))
  other_size form.Allocate a b t s = absurd (true≢false (sym t))
  other_size form.Conditional a b t s = absurd (true≢false (sym t))
  other_size form.Reset a b t s = absurd (true≢false (sym t))
  other_size form.Inject a b t s = absurd (true≢false (sym t))
  other_size form.Flip a b t s = absurd (true≢false (sym t))
  other_size form.Single a b t s = s.held.number 2 (omega arith) ∙ size_by _ (number_at 2 vs) vs n s.says
  other_size form.Depolarizing a b t s = s.held.number 2 (omega arith) ∙ size_by _ (number_at 2 vs) vs n s.says
  other_size form.Uniform a b t s = absurd (a refl)
  other_size form.Weighted a b t s = absurd (b refl)
  other_size form.Element a b t s = absurd (true≢false (sym t))
  other_size form.WeightedElement a b t s = absurd (true≢false (sym t))
  other_size form.EditionHeader a b t s = absurd (true≢false (sym t))
  other_size form.Barrier a b t s = absurd (true≢false (sym t))

  -- of a noise line without n
  pub size_other : (f : Form) → (f ≡ form.Uniform → ⊥) → (f ≡ form.Weighted → ⊥) → Said f fields vs (Written.noise n) → held_number fields 2 ≡ n.size
  size_other f a b s = other_size f a b (noise_is_noise (meaning f vs (Written.noise n) s.says)) s

-- ---- the correlation

-- a line of no noise has none
meaning_none : {f : Form} {w : Written} → noise_form f ≡ false → Meaning f w → correlation_in w ≡ none
unfolding correlation_in noise_form
meaning_none q (Meaning.header h e) = refl
meaning_none q (Meaning.edition_header h e) = refl
meaning_none q (Meaning.plain l e k) = refl
meaning_none q (Meaning.measure l e) = refl
meaning_none q (Meaning.allocate l e) = refl
meaning_none q (Meaning.alone n e t k) = absurd (true≢false (sym k ∙ q))
meaning_none q (Meaning.uniform n e t) = absurd (true≢false (sym (ap noise_form e) ∙ q))
meaning_none q (Meaning.weighted n e t) = absurd (true≢false (sym (ap noise_form e) ∙ q))
meaning_none q (Meaning.element P e) = refl
meaning_none q (Meaning.weighted_element v P e) = refl

pub quiet_none : (f : Form) (vs : List Value) (w : Written) → noise_form f ≡ false → (form_of f).says vs ≡ some w → correlation_in w ≡ none
quiet_none f vs w q s = meaning_none q (meaning f vs w s)

-- a noise line's corr is the first of its lists, with at most one member
record CorrIn (fields : List ℕ) (vs : List Value) (w : Written) : Type 0 where
  is : correlation_in w ≡ optional (list_at_of 0 vs)
  count : held_count fields 0 ≡ length (list_at_of 0 vs)
  member : 0 < length (list_at_of 0 vs) → held_member fields 0 0 ≡ get_or (list_at_of 0 vs) 0 0

corr_held : {fields : List ℕ} {n m : ℕ} (kind : Kind) (size : ℕ) (vs : List Value) (w : Written) → Held fields n m vs → 0 < m
    → Written.noise (noise_by kind size vs) ≡ w → CorrIn fields vs w
unfolding correlation_in noise_by
corr_held kind size vs w h k e = record { is = rw (← e); count = h.count 0 k; member = λ g. h.member 0 0 k (omega arith) g }

corr_in : (f : Form) {fields : List ℕ} {vs : List Value} {w : Written} → noise_form f ≡ true → Said f fields vs w → CorrIn fields vs w
unfolding forms place_of bytes noise_form
corr_in form.Unread t s = absurd (true≢false (sym t))
corr_in form.Header t s = absurd (true≢false (sym t))
corr_in form.Unitary t s = absurd (true≢false (sym t))
corr_in form.Clifford t s = absurd (true≢false (sym t))
corr_in form.Pauli t s = absurd (true≢false (sym t))
corr_in form.Exponential t s = absurd (true≢false (sym t))
corr_in form.Controlled t s = absurd (true≢false (sym t))
corr_in form.Permute t s = absurd (true≢false (sym t))
corr_in form.Measure t s = absurd (true≢false (sym t))
corr_in form.Allocate t s = absurd (true≢false (sym t))
corr_in form.Conditional t s = absurd (true≢false (sym t))
corr_in form.Reset t s = absurd (true≢false (sym t))
corr_in form.Inject t s = absurd (true≢false (sym t))
corr_in form.Flip t s = absurd (true≢false (sym t))
corr_in form.Single {fields} {vs} {w} t s = corr_held _ _ vs w s.held (omega arith) (noise_said _ _ vs w s.says)
corr_in form.Depolarizing {fields} {vs} {w} t s = corr_held _ _ vs w s.held (omega arith) (noise_said _ _ vs w s.says)
corr_in form.Uniform {fields} {vs} {w} t s = corr_held _ _ vs w s.held (omega arith) (noise_said _ _ vs w s.says)
corr_in form.Weighted {fields} {vs} {w} t s = corr_held _ _ vs w s.held (omega arith) (noise_said _ _ vs w s.says)
corr_in form.Element t s = absurd (true≢false (sym t))
corr_in form.WeightedElement t s = absurd (true≢false (sym t))
corr_in form.EditionHeader t s = absurd (true≢false (sym t))
corr_in form.Barrier t s = absurd (true≢false (sym t))

present_optional : (l : List ℕ) → present (optional l) ≡ not (eqb (length l) 0)
unfolding present optional
present_optional [] = refl
present_optional (c ∷ l) = rw (ne_eqb (suc (length l)) 0 (λ (e : suc (length l) ≡ 0). omega arith))

-- whether there is one, by the count of that list
pub present_noise : {f : Form} {fields : List ℕ} {vs : List Value} {w : Written} → noise_form f ≡ true → Said f fields vs w
    → not (eqb (held_count fields 0) 0) ≡ present (correlation_in w)
present_noise {f} {fields} {vs} t s = let c = corr_in f t s in sym (ap present c.is ∙ present_optional (list_at_of 0 vs) ∙ rw c.count)

first_of : (l : List ℕ) → present (optional l) ≡ true → (0 < length l) × (optional l ≡ some (get_or l 0 0))
unfolding present optional
first_of [] h = absurd (true≢false (sym h))
first_of (c ∷ l) h = (omega arith, refl)

-- a corr that is there, as the fields hold it, is one of noise
pub record NoiseWith (c : ℕ) (w : Written) : Type 0 where
  pub noise : NoiseLine
  pub is : w ≡ Written.noise noise
  pub correlation : correlation_in w ≡ some c

with_corr : (c : ℕ) (w : Written) → correlation_in w ≡ some c → NoiseWith c w
unfolding correlation_in
with_corr c (Written.header h) e = let z : ◌≡◌ {A = ℕ} 0 1 = cc in absurd (omega arith)
with_corr c (Written.line i) e = let z : ◌≡◌ {A = ℕ} 0 1 = cc in absurd (omega arith)
with_corr c (Written.noise n) e = record { noise = n; is = refl; correlation = e }
with_corr c (Written.element v P) e = let z : ◌≡◌ {A = ℕ} 0 1 = cc in absurd (omega arith)

pub correlated : {f : Form} {fields : List ℕ} {vs : List Value} {w : Written} → Said f fields vs w → present (correlation_in w) ≡ true → NoiseWith (held_member fields 0 0) w
unfolding present
correlated {f} {fields} {vs} {w} s h = go (noise_form f) refl
  where
    go : (b : Bool) → noise_form f ≡ b → NoiseWith (held_member fields 0 0) w
    go false q = absurd (true≢false (sym h ∙ ap present (quiet_none f vs w q s.says)))
    go true t =
        let c = corr_in f t s in
        let (some-there, first) = first_of (list_at_of 0 vs) (sym (ap present c.is) ∙ h) in
        with_corr (held_member fields 0 0) w (c.is ∙ first ∙ ap some (sym (c.member some-there)))

pub absent : (o : Option ℕ) → present o ≡ false → o ≡ none
unfolding present
absent none h = refl
absent (some c) h = absurd (true≢false h)

-- the size of noise, as the code finds it
pub noise_size : {f : Form} {fields : List ℕ} {vs : List Value} {w : Written} {c size : ℕ} → Said f fields vs w → NoiseWith c w
    → ((vs : List Value) (n : NoiseLine) → Said f fields vs (Written.noise n) → size ≡ n.size) → size ≡ size_in w
unfolding size_in
noise_size {f} {fields} {vs} {w} {c} {size} s n e = e vs n.noise (subst (Said f fields vs) n.is s) ∙ sym (ap size_in n.is)
