-- Noise lines by their forms. Laws. Assumes nothing.
use Rattle.std.specs.Prelude.{ℕ, zero, suc, ◌+◌, ◌-◌, ◌^◌, ◌≤◌, ◌<◌, ◌≡◌, Bool, true, leb, ltb, length, get_or}
use Rattle.std.proofs.Common.{◌⊎◌, inl, inr, arith, ap₂, subst, ◌∙◌}
use Rattle.std.proofs.Math.Path.{refl, sym, ap}
use Rattle.std.proofs.Math.Bool.{false}
use mathlib.Core.List.{List, [], ◌∷◌, map}
use Rattle.std.proofs.Math.Option.{some}
use borrow.Author.Tests.{leb-true, leb-false, lt-ltb, le-ltb}
use Rattle.pauli.specs.Pauli.{Pauli}
use Rattle.text.specs.Bytes.{bytes, unlines}
use Rattle.text.specs.Template.{Value, number_at, list_at_of}
use Rattle.template.specs.Values.{held_count, held_list, AllKept}
use Rattle.template.specs.Laws.Fields.{list_held}
use Rattle.job.specs.Line.{pauli_of, WeightedPauli, Distribution, size_of}
use Rattle.job.specs.Checks.{all_below}
use Rattle.job.specs.Grammar.{Kind, NoiseLine, Written, pauli_at_of, forms}
use Rattle.job.specs.Job.{distribution_of}
use Rattle.job.specs.Sound.{PauliSound, Operands, DistributionSound}
use Rattle.reader.specs.declared.Form.{Form}
use Rattle.reader.specs.declared.Form.TheVariants as form
use Rattle.reader.specs.Parsed.{place_of, Said}
use Rattle.instructions.specs.Laws.Meaning.{noise_by, noise_said}
use Rattle.faults.specs.Laws.Line.{NoiseView, noise_view}
use Rattle.draws.specs.Draws.{no_pauli, element_at, depolarizing_element_of}
use Rattle.backward.specs.Walk.{Carried}
use Rattle.single_faults.specs.Table.{row_text}
use Rattle.single_faults.specs.Carried.{rows_by}
use Rattle.fault_table.specs.Lent.{all_carried}
use Rattle.fault_table.specs.Rows.{kept_at, RowsBefore, rows_bytes}
use Rattle.fault_table.specs.Said.{held_pauli, PauliHeld, wide_kind, wide_said, size_said, marks_by, marks_of, no_element, rows_said, NoiseFits, RowsReady}
use Rattle.fault_table.specs.Laws.Keeping.{pauli_held, pauli_same}

-- ---- rows

pub rows_same : (line : ℕ) (f g : ℕ → List ℕ) (n e : ℕ) → ((i : ℕ) → e ≤ i → i < e + n → f i ≡ g i) → rows_by line f n e ≡ rows_by line g n e
unfolding rows_by
rows_same line f g zero e h = refl
rows_same line f g (suc n) e h =
    ap₂ (λ (characters : List ℕ) (rows : List (List ℕ)). row_text line e characters ∷ rows) (h e (omega arith) (omega arith))
    (rows_same line f g n (suc e) (λ i a b. h i (omega arith) (omega arith)))

pub rows_as : {place r : ℕ} {rows others : List (List ℕ)} {out after : List ℕ} → rows ≡ others → RowsBefore place r rows out after → RowsBefore place r others out after
rows_as {place} {r} {out = out} {after = after} e b = subst (λ (rows : List (List ℕ)). RowsBefore place r rows out after) e b

pub few_elements : (k : ℕ) → k ≤ 4 → 4 ^ k - 1 ≤ 255
few_elements zero h = omega arith
few_elements (suc zero) h = omega arith
few_elements (suc (suc zero)) h = omega arith
few_elements (suc (suc (suc zero))) h = omega arith
few_elements (suc (suc (suc (suc zero)))) h = omega arith
few_elements (suc (suc (suc (suc (suc k))))) h = absurd (omega arith)

element_in : (es : List WeightedPauli) (e : ℕ) → get_or (map (λ (w : WeightedPauli). w.pauli) es) e no_pauli ≡ (get_or es e no_element).pauli
element_in [] e = refl
element_in (w ∷ es) zero = refl
element_in (w ∷ es) (suc e) = element_in es e

as_many : (es : List WeightedPauli) → length (map (λ (w : WeightedPauli). w.pauli) es) ≡ length es
as_many [] = refl
as_many (w ∷ es) = ap suc (as_many es)

-- ---- what noise lines of each form say

module _ {words : List ℕ} {vs : List Value} {w : Written} where
  single_said : Said form.Single words vs w → w ≡ Written.noise (noise_by (Kind.single (pauli_at_of 2 3 vs)) (number_at 2 vs) vs)
  unfolding forms place_of bytes
  single_said s = sym (noise_said _ _ vs w s.says)

  depolarizing_said : Said form.Depolarizing words vs w → w ≡ Written.noise (noise_by (Kind.depolarizing (list_at_of 2 vs)) (number_at 2 vs) vs)
  unfolding forms place_of bytes
  depolarizing_said s = sym (noise_said _ _ vs w s.says)

  uniform_said : Said form.Uniform words vs w → w ≡ Written.noise (noise_by (Kind.uniform (number_at 2 vs)) (number_at 3 vs) vs)
  unfolding forms place_of bytes
  uniform_said s = sym (noise_said _ _ vs w s.says)

  weighted_said : Said form.Weighted words vs w → w ≡ Written.noise (noise_by (Kind.weighted (number_at 2 vs)) (number_at 3 vs) vs)
  unfolding forms place_of bytes
  weighted_said s = sym (noise_said _ _ vs w s.says)

said_as : {f k : Form} {words : List ℕ} {vs : List Value} {w : Written} → f ≡ k → Said f words vs w → Said k words vs w
said_as {words = words} {vs = vs} {w = w} e s = subst (λ (g : Form). Said g words vs w) e s

-- ---- 24

more_than_four : (n : ℕ) → ltb 4 n ≡ leb 5 n
more_than_four n = go (leb 5 n) refl
  where
    go : (b : Bool) → leb 5 n ≡ b → ltb 4 n ≡ b
    go true e = lt-ltb 4 n (omega (arith, leb-true 5 n e))
    go false e = le-ltb 4 n (omega (arith, leb-false 5 n e))

module _ {f : Form} {words : List ℕ} {vs : List Value} {w : Written} where
  pub wide_by : f ≡ form.Depolarizing → Said f words vs w → ltb 4 (held_count words 2) ≡ wide_said w
  unfolding wide_said wide_kind noise_by forms place_of bytes
  wide_by e s =
      let q = said_as e s in
      ap (ltb 4) (q.held.count 2 (omega arith)) ∙ more_than_four (length (list_at_of 2 vs)) ∙ sym (ap wide_said (depolarizing_said q))

  pub not_wide : (f ≡ form.Depolarizing → ⊥) → Said f words vs w → false ≡ wide_said w
  unfolding wide_said wide_kind noise_by
  not_wide other s = go w refl
    where
      by_view : {n : NoiseLine} → NoiseView f vs n → false ≡ wide_kind n.kind
      by_view (NoiseView.single e) = refl
      by_view (NoiseView.depolarizing e) = absurd (other e)
      by_view (NoiseView.uniform e) = refl
      by_view (NoiseView.weighted e) = refl

      go : (u : Written) → w ≡ u → false ≡ wide_said u
      go (Written.header h) e = refl
      go (Written.line l) e = refl
      go (Written.noise n) e = by_view (noise_view f vs n (s.says ∙ ap some e))
      go (Written.element v P) e = refl

-- ---- a line that is ready

module _ {f : Form} {words state : List ℕ} {groups : ℕ} {kept : List ℕ} {line place : ℕ} {out : List ℕ} (q : RowsReady f words state groups kept line place out) where
  abbrev cs : List Carried
  cs = all_carried groups state

  -- it is noise of a kind
  pub record OfKind (kind : Kind) : Type 0 where
    pub noise : NoiseLine
    pub is : q.written ≡ Written.noise noise
    pub kind_is : noise.kind ≡ kind

  of_single : f ≡ form.Single → OfKind (Kind.single (pauli_at_of 2 3 q.values))
  unfolding noise_by
  of_single e = record { noise = _; is = single_said (said_as e q.said); kind_is = refl }

  of_depolarizing : f ≡ form.Depolarizing → OfKind (Kind.depolarizing (list_at_of 2 q.values))
  unfolding noise_by
  of_depolarizing e = record { noise = _; is = depolarizing_said (said_as e q.said); kind_is = refl }

  of_uniform : f ≡ form.Uniform → OfKind (Kind.uniform (number_at 2 q.values))
  unfolding noise_by
  of_uniform e = record { noise = _; is = uniform_said (said_as e q.said); kind_is = refl }

  of_weighted : f ≡ form.Weighted → OfKind (Kind.weighted (number_at 2 q.values))
  unfolding noise_by
  of_weighted e = record { noise = _; is = weighted_said (said_as e q.said); kind_is = refl }

  module _ {kind : Kind} (k : OfKind kind) where
    abbrev d : Distribution
    d = distribution_of kind q.elements

    fits : NoiseFits k.noise q.elements
    fits = q.noise k.noise k.is

    of_sound : DistributionSound 256 d
    of_sound = rw k.kind_is at fits.distribution

    of_narrow : wide_kind kind ≡ false
    of_narrow = rw k.kind_is at fits.narrow

    said_size : k.noise.size ≡ size_of d
    said_size = rw k.kind_is at fits.size

    pub of_size : {r : ℕ} → ((vs : List Value) (n : NoiseLine) → Said f words vs (Written.noise n) → r ≡ n.size) → r ≡ size_of d
    of_size h = h q.values k.noise (subst (Said f words q.values) k.is q.said) ∙ said_size

    pub of_room : rows_bytes groups line (size_of d) 0 ≤ place
    unfolding size_said
    of_room = let size : size_said q.written ≡ size_of d = ap size_said k.is ∙ said_size in rw size at q.room

    pub of_rows : rows_by line (λ (e : ℕ). marks_of cs (element_at d e)) (size_of d) 0 ≡ rows_said line cs q.written q.elements
    unfolding rows_said
    of_rows =
        sym
        (ap (λ (w : Written). rows_said line cs w q.elements) k.is
        ∙ ap (λ (j : Kind). let g = distribution_of j q.elements in rows_by line (λ (e : ℕ). marks_of cs (element_at g e)) (size_of g) 0) k.kind_is)

  -- ---- d=1

  module _ (e : f ≡ form.Single) where
    single_sound : PauliSound 256 (pauli_at_of 2 3 q.values)
    unfolding distribution_of DistributionSound
    single_sound = of_sound (of_single e)

    pub single_held : PauliHeld words 2
    unfolding forms place_of bytes
    single_held = pauli_held (said_as e q.said).held q.wide 2 (omega arith) single_sound

    pub single_room : rows_bytes groups line 1 0 ≤ place
    unfolding distribution_of size_of
    single_room = of_room (of_single e)

    pub single_rows : {P : Pauli} → P ≡ pauli_of (held_pauli words 2)
        → rows_by line (λ (i : ℕ). marks_by cs P) 1 0 ≡ rows_said line cs q.written q.elements
    unfolding distribution_of size_of element_at forms place_of bytes
    single_rows is =
        ap (λ (R : Pauli). rows_by line (λ (i : ℕ). marks_by cs R) 1 0) (is ∙ ap pauli_of (pauli_same (said_as e q.said).held q.wide 2 (omega arith) single_sound))
        ∙ of_rows (of_single e)

  -- ---- d=2

  module _ (e : f ≡ form.Depolarizing) where
    operands : Operands 256 (list_at_of 2 q.values)
    unfolding distribution_of DistributionSound
    operands = of_sound (of_depolarizing e)

    few_operands : length (list_at_of 2 q.values) ≤ 4
    unfolding wide_kind
    few_operands = let h = leb-false 5 (length (list_at_of 2 q.values)) (of_narrow (of_depolarizing e)) in omega (arith, h)

    pub list_kept : AllKept words 2
    unfolding forms place_of bytes
    list_kept = rw ((said_as e q.said).held.count 2 (omega arith)) operands.few

    list_is : held_list words 2 ≡ list_at_of 2 q.values
    unfolding forms place_of bytes
    list_is = list_held (said_as e q.said).held q.wide 2 (omega arith) list_kept

    pub list_few : length (held_list words 2) ≤ 31
    list_few = rw list_is operands.few

    pub list_below : all_below 256 (held_list words 2) ≡ true
    list_below = rw list_is operands.below

    module _ {r : ℕ} (size : (vs : List Value) (n : NoiseLine) → Said f words vs (Written.noise n) → r ≡ n.size) where
      sized : r ≡ 4 ^ length (list_at_of 2 q.values) - 1
      unfolding distribution_of size_of
      sized = of_size (of_depolarizing e) size

      pub spread_few : r ≤ 255
      spread_few = omega (arith, sized, few_elements (length (list_at_of 2 q.values)) few_operands)

      pub spread_room : rows_bytes groups line r 0 ≤ place
      unfolding distribution_of size_of
      spread_room = rw sized (of_room (of_depolarizing e))

      pub spread_rows : rows_by line (λ (i : ℕ). marks_of cs (depolarizing_element_of (held_list words 2) i)) r 0 ≡ rows_said line cs q.written q.elements
      unfolding distribution_of size_of element_at
      spread_rows = rw (list_is, sized) (of_rows (of_depolarizing e))

  -- ---- d=3 and d=4

  pub record Listed (r : ℕ) : Type 0 where
    pub few : r ≤ 64
    pub room : rows_bytes groups line r 0 ≤ place
    pub rows : rows_by line (kept_at groups r kept) r 0 ≡ rows_said line cs q.written q.elements

  -- of a distribution whose elements are those behind the line
  module _ {kind : Kind} (k : OfKind kind) (size_is : size_of (distribution_of kind q.elements) ≡ length q.elements)
      (are : (i : ℕ) → element_at (distribution_of kind q.elements) i ≡ (get_or q.elements i no_element).pauli) (few : length q.elements ≤ 64)
      {r : ℕ} (size : (vs : List Value) (n : NoiseLine) → Said f words vs (Written.noise n) → r ≡ n.size) where
    many : r ≡ length q.elements
    many = of_size k size ∙ size_is

    listed : Listed r
    listed =
        record {
          few = omega (arith, many);
          room = rw (of_size k size) (of_room k);
          rows =
              rw many
              (rows_same line (kept_at groups (length q.elements) kept) (λ (i : ℕ). marks_of cs (element_at (distribution_of kind q.elements) i)) (length q.elements) 0
              (λ i a b. q.holds.held few i (omega arith) ∙ sym (ap (marks_of cs) (are i)))
              ∙ ap (λ (n : ℕ). rows_by line (λ (i : ℕ). marks_of cs (element_at (distribution_of kind q.elements) i)) n 0) (sym size_is)
              ∙ of_rows k);
        }

  module _ {r : ℕ} (size : (vs : List Value) (n : NoiseLine) → Said f words vs (Written.noise n) → r ≡ n.size) where
    listed_uniform : f ≡ form.Uniform → Listed r
    unfolding distribution_of size_of element_at DistributionSound
    listed_uniform e =
        listed (of_uniform e) (as_many q.elements) (element_in q.elements) (omega (arith, as_many q.elements, (of_sound (of_uniform e)).few)) size

    listed_weighted : f ≡ form.Weighted → Listed r
    unfolding distribution_of size_of element_at DistributionSound
    listed_weighted e = listed (of_weighted e) refl (element_in q.elements) (of_sound (of_weighted e)).few size

    pub listed_either : ◌⊎◌ (f ≡ form.Uniform) (f ≡ form.Weighted) → Listed r
    listed_either (inl e) = listed_uniform e
    listed_either (inr e) = listed_weighted e

  -- ---- other lines

  pub no_rows : (f ≡ form.Single → ⊥) → (f ≡ form.Depolarizing → ⊥) → (f ≡ form.Uniform → ⊥) → (f ≡ form.Weighted → ⊥)
      → RowsBefore place place (rows_said line cs q.written q.elements) out out
  unfolding rows_said unlines
  no_rows a b c d = go q.written refl
    where
      nothing : RowsBefore place place [] out out
      nothing = record { begins = omega arith; bytes = refl }

      by_view : {n : NoiseLine} → NoiseView f q.values n → RowsBefore place place (rows_said line cs (Written.noise n) q.elements) out out
      by_view (NoiseView.single e) = absurd (a e)
      by_view (NoiseView.depolarizing e) = absurd (b e)
      by_view (NoiseView.uniform e) = absurd (c e)
      by_view (NoiseView.weighted e) = absurd (d e)

      go : (u : Written) → q.written ≡ u → RowsBefore place place (rows_said line cs u q.elements) out out
      go (Written.header h) e = nothing
      go (Written.line l) e = nothing
      go (Written.noise n) e = by_view (noise_view f q.values n (q.said.says ∙ ap some e))
      go (Written.element v P) e = nothing
