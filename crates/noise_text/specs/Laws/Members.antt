-- The lists of an element as an injection is put from them: two counts, and 31 words for the members of each. Laws. Assumes nothing.
use Rattle.std.specs.Prelude.{◌≡◌, List, [], ◌∷◌, ◌++◌, ℕ, ◌+◌, ◌*◌, ◌≤◌, length, get_or, take, drop}
use Rattle.std.proofs.Common.{ap, ◌∙◌, add-zero, arith, length-append, length-drop, take_at, drop_at, take-take, take-add, drop-drop, get_or-take, get_or-drop, length-take-le}
use Rattle.std.proofs.lemmas.List.{take-append-le}
use Rattle.line_writer.specs.Line.{PauliLent}
use Rattle.faults.specs.Elements.{x_count, z_count, x_members, z_members, element_X, element_Z, element_counts_of, element_members_of}
use Rattle.noise_text.specs.Elements.{Kept}

-- ---- two lists that were put into one array, the one after the other

module _ (x z words : List ℕ) (g : length words ≡ 31) (e : length x ≡ 31) (k : length z ≡ length (take 31 (drop 31 (x ++ words)))) where
  f : length z ≡ 31
  f = k ∙ ap (λ (l : List ℕ). length (take 31 l)) (drop_at x words 31 e) ∙ length-take-le 31 words (omega (arith, g))

  -- 31 words of x, then z
  abbrev both : List ℕ
  both = take 31 (x ++ words) ++ (z ++ drop 31 (drop 31 (x ++ words)))

  parts : both ≡ x ++ (z ++ drop 31 (drop 31 (x ++ words)))
  parts = ap (λ (l : List ℕ). l ++ (z ++ drop 31 (drop 31 (x ++ words)))) (take_at x words 31 e)

  pub both_length : length both ≡ 62
  both_length =
      let rest : List ℕ = drop 31 (drop 31 (x ++ words)) in
      let whole : length both ≡ length x + (length z + length rest) = ap length parts ∙ length-append x (z ++ rest) ∙ ap (λ (n : ℕ). length x + n) (length-append z rest) in
      omega (arith, whole, length-drop 31 (drop 31 (x ++ words)), length-drop 31 (x ++ words), length-append x words, e, f, g)

  pub both_x : (n : ℕ) → n ≤ 31 → take n both ≡ take n x
  both_x n h = ap (take n) parts ∙ take-append-le n x _ (rw e h)

  pub both_z : (n : ℕ) → n ≤ 31 → take n (drop 31 both) ≡ take n z
  both_z n h = ap (λ (l : List ℕ). take n (drop 31 l)) parts ∙ ap (take n) (drop_at x _ 31 e) ∙ take-append-le n z _ (rw f h)

  pub both_lent : (m n : ℕ) → m ≤ 31 → n ≤ 31 → PauliLent (m ∷ n ∷ []) both
  both_lent m n h l = record { two = omega arith; x_few = h; z_few = l; for_members = omega (arith, both_length) }

-- ---- an element that is kept whole

module _ {l : List ℕ} {e : ℕ} (h : Kept l e) where
  count_x : get_or (element_counts_of l e) 0 0 ≡ x_count l e
  count_x = get_or-take 2 (drop (e * 64) l) 0 0 (omega arith) ∙ get_or-drop (e * 64) l 0 0 ∙ ap (λ (k : ℕ). get_or l k 0) (add-zero (e * 64))

  count_z : get_or (element_counts_of l e) 1 0 ≡ z_count l e
  count_z = get_or-take 2 (drop (e * 64) l) 1 0 (omega arith) ∙ get_or-drop (e * 64) l 1 0

  counts_length : length (element_counts_of l e) ≡ 2
  counts_length = length-take-le 2 (drop (e * 64) l) (rw length-drop (omega (arith, h.inside)))

  members_length : length (element_members_of l e) ≡ 62
  members_length = length-take-le 62 (x_members l e) (rw length-drop (omega (arith, h.inside)))

  pub kept_lent : PauliLent (element_counts_of l e) (element_members_of l e)
  kept_lent =
      record {
        two = omega (arith, counts_length);
        x_few = rw count_x h.x_few;
        z_few = rw count_z h.z_few;
        for_members = omega (arith, members_length);
      }

  pub kept_x : take (get_or (element_counts_of l e) 0 0) (element_members_of l e) ≡ element_X l e
  kept_x = rw count_x (take-take (x_count l e) 62 (x_members l e) (omega (arith, h.x_few)))

  pub kept_z : take (get_or (element_counts_of l e) 1 0) (drop 31 (element_members_of l e)) ≡ element_Z l e
  kept_z =
      let first : length (take 31 (x_members l e)) ≡ 31 = length-take-le 31 (x_members l e) (rw length-drop (omega (arith, h.inside))) in
      let place : e * 64 + 2 + 31 ≡ e * 64 + 33 = omega arith in
      let second : drop 31 (x_members l e) ≡ z_members l e = drop-drop 31 (e * 64 + 2) l ∙ ap (λ (k : ℕ). drop k l) place in
      let half : drop 31 (element_members_of l e) ≡ take 31 (z_members l e) = ap (drop 31) (take-add 31 31 (x_members l e)) ∙ drop_at (take 31 (x_members l e)) _ 31 first ∙ ap (take 31) second in
      rw count_z (ap (take (z_count l e)) half ∙ take-take (z_count l e) 31 (z_members l e) h.z_few)
