-- Totals that stay true. Laws. Assumes nothing.
use Rattle.std.specs.Prelude.{◌≡◌, refl, Bool, List, ℕ, ◌+◌, ◌-◌, ◌*◌, ◌/◌, ◌%◌, ◌^◌, ◌<◌, ◌≤◌, eqb, length, set, replicate}
use Rattle.std.proofs.Math.Path.{sym, ap}
use Rattle.std.proofs.Common.{◌∙◌, arith, eq-eqb, ne_eqb}
use Rattle.std.proofs.Math.Bool.{cond}
use Rattle.std.proofs.Math.Decide.{ℕ_discrete}
use Rattle.std.proofs.Math.ListN.{get_or, length-set}
use Rattle.std.proofs.lemmas.List.{length-replicate, get_or-replicate}
use Rattle.std.proofs.Math.Seq.{get_or-set_same, get_or-set_other}
use Rattle.pauli.specs.Bits.{Bits, none, added, ◌⊕◌}
use Rattle.rows.specs.Words.{bit_in}
use Rattle.rows.specs.Overwrite.{flipped}
use Rattle.rows.specs.Column.{column}
use Rattle.rows.proofs.Laws.Pack.{column_zeros}
use Rattle.rows.proofs.Laws.Column.{column_flipped}
use Rattle.totals.specs.Ones.{ones_to}
use Rattle.totals.specs.Held.{TotalsHeld}
use Rattle.totals.specs.Laws.Ones.{ones_same, ones_none, ones_few, bit_one, ones_flipped}

-- no row has a one
pub held_zeros : (w m k : ℕ) → 64 * w < 2 ^ 64 → TotalsHeld w m (replicate k 0) (replicate m 0)
unfolding column none
held_zeros w m k fits =
    record {
      fits = fits;
      long = length-replicate m 0;
      are = λ r below. get_or-replicate m r 0 0 below ∙ sym (ones_none (64 * w) (bit_in w (replicate k 0) r) (λ s h. ap (λ (c : Bits). c r) (column_zeros w k s)));
    }

-- a row that was added to
pub added_off : (b : Bits) (id : ℕ) (t : Bool) (r : ℕ) → (r ≡ id → ⊥) → added b id t r ≡ b r
unfolding added
added_off b id t r ne = rw (ne_eqb r id ne)

module _ {w m : ℕ} {rows rows' totals : List ℕ} (held : TotalsHeld w m rows totals) (id : ℕ) (below : id < m) where
  -- Row id changed alone, and its total is put.
  pub held_set : (v : ℕ) → ((s r : ℕ) → s / 64 < w → (r ≡ id → ⊥) → column w rows' s r ≡ column w rows s r) → v ≡ ones_to (64 * w) (bit_in w rows' id)
      → TotalsHeld w m rows' (set totals id v)
  unfolding column
  held_set v off put =
      record {
        fits = held.fits;
        long = length-set totals id v ∙ held.long;
        are = λ r k. go r k (ℕ_discrete r id);
      }
    where
      go : (r : ℕ) → r < m → Dec (r ≡ id) → get_or (set totals id v) r 0 ≡ ones_to (64 * w) (bit_in w rows' r)
      go r k (yes e) = rw (e, get_or-set_same totals id v 0 (rw held.long below)) put
      go r k (no ne) =
          get_or-set_other totals id r v 0 ne
          ∙ held.are r k
          ∙ ones_same (64 * w) (bit_in w rows r) (bit_in w rows' r) (λ s h. sym (off s r (omega arith) ne))

-- bit s of row id is flipped
module _ {w m : ℕ} {rows totals : List ℕ} (held : TotalsHeld w m rows totals) (id : ℕ) (below : id < m) (row : id * w + w ≤ length rows) (s : ℕ) (within : s < 64 * w)
  where
    -- what it was, as a number
    abbrev pub was_set : ℕ
    was_set = get_or rows (id * w + s / 64) 0 / 2 ^ (s % 64) % 2

    bit_after : (t : ℕ) → t < 64 * w → bit_in w (flipped w s id rows) id t ≡ bit_in w rows id t ⊕ eqb s t
    unfolding column added
    bit_after t h = ap (λ (c : Bits). c id) (column_flipped w id s t rows (omega arith) (omega arith) row) ∙ rw (eq-eqb id id refl)

    -- one less where it was set, else one more
    flip_counts : ones_to (64 * w) (bit_in w (flipped w s id rows) id) + 2 * was_set ≡ get_or totals id 0 + 1
    unfolding bit_in
    flip_counts =
        let was : cond (bit_in w rows id s) 1 0 ≡ was_set = bit_one (get_or rows (id * w + s / 64) 0) (s % 64) in
        rw (← was, held.are id below) (ones_flipped (64 * w) s (bit_in w rows id) (bit_in w (flipped w s id rows) id) within bit_after)

    -- the total was not 0 where it was set
    pub flip_enough : 2 * was_set ≤ get_or totals id 0 + 1
    flip_enough = omega (arith, flip_counts)

    pub flip_fits : get_or totals id 0 + 1 < 2 ^ 64
    flip_fits = omega (arith, held.are id below, ones_few (64 * w) (bit_in w rows id), held.fits)

    pub held_flipped : TotalsHeld w m (flipped w s id rows) (set totals id (get_or totals id 0 + 1 - 2 * was_set))
    held_flipped =
        held_set held id below _
        (λ t r h ne. ap (λ (c : Bits). c r) (column_flipped w id s t rows (omega arith) h row) ∙ added_off (column w rows t) id (eqb s t) r ne)
        (omega (arith, flip_counts))
