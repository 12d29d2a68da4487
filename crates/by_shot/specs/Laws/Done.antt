-- All blocks: group after group, to the packed words. Assumes nothing.
use Rattle.std.specs.Prelude.{◌≡◌, refl, Bool, true, false, ◌&&◌, List, length, get_or}
use Rattle.std.proofs.Math.Path.{sym, ap, fun_ext}
use Rattle.std.proofs.Common.{◌∙◌, mul-zero, not-suc-le-zero, le-ltb}
use Prim.Native.Nat.{ℕ, zero, suc, ◌+◌, ◌*◌, ◌/◌, ◌%◌, ◌^◌, ◌<◌, ◌≤◌}
use native.Mathlib.Omega.{arith}
use Rattle.std.proofs.Math.Decide.{ℕ_discrete}
use Rattle.std.proofs.Math.Dec.{ltb}
use Rattle.std.proofs.Math.Seq.{ext_get_or}
use Rattle.rows.specs.Words.{words_per_row, bit_in, word_of, tabulated, pack}
use Rattle.rows.specs.Column.{column}
use Rattle.rows.proofs.Laws.Pack.{length_pack, packed}
use Rattle.by_shot.specs.Reply.{transposed}
use Rattle.by_shot.specs.Blocks.{Right, DoneTo}

module _ (rows columns : ℕ) (source : List ℕ) where
  pub done_none : (target : List ℕ) → DoneTo rows columns source 0 0 target
  done_none target = record { groups = λ c r hc hr k. absurd (not-suc-le-zero k); blocks = λ c r hc hr e k. absurd (not-suc-le-zero k) }

  -- a group of columns is done with its last block
  pub done_group : (b : ℕ) (target : List ℕ) → DoneTo rows columns source b (words_per_row rows) target → DoneTo rows columns source (b + 1) 0 target
  done_group b target d =
      record { groups = λ c r hc hr k. go c r hc hr k (ℕ_discrete (c / 64) b); blocks = λ c r hc hr e k. absurd (not-suc-le-zero k) }
    where
      go : (c r : ℕ) → c < columns → r / 64 < words_per_row rows → c / 64 < b + 1 → Dec (c / 64 ≡ b) → Right rows columns source target c r
      go c r hc hr k (yes e) = d.blocks c r hc hr e hr
      go c r hc hr k (no e) = d.groups c r hc hr (omega arith)

  -- the bits that are packed have no row past the last
  twice : (t u : Bool) → (t && (t && u)) ≡ (t && u)
  twice true u = refl
  twice false u = refl

  pack_masked : pack columns rows (λ c r. ltb r rows && bit_in (words_per_row columns) source r c) ≡ transposed rows columns source
  unfolding pack transposed
  pack_masked =
      ap (λ f. tabulated f (columns * words_per_row rows))
      (fun_ext (λ k. ap (λ (f : ℕ → Bool). word_of f 64) (fun_ext (λ j. twice (ltb (64 * (k % words_per_row rows) + j) rows) _))))

  module _ (target : List ℕ) (long : length target ≡ columns * words_per_row rows) where
    done_some : 1 ≤ rows → ((i : ℕ) → get_or target i 0 < 2 ^ 64) → DoneTo rows columns source (words_per_row columns) 0 target
        → target ≡ transposed rows columns source
    unfolding column
    done_some some fits d =
        packed columns rows (λ c r. ltb r rows && bit_in (words_per_row columns) source r c) target some long fits
        (λ r c hr hc. d.groups c r hc hr (omega arith))
        (λ r c hr hc k. rw (le-ltb r rows k))
        ∙ pack_masked

    -- no rows need no words
    done_empty : rows ≡ 0 → target ≡ transposed rows columns source
    unfolding transposed
    done_empty e = ext_get_or 0 target (transposed rows columns source) (long ∙ sym (length_pack columns rows _)) (λ i h. absurd (not-suc-le-zero (rw (long, none, mul-zero) at h)))
      where
        none : words_per_row rows ≡ 0
        none = omega arith

    pub done_all : ((i : ℕ) → get_or target i 0 < 2 ^ 64) → DoneTo rows columns source (words_per_row columns) 0 target → target ≡ transposed rows columns source
    done_all fits d = go rows refl
      where
        go : (n : ℕ) → rows ≡ n → target ≡ transposed rows columns source
        go zero e = done_empty e
        go (suc n) e = done_some (omega arith) fits d
