-- Texts put one after the other. Laws. Assumes nothing.
use Rattle.std.specs.Prelude.{◌≡◌, refl, List, [], ◌∷◌, ◌++◌, ℕ, suc, ◌+◌, ◌-◌, ◌≤◌, ◌<◌, min, Bool, true, false, leb, length, get_or, set, take, drop}
use Rattle.std.proofs.Common.{sym, ap, ◌∙◌, add-zero, add-suc, suc-add, zero-add, add-one, arith, leb-true, leb-false, length-set, length-append, take-append-drop, take-suc, take_all, length-take-le}
use Rattle.std.proofs.Math.Seq.{set_out}
use Rattle.std.proofs.lemmas.List.Edits.{sets, sets-eq}
use Rattle.job.specs.Reply.{over}
use Rattle.writer.specs.Placed.{placed, Puts}

-- one text after the other
pub placed_append : (at : ℕ) (s t out : List ℕ) → placed at (s ++ t) out ≡ placed (at + length s) t (placed at s out)
unfolding placed
placed_append at [] t out = rw add-zero
placed_append at (b ∷ s) t out = placed_append (suc at) s t (set out at b) ∙ rw (add-suc, suc-add)

-- the lent bytes stay as many
pub placed_length : (at : ℕ) (s out : List ℕ) → length (placed at s out) ≡ length out
unfolding placed
placed_length at [] out = refl
placed_length at (b ∷ s) out = placed_length (suc at) s (set out at b) ∙ length-set out at b

-- past the end nothing is written
pub placed_past : (at : ℕ) (s out : List ℕ) → length out ≤ at → placed at s out ≡ out
unfolding placed
placed_past at [] out h = refl
placed_past at (b ∷ s) out h = ap (placed (suc at) s) (set_out out at b h) ∙ placed_past (suc at) s out (omega arith)

-- a text that fits is written over the first bytes
pub placed_sets : (at : ℕ) (s out : List ℕ) → placed at s out ≡ sets out at s
unfolding placed
placed_sets at [] out = refl
placed_sets at (b ∷ s) out = placed_sets (suc at) s (set out at b)

pub placed_over : (text out : List ℕ) → length text ≤ length out → placed 0 text out ≡ over text out
placed_over text out h = placed_sets 0 text out ∙ sets-eq text out 0 (rw zero-add h) ∙ rw zero-add

-- ---- texts that were put

pub puts_nothing : {at : ℕ} {out : List ℕ} → Puts at [] out out at
unfolding placed
puts_nothing {at} = record { bytes = refl; place = rw add-zero }

pub puts_more : {at next end : ℕ} {s t out mid after : List ℕ} → Puts at s out mid next → Puts next t mid after end → Puts at (s ++ t) out after end
puts_more {at} {next} {end} {s} {t} {out} {mid} {after} p q =
    record {
      bytes = q.bytes ∙ rw (p.bytes, p.place) (sym (placed_append at s t out));
      place = omega (arith, p.place, q.place, length-append s t);
    }

pub puts_length : {at next : ℕ} {text out after : List ℕ} → Puts at text out after next → length after ≡ length out
puts_length {at} {next} {text} {out} p = ap length p.bytes ∙ placed_length at text out

-- A text is put from its start on, and of it this is left to put: for loops.
pub record Rest (at : ℕ) (text out : List ℕ) (next : ℕ) (rest after : List ℕ) : Type 0 where
  pub bytes : placed at text out ≡ placed next rest after
  pub place : at + length text ≡ next + length rest

pub rest_all : {at : ℕ} {text out : List ℕ} → Rest at text out at text out
rest_all = record { bytes = refl; place = refl }

pub rest_more : {at next end : ℕ} {text out s rest mid after : List ℕ} → Rest at text out next (s ++ rest) mid → Puts next s mid after end → Rest at text out end rest after
rest_more {at} {next} {end} {text} {out} {s} {rest} {mid} r p =
    record {
      bytes = r.bytes ∙ placed_append next s rest mid ∙ rw (p.bytes, p.place);
      place = omega (arith, r.place, p.place, length-append s rest);
    }

pub rest_none : {at next : ℕ} {text out after : List ℕ} → Rest at text out next [] after → Puts at text out after next
unfolding placed
rest_none r = record { bytes = sym r.bytes; place = omega (arith, r.place) }

pub rest_length : {at next : ℕ} {text out rest after : List ℕ} → Rest at text out next rest after → length after ≡ length out
rest_length {at} {next} {text} {out} {rest} {after} r =
    sym (placed_length next rest after) ∙ sym (ap length r.bytes) ∙ placed_length at text out

-- ---- the code's loops

pub puts_byte : {at : ℕ} {b : ℕ} {out : List ℕ} → Puts at (b ∷ []) out (set out at b) (at + 1)
unfolding placed
puts_byte = record { bytes = refl; place = refl }

-- past the end a text is counted
pub puts_past : (at : ℕ) (text out : List ℕ) → length out ≤ at → Puts at text out out (at + length text)
puts_past at text out h = record { bytes = sym (placed_past at text out h); place = refl }

-- the first i bytes of s are copied
pub record Copied (at : ℕ) (s out : List ℕ) (i : ℕ) (after : List ℕ) : Type 0 where
  pub bytes : after ≡ placed at (take i s) out

pub copied_none : {at : ℕ} {s out : List ℕ} → Copied at s out 0 out
unfolding placed
copied_none = record { bytes = refl }

pub copied_length : {at : ℕ} {s out : List ℕ} {i : ℕ} {after : List ℕ} → Copied at s out i after → length after ≡ length out
copied_length {at} {s} {out} {i} c = ap length c.bytes ∙ placed_length at (take i s) out

pub copied_more : {at : ℕ} {s out : List ℕ} {i : ℕ} {after : List ℕ} → Copied at s out i after → i < length s → Copied at s out (i + 1) (set after (at + i) (get_or s i 0))
unfolding placed
copied_more {at} {s} {out} {i} c h =
    let n : length (take i s) ≡ i = length-take-le i s (omega arith) in
    record { bytes = rw (c.bytes, add-one, take-suc s i 0, placed_append, n) refl }

-- the bytes that have a place are copied
pub copied_all : {at : ℕ} {s out : List ℕ} {n : ℕ} {after : List ℕ} → Copied at s out n after → n ≡ min (length s) (length out - at) → Puts at s out after (at + length s)
copied_all {at} {s} {out} {n} {after} c e = record { bytes = c.bytes ∙ go (leb (length s) n) refl; place = refl }
  where
    go : (t : Bool) → leb (length s) n ≡ t → placed at (take n s) out ≡ placed at s out
    go true q = ap (λ (l : List ℕ). placed at l out) (take_all n s (leb-true (length s) n q))
    go false q =
        let part : n < length s = leb-false (length s) n q in
        let first : length (take n s) ≡ n = length-take-le n s (omega arith) in
        let past : length (placed at (take n s) out) ≤ at + length (take n s) = rw (placed_length, first) (omega arith) in
        sym
        (ap (λ (l : List ℕ). placed at l out) (sym (take-append-drop n s))
        ∙ placed_append at (take n s) (drop n s) out
        ∙ placed_past (at + length (take n s)) (drop n s) (placed at (take n s) out) past)
