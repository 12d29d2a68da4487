-- Parts of a set at the operands. Laws. Assumes nothing.
use Rattle.std.specs.Prelude.{ℕ, suc, ◌+◌, ◌≤◌, ◌<◌, ◌≡◌, refl, Bool, true, false, ◌&&◌, length, get_or, drop}
use Rattle.std.proofs.Common.{add-zero, arith, ap₂, ◌∙◌, drop_of_length-le}
use Rattle.std.proofs.Math.Decide.{dec_lt}
use Rattle.std.proofs.Math.Path.{sym, ap, fun_ext}
use mathlib.Core.List.{List, [], ◌∷◌}
use Rattle.std.proofs.Math.ListN.{get_or-eq_default}
use Rattle.std.specs.Int.Bits.{bit_xor}
use Rattle.text.proofs.Laws.Pieces.{step}
use Rattle.pauli.specs.Bits.{Bits, ◌⊕◌, ◌∩◌, ◌△◌, only, given, added, outside, bit}
use Rattle.pauli.specs.Pauli.{Pauli, cleared}
use Rattle.pauli.proofs.Laws.Changes.{cleared_none, cleared_more}
use Rattle.pauli.proofs.Laws.F2.{f2}
use Rattle.pauli.proofs.Laws.Parity.{bitwise, added_is, △_none}
use Rattle.pauli.proofs.Laws.Word.{bit_xor_lem}
use Rattle.pauli.specs.Fixed.{AllBelow}
use Rattle.job.specs.Checks.{all_below, distinct}
use Rattle.job.proofs.Laws.Lists.{below_at}
use Rattle.frames.specs.Forward.{placed}
use Rattle.frames.proofs.Laws.Places.{PlaceOf, where_is, at_place, placed_off, placed_at}
use Rattle.lines_back.specs.Packed.{Packed}

-- ---- below

-- an operand, or 0 where there is none
pub operand_below : (n : ℕ) (l : List ℕ) (i : ℕ) → 0 < n → all_below n l ≡ true → get_or l i 0 < n
operand_below n l i positive e = go (dec_lt i (length l))
  where
    go : Dec (i < length l) → get_or l i 0 < n
    go (yes h) = below_at n l e i h
    go (no h) = let past : length l ≤ i = omega (arith, h) in rw (get_or-eq_default l 0 past) positive

pub all_below_lem : {n : ℕ} {l : List ℕ} → all_below n l ≡ true → AllBelow n l
all_below_lem {n} {l} e = record { below = below_at n l e }

-- ---- a set added, or none

pub none_added : (s t : Bits) → s ≡ s △ given false t
none_added s t = fun_ext (λ i. simp bitwise)

pub all_added : (s t : Bits) → s △ t ≡ s △ given true t
all_added s t = fun_ext (λ i. simp bitwise)

-- ---- places

pub placed_same : (f g : Bits) (qs : List ℕ) → ((j : ℕ) → j < length qs → f j ≡ g j) → placed f qs ≡ placed g qs
unfolding placed
placed_same f g [] e = refl
placed_same f g (q ∷ qs) e =
    ap₂ (λ (b : Bool) (s : Bits). given b (only q) △ s) (e 0 (omega arith))
    (placed_same (λ j. f (suc j)) (λ j. g (suc j)) qs (λ j h. e (suc j) (omega arith)))

-- To put new bits at the operands is to add what old and new bits differ by.
pub parts_put : (s : Bits) (new : Bits) (qs : List ℕ) → distinct qs ≡ true
    → s △ placed (λ j. s (get_or qs j 0) ⊕ new j) qs ≡ (s ∩ outside qs) △ placed new qs
unfolding ◌∩◌ ◌△◌
parts_put s new qs d = fun_ext (λ q. where_is qs q (off q) (on q))
  where
    off : (q : ℕ) → outside qs q ≡ true → s q ⊕ placed (λ j. s (get_or qs j 0) ⊕ new j) qs q ≡ (s q && outside qs q) ⊕ placed new qs q
    off q o = rw (placed_off (λ j. s (get_or qs j 0) ⊕ new j) qs q o, placed_off new qs q o, o) (simp f2)

    on : (q : ℕ) → PlaceOf qs q → s q ⊕ placed (λ j. s (get_or qs j 0) ⊕ new j) qs q ≡ (s q && outside qs q) ⊕ placed new qs q
    on q p =
        let here : s (get_or qs p.place 0) ⊕ placed (λ j. s (get_or qs j 0) ⊕ new j) qs (get_or qs p.place 0)
        ≡ (s (get_or qs p.place 0) && outside qs (get_or qs p.place 0)) ⊕ placed new qs (get_or qs p.place 0)
        = rw (placed_at (λ j. s (get_or qs j 0) ⊕ new j) qs d p.place p.inside, placed_at new qs d p.place p.inside, at_place qs p.place p.inside) (simp f2) in
        rw p.there at here

-- the same of words of bits
pub packed_put : (s : Bits) (new : Bits) (qs : List ℕ) (old-word new_IsWord : ℕ) → distinct qs ≡ true → Packed (length qs) (λ j. s (get_or qs j 0)) old-word
    → Packed (length qs) new new_IsWord → s △ placed (bit (bit_xor old-word new_IsWord)) qs ≡ (s ∩ outside qs) △ placed new qs
packed_put s new qs v w d p q =
    ap (λ (t : Bits). s △ t) (placed_same (bit (bit_xor v w)) (λ j. s (get_or qs j 0) ⊕ new j) qs (λ j h. bit_xor_lem v w j ∙ ap₂ ◌⊕◌ (p.at j h) (q.at j h)))
    ∙ parts_put s new qs d

-- ---- the code's loop: operand after operand

-- of the bits, those from place i on are left to add
pub record PartsToAdd (set : Bits) (qs : List ℕ) (bits i : ℕ) (now : Bits) : Type 0 where
  pub within : i ≤ length qs
  pub same : now △ placed (λ j. bit bits (i + j)) (drop i qs) ≡ set △ placed (bit bits) qs

pub all_left : (set : Bits) (qs : List ℕ) (bits : ℕ) → PartsToAdd set qs bits 0 set
all_left set qs bits = record { within = omega arith; same = ap (λ (f : Bits). set △ placed f qs) (fun_ext (λ j. ap (bit bits) (zero_plus j))) }
  where
    zero_plus : (j : ℕ) → 0 + j ≡ j
    zero_plus j = omega arith

module _ {set : Bits} {qs : List ℕ} {bits i : ℕ} {now : Bits} (l : PartsToAdd set qs bits i now) where
  pub one_added : (then : Bits) → i < length qs → then ≡ added now (get_or qs i 0) (bit bits i) → PartsToAdd set qs bits (i + 1) then
  unfolding placed
  one_added then h e =
      record {
        within = omega arith;
        same =
            ap (λ (s : Bits). s △ placed (λ j. bit bits (i + 1 + j)) (drop (i + 1) qs)) (e ∙ added_is now (get_or qs i 0) (bit bits i))
            ∙ moved now (given (bit bits i) (only (get_or qs i 0))) (placed (λ j. bit bits (i + 1 + j)) (drop (i + 1) qs))
            ∙ sym (ap (λ (s : Bits). now △ s) first)
            ∙ l.same;
      }
    where
      moved : (a b c : Bits) → (a △ b) △ c ≡ a △ (b △ c)
      moved a b c = fun_ext (λ i. simp bitwise)

      shifted : (j : ℕ) → i + suc j ≡ i + 1 + j
      shifted j = omega arith

      first : placed (λ j. bit bits (i + j)) (drop i qs) ≡ given (bit bits i) (only (get_or qs i 0)) △ placed (λ j. bit bits (i + 1 + j)) (drop (i + 1) qs)
      first =
          ap (placed (λ j. bit bits (i + j))) (step qs i h)
          ∙ ap₂ (λ (k : ℕ) (f : Bits). given (bit bits k) (only (get_or qs i 0)) △ placed f (drop (i + 1) qs)) (add-zero i)
          (fun_ext (λ j. ap (bit bits) (shifted j)))

  pub none_left : length qs ≤ i → now ≡ set △ placed (bit bits) qs
  unfolding placed
  none_left h = sym (△_none now) ∙ sym (ap (λ (rest : List ℕ). now △ placed (λ j. bit bits (i + j)) rest) (drop_of_length-le qs h)) ∙ l.same

-- ---- the code's loop over the qubits of a reset

-- those from place i on are left to clear
pub record ToClear (all : Pauli) (qs : List ℕ) (i : ℕ) (now : Pauli) : Type 0 where
  pub within : i ≤ length qs
  pub same : cleared (drop i qs) now ≡ all

module _ {all : Pauli} {qs : List ℕ} {i : ℕ} {now : Pauli} (l : ToClear all qs i now) where
  pub one_cleared : (then : Pauli) → i < length qs → then ≡ cleared (get_or qs i 0 ∷ []) now → ToClear all qs (i + 1) then
  one_cleared then h e =
      record {
        within = omega arith;
        same =
            ap (cleared (drop (i + 1) qs)) e
            ∙ sym (cleared_more (get_or qs i 0) now (drop (i + 1) qs))
            ∙ ap (λ (rest : List ℕ). cleared rest now) (sym (step qs i h))
            ∙ l.same;
      }

  pub none_to_clear : length qs ≤ i → now ≡ all
  none_to_clear h = sym (cleared_none now) ∙ ap (λ (rest : List ℕ). cleared rest now) (sym (drop_of_length-le qs h)) ∙ l.same
