-- Whether two Paulis in words anticommute, one word after the other. Assumes nothing.
use Rattle.std.specs.Prelude.{◌≡◌, refl, ℕ, ◌+◌, ◌*◌, ◌/◌, ◌%◌, ◌^◌, ◌<◌, eqb, get_or}
use Rattle.std.proofs.Common.{sym, ap₂, ◌∙◌, lt_of_le_of_lt, arith}
use Rattle.std.proofs.Math.Path.{fun_ext}
use Rattle.std.specs.Int.Bits.{bit_xor, bit_and}
use Rattle.std.proofs.lemmas.Nat.{xor_lt, and_le_l}
use Rattle.std.specs.Int.Count.{ones}
use Rattle.pauli.specs.declared.Pauli.{Pauli as PauliWords}
use Rattle.pauli.specs.Bits.{Bits, ◌⊕◌, ◌∩◌, ◌△◌, none, parity, bit}
use Rattle.pauli.specs.Pauli.{anticommutes}
use Rattle.pauli.specs.Fixed.{in_set, as_pauli}
use Rattle.pauli.proofs.Laws.Word.{bit_zero, bit_xor_lem, bit_and_lem}
use Rattle.pauli.proofs.Laws.Parts.{parity_sum, parity_empty, word_more, parity_word}

-- the qubits at which two Paulis clash
unfoldable pub clash : PauliWords → PauliWords → Bits
clash p q = (in_set p.x ∩ in_set q.z) △ (in_set p.z ∩ in_set q.x)

-- before the first word, after a further one, and after the last
pub clash_none : (p q : PauliWords) → parity (64 * 0) (clash p q) ≡ parity 64 (bit 0)
clash_none p q = let e : bit 0 ≡ none = fun_ext (λ k. unfold none in bit_zero k) in rw (e, parity_empty 64) (unfold parity in refl)

pub clash_more : (p q : PauliWords) (j w : ℕ) → parity (64 * j) (clash p q) ≡ parity 64 (bit w)
    → parity (64 * (j + 1)) (clash p q)
    ≡ parity 64 (bit (bit_xor w (bit_xor (bit_and (get_or p.x j 0) (get_or q.z j 0)) (bit_and (get_or p.z j 0) (get_or q.x j 0)))))
unfolding clash ◌∩◌ ◌△◌ in_set
clash_more p q j w ih = word_more (clash p q) j w _ at ih
  where
    at : (k : ℕ) → k < 64 → clash p q (64 * j + k) ≡ bit (bit_xor (bit_and (get_or p.x j 0) (get_or q.z j 0)) (bit_and (get_or p.z j 0) (get_or q.x j 0))) k
    at k h =
        let word : (64 * j + k) / 64 ≡ j = omega arith in
        let place : (64 * j + k) % 64 ≡ k = omega arith in
        rw (word, place) (sym (bit_xor_lem _ _ k ∙ ap₂ ◌⊕◌ (bit_and_lem _ _ k) (bit_and_lem _ _ k)))

-- the sum of the words' clashes is a word
pub clash_fits : (w x v z u : ℕ) → w < 2 ^ 64 → x < 2 ^ 64 → z < 2 ^ 64 → bit_xor w (bit_xor (bit_and x v) (bit_and z u)) < 2 ^ 64
clash_fits w x v z u h hx hz =
    xor_lt 64 w _ h (xor_lt 64 _ _ (lt_of_le_of_lt (and_le_l x v) hx) (lt_of_le_of_lt (and_le_l z u) hz))

pub clash_all : (p q : PauliWords) (j w : ℕ) → j ≡ 4 → w < 2 ^ 64 → parity (64 * j) (clash p q) ≡ parity 64 (bit w) → eqb (ones w % 2) 1 ≡ anticommutes 256 (as_pauli p) (as_pauli q)
unfolding anticommutes as_pauli clash
clash_all p q j w e h f = sym (parity_word 64 w h) ∙ sym f ∙ rw e (parity_sum 256 _ _)
