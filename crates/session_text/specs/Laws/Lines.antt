-- The lines of a printed session, as the code puts them together. Laws. Assumes nothing.
use Rattle.std.specs.Prelude.{◌≡◌, Bool, cond, List, [], ◌∷◌, ◌++◌, ℕ, zero, suc, ◌+◌, ◌-◌, ◌*◌, ◌≤◌, ◌<◌, length}
use Rattle.std.proofs.Math.Path.{refl}
use Rattle.std.proofs.Common.{sym, ap, append_assoc, add-one, arith, length-append}
use Rattle.std.proofs.Math.Nat.{sub-zero}
use Rattle.text.specs.Bytes.{LF, bytes, unlines}
use Rattle.text.specs.Template.{Value, line_text}
use Rattle.job.specs.declared.Header.{Header}
use Rattle.job.specs.declared.Answer.{Answer}
use Rattle.rows.proofs.Laws.Overwrite.{before_row}
use Rattle.rows.specs.Words.{words_per_row, bit_in}
use Rattle.session.specs.Session.{refusal_lines, bit_text, delta_lines}
use Rattle.writer.specs.Placed.{Puts}
use Rattle.writer.specs.Laws.Placing.{Rest, rest_all, rest_more, rest_none}
use Rattle.line_writer.specs.Line.{is_list_of, values_in, Lent}
use Rattle.line_writer.specs.Laws.Lines.{line_length, numbers_lent}
use Rattle.session_text.specs.Lines.{header_text, delta_text}

-- ---- the lines

module _ (a : Answer) where
  pub refusal_lent : Lent (bytes "ok=0 refusal=N line=N") (a.number ∷ a.line ∷ []) [] []
  unfolding is_list_of bytes
  refusal_lent = numbers_lent (bytes "ok=0 refusal=N line=N") (a.number ∷ a.line ∷ []) (omega arith) refl

  -- the line as it is put
  abbrev refusal_text : List ℕ
  refusal_text = line_text (bytes "ok=0 refusal=N line=N") (values_in (bytes "ok=0 refusal=N line=N") (a.number ∷ a.line ∷ []) [] [])

  pub refusal_length : length refusal_text ≤ 59
  unfolding is_list_of bytes values_in
  refusal_length = line_length (bytes "ok=0 refusal=N line=N") (Value.number a.number ∷ Value.number a.line ∷ [])

  pub refusal_line : unlines (refusal_lines a) ≡ refusal_text ++ LF ∷ []
  unfolding is_list_of bytes values_in refusal_lines unlines
  refusal_line = refl

module _ (h : Header) where
  pub header_lent : Lent (bytes "ok=1 qubits=N outcomes=N shots=N") (h.qubits ∷ h.outcomes ∷ h.shots ∷ []) [] []
  unfolding is_list_of bytes
  header_lent = numbers_lent (bytes "ok=1 qubits=N outcomes=N shots=N") (h.qubits ∷ h.outcomes ∷ h.shots ∷ []) (omega arith) refl

  pub header_line : line_text (bytes "ok=1 qubits=N outcomes=N shots=N") (values_in (bytes "ok=1 qubits=N outcomes=N shots=N") (h.qubits ∷ h.outcomes ∷ h.shots ∷ []) [] []) ≡ header_text h
  unfolding is_list_of bytes values_in header_text
  header_line = refl

  pub header_size : length (header_text h) ≤ 89
  unfolding bytes header_text
  header_size = line_length (bytes "ok=1 qubits=N outcomes=N shots=N") (Value.number h.qubits ∷ Value.number h.outcomes ∷ Value.number h.shots ∷ [])

module _ (id : ℕ) where
  pub delta_lent : Lent (bytes "id=N delta=") (id ∷ []) [] []
  unfolding is_list_of bytes
  delta_lent = numbers_lent (bytes "id=N delta=") (id ∷ []) (omega arith) refl

  pub delta_values : values_in (bytes "id=N delta=") (id ∷ []) [] [] ≡ Value.number id ∷ []
  unfolding is_list_of bytes values_in
  delta_values = refl

  pub delta_size : length (line_text (bytes "id=N delta=") (Value.number id ∷ [])) ≤ 30
  unfolding bytes
  delta_size = line_length (bytes "id=N delta=") (Value.number id ∷ [])

-- ---- how far they go

bits_length : (b : ℕ → Bool) (n s : ℕ) → length (bit_text b n s) ≡ n
unfolding bit_text
bits_length b zero s = refl
bits_length b (suc n) s = ap suc (bits_length b n (suc s))

pub bits_next : (b : ℕ → Bool) (n : ℕ) {at : ℕ} {out after : List ℕ} {next : ℕ} → Puts at (bit_text b n 0) out after next → next ≡ at + n
bits_next b n p = omega (arith, p.place, bits_length b n 0)

pub header_length : (h : Header) → length (header_text h ++ LF ∷ []) ≤ 90
header_length h = omega (arith, length-append (header_text h) (LF ∷ []), header_size h)

pub header_next : (h : Header) {out after : List ℕ} {next : ℕ} → Puts 0 (header_text h ++ LF ∷ []) out after next → next ≤ 90
header_next h p = omega (arith, p.place, header_length h)

pub delta_length : (shots : ℕ) (deltas : List ℕ) (id : ℕ) → length (delta_text shots deltas id ++ LF ∷ []) ≤ shots + 31
unfolding delta_text
delta_length shots deltas id =
    let start : List ℕ = line_text (bytes "id=N delta=") (Value.number id ∷ []) in
    let bits : List ℕ = bit_text (bit_in (words_per_row shots) deltas id) shots 0 in
    omega (arith, length-append (start ++ bits) (LF ∷ []), length-append start bits, delta_size id, bits_length (bit_in (words_per_row shots) deltas id) shots 0)

pub delta_next : (shots : ℕ) (deltas : List ℕ) (id : ℕ) {at : ℕ} {out after : List ℕ} {next : ℕ} → Puts at (delta_text shots deltas id ++ LF ∷ []) out after next
    → next ≤ at + (shots + 31)
delta_next shots deltas id p = omega (arith, p.place, delta_length shots deltas id)

-- ---- the loops

-- the bits before shot s are put
pub record Bits (at : ℕ) (b : ℕ → Bool) (shots : ℕ) (out : List ℕ) (s next : ℕ) (after : List ℕ) : Type 0 where
  pub within : s ≤ shots
  pub place : next ≡ at + s
  pub rest : Rest at (bit_text b shots 0) out next (bit_text b (shots - s) s) after

-- the lines before outcome id are put
pub record Deltas (at : ℕ) (h : Header) (deltas : List ℕ) (n : ℕ) (out : List ℕ) (id next : ℕ) (after : List ℕ) : Type 0 where
  pub within : id ≤ n
  pub place : next ≤ at + 104 * id
  pub rest : Rest at (unlines (delta_lines h deltas n 0)) out next (unlines (delta_lines h deltas (n - id) id)) after

pub bits_none : {at : ℕ} {b : ℕ → Bool} {shots : ℕ} {out : List ℕ} → Bits at b shots out 0 at out
bits_none = record { within = omega arith; place = omega arith; rest = rw sub-zero rest_all }

-- what is left, from a place below the end, is one and the rest
left_below : (n i : ℕ) → i < n → n - i ≡ suc (n - (i + 1))
left_below n i h = omega arith

bits_first : (b : ℕ → Bool) (n s : ℕ) → s < n → bit_text b (n - s) s ≡ (cond (b s) 49 48 ∷ []) ++ bit_text b (n - (s + 1)) (s + 1)
unfolding bit_text
bits_first b n s h = rw (left_below n s h, add-one)

pub bits_more : {at : ℕ} {b : ℕ → Bool} {shots : ℕ} {out : List ℕ} {s next : ℕ} {mid : List ℕ} {end : ℕ} {after : List ℕ}
    → Bits at b shots out s next mid → s < shots → Puts next (cond (b s) 49 48 ∷ []) mid after end → Bits at b shots out (s + 1) end after
bits_more {at} {b} {shots} {out} {s} {next} {mid} i h p =
    record {
      within = omega arith;
      place = omega (arith, i.place, p.place);
      rest = rest_more (rw (bits_first b shots s h) at i.rest) p;
    }

pub bits_all : {at : ℕ} {b : ℕ → Bool} {shots : ℕ} {out : List ℕ} {s next : ℕ} {after : List ℕ} → Bits at b shots out s next after → shots ≤ s → Puts at (bit_text b shots 0) out after next
unfolding bit_text
bits_all {at} {b} {shots} {out} {s} i h =
    let none : shots - s ≡ 0 = omega arith in
    rest_none (rw none at i.rest)

pub deltas_none : {at : ℕ} {h : Header} {deltas : List ℕ} {n : ℕ} {out : List ℕ} → Deltas at h deltas n out 0 at out
deltas_none = record { within = omega arith; place = omega arith; rest = rw sub-zero rest_all }

line_first : (l more : List ℕ) → l ++ LF ∷ more ≡ (l ++ LF ∷ []) ++ more
line_first l more = simp append_assoc

deltas_first : (h : Header) (deltas : List ℕ) (n id : ℕ) → id < n
    → unlines (delta_lines h deltas (n - id) id) ≡ (delta_text h.shots deltas id ++ LF ∷ []) ++ unlines (delta_lines h deltas (n - (id + 1)) (id + 1))
unfolding delta_lines unlines delta_text
deltas_first h deltas n id b =
    rw (left_below n id b, add-one) (line_first (delta_text h.shots deltas id) (unlines (delta_lines h deltas (n - suc id) (suc id))))

pub deltas_more : {at : ℕ} {h : Header} {deltas : List ℕ} {n : ℕ} {out : List ℕ} {id next : ℕ} {mid : List ℕ} {end : ℕ} {after : List ℕ}
    → Deltas at h deltas n out id next mid → id < n → h.shots ≤ 64 → Puts next (delta_text h.shots deltas id ++ LF ∷ []) mid after end → Deltas at h deltas n out (id + 1) end after
deltas_more {at} {h} {deltas} {n} {out} {id} {next} {mid} i b few p =
    record {
      within = omega arith;
      place = omega (arith, i.place, few, delta_next h.shots deltas id p);
      rest = rest_more (rw (deltas_first h deltas n id b) at i.rest) p;
    }

pub deltas_all : {at : ℕ} {h : Header} {deltas : List ℕ} {n : ℕ} {out : List ℕ} {id next : ℕ} {after : List ℕ} → Deltas at h deltas n out id next after → n ≤ id
    → Puts at (unlines (delta_lines h deltas n 0)) out after next
unfolding delta_lines unlines
deltas_all {at} {h} {deltas} {n} {out} {id} i b =
    let none : n - id ≡ 0 = omega arith in
    rest_none (rw none at i.rest)

-- a row below the last is in the words
pub row_below : (w n id k : ℕ) → id < n → n * w ≤ k → id * w + w ≤ k
row_below w n id k below fits = omega (arith, before_row w id n below)

pub session_lines : (h : Header) (deltas : List ℕ) (n : ℕ)
    → (header_text h ++ LF ∷ []) ++ unlines (delta_lines h deltas n 0) ≡ unlines (header_text h ∷ delta_lines h deltas n 0)
unfolding unlines
session_lines h deltas n = sym (line_first (header_text h) (unlines (delta_lines h deltas n 0)))
