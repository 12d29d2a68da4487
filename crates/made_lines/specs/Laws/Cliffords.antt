-- Laws: the lines of Cliffords. Assumes nothing.
use Rattle.std.specs.Prelude.{◌≡◌, refl, ℕ, zero, suc, ◌≤◌, ◌<◌, length, take}
use Rattle.std.proofs.Common.{sym, ◌∙◌, arith, le-leb, length-take-le, get_or-take}
use Rattle.std.proofs.Math.Path.{ap, subst}
use mathlib.Core.List.{List, [], ◌∷◌, ◌++◌}
use Rattle.std.proofs.Math.Decide.{dec_lt}
use Rattle.std.proofs.lemmas.Bool.{lt-leb}
use Rattle.std.proofs.Math.ListN.{get_or}
use Rattle.text.specs.Bytes.{LF, bytes}
use Rattle.text.specs.Number.{hexadecimal}
use Rattle.text.specs.List.{commas_by, list_text_by, list_text}
use Rattle.text.specs.Template.{value_text, first_text, line_text}
use Rattle.job.specs.declared.Header.{Header}
use Rattle.writer.specs.Placed.{Puts}
use Rattle.writer.specs.Laws.Placing.{puts_nothing, puts_more}
use Rattle.writer.specs.Laws.Lists.{hex_length}
use Rattle.made.specs.Choice.{given, ◌>>=◌, pick, cyclic}
use Rattle.made.specs.Making.{Table, tables, table_on, suited, clifford}
use Rattle.made.proofs.Laws.Choice.{always_pick}
use Rattle.made_fields.specs.declared.choices.Number.{Number}
use Rattle.made_fields.specs.Chosen.{NumberIs}
use Rattle.made_fields.specs.declared.Making.{Making}
use Rattle.made_fields.specs.Lines.{FieldIs, PartIs, MadeIs}
use Rattle.made_fields.specs.Laws.Fields.{line_moved}

-- the table of a number
abbrev pub table_at : ℕ → Table
table_at i = get_or tables i (table_on 0 [])

-- ---- what the tables are

pub one_qubit : (i : ℕ) → i < 6 → 1 ≡ (table_at i).qubits
unfolding tables
one_qubit zero h = refl
one_qubit (suc zero) h = refl
one_qubit (suc (suc zero)) h = refl
one_qubit (suc (suc (suc zero))) h = refl
one_qubit (suc (suc (suc (suc zero)))) h = refl
one_qubit (suc (suc (suc (suc (suc zero))))) h = refl
one_qubit (suc (suc (suc (suc (suc (suc i)))))) h = absurd (omega (arith, h))

pub last_qubits : (i : ℕ) → i ≡ 7 → 5 ≡ (table_at i).qubits
unfolding tables
last_qubits i e = rw e refl

pub few_qubits : (i : ℕ) → (table_at i).qubits ≤ 5
unfolding tables
few_qubits zero = omega arith
few_qubits (suc zero) = omega arith
few_qubits (suc (suc zero)) = omega arith
few_qubits (suc (suc (suc zero))) = omega arith
few_qubits (suc (suc (suc (suc zero)))) = omega arith
few_qubits (suc (suc (suc (suc (suc zero))))) = omega arith
few_qubits (suc (suc (suc (suc (suc (suc zero)))))) = omega arith
few_qubits (suc (suc (suc (suc (suc (suc (suc zero))))))) = omega arith
few_qubits (suc (suc (suc (suc (suc (suc (suc (suc i)))))))) = omega arith

-- each but the last has one word
one_word : (i : ℕ) → i < 7 → (table_at i).words ≡ get_or (table_at i).words 0 0 ∷ []
unfolding tables
one_word zero h = refl
one_word (suc zero) h = refl
one_word (suc (suc zero)) h = refl
one_word (suc (suc (suc zero))) h = refl
one_word (suc (suc (suc (suc zero)))) h = refl
one_word (suc (suc (suc (suc (suc zero))))) h = refl
one_word (suc (suc (suc (suc (suc (suc zero)))))) h = refl
one_word (suc (suc (suc (suc (suc (suc (suc i))))))) h = absurd (omega (arith, h))

-- the first word of the last
beyond : (i k : ℕ) → k ≤ i → (i ≡ k → ⊥) → suc k ≤ i
beyond i k h n = omega (arith, h, n)

none_below : (i : ℕ) → 0 ≤ i
none_below i = omega arith

last_index : (i : ℕ) → i < 8 → 7 ≤ i → i ≡ 7
last_index i h l = omega (arith, h, l)

pub last_word : (i : ℕ) → i < 8 → (i ≡ 0 → ⊥) → (i ≡ 1 → ⊥) → (i ≡ 2 → ⊥) → (i ≡ 3 → ⊥) → (i ≡ 4 → ⊥) → (i ≡ 5 → ⊥) → (i ≡ 6 → ⊥)
    → 0x9f81_8c52_929c_601f ≡ get_or (table_at i).words 0 0
unfolding tables
last_word i h n0 n1 n2 n3 n4 n5 n6 =
    let seven = beyond i 6 (beyond i 5 (beyond i 4 (beyond i 3 (beyond i 2 (beyond i 1 (beyond i 0 (none_below i) n0) n1) n2) n3) n4) n5) n6 in
    rw (last_index i h seven) refl

-- ---- the tables by how many qubits there are

one_suited : (n : ℕ) → n ≡ 1 → suited n tables ≡ take 6 tables
unfolding suited tables
one_suited n e = rw e refl

two_suited : (n : ℕ) → 1 < n → n < 5 → suited n tables ≡ take 7 tables
unfolding suited tables
two_suited n l h = rw (le-leb 1 n (omega arith), le-leb 2 n (omega arith), lt-leb 5 n h) refl

five_suited : (n : ℕ) → 5 ≤ n → suited n tables ≡ take 8 tables
unfolding suited tables
five_suited n h = rw (le-leb 1 n (omega arith), le-leb 2 n (omega arith), le-leb 5 n h) refl

-- the first ones of all
pub record FirstTables (n k : ℕ) : Type 0 where
  pub is : suited n tables ≡ take k tables
  pub count : k ≡ length (suited n tables)
  pub some : 0 < k
  pub few : k ≤ 8

first_tables : (n k : ℕ) → 0 < k → k ≤ 8 → suited n tables ≡ take k tables → FirstTables n k
unfolding tables
first_tables n k s l e = record { is = e; count = sym (ap length e ∙ length-take-le k tables (omega arith)); some = s; few = l }

module _ (n : ℕ) where
  pub first_six : n ≡ 1 → FirstTables n 6
  first_six e = first_tables n 6 (omega arith) (omega arith) (one_suited n e)

  pub first_seven : 0 < n → (n ≡ 1 → ⊥) → n < 5 → FirstTables n 7
  first_seven s ne h = first_tables n 7 (omega arith) (omega arith) (two_suited n (omega (arith, s, ne)) h)

  pub first_eight : 5 ≤ n → FirstTables n 8
  first_eight h = first_tables n 8 (omega arith) (omega arith) (five_suited n h)

  pub suits : 0 < n → FirstTables n (length (suited n tables))
  suits s = go (dec_lt 1 n) (dec_lt n 5)
    where
      same : (k : ℕ) → FirstTables n k → FirstTables n (length (suited n tables))
      same k f = subst (FirstTables n) f.count f

      go : Dec (1 < n) → Dec (n < 5) → FirstTables n (length (suited n tables))
      go (no a) b = same 6 (first_six (omega (arith, s, a)))
      go (yes a) (yes b) = same 7 (first_tables n 7 (omega arith) (omega arith) (two_suited n a b))
      go (yes a) (no b) = same 8 (first_eight (omega (arith, b)))

suited_at : (n i : ℕ) → 0 < n → i < length (suited n tables) → get_or (suited n tables) i (table_on 0 []) ≡ table_at i
suited_at n i s h = ap (λ (ts : List Table). get_or ts i (table_on 0 [])) (suits n s).is ∙ get_or-take (length (suited n tables)) tables i (table_on 0 []) h

-- ---- a table that was put

module _ (i : ℕ) {w at next : ℕ} {out : List ℕ} where
  pub table_one : {after : List ℕ} → i < 7 → w ≡ get_or (table_at i).words 0 0 → Puts at (hexadecimal w) out after next
      → FieldIs 40 at [] (list_text_by hexadecimal (table_at i).words) out after next
  unfolding list_text_by commas_by
  table_one {after} l ew p =
      let text : hexadecimal w ++ [] ≡ list_text_by hexadecimal (table_at i).words =
      ap (λ (v : ℕ). hexadecimal v ++ []) ew ∙ ap (list_text_by hexadecimal) (sym (one_word i l))
      in
      record { puts = subst (λ (t : List ℕ). Puts at t out after next) text (puts_more p puts_nothing); near = omega (arith, p.place, hex_length w) }

  pub table_two : {o1 o2 after : List ℕ} {one two : ℕ} → i ≡ 7 → w ≡ get_or (table_at i).words 0 0 → Puts at (hexadecimal w) out o1 one
      → Puts one (44 ∷ []) o1 o2 two → Puts two (hexadecimal 0x8_ab05_648c) o2 after next
      → FieldIs 40 at [] (list_text_by hexadecimal (table_at i).words) out after next
  unfolding list_text_by commas_by tables
  table_two {o1} {o2} {after} e ew p b q =
      let text : hexadecimal w ++ (44 ∷ (hexadecimal 0x8_ab05_648c ++ [])) ≡ list_text_by hexadecimal (table_at i).words =
      ap (λ (v : ℕ). hexadecimal v ++ (44 ∷ (hexadecimal 0x8_ab05_648c ++ []))) (ew ∙ ap (λ (j : ℕ). get_or (table_at j).words 0 0) e)
      ∙ ap (λ (j : ℕ). list_text_by hexadecimal (table_at j).words) (sym e)
      in
      record {
        puts = subst (λ (t : List ℕ). Puts at t out after next) text (puts_more p (puts_more b (puts_more q puts_nothing)));
        near = omega (arith, p.place, b.place, q.place, hex_length w, hex_length 0x8_ab05_648c);
      }

-- ---- the line

pub clifford_made : (h : Header) (list : List ℕ) {m mid r : Making} {out o1 o2 before after : List ℕ} {count k next at end : ℕ} {i a : Number} → 0 < h.qubits
    → count ≡ length (suited h.qubits tables) → NumberIs (pick count m.state) i → NumberIs (pick h.qubits i.state) a
    → k ≡ (table_at i.value).qubits → take k list ≡ cyclic k h.qubits a.value
    → FieldIs 200 m.at (bytes "op=c q=") (list_text (take k list)) out o1 next → Puts next (bytes " t=") o1 o2 at
    → FieldIs 40 at [] (list_text_by hexadecimal (table_at i.value).words) o2 before end
    → mid ≡ record { at = end; recorded = m.recorded; state = a.state } → PartIs 1 (LF ∷ []) mid.state mid r before after
    → MadeIs (clifford h m.recorded m.state) m r out after
unfolding bytes line_text first_text value_text clifford ◌>>=◌ given
clifford_made h list {m} {k = k} {i = i} {a = a} some ec ni na ek el fq pt ft em e =
    let all = suited h.qubits tables in
    let index = rw ec at ni in
    let first = rw index.state at na in
    let below : (pick (length all) m.state).value < length all = (always_pick (length all) (suits h.qubits some).some).from m.state in
    let same : table_at i.value ≡ get_or all (pick (length all) m.state).value (table_on 0 []) =
    ap (λ (j : ℕ). table_at j) index.value ∙ sym (suited_at h.qubits (pick (length all) m.state).value some below)
    in
    let qubits =
    el ∙ ap (λ (j : ℕ). cyclic j h.qubits a.value) (ek ∙ ap Table.qubits same)
    ∙ ap (cyclic (get_or all (pick (length all) m.state).value (table_on 0 [])).qubits h.qubits) first.value
    in
    line_moved _ _ (puts_more (rw qubits at fq.puts) (puts_more pt (puts_more (rw same at ft.puts) puts_nothing))) em first.state e
