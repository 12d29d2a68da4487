-- A made Clifford says a sound instruction: c. Laws. Assumes nothing.
use Rattle.std.specs.Prelude.{◌≡◌, Bool, false, cond, List, [], ◌∷◌, ℕ, ◌^◌, ◌<◌, ◌≤◌, leb}
use Rattle.std.proofs.Math.Path.{refl}
use Rattle.std.proofs.Math.Bool.{true}
use Rattle.std.proofs.Common.{arith, leb-true, le-leb}
use Rattle.std.proofs.Math.ListN.{length, get_or}
use Rattle.pauli.specs.Bits.{◌⊕◌, ◌∩◌, parity, bit}
use Rattle.pauli.specs.Pauli.{anticommutes}
use Rattle.text.specs.Number.{hex_digits}
use Rattle.text.specs.List.{commas_by, list_text_by}
use Rattle.text.specs.Template.{Value, value_text}
use Rattle.job.specs.declared.Header.{Header}
use Rattle.job.specs.Line.{Line}
use Rattle.job.specs.Clifford.{table_words_of, table_of, row_over, every, generators_anticommute, is_clifford_of}
use Rattle.job.specs.Checks.{all_below, records}
use Rattle.job.specs.Job.{recorded_by}
use Rattle.job.specs.Sound.{Every, LineSound, HeaderSound}
use Rattle.job.proofs.Laws.Lists.{every_at}
use Rattle.job.proofs.Laws.Table.{right_words, clifford_small}
use Rattle.made.specs.Choice.{few, cyclic}
use Rattle.made.specs.Making
use Rattle.made.specs.Kinds.{LineKind, line_kind, kind_of, OfKind}
use Rattle.made.proofs.Laws.Choice.{Always, always_given, always_then, always_pick, stretch_operands, cyclic_length, cyclic_stretch}
use Rattle.made.proofs.Laws.Values.{Brief, brief_T}
use Rattle.made.proofs.Laws.Makes.{Makes, marks, line_makes, some_qubits, brief_stretch, same_recorded}

-- ---- tables

record TableSound (t : Making.Table) : Type 0 where
  filled : 1 ≤ t.qubits
  few : t.qubits ≤ 8
  table : is_clifford_of t.qubits (table_of t.words) ≡ true
  count : length t.words ≡ table_words_of t.qubits
  brief : Brief 84 (Value.list t.words)

known_table : (k : ℕ) (ws : List ℕ) → 1 ≤ k → k ≤ 8 → is_clifford_of k (table_of ws) ≡ true → length ws ≡ table_words_of k → 0 < length ws → all_below (2 ^ 64) ws ≡ true
    → length (value_text 84 (Value.list ws)) ≤ 41 → TableSound (Making.table_on k ws)
known_table k ws h f c e l b short = record { filled = h; few = f; table = c; count = e; brief = brief_T ws l b short }

-- opens what the tables compute with
clifford_opens : Unit {0}
unfolding is_clifford_of every row_over generators_anticommute anticommutes parity bit ◌⊕◌ ◌∩◌ table_of all_below value_text list_text_by commas_by hex_digits
clifford_opens = tt

tables_sound : Every TableSound Making.tables
unfolding Making.tables clifford_opens
tables_sound = (
  known_table 1 _ (omega arith) (omega arith) refl refl (omega arith) refl (omega arith),
  (
    known_table 1 _ (omega arith) (omega arith) refl refl (omega arith) refl (omega arith),
    (
      known_table 1 _ (omega arith) (omega arith) refl refl (omega arith) refl (omega arith),
      (
        known_table 1 _ (omega arith) (omega arith) refl refl (omega arith) refl (omega arith),
        (
          known_table 1 _ (omega arith) (omega arith) refl refl (omega arith) refl (omega arith),
          (
            known_table 1 _ (omega arith) (omega arith) refl refl (omega arith) refl (omega arith),
            (
              known_table 2 _ (omega arith) (omega arith) refl refl (omega arith) refl (omega arith),
              (known_table 5 _ (omega arith) (omega arith) refl refl (omega arith) refl (omega arith), tt),
            ),
          ),
        ),
      ),
    ),
  ),
)

-- a table that is suited
record TableSuits (n : ℕ) (t : Making.Table) : Type 0 where
  sound : TableSound t
  fits : t.qubits ≤ n

suited_sound : (n : ℕ) (ts : List Making.Table) → Every TableSound ts → Every (TableSuits n) (Making.suited n ts)
unfolding Making.suited
suited_sound n [] s = tt
suited_sound n (t ∷ ts) s = go (leb t.qubits n) refl (suited_sound n ts s.1)
  where
    go : (b : Bool) → leb t.qubits n ≡ b → Every (TableSuits n) (Making.suited n ts) → Every (TableSuits n) (cond b (t ∷ Making.suited n ts) (Making.suited n ts))
    go true e later = (record { sound = s.0; fits = leb-true _ _ e }, later)
    go false e later = later

-- the first is always suited
some_suited : (n : ℕ) → 1 ≤ n → 0 < length (Making.suited n Making.tables)
unfolding Making.tables Making.suited
some_suited n h = rw (le-leb 1 n h) (omega arith)

module _ (h : Header) (range : HeaderSound h) (r : ℕ) (within : r ≤ h.outcomes) where
  pub clifford_makes : Always (Makes h r (OfKind LineKind.clifford)) (Making.clifford h r)
  unfolding Making.clifford marks LineSound recorded_by records line_kind kind_of
  clifford_makes =
      always_then (always_pick (length (Making.suited h.qubits Making.tables)) (some_suited h.qubits range.some_qubits)) (λ i li.
      always_then (always_pick h.qubits (some_qubits range)) (λ a _.
      let ts = Making.suited h.qubits Making.tables in
      let t = get_or ts i (Making.table_on 0 []) in
      let s = every_at (TableSuits h.qubits) ts (Making.table_on 0 []) (suited_sound h.qubits Making.tables tables_sound) i li in
      let k = t.qubits in
      let qs = cyclic k h.qubits a in
      let operands = cyclic_stretch k h.qubits a s.sound.filled s.sound.few s.fits in
      let long : length qs ≡ k = cyclic_length k h.qubits a in
      let table : is_clifford_of (length qs) (table_of t.words) ≡ true = rw long s.sound.table in
      always_given _ (line_makes 99 _ (Line.clifford qs (table_of t.words)) refl refl
      (brief_stretch range _ operands, (s.sound.brief, tt)) (right_words qs t.words (rw long s.sound.count))
      (record { operands = stretch_operands operands; few = operands.short; table = table; small = clifford_small (length qs) (table_of t.words) table }) (same_recorded r) within
      (omega arith))))
