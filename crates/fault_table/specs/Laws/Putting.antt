-- Rows and their bytes. Laws. Assumes nothing.
use Prim.Native.Nat.{ℕ, zero, suc, ◌+◌, ◌-◌, ◌*◌, ◌≤◌, ◌<◌}
use Rattle.std.proofs.Common.{zero-add, add-zero, suc-add, sym, ap, ◌∙◌, append_assoc, length-append, drop_at, length-take-le}
use native.Mathlib.Omega.{arith}
use Rattle.std.specs.Prelude.{◌≡◌, List, [], ◌∷◌, ◌++◌, length, take, drop}
use Rattle.std.proofs.Math.Path.{refl}
use Rattle.std.proofs.lemmas.List.Edits.{sets-eq}
use Rattle.text.specs.Bytes.{bytes, LF, unlines}
use Rattle.text.specs.Number.{decimal}
use Rattle.text.specs.Template.{Value, line_text, first_text, value_text}
use Rattle.writer.specs.Placed.{placed, Puts}
use Rattle.line_writer.specs.Line.{is_list_of, values_in, Lent}
use Rattle.writer.specs.Laws.Lists.{decimal_length}
use Rattle.writer.specs.Laws.Placing.{puts_more, placed_sets}
use Rattle.line_writer.specs.Laws.Lines.{numbers_lent}
use Rattle.single_faults.specs.Table.{row_text}
use Rattle.single_faults.specs.Carried.{rows_by}
use Rattle.fault_table.specs.Rows.{row_bytes, rows_bytes, RowsBefore}

-- ---- bytes

pub row_small : (groups line e : ℕ) → groups ≤ 16 → row_bytes groups line e ≤ 74
unfolding row_bytes
row_small groups line e h = omega (arith, decimal_length line, decimal_length e)

pub rows_small : (groups line left e : ℕ) → groups ≤ 16 → rows_bytes groups line left e ≤ left * 74
unfolding rows_bytes
rows_small groups line zero e h = omega arith
rows_small groups line (suc left) e h = omega (arith, row_small groups line e h, rows_small groups line left (suc e) h)

-- the rows of the last elements are part of all
pub rows_within : (groups line i j s : ℕ) → rows_bytes groups line j (s + i) ≤ rows_bytes groups line (i + j) s
unfolding rows_bytes
rows_within groups line zero j s = rw (zero-add, add-zero) (omega arith)
rows_within groups line (suc i) j s =
    let here : rows_bytes groups line j (s + suc i) ≤ rows_bytes groups line (i + j) (suc s) =
    let e : s + suc i ≡ suc s + i = omega arith in rw e (rows_within groups line i j (suc s)) in
    rw (suc-add) (omega (arith, here))

-- of n rows, those from number e on are counted
pub record Counted (groups line n e count : ℕ) : Type 0 where
  pub within : e ≤ n
  pub are : (j : ℕ) → e + j ≡ n → count ≡ rows_bytes groups line j e

module _ {groups line n : ℕ} where
  pub counted_none : Counted groups line n n 0
  unfolding rows_bytes
  counted_none = record { within = omega arith; are = none }
    where
      none : (j : ℕ) → n + j ≡ n → 0 ≡ rows_bytes groups line j n
      none zero e = refl
      none (suc j) e = absurd (omega arith)

  module _ {e count : ℕ} (g : Counted groups line n e count) where
    pub counted_small : groups ≤ 16 → count ≤ n * 74
    counted_small h = omega (arith, g.are (n - e) (omega (arith, g.within)), rows_small groups line (n - e) e h)

    pub counted_more : {rest digits : ℕ} → 0 < e → rest ≡ 18 + length (decimal line) + groups → digits ≡ length (decimal (e - 1))
        → Counted groups line n (e - 1) (count + (rest + digits))
    unfolding rows_bytes row_bytes
    counted_more {rest} {digits} positive r d = record { within = omega (arith, g.within); are = more }
      where
        next : suc (e - 1) ≡ e
        next = omega arith

        more : (j : ℕ) → e - 1 + j ≡ n → count + (rest + digits) ≡ rows_bytes groups line j (e - 1)
        more zero h = absurd (omega (arith, g.within))
        more (suc j) h = rw next (omega (arith, g.are j (omega arith)))

    pub counted_all : e ≡ 0 → count ≡ rows_bytes groups line n 0
    counted_all z = rw z at (g.are n (omega arith))

-- ---- one row

pub row_bytes_lem : (groups line e : ℕ) → row_bytes groups line e ≡ 18 + length (decimal line) + groups + length (decimal e)
unfolding row_bytes
row_bytes_lem groups line e = refl

row_line : (line e : ℕ)
    → line_text (bytes "line=N el=N groups=") (Value.number line ∷ Value.number e ∷ [])
    ≡ bytes "line=" ++ (decimal line ++ (bytes " el=" ++ (decimal e ++ bytes " groups=")))
unfolding bytes line_text first_text value_text
row_line line e = refl

pub start_length : (line e : ℕ)
    → length (line_text (bytes "line=N el=N groups=") (Value.number line ∷ Value.number e ∷ [])) ≡ 17 + length (decimal line) + length (decimal e)
unfolding bytes
start_length line e = let long = simp length-append at (ap length (row_line line e)) in omega (arith, long)

pub row_lent : (line e : ℕ) → Lent (bytes "line=N el=N groups=") (line ∷ e ∷ []) [] []
unfolding is_list_of bytes
row_lent line e = numbers_lent (bytes "line=N el=N groups=") (line ∷ e ∷ []) (omega arith) refl

pub row_values : (line e : ℕ) → values_in (bytes "line=N el=N groups=") (line ∷ e ∷ []) [] [] ≡ Value.number line ∷ Value.number e ∷ []
unfolding is_list_of bytes values_in
row_values line e = refl

row_length : (line e : ℕ) (marks : List ℕ) → length (unlines (row_text line e marks ∷ [])) ≡ row_bytes (length marks) line e
unfolding row_text unlines row_bytes
row_length line e marks =
    let start = line_text (bytes "line=N el=N groups=") (Value.number line ∷ Value.number e ∷ []) in
    omega (arith, length-append (start ++ marks) (LF ∷ []), length-append start marks, start_length line e)

placed_from : (at : ℕ) (text out : List ℕ) → at + length text ≤ length out → drop at (placed at text out) ≡ text ++ drop (at + length text) out
placed_from at text out h =
    ap (drop at) (placed_sets at text out ∙ sets-eq text out at h ∙ append_assoc (take at out) text (drop (at + length text) out))
    ∙ drop_at (take at out) (text ++ drop (at + length text) out) at (length-take-le at out (omega arith))

pub row_put : {begin next end last place : ℕ} (line e : ℕ) {marks out a b c : List ℕ}
    → Puts begin (line_text (bytes "line=N el=N groups=") (Value.number line ∷ Value.number e ∷ [])) out a next → Puts next marks a b end → Puts end (10 ∷ []) b c last
    → begin + row_bytes (length marks) line e ≡ place → place ≤ length out → RowsBefore place begin (row_text line e marks ∷ []) out c
unfolding row_text unlines
row_put {begin} {place = place} line e {marks = marks} {out = out} p q r long within =
    let text = unlines (row_text line e marks ∷ []) in
    let ends : begin + length text ≡ place = omega (arith, row_length line e marks) in
    record {
      begins = ends;
      bytes =
          ap (drop begin) (puts_more (puts_more p q) r).bytes
          ∙ placed_from begin text out (omega (arith, ends))
          ∙ ap (λ (k : ℕ). text ++ drop k out) ends;
    }

-- ---- rows one before the other

pub rows_length : (groups line : ℕ) (f : ℕ → List ℕ) (j e : ℕ) → ((i : ℕ) → e ≤ i → i < e + j → length (f i) ≡ groups)
    → length (unlines (rows_by line f j e)) ≡ rows_bytes groups line j e
unfolding rows_by rows_bytes unlines
rows_length groups line f zero e h = refl
rows_length groups line f (suc j) e h =
    let row = row_text line e (f e) in
    let rest = unlines (rows_by line f j (suc e)) in
    let here : length (unlines (row ∷ [])) ≡ row_bytes groups line e = row_length line e (f e) ∙ ap (λ (g : ℕ). row_bytes g line e) (h e (omega arith) (omega arith)) in
    omega (
      arith,
      here,
      length-append row (LF ∷ rest),
      length-append row (LF ∷ []),
      rows_length groups line f j (suc e) (λ i a b. h i (omega arith) (omega arith)),
    )

-- Rows are put in front of others.
pub rows_before : {place mid r : ℕ} {row : List ℕ} {rows : List (List ℕ)} {out a b : List ℕ} → RowsBefore place mid rows out a → RowsBefore mid r (row ∷ []) a b
    → RowsBefore place r (row ∷ rows) out b
unfolding unlines
rows_before {row = row} {rows = rows} {out = out} p q =
    record {
      begins = omega (arith, p.begins, q.begins, length-append row (LF ∷ []), length-append row (LF ∷ unlines rows));
      bytes =
          q.bytes
          ∙ ap (λ (l : List ℕ). (row ++ LF ∷ []) ++ l) p.bytes
          ∙ append_assoc row (LF ∷ []) _
          ∙ sym (append_assoc row (LF ∷ unlines rows) _);
    }

-- Of n rows, whose characters f gives, those from number e on are put.
pub record RowsFrom (groups line place n : ℕ) (f : ℕ → List ℕ) (out : List ℕ) (e begin : ℕ) (after : List ℕ) : Type 0 where
  pub within : e ≤ n
  pub long : length after ≡ length out
  pub rows : (j : ℕ) → e + j ≡ n → RowsBefore place begin (rows_by line f j e) out after
  pub left : (j : ℕ) → e + j ≡ n → begin + rows_bytes groups line j e ≡ place

module _ {groups line place n : ℕ} {f : ℕ → List ℕ} {out : List ℕ} where
  pub rows_none : RowsFrom groups line place n f out n place out
  unfolding rows_by rows_bytes unlines
  rows_none = record { within = omega arith; long = refl; rows = none; left = no_bytes }
    where
      none : (j : ℕ) → n + j ≡ n → RowsBefore place place (rows_by line f j n) out out
      none zero e = record { begins = omega arith; bytes = refl }
      none (suc j) e = absurd (omega arith)

      no_bytes : (j : ℕ) → n + j ≡ n → place + rows_bytes groups line j n ≡ place
      no_bytes zero e = omega arith
      no_bytes (suc j) e = absurd (omega arith)

  module _ {e begin : ℕ} {after : List ℕ} (g : RowsFrom groups line place n f out e begin after) where
    pub begins_within : begin ≤ place
    begins_within = omega (arith, g.left (n - e) (omega (arith, g.within)))

    -- there is room for one more
    pub row_room : 0 < e → rows_bytes groups line n 0 ≤ place → row_bytes groups line (e - 1) ≤ begin
    unfolding rows_bytes
    row_room positive room =
        let j = n - e in
        let all : e - 1 + suc j ≡ n = omega (arith, g.within) in
        let next : suc (e - 1) ≡ e = omega arith in
        let most = rows_within groups line (e - 1) (suc j) 0 in
        let here : row_bytes groups line (e - 1) + rows_bytes groups line j e ≤ rows_bytes groups line n 0 = rw (zero-add, next, all) at most in
        omega (arith, here, g.left j (omega (arith, g.within)))

    pub rows_more : {r : ℕ} {last : List ℕ} → 0 < e → length (f (e - 1)) ≡ groups → length last ≡ length after
        → RowsBefore begin r (row_text line (e - 1) (f (e - 1)) ∷ []) after last → RowsFrom groups line place n f out (e - 1) r last
    unfolding rows_by rows_bytes
    rows_more {r} {last} positive size same put =
        record { within = omega (arith, g.within); long = same ∙ g.long; rows = more; left = fewer }
      where
        next : suc (e - 1) ≡ e
        next = omega arith

        more : (j : ℕ) → e - 1 + j ≡ n → RowsBefore place r (rows_by line f j (e - 1)) out last
        more zero h = absurd (omega (arith, g.within))
        more (suc j) h = rows_before (rw next (g.rows j (omega arith))) put

        fewer : (j : ℕ) → e - 1 + j ≡ n → r + rows_bytes groups line j (e - 1) ≡ place
        fewer zero h = absurd (omega (arith, g.within))
        fewer (suc j) h =
            let long : length (unlines (row_text line (e - 1) (f (e - 1)) ∷ [])) ≡ row_bytes groups line (e - 1) =
            row_length line (e - 1) (f (e - 1)) ∙ ap (λ (k : ℕ). row_bytes k line (e - 1)) size in
            rw next (omega (arith, put.begins, long, g.left j (omega arith)))

    pub rows_all : e ≡ 0 → RowsBefore place begin (rows_by line f n 0) out after
    rows_all z = rw z at (g.rows n (omega arith))
