-- How long a line is that is put by its template, and the lines that are written anew. Laws. Assumes nothing.
use Rattle.std.specs.Prelude.{◌≡◌, refl, Bool, cond, List, [], ◌∷◌, ◌++◌, eqb, take, drop}
use Rattle.std.proofs.Common.{ap, append_assoc, arith, length-append, get_or-drop}
use Rattle.std.proofs.Math.Bool.{true, false}
use Prim.Native.Nat.{ℕ, zero, suc, ◌+◌, ◌*◌, ◌^◌, ◌≤◌, ◌<◌}
use Rattle.std.proofs.Math.ListN.{length, get_or, length-take}
use Rattle.std.proofs.Math.Seq.{take-length}
use Rattle.text.specs.Bytes.{LF, bytes}
use Rattle.text.specs.Number.{decimal_digits, decimal, hexadecimal}
use Rattle.text.specs.List.{list_text_by, commas, list_text}
use Rattle.text.specs.Template.{Value, is_letter_of, value_text, first_text, line_text}
use Rattle.job.specs.Line.{Distribution, size_of}
use Rattle.job.specs.Grammar.{inject_template}
use Rattle.writer.specs.Placed.{Puts}
use Rattle.line_writer.specs.Line.{is_list_of, values_in, numbers_for, lists_for, Lent, PauliLent, depolarizing_start, depolarizing_text}
use Rattle.writer.specs.Laws.Lists.{decimal_length, hex_length, commas_length, list_length}

-- ---- how long a line is

number_length : (t n : ℕ) → length (value_text t (Value.number n)) ≤ 20
unfolding value_text
number_length t n = go (eqb t 72)
  where
    go : (b : Bool) → length (cond b (hexadecimal n) (decimal n)) ≤ 20
    go true = omega (arith, hex_length n)
    go false = decimal_length n

-- how much longer a value is than its letter, at most
abbrev longer : Value → ℕ
longer (Value.number n) = 19
longer (Value.list l) = 21 * length l

abbrev all_longer : List Value → ℕ
all_longer [] = 0
all_longer (d ∷ ds) = longer d + all_longer ds

value_length : (t : ℕ) (d : Value) → length (value_text t d) ≤ 1 + longer d
value_length t (Value.number n) = number_length t n
value_length t (Value.list l) = unfold value_text in omega (arith, list_length (cond (eqb t 84) hexadecimal decimal) (one_length (eqb t 84)) l)
  where
    one_length : (b : Bool) (n : ℕ) → length (cond b hexadecimal decimal n) ≤ 20
    one_length true n = omega (arith, hex_length n)
    one_length false n = decimal_length n

pub line_length : (ts : List ℕ) (ds : List Value) → length (line_text ts ds) ≤ length ts + all_longer ds
unfolding line_text first_text
line_length [] ds = omega arith
line_length (t ∷ ts) ds = go (is_letter_of t) ds (λ es. line_length ts es)
  where
    go : (m : Bool) (ds : List Value) → ((es : List Value) → length (line_text ts es) ≤ length ts + all_longer es)
        → length (cond m (first_text t ds (line_text ts)) (t ∷ line_text ts ds)) ≤ suc (length ts) + all_longer ds
    go true [] ih = omega arith
    go true (d ∷ ds) ih = omega (arith, length-append (value_text t d) (line_text ts ds), value_length t d, ih ds)
    go false ds ih = omega (arith, ih ds)

-- ---- a line without lists

pub numbers_lent : (ts numbers : List ℕ) → numbers_for ts ≤ length numbers → lists_for ts ≡ 0 → Lent ts numbers [] []
numbers_lent ts numbers h e =
    record { for_numbers = h; for_lists = omega (arith, e); for_members = λ i l. absurd (omega (arith, e, l)); few = λ i l. absurd (omega (arith, e, l)) }

-- ---- injections

module _ (shot : ℕ) {counts members : List ℕ} (h : PauliLent counts members) where
  two_lists : (P : ℕ → Type 0) → P 0 → P 1 → (i : ℕ) → i < 2 → P i
  two_lists P a b zero l = a
  two_lists P a b (suc zero) l = b
  two_lists P a b (suc (suc i)) l = absurd (omega arith)

  pub inject_lent : Lent inject_template (shot ∷ []) counts members
  unfolding is_list_of bytes
  inject_lent =
      record {
        for_numbers = omega arith;
        for_lists = h.two;
        for_members = two_lists (λ i. i * 31 + get_or counts i 0 ≤ length members) (omega (arith, h.for_members, h.x_few)) (omega (arith, h.for_members, h.z_few));
        few = two_lists (λ i. get_or counts i 0 ≤ 31) h.x_few h.z_few;
      }

  pub inject_values : values_in inject_template (shot ∷ []) counts members
      ≡ Value.number shot ∷ Value.list (take (get_or counts 0 0) members) ∷ Value.list (take (get_or counts 1 0) (drop 31 members)) ∷ []
  unfolding is_list_of bytes values_in
  inject_values = rw (get_or-drop 1 counts 0 0)

  pub inject_length : length (line_text inject_template (values_in inject_template (shot ∷ []) counts members)) ≤ 1340
  unfolding bytes
  inject_length =
      let most = rw inject_values at (line_length inject_template (values_in inject_template (shot ∷ []) counts members)) in
      let x = length-take (get_or counts 0 0) members in
      let z = length-take (get_or counts 1 0) (drop 31 members) in
      rw inject_values (omega (arith, most, x, z, h.x_few, h.z_few))

inject_line : (shot : ℕ) (x z : List ℕ)
    → line_text inject_template (Value.number shot ∷ Value.list x ∷ Value.list z ∷ [])
    ≡ bytes "op=i shot=" ++ (decimal shot ++ (bytes " x=" ++ (list_text x ++ (bytes " z=" ++ (list_text z ++ [])))))
unfolding bytes line_text first_text value_text
inject_line shot x z = refl

-- how many bytes an injection has
pub inject_bytes : (shot : ℕ) (x z : List ℕ)
    → length (line_text inject_template (Value.number shot ∷ Value.list x ∷ Value.list z ∷ []) ++ LF ∷ [])
    ≡ 17 + length (decimal shot) + length (list_text x) + length (list_text z)
unfolding bytes
inject_bytes shot x z =
    let line : List ℕ = line_text inject_template (Value.number shot ∷ Value.list x ∷ Value.list z ∷ []) in
    let long = simp length-append at (ap length (inject_line shot x z)) in
    omega (arith, long, length-append line (LF ∷ []))

-- its lists are short, and so is all of it
pub few_commas : (n : ℕ) (l : List ℕ) → n ≤ 31 → length (commas (take n l)) < 2 ^ 64
few_commas n l h = omega (arith, commas_length decimal decimal_length (take n l), length-take n l)

pub inject_small : (shot : ℕ) {counts members : List ℕ} → PauliLent counts members
    → 17 + length (decimal shot) + length (list_text (take (get_or counts 0 0) members)) + length (list_text (take (get_or counts 1 0) (drop 31 members)))
    ≤ 1341
inject_small shot {counts} {members} h =
    let line : List ℕ = line_text inject_template (values_in inject_template (shot ∷ []) counts members) in
    let whole = rw (inject_values shot h) at (length-append line (LF ∷ [])) in
    let short = rw (inject_values shot h) at (inject_length shot h) in
    omega (arith, short, whole, inject_bytes shot (take (get_or counts 0 0) members) (take (get_or counts 1 0) (drop 31 members)))

-- how far an injection goes that was put
pub inject_next : (shot : ℕ) (x z : List ℕ) {at : ℕ} {out after : List ℕ} {next : ℕ}
    → Puts at (line_text inject_template (Value.number shot ∷ Value.list x ∷ Value.list z ∷ []) ++ LF ∷ []) out after next
    → next ≤ at + (21 * length x + 21 * length z + 40)
unfolding bytes
inject_next shot x z p =
    let values : List Value = Value.number shot ∷ Value.list x ∷ Value.list z ∷ [] in
    omega (arith, p.place, length-append (line_text inject_template values) (LF ∷ []), line_length inject_template values)

-- ---- depolarizing noise

pub start_lent : (p : ℕ) → Lent (bytes "op=n p=H corr=- cond=- parity=0 d=2") (p ∷ []) [] []
unfolding is_list_of bytes
start_lent p = numbers_lent (bytes "op=n p=H corr=- cond=- parity=0 d=2") (p ∷ []) (omega arith) refl

pub start_values : (p : ℕ) → values_in (bytes "op=n p=H corr=- cond=- parity=0 d=2") (p ∷ []) [] [] ≡ Value.number p ∷ []
unfolding is_list_of bytes values_in
start_values p = refl

start_line : (p : ℕ) → depolarizing_start p ≡ bytes "op=n p=" ++ (hexadecimal p ++ bytes " corr=- cond=- parity=0 d=2")
unfolding bytes line_text first_text value_text depolarizing_start
start_line p = refl

pub start_length : (p : ℕ) → length (depolarizing_start p) ≡ 50
unfolding bytes
start_length p =
    let long = simp length-append at (ap length (start_line p)) in
    omega (arith, long, hex_length p)

module _ (qubits : List ℕ) (size : ℕ) where
  pub end_lent : length qubits ≤ 31 → Lent (bytes " q=Q size=N") (size ∷ []) (length qubits ∷ []) qubits
  unfolding is_list_of bytes
  end_lent few =
      record {
        for_numbers = omega arith;
        for_lists = omega arith;
        for_members = one (λ i. i * 31 + get_or (length qubits ∷ []) i 0 ≤ length qubits) (omega arith);
        few = one (λ i. get_or (length qubits ∷ []) i 0 ≤ 31) few;
      }
    where
      one : (P : ℕ → Type 0) → P 0 → (i : ℕ) → i < 1 → P i
      one P a zero l = a
      one P a (suc i) l = absurd (omega arith)

  pub end_values : values_in (bytes " q=Q size=N") (size ∷ []) (length qubits ∷ []) qubits ≡ Value.list qubits ∷ Value.number size ∷ []
  unfolding is_list_of bytes values_in
  end_values = rw take-length

  pub end_length : length (line_text (bytes " q=Q size=N") (values_in (bytes " q=Q size=N") (size ∷ []) (length qubits ∷ []) qubits)) ≤ 21 * length qubits + 30
  unfolding bytes
  end_length = rw end_values (omega (arith, line_length (bytes " q=Q size=N") (Value.list qubits ∷ Value.number size ∷ [])))

-- how it ends: its qubits and its size
abbrev pub depolarizing_end : List ℕ → List ℕ
depolarizing_end qubits = line_text (bytes " q=Q size=N") (Value.list qubits ∷ Value.number (size_of (Distribution.depolarizing qubits)) ∷ [])

-- the line is its start and its end
pub depolarizing_line : (p : ℕ) (qubits : List ℕ) → (depolarizing_start p ++ depolarizing_end qubits) ++ LF ∷ [] ≡ depolarizing_text p qubits ++ LF ∷ []
unfolding bytes line_text first_text value_text decimal_digits list_text_by depolarizing_start
depolarizing_line p qubits = ap (λ (r : List ℕ). (bytes "op=n p=" ++ r) ++ LF ∷ []) (append_assoc (hexadecimal p) (bytes " corr=- cond=- parity=0 d=2") (depolarizing_end qubits))

-- how far it goes when it was put
pub depolarizing_next : (p : ℕ) (qs : List ℕ) {at : ℕ} {out after : List ℕ} {next : ℕ} → Puts at (depolarizing_text p qs ++ LF ∷ []) out after next
    → next ≤ at + (21 * length qs + 81)
unfolding bytes
depolarizing_next p qs {at} q =
    let long = simp length-append at (ap length (depolarizing_line p qs)) in
    let place = simp length-append at q.place in
    omega (arith, place, long, start_length p, line_length (bytes " q=Q size=N") (Value.list qs ∷ Value.number (size_of (Distribution.depolarizing qs)) ∷ []))
