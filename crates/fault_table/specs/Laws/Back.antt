-- Lines back for groups. Laws. Assumes nothing.
use Prim.Native.Nat.{ℕ, zero, suc, ◌+◌, ◌-◌, ◌*◌, ◌≤◌, ◌<◌}
use native.Mathlib.Omega.{arith}
use Rattle.std.specs.Prelude.{◌≡◌, Bool, true, false, length, get_or, set, take, None}
use Rattle.std.proofs.Math.Path.{refl, sym, ap, ap₂}
use Rattle.std.proofs.Common.{subst, ◌∙◌, true≢false, length-drop, take_at, drop_at, take-add, take_all, length-take-le}
use Rattle.std.proofs.Math.Bool.{cond}
use mathlib.Core.List.{List, [], ◌∷◌, ◌++◌, map, append-nil}
use Rattle.std.proofs.Math.Option.{some}
use Rattle.std.specs.Int.{w8}
use mir.Val.{Fits, bool_byte}
use Rattle.std.proofs.Math.ListN.{drop, length-set, drop_of_length-le}
use Rattle.std.proofs.Math.Seq.{drop-drop, take-take}
use Rattle.pauli.specs.declared.Pauli.{Pauli as PauliWords}
use Rattle.pauli.specs.Bits.{Bits}
use Rattle.pauli.specs.Pauli.{Pauli, anticommutes}
use Rattle.pauli.specs.Fixed.{in_set, as_pauli}
use Rattle.writer.specs.Laws.Digits.{stored}
use Rattle.text.specs.Bytes.{bytes}
use Rattle.text.specs.Template.{Value}
use Rattle.job.specs.Grammar.{Written, forms}
use Rattle.reader.specs.declared.Form.{Form}
use Rattle.reader.specs.declared.Form.TheVariants as form
use Rattle.reader.specs.Parsed.{place_of, no_form, form_of}
use Rattle.instructions.specs.Laws.Meaning.{some_same, meaning}
use Rattle.instructions.specs.Reading.{noise_form}
use Rattle.lines_back.specs.Laws.Forms.{noise_written, acts, acted_as}
use Rattle.backward.specs.Walk.{Carried, carry, Walk, backward}
use Rattle.lines_back.specs.Full.{full}
use Rattle.lines_back.specs.declared.Walk.{Walk as WalkWords}
use Rattle.lines_back.specs.Back.{Back, Readable, carried_of, written_back, LineBack}
use Rattle.single_faults.specs.Carried.{mark_by}
use Rattle.fault_table.specs.Lent.{carried_in, all_carried}
use Rattle.fault_table.specs.Laws.Words.{partly, partly_length, partly_before, partly_from, all_first}
use Rattle.fault_table.specs.Back.{carried_by, GroupBack, GroupsBack, still_form}

-- ---- forms that change nothing

still_written : (f : Form) (vs : List Value) (v : Written) → still_form f ≡ true → (form_of f).says vs ≡ some v → (c : Carried) → carried_by v c ≡ c
unfolding forms place_of bytes no_form still_form carried_by carry noise_form
still_written form.Unread vs v s e c = absurd (true≢false (sym s))
still_written form.Header vs v s e c = absurd (true≢false (sym s))
still_written form.Unitary vs v s e c = absurd (true≢false (sym s))
still_written form.Clifford vs v s e c = absurd (true≢false (sym s))
still_written form.Pauli vs v s e c = subst (λ (u : Written). carried_by u c ≡ c) (some_same e) refl
still_written form.Exponential vs v s e c = absurd (true≢false (sym s))
still_written form.Controlled vs v s e c = absurd (true≢false (sym s))
still_written form.Permute vs v s e c = absurd (true≢false (sym s))
still_written form.Measure vs v s e c = absurd (true≢false (sym s))
still_written form.Allocate vs v s e c = subst (λ (u : Written). carried_by u c ≡ c) (some_same e) refl
still_written form.Conditional vs v s e c = absurd (true≢false (sym s))
still_written form.Reset vs v s e c = absurd (true≢false (sym s))
still_written form.Inject vs v s e c = subst (λ (u : Written). carried_by u c ≡ c) (some_same e) refl
still_written form.Flip vs v s e c = subst (λ (u : Written). carried_by u c ≡ c) (some_same e) refl
still_written form.Single vs v s e c = subst (λ (u : Written). carried_by u c ≡ c) (sym (noise_written (meaning form.Single vs v e) refl).1) refl
still_written form.Depolarizing vs v s e c = subst (λ (u : Written). carried_by u c ≡ c) (sym (noise_written (meaning form.Depolarizing vs v e) refl).1) refl
still_written form.Uniform vs v s e c = subst (λ (u : Written). carried_by u c ≡ c) (sym (noise_written (meaning form.Uniform vs v e) refl).1) refl
still_written form.Weighted vs v s e c = subst (λ (u : Written). carried_by u c ≡ c) (sym (noise_written (meaning form.Weighted vs v e) refl).1) refl
still_written form.Element vs v s e c = subst (λ (u : Written). carried_by u c ≡ c) (some_same e) refl
still_written form.WeightedElement vs v s e c = subst (λ (u : Written). carried_by u c ≡ c) (some_same e) refl
still_written form.EditionHeader vs v s e c = absurd (true≢false (sym s))
still_written form.Barrier vs v s e c = subst (λ (u : Written). carried_by u c ≡ c) (some_same e) refl

map_same : {A : Type 0} (f : A → A) (l : List A) → ((a : A) → f a ≡ a) → map f l ≡ l
map_same f [] h = refl
map_same f (a ∷ l) h = ap₂ ◌∷◌ (h a) (map_same f l h)

pub groups_still : {form : Form} {words : List ℕ} {n : ℕ} {state : List ℕ} → still_form form ≡ true → GroupsBack form words n state state
groups_still {form} {words} {n} {state} s =
    record { back = λ q. sym (map_same (carried_by q.written) (all_carried n state) (still_written form q.values q.written s q.said.says)) }

-- ---- the words of one group

eight : (l : List ℕ) → 8 ≤ length l
    → (take 4 l ≡ get_or l 0 0 ∷ get_or l 1 0 ∷ get_or l 2 0 ∷ get_or l 3 0 ∷ []) × (take 4 (drop 4 l) ≡ get_or l 4 0 ∷ get_or l 5 0 ∷ get_or l 6 0 ∷ get_or l 7 0 ∷ [])
eight (a ∷ b ∷ c ∷ d ∷ e ∷ f ∷ g ∷ h ∷ l) long = (refl, refl)
eight [] long = absurd (omega arith)
eight (a ∷ []) long = absurd (omega arith)
eight (a ∷ b ∷ []) long = absurd (omega arith)
eight (a ∷ b ∷ c ∷ []) long = absurd (omega arith)
eight (a ∷ b ∷ c ∷ d ∷ []) long = absurd (omega arith)
eight (a ∷ b ∷ c ∷ d ∷ e ∷ []) long = absurd (omega arith)
eight (a ∷ b ∷ c ∷ d ∷ e ∷ f ∷ []) long = absurd (omega arith)
eight (a ∷ b ∷ c ∷ d ∷ e ∷ f ∷ g ∷ []) long = absurd (omega arith)

pub observable_in : (l : List ℕ) → length l ≡ 24
    → record {
      x = in_set (get_or l 0 0 ∷ get_or l 1 0 ∷ get_or l 2 0 ∷ get_or l 3 0 ∷ []);
      z = in_set (get_or l 4 0 ∷ get_or l 5 0 ∷ get_or l 6 0 ∷ get_or l 7 0 ∷ []);
    }
    ≡ (carried_in l).observable
unfolding carried_in
observable_in l long =
    let (x, z) = eight l (omega arith) in ap₂ (λ (a b : List ℕ). record { x = in_set a; z = in_set b }) (sym x) (sym z)

-- four words put in front, and four behind them
pub kept_in : (l x z : List ℕ) → length x ≡ 4 → length z ≡ 4
    → carried_in (take 4 (x ++ drop 4 l) ++ (z ++ drop 4 (drop 4 (x ++ drop 4 l)))) ≡ record { observable = record { x = in_set x; z = in_set z }; set = (carried_in l).set }
unfolding carried_in
kept_in l x z wide deep =
    let rest : List ℕ = drop 8 l in
    let words : List ℕ = x ++ (z ++ rest) in
    let front : take 4 (x ++ drop 4 l) ≡ x = take_at x (drop 4 l) 4 wide in
    let back : drop 4 (x ++ drop 4 l) ≡ drop 4 l = drop_at x (drop 4 l) 4 wide in
    let all : take 4 (x ++ drop 4 l) ++ (z ++ drop 4 (drop 4 (x ++ drop 4 l))) ≡ words
    = ap₂ (λ (a b : List ℕ). a ++ (z ++ drop 4 b)) front back ∙ ap (λ (r : List ℕ). x ++ (z ++ r)) (drop-drop 4 4 l) in
    let behind : drop 4 words ≡ z ++ rest = drop_at x (z ++ rest) 4 wide in
    let second : take 4 (drop 4 words) ≡ z = ap (take 4) behind ∙ take_at z rest 4 deep in
    let last : drop 8 words ≡ rest = sym (drop-drop 4 4 words) ∙ ap (drop 4) behind ∙ drop_at z rest 4 deep in
    ap carried_in all
    ∙ ap₂ (λ (a b : List ℕ). record { observable = record { x = in_set a; z = in_set b }; set = in_set (drop 8 words) }) (take_at x (z ++ rest) 4 wide) second
    ∙ ap (λ (r : List ℕ). record { observable = record { x = in_set x; z = in_set z }; set = in_set r }) last

-- ---- one line for one group

carried_back : (c : Carried) (n : ℕ) (v : Written) → (written_back (full 0) v (record { carried = c; count = n })).carried ≡ carried_by v c
unfolding written_back carried_by backward
carried_back c n (Written.header h) = refl
carried_back c n (Written.line l) = refl
carried_back c n (Written.noise k) = refl
carried_back c n (Written.element v P) = refl

pub line_goes : {form : Form} {words before after : List ℕ} {number : ℕ} (w w' : WalkWords) (set set' : List ℕ)
    → carried_of w.observable (in_set set) ≡ carried_in before → LineBack form words 0 number w w' set set'
    → carried_in after ≡ carried_of w'.observable (in_set set') → GroupBack form words before after
line_goes {before = before} w w' set set' first l last =
    record {
      back = λ q.
          last
          ∙ ap (λ (x : Walk). x.carried) (l.walks q)
          ∙ carried_back (carried_of w.observable (in_set set)) w.count q.written
          ∙ ap (carried_by q.written) first;
    }

-- a gate changes the observable alone
pub gate_goes : {words before after : List ℕ} (b r : PauliWords) → length before ≡ 24 → as_pauli b ≡ (carried_in before).observable
    → ((shot : ℕ) (S : Bits) → Back form.Unitary words shot b S r S false)
    → carried_in after ≡ record { observable = as_pauli r; set = (carried_in before).set } → GroupBack form.Unitary words before after
unfolding carried_in acts
gate_goes {words} {before} {after} b r long is back last =
    line_goes {number = 0} (record { observable = b; count = 0; noise = None }) (record { observable = r; count = 0; noise = None }) (drop 8 before) (drop 8 before)
    (ap (λ (B : Pauli). record { observable = B; set = in_set (drop 8 before) }) is)
    (acted_as refl refl (back 0 (in_set (drop 8 before))) (omega (arith, length-drop 8 before)) refl)
    last

pub group_as : {f k : Form} {words before after : List ℕ} → f ≡ k → GroupBack k words before after → GroupBack f words before after
group_as {words = words} {before = before} {after = after} e b = subst (λ (g : Form). GroupBack g words before after) (sym e) b

-- any line, on the words of the observable and on those of the set
pub any_goes : {form : Form} {words before after set' : List ℕ} (b : PauliWords) (w' : WalkWords) → length before ≡ 24 → as_pauli b ≡ (carried_in before).observable
    → LineBack form words 0 0 (record { observable = b; count = 0; noise = None }) w' (take (length before - 8) (drop 8 before)) set'
    → carried_in after
    ≡ record { observable = as_pauli w'.observable; set = (carried_in (take 8 before ++ (set' ++ drop (length before - 8) (drop 8 before)))).set }
    → GroupBack form words before after
unfolding carried_in
any_goes {before = before} {set' = set'} b w' long is back last =
    let whole : take (length before - 8) (drop 8 before) ≡ drop 8 before = take_all (length before - 8) (drop 8 before) (omega (arith, length-drop 8 before)) in
    let none : drop (length before - 8) (drop 8 before) ≡ [] = drop_of_length-le (drop 8 before) {i = length before - 8} (omega (arith, length-drop 8 before)) in
    let left : drop 8 (take 8 before ++ (set' ++ drop (length before - 8) (drop 8 before))) ≡ set' =
    drop_at (take 8 before) (set' ++ drop (length before - 8) (drop 8 before)) 8 (length-take-le 8 before (omega arith))
    ∙ ap (λ (l : List ℕ). set' ++ l) none
    ∙ append-nil set' in
    line_goes (record { observable = b; count = 0; noise = None }) w' (take (length before - 8) (drop 8 before)) set'
    (ap₂ (λ (B : Pauli) (l : List ℕ). record { observable = B; set = in_set l }) is whole)
    back
    (last ∙ ap (λ (l : List ℕ). record { observable = as_pauli w'.observable; set = in_set l }) left)

-- ---- all groups

part_same : (l m : List ℕ) (a n : ℕ) → take (a + n) l ≡ take (a + n) m → a ≤ length l → a ≤ length m → take n (drop a l) ≡ take n (drop a m)
part_same l m a n e h k =
    sym (cut l h) ∙ ap (drop a) e ∙ cut m k
  where
    cut : (l : List ℕ) → a ≤ length l → drop a (take (a + n) l) ≡ take n (drop a l)
    cut l h = ap (drop a) (take-add a n l) ∙ drop_at (take a l) (take n (drop a l)) a (length-take-le a l h)

-- those from the i-th on are back over the line, those before it are as they were
pub record GoneBack (form : Form) (words : List ℕ) (n i : ℕ) (before state : List ℕ) : Type 0 where
  pub within : i ≤ n
  pub long : length state ≡ n * 24
  pub front : take (i * 24) state ≡ take (i * 24) before
  pub back : (j : ℕ) → i + j ≡ n → (q : Readable form words)
      → all_carried j (drop (i * 24) state) ≡ map (carried_by q.written) (all_carried j (drop (i * 24) before))

module _ {form : Form} {words : List ℕ} {n : ℕ} {before : List ℕ} where
  pub back_none : length before ≡ n * 24 → GoneBack form words n n before before
  unfolding all_carried
  back_none long = record { within = omega arith; long = long; front = refl; back = none }
    where
      none : (j : ℕ) → n + j ≡ n → (q : Readable form words) → all_carried j (drop (n * 24) before) ≡ map (carried_by q.written) (all_carried j (drop (n * 24) before))
      none zero e q = refl
      none (suc j) e q = absurd (omega arith)

  pub back_all : {state : List ℕ} {i : ℕ} → GoneBack form words n i before state → i ≡ 0 → GroupsBack form words n before state
  back_all {state} {i} g z = record { back = λ q. rw z at (g.back n (omega arith) q) }

  pub back_more : {state : List ℕ} {i : ℕ} (part : List ℕ) → GoneBack form words n i before state → 0 < i → length before ≡ n * 24 → length part ≡ 24
      → GroupBack form words (take 24 (drop ((i - 1) * 24) state)) part
      → GoneBack form words n (i - 1) before (take ((i - 1) * 24) state ++ (part ++ drop 24 (drop ((i - 1) * 24) state)))
  unfolding all_carried
  back_more {state} {i} part g positive wide size b =
      record {
        within = omega (arith, g.within);
        long = partly_length state part ((i - 1) * 24) 24 size room ∙ g.long;
        front = partly_before state part ((i - 1) * 24) 24 size room ∙ sym (take-take ((i - 1) * 24) (i * 24) state (omega arith)) ∙ ap (take ((i - 1) * 24)) g.front ∙ take-take ((i - 1) * 24) (i * 24) before (omega arith);
        back = more;
      }
    where
      next : ((i - 1) * 24) + 24 ≡ i * 24
      next = omega arith

      room : ((i - 1) * 24) + 24 ≤ length state
      room = omega (arith, g.long, g.within)

      more : (j : ℕ) → i - 1 + j ≡ n → (q : Readable form words)
          → all_carried j (drop ((i - 1) * 24) (partly state part ((i - 1) * 24) 24 size room)) ≡ map (carried_by q.written) (all_carried j (drop ((i - 1) * 24) before))
      more zero e q = absurd (omega (arith, g.within))
      more (suc j) e q =
          let same = part_same state before ((i - 1) * 24) 24 (rw next g.front) (omega (arith, room)) (omega (arith, g.within)) in
          ap (all_carried (suc j)) (partly_from state part ((i - 1) * 24) 24 size room)
          ∙ all_first j part (drop (((i - 1) * 24) + 24) state) size
          ∙ ap₂ ◌∷◌ (b.back q ∙ ap (λ (l : List ℕ). carried_by q.written (carried_in l)) same)
          (rw (drop-drop 24 ((i - 1) * 24) before, next) (g.back j (omega arith) q))

-- ---- characters

-- of those from the i-th on
pub record Marked (P : Pauli) (state : List ℕ) (n i : ℕ) (marks : List ℕ) : Type 0 where
  pub within : i ≤ n
  pub long : length marks ≡ n
  pub are : (j : ℕ) → i + j ≡ n → drop i marks ≡ map (mark_by 256 P) (all_carried j (drop (i * 24) state))

module _ {P : Pauli} {state : List ℕ} {n : ℕ} where
  pub marks_none : (marks : List ℕ) → length marks ≡ n → Marked P state n n marks
  unfolding all_carried
  marks_none marks long = record { within = omega arith; long = long; are = none }
    where
      none : (j : ℕ) → n + j ≡ n → drop n marks ≡ map (mark_by 256 P) (all_carried j (drop (n * 24) state))
      none zero e = drop_of_length-le marks {i = n} (omega arith)
      none (suc j) e = absurd (omega arith)

  pub marks_all : {i : ℕ} {marks : List ℕ} → Marked P state n i marks → i ≡ 0 → marks ≡ map (mark_by 256 P) (all_carried n state)
  marks_all g z = rw z at (g.are n (omega arith))

  pub marks_more : {i : ℕ} {marks : List ℕ} {on : Bool} {B : Pauli} → Marked P state n i marks → 0 < i
      → B ≡ (carried_in (take 24 (drop ((i - 1) * 24) state))).observable → on ≡ anticommutes 256 P B
      → (m : ℕ) → m ≡ cond on 49 48 → Marked P state n (i - 1) (set marks (i - 1) m)
  unfolding all_carried mark_by
  marks_more {i} {marks} {on} {B} g positive is e m c =
      record { within = omega (arith, g.within); long = length-set marks (i - 1) m ∙ g.long; are = more }
    where
      more : (j : ℕ) → i - 1 + j ≡ n → drop (i - 1) (set marks (i - 1) m) ≡ map (mark_by 256 P) (all_carried j (drop ((i - 1) * 24) state))
      more zero h = absurd (omega (arith, g.within))
      more (suc j) h =
          let next : i - 1 + 1 ≡ i = omega arith in
          let after : (i - 1) * 24 + 24 ≡ i * 24 = omega arith in
          stored marks (i - 1) m (omega (arith, g.long, g.within))
          ∙ ap₂ ◌∷◌ (c ∙ ap (λ (b : Bool). cond b 49 48) (e ∙ ap (anticommutes 256 P) is))
          (rw (next, drop-drop 24 ((i - 1) * 24) state, after) (g.are j (omega arith)))

pub digit : (b : Bool) → 48 + bool_byte b ≡ cond b 49 48
digit true = refl
digit false = refl

pub digit_fits : (b : Bool) → Fits w8 (cond b 49 48)
digit_fits true = record { fits = omega arith }
digit_fits false = record { fits = omega arith }
