-- A job's lines from the last to the first: the lines of a prefix that ends where a line starts are a prefix of the lines. Laws. Assumes nothing.
use Rattle.std.specs.Prelude.{◌≡◌, refl, Bool, true, false, cond, ◌||◌, List, [], ◌∷◌, ◌++◌, ℕ, zero, suc, ◌+◌, ◌-◌, ◌≤◌, ◌<◌, eqb, length, get_or, take, drop}
use Rattle.std.proofs.Common.{sym, ap, subst, ◌∙◌, true≢false, append_assoc, append-nil, arith, ne_eqb, eqb-true, length-drop, take-suc, take-add, drop-cons, get_or-drop}
use Rattle.std.proofs.lemmas.Bool.{eqb-false}
use Rattle.text.specs.Bytes.{until, extend, pieces, lines, unlines}
use Rattle.text.specs.Written.{Free}
use Rattle.text.proofs.Theorems.{lines_unlines}
use Rattle.instructions.specs.Reading.{line_at}
use Rattle.lines_from_last.specs.Line.{LineStart, LineBefore, NoLf}

-- what stands before an LF has its lines, whatever follows
joined : (p : List ℕ) → (h : List ℕ) × (t : List (List ℕ)) × ((q : List ℕ) → lines (p ++ 10 ∷ q) ≡ h ∷ (t ++ lines q))
unfolding pieces extend
joined [] = ([], [], λ q. refl)
joined (b ∷ p) = go (eqb b 10) (joined p)
  where
    go : (t : Bool) → (h : List ℕ) × (ls : List (List ℕ)) × ((q : List ℕ) → lines (p ++ 10 ∷ q) ≡ h ∷ (ls ++ lines q))
        → (h : List ℕ) × (ls : List (List ℕ)) × ((q : List ℕ) → cond t ([] ∷ lines (p ++ 10 ∷ q)) (extend b (lines (p ++ 10 ∷ q))) ≡ h ∷ (ls ++ lines q))
    go true j = ([], j.0 ∷ j.1, λ q. ap (λ (ls : List (List ℕ)). [] ∷ ls) (j.2 q))
    go false j = (b ∷ j.0, j.1, λ q. ap (extend b) (j.2 q))

lines_join : (p q : List ℕ) → lines (p ++ 10 ∷ q) ≡ lines (p ++ 10 ∷ []) ++ lines q
unfolding pieces
lines_join p q =
    let j = joined p in
    j.2 q ∙ sym (ap (λ (ls : List (List ℕ)). ls ++ lines q) (j.2 [] ∙ ap (λ (t : List (List ℕ)). j.0 ∷ t) (append-nil j.1)))

prefix_lines : (job : List ℕ) (r : ℕ) (q : List ℕ) → r ≤ length job → LineStart job r → lines (take r job ++ q) ≡ lines (take r job) ++ lines q
unfolding pieces
prefix_lines job zero q h s = refl
prefix_lines job (suc k) q h s =
    let p : suc k - 1 ≡ k = omega arith in
    let lf : get_or job k 0 ≡ 10 = rw p at (s (omega arith)) in
    let e : take (suc k) job ≡ take k job ++ 10 ∷ [] = take-suc job k 0 h ∙ rw lf in
    rw (e, append_assoc) (lines_join (take k job) q)

free_line : (l : List ℕ) → Free 10 l → lines (l ++ 10 ∷ []) ≡ l ∷ []
free_line l f = unfold unlines in lines_unlines (l ∷ []) (f, tt)

-- the last line of what stands up to the LF at e
pub line_before : (job : List ℕ) (e r : ℕ) → e < length job → get_or job e 0 ≡ 10 → r ≤ e → LineStart job r → Free 10 (line_at job r e) → LineBefore job e r
unfolding line_at
line_before job e r h lf le s f =
    let n : e + 1 ≡ r + suc (e - r) = omega arith in
    let m : r + (e - r) ≡ e = omega arith in
    let here : e - r < length (drop r job) = rw length-drop (omega arith) in
    let last : get_or (drop r job) (e - r) 0 ≡ 10 = get_or-drop r job (e - r) 0 ∙ rw m lf in
    let line : take (suc (e - r)) (drop r job) ≡ take (e - r) (drop r job) ++ 10 ∷ [] = take-suc (drop r job) (e - r) 0 here ∙ rw last in
    record {
      within = le;
      starts = s;
      splits =
          rw (n, take-add r (suc (e - r)) job, line)
          (prefix_lines job r (take (e - r) (drop r job) ++ 10 ∷ []) (omega arith) s ∙ rw (free_line (take (e - r) (drop r job)) f));
    }

-- the bytes from j on up to e are free of LF if those behind j are, and j is none
free_step : (job : List ℕ) (e j : ℕ) → j < e → e < length job → (get_or job j 0 ≡ 10 → ⊥) → Free 10 (line_at job (suc j) e) → Free 10 (line_at job j e)
unfolding until line_at
free_step job e j h g ne f =
    let n : e - j ≡ suc (e - suc j) = omega arith in
    rw (n, drop-cons job j 0 (omega arith), ne_eqb _ _ ne) (ap suc f)

module _ (job : List ℕ) (e i : ℕ) (inside : e < length job) (within : i ≤ e) where
  pub free_more : 0 < i → (get_or job (i - 1) 0 ≡ 10 → ⊥) → Free 10 (line_at job i e) → Free 10 (line_at job (i - 1) e)
  free_more h ne f = let n : suc (i - 1) ≡ i = omega arith in free_step job e (i - 1) (omega arith) inside ne (rw n f)

  pub free_two : 1 < i → (get_or job (i - 1) 0 ≡ 10 → ⊥) → (get_or job (i - 2) 0 ≡ 10 → ⊥) → Free 10 (line_at job i e) → Free 10 (line_at job (i - 2) e)
  free_two h last ne f = let n : suc (i - 2) ≡ i - 1 = omega arith in free_step job e (i - 2) (omega arith) inside ne (rw n (free_more (omega arith) last f))

-- so are those of a block before them that has none
pub free_block : (job : List ℕ) (e i n : ℕ) → e < length job → i ≤ e → n ≤ i → NoLf job (i - n) i → Free 10 (line_at job i e)
    → Free 10 (line_at job (i - n) e)
free_block job e i zero inside within h b f = let z : i - 0 ≡ i = omega arith in rw z f
free_block job e i (suc n) inside within h b f =
    let p : i - n - 1 ≡ i - suc n = omega arith in
    let less : NoLf job (i - n) i = record { none = λ j from to. b.none j (omega arith) to } in
    let rest : Free 10 (line_at job (i - n) e) = free_block job e i n inside within (omega arith) less f in
    rw p at (free_more job e (i - n) inside (omega arith) (omega arith) (b.none (i - n - 1) (omega arith) (omega arith)) rest)

-- none are looked at yet
pub no_lf_none : (job : List ℕ) (from : ℕ) → NoLf job from (from + 0)
no_lf_none job from = record { none = λ j ge lt lf. omega arith }

-- one more
no_lf_more : (job : List ℕ) (from k : ℕ) → NoLf job from (from + k) → (get_or job (from + k) 0 ≡ 10 → ⊥) → NoLf job from (from + (k + 1))
no_lf_more job from k b ne = record { none = λ j ge lt lf. go j ge lt lf (eqb j (from + k)) refl }
  where
    go : (j : ℕ) → from ≤ j → j < from + (k + 1) → get_or job j 0 ≡ 10 → (t : Bool) → eqb j (from + k) ≡ t → ⊥
    go j ge lt lf true e = ne (subst (λ (p : ℕ). get_or job p 0 ≡ 10) (eqb-true _ _ e) lf)
    go j ge lt lf false e = let other : j ≡ from + k → ⊥ = eqb-false _ _ e in b.none j ge (omega arith) lf

-- one more, with whether there was any before
pub found_more : (job : List ℕ) (from k : ℕ) (found : Bool) → (found ≡ false → NoLf job from (from + k))
    → (found || eqb (get_or job (from + k) 0) 10) ≡ false → NoLf job from (from + (k + 1))
found_more job from k true before e = absurd (true≢false e)
found_more job from k false before e = no_lf_more job from k (before refl) (eqb-false _ _ e)

pub free_none : (job : List ℕ) (e : ℕ) → Free 10 (line_at job e e)
unfolding until line_at
free_none job e = let z : e - e ≡ 0 = omega arith in rw z
