-- The line at a place and the places behind lines, as the job's lines tell them. Laws. Assumes nothing.
use Rattle.std.specs.Prelude.{ℕ, zero, suc, ◌+◌, ◌-◌, ◌≤◌, ◌<◌, Bool, true, false, cond, ◌≡◌, refl, List, [], ◌∷◌, eqb, ltb, length, get_or, take, drop}
use Rattle.std.proofs.Common.{arith, sym, ap, ◌∙◌, ltb-true, ltb-false, lt-ltb, le-ltb, drop_of_length-le, length-drop, drop-drop, get_or-drop}
use Rattle.std.proofs.Math.Seq.{length-take-le, drop-length, take-nil}
use Rattle.text.specs.Bytes.{LF, until, extend, pieces, lines}
use Rattle.text.proofs.Laws.Pieces.{until_le}
use Rattle.line_reader.specs.Reading.{line_from_of, end_from, behind, behind_lines, line_numbered, part_numbered}

-- ---- the first of the lines, and the others

extend_first : (b : ℕ) (ps : List (List ℕ)) → get_or (extend b ps) 0 [] ≡ b ∷ get_or ps 0 []
unfolding extend
extend_first b [] = refl
extend_first b (p ∷ ps) = refl

extend_others : (b : ℕ) (ps : List (List ℕ)) → drop 1 (extend b ps) ≡ drop 1 ps
unfolding extend
extend_others b [] = refl
extend_others b (p ∷ ps) = refl

pub first_line : (l : List ℕ) → get_or (lines l) 0 [] ≡ take (until LF l) l
unfolding until pieces
first_line [] = refl
first_line (b ∷ l) = go (eqb b LF) (first_line l)
  where
    go : (t : Bool) → get_or (lines l) 0 [] ≡ take (until LF l) l
        → get_or (cond t ([] ∷ lines l) (extend b (lines l))) 0 [] ≡ take (cond t 0 (suc (until LF l))) (b ∷ l)
    go true h = refl
    go false h = extend_first b (lines l) ∙ ap (λ (p : List ℕ). b ∷ p) h

pub other_lines : (l : List ℕ) → drop 1 (lines l) ≡ lines (drop (suc (until LF l)) l)
unfolding until pieces
other_lines [] = refl
other_lines (b ∷ l) = go (eqb b LF) (other_lines l)
  where
    go : (t : Bool) → drop 1 (lines l) ≡ lines (drop (suc (until LF l)) l)
        → drop 1 (cond t ([] ∷ lines l) (extend b (lines l))) ≡ lines (drop (cond t 0 (suc (until LF l))) l)
    go true h = refl
    go false h = extend_others b (lines l) ∙ h

-- ---- the place behind a line

module _ (job : List ℕ) (at : ℕ) where
  pub behind_more : end_from job at < length job → behind job at ≡ end_from job at + 1
  unfolding behind
  behind_more h = simp (lt-ltb _ _ h)

  pub behind_last : length job ≤ end_from job at → behind job at ≡ length job
  unfolding behind
  behind_last h = simp (le-ltb _ _ h)

  pub line_length : length (line_from_of job at) ≡ until LF (drop at job)
  unfolding line_from_of
  line_length = length-take-le _ _ (until_le LF (drop at job))

  -- the lines from there on are the others
  pub lines_behind : lines (drop (behind job at) job) ≡ drop 1 (lines (drop at job))
  lines_behind = ap lines (go (ltb (end_from job at) (length job)) refl) ∙ sym (other_lines (drop at job))
    where
      u : ℕ
      u = until LF (drop at job)

      go : (t : Bool) → ltb (end_from job at) (length job) ≡ t → drop (behind job at) job ≡ drop (suc u) (drop at job)
      go true e =
          let k : end_from job at + 1 ≡ at + suc u = omega arith in
          ap (λ (i : ℕ). drop i job) (behind_more (ltb-true _ _ e) ∙ k) ∙ sym (drop-drop (suc u) at job)
      go false e =
          let over = ltb-false (end_from job at) (length job) e in
          let h : length job ≤ at + suc u = omega arith in
          ap (λ (i : ℕ). drop i job) (behind_last (ltb-false _ _ e)) ∙ drop-length job ∙ sym (drop_of_length-le job h) ∙ sym (drop-drop (suc u) at job)

-- ---- the place behind so many lines

-- from the end on there are no more lines
end_behind : (job : List ℕ) (n : ℕ) → behind_lines n job (length job) ≡ length job
unfolding behind_lines
end_behind job zero = refl
end_behind job (suc n) = ap (behind_lines n job) (behind_last job (length job) (omega arith)) ∙ end_behind job n

one_more : (job : List ℕ) (at n : ℕ) → 0 < n → behind_lines n job at ≡ behind_lines (n - 1) job (behind job at)
unfolding behind_lines
one_more job at zero p = absurd (omega arith)
one_more job at (suc n) p =
    let k : n ≡ suc n - 1 = omega arith in
    ap (λ (i : ℕ). behind_lines i job (behind job at)) k

pub none_more : (job : List ℕ) (at n : ℕ) → n ≤ 0 → behind_lines n job at ≡ at
unfolding behind_lines
none_more job at zero p = refl
none_more job at (suc n) p = absurd (omega arith)

behind_within : (job : List ℕ) (at : ℕ) → behind job at ≤ length job
behind_within job at = go (ltb (end_from job at) (length job)) refl
  where
    go : (t : Bool) → ltb (end_from job at) (length job) ≡ t → behind job at ≤ length job
    go true e = let h = ltb-true (end_from job at) (length job) e in omega (arith, h, behind_more job at h)
    go false e = omega (arith, behind_last job at (ltb-false (end_from job at) (length job) e))

-- the same where none are left to pass from the end on
pub one_more_or_none : (job : List ℕ) (at n : ℕ) → 0 < n → behind_lines n job at ≡ behind_lines (cond (ltb (behind job at) (length job)) (n - 1) 0) job (behind job at)
one_more_or_none job at n p = one_more job at n p ∙ go (ltb (behind job at) (length job)) refl
  where
    go : (t : Bool) → ltb (behind job at) (length job) ≡ t → behind_lines (n - 1) job (behind job at) ≡ behind_lines (cond t (n - 1) 0) job (behind job at)
    go true e = refl
    go false e =
        let over = ltb-false (behind job at) (length job) e in
        let end : behind job at ≡ length job = omega (arith, over, behind_within job at) in
        ap (behind_lines (n - 1) job) end ∙ end_behind job (n - 1) ∙ sym end ∙ sym (none_more job (behind job at) 0 (omega arith))

-- the lines from there on are those behind so many
pub lines_left : (n : ℕ) (job : List ℕ) (at : ℕ) → lines (drop (behind_lines n job at) job) ≡ drop n (lines (drop at job))
unfolding behind_lines
lines_left zero job at = refl
lines_left (suc n) job at =
    let k : 1 + n ≡ suc n = omega arith in
    lines_left n job (behind job at) ∙ ap (drop n) (lines_behind job at) ∙ drop-drop n 1 (lines (drop at job)) ∙ ap (λ (i : ℕ). drop i (lines (drop at job))) k

-- the line that begins there is the one behind so many of the job's lines
line_behind : (n : ℕ) (job : List ℕ) (at : ℕ) → line_from_of job (behind_lines n job at) ≡ get_or (lines (drop at job)) n []
unfolding behind_lines line_from_of
line_behind zero job at = sym (first_line (drop at job))
line_behind (suc n) job at =
    let k : 1 + n ≡ suc n = omega arith in
    line_behind n job (behind job at) ∙ ap (λ (ls : List (List ℕ)). get_or ls n []) (lines_behind job at) ∙ get_or-drop 1 (lines (drop at job)) n []
    ∙ ap (λ (i : ℕ). get_or (lines (drop at job)) i []) k

-- ---- a line and those behind it

filled : (b : ℕ) (l : List ℕ) → lines (b ∷ l) ≡ get_or (lines (b ∷ l)) 0 [] ∷ drop 1 (lines (b ∷ l))
unfolding pieces extend
filled b l = go (eqb b LF) (lines l)
  where
    go : (t : Bool) (ps : List (List ℕ)) → cond t ([] ∷ ps) (extend b ps) ≡ get_or (cond t ([] ∷ ps) (extend b ps)) 0 [] ∷ drop 1 (cond t ([] ∷ ps) (extend b ps))
    go true ps = refl
    go false [] = refl
    go false (p ∷ ps) = refl

filled_lines : (l : List ℕ) → 0 < length l → lines l ≡ get_or (lines l) 0 [] ∷ drop 1 (lines l)
filled_lines [] h = absurd (omega arith)
filled_lines (b ∷ l) h = filled b l

pub hands_out : (job : List ℕ) (at : ℕ) → at < length job → lines (drop at job) ≡ line_from_of job at ∷ lines (drop (behind job at) job)
unfolding line_from_of
hands_out job at h =
    let some : 0 < length (drop at job) = rw length-drop (omega arith) in
    filled_lines (drop at job) some ∙ ap (λ (p : List ℕ). p ∷ drop 1 (lines (drop at job))) (first_line (drop at job))
    ∙ ap (λ (ls : List (List ℕ)). take (until LF (drop at job)) (drop at job) ∷ ls) (sym (lines_behind job at))

pub no_lines : (job : List ℕ) (at : ℕ) → length job ≤ at → lines (drop at job) ≡ []
unfolding pieces
no_lines job at h = ap lines (drop_of_length-le job h)

-- ---- as the code finds them

pub line_found : (job : List ℕ) (at e : ℕ) → e ≡ end_from job at → take (e - at) (drop at job) ≡ line_from_of job at
unfolding line_from_of
line_found job at e h =
    let k : e - at ≡ until LF (drop at job) = omega arith in
    ap (λ (n : ℕ). take n (drop at job)) k

pub empty_part : (job : List ℕ) → take (length job - length job) (drop (length job) job) ≡ []
empty_part job = rw (drop-length job) (take-nil (length job - length job))

pub no_line : (job : List ℕ) (at : ℕ) → length job ≤ at → line_from_of job at ≡ []
unfolding line_from_of
no_line job at h = rw (drop_of_length-le job h) (take-nil (until LF []))

pub behind_line : (job : List ℕ) (at : ℕ) (line : List ℕ) → line ≡ line_from_of job at → at + length line < length job → at + length line + 1 ≡ behind job at
behind_line job at line e h =
    let l : length line ≡ until LF (drop at job) = ap length e ∙ line_length job at in
    ap (λ (n : ℕ). at + n + 1) l ∙ sym (behind_more job at (omega arith))

pub behind_last_line : (job : List ℕ) (at : ℕ) (line : List ℕ) → line ≡ line_from_of job at → length job ≤ at + length line → length job ≡ behind job at
behind_last_line job at line e h =
    let l : length line ≡ until LF (drop at job) = ap length e ∙ line_length job at in
    sym (behind_last job at (omega arith))

-- ---- a line that has at least so many bytes

-- the separator is not among them
until_past : (sep : ℕ) (l : List ℕ) (n : ℕ) → n ≤ until sep l → until sep l ≡ n + until sep (drop n l)
unfolding until
until_past sep l zero h = omega arith
until_past sep [] (suc n) h = absurd (omega arith)
until_past sep (b ∷ l) (suc n) h = go (eqb b sep) (until_past sep l n) h
  where
    go : (t : Bool) → (n ≤ until sep l → until sep l ≡ n + until sep (drop n l)) → suc n ≤ cond t 0 (suc (until sep l))
        → cond t 0 (suc (until sep l)) ≡ suc n + until sep (drop n l)
    go true ih k = absurd (omega arith)
    go false ih k = omega (arith, ih (omega arith))

module _ (job : List ℕ) (at n : ℕ) (fewest : n ≤ length (line_from_of job at)) where
  pub fewest_within : at ≤ length job → at + n ≤ length job
  fewest_within h = omega (arith, fewest, line_length job at, until_le LF (drop at job), length-drop at job)

  -- from behind them on the end is the same
  pub end_behind_fewest : end_from job (at + n) ≡ end_from job at
  end_behind_fewest =
      let first : n ≤ until LF (drop at job) = omega (arith, fewest, line_length job at) in
      let left : until LF (drop n (drop at job)) ≡ until LF (drop (at + n) job) = ap (until LF) (drop-drop n at job) in
      omega (arith, until_past LF (drop at job) n first)

-- ---- where a line lies

pub part_none : (job : List ℕ) (k : ℕ) → k ≡ 0 → record { start = length job; len = 0 } ≡ part_numbered job k
unfolding part_numbered
part_none job zero e = refl
part_none job (suc n) e = absurd (omega arith)

pub part_found : (job : List ℕ) (k at : ℕ) (line : List ℕ) → (k ≡ 0 → ⊥) → at ≡ behind_lines (k - 1) job 0 → line ≡ line_from_of job at → record { start = at; len = length line } ≡ part_numbered job k
unfolding part_numbered
part_found job zero at line h e e' = absurd (h refl)
part_found job (suc n) at line h e e' =
    let k : suc n - 1 ≡ n = omega arith in
    let p : at ≡ behind_lines n job 0 = e ∙ ap (λ (i : ℕ). behind_lines i job 0) k in
    let q : length line ≡ length (line_from_of job (behind_lines n job 0)) = ap length (e' ∙ ap (line_from_of job) p) in
    λ i. record { start = p i; len = q i }

-- the bytes that lie there
pub part_bytes : (job : List ℕ) (k : ℕ) → take (part_numbered job k).len (drop (part_numbered job k).start job) ≡ line_numbered (lines job) k
unfolding part_numbered line_numbered line_from_of
part_bytes job zero = refl
part_bytes job (suc n) = ap (λ (i : ℕ). take i (drop (behind_lines n job 0) job)) (line_length job (behind_lines n job 0)) ∙ line_behind n job 0

-- it starts before the job's end just where there is such a line
pub part_within : (job : List ℕ) (k : ℕ) → (part_numbered job k).start < length job → (0 < k) × (k ≤ length (lines job))
unfolding part_numbered
part_within job zero h = absurd (omega arith)
part_within job (suc n) h =
    let l : length (lines job) - n ≡ suc (length (lines (drop (behind job (behind_lines n job 0)) job))) =
    sym (length-drop n (lines job)) ∙ ap length (sym (lines_left n job 0) ∙ hands_out job (behind_lines n job 0) h) in
    (omega arith, omega arith)

pub part_beyond : (job : List ℕ) (k : ℕ) → 0 < k → length job ≤ (part_numbered job k).start → length (lines job) < k
unfolding part_numbered
part_beyond job zero p h = absurd (omega arith)
part_beyond job (suc n) p h =
    let l : length (lines job) - n ≡ 0 = sym (length-drop n (lines job)) ∙ ap length (sym (lines_left n job 0) ∙ no_lines job (behind_lines n job 0) h) in
    omega arith
