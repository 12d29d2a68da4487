-- Where the lines of a job begin and end. Laws. Assumes nothing.
use Rattle.std.specs.Prelude.{ℕ, zero, suc, ◌+◌, ◌-◌, ◌≤◌, ◌<◌, ◌≡◌, Bool, true, cond, ◌&&◌, List, [], ◌∷◌, ◌++◌, eqb, ltb, leb, length, get_or, take, drop}
use Rattle.std.proofs.Common.{arith, sym, ap, ◌∙◌, eqb-true, eq-eqb, drop_of_length-le, length-drop, get_or-drop, length-take-le, take-suc}
use Rattle.std.proofs.Math.Path.{refl}
use Rattle.std.proofs.Math.Bool.{false}
use Rattle.std.proofs.lemmas.Bool.{eqb-false}
use Rattle.text.specs.Bytes.{LF, until, extend, pieces, lines}
use Rattle.text.proofs.Laws.Values.{both}
use Rattle.text.proofs.Laws.Pieces.{step, piece_more}
use Rattle.numbers.specs.Laws.Pieces.{until_at}
use Rattle.job.specs.Job.{max_bytes, well_ended_of, is_last}
use Rattle.instructions.specs.Reading.{line_at, LineAt}

-- the first separator is not behind another
until_most : (sep : ℕ) (l : List ℕ) (j : ℕ) → j < length l → get_or l j 0 ≡ sep → until sep l ≤ j
unfolding until
until_most sep [] j h e = absurd (omega arith)
until_most sep (b ∷ l) zero h e = rw (eq-eqb b sep e) (omega arith)
until_most sep (b ∷ l) (suc j) h e = go (eqb b sep) (until_most sep l j (omega arith) e)
  where
    go : (t : Bool) → until sep l ≤ j → cond t 0 (suc (until sep l)) ≤ suc j
    go true k = omega arith
    go false k = omega arith

-- of a job that ends in LF each line is ended
pub line_ends : (job : List ℕ) (at : ℕ) → well_ended_of job ≡ true → at < length job → at + until LF (drop at job) < length job
unfolding well_ended_of
line_ends job at w h =
    let ended = eqb-true (get_or job (length job - 1) 0) 10 (both (ltb 0 (length job) && leb (length job) max_bytes) (eqb (get_or job (length job - 1) 0) 10) w).1 in
    let there : at + (length job - 1 - at) ≡ length job - 1 = omega arith in
    let last : get_or (drop at job) (length job - 1 - at) 0 ≡ 10 = get_or-drop at job (length job - 1 - at) 0 ∙ rw there ended in
    let most = until_most 10 (drop at job) (length job - 1 - at) (rw length-drop (omega arith)) last in
    omega arith

-- the last line is the one whose LF is the job's last byte
some_line : (b : ℕ) (l : List ℕ) → is_last (lines (b ∷ l)) ≡ false
unfolding pieces
some_line b l = go (eqb b 10) (pieces [] 10 l)
  where
    go : (t : Bool) (ps : List (List ℕ)) → is_last (cond t ([] ∷ ps) (extend b ps)) ≡ false
    go true ps = refl
    go false [] = unfold extend in refl
    go false (p ∷ ps) = unfold extend in refl

pub last_line : (job : List ℕ) (e : ℕ) → e < length job → eqb (e + 1) (length job) ≡ is_last (lines (drop (e + 1) job))
unfolding pieces
last_line job e h = go (eqb (e + 1) (length job)) refl
  where
    go : (t : Bool) → eqb (e + 1) (length job) ≡ t → t ≡ is_last (lines (drop (e + 1) job))
    go true q = let end = eqb-true (e + 1) (length job) q in let past : length job ≤ e + 1 = omega arith in ap (λ (l : List ℕ). is_last (lines l)) (sym (drop_of_length-le job past))
    go false q =
        let more : e + 1 < length job = omega (arith, eqb-false (e + 1) (length job) q) in
        sym (ap (λ (l : List ℕ). is_last (lines l)) (step job (e + 1) more) ∙ some_line (get_or job (e + 1) 0) (drop (e + 1 + 1) job))

-- the line from a place to the first LF
pub found_line : (job : List ℕ) (at e : ℕ) → well_ended_of job ≡ true → at < length job → e ≡ at + until LF (drop at job) → LineAt job at e
unfolding line_at
found_line job at e ended here found =
    let inside : e < length job = rw found (line_ends job at ended here) in
    let cut = length-drop at job in
    record {
      begins = omega arith;
      inside = inside;
      ended = ap (λ (i : ℕ). get_or job i 0) found ∙ sym (get_or-drop at job (until 10 (drop at job)) 0) ∙ until_at 10 (drop at job) (omega arith);
      long = rw (length-take-le (e - at) (drop at job) (omega arith)) (omega arith);
      cut = piece_more 10 job at e (omega arith) found [] inside;
    }

-- a line with the LF that ends it
pub whole_line : {job : List ℕ} {at e : ℕ} → LineAt job at e → take (e + 1 - at) (drop at job) ≡ line_at job at e ++ LF ∷ []
unfolding line_at
whole_line {job} {at} {e} l =
    let more : e + 1 - at ≡ suc (e - at) = omega (arith, l.begins) in
    let there : at + (e - at) ≡ e = omega (arith, l.begins) in
    let byte : get_or (drop at job) (e - at) 0 ≡ 10 = get_or-drop at job (e - at) 0 ∙ ap (λ (i : ℕ). get_or job i 0) there ∙ l.ended in
    let inside : e - at < length (drop at job) = omega (arith, l.begins, l.inside, length-drop at job) in
    ap (λ (i : ℕ). take i (drop at job)) more ∙ take-suc (drop at job) (e - at) 0 inside ∙ ap (λ (b : ℕ). take (e - at) (drop at job) ++ b ∷ []) byte
