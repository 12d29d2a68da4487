-- Laws: how far a job has read the main list, and at which line its draws are spent. Assumes nothing.
use Rattle.std.specs.Prelude.{◌≡◌, cond, List, [], ◌∷◌, ◌++◌, map, ℕ, zero, suc, ◌+◌, ◌-◌, ◌^◌, ◌%◌, length, drop}
use Rattle.std.proofs.Math.Path.{refl, sym, ap, fun_ext}
use Rattle.std.proofs.Common.{subst, ◌∙◌, append_assoc, arith}
use Rattle.std.proofs.Math.Option.{Option, none, some}
use Rattle.std.proofs.Math.Nat.{zero-sub, sub-zero, suc-sub-suc}
use Rattle.std.specs.Float.Ieee.{le}
use Rattle.job.specs.Line.{Noise, Instruction, Placed}
use Rattle.job.specs.Float.{float, zero_float}
use Rattle.draws.specs.Draws.{ShotDraw, draw_shot_of, Lent, Draws, then_shots, draw_shots, draw_line, part_of, main_after}
use Rattle.draws.specs.Settle.{SettledLine, injection, Step, step_of, Settled, prefixed, settle_then, settle}
use Rattle.draws.specs.Known.{left_by, main_left, SpentAt, lengthened}
use Rattle.draws.proofs.Laws.Words.{took_more, DrawsTook, line_took, step_drawn, step_spent}

-- ---- how far the main list is read

-- the words with which the main list began, before what is left of it
pub record Suffix (main left : List ℕ) : Type 0 where
  pub used : List ℕ
  pub whole : main ≡ used ++ left

-- ---- instructions after others

-- one job's outcome, and then that of the instructions after it
unfoldable pub followed : Settled → Settled → Settled
followed (Settled.spent_at k) later = Settled.spent_at k
followed (Settled.settled ls) later = prefixed ls later

prefixed_followed : (ls : List SettledLine) (o later : Settled) → prefixed ls (followed o later) ≡ followed (prefixed ls o) later
unfolding prefixed followed
prefixed_followed ls (Settled.spent_at k) later = refl
prefixed_followed ls (Settled.settled ms) (Settled.spent_at k) = refl
prefixed_followed ls (Settled.settled ms) (Settled.settled ns) = ap Settled.settled (sym (append_assoc ls ms ns))

prefixed_none : (o : Settled) → prefixed [] o ≡ o
unfolding prefixed
prefixed_none (Settled.spent_at k) = refl
prefixed_none (Settled.settled ls) = refl

pub settle_append : (lent : Lent) (main : List ℕ) (is js : List Placed)
    → settle lent (is ++ js) main ≡ followed (settle lent is main) (settle lent js (main_left lent main is))
unfolding settle main_left
settle_append lent main [] js = unfold followed in sym (prefixed_none (settle lent js main))
settle_append lent main (i ∷ is) js = go (step_of lent main i.text i.instruction) (λ mid. settle_append lent mid is js)
  where
    go : (o : Step)
        → ((mid : List ℕ) → settle lent (is ++ js) mid ≡ followed (settle lent is mid) (settle lent js (main_left lent mid is)))
        → settle_then i.line o (settle lent (is ++ js))
        ≡ followed (settle_then i.line o (settle lent is)) (settle lent js (main_left lent (left_by main o) is))
    go Step.spent ih = unfold settle_then followed in refl
    go (Step.lines ls mid) ih =
        unfold settle_then left_by in
        (ap (prefixed ls) (ih mid) ∙ prefixed_followed ls (settle lent is mid) (settle lent js (main_left lent mid is)))

-- ---- the line at which draws are spent

settle_stops : (lent : Lent) (main : List ℕ) (i : Placed) (is : List Placed) → step_of lent main i.text i.instruction ≡ Step.spent
    → settle lent (i ∷ is) main ≡ Settled.spent_at i.line
unfolding settle settle_then
settle_stops lent main i is e = ap (λ (o : Step). settle_then i.line o (settle lent is)) e

pub settle_goes : (lent : Lent) (main : List ℕ) (i : Placed) (is : List Placed) (ls : List SettledLine) (left : List ℕ)
    → step_of lent main i.text i.instruction ≡ Step.lines ls left → settle lent (i ∷ is) main ≡ prefixed ls (settle lent is left)
unfolding settle settle_then
settle_goes lent main i is ls left e = ap (λ (o : Step). settle_then i.line o (settle lent is)) e

pub left_goes : (lent : Lent) (main : List ℕ) (i : Placed) (is : List Placed) (ls : List SettledLine) (left : List ℕ)
    → step_of lent main i.text i.instruction ≡ Step.lines ls left → main_left lent main (i ∷ is) ≡ main_left lent left is
unfolding main_left left_by
left_goes lent main i is ls left e = ap (λ (o : Step). main_left lent (left_by main o) is) e

prefixed_spent : (ls : List SettledLine) (o : Settled) (k : ℕ) → prefixed ls o ≡ Settled.spent_at k → o ≡ Settled.spent_at k
unfolding prefixed
prefixed_spent ls (Settled.spent_at j) k e = e
prefixed_spent ls (Settled.settled ms) k e = cc

pub at_spent : {lent : Lent} {main : List ℕ} {is : List Placed} {k : ℕ} → SpentAt lent main is k → settle lent is main ≡ Settled.spent_at k
at_spent {lent} {main} {is} {k} s =
    let left = main_left lent main s.before in
    let stops : step_of lent left s.here.text s.here.instruction ≡ Step.spent =
    ap (step_of lent left s.here.text) s.is_noise ∙ step_spent lent left s.here.text s.noise refl s.spent in
    ap (λ (js : List Placed). settle lent js main) s.list
    ∙ settle_append lent main s.before (s.here ∷ s.after)
    ∙ ap (λ (o : Settled). followed o (settle lent (s.here ∷ s.after) left)) s.settles
    ∙ ap (followed (Settled.settled s.lines)) (settle_stops lent left s.here s.after stops ∙ ap Settled.spent_at s.line)
    ∙ (unfold followed prefixed in refl)

-- an instruction whose draws are spent is noise
pub record SpentNoise (lent : Lent) (main : List ℕ) (i : Instruction) : Type 0 where
  pub noise : Noise
  pub is_noise : i ≡ Instruction.noise noise
  pub spent : draw_line lent noise (part_of lent noise.correlation main) ≡ Draws.spent

pub spent_noise : (lent : Lent) (main text : List ℕ) (i : Instruction) → step_of lent main text i ≡ Step.spent → SpentNoise lent main i
unfolding step_of
spent_noise lent main text (Instruction.line l) e = let no : ◌≡◌ {A = ℕ} 0 1 = cc in absurd (omega arith)
spent_noise lent main text (Instruction.noise n) e = go (draw_line lent n (part_of lent n.correlation main)) refl
  where
    go : (o : Draws) → draw_line lent n (part_of lent n.correlation main) ≡ o → SpentNoise lent main (Instruction.noise n)
    go Draws.spent d = record { noise = n; is_noise = refl; spent = d }
    go (Draws.drawn fs left) d = let no : ◌≡◌ {A = ℕ} 0 1 = cc (step_drawn lent main text n refl fs left d) in absurd (omega arith)

-- at the first instruction, or behind it
unfoldable pub spent_here : (lent : Lent) (main : List ℕ) (i : Placed) (is : List Placed) (n : Noise) → i.instruction ≡ Instruction.noise n
    → draw_line lent n (part_of lent n.correlation main) ≡ Draws.spent → SpentAt lent main (i ∷ is) i.line
unfolding settle main_left
spent_here lent main i is n noise spent =
    record {
      before = [];
      here = i;
      after = is;
      noise = n;
      lines = [];
      list = refl;
      line = refl;
      is_noise = noise;
      settles = refl;
      spent = spent;
    }

unfoldable pub spent_later : (lent : Lent) (main : List ℕ) (i : Placed) (is : List Placed) (ls : List SettledLine) (left : List ℕ)
    → step_of lent main i.text i.instruction ≡ Step.lines ls left → {k : ℕ} → SpentAt lent left is k → SpentAt lent main (i ∷ is) k
unfolding prefixed
spent_later lent main i is ls left d s =
    record {
      before = i ∷ s.before;
      here = s.here;
      after = s.after;
      noise = s.noise;
      lines = ls ++ s.lines;
      list = ap (λ (l : List Placed). i ∷ l) s.list;
      line = s.line;
      is_noise = s.is_noise;
      settles = settle_goes lent main i s.before ls left d ∙ ap (prefixed ls) s.settles;
      spent =
          ap (λ (l : List ℕ). draw_line lent s.noise (part_of lent s.noise.correlation l)) (left_goes lent main i s.before ls left d)
          ∙ s.spent;
    }

pub spent_at_lem : (lent : Lent) (main : List ℕ) (is : List Placed) (k : ℕ) → settle lent is main ≡ Settled.spent_at k → SpentAt lent main is k
unfolding settle
spent_at_lem lent main [] k e = let no : ◌≡◌ {A = ℕ} 0 1 = cc in absurd (omega arith)
spent_at_lem lent main (i ∷ is) k e = go (step_of lent main i.text i.instruction) refl (λ left. spent_at_lem lent left is k)
  where
    go : (o : Step) → step_of lent main i.text i.instruction ≡ o
        → ((left : List ℕ) → settle lent is left ≡ Settled.spent_at k → SpentAt lent left is k) → SpentAt lent main (i ∷ is) k
    go Step.spent d ih =
        let s : SpentNoise lent main i.instruction = spent_noise lent main i.text i.instruction d in
        let here : i.line ≡ k = cc (settle_stops lent main i is d) in
        subst (SpentAt lent main (i ∷ is)) here (spent_here lent main i is s.noise s.is_noise s.spent)
    go (Step.lines ls left) d ih =
        spent_later lent main i is ls left d (ih left (prefixed_spent ls (settle lent is left) k (sym (settle_goes lent main i is ls left d) ∙ e)))

-- ---- more words after both lists change nothing that was settled

pub drop_append : (k : ℕ) (xs ys : List ℕ) → drop k (xs ++ ys) ≡ drop k xs ++ drop (k - length xs) ys
drop_append zero [] ys = refl
drop_append zero (x ∷ xs) ys = rw (zero-sub (suc (length xs)))
drop_append (suc k) [] ys = rw (sub-zero (suc k))
drop_append (suc k) (x ∷ xs) ys = rw (suc-sub-suc k (length xs)) (drop_append k xs ys)

-- what more a part holds
extra : Lent → List ℕ → List ℕ → Option ℕ → List ℕ
extra lent us vs none = vs
extra lent us vs (some c) = drop ((lent.base + c) % 2 ^ 64 - length lent.second) us

part_more : (lent : Lent) (us main vs : List ℕ) (c : Option ℕ) → part_of (lengthened us lent) c (main ++ vs) ≡ part_of lent c main ++ extra lent us vs c
unfolding part_of extra
part_more lent us main vs none = refl
part_more lent us main vs (some c) = drop_append ((lent.base + c) % 2 ^ 64) lent.second us

left_more : (c : Option ℕ) (lent : Lent) (us main vs left : List ℕ)
    → main_after c (main ++ vs) (left ++ extra lent us vs c) ≡ main_after c main left ++ vs
unfolding main_after extra
left_more none lent us main vs left = refl
left_more (some c) lent us main vs left = refl

shots_same : (lent : Lent) (us : List ℕ) (n : Noise) (count shot : ℕ) (ws : List ℕ)
    → draw_shots (lengthened us lent) n count shot ws ≡ draw_shots lent n count shot ws
unfolding draw_shots
shots_same lent us n zero shot ws = refl
shots_same lent us n (suc count) shot ws = go (draw_shot_of n (λ id. lent.noiseless id shot) ws) (shots_same lent us n count (suc shot))
  where
    go : (o : ShotDraw) → ((vs : List ℕ) → draw_shots (lengthened us lent) n count (suc shot) vs ≡ draw_shots lent n count (suc shot) vs)
        → then_shots shot o (draw_shots (lengthened us lent) n count (suc shot)) ≡ then_shots shot o (draw_shots lent n count (suc shot))
    go o ih = ap (then_shots shot o) (fun_ext ih)

line_same : (lent : Lent) (us : List ℕ) (n : Noise) (ws : List ℕ) → draw_line (lengthened us lent) n ws ≡ draw_line lent n ws
unfolding draw_line
line_same lent us n ws = ap (cond (le (float n.probability) zero_float) (Draws.drawn [] ws)) (shots_same lent us n lent.shots 0 ws)

-- more words left
unfoldable leaving : List ℕ → Step → Step
leaving vs Step.spent = Step.spent
leaving vs (Step.lines ls left) = Step.lines ls (left ++ vs)

step_more : (lent : Lent) (us main vs text : List ℕ) (i : Instruction) {ls : List SettledLine} {left : List ℕ}
    → step_of lent main text i ≡ Step.lines ls left → step_of (lengthened us lent) (main ++ vs) text i ≡ Step.lines ls (left ++ vs)
unfolding leaving
step_more lent us main vs text (Instruction.line l) e = unfold step_of in ap (leaving vs) e
step_more lent us main vs text (Instruction.noise n) {ls} {left} e =
    go (draw_line lent n (part_of lent n.correlation main)) refl (line_took lent n (part_of lent n.correlation main))
  where
    go : (o : Draws) → draw_line lent n (part_of lent n.correlation main) ≡ o → DrawsTook (draw_line lent n) (part_of lent n.correlation main) o
        → step_of (lengthened us lent) (main ++ vs) text (Instruction.noise n) ≡ Step.lines ls (left ++ vs)
    go Draws.spent d t = cc (step_spent lent main text n refl d)
    go (Draws.drawn fs rest) d t =
        let more = extra lent us vs n.correlation in
        let longer : draw_line (lengthened us lent) n (part_of (lengthened us lent) n.correlation (main ++ vs)) ≡ Draws.drawn fs (rest ++ more) =
        line_same lent us n _ ∙ ap (draw_line lent n) (part_more lent us main vs n.correlation) ∙ (unfold DrawsTook in took_more t more) in
        step_drawn (lengthened us lent) (main ++ vs) text n refl fs (rest ++ more) longer
        ∙ ap (Step.lines (map (injection n.distribution) fs)) (left_more n.correlation lent us main vs rest)
        ∙ ap (leaving vs) (sym (step_drawn lent main text n refl fs rest d) ∙ e)

pub settled_more : (lent : Lent) (us main vs : List ℕ) (is : List Placed) {ls : List SettledLine}
    → settle lent is main ≡ Settled.settled ls → settle (lengthened us lent) is (main ++ vs) ≡ Settled.settled ls
unfolding settle
settled_more lent us main vs [] e = e
settled_more lent us main vs (i ∷ is) {ls} e =
    go (step_of lent main i.text i.instruction) refl (λ mid ms h. settled_more lent us mid vs is h)
  where
    later : List ℕ → Settled
    later mid = settle (lengthened us lent) is (mid ++ vs)

    end : (ms : List SettledLine) (mid : List ℕ) (o : Settled) → settle lent is mid ≡ o → prefixed ms o ≡ Settled.settled ls
        → ((ns : List SettledLine) → settle lent is mid ≡ Settled.settled ns → later mid ≡ Settled.settled ns)
        → prefixed ms (later mid) ≡ Settled.settled ls
    end ms mid (Settled.spent_at k) d h ih = unfold prefixed in cc
    end ms mid (Settled.settled ns) d h ih = ap (prefixed ms) (ih ns d) ∙ h

    go : (o : Step) → step_of lent main i.text i.instruction ≡ o
        → ((mid : List ℕ) (ns : List SettledLine) → settle lent is mid ≡ Settled.settled ns → later mid ≡ Settled.settled ns)
        → settle (lengthened us lent) (i ∷ is) (main ++ vs) ≡ Settled.settled ls
    go Step.spent d ih = cc (settle_stops lent main i is d)
    go (Step.lines ms mid) d ih =
        settle_goes (lengthened us lent) (main ++ vs) i is ms (mid ++ vs) (step_more lent us main vs i.text i.instruction d)
        ∙ end ms mid (settle lent is mid) refl (sym (settle_goes lent main i is ms mid d) ∙ e) (ih mid)
