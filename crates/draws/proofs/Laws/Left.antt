-- Laws: what a job leaves of a list, and of a longer one. Assumes nothing.
use Rattle.std.proofs.Math.Path.{◌≡◌, refl, sym, ap, subst}
use Rattle.std.proofs.Common.{◌∙◌, arith, length-append, length-drop, take-append-drop}
use mathlib.Core.List.{List, [], ◌∷◌, ◌++◌, append_assoc, append-nil}
use Rattle.std.proofs.Math.Option.{Option, none, some}
use Rattle.std.specs.Prelude.{ℕ, ◌+◌, ◌-◌, ◌≤◌, ◌<◌, min, take, drop}
use Rattle.std.proofs.Math.ListN.{length}
use Rattle.std.proofs.Math.Seq.{take-append_seam}
use Rattle.job.specs.declared.Header.{Header}
use Rattle.job.specs.Line.{Noise, Instruction, Placed}
use Rattle.draws.specs.Draws.{Lent, Draws, draw_line, part_of}
use Rattle.draws.specs.Settle.{SettledLine, Step, step_of, Settled, prefixed, settle_then, settle}
use Rattle.draws.specs.Known.{SpentAt, left_by, main_left}
use Rattle.draws.specs.Left.{spent_on, left_spent, left_then, left_after}
use Rattle.draws.proofs.Laws.Words.{Took, took_more, StepTook, step_took, step_spent, step_drawn, main_read, spent_past}
use Rattle.draws.specs.Execute.{States, Executed, execute_one}
use Rattle.draws.proofs.Laws.Settling.{on_step, one_settled}
use Rattle.draws.proofs.Laws.Spent.{Suffix, settle_goes, spent_here, spent_later}

-- ---- a beginning is taken

suffix_length : {main left : List ℕ} → Suffix main left → length left ≤ length main
suffix_length {main} {left} s = let e : length main ≡ length s.used + length left = ap length s.whole ∙ length-append s.used left in omega (arith, e)

spent_suffix : (i : Instruction) (main : List ℕ) → Suffix main (left_spent i main)
unfolding left_spent spent_on
spent_suffix (Instruction.line l) main = record { used = []; whole = refl }
spent_suffix (Instruction.noise n) main = go n.correlation
  where
    go : (c : Option ℕ) → Suffix main (spent_on c main)
    go none = record { used = main; whole = sym (append-nil main) }
    go (some c) = record { used = []; whole = refl }

-- What is left is an end of the list.
pub left_suffix : (lent : Lent) (is : List Placed) (main : List ℕ) → Suffix main (left_after lent is main)
unfolding left_after
left_suffix lent [] main = record { used = []; whole = refl }
left_suffix lent (i ∷ is) main =
    go (step_of lent main i.text i.instruction) (step_took lent main i.text i.instruction) (left_suffix lent is)
  where
    go : (o : Step) → StepTook (λ m. step_of lent m i.text i.instruction) main o → ((mid : List ℕ) → Suffix mid (left_after lent is mid))
        → Suffix main (left_then i.instruction main o (left_after lent is))
    go Step.spent t ih = unfold left_then in spent_suffix i.instruction main
    go (Step.lines ls mid) t ih =
        unfold left_then StepTook in
        record {
          used = t.used ++ (ih mid).used;
          whole = t.whole ∙ ap (λ (l : List ℕ). t.used ++ l) (ih mid).whole ∙ sym (append_assoc t.used (ih mid).used (left_after lent is mid));
        }

pub left_length : (lent : Lent) (is : List Placed) (main : List ℕ) → length (left_after lent is main) ≤ length main
left_length lent is main = suffix_length (left_suffix lent is main)

-- ---- a longer list

-- Fewer words are left than follow; or no word follows, or none is left.
pub record Fewer (left more : List ℕ) : Type 0 where
  pub few : length left ≤ length more
  pub none_left : length left ≡ length more → left ≡ []

-- A job either stays within a list, whatever follows it, or uses it up and needs more.
pub data Uses (lent : Lent) (is : List Placed) (own : List ℕ) : Type 0 where
  within : (rest : List ℕ) → ((more : List ℕ) → left_after lent is (own ++ more) ≡ rest ++ more)
      → ((more : List ℕ) → settle lent is (own ++ more) ≡ settle lent is own) → Uses lent is own
  past : (k : ℕ) (s : SpentAt lent own is k) → s.noise.correlation ≡ none
      → ((more : List ℕ) → Fewer (left_after lent is (own ++ more)) more) → Uses lent is own

-- of a step that was made
made : {O : Type 0} {f done : List ℕ → O} {ws left : List ℕ} → Took f done ws left → f ws ≡ done left
made {f = f} {left = left} t = ap f t.whole ∙ t.alone left

module _ (lent : Lent) (i : Placed) (is : List Placed) (own mid : List ℕ) (ls : List SettledLine)
    (t : Took (λ m. step_of lent m i.text i.instruction) (Step.lines ls) own mid) where
  left_on : (more : List ℕ) → left_after lent (i ∷ is) (own ++ more) ≡ left_after lent is (mid ++ more)
  unfolding left_after left_then
  left_on more = ap (λ (o : Step). left_then i.instruction (own ++ more) o (left_after lent is)) (took_more t more)

  settle_on : (more : List ℕ) → settle lent (i ∷ is) (own ++ more) ≡ prefixed ls (settle lent is (mid ++ more))
  settle_on more = settle_goes lent (own ++ more) i is ls (mid ++ more) (took_more t more)

  uses_on : Uses lent is mid → Uses lent (i ∷ is) own
  unfolding spent_later
  uses_on (Uses.within rest left same) =
      Uses.within rest (λ more. left_on more ∙ left more)
      (λ more.
      settle_on more ∙ ap (prefixed ls) (same more)
      ∙ sym (ap (settle lent (i ∷ is)) (sym (append-nil own)) ∙ settle_on [] ∙ ap (λ (m : List ℕ). prefixed ls (settle lent is m)) (append-nil mid)))
  uses_on (Uses.past k s corr less) =
      Uses.past k (spent_later lent own i is ls mid (made t) s) corr (λ more. subst (λ (l : List ℕ). Fewer l more) (sym (left_on more)) (less more))

-- a step that was spent
module _ (lent : Lent) (i : Placed) (is : List Placed) (own : List ℕ) (n : Noise) (noise : i.instruction ≡ Instruction.noise n)
    (spent : step_of lent own i.text i.instruction ≡ Step.spent) where
  abbrev step : List ℕ → Step
  step m = step_of lent m i.text (Instruction.noise n)

  own_spent : (c : Option ℕ) → n.correlation ≡ c → (o : Draws) → draw_line lent n (part_of lent c own) ≡ o → o ≡ Draws.spent
  own_spent c corr Draws.spent e = refl
  own_spent c corr (Draws.drawn fs left) e =
      let made = step_drawn lent own i.text n corr fs left e in
      let no : ◌≡◌ {A = ℕ} 0 1 = cc (made, spent, noise) in absurd (omega arith)

  -- of the main list: more words are read past its end, or spent too
  left_main : n.correlation ≡ none → (more : List ℕ) → (o : Step) → step (own ++ more) ≡ o
      → Fewer (left_then (Instruction.noise n) (own ++ more) o (left_after lent is)) more
  unfolding left_then left_spent spent_on part_of
  left_main corr more Step.spent e = rw corr (record { few = omega arith; none_left = λ same. refl })
  left_main corr more (Step.lines ls left) e =
      let r = main_read lent (own ++ more) i.text n ls left corr e in
      let less = spent_past lent n own (own_spent none corr (draw_line lent n own) refl) more r.0 left r.1 in
      let short : length (left_after lent is left) < length more = omega (arith, less, left_length lent is left) in
      record { few = omega (arith, short); none_left = λ same. absurd (omega (arith, short, same)) }

  -- of the second: the main list does not matter
  left_second : (p : ℕ) → n.correlation ≡ some p → (more : List ℕ) → step more ≡ Step.spent
  unfolding part_of
  left_second p corr more = step_spent lent more i.text n corr (own_spent (some p) corr (draw_line lent n (part_of lent (some p) own)) refl)

  uses_spent : Uses lent (i ∷ is) own
  unfolding left_after left_then left_spent spent_on settle settle_then spent_here
  uses_spent = which n.correlation refl
    where
      which : (c : Option ℕ) → n.correlation ≡ c → Uses lent (i ∷ is) own
      which none corr =
          Uses.past i.line (spent_here lent own i is n noise (own_spent n.correlation refl _ refl)) corr
          (λ more. rw noise (left_main corr more (step (own ++ more)) refl))
      which (some p) corr = Uses.within own
          (λ more. rw (noise, left_second p corr (own ++ more), corr) refl)
          (λ more. rw (noise, left_second p corr (own ++ more), left_second p corr own) refl)

pub uses : (lent : Lent) (is : List Placed) (own : List ℕ) → Uses lent is own
unfolding left_after
uses lent [] own = Uses.within own (λ more. refl) (λ more. unfold settle in refl)
uses lent (i ∷ is) own =
    go (step_of lent own i.text i.instruction) refl (step_took lent own i.text i.instruction) (uses lent is)
  where
    of_noise : (j : Instruction) → i.instruction ≡ j → step_of lent own i.text i.instruction ≡ Step.spent → Uses lent (i ∷ is) own
    of_noise (Instruction.line l) e spent = let no : ◌≡◌ {A = ℕ} 0 1 = unfold step_of in cc in absurd (omega arith)
    of_noise (Instruction.noise n) e spent = uses_spent lent i is own n e spent

    go : (o : Step) → step_of lent own i.text i.instruction ≡ o → StepTook (λ m. step_of lent m i.text i.instruction) own o
        → ((mid : List ℕ) → Uses lent is mid) → Uses lent (i ∷ is) own
    go Step.spent e t ih = of_noise i.instruction refl e
    go (Step.lines ls mid) e t ih = unfold StepTook in uses_on lent i is own mid ls t (ih mid)

-- A job that stays within a list does the same whatever follows it, and leaves that.
pub record Stays (lent : Lent) (is : List Placed) (own : List ℕ) : Type 0 where
  pub rest : List ℕ
  pub left : (more : List ℕ) → left_after lent is (own ++ more) ≡ rest ++ more
  pub same : (more : List ℕ) → settle lent is (own ++ more) ≡ settle lent is own

pub stays : (lent : Lent) (is : List Placed) (own : List ℕ) → ((k : ℕ) (s : SpentAt lent own is k) → s.noise.correlation ≡ none → ⊥) → Stays lent is own
stays lent is own w = go (uses lent is own)
  where
    go : Uses lent is own → Stays lent is own
    go (Uses.within rest left same) = record { rest = rest; left = left; same = same }
    go (Uses.past k s corr less) = absurd (w k s corr)

-- How many words are taken of the own ones is the same, whatever follows them.
pub own_taken : (lent : Lent) (is : List Placed) (own more other : List ℕ)
    → min (length (own ++ more) - length (left_after lent is (own ++ more))) (length own)
    ≡ min (length (own ++ other) - length (left_after lent is (own ++ other))) (length own)
own_taken lent is own more other = go (uses lent is own)
  where
    long : length (own ++ more) ≡ length own + length more
    long = length-append own more

    also : length (own ++ other) ≡ length own + length other
    also = length-append own other

    go : Uses lent is own
        → min (length (own ++ more) - length (left_after lent is (own ++ more))) (length own)
        ≡ min (length (own ++ other) - length (left_after lent is (own ++ other))) (length own)
    go (Uses.within rest left same) =
        let a : length (left_after lent is (own ++ more)) ≡ length rest + length more = ap length (left more) ∙ length-append rest more in
        let b : length (left_after lent is (own ++ other)) ≡ length rest + length other = ap length (left other) ∙ length-append rest other in
        omega (arith, a, b, long, also)
    go (Uses.past k s corr less) = omega (arith, (less more).few, (less other).few, long, also)

-- ---- what is taken

module _ (lent : Lent) (is : List Placed) (words : List ℕ) where
  abbrev left : List ℕ
  left = left_after lent is words

  -- how many words a job takes
  abbrev pub taken : ℕ
  taken = length words - length left

  abbrev used : List ℕ
  used = (left_suffix lent is words).used

  whole : words ≡ used ++ left
  whole = (left_suffix lent is words).whole

  pub taken_used : take taken words ≡ used
  taken_used =
      let long : length words ≡ length used + length left = ap length whole ∙ length-append used left in
      let n : taken ≡ length used = omega (arith, long) in
      ap (λ (k : ℕ). take k words) n ∙ ap (take (length used)) whole ∙ take-append_seam used left

  -- They are enough: of these words alone the job makes what it makes of all.
  pub taken_enough : settle lent is (take taken words) ≡ settle lent is words
  taken_enough = ap (settle lent is) taken_used ∙ go (uses lent is used)
    where
      go : Uses lent is used → settle lent is used ≡ settle lent is words
      go (Uses.within rest after same) = sym (same left) ∙ ap (settle lent is) (sym whole)
      go (Uses.past k s corr less) =
          let all : left_after lent is (used ++ left) ≡ left = ap (left_after lent is) (sym whole) in
          let nothing : left ≡ [] = sym all ∙ (less left).none_left (ap length all) in
          ap (settle lent is) (sym (append-nil used) ∙ ap (λ (l : List ℕ). used ++ l) (sym nothing) ∙ sym whole)

  -- And each is needed: of fewer words a noise line needs one of the main list past their end.
  pub taken_needed : (n : ℕ) → n < taken → (k : ℕ) × (s : SpentAt lent (take n words) is k) × (s.noise.correlation ≡ none)
  taken_needed n few = go (uses lent is (take n words))
    where
      go : Uses lent is (take n words) → (k : ℕ) × (s : SpentAt lent (take n words) is k) × (s.noise.correlation ≡ none)
      go (Uses.within rest after same) =
          let all : left ≡ rest ++ drop n words = ap (left_after lent is) (sym (take-append-drop n words)) ∙ after (drop n words) in
          let long : length left ≡ length rest + length (drop n words) = ap length all ∙ length-append rest (drop n words) in
          absurd (omega (arith, few, long, length-drop n words))
      go (Uses.past k s corr less) = (k, s, corr)

-- ---- by execution in place

module _ (h : Header) (lent : Lent) (i : Placed) (is : List Placed) (main : List ℕ) (states : States) where
  pub left_went : (t : States) (left : List ℕ) → execute_one h lent main i.instruction states ≡ Executed.done t left
      → left_after lent is left ≡ left_after lent (i ∷ is) main
  unfolding left_after left_then on_step
  left_went t left e = go (step_of lent main i.text i.instruction) (sym (one_settled h lent main i.text i.instruction states) ∙ e)
    where
      go : (o : Step) → on_step h states o ≡ Executed.done t left → left_after lent is left ≡ left_then i.instruction main o (left_after lent is)
      go Step.spent f = let no : ◌≡◌ {A = ℕ} 0 1 = cc in absurd (omega arith)
      go (Step.lines ls mid) f = let same : mid ≡ left = cc in rw same

  pub left_stopped : execute_one h lent main i.instruction states ≡ Executed.spent → left_spent i.instruction main ≡ left_after lent (i ∷ is) main
  unfolding left_after left_then on_step
  left_stopped e = go (step_of lent main i.text i.instruction) (sym (one_settled h lent main i.text i.instruction states) ∙ e)
    where
      go : (o : Step) → on_step h states o ≡ Executed.spent → left_spent i.instruction main ≡ left_then i.instruction main o (left_after lent is)
      go Step.spent f = refl
      go (Step.lines ls mid) f = let no : ◌≡◌ {A = ℕ} 0 1 = cc in absurd (omega arith)

-- ---- where draws are spent

-- behind instructions that settle
left_append : (lent : Lent) (before after : List Placed) (main : List ℕ) (ls : List SettledLine) → settle lent before main ≡ Settled.settled ls
    → left_after lent (before ++ after) main ≡ left_after lent after (main_left lent main before)
unfolding left_after main_left settle
left_append lent [] after main ls e = refl
left_append lent (i ∷ before) after main ls e = go (step_of lent main i.text i.instruction) refl (λ mid ms. left_append lent before after mid ms)
  where
    go : (o : Step) → step_of lent main i.text i.instruction ≡ o
        → ((mid : List ℕ) (ms : List SettledLine) → settle lent before mid ≡ Settled.settled ms → left_after lent (before ++ after) mid ≡ left_after lent after (main_left lent mid before))
        → left_then i.instruction main o (left_after lent (before ++ after)) ≡ left_after lent after (main_left lent (left_by main o) before)
    go Step.spent d ih = let no : ◌≡◌ {A = ℕ} 0 1 = unfold settle_then in cc in absurd (omega arith)
    go (Step.lines ks mid) d ih = unfold left_then left_by in ih_on (settle lent before mid) refl
      where
        ih_on : (o : Settled) → settle lent before mid ≡ o → left_after lent (before ++ after) mid ≡ left_after lent after (main_left lent mid before)
        ih_on (Settled.spent_at k) f = let no : ◌≡◌ {A = ℕ} 0 1 = unfold settle_then prefixed in cc in absurd (omega arith)
        ih_on (Settled.settled ms) f = ih mid ms f

-- A word of the main list was needed: all are used up. One of the second: the main list is as the lines before left it.
pub left_spent_lem : {lent : Lent} {main : List ℕ} {is : List Placed} {k : ℕ} (s : SpentAt lent main is k)
    → left_after lent is main ≡ spent_on s.noise.correlation (main_left lent main s.before)
unfolding left_after left_then left_spent
left_spent_lem {lent} {main} s =
    let left = main_left lent main s.before in
    let stops : step_of lent left s.here.text s.here.instruction ≡ Step.spent =
    ap (λ (i : Instruction). step_of lent left s.here.text i) s.is_noise ∙ step_spent lent left s.here.text s.noise refl s.spent in
    ap (λ (l : List Placed). left_after lent l main) s.list ∙ left_append lent s.before (s.here ∷ s.after) main s.lines s.settles
    ∙ rw (stops, s.is_noise) refl
