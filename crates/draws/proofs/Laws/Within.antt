-- Laws: the lines that stand for noise, and settling a job without noise. Assumes nothing.
use Rattle.std.specs.Prelude.{◌≡◌, Bool, true, ◌&&◌, List, [], ◌∷◌, ◌++◌, map, ℕ}
use Rattle.std.proofs.Math.Path.{refl}
use Rattle.std.proofs.Common.{sym, ap, ◌∙◌, subst, arith}
use Rattle.std.proofs.Math.Bool.{and_assoc}
use Rattle.std.proofs.Math.Dec.{ltb}
use Rattle.job.specs.Line.{Line, Distribution, Noise, Instruction, Placed}
use Rattle.job.specs.Checks.{all_below}
use Rattle.frames.specs.Shots.{concerns, within}
use Rattle.draws.specs.Draws.{Lent, Fault, Draws, draw_line, part_of}
use Rattle.draws.specs.Settle.{SettledLine, injection, Step, step_of, Settled, prefixed, settle_then, settle, settled_list}
use Rattle.draws.specs.Known.{shots_of, Injections, own_below_of, all_own_below, is_line, noise_free, copy_of, copies}
use Rattle.draws.proofs.Laws.Tests.{&&_first, &&_second}
use Rattle.draws.proofs.Laws.Words.{step_drawn, step_spent}
use Rattle.draws.proofs.Laws.Settling.{settled_list_append}
use Rattle.draws.proofs.Laws.Faults.{shots_below}

-- ---- what stands for noise

-- the injections of some faults
abbrev pub injected : Distribution → List Fault → List Line
injected d fs = settled_list (map (injection d) fs)

pub injected_below : (shots : ℕ) (d : Distribution) (fs : List Fault) → within (λ shot. ltb shot shots) (injected d fs) ≡ all_below shots (shots_of fs)
unfolding within all_below injection concerns
injected_below shots d [] = refl
injected_below shots d (f ∷ fs) = ap (λ (b : Bool). ltb f.shot shots && b) (injected_below shots d fs)

pub noise_injects : (lent : Lent) (main text : List ℕ) (n : Noise) (ls : List SettledLine) (left : List ℕ)
    → step_of lent main text (Instruction.noise n) ≡ Step.lines ls left → Injections lent n ls
noise_injects lent main text n ls left e = go (draw_line lent n (part_of lent n.correlation main)) refl
  where
    go : (o : Draws) → draw_line lent n (part_of lent n.correlation main) ≡ o → Injections lent n ls
    go Draws.spent d = let no : ◌≡◌ {A = ℕ} 0 1 = cc (step_spent lent main text n refl d) in absurd (omega arith)
    go (Draws.drawn fs rest) d =
        record {
          faults = fs;
          are = cc (step_drawn lent main text n refl fs rest d);
          below = shots_below lent n (part_of lent n.correlation main) fs rest d;
        }

-- ---- a job's lines

below_append : (shots : ℕ) (ls ms : List Line) → within (λ shot. ltb shot shots) (ls ++ ms) ≡ within (λ shot. ltb shot shots) ls && within (λ shot. ltb shot shots) ms
unfolding within
below_append shots [] ms = refl
below_append shots (l ∷ ls) ms =
    ap (λ (b : Bool). concerns (λ shot. ltb shot shots) l && b) (below_append shots ls ms)
    ∙ sym (and_assoc (concerns (λ shot. ltb shot shots) l) (within (λ shot. ltb shot shots) ls) (within (λ shot. ltb shot shots) ms))

step_within : (lent : Lent) (main text : List ℕ) (i : Instruction) (ls : List SettledLine) (left : List ℕ) → own_below_of lent.shots i ≡ true
    → step_of lent main text i ≡ Step.lines ls left → within (λ shot. ltb shot lent.shots) (settled_list ls) ≡ true
unfolding own_below_of
step_within lent main text (Instruction.line l) ls left b e =
    let own : record { line = l; text = text } ∷ [] ≡ ls = unfold step_of in cc in
    rw (← own) (unfold within in rw b)
step_within lent main text (Instruction.noise n) ls left b e =
    let s : Injections lent n ls = noise_injects lent main text n ls left e in
    ap (λ (l : List SettledLine). within (λ shot. ltb shot lent.shots) (settled_list l)) s.are
    ∙ injected_below lent.shots n.distribution s.faults
    ∙ s.below

unfoldable SettledBelow : ℕ → Settled → Type 0
SettledBelow shots (Settled.spent_at k) = Unit
SettledBelow shots (Settled.settled ls) = within (λ shot. ltb shot shots) (settled_list ls) ≡ true

-- the settled list acts in shots of the job
settle_below : (lent : Lent) (main : List ℕ) (is : List Placed) → all_own_below lent.shots is ≡ true
    → SettledBelow lent.shots (settle lent is main)
unfolding settle all_own_below
settle_below lent main [] b = unfold SettledBelow within in refl
settle_below lent main (i ∷ is) b =
    go (step_of lent main i.text i.instruction) refl (&&_first own rest b) (λ left. settle_below lent left is (&&_second own rest b))
  where
    own : Bool
    own = own_below_of lent.shots i.instruction

    rest : Bool
    rest = all_own_below lent.shots is

    joined : (ls : List SettledLine) → within (λ shot. ltb shot lent.shots) (settled_list ls) ≡ true → (o : Settled) → SettledBelow lent.shots o
        → SettledBelow lent.shots (prefixed ls o)
    joined ls h (Settled.spent_at k) r = unfold prefixed SettledBelow in tt
    joined ls h (Settled.settled ms) r =
        unfold prefixed SettledBelow in
        (ap (within (λ shot. ltb shot lent.shots)) (settled_list_append ls ms) ∙ below_append lent.shots (settled_list ls) (settled_list ms) ∙ rw (h, r))

    go : (o : Step) → step_of lent main i.text i.instruction ≡ o → own ≡ true → ((left : List ℕ) → SettledBelow lent.shots (settle lent is left))
        → SettledBelow lent.shots (settle_then i.line o (settle lent is))
    go Step.spent d f ih = unfold settle_then SettledBelow in tt
    go (Step.lines ls left) d f ih =
        unfold settle_then in
        joined ls (step_within lent main i.text i.instruction ls left f d) (settle lent is left) (ih left)

pub settle_within : (lent : Lent) (main : List ℕ) (is : List Placed) (ls : List SettledLine) → all_own_below lent.shots is ≡ true
    → settle lent is main ≡ Settled.settled ls → within (λ shot. ltb shot lent.shots) (settled_list ls) ≡ true
unfolding SettledBelow
settle_within lent main is ls b e = subst (SettledBelow lent.shots) e (settle_below lent main is b)

-- ---- a job without noise

-- it settles to itself, whatever is lent
pub settle_copies : (lent : Lent) (main : List ℕ) (is : List Placed) → noise_free is ≡ true → settle lent is main ≡ Settled.settled (copies is)
unfolding settle noise_free copies
settle_copies lent main [] f = refl
settle_copies lent main (i ∷ is) f =
    go i.instruction (&&_first (is_line i.instruction) (noise_free is) f)
    (settle_copies lent main is (&&_second (is_line i.instruction) (noise_free is) f))
  where
    go : (j : Instruction) → is_line j ≡ true → settle lent is main ≡ Settled.settled (copies is)
        → settle_then i.line (step_of lent main i.text j) (settle lent is) ≡ Settled.settled (copy_of i.text j (copies is))
    go (Instruction.line l) f ih =
        unfold settle_then step_of copy_of in (ap (prefixed (record { line = l; text = i.text } ∷ [])) ih ∙ (unfold prefixed in refl))
    go (Instruction.noise n) f ih = unfold is_line in cc
