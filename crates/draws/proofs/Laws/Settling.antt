-- Laws: execution with the noise in place does in every shot what the settled list does, line by line. Assumes nothing.
use Rattle.std.specs.Prelude.{◌≡◌, Bool, true, false, cond, List, [], ◌∷◌, ◌++◌, map, ℕ, zero, suc}
use Rattle.std.proofs.Math.Path.{refl, fun_ext}
use Rattle.std.proofs.Common.{sym, ap, ◌∙◌, arith}
use Rattle.std.proofs.Math.Option.{none, some}
use Rattle.std.specs.Float.Ieee.{le}
use Rattle.job.specs.declared.Header.{Header}
use Rattle.job.specs.Line.{Line, Distribution, Noise, Instruction, Placed}
use Rattle.job.specs.Float.{float, zero_float}
use Rattle.frames.specs.Forward.{Setting, State, setting_of, forward, run}
use Rattle.draws.specs.Draws.{Lent, Fault, ShotDraw, Draws, draw_shot_of, also_fault, then_shots, draw_shots, draw_line, part_of}
use Rattle.draws.specs.Settle.{SettledLine, injection, Step, noise_step, step_of, Settled, prefixed, settle_then, settle, settled_list}
use Rattle.draws.specs.Execute.{States, forward_all, Executed, then_in_place, inject_shots, inject_noise, on_main, execute_one, Ended, execute_then, execute}
use Rattle.draws.specs.Known.{run_all, on_settled}

-- ---- one list of lines after another

pub run_append : (c : Setting) (ls ms : List Line) (s : State) → run c (ls ++ ms) s ≡ run c ms (run c ls s)
unfolding run
run_append c [] ms s = refl
run_append c (l ∷ ls) ms s = run_append c ls ms (forward c l s)

pub settled_list_append : (ls ms : List SettledLine) → settled_list (ls ++ ms) ≡ settled_list ls ++ settled_list ms
settled_list_append [] ms = refl
settled_list_append (l ∷ ls) ms = ap (λ (ks : List Line). l.line ∷ ks) (settled_list_append ls ms)

-- ---- what faults, the lines of an instruction and a settled list do

run_all_append : (h : Header) (ls ms : List Line) (states : States) → run_all h (ls ++ ms) states ≡ run_all h ms (run_all h ls states)
unfolding run_all
run_all_append h ls ms states = fun_ext (λ s. run_append (setting_of h s) ls ms (states s))

unfoldable on_draws : Header → Distribution → States → Draws → Executed
on_draws h d states Draws.spent = Executed.spent
on_draws h d states (Draws.drawn fs left) = Executed.done (run_all h (settled_list (map (injection d) fs)) states) left

unfoldable pub on_step : Header → States → Step → Executed
on_step h states Step.spent = Executed.spent
on_step h states (Step.lines ls left) = Executed.done (run_all h (settled_list ls) states) left

-- ---- a noise line

on_also : (h : Header) (d : Distribution) (states : States) (f : Fault) (o : Draws)
    → on_draws h d (forward_all h (injection d f).line states) o ≡ on_draws h d states (also_fault f o)
unfolding on_draws also_fault injection run_all run forward_all
on_also h d states f Draws.spent = refl
on_also h d states f (Draws.drawn fs left) = refl

shots_settled : (h : Header) (lent : Lent) (n : Noise) (left shot : ℕ) (ws : List ℕ) (states : States)
    → inject_shots h lent n left shot ws states ≡ on_draws h n.distribution states (draw_shots lent n left shot ws)
unfolding inject_shots draw_shots on_draws run_all run forward_all
shots_settled h lent n zero shot ws states = refl
shots_settled h lent n (suc left) shot ws states = go (draw_shot_of n (λ id. lent.noiseless id shot) ws) (shots_settled h lent n left (suc shot))
  where
    later : List ℕ → Draws
    later = draw_shots lent n left (suc shot)

    go : (o : ShotDraw) → ((vs : List ℕ) (t : States) → inject_shots h lent n left (suc shot) vs t ≡ on_draws h n.distribution t (later vs))
        → then_in_place h n shot o states (inject_shots h lent n left (suc shot)) ≡ on_draws h n.distribution states (then_shots shot o later)
    go ShotDraw.spent ih = unfold then_in_place then_shots in refl
    go (ShotDraw.drew none vs) ih = unfold then_in_place then_shots in ih vs states
    go (ShotDraw.drew (some e) vs) ih =
        let f : Fault = record { shot = shot; element = e } in
        unfold then_in_place then_shots injection in (ih vs _ ∙ on_also h n.distribution states f (later vs))

line_settled : (h : Header) (lent : Lent) (n : Noise) (ws : List ℕ) (states : States)
    → inject_noise h lent n ws states ≡ on_draws h n.distribution states (draw_line lent n ws)
unfolding inject_noise draw_line on_draws run_all run forward_all
line_settled h lent n ws states = go (le (float n.probability) zero_float)
  where
    go : (b : Bool)
        → cond b (Executed.done states ws) (inject_shots h lent n lent.shots 0 ws states)
        ≡ on_draws h n.distribution states (cond b (Draws.drawn [] ws) (draw_shots lent n lent.shots 0 ws))
    go true = refl
    go false = shots_settled h lent n lent.shots 0 ws states

-- ---- an instruction

noise_settled : (h : Header) (n : Noise) (main : List ℕ) (states : States) (o : Draws)
    → on_main n.correlation main (on_draws h n.distribution states o) ≡ on_step h states (noise_step n main o)
unfolding on_main on_draws on_step noise_step
noise_settled h n main states Draws.spent = refl
noise_settled h n main states (Draws.drawn fs left) = refl

pub one_settled : (h : Header) (lent : Lent) (main text : List ℕ) (i : Instruction) (states : States)
    → execute_one h lent main i states ≡ on_step h states (step_of lent main text i)
unfolding execute_one step_of
one_settled h lent main text (Instruction.line l) states = unfold on_step run_all run forward_all in refl
one_settled h lent main text (Instruction.noise n) states =
    let part = part_of lent n.correlation main in
    ap (on_main n.correlation main) (line_settled h lent n part states) ∙ noise_settled h n main states (draw_line lent n part)

-- ---- a job

on_prefixed : (h : Header) (states : States) (ls : List SettledLine) (o : Settled)
    → on_settled h (run_all h (settled_list ls) states) o ≡ on_settled h states (prefixed ls o)
unfolding on_settled prefixed
on_prefixed h states ls (Settled.spent_at k) = refl
on_prefixed h states ls (Settled.settled ms) = ap Ended.ended (rw (settled_list_append ls ms) (sym (run_all_append h (settled_list ls) (settled_list ms) states)))

-- Execution with the noise in place is execution of the settled list.
pub execute_settle : (h : Header) (lent : Lent) (is : List Placed) (main : List ℕ) (states : States)
    → execute h lent is main states ≡ on_settled h states (settle lent is main)
unfolding execute settle
execute_settle h lent [] main states = unfold on_settled run_all run in refl
execute_settle h lent (i ∷ is) main states =
    ap (λ (o : Executed). execute_then i.line o (execute h lent is)) (one_settled h lent main i.text i.instruction states)
    ∙ go (step_of lent main i.text i.instruction) (execute_settle h lent is)
  where
    go : (o : Step) → ((left : List ℕ) (t : States) → execute h lent is left t ≡ on_settled h t (settle lent is left))
        → execute_then i.line (on_step h states o) (execute h lent is) ≡ on_settled h states (settle_then i.line o (settle lent is))
    go Step.spent ih = unfold execute_then on_step on_settled settle_then in refl
    go (Step.lines ls left) ih =
        unfold execute_then on_step settle_then in (ih left (run_all h (settled_list ls) states) ∙ on_prefixed h states ls (settle lent is left))

-- ---- how it ends

pub ended_apart : (k : ℕ) (states : States) → Ended.spent_at k ≡ Ended.ended states → ⊥
ended_apart k states e = let z : ◌≡◌ {A = ℕ} 0 1 = cc in omega arith

pub ended_same : (s t : States) → Ended.ended s ≡ Ended.ended t → s ≡ t
ended_same s t e = cc
