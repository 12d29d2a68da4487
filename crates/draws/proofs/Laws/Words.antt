-- Laws: which words are read. What a choice, a shot, a noise line, an instruction or a job reads is a beginning of its list, and what comes after
-- that beginning has no influence; so draws are spent only where each longer list is read past the end of this one. Assumes nothing.
use Rattle.std.specs.Prelude.{◌≡◌, refl, Bool, false, cond, ◌&&◌, List, [], ◌∷◌, ◌++◌, map, ℕ, zero, suc, ◌+◌, ◌%◌, ◌<◌, ◌≤◌, ltb, length, take, drop, Float}
use Rattle.std.proofs.Common.{sym, ◌∙◌, append_assoc, append-nil, not-suc-le-zero, arith, length-append, take-append-drop}
use Rattle.std.proofs.Math.Path.{ap, subst}
use Rattle.std.proofs.Math.Bool.{true}
use Rattle.std.proofs.Math.Option.{Option, none, some}
use Rattle.std.proofs.Math.Decide.{dec_lt}
use Rattle.std.proofs.Math.Seq.{drop-append_seam, take-append_seam}
use Rattle.std.proofs.lemmas.List.{take-append-le}
use Rattle.std.specs.Float.Ieee.{le}
use Rattle.pauli.specs.Bits.{Bits}
use Rattle.job.specs.Line.{Line, Distribution, size_of, Noise, Instruction}
use Rattle.job.specs.Float.{float, zero_float}
use Rattle.draws.specs.Draws.{falls, Choice, limit_of, bounded, by_weight, choose_from, is_satisfied, ShotDraw, fault_of, draw_shot_of, Lent, Fault, Draws, also_fault, then_shots, draw_shots, draw_line, part_of, main_after}
use Rattle.draws.specs.Settle.{SettledLine, injection, Step, noise_step, step_of}

-- ---- a beginning of the list is read

-- From the list ws the reader f comes to `done left`: it reads the words `used`, with which ws begins, and whatever follows them is left.
pub record Took {O : Type 0} (f done : List ℕ → O) (ws left : List ℕ) : Type 0 where
  pub used : List ℕ
  pub whole : ws ≡ used ++ left
  pub alone : (vs : List ℕ) → f (used ++ vs) ≡ done vs

module _ {O : Type 0} {f done : List ℕ → O} {ws left : List ℕ} (t : Took f done ws left) where
  -- more words change nothing
  pub took_more : (vs : List ℕ) → f (ws ++ vs) ≡ done (left ++ vs)
  took_more vs = ap (λ (l : List ℕ). f (l ++ vs)) t.whole ∙ ap f (append_assoc t.used left vs) ∙ t.alone (left ++ vs)

  -- what is left is a suffix of what was there
  pub took_suffix : left ≡ drop (length t.used) ws
  took_suffix = rw t.whole (sym (drop-append_seam t.used left))

  pub took_length : length t.used + length left ≡ length ws
  took_length = rw t.whole (sym (length-append t.used left))

-- Where f does not come to `done` on ws, then on a longer list it does so only by reading past ws.
pub took_past : {O : Type 0} (f done : List ℕ → O) (ws vs left : List ℕ)
    → ((rest : List ℕ) → f ws ≡ done rest → ⊥) → Took f done (ws ++ vs) left → length left < length vs
took_past f done ws vs left never t = go (dec_lt (length left) (length vs))
  where
    within : length t.used ≤ length ws → ws ≡ t.used ++ drop (length t.used) ws
    within h =
        sym (take-append-drop (length t.used) ws)
        ∙ ap (λ (l : List ℕ). l ++ drop (length t.used) ws)
        (sym (take-append-le (length t.used) ws vs h) ∙ ap (take (length t.used)) t.whole ∙ take-append_seam t.used left)

    go : Dec (length left < length vs) → length left < length vs
    go (yes h) = h
    go (no h) =
        let lengths : length t.used + length left ≡ length ws + length vs = took_length t ∙ length-append ws vs in
        let short : length t.used ≤ length ws = omega (arith, h) in
        absurd (never (drop (length t.used) ws) (ap f (within short) ∙ t.alone (drop (length t.used) ws)))

-- nothing is read
took_none : {O : Type 0} {f done : List ℕ → O} (ws : List ℕ) → ((vs : List ℕ) → f vs ≡ done vs) → Took f done ws ws
took_none ws e = record { used = []; whole = refl; alone = e }

-- a word is read, and then the rest as another reader does
took_word : {O : Type 0} {f g done : List ℕ → O} {ws left : List ℕ} (w : ℕ) → ((vs : List ℕ) → g (w ∷ vs) ≡ f vs) → Took f done ws left
    → Took g done (w ∷ ws) left
took_word w e t = record { used = w ∷ t.used; whole = ap (λ (l : List ℕ). w ∷ l) t.whole; alone = λ vs. e (t.used ++ vs) ∙ t.alone vs }

-- what is made of it
took_map : {O P : Type 0} {f done : List ℕ → O} {ws left : List ℕ} (k : O → P) → Took f done ws left
    → Took (λ vs. k (f vs)) (λ vs. k (done vs)) ws left
took_map k t = record { used = t.used; whole = t.whole; alone = λ vs. ap k (t.alone vs) }

-- one reader, and then another from what the first one left
took_then : {M O P : Type 0} {f mid : List ℕ → M} {g done : List ℕ → O} {h : List ℕ → P} (k : O → P) {ws vs left : List ℕ}
    → ((us rest : List ℕ) → f us ≡ mid rest → h us ≡ k (g rest)) → Took f mid ws vs → Took g done vs left → Took h (λ rest. k (done rest)) ws left
took_then {h = h} k {left = left} e t u =
    record {
      used = t.used ++ u.used;
      whole = t.whole ∙ ap (λ (l : List ℕ). t.used ++ l) u.whole ∙ sym (append_assoc t.used u.used left);
      alone =
          λ rest.
          ap h (append_assoc t.used u.used rest)
          ∙ e (t.used ++ (u.used ++ rest)) (u.used ++ rest) (t.alone (u.used ++ rest))
          ∙ ap k (u.alone rest);
    }

-- ---- a choice

-- what a choice that was made has read
unfoldable pub ChoiceTook : (List ℕ → Choice) → List ℕ → Choice → Type 0
ChoiceTook f ws Choice.spent = Unit
ChoiceTook f ws (Choice.chosen e left) = Took f (Choice.chosen e) ws left

bounded_took : (c : ℕ) (ws : List ℕ) → ChoiceTook (bounded c) ws (bounded c ws)
unfolding bounded ChoiceTook
bounded_took c [] = tt
bounded_took c (w ∷ ws) = go (ltb w (limit_of c)) refl (bounded c ws) (bounded_took c ws)
  where
    go : (b : Bool) → ltb w (limit_of c) ≡ b → (o : Choice) → ChoiceTook (bounded c) ws o
        → ChoiceTook (bounded c) (w ∷ ws) (cond b (Choice.chosen (w % c) ws) o)
    go true e o t = record { used = w ∷ []; whole = refl; alone = λ vs. rw e }
    go false e Choice.spent t = tt
    go false e (Choice.chosen a left) t = took_word w (λ vs. rw e) t

weight_took : (place : Float → ℕ) (ws : List ℕ) → ChoiceTook (by_weight place) ws (by_weight place ws)
unfolding by_weight ChoiceTook
weight_took place [] = tt
weight_took place (w ∷ ws) = record { used = w ∷ []; whole = refl; alone = λ vs. refl }

pub choice_took : (d : Distribution) (ws : List ℕ) → ChoiceTook (choose_from d) ws (choose_from d ws)
unfolding choose_from ChoiceTook
choice_took (Distribution.single P) ws = took_none ws (λ vs. refl)
choice_took (Distribution.depolarizing qs) ws = bounded_took (size_of (Distribution.depolarizing qs)) ws
choice_took (Distribution.uniform Ps) ws = bounded_took (size_of (Distribution.uniform Ps)) ws
choice_took (Distribution.weighted es) ws = weight_took _ ws

-- ---- a shot

unfoldable pub ShotTook : (List ℕ → ShotDraw) → List ℕ → ShotDraw → Type 0
ShotTook f ws ShotDraw.spent = Unit
ShotTook f ws (ShotDraw.drew o left) = Took f (ShotDraw.drew o) ws left

pub shot_took : (n : Noise) (bits : Bits) (ws : List ℕ) → ShotTook (draw_shot_of n bits) ws (draw_shot_of n bits ws)
unfolding draw_shot_of ShotTook
shot_took n bits [] = tt
shot_took n bits (w ∷ ws) =
    go (falls w (float n.probability) && is_satisfied n.condition bits) refl (choose_from n.distribution ws) (choice_took n.distribution ws)
  where
    go : (b : Bool) → (falls w (float n.probability) && is_satisfied n.condition bits) ≡ b
        → (o : Choice) → ChoiceTook (choose_from n.distribution) ws o
        → ShotTook (draw_shot_of n bits) (w ∷ ws) (cond b (fault_of o) (ShotDraw.drew none ws))
    go false e o t = record { used = w ∷ []; whole = refl; alone = λ vs. rw e }
    go true e Choice.spent t = unfold fault_of in tt
    go true e (Choice.chosen a left) t = unfold fault_of ChoiceTook in took_word w (λ vs. rw e) (took_map fault_of t)

-- ---- a noise line

unfoldable pub DrawsTook : (List ℕ → Draws) → List ℕ → Draws → Type 0
DrawsTook f ws Draws.spent = Unit
DrawsTook f ws (Draws.drawn fs left) = Took f (Draws.drawn fs) ws left

then_quiet : (shot : ℕ) (later : List ℕ → Draws) {o : ShotDraw} {ws : List ℕ} → o ≡ ShotDraw.drew none ws → then_shots shot o later ≡ later ws
unfolding then_shots
then_quiet shot later e = rw e

then_fault : (shot : ℕ) (later : List ℕ → Draws) {o : ShotDraw} {e : ℕ} {ws : List ℕ} → o ≡ ShotDraw.drew (some e) ws
    → then_shots shot o later ≡ also_fault record { shot = shot; element = e } (later ws)
unfolding then_shots
then_fault shot later e = rw e

pub shots_took : (lent : Lent) (n : Noise) (count shot : ℕ) (ws : List ℕ)
    → DrawsTook (draw_shots lent n count shot) ws (draw_shots lent n count shot ws)
unfolding draw_shots DrawsTook
shots_took lent n zero shot ws = took_none ws (λ vs. refl)
shots_took lent n (suc count) shot ws = go (first ws) (shot_took n (λ id. lent.noiseless id shot) ws) (shots_took lent n count (suc shot))
  where
    first : List ℕ → ShotDraw
    first = draw_shot_of n (λ id. lent.noiseless id shot)

    later : List ℕ → Draws
    later = draw_shots lent n count (suc shot)

    both : List ℕ → Draws
    both vs = then_shots shot (first vs) later

    quiet : (vs : List ℕ) → Took first (ShotDraw.drew none) ws vs → (o : Draws) → DrawsTook later vs o → DrawsTook both ws o
    quiet vs t Draws.spent u = tt
    quiet vs t (Draws.drawn fs left) u = unfold DrawsTook in took_then (λ (o : Draws). o) (λ us rest e. then_quiet shot later e) t u

    fault : (e : ℕ) (vs : List ℕ) → Took first (ShotDraw.drew (some e)) ws vs → (o : Draws) → DrawsTook later vs o
        → DrawsTook both ws (also_fault record { shot = shot; element = e } o)
    fault e vs t Draws.spent u = unfold also_fault in tt
    fault e vs t (Draws.drawn fs left) u =
        unfold DrawsTook also_fault in
        took_then (also_fault record { shot = shot; element = e }) (λ us rest h. then_fault shot later h) t u

    go : (o : ShotDraw) → ShotTook first ws o → ((vs : List ℕ) → DrawsTook later vs (later vs)) → DrawsTook both ws (then_shots shot o later)
    go ShotDraw.spent t ih = unfold then_shots in tt
    go (ShotDraw.drew none vs) t ih = unfold then_shots ShotTook in quiet vs t (later vs) (ih vs)
    go (ShotDraw.drew (some e) vs) t ih = unfold then_shots ShotTook in fault e vs t (later vs) (ih vs)

pub line_took : (lent : Lent) (n : Noise) (ws : List ℕ) → DrawsTook (draw_line lent n) ws (draw_line lent n ws)
unfolding draw_line DrawsTook
line_took lent n ws = go (le (float n.probability) zero_float) (shots_took lent n lent.shots 0 ws)
  where
    all : List ℕ → Draws
    all = draw_shots lent n lent.shots 0

    go : (b : Bool) → DrawsTook all ws (all ws) → DrawsTook (λ vs. cond b (Draws.drawn [] vs) (all vs)) ws (cond b (Draws.drawn [] ws) (all ws))
    go true t = took_none ws (λ vs. refl)
    go false t = t

module _ (lent : Lent) (n : Noise) (ws : List ℕ) where
  pub drawn_took : (fs : List Fault) (left : List ℕ) → draw_line lent n ws ≡ Draws.drawn fs left → Took (draw_line lent n) (Draws.drawn fs) ws left
  unfolding DrawsTook
  drawn_took fs left e = subst (DrawsTook (draw_line lent n) ws) e (line_took lent n ws)

  -- Draws are spent exactly where each longer list that is drawn from is read past the end of this one.
  pub spent_past : draw_line lent n ws ≡ Draws.spent → (vs : List ℕ) (fs : List Fault) (left : List ℕ)
      → draw_line lent n (ws ++ vs) ≡ Draws.drawn fs left
      → length left < length vs
  spent_past s vs fs left e = took_past (draw_line lent n) (Draws.drawn fs) ws vs left never longer
    where
      never : (rest : List ℕ) → draw_line lent n ws ≡ Draws.drawn fs rest → ⊥
      never rest d = let no : ◌≡◌ {A = ℕ} 0 1 = cc in omega arith

      longer : Took (draw_line lent n) (Draws.drawn fs) (ws ++ vs) left
      longer = unfold DrawsTook in subst (DrawsTook (draw_line lent n) (ws ++ vs)) e (line_took lent n (ws ++ vs))

  pub past_spent : ((vs : List ℕ) (fs : List Fault) (left : List ℕ) → draw_line lent n (ws ++ vs) ≡ Draws.drawn fs left → length left < length vs)
      → draw_line lent n ws ≡ Draws.spent
  past_spent past = go (draw_line lent n ws) refl
    where
      go : (o : Draws) → draw_line lent n ws ≡ o → draw_line lent n ws ≡ Draws.spent
      go Draws.spent e = e
      go (Draws.drawn fs left) e = absurd (not-suc-le-zero (past [] fs left (ap (draw_line lent n) (append-nil ws) ∙ e)))

-- ---- an instruction

module _ (lent : Lent) (main text : List ℕ) (n : Noise) {c : Option ℕ} (corr : n.correlation ≡ c) where
  pub step_spent : draw_line lent n (part_of lent c main) ≡ Draws.spent → step_of lent main text (Instruction.noise n) ≡ Step.spent
  unfolding step_of noise_step
  step_spent e = ap (noise_step n main) (ap (λ (k : Option ℕ). draw_line lent n (part_of lent k main)) corr ∙ e)

  pub step_drawn : (fs : List Fault) (left : List ℕ) → draw_line lent n (part_of lent c main) ≡ Draws.drawn fs left
      → step_of lent main text (Instruction.noise n) ≡ Step.lines (map (injection n.distribution) fs) (main_after c main left)
  unfolding step_of noise_step
  step_drawn fs left e =
      ap (noise_step n main) (ap (λ (k : Option ℕ). draw_line lent n (part_of lent k main)) corr ∙ e)
      ∙ ap (λ (k : Option ℕ). Step.lines (map (injection n.distribution) fs) (main_after k main left)) corr

unfoldable pub StepTook : (List ℕ → Step) → List ℕ → Step → Type 0
StepTook f ws Step.spent = Unit
StepTook f ws (Step.lines ls left) = Took f (Step.lines ls) ws left

noise_took : (lent : Lent) (main text : List ℕ) (n : Noise)
    → StepTook (λ m. step_of lent m text (Instruction.noise n)) main (step_of lent main text (Instruction.noise n))
unfolding StepTook DrawsTook part_of main_after
noise_took lent main text n = which n.correlation refl
  where
    step : List ℕ → Step
    step m = step_of lent m text (Instruction.noise n)

    from_main : n.correlation ≡ none → (o : Draws) → draw_line lent n main ≡ o → DrawsTook (draw_line lent n) main o → StepTook step main (step main)
    from_main c Draws.spent e t = rw (step_spent lent main text n c e) tt
    from_main c (Draws.drawn fs left) e t =
        rw (step_drawn lent main text n c fs left e)
        (record { used = t.used; whole = t.whole; alone = λ vs. step_drawn lent (t.used ++ vs) text n c fs vs (t.alone vs) })

    from_second : (p : ℕ) → n.correlation ≡ some p → (o : Draws) → draw_line lent n (part_of lent (some p) main) ≡ o → StepTook step main (step main)
    from_second p c Draws.spent e = rw (step_spent lent main text n c e) tt
    from_second p c (Draws.drawn fs left) e =
        rw (step_drawn lent main text n c fs left e) (took_none main (λ vs. step_drawn lent vs text n c fs left e))

    which : (c : Option ℕ) → n.correlation ≡ c → StepTook step main (step main)
    which none c = from_main c (draw_line lent n main) refl (line_took lent n main)
    which (some p) c = from_second p c (draw_line lent n (part_of lent (some p) main)) refl

pub step_took : (lent : Lent) (main text : List ℕ) (i : Instruction) → StepTook (λ m. step_of lent m text i) main (step_of lent main text i)
step_took lent main text (Instruction.line l) = unfold step_of StepTook in took_none main (λ vs. refl)
step_took lent main text (Instruction.noise n) = noise_took lent main text n

-- The main list is read by noise without corr alone, and there it is read on.
pub main_read : (lent : Lent) (main text : List ℕ) (n : Noise) (ls : List SettledLine) (left : List ℕ) → n.correlation ≡ none
    → step_of lent main text (Instruction.noise n) ≡ Step.lines ls left
    → (fs : List Fault) × (draw_line lent n main ≡ Draws.drawn fs left) × (ls ≡ map (injection n.distribution) fs)
unfolding part_of main_after
main_read lent main text n ls left c e = go (draw_line lent n main) refl
  where
    go : (o : Draws) → draw_line lent n main ≡ o
        → (fs : List Fault) × (draw_line lent n main ≡ Draws.drawn fs left) × (ls ≡ map (injection n.distribution) fs)
    go Draws.spent d = let no : ◌≡◌ {A = ℕ} 0 1 = cc (step_spent lent main text n c d) in absurd (omega arith)
    go (Draws.drawn fs rest) d =
        let same : rest ≡ left = cc (step_drawn lent main text n c fs rest d) in
        (fs, d ∙ ap (Draws.drawn fs) same, cc (step_drawn lent main text n c fs rest d))

pub main_kept : (lent : Lent) (main text : List ℕ) (n : Noise) (ls : List SettledLine) (left : List ℕ) (p : ℕ) → n.correlation ≡ some p
    → step_of lent main text (Instruction.noise n) ≡ Step.lines ls left → left ≡ main
unfolding main_after
main_kept lent main text n ls left p c e = go (draw_line lent n (part_of lent (some p) main)) refl
  where
    go : (o : Draws) → draw_line lent n (part_of lent (some p) main) ≡ o → left ≡ main
    go Draws.spent d = cc (step_spent lent main text n c d)
    go (Draws.drawn fs rest) d = cc (step_drawn lent main text n c fs rest d)

pub line_kept : (lent : Lent) (main text : List ℕ) (l : Line) (ls : List SettledLine) (left : List ℕ)
    → step_of lent main text (Instruction.line l) ≡ Step.lines ls left → left ≡ main
unfolding step_of
line_kept lent main text l ls left e = cc
