-- Injections that are put one after the other. Laws. Assumes nothing.
use Rattle.std.proofs.Math.Path.{◌≡◌, sym, ap}
use Rattle.std.specs.Prelude.{refl, Result, Ok, Err, true, ℕ, ◌+◌, ◌-◌, ◌*◌, ◌^◌, ◌≤◌, ◌<◌, Float}
use Rattle.std.proofs.Common.{◌∙◌, length-drop, drop_of_length-le}
use Rattle.std.proofs.Math.Bool.{false}
use mathlib.Core.List.{List, [], ◌∷◌, ◌++◌, map, append_assoc, append-nil}
use Rattle.std.proofs.Math.Option.{Option, none, some}
use native.Mathlib.Omega.{arith}
use Rattle.std.specs.Float.Ieee.{le}
use Rattle.std.proofs.Math.ListN.{length, drop}
use Rattle.text.specs.Bytes.{LF, unlines}
use Rattle.pauli.specs.declared.Shot.{Shot}
use Rattle.job.specs.Line.{Distribution, size_of, Noise, Instruction}
use Rattle.job.specs.Float.{float, zero_float}
use Rattle.writer.specs.Placed.{Puts}
use Rattle.writer.specs.Laws.Placing.{puts_nothing, puts_more}
use Rattle.line_writer.specs.Laws.Lines.{inject_next}
use Rattle.draws.specs.Draws.{element_at, Lent, Fault, Draws, also_fault, draw_shots, draw_line, part_of, main_after}
use Rattle.draws.specs.Settle.{SettledLine, inject_text, injection, Step, noise_step, step_of}
use Rattle.draws.specs.Left.{spent_on, left_spent}
use Rattle.draws.proofs.Laws.SettledText.{element_sound}
use Rattle.noise.specs.declared.PauliDistribution.{PauliDistribution}
use Rattle.std.specs.Prelude.{Option as Given}
use Rattle.shots.specs.declared.NextFault.{NextFault}
use Rattle.shots.specs.declared.NextFault.TheVariants as next
use Rattle.noise.specs.Kinds.{correlation_of}
use Rattle.noise.specs.Words.{position_after_of}
use Rattle.noise.specs.Laws.Position.{main_after_lem, main_spent, position_within, position_fits}
use Rattle.shots.specs.Shots.{FaultFound}
use Rattle.shots.specs.Laws.Next.{draws_spent, draws_done, draws_at, done_within, at_below}
use Rattle.faults.specs.Laws.Drawn.{size_some}
use Rattle.noise_text.specs.declared.Drawn.{Drawn}
use Rattle.noise_text.specs.declared.Spent.{Spent}
use Rattle.noise_text.specs.Elements.{element_in, ElementIn}
use Rattle.noise_text.specs.Injections.{text_of, SpentTo, PutAs, StepPut, injected, Ready, ReadyOf}

-- ---- texts

pub text_append : (ls ms : List SettledLine) → text_of (ls ++ ms) ≡ text_of ls ++ text_of ms
unfolding unlines
text_append [] ms = refl
text_append (l ∷ ls) ms = rw (text_append ls ms) (sym (append_assoc l.text (LF ∷ text_of ls) (text_of ms)))

pub text_one : (l : SettledLine) → text_of (l ∷ []) ≡ l.text ++ LF ∷ []
unfolding unlines
text_one l = refl

map_append : {A B : Type 0} (f : A → B) (l m : List A) → map f (l ++ m) ≡ map f l ++ map f m
map_append f [] m = refl
map_append f (a ∷ l) m = ap (λ (r : List _). f a ∷ r) (map_append f l m)

-- ---- faults before others

unfoldable pub also_faults : List Fault → Draws → Draws
also_faults fs Draws.spent = Draws.spent
also_faults fs (Draws.drawn gs ws) = Draws.drawn (fs ++ gs) ws

also_none : (o : Draws) → o ≡ also_faults [] o
unfolding also_faults
also_none Draws.spent = refl
also_none (Draws.drawn gs ws) = refl

also_more : (fs : List Fault) (f : Fault) (o : Draws) → also_faults fs (also_fault f o) ≡ also_faults (fs ++ f ∷ []) o
unfolding also_faults also_fault
also_more fs f Draws.spent = refl
also_more fs f (Draws.drawn gs ws) = ap (λ (l : List Fault). Draws.drawn l ws) (sym (append_assoc fs (f ∷ []) gs))

-- ---- an element

module _ {p : Float} {d : PauliDistribution} {sums : List Float} {mask elements : List ℕ} {shots : ℕ} (q : Ready p d sums mask elements shots) where
  abbrev D : Distribution
  D = q.noise.distribution

  -- the next fault
  module _ {words : List ℕ} {at shot : ℕ} {r : NextFault} (found : FaultFound words at mask shot shots p d sums r) (here : shot ≤ shots) where
    below : (s : Shot) (e i : ℕ) → r ≡ next.At s e i → e < size_of D
    below s e i k = at_below found here q.stands q.lent q.fits q.satisfied s e i k (size_some q.qubits D q.sound)

    pub element_inside : (s : Shot) (e i : ℕ) → r ≡ next.At s e i → ElementIn d elements e
    element_inside s e i k = q.inside e (below s e i k)

    -- how far its injection goes
    pub element_next : (s : Shot) (e i : ℕ) → r ≡ next.At s e i → {place after : ℕ} {out mid : List ℕ} → Puts place (inject_text s.0 (element_in d elements e) ++ LF ∷ []) out mid after
        → after ≤ place + 1342
    unfolding inject_text
    element_next s e i k puts =
        let P = element_at D e in
        let sound = element_sound q.qubits D q.sound e in
        let goes = inject_next s.0 P.x P.z (rw (q.held e (below s e i k)) at puts) in
        omega (arith, goes, sound.x.few, sound.z.few)

  -- ---- all faults

  -- The injections of some faults are put, and what is left is drawn from the words from a place on.
  pub record Putting (words : List ℕ) (from : ℕ) (out : List ℕ) (at shot place : ℕ) (after : List ℕ) : Type 0 where
    pub faults : List Fault
    pub draws : draw_shots q.lent q.noise shots 0 words ≡ also_faults faults (draw_shots q.lent q.noise (shots - shot) shot (drop at words))
    pub puts : Puts from (text_of (map (injection D) faults)) out after place

  pub put_none : {words : List ℕ} {from : ℕ} {out : List ℕ} → Putting words from out 0 0 from out
  unfolding unlines
  put_none {words} =
      let all : shots ≡ shots - 0 = omega arith in
      record {
        faults = [];
        draws = ap (λ (k : ℕ). draw_shots q.lent q.noise k 0 words) all ∙ also_none (draw_shots q.lent q.noise (shots - 0) 0 words);
        puts = puts_nothing;
      }

  module _ {words : List ℕ} {from : ℕ} {out : List ℕ} {at shot place : ℕ} {mid : List ℕ} (s : Putting words from out at shot place mid) {r : NextFault}
      (found : FaultFound words at mask shot shots p d sums r) (here : shot ≤ shots)
    where
      pub put_more : (t : Shot) (e i : ℕ) → r ≡ next.At t e i → {end : ℕ} {after : List ℕ}
          → Puts place (inject_text t.0 (element_in d elements e) ++ LF ∷ []) mid after end → Putting words from out i (t.0 + 1) end after
      put_more t e i k {end} {after} puts =
          let f : Fault = record { shot = t.0; element = e } in
          let line : inject_text t.0 (element_in d elements e) ++ LF ∷ [] ≡ text_of (injection D f ∷ []) =
          rw (q.held e (below found here t e i k)) (unfold unlines injection in refl) in
          record {
            faults = s.faults ++ f ∷ [];
            draws =
                s.draws
                ∙ rw (draws_at found here q.stands q.lent q.fits q.satisfied t e i k) (also_more s.faults f (draw_shots q.lent q.noise (shots - (t.0 + 1)) (t.0 + 1) (drop i words)));
            puts = rw (map_append (injection D) s.faults (f ∷ []), text_append (map (injection D) s.faults) (injection D f ∷ [])) (puts_more s.puts (rw line at puts));
          }

      pub put_spent : r ≡ next.Spent → (all : ℕ) → all ≡ length words
          → StepPut words from shots out [] (injected D (draw_shots q.lent q.noise shots 0 words)) mid (Err (record { position = all }))
      unfolding also_faults injected PutAs
      put_spent k all e =
          let past : length words ≤ all = omega arith in
          let stopped : SpentTo words [] (Err (record { position = all })) = record { next = all; is = refl; within = omega arith; rest = sym (drop_of_length-le words past) } in
          rw (s.draws, draws_spent found here q.stands q.lent q.fits q.satisfied k) record { put = stopped }

      pub put_done : (i : ℕ) → r ≡ next.Done i → place ≤ from + 1342 * shots
          → StepPut words from shots out [] (injected D (draw_shots q.lent q.noise shots 0 words)) mid (Ok (record { position = i; text = place }))
      put_done i k few =
          rw (s.draws, draws_done found here q.stands q.lent q.fits q.satisfied i k)
          (unfold also_faults injected PutAs in
          record {
            put =
                record {
                  next = i;
                  place = place;
                  is = refl;
                  within = done_within found i k;
                  rest = refl;
                  puts = rw append-nil s.puts;
                  few = few;
                };
          })

-- ---- the position in the main list

-- draws from some words, where the main list goes on at a place of its own
module _ {words : List ℕ} {from shots : ℕ} {out after : List ℕ} {r : Result Drawn Spent} (main : List ℕ) (n : Noise) (before : List ℕ) (o : Draws)
    (t : StepPut words from shots out [] (injected n.distribution o) after r) (spent : List ℕ)
  where
    as_spent : (s : Spent) (k : ℕ) → r ≡ Err s → k ≤ length main → spent ≡ drop k main → StepPut main from shots out spent (noise_step n before o) after (Err (record { position = k }))
    unfolding injected noise_step PutAs
    as_spent s k e within rest = record { put = go o t.put }
      where
        go : (o : Draws) → PutAs words from shots out [] (injected n.distribution o) after r → PutAs main from shots out spent (noise_step n before o) after (Err (record { position = k }))
        go Draws.spent u = record { next = k; is = refl; within = within; rest = rest }
        go (Draws.drawn fs left) u = let z : ◌≡◌ {A = ℕ} 0 1 = cc (u.is, e) in absurd (omega arith)

    as_done : (d : Drawn) (k : ℕ) → r ≡ Ok d → k ≤ length main → main_after n.correlation before (drop d.position words) ≡ drop k main
        → StepPut main from shots out spent (noise_step n before o) after (Ok (record { position = k; text = d.text }))
    unfolding injected noise_step PutAs
    as_done d k e within rest = record { put = go o t.put }
      where
        go : (o : Draws) → PutAs words from shots out [] (injected n.distribution o) after r → PutAs main from shots out spent (noise_step n before o) after (Ok (record { position = k; text = d.text }))
        go Draws.spent u = let z : ◌≡◌ {A = ℕ} 0 1 = cc (u.is, e) in absurd (omega arith)
        go (Draws.drawn fs left) u =
            let next : u.next ≡ d.position = cc (u.is, e) in
            let place : u.place ≡ d.text = cc (u.is, e) in
            record {
              next = k;
              place = d.text;
              is = refl;
              within = within;
              rest = ap (main_after n.correlation before) (u.rest ∙ ap (λ (m : ℕ). drop m words) next) ∙ rest;
              puts = rw place at u.puts;
              few = rw place at u.few;
            }

-- with p above zero all shots draw
line_draws : (lent : Lent) (n : Noise) (ws : List ℕ) → le (float n.probability) zero_float ≡ false → draw_line lent n ws ≡ draw_shots lent n lent.shots 0 ws
unfolding draw_line
line_draws lent n ws high = rw high

part_main : (lent : Lent) (corr : Option ℕ) (main : List ℕ) → main_after corr main (part_of lent corr main) ≡ main
unfolding main_after part_of
part_main lent none main = refl
part_main lent (some c) main = refl

step_within : {words : List ℕ} {from shots : ℕ} {out : List ℕ} {step : Step} {after : List ℕ} {r : Result Drawn Spent} {d : Drawn}
    → StepPut words from shots out [] step after r → r ≡ Ok d → d.position ≤ length words
unfolding PutAs
step_within {words} {from} {shots} {out} {step} {after} {r} {d} t e = go step t.put
  where
    go : (st : Step) → PutAs words from shots out [] st after r → d.position ≤ length words
    go Step.spent u = let z : ◌≡◌ {A = ℕ} 0 1 = cc (u.is, e) in absurd (omega arith)
    go (Step.lines ls left) u = let same : u.next ≡ d.position = cc (u.is, e) in rw same at u.within

-- nothing is left where a word was needed past the end
step_spent : {words : List ℕ} {from shots : ℕ} {out : List ℕ} {step : Step} {after : List ℕ} {r : Result Drawn Spent} {s : Spent}
    → StepPut words from shots out [] step after r → r ≡ Err s → s.position ≡ length words
unfolding PutAs
step_spent {words} {from} {shots} {out} {step} {after} {r} {s} t e = go step t.put
  where
    go : (st : Step) → PutAs words from shots out [] st after r → s.position ≡ length words
    go Step.spent u =
        let same : u.next ≡ s.position = cc (u.is, e) in
        let none : 0 ≡ length words - u.next = ap length u.rest ∙ length-drop u.next words in
        omega (arith, u.within, same, none)
    go (Step.lines ls left) u = let z : ◌≡◌ {A = ℕ} 0 1 = cc (u.is, e) in absurd (omega arith)

module _ {p : Float} {d : PauliDistribution} {sums : List Float} {mask elements : List ℕ} {shots : ℕ} {correlation : Given ℕ} {second : List ℕ} {base : ℕ}
    (q : ReadyOf p d sums mask elements shots correlation second base) (text main : List ℕ) (position : ℕ) (inside : position ≤ length main)
  where
    abbrev noise : Noise
    noise = q.ready.noise

    -- what is left where it is spent
    abbrev unread : List ℕ
    unread = left_spent (Instruction.noise noise) (drop position main)

    abbrev step : Step
    step = step_of q.ready.lent (drop position main) text (Instruction.noise noise)

    -- with p at or below zero nothing is read and nothing is put
    pub no_draws : {place : ℕ} {out : List ℕ} → le p zero_float ≡ true → StepPut main place shots out unread step out (Ok (record { position = position; text = place }))
    unfolding step_of draw_line noise_step PutAs unlines
    no_draws {place} low =
        rw (← q.ready.stands.probability, low)
        (record {
          put =
              record {
                next = position;
                place = place;
                is = refl;
                within = inside;
                rest = part_main q.ready.lent noise.correlation (drop position main);
                puts = puts_nothing;
                few = omega arith;
              };
        })

    module _ (words : List ℕ) (high : le p zero_float ≡ false) (part : words ≡ part_of q.ready.lent (correlation_of correlation) (drop position main)) where
      abbrev draws : Draws
      draws = draw_shots q.ready.lent noise shots 0 words

      step_is : step ≡ noise_step noise (drop position main) draws
      unfolding step_of
      step_is =
          let above : le (float noise.probability) zero_float ≡ false = ap (λ (f : Float). le f zero_float) (sym q.ready.stands.probability) ∙ high in
          let from-part : part_of q.ready.lent noise.correlation (drop position main) ≡ words =
          ap (λ (o : Option ℕ). part_of q.ready.lent o (drop position main)) (sym q.correlated) ∙ sym part in
          ap (noise_step noise (drop position main))
          (ap (draw_line q.ready.lent noise) from-part
          ∙ line_draws q.ready.lent noise words above
          ∙ ap (λ (k : ℕ). draw_shots q.ready.lent noise k 0 words) q.shots_are)

      module _ {place : ℕ} {out after : List ℕ} {r : Result Drawn Spent} (put : StepPut words place shots out [] (injected noise.distribution draws) after r) where
        module _ {s : Spent} (e : r ≡ Err s) where
          all_read : s.position ≡ length (part_of q.ready.lent (correlation_of correlation) (drop position main))
          all_read = step_spent put e ∙ ap length part

          pub all_fits : length main < 2 ^ 64 → correlation_of correlation ≡ none → position + s.position < 2 ^ 64
          all_fits small = position_fits correlation q.ready.lent main position s.position inside small (omega (arith, all_read))

          pub spent_draws : StepPut main place shots out unread step after (Err (record { position = position_after_of correlation position s.position }))
          unfolding left_spent
          spent_draws =
              let left : spent_on noise.correlation (drop position main) ≡ drop (position_after_of correlation position s.position) main =
              rw (← q.correlated) (sym (main_spent correlation q.ready.lent main position s.position all_read)) in
              rw step_is
              (as_spent main noise (drop position main) draws put (spent_on noise.correlation (drop position main)) s (position_after_of correlation position s.position) e
              (position_within correlation q.ready.lent main position s.position inside (omega (arith, all_read)))
              left)

        module _ {drawn : Drawn} (e : r ≡ Ok drawn) where
          read_within : drawn.position ≤ length (part_of q.ready.lent (correlation_of correlation) (drop position main))
          read_within = rw part at (step_within put e)

          pub read_fits : length main < 2 ^ 64 → correlation_of correlation ≡ none → position + drawn.position < 2 ^ 64
          read_fits small = position_fits correlation q.ready.lent main position drawn.position inside small read_within

          pub done_draws : StepPut main place shots out unread step after (Ok (record { position = position_after_of correlation position drawn.position; text = drawn.text }))
          done_draws =
              let left : main_after noise.correlation (drop position main) (drop drawn.position words) ≡ drop (position_after_of correlation position drawn.position) main =
              rw (← q.correlated, part) (main_after_lem correlation q.ready.lent main position drawn.position) in
              rw step_is
              (as_done main noise (drop position main) draws put unread drawn (position_after_of correlation position drawn.position) e
              (position_within correlation q.ready.lent main position drawn.position inside read_within)
              left)
