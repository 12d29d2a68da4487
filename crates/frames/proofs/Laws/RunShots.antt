-- A shot's run does not notice the faults (injections and flips) of other shots. Assumes nothing.
use Rattle.std.specs.Prelude.{◌≡◌, Bool, true, false, cond, ℕ}
use Rattle.std.proofs.Math.Path.{refl, ap, fun_ext}
use Rattle.std.proofs.Common.{sym, ◌∙◌, true≢false}
use mathlib.Core.List.{List, [], ◌∷◌}
use Rattle.pauli.specs.Bits.{Bits, added}
use Rattle.pauli.specs.Pauli.{Pauli, ◌∗◌, when}
use Rattle.pauli.proofs.Laws.Parity.{bitwise, added_is}
use Rattle.pauli.proofs.Laws.Group.{group}
use Rattle.job.specs.Line.{SparsePauli, pauli_of, Line}
use Rattle.frames.specs.Forward.{State, Setting, forward, run}
use Rattle.frames.specs.Shots.{concerns, restricted}
use Rattle.frames.proofs.Laws.Linear.{state_path, apart}

inject_off : (b : Bool) → b ≡ false → (F P : Pauli) → F ∗ when b P ≡ F
inject_off b e F P = simp (e, group)

flip_off : (b : Bool) → b ≡ false → (D : Bits) (id : ℕ) → added D id b ≡ D
flip_off b e D id = simp (e, added_is) (fun_ext (λ i. simp bitwise))

-- a line that does not concern the set is an injection or a flip in a shot outside it
pub other : (shots : Bits) (P : Line → Type 0)
    → ((shot : ℕ) (Q : SparsePauli) → shots shot ≡ false → P (Line.inject shot Q))
    → ((shot id : ℕ) → shots shot ≡ false → P (Line.flip shot id))
    → (l : Line) → concerns shots l ≡ false → P l
unfolding concerns
other shots P i f (Line.unitary g qs) h = absurd (true≢false h)
other shots P i f (Line.clifford qs u) h = absurd (true≢false h)
other shots P i f (Line.pauli Q) h = absurd (true≢false h)
other shots P i f (Line.exponential Q) h = absurd (true≢false h)
other shots P i f (Line.controlled C T) h = absurd (true≢false h)
other shots P i f (Line.permute p qs) h = absurd (true≢false h)
other shots P i f (Line.measure Q id) h = absurd (true≢false h)
other shots P i f (Line.allocate id angle) h = absurd (true≢false h)
other shots P i f (Line.conditional Q ids par) h = absurd (true≢false h)
other shots P i f (Line.reset qs) h = absurd (true≢false h)
other shots P i f (Line.inject shot Q) h = i shot Q h
other shots P i f (Line.flip shot id) h = f shot id h
other shots P i f (Line.barrier qs) h = absurd (true≢false h)

pub kept_or_not : (P : List Line → Type 0) (shots : Bits) (l : Line) (rest : List Line) → P (l ∷ rest) → (concerns shots l ≡ false → P rest)
    → P (cond (concerns shots l) (l ∷ rest) rest)
kept_or_not P shots l rest kept left = go (concerns shots l) refl
  where
    go : (b : Bool) → concerns shots l ≡ b → P (cond b (l ∷ rest) rest)
    go true e = kept
    go false e = left e

-- With a set that has the shot in it, from any frame and deltas.
module _ (c : Setting) (shots : Bits) (on : shots c.shot ≡ true) where
  forward_other : (l : Line) → concerns shots l ≡ false → (s : State) → forward c l s ≡ s
  unfolding forward
  forward_other l h s =
      other shots (λ k. forward c k s ≡ s)
      (λ shot P k. state_path (inject_off _ (apart shots shot c.shot k on) s.frame (pauli_of P)) refl)
      (λ shot id k. state_path refl (flip_off _ (apart shots shot c.shot k on) s.deltas id)) l h

  pub run_restricted : (ls : List Line) (s : State) → run c (restricted shots ls) s ≡ run c ls s
  unfolding run restricted
  run_restricted [] s = refl
  run_restricted (l ∷ ls) s =
      kept_or_not (λ k. run c k s ≡ run c ls (forward c l s)) shots l (restricted shots ls)
      (run_restricted ls (forward c l s))
      (λ h. run_restricted ls s ∙ ap (run c ls) (sym (forward_other l h s)))
