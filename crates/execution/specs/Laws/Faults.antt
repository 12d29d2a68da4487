-- The faults of a line, injected one after the other. Laws. Assumes nothing.
use Rattle.std.specs.Prelude.{◌≡◌, Some, None, List, ℕ, ◌+◌, ◌-◌, ◌*◌, ◌≤◌, drop, Float}
use Rattle.std.proofs.Math.Path.{sym}
use Rattle.std.proofs.Common.{◌∙◌, arith}
use Rattle.std.proofs.Math.Nat.{sub-zero}
use Rattle.pauli.specs.declared.Shot.{Shot}
use Rattle.job.specs.Grammar.{header_with}
use Rattle.job.specs.Line.{Line, Noise}
use Rattle.draws.specs.Draws.{element_at, Lent}
use Rattle.draws.specs.Execute.{States, forward_all, inject_shots}
use Rattle.noise.specs.declared.PauliDistribution.{PauliDistribution}
use Rattle.shots.specs.declared.NextFault.{NextFault}
use Rattle.shots.specs.declared.NextFault.TheVariants as next
use Rattle.shots.specs.Shots.{FaultFound}
use Rattle.faults.specs.Laws.Drawn.{size_some}
use Rattle.shots.specs.Laws.Next.{done_within, injects_spent, injects_done, injects_at, at_below}
use Rattle.execution.specs.Holds.{Holds}
use Rattle.execution.specs.Injected.{ElementReady, ElementInjected, LineReady, FaultsReady, executed_as, place_of, FaultsInjected}
use Rattle.execution.specs.Laws.Holds.{holds_line}

module _ (qubits shots w : ℕ) (p : Float) (d : PauliDistribution) (sums : List Float) (elements mask words x₀ z₀ : List ℕ) where
  -- The faults of the shots before this one were injected, and those of the others are left, from a place of the words on.
  pub record Injecting (x z : List ℕ) (at shot : ℕ) : Type 0 where
    pub by : (edition outcomes : ℕ) (n : Noise) (lent : Lent) → LineReady n lent w qubits p d sums elements mask → (deltas : List ℕ) (states₀ : States)
        → Holds w x₀ z₀ deltas states₀ → (states : States) × Holds w x z deltas states
        × (inject_shots (header_with edition qubits outcomes shots) lent n (shots - shot) shot (drop at words) states
        ≡ inject_shots (header_with edition qubits outcomes shots) lent n shots 0 words states₀)

  pub injecting_none : Injecting x₀ z₀ 0 0
  injecting_none = record { by = λ edition outcomes n lent ready deltas states holds. (states, holds, rw (sub-zero shots)) }

  module _ (x z : List ℕ) (at shot : ℕ) (before : shot ≤ shots) (fits : shots ≤ 64 * w) (r : NextFault)
      (found : FaultFound words at mask shot shots p d sums r) (going : Injecting x z at shot)
    where
      pub injecting_spent : r ≡ next.Spent → FaultsInjected qubits shots w p d sums elements mask words x₀ z₀ x z None
      unfolding executed_as place_of
      injecting_spent e =
          record {
            by = λ edition outcomes n lent ready deltas states₀ holds₀.
                let (states, holds, same) = going.by edition outcomes n lent ready deltas states₀ holds₀ in
                record {
                  states = states;
                  holds = holds;
                  is = sym same ∙ injects_spent found before ready.stands lent fits ready.masks (header_with edition qubits outcomes shots) states e;
                  within = omega arith;
                };
          }

      pub injecting_done : (i : ℕ) → r ≡ next.Done i → FaultsInjected qubits shots w p d sums elements mask words x₀ z₀ x z (Some i)
      unfolding executed_as place_of
      injecting_done i e =
          record {
            by = λ edition outcomes n lent ready deltas states₀ holds₀.
                let (states, holds, same) = going.by edition outcomes n lent ready deltas states₀ holds₀ in
                record {
                  states = states;
                  holds = holds;
                  is = sym same ∙ injects_done found before ready.stands lent fits ready.masks (header_with edition qubits outcomes shots) states i e;
                  within = done_within found i e;
                };
          }

      -- the next fault's element is one of the distribution's
      pub element_ready : (ready : FaultsReady qubits shots w p d sums elements mask x₀ z₀) (s : Shot) (e i : ℕ) → r ≡ next.At s e i → ElementReady qubits d elements e
      element_ready ready s e i k =
          let line = ready.line in
          record {
            room = ready.room;
            distribution = ready.noise.distribution;
            sums = sums;
            chooses = line.stands.chooses;
            held = line.held;
            sound = line.sound;
            below = at_below found before line.stands ready.lent fits line.masks s e i k (size_some qubits _ line.sound);
          }

      pub injecting_at : (s : Shot) (e i : ℕ) (x' z' : List ℕ) → r ≡ next.At s e i → ElementInjected w qubits s.0 d elements e x z x' z' → Injecting x' z' i (s.0 + 1)
      injecting_at s e i x' z' k injected =
          record {
            by = λ edition outcomes n lent ready deltas states₀ holds₀.
                let (states, holds, same) = going.by edition outcomes n lent ready deltas states₀ holds₀ in
                let below = at_below found before ready.stands lent fits ready.masks s e i k (size_some qubits _ ready.sound) in
                let line = Line.inject s.0 (element_at n.distribution e) in (
                  forward_all (header_with edition qubits outcomes shots) line states,
                  holds_line (header_with edition qubits outcomes shots) line holds (injected.acts n.distribution sums ready.stands.chooses ready.held below outcomes deltas),
                  sym (injects_at found before ready.stands lent fits ready.masks (header_with edition qubits outcomes shots) states s e i k) ∙ same,
                );
          }
