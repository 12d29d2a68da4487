-- From the states of shots to the words of the reply. Laws. Assumes nothing.
use Rattle.std.specs.Prelude.{◌≡◌, refl, false, List, ℕ, ◌*◌, ◌/◌, ◌^◌, ◌≤◌, ◌<◌, length, get_or, replicate}
use Rattle.std.proofs.Math.Path.{sym, ap}
use Rattle.std.proofs.Common.{◌∙◌, arith}
use Rattle.std.proofs.Math.Seq.{ext_get_or}
use Rattle.pauli.specs.Bits.{Bits, none}
use Rattle.pauli.specs.Pauli.{identity}
use Rattle.job.specs.declared.Header.{Header}
use Rattle.job.specs.declared.Answer.{Answer}
use Rattle.job.specs.Job.{accepted}
use Rattle.frames.specs.Forward.{State, start}
use Rattle.draws.specs.Execute.{States, Ended}
use Rattle.rows.specs.Words.{words_per_row, bit_in, pack}
use Rattle.rows.specs.Column.{column}
use Rattle.rows.proofs.Laws.Pack.{length_tabulated, tabulated_at, packed}
use Rattle.totals.specs.Ones.{ones_to}
use Rattle.totals.specs.Held.{TotalsHeld}
use Rattle.totals.specs.Laws.Ones.{ones_same, ones_within}
use Rattle.run.specs.Run.{frame_words_of, outcome_words_of, flip_totals}
use Rattle.execution.specs.Holds.{Holds}
use Rattle.needed_words.specs.Executed.{Finished}
use Rattle.needed_words.specs.Needed.{needed_reply}

-- ---- packing

-- words of which every number is below 2 ^ 64
abbrev pub Words : List ℕ → Type 0
Words l = (i : ℕ) → get_or l i 0 < 2 ^ 64

module _ (h : Header) (states : States) (some_shots : 1 ≤ h.shots) (past : (s : ℕ) → h.shots ≤ s → states s ≡ start) (x z d : List ℕ)
    (holds : Holds (words_per_row h.shots) x z d states)
  where
    -- every part of the states
    part_packed : (part : State → Bits) → ((r : ℕ) → part start r ≡ false) → (rows : ℕ) (l : List ℕ) → length l ≡ rows * words_per_row h.shots → Words l
        → ((s : ℕ) → s / 64 < words_per_row h.shots → column (words_per_row h.shots) l s ≡ part (states s))
        → l ≡ pack rows h.shots (λ r s. part (states s) r)
    part_packed part off rows l long fits same =
        packed rows h.shots (λ r s. part (states s) r) l some_shots long fits
        (λ s r k b. ap (λ (c : Bits). c r) (same s k))
        (λ s r k b p. ap (λ (t : State). part t r) (past s p) ∙ off r)

    -- the ones of a row over all its bits are those of the shots
    row_ones : (id : ℕ) → ones_to (64 * words_per_row h.shots) (bit_in (words_per_row h.shots) d id) ≡ ones_to h.shots (λ s. (states s).deltas id)
    unfolding column start none
    row_ones id =
        ones_same (64 * words_per_row h.shots) _ (λ s. (states s).deltas id) (λ s k. ap (λ (t : State). t.deltas id) (holds.shots s (omega arith)))
        ∙ ones_within h.shots (64 * words_per_row h.shots) _ (omega arith) (λ s p. ap (λ (t : State). t.deltas id) (past s p))

    totals_are : (totals : List ℕ) → TotalsHeld (words_per_row h.shots) h.outcomes d totals → totals ≡ flip_totals h states
    unfolding flip_totals
    totals_are totals held =
        ext_get_or 0 totals _ (held.long ∙ sym (length_tabulated _ h.outcomes))
        (λ id k. let below : id < h.outcomes = rw held.long at k in held.are id below ∙ row_ones id ∙ sym (tabulated_at _ h.outcomes id below))

    pub states_packed : (totals : List ℕ) → TotalsHeld (words_per_row h.shots) h.outcomes d totals → length x ≡ frame_words_of h → length z ≡ frame_words_of h
        → length d ≡ outcome_words_of h → Words x → Words z → Words d
        → needed_reply h (Ended.ended states) ≡ record { answered = accepted; x = x; z = z; deltas = d; totals = totals }
    unfolding needed_reply start identity none
    states_packed totals held lx lz ld fx fz fd =
        let px = part_packed (λ t. t.frame.x) (λ r. refl) h.qubits x lx fx (λ s k. ap (λ (t : State). t.frame.x) (holds.shots s k)) in
        let pz = part_packed (λ t. t.frame.z) (λ r. refl) h.qubits z lz fz (λ s k. ap (λ (t : State). t.frame.z) (holds.shots s k)) in
        let pd = part_packed (λ t. t.deltas) (λ r. refl) h.outcomes d ld fd (λ s k. ap (λ (t : State). t.deltas) (holds.shots s k)) in
        rw (← px, ← pz, ← pd, ← totals_are totals held)

-- ---- how execution ended

module _ (h : Header) {all : Ended} {w : ℕ} {x z d : List ℕ} {r : Answer} where
  pub needed_finished : {totals : List ℕ} → w ≡ words_per_row h.shots → 1 ≤ h.shots → ((states : States) → all ≡ Ended.ended states → (s : ℕ) → h.shots ≤ s → states s ≡ start)
      → length x ≡ frame_words_of h → length z ≡ frame_words_of h → length d ≡ outcome_words_of h → Words x → Words z → Words d
      → TotalsHeld w h.outcomes d totals → Finished all w x z d r → r.number ≡ 0
      → needed_reply h all ≡ record { answered = r; x = x; z = z; deltas = d; totals = totals }
  needed_finished {totals} words some past lx lz ld fx fz fd held (Finished.finished states e k holds) zero =
      rw (e, k) (states_packed h states some (past states e) x z d (rw words at holds) totals (rw words at held) lx lz ld fx fz fd)
  needed_finished words some past lx lz ld fx fz fd held (Finished.stopped k e a) zero =
      let no : ◌≡◌ {A = ℕ} 14 0 = sym (ap (λ (b : Answer). b.number) a) ∙ zero in absurd (omega arith)

  pub needed_stopped : {x' z' d' totals' : List ℕ} → x' ≡ replicate (frame_words_of h) 0 → z' ≡ replicate (frame_words_of h) 0 → d' ≡ replicate (outcome_words_of h) 0
      → totals' ≡ replicate h.outcomes 0 → Finished all w x z d r → (r.number ≡ 0 → ⊥)
      → needed_reply h all ≡ record { answered = r; x = x'; z = z'; deltas = d'; totals = totals' }
  unfolding needed_reply
  needed_stopped ex ez ed et (Finished.finished states e k holds) some = absurd (some (ap (λ (b : Answer). b.number) k))
  needed_stopped ex ez ed et (Finished.stopped k e a) some = rw (e, a, ex, ez, ed, et)
