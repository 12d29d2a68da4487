-- Laws: which kind of the ring is made. Assumes nothing.
use Rattle.std.specs.Prelude.{◌≡◌, Bool, ◌&&◌, eqb, get_or, drop}
use Rattle.std.proofs.Math.Path.{refl, subst}
use Rattle.std.proofs.Common.{sym, ◌∙◌, true≢false}
use Rattle.std.proofs.Math.Bool.{true, false}
use mathlib.Core.List.{List, [], ◌∷◌}
use Prim.Native.Nat.{ℕ, zero, suc, ◌≤◌, ◌<◌}
use native.Mathlib.Omega.{arith}
use Rattle.std.proofs.Math.Decide.{dec_lt}
use borrow.Author.Tests.{lt-ltb, le-ltb, eqb-true, eqb-false, eq-eqb, ne_eqb}
use Rattle.std.proofs.Math.Dec.{ltb}
use Rattle.std.proofs.Math.ListN.{length}
use Rattle.job.specs.declared.Header.{Header}
use Rattle.made.specs.Choice.{◌>>=◌, pick}
use Rattle.made.specs.Making.{Entry, always_stands, unitary, ring, first_standing, instruction}
use Rattle.made_fields.specs.declared.choices.Number.{Number}
use Rattle.made_fields.specs.Chosen.{NumberIs}
use Rattle.made_fields.specs.declared.Making.{Making}
use Rattle.made_fields.specs.Lines.{MadeIs, Ready}
use Rattle.made_lines.specs.declared.Kind.{Kind}
use Rattle.made_lines.specs.declared.Kind.TheVariants as kind
use Rattle.made_lines.specs.Ring.{index_of, entry_at, Stands, StandsFor}

-- ---- how long the ring is

module _ (h : Header) (recorded : ℕ) where
  pub ring_second : h.edition ≡ 2 → 17 ≡ length (ring h recorded)
  unfolding ring
  ring_second e = rw (eq-eqb h.edition 2 e) refl

  pub ring_first : (h.edition ≡ 2 → ⊥) → 16 ≡ length (ring h recorded)
  unfolding ring
  ring_first n = rw (ne_eqb h.edition 2 n) refl

  last_there : (b : Bool) → eqb h.edition 2 ≡ b → 16 < length (ring h recorded) → eqb h.edition 2 ≡ true
  unfolding ring
  last_there true e l = e
  last_there false e l = let short : 16 < 16 = rw e at l in absurd (omega (arith, short))

  pub ring_some : 15 < length (ring h recorded)
  unfolding ring
  ring_some = omega arith

  pub ring_most : length (ring h recorded) ≤ 17
  ring_most = go (eqb h.edition 2) refl
    where
      go : (b : Bool) → eqb h.edition 2 ≡ b → length (ring h recorded) ≤ 17
      go true e = omega (arith, ring_second (eqb-true h.edition 2 e))
      go false e = omega (arith, ring_first (eqb-false h.edition 2 e))

  -- ---- from a kind on

  here : (es : List Entry) (d : Entry) (k : ℕ) → k < length es → (get_or es k d).stands ≡ true → first_standing h recorded (drop k es) ≡ (get_or es k d).made
  unfolding first_standing
  here [] d k l s = absurd (omega (arith, l))
  here (e ∷ es) d zero l s = rw s refl
  here (e ∷ es) d (suc k) l s = here es d k (omega (arith, l)) s

  skip : (es : List Entry) (d : Entry) (k : ℕ) → k < length es → (get_or es k d).stands ≡ false
      → first_standing h recorded (drop k es) ≡ first_standing h recorded (drop (suc k) es)
  unfolding first_standing
  skip [] d k l s = absurd (omega (arith, l))
  skip (e ∷ es) d zero l s = rw s refl
  skip (e ∷ es) d (suc k) l s = skip es d k (omega (arith, l)) s

  stands_here : (k : ℕ) → k < length (ring h recorded) → (entry_at h recorded k).stands ≡ true → StandsFor h recorded k k
  stands_here k l s = record { stands = record { within = l; stands = s }; made = here (ring h recorded) (always_stands (unitary h recorded)) k l s }

  stands_next : {r : ℕ} (k : ℕ) → k < length (ring h recorded) → (entry_at h recorded k).stands ≡ false → StandsFor h recorded (suc k) r
      → StandsFor h recorded k r
  stands_next k l s f = record { stands = f.stands; made = skip (ring h recorded) (always_stands (unitary h recorded)) k l s ∙ f.made }

  -- the first n stand
  leading : ℕ → List Entry → Bool
  leading zero es = true
  leading (suc n) [] = false
  leading (suc n) (e ∷ es) = e.stands && leading n es

  both : (a b : Bool) → a && b ≡ true → (a ≡ true) × (b ≡ true)
  both true b e = (refl, e)
  both false b e = absurd (true≢false (sym e))

  leading_at : (n : ℕ) (es : List Entry) (d : Entry) (k : ℕ) → leading n es ≡ true → k < n → (get_or es k d).stands ≡ true
  unfolding leading
  leading_at zero es d k e l = absurd (omega (arith, l))
  leading_at (suc n) [] d k e l = absurd (true≢false (sym e))
  leading_at (suc n) (x ∷ es) d zero e l = (both x.stands (leading n es) e).0
  leading_at (suc n) (x ∷ es) d (suc k) e l = leading_at n es d k (both x.stands (leading n es) e).1 (omega (arith, l))

  -- ---- each kind

  pub early : (k : ℕ) → k < 13 → StandsFor h recorded k k
  unfolding ring leading
  early k l = stands_here k (omega (arith, l, ring_some)) (leading_at 13 (ring h recorded) (always_stands (unitary h recorded)) k refl l)

  pub barrier_last : 16 < length (ring h recorded) → StandsFor h recorded 16 16
  unfolding ring
  barrier_last long = let second = last_there (eqb h.edition 2) refl long in stands_here 16 long (rw second refl)

  -- a kind before t, and the last, stand where they are in the ring
  pub stays : (k : Kind) → (k ≡ kind.Flip → ⊥) → (k ≡ kind.Measure → ⊥) → (k ≡ kind.Allocate → ⊥) → index_of k < length (ring h recorded)
      → StandsFor h recorded (index_of k) (index_of k)
  stays kind.Unitary nf nm na l = early 0 (omega arith)
  stays kind.Clifford nf nm na l = early 1 (omega arith)
  stays kind.Pauli nf nm na l = early 2 (omega arith)
  stays kind.Exponential nf nm na l = early 3 (omega arith)
  stays kind.Controlled nf nm na l = early 4 (omega arith)
  stays kind.Permute nf nm na l = early 5 (omega arith)
  stays kind.Conditional nf nm na l = early 6 (omega arith)
  stays kind.Reset nf nm na l = early 7 (omega arith)
  stays kind.Injection nf nm na l = early 8 (omega arith)
  stays kind.Single nf nm na l = early 9 (omega arith)
  stays kind.Depolarizing nf nm na l = early 10 (omega arith)
  stays kind.Uniform nf nm na l = early 11 (omega arith)
  stays kind.Weighted nf nm na l = early 12 (omega arith)
  stays kind.Flip nf nm na l = absurd (nf refl)
  stays kind.Measure nf nm na l = absurd (nm refl)
  stays kind.Allocate nf nm na l = absurd (na refl)
  stays kind.Barrier nf nm na l = barrier_last l

  pub barrier_stands : h.edition ≡ 2 → StandsFor h recorded 16 16
  unfolding ring
  barrier_stands e = stands_here 16 (omega (arith, ring_second e)) (rw (eq-eqb h.edition 2 e) refl)

  pub none_stands : (h.edition ≡ 2 → ⊥) → StandsFor h recorded 16 0
  unfolding ring first_standing
  none_stands n = record { stands = record { within = omega (arith, ring_some); stands = refl }; made = rw (ne_eqb h.edition 2 n) refl }

  -- o and r
  recording : (k : ℕ) → 13 < k → k < 16 → (entry_at h recorded k).stands ≡ ltb recorded h.outcomes
  unfolding ring
  recording k a b = go (dec_lt k 15)
    where
      go : Dec (k < 15) → (entry_at h recorded k).stands ≡ ltb recorded h.outcomes
      go (yes l) = let e : k ≡ 14 = omega (arith, a, l) in rw e refl
      go (no l) = let e : k ≡ 15 = omega (arith, b, l) in rw e refl

  pub recording_stands : (k : ℕ) → 13 < k → k < 16 → recorded < h.outcomes → StandsFor h recorded k k
  recording_stands k a b l = stands_here k (omega (arith, b, ring_some)) (recording k a b ∙ lt-ltb recorded h.outcomes l)

  pub recording_not : {r : ℕ} (k : ℕ) → 13 < k → k < 16 → h.outcomes ≤ recorded → StandsFor h recorded 16 r → StandsFor h recorded k r
  recording_not {r} k a b l f = go (dec_lt k 15)
    where
      no_more : (j : ℕ) → 13 < j → j < 16 → (entry_at h recorded j).stands ≡ false
      no_more j a b = recording j a b ∙ le-ltb recorded h.outcomes l

      last : StandsFor h recorded 15 r
      last = stands_next 15 ring_some (no_more 15 (omega arith) (omega arith)) f

      go : Dec (k < 15) → StandsFor h recorded k r
      go (yes s) =
          let e : 14 ≡ k = omega (arith, a, s) in
          subst (λ (j : ℕ). StandsFor h recorded j r) e (stands_next 14 (omega (arith, ring_some)) (no_more 14 (omega arith) (omega arith)) last)
      go (no s) = let e : 15 ≡ k = omega (arith, b, s) in subst (λ (j : ℕ). StandsFor h recorded j r) e last

  pub flip_stands : 0 < recorded → StandsFor h recorded 13 13
  unfolding ring
  flip_stands l = stands_here 13 (omega (arith, ring_some)) (lt-ltb 0 recorded l)

  pub flip_not : {r : ℕ} → recorded ≤ 0 → StandsFor h recorded 14 r → StandsFor h recorded 13 r
  unfolding ring
  flip_not l f = stands_next 13 (omega (arith, ring_some)) (le-ltb 0 recorded l) f

-- ---- the instruction

pub kind_ready : (h : Header) {m from : Making} {k place state : ℕ} → from ≡ record { at = m.at; recorded = m.recorded; state = state } → Ready h m
    → StandsFor h m.recorded k place → Ready h from × Stands h from.recorded place
kind_ready h {m} em r f =
    rw em (
      record {
        some_qubits = r.some_qubits;
        qubits = r.qubits;
        some_shots = r.some_shots;
        shots = r.shots;
        outcomes = r.outcomes;
        recorded = r.recorded;
        room = r.room;
      },
      f.stands,
    )

pub instruction_made : (h : Header) {m from r : Making} {k : Number} {count place : ℕ} {out after : List ℕ} → count ≡ length (ring h m.recorded)
    → NumberIs (pick count m.state) k → StandsFor h m.recorded k.value place → from ≡ record { at = m.at; recorded = m.recorded; state = k.state }
    → MadeIs ((entry_at h from.recorded place).made from.state) from r out after → MadeIs (instruction h m.recorded m.state) m r out after
unfolding instruction ◌>>=◌
instruction_made h {m} {from} {r} {k} {count} {place} {out} {after} ec n f em d =
    let index = rw ec at n in
    let kind = rw index.value at f.made in
    let made : MadeIs ((entry_at h m.recorded place).made k.state) (record { at = m.at; recorded = m.recorded; state = k.state }) r out after =
    subst (λ (x : Making). MadeIs ((entry_at h x.recorded place).made x.state) x r out after) em d
    in
    let same = rw (sym kind, index.state) at made in
    record { puts = same.puts; recorded = same.recorded; state = same.state }
