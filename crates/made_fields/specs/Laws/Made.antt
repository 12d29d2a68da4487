-- Laws: what is chosen number by number is what the rule chooses. Assumes nothing.
use Rattle.std.specs.Prelude.{◌≡◌, refl, List, ℕ, zero, suc, ◌+◌, ◌≤◌, ◌<◌, min, take}
use Rattle.std.proofs.Common.{ap, ◌∙◌, arith}
use Rattle.made.specs.Choice.{given, ◌>>=◌, pick, marked, few, cyclic, stretch}
use Rattle.made.proofs.Laws.Choice.{always_pick}
use Rattle.made_fields.specs.declared.choices.Number.{Number}
use Rattle.made_fields.specs.Chosen.{NumberIs, ListIs}

pub pick_below : (n state : ℕ) (r : Number) → 0 < n → NumberIs (pick n state) r → r.value < n
pick_below n state r h p =
    let below : (pick n state).value < n = (always_pick n h).from state in
    omega (arith, p.value, below)

pub few_none : (top state : ℕ) (list : List ℕ) → top ≡ 0 → ListIs 8 (few top state) list (record { count = 0; state = state })
unfolding few given
few_none top state list e = rw e (record { list_is = refl; state = refl; short = omega arith })

pub few_made : (top state : ℕ) (list : List ℕ) (a m : Number) (r : ℕ) → 0 < top → NumberIs (pick top state) a → NumberIs (pick 256 a.state) m
    → take r list ≡ marked 8 top a.value m.value → r ≤ 8
    → ListIs 8 (few top state) list (record { count = r; state = m.state })
unfolding few ◌>>=◌ given
few_made zero state list a m r h p q e short = absurd (omega (arith, h))
few_made (suc t) state list a m r h p q e short =
    record {
      list_is = e ∙ rw (p.value, q.value, p.state) refl;
      state = q.state ∙ ap (λ (s : ℕ). (pick 256 s).state) p.state;
      short = short;
    }

pub stretch_made : (n most state : ℕ) (list : List ℕ) (k a : Number) (least : ℕ) → least ≡ min n most → NumberIs (pick least state) k
    → NumberIs (pick n k.state) a → take (k.value + 1) list ≡ cyclic (k.value + 1) n a.value → k.value + 1 ≤ most
    → ListIs most (stretch n most state) list (record { count = k.value + 1; state = a.state })
unfolding stretch ◌>>=◌ given
stretch_made n most state list k a least l p q e short =
    let one : k.value + 1 ≡ suc (pick (min n most) state).value = omega (arith, p.value ∙ ap (λ (i : ℕ). (pick i state).value) l) in
    let at : k.state ≡ (pick (min n most) state).state = p.state ∙ ap (λ (i : ℕ). (pick i state).state) l in
    record {
      list_is =
          e ∙ ap (λ (i : ℕ). cyclic i n a.value) one
          ∙ ap (cyclic (suc (pick (min n most) state).value) n) (q.value ∙ ap (λ (s : ℕ). (pick n s).value) at);
      state = q.state ∙ ap (λ (s : ℕ). (pick n s).state) at;
      short = short;
    }
