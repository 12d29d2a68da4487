-- The lowest number, test by test. Laws. Assumes nothing.
use Rattle.std.specs.Prelude.{Result, Ok, Err, ℕ, ◌≤◌, ◌<◌, ◌≡◌, Bool, ◌&&◌, List, [], ◌∷◌, length}
use Rattle.std.proofs.Common.{arith, le-leb, sym, ap, ◌∙◌}
use Rattle.std.proofs.Math.Path.{refl}
use Rattle.std.proofs.Math.Bool.{true, false, cond, and-true}
use Rattle.text.specs.Template.{Value, list_at_of}
use Rattle.template.specs.Fields.{Held}
use Rattle.job.specs.Grammar.{Written}
use Rattle.job.specs.declared.refusals.Refusal.{Refusal}
use Rattle.job.specs.Refusals.{number_of, refusal_in}
use Rattle.job.proofs.Laws.Refusals.{number_above}
use Rattle.job.specs.Checks.{Test, test, all_below, each_below_of, each_short, own_tests, lowest}
use Rattle.check_values.specs.declared.context.Context.{Context as Known}
use Rattle.check_values.specs.Slots.{lists_from}
use Rattle.check_values.specs.Contexts.{context_of}

-- ---- the lowest number

module _ (n : ℕ) (b : Bool) (ts : List Test) where
  pub fails : b ≡ false → n ≡ lowest (test n b ∷ ts)
  unfolding lowest
  fails e = rw e

  pub passes : b ≡ true → lowest ts ≡ lowest (test n b ∷ ts)
  unfolding lowest
  passes e = rw e

pub none_bad : 0 ≡ lowest []
unfolding lowest
none_bad = refl

-- two tests, and others after them
module _ (t u : Test) (ts : List Test) {r : Result (Unit {0}) Refusal} (e : refusal_in r ≡ lowest (t ∷ u ∷ [])) where
  pub two_fail : {x : Refusal} → r ≡ Err x → number_of x ≡ lowest (t ∷ u ∷ ts)
  unfolding lowest
  two_fail {x} h = go t.bad u.bad (sym (ap refusal_in h) ∙ e)
    where
      go : (p q : Bool) → number_of x ≡ cond p t.number (cond q u.number 0) → number_of x ≡ cond p t.number (cond q u.number (lowest ts))
      go true q k = k
      go false true k = k
      go false false k = absurd (omega (arith, number_above x))

  pub two_pass : 0 < t.number → 0 < u.number → {v : Unit {0}} → r ≡ Ok v → lowest ts ≡ lowest (t ∷ u ∷ ts)
  unfolding lowest
  two_pass ht hu h = go t.bad u.bad (sym (ap refusal_in h) ∙ e)
    where
      go : (p q : Bool) → 0 ≡ cond p t.number (cond q u.number 0) → lowest ts ≡ cond p t.number (cond q u.number (lowest ts))
      go true q k = absurd (omega arith)
      go false true k = absurd (omega arith)
      go false false k = refl

-- ---- tests joined

pub both_true : {a b : Bool} → a ≡ true → b ≡ true → (a && b) ≡ true
both_true p q = rw (p, q)

pub left_false : (a b : Bool) → a ≡ false → (a && b) ≡ false
left_false a b p = rw p

pub left_true : (a b : Bool) → a ≡ true → (a && b) ≡ b
left_true a b p = rw p

pub right_false : (a b : Bool) → b ≡ false → (a && b) ≡ false
right_false true b q = q
right_false false b q = refl

-- one list
module _ (vs : List Value) (i : ℕ) where
  pub one_below : (n : ℕ) → each_below_of n (lists_from i 1 vs) ≡ all_below n (list_at_of i vs)
  unfolding each_below_of lists_from
  one_below n = and-true (all_below n (list_at_of i vs))

  pub one_short : length (list_at_of i vs) ≤ 31 → each_short (lists_from i 1 vs) ≡ true
  unfolding each_short lists_from
  one_short h = rw (le-leb (length (list_at_of i vs)) 31 h)

-- ---- the tests of a line

-- the words hold the values of the line, and its own tests are these
pub record Tested (c : Known) (fields : List ℕ) (numbers lists : ℕ) (values : List Value) (written : Written) (tests : List Test) : Type 0 where
  pub held : Held fields numbers lists values
  pub own : lowest tests ≡ lowest (own_tests (context_of c) written)
