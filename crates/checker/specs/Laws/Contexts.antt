-- The context after a line that passed. Laws. Assumes nothing.
use Rattle.std.specs.Prelude.{◌≡◌, Bool, true, Float}
use Rattle.std.proofs.Math.Path.{refl, sym}
use Rattle.std.proofs.Math.Option.{Option, none, some}
use Rattle.std.proofs.lemmas.Bool.{not-false}
use Rattle.job.specs.Grammar.{Written}
use Rattle.job.specs.Checks.{Context, header_fits_of, next, refusal_of}
use Rattle.job.proofs.Laws.Tests.{refusal_passes}
use Rattle.check_values.specs.Contexts.{total_if}
use Rattle.instructions.specs.Reading.{has_total}

module _ (c : Context) (last : Bool) (w : Written) (e : refusal_of c last (some w) ≡ 0) where
  pub passed_begun : true ≡ (next c w).begun
  passed_begun = go w (not-false _ (refusal_passes c last w e).1.0)
    where
      go : (v : Written) → header_fits_of c v ≡ true → true ≡ (next c v).begun
      go (Written.header h) k = unfold next in refl
      go (Written.line l) k = unfold next header_fits_of in sym k
      go (Written.noise n) k = unfold next header_fits_of in sym k
      go (Written.element v P) k = unfold next header_fits_of in sym k

-- the sum as the code has it
pub sum_same : (o : Option Float) (b : Bool) (x : Float) → b ≡ has_total o → ((t : Float) → o ≡ some t → x ≡ t) → total_if b x ≡ o
unfolding has_total total_if
sum_same none b x e h = rw e
sum_same (some t) b x e h = rw (e, h t refl)

pub context_same : (c d : Context) → c.begun ≡ d.begun → c.header ≡ d.header → c.recorded ≡ d.recorded → c.due ≡ d.due → c.total ≡ d.total → c ≡ d
context_same c d a b e g h i = record { begun = a i; header = b i; recorded = e i; due = g i; total = h i }
