-- The check goes on from line to line, and from round to round. Laws. Assumes nothing.
use Rattle.std.specs.Prelude.{ℕ, suc, ◌≤◌, min, Bool, Option as Maybe, Some, None, Ok, Err}
use Rattle.std.proofs.Common.{arith, ◌∙◌}
use Rattle.std.proofs.Math.Path.{◌≡◌, refl, sym, ap}
use Rattle.std.proofs.Math.Bool.{true, false, cond}
use mathlib.Core.List.{List, [], ◌∷◌, ◌++◌, append_assoc, append-nil}
use Rattle.std.proofs.Math.Option.{Option, none, some}
use borrow.Author.Tests.{eqb-true, eq-eqb}
use Rattle.std.proofs.Math.Dec.{eqb}
use Rattle.job.specs.Line.{Placed}
use Rattle.job.specs.Grammar.{Written, read_line_of}
use Rattle.job.specs.Job.{Gathered, gather, gathered}
use Rattle.circuit.specs.Correlation.{Seen, seen_after, size_fits, correlation_of, said_size, first_differing_by, first_differing_of}
use Rattle.correlations.specs.Sizes.{size_for, look_for, look_of, fitting, new_in, grown, line_in}
use Rattle.correlations.specs.Rounds.{unlike, earliest}
use Rattle.correlations.specs.Laws.Tables.{same_size, agrees_by, or_else, size_append, size_one}

-- ---- tables that say the same

same_append : (a b x : List Seen) → ((c : ℕ) → size_for a c ≡ size_for b c) → (c : ℕ) → size_for (a ++ x) c ≡ size_for (b ++ x) c
same_append a b x e c = size_append a x c ∙ ap (λ (o : Option ℕ). or_else o (size_for x c)) (e c) ∙ sym (size_append b x c)

same_after : (a b : List Seen) (o : Option ℕ) (s : ℕ) → ((c : ℕ) → size_for a c ≡ size_for b c) → (c : ℕ) → size_for (seen_after a o s) c ≡ size_for (seen_after b o s) c
unfolding seen_after
same_after a b none s e = e
same_after a b (some d) s e = same_append a b (record { correlation = d; size = s } ∷ []) e

fits_by : (seen : List Seen) (c s : ℕ) → size_fits seen (some c) s ≡ same_size (size_for seen c) s
unfolding size_fits
fits_by seen c s = agrees_by seen c s

same_fits : (a b : List Seen) (o : Option ℕ) (s : ℕ) → ((c : ℕ) → size_for a c ≡ size_for b c) → size_fits a o s ≡ size_fits b o s
same_fits a b none s e = unfold size_fits in refl
same_fits a b (some c) s e = fits_by a c s ∙ ap (λ (o : Option ℕ). same_size o s) (e c) ∙ sym (fits_by b c s)

pub differing_same : (a b : List Seen) (is : List Placed) → ((c : ℕ) → size_for a c ≡ size_for b c) → first_differing_of a is ≡ first_differing_of b is
unfolding first_differing_by
differing_same a b [] e = refl
differing_same a b (i ∷ is) e =
    let o = correlation_of i.instruction in
    let s = said_size i.instruction in
    rw (same_fits a b o s e, differing_same (seen_after a o s) (seen_after b o s) is (same_after a b o s e))

-- a correlation that was seen changes nothing
seen_again : (seen : List Seen) (c s t : ℕ) → size_for seen c ≡ some t → (d : ℕ) → size_for (seen ++ record { correlation = c; size = s } ∷ []) d ≡ size_for seen d
unfolding or_else
seen_again seen c s t e d = size_append seen _ d ∙ go (eqb c d) refl (size_for seen d) refl
  where
    go : (b : Bool) → eqb c d ≡ b → (o : Option ℕ) → size_for seen d ≡ o → or_else o (size_for (record { correlation = c; size = s } ∷ []) d) ≡ o
    go b q (some u) h = refl
    go true q none h = let z : some t ≡ none = sym e ∙ ap (size_for seen) (eqb-true c d q) ∙ h in let y : ◌≡◌ {A = ℕ} 0 1 = cc in absurd (omega arith)
    go false q none h = size_one c s d ∙ rw q

-- ---- one line

-- the check at a line, by what the table says of its correlation and size
module _ (line : ℕ) (seen : List Seen) (s : ℕ) where
  fits_for : (c : ℕ) (u : Option ℕ) → same_size u s ≡ fitting (look_for line c s u)
  unfolding look_for same_size fitting
  fits_for c none = refl
  fits_for c (some t) = go (eqb t s)
    where
      go : (b : Bool) → b ≡ fitting (cond b (Ok None) (Err (record { line = line })))
      go true = refl
      go false = refl

  none_new : (b : Bool) → new_in (cond b (Ok None) (Err (record { line = line }))) ≡ None
  unfolding new_in
  none_new true = refl
  none_new false = refl

  pub look_fits : (o : Option ℕ) → size_fits seen o s ≡ fitting (look_of line seen o s)
  unfolding look_of size_fits fitting
  look_fits none = refl
  look_fits (some c) = fits_by seen c s ∙ fits_for c (size_for seen c)

  grown_for : (is : List Placed) (c : ℕ) (u : Option ℕ) → size_for seen c ≡ u
      → first_differing_of (seen ++ record { correlation = c; size = s } ∷ []) is ≡ first_differing_of (grown seen (new_in (look_for line c s u))) is
  unfolding look_for new_in grown
  grown_for is c none e = refl
  grown_for is c (some t) e = rw (none_new (eqb t s)) (differing_same (seen ++ record { correlation = c; size = s } ∷ []) seen is (seen_again seen c s t e))

  pub look_grown : (is : List Placed) (o : Option ℕ) → first_differing_of (seen_after seen o s) is ≡ first_differing_of (grown seen (new_in (look_of line seen o s))) is
  unfolding look_of seen_after new_in grown
  look_grown is none = refl
  look_grown is (some c) = grown_for is c (size_for seen c) refl

-- ---- the numbers of lines rise

abbrev pub LinesFrom : ℕ → List Placed → Type 0
LinesFrom k [] = Unit {0}
LinesFrom k (i ∷ is) = (k ≤ i.line) × LinesFrom i.line is

from_less : (j k : ℕ) (is : List Placed) → j ≤ k → LinesFrom k is → LinesFrom j is
from_less j k [] h f = tt
from_less j k (i ∷ is) h f = (omega (arith, f.0), f.1)

gather_from : (k : ℕ) (l : List ℕ) (o : Option Written) (g : Gathered) → LinesFrom k g.instructions → LinesFrom k (gather k l o g).instructions
unfolding gather
gather_from k l none g f = f
gather_from k l (some (Written.header h)) g f = f
gather_from k l (some (Written.line i)) g f = (omega arith, f)
gather_from k l (some (Written.noise n)) g f = (omega arith, f)
gather_from k l (some (Written.element w P)) g f = f

pub gathered_from : (k : ℕ) (ls : List (List ℕ)) → LinesFrom k (gathered k ls).instructions
unfolding gathered
gathered_from k [] = tt
gathered_from k (l ∷ ls) =
    gather_from k l (read_line_of l) (gathered (suc k) ls) (from_less k (suc k) (gathered (suc k) ls).instructions (omega arith) (gathered_from (suc k) ls))

abbrev AtLeast : ℕ → Option ℕ → Type 0
AtLeast k none = Unit {0}
AtLeast k (some m) = k ≤ m

least_less : (j k : ℕ) (o : Option ℕ) → j ≤ k → AtLeast k o → AtLeast j o
least_less j k none h a = tt
least_less j k (some m) h a = omega arith

at_least : (k m : ℕ) (b : Bool) (o : Option ℕ) → k ≤ m → AtLeast m o → AtLeast k (cond b o (some m))
at_least k m true o h a = least_less k m o h a
at_least k m false o h a = h

unlike_from : (k : ℕ) (seen : List Seen) (is : List Placed) → LinesFrom k is → AtLeast k (unlike seen is)
unfolding unlike
unlike_from k seen [] f = tt
unlike_from k seen (i ∷ is) f =
    at_least k i.line (size_fits seen (correlation_of i.instruction) (said_size i.instruction)) (unlike seen is) f.0 (unlike_from i.line seen is f.1)

differing_from : (k : ℕ) (seen : List Seen) (is : List Placed) → LinesFrom k is → AtLeast k (first_differing_of seen is)
unfolding first_differing_by
differing_from k seen [] f = tt
differing_from k seen (i ∷ is) f =
    let more = seen_after seen (correlation_of i.instruction) (said_size i.instruction) in
    at_least k i.line (size_fits seen (correlation_of i.instruction) (said_size i.instruction)) (first_differing_of more is) f.0
    (differing_from i.line (seen_after seen (correlation_of i.instruction) (said_size i.instruction)) is f.1)

earliest_first : (k : ℕ) (o : Option ℕ) → AtLeast k o → earliest (some k) o ≡ some k
unfolding earliest
earliest_first k none a = refl
earliest_first k (some m) a = let e : min k m ≡ k = omega arith in ap some e

earliest_last : (k : ℕ) (o : Option ℕ) → AtLeast k o → earliest o (some k) ≡ some k
unfolding earliest
earliest_last k none a = refl
earliest_last k (some m) a = let e : min m k ≡ k = omega arith in ap some e

-- ---- a table beside a new one

-- no correlation has two sizes
unfoldable Consistent : List Seen → List Seen → Type 0
Consistent a b = (c t u : ℕ) → size_for a c ≡ some t → size_for b c ≡ some u → t ≡ u

some_eq : {t u : ℕ} → some t ≡ some u → t ≡ u
some_eq e = cc

consistent_more : (a b : List Seen) (c s : ℕ) → Consistent a b → ((t : ℕ) → size_for a c ≡ some t → t ≡ s) → Consistent a (b ++ record { correlation = c; size = s } ∷ [])
unfolding Consistent or_else
consistent_more a b c s k h d t u e f = go (size_for b d) refl (eqb c d) refl (sym (size_append b (record { correlation = c; size = s } ∷ []) d) ∙ f)
  where
    go : (o : Option ℕ) → size_for b d ≡ o → (q : Bool) → eqb c d ≡ q → or_else o (size_for (record { correlation = c; size = s } ∷ []) d) ≡ some u → t ≡ u
    go (some v) g q r m = k d t u e (g ∙ m)
    go none g true r m =
        let here : size_for a c ≡ some t = ap (size_for a) (eqb-true c d r) ∙ e in
        h t here ∙ some_eq (sym (size_one c s d ∙ rw r) ∙ m)
    go none g false r m = let z : none ≡ some u = sym (size_one c s d ∙ rw r) ∙ m in let y : ◌≡◌ {A = ℕ} 0 1 = cc in absurd (omega arith)

-- one line beside a table a and a new table b, where the sizes seen are u and v
module _ (a b : List Seen) (is : List Placed) (m c s : ℕ) (from : LinesFrom m is) where
  abbrev more : List Seen
  more = b ++ record { correlation = c; size = s } ∷ []

  apart_line : (u v : Option ℕ) → ((t w : ℕ) → u ≡ some t → v ≡ some w → t ≡ w)
      → (((t : ℕ) → u ≡ some t → t ≡ s) → first_differing_of (a ++ more) is ≡ earliest (unlike a is) (first_differing_of more is))
      → cond (same_size (or_else u v) s) (first_differing_of (a ++ more) is) (some m)
      ≡ earliest (cond (same_size u s) (unlike a is) (some m)) (cond (same_size v s) (first_differing_of more is) (some m))
  unfolding same_size or_else
  apart_line none v n later = go (same_size v s) (later (λ t e. let z : ◌≡◌ {A = ℕ} 0 1 = cc in absurd (omega arith)))
    where
      go : (q : Bool) → first_differing_of (a ++ more) is ≡ earliest (unlike a is) (first_differing_of more is)
          → cond q (first_differing_of (a ++ more) is) (some m) ≡ earliest (unlike a is) (cond q (first_differing_of more is) (some m))
      go true e = e
      go false e = sym (earliest_last m (unlike a is) (unlike_from m a is from))
  apart_line (some t) v n later = go (eqb t s) refl v n
    where
      go : (q : Bool) → eqb t s ≡ q → (v : Option ℕ) → ((t' w : ℕ) → some t ≡ some t' → v ≡ some w → t' ≡ w)
          → cond q (first_differing_of (a ++ more) is) (some m) ≡ earliest (cond q (unlike a is) (some m)) (cond (same_size v s) (first_differing_of more is) (some m))
      go true e none k = later (λ t' f. sym (some_eq f) ∙ eqb-true t s e)
      go true e (some w) k =
          let same : w ≡ s = sym (k t w refl refl) ∙ eqb-true t s e in
          rw (eq-eqb w s same) (later (λ t' f. sym (some_eq f) ∙ eqb-true t s e))
      go false e v k = sym (earliest_first m _ (at_least m m (same_size v s) (first_differing_of more is) (omega arith) (differing_from m more is from)))

-- a table, and a new one for the same lines
module _ (a : List Seen) where
  apart_step : (b : List Seen) (m s : ℕ) (is : List Placed) (o : Option ℕ) → LinesFrom m is → Consistent a b
      → ((b' : List Seen) → Consistent a b' → first_differing_of (a ++ b') is ≡ earliest (unlike a is) (first_differing_of b' is))
      → cond (size_fits (a ++ b) o s) (first_differing_of (seen_after (a ++ b) o s) is) (some m)
      ≡ earliest (cond (size_fits a o s) (unlike a is) (some m)) (cond (size_fits b o s) (first_differing_of (seen_after b o s) is) (some m))
  unfolding size_fits seen_after Consistent
  apart_step b m s is none f n later = later b n
  apart_step b m s is (some c) f n later =
      rw (agrees_by (a ++ b) c s, agrees_by a c s, agrees_by b c s, size_append a b c, append_assoc a b (record { correlation = c; size = s } ∷ []))
      (apart_line a b is m c s f (size_for a c) (size_for b c) (n c) (λ h. later (b ++ record { correlation = c; size = s } ∷ []) (consistent_more a b c s n h)))

  apart : (b : List Seen) (k : ℕ) (is : List Placed) → LinesFrom k is → Consistent a b → first_differing_of (a ++ b) is ≡ earliest (unlike a is) (first_differing_of b is)
  unfolding first_differing_by unlike earliest
  apart b k [] f n = refl
  apart b k (i ∷ is) f n = apart_step b i.line (said_size i.instruction) is (correlation_of i.instruction) f.1 n (λ b' n'. apart b' i.line is f.1 n')

  -- the lines that differ from the table, and those that differ from each other
  pub round_parts : (k : ℕ) (is : List Placed) → LinesFrom k is → first_differing_of a is ≡ earliest (unlike a is) (first_differing_of [] is)
  unfolding Consistent size_for
  round_parts k is f =
      ap (λ (x : List Seen). first_differing_of x is) (sym (append-nil a)) ∙ apart [] k is f (λ c t u e g. let z : ◌≡◌ {A = ℕ} 0 1 = cc in absurd (omega arith))

-- ---- the earlier line

pub earliest_none : (o : Option ℕ) → earliest o none ≡ o
unfolding earliest
earliest_none none = refl
earliest_none (some a) = refl

pub earliest_assoc : (a b c : Option ℕ) → earliest (earliest a b) c ≡ earliest a (earliest b c)
unfolding earliest
earliest_assoc none b c = refl
earliest_assoc (some a) none c = refl
earliest_assoc (some a) (some b) none = refl
earliest_assoc (some a) (some b) (some c) = let e : min (min a b) c ≡ min a (min b c) = omega arith in ap some e

pub earlier_second : (b : Maybe ℕ) → line_in b ≡ earliest (line_in None) (line_in b)
unfolding line_in earliest
earlier_second b = refl

pub earlier_first : (a : ℕ) → line_in (Some a) ≡ earliest (line_in (Some a)) (line_in None)
unfolding line_in earliest
earlier_first a = refl

pub earlier_least : (a b m : ℕ) → m ≡ min a b → line_in (Some m) ≡ earliest (line_in (Some a)) (line_in (Some b))
unfolding line_in earliest
earlier_least a b m e = ap some e
