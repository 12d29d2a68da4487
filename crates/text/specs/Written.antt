-- Definitions: the values that can be written by a template, what `Theorems` asks of them. Assumes nothing.
use Rattle.std.specs.Prelude.{ℕ, ◌^◌, ◌≤◌, ◌<◌, ◌≡◌, Bool, true, cond, not, ◌&&◌, ◌||◌, List, [], ◌∷◌, eqb, length, get_or}
use Rattle.text.specs.Bytes.{LF, space, until}
use Rattle.text.specs.List.{is_rising_of}
use Rattle.text.specs.Template.{Value, is_letter_of}

-- every member is below 2^64; past the end get_or gives 0
abbrev pub AllSmall : List ℕ → Type 0
AllSmall l = (i : ℕ) → get_or l i 0 < 2 ^ 64

-- L is strictly rising
pub record FitL (l : List ℕ) : Type 0 where
  pub rising : is_rising_of l ≡ true
  pub small : AllSmall l

-- Q and T are never empty
pub record FitQ (l : List ℕ) : Type 0 where
  pub filled : 0 < length l
  pub small : AllSmall l

-- C has at most one member
pub record FitC (l : List ℕ) : Type 0 where
  pub single : length l ≤ 1
  pub small : AllSmall l

-- What may stand for each letter: for N and H a number below 2^64, for B 0 or 1, and lists of numbers below 2^64: for L a strictly rising one, for Q and T
-- one that is not empty, for C one of at most one member.
pub data Suits : ℕ → Value → Type 0 where
  N : {n : ℕ} → n < 2 ^ 64 → Suits 78 (Value.number n)
  H : {n : ℕ} → n < 2 ^ 64 → Suits 72 (Value.number n)
  B : {n : ℕ} → n < 2 → Suits 66 (Value.number n)
  L : {l : List ℕ} → FitL l → Suits 76 (Value.list l)
  Q : {l : List ℕ} → FitQ l → Suits 81 (Value.list l)
  T : {l : List ℕ} → FitQ l → Suits 84 (Value.list l)
  C : {l : List ℕ} → FitC l → Suits 67 (Value.list l)

abbrev pub FirstSuits : ℕ → (List Value → Type 0) → List Value → Type 0
FirstSuits t rest [] = ⊥
FirstSuits t rest (d ∷ ds) = Suits t d × rest ds

-- one value for each letter of a template, in order
abbrev pub AllSuit : List ℕ → List Value → Type 0
AllSuit [] [] = Unit {0}
AllSuit [] (d ∷ ds) = ⊥
AllSuit (t ∷ ts) ds = cond (is_letter_of t) (FirstSuits t (AllSuit ts) ds) (AllSuit ts ds)

-- at the end, or before a space
unfoldable pub at_space : List ℕ → Bool
at_space [] = true
at_space (b ∷ l) = eqb b space

-- a template of one line: a space or the end stands behind each of its letters, and no LF among its bytes
unfoldable pub of_one_line : List ℕ → Bool
of_one_line [] = true
of_one_line (t ∷ ts) = (not (is_letter_of t) || at_space ts) && not (eqb t LF) && of_one_line ts

-- the byte `sep` is not among these
abbrev pub Free : ℕ → List ℕ → Type 0
Free sep l = until sep l ≡ length l

abbrev pub AllFree : ℕ → List (List ℕ) → Type 0
AllFree sep [] = Unit {0}
AllFree sep (l ∷ ls) = Free sep l × AllFree sep ls
