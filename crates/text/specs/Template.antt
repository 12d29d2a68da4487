-- Definitions. A line by its template. A template is the line as document 01 writes it, with a letter for each value:
--
--     N a number    H 16 hexadecimal digits    B 0 or 1    L a strictly rising list    Q a list in any order    T a list of H    C a number, or - for none
--
-- Every other byte stands for itself, so `op=i shot=N x=L z=L` is the line of an injection: key=value fields in the order given, one space between.
-- Assumes nothing.
use Rattle.std.specs.Prelude.{ℕ, Bool, cond, ◌&&◌, List, [], ◌∷◌, ◌++◌, eqb, leb, get_or, take, drop}
use Rattle.std.proofs.Math.Option.{Option, none, some}
use Rattle.text.specs.Bytes.{space, until}
use Rattle.text.specs.Number.{number_of, hex_of, bit_of, decimal, hexadecimal}
use Rattle.text.specs.List.{list_L, list_Q, list_T, list_C, list_text_by}

-- the value of a field
pub data Value : Type 0 where
  number : ℕ → Value
  list : List ℕ → Value

unfoldable pub a_number : Option ℕ → Option Value
a_number none = none
a_number (some n) = some (number n)

unfoldable pub a_list : Option (List ℕ) → Option Value
a_list none = none
a_list (some l) = some (list l)

-- whether a byte of a template is a letter for a value
abbrev pub is_letter_of : ℕ → Bool
is_letter_of t = leb 65 t && leb t 90

-- ---- read

-- what the bytes of a value are, by the template's letter: N, H, B, L, Q, T, C; nothing by any other
unfoldable pub value_of : ℕ → List ℕ → Option Value
value_of t v =
    cond (eqb t 78) (a_number (number_of v))
    (cond (eqb t 72) (a_number (hex_of v))
    (cond (eqb t 66) (a_number (bit_of v))
    (cond (eqb t 76) (a_list (list_L v))
    (cond (eqb t 81) (a_list (list_Q v))
    (cond (eqb t 84) (a_list (list_T v))
    (cond (eqb t 67) (a_list (list_C v)) none))))))

unfoldable pub and_then : Option Value → Option (List Value) → Option (List Value)
and_then none o = none
and_then (some d) none = none
and_then (some d) (some ds) = some (d ∷ ds)

unfoldable pub same_byte : ℕ → List ℕ → (List ℕ → Option (List Value)) → Option (List Value)
same_byte t [] k = none
same_byte t (b ∷ l) k = let rest = k l in cond (eqb b t) rest none

unfoldable pub at_end : List ℕ → Option (List Value)
at_end [] = some []
at_end (b ∷ l) = none

-- the values of a line, in the order of its template; nothing where the line has not that form. A value goes up to the next space.
unfoldable pub values_of : List ℕ → List ℕ → Option (List Value)
values_of [] l = at_end l
values_of (t ∷ ts) l =
    let value = and_then (value_of t (take (until space l) l)) (values_of ts (drop (until space l) l)) in
    let literal = same_byte t l (values_of ts) in
    cond (is_letter_of t) value literal

-- the numbers and the lists among some values
unfoldable pub numbers_in : List Value → List ℕ
numbers_in [] = []
numbers_in (number n ∷ ds) = n ∷ numbers_in ds
numbers_in (list l ∷ ds) = numbers_in ds

unfoldable pub lists_in : List Value → List (List ℕ)
lists_in [] = []
lists_in (number n ∷ ds) = lists_in ds
lists_in (list l ∷ ds) = l ∷ lists_in ds

-- the i-th number and the i-th list of a line
abbrev pub number_at : ℕ → List Value → ℕ
number_at i ds = get_or (numbers_in ds) i 0

abbrev pub list_at_of : ℕ → List Value → List ℕ
list_at_of i ds = get_or (lists_in ds) i []

-- ---- written

-- a value as the job writes it, by the template's letter: H, and each member of a T, by hexadecimal digits
unfoldable pub value_text : ℕ → Value → List ℕ
value_text t (number n) = cond (eqb t 72) (hexadecimal n) (decimal n)
value_text t (list l) = list_text_by (cond (eqb t 84) hexadecimal decimal) l

unfoldable pub first_text : ℕ → List Value → (List Value → List ℕ) → List ℕ
first_text t [] k = []
first_text t (d ∷ ds) k = value_text t d ++ k ds

-- a line of a template with these values
unfoldable pub line_text : List ℕ → List Value → List ℕ
line_text [] ds = []
line_text (t ∷ ts) ds = cond (is_letter_of t) (first_text t ds (line_text ts)) (t ∷ line_text ts ds)
