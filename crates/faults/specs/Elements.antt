-- The elements of a distribution in lent words. Definitions. Assumes nothing.
use Rattle.std.specs.Prelude.{ℕ, ◌+◌, ◌*◌, ◌≤◌, ◌<◌, ◌≡◌, List, length, get_or, take, drop}
use Rattle.template.specs.Values.{held_count, held_member}
use Rattle.job.specs.Line.{SparsePauli, Distribution}
use Rattle.draws.specs.Draws.{no_pauli}

-- ---- where they lie: element e in 64 words, the counts of its two lists, then 31 words for each

-- there are as many words as 64 elements take, and as element e takes
abbrev pub AllInside : List ℕ → Type 0
AllInside words = 4096 ≤ length words

abbrev pub Inside : List ℕ → ℕ → Type 0
Inside words e = e * 64 + 64 ≤ length words

-- how many members each list has
abbrev pub x_count : List ℕ → ℕ → ℕ
x_count words e = get_or words (e * 64) 0

abbrev pub z_count : List ℕ → ℕ → ℕ
z_count words e = get_or words (e * 64 + 1) 0

-- the words from its first member on
abbrev pub x_members : List ℕ → ℕ → List ℕ
x_members words e = drop (e * 64 + 2) words

abbrev pub z_members : List ℕ → ℕ → List ℕ
z_members words e = drop (e * 64 + 33) words

-- the two lists
abbrev pub element_X : List ℕ → ℕ → List ℕ
element_X words e = take (x_count words e) (x_members words e)

abbrev pub element_Z : List ℕ → ℕ → List ℕ
element_Z words e = take (z_count words e) (z_members words e)

-- both counts, and the 62 words for both lists
abbrev pub element_counts_of : List ℕ → ℕ → List ℕ
element_counts_of words e = take 2 (drop (e * 64) words)

abbrev pub element_members_of : List ℕ → ℕ → List ℕ
element_members_of words e = take 62 (x_members words e)

-- two lists of a line's values, the one in slot `first` and the next, were kept as element e; its words behind the members may be any, those of other
-- elements stay
pub record Kept (e first : ℕ) (values before after : List ℕ) : Type 0 where
  pub long : length after ≡ length before
  pub x_count_lem : x_count after e ≡ held_count values first
  pub z_count_lem : z_count after e ≡ held_count values (first + 1)
  pub x : (j : ℕ) → j < 31 → j < held_count values first → get_or after (e * 64 + 2 + j) 0 ≡ held_member values first j
  pub z : (j : ℕ) → j < 31 → j < held_count values (first + 1) → get_or after (e * 64 + 33 + j) 0 ≡ held_member values (first + 1) j
  pub others : (k : ℕ) → (e * 64 ≤ k → k < e * 64 + 64 → ⊥) → get_or after k 0 ≡ get_or before k 0

-- ---- what they hold

-- a Pauli as element e
pub record ElementHeld (elements : List ℕ) (e : ℕ) (P : SparsePauli) : Type 0 where
  pub x_few : length P.x ≤ 31
  pub z_few : length P.z ≤ 31
  pub x_count_lem : x_count elements e ≡ length P.x
  pub z_count_lem : z_count elements e ≡ length P.z
  pub x : element_X elements e ≡ P.x
  pub z : element_Z elements e ≡ P.z

-- qubits as the first list of element 0
pub record QubitsHeld (elements qubits : List ℕ) : Type 0 where
  pub few : length qubits ≤ 31
  pub count : x_count elements 0 ≡ length qubits
  pub is : element_X elements 0 ≡ qubits

-- the elements of a distribution; of a depolarizing one its qubits
unfoldable pub DistributionHeld : Distribution → List ℕ → Type 0
DistributionHeld (Distribution.single P) l = ElementHeld l 0 P
DistributionHeld (Distribution.depolarizing qs) l = QubitsHeld l qs
DistributionHeld (Distribution.uniform Ps) l = (e : ℕ) → e < length Ps → ElementHeld l e (get_or Ps e no_pauli)
DistributionHeld (Distribution.weighted es) l = (e : ℕ) → e < length es → ElementHeld l e (get_or es e (record { weight = 0; pauli = no_pauli })).pauli
