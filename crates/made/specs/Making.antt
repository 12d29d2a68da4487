-- Definitions. A made instruction, kind by kind, as docs/MAKING.md has it: the values of its lines, which are written by the grammar's own templates.
-- Assumes nothing.
use Prim.Native.String.{String}
use Rattle.std.specs.Prelude.{Bool, true, false, cond, List, [], ◌∷◌, ◌++◌, ℕ, zero, suc, ◌+◌, ◌-◌, ◌%◌, eqb, ltb, leb, length, get_or, drop}
use Rattle.text.specs.Bytes.{bytes}
use Rattle.text.specs.Template.{Value, line_text}
use Rattle.job.specs.declared.Header.{Header}
use Rattle.job.specs.Line.{SparsePauli, Distribution, size_of}
use Rattle.job.specs.Grammar.{inject_template, depolarizing_template}
use Rattle.made.specs.Choice.{Choice, given, ◌>>=◌, pick, few, pauli, cyclic, stretch}

-- a made instruction: its lines, and how many outcomes are recorded behind it
pub record Made : Type 0 where
  pub texts : List (List ℕ)
  pub recorded : ℕ

-- one line of a template with these values
abbrev pub line : ℕ → List ℕ → List Value → Choice Made
line recorded template values = given (record { texts = line_text template values ∷ []; recorded = recorded })

abbrev pub pauli_values : SparsePauli → List Value
pauli_values P = Value.list P.x ∷ Value.list P.z ∷ []

-- ---- the constants of the rule

-- the words of a Clifford's table on so many qubits
pub record Table : Type 0 where
  pub qubits : ℕ
  pub words : List ℕ

abbrev pub table_on : ℕ → List ℕ → Table
table_on qubits words = record { qubits = qubits; words = words }

-- the six of one qubit up to Paulis, ControlledX, and an encoder of the five-qubit code
unfoldable pub tables : List Table
tables =
    table_on 1 (0x6 ∷ [])
    ∷ table_on 1 (0x7 ∷ [])
    ∷ table_on 1 (0x9 ∷ [])
    ∷ table_on 1 (0xb ∷ [])
    ∷ table_on 1 (0xd ∷ [])
    ∷ table_on 1 (0xe ∷ [])
    ∷ table_on 2 (0xc423 ∷ [])
    ∷ table_on 5 (0x9f81_8c52_929c_601f ∷ 0x8_ab05_648c ∷ [])
    ∷ []

-- those on at most so many qubits
unfoldable pub suited : ℕ → List Table → List Table
suited n [] = []
suited n (t ∷ ts) = let later = suited n ts in cond (leb t.qubits n) (t ∷ later) later

-- 0, 0.001, 0.01, 0.1, 0.5 and 1, by their bits
unfoldable pub probabilities : List ℕ
probabilities =
    0x0 ∷ 0x3f50_624d_d2f1_a9fc ∷ 0x3f84_7ae1_47ae_147b ∷ 0x3fb9_9999_9999_999a ∷ 0x3fe0_0000_0000_0000 ∷ 0x3ff0_0000_0000_0000 ∷ []

-- the weights of elements by their places: 1, 0, 0.5 and 0.25, by their bits
unfoldable pub weights : List ℕ
weights = 0x3ff0_0000_0000_0000 ∷ 0x0 ∷ 0x3fe0_0000_0000_0000 ∷ 0x3fd0_0000_0000_0000 ∷ []

-- ---- values

-- X parts alone, or Z parts alone
unfoldable pub one_sided : ℕ → List ℕ → List ℕ → List Value
one_sided y a b =
    cond (eqb y 0)
    (Value.list a ∷ Value.list [] ∷ Value.list b ∷ Value.list [] ∷ [])
    (Value.list [] ∷ Value.list a ∷ Value.list [] ∷ Value.list b ∷ [])

-- none for half of the values, else one of 8
unfoldable pub correlation : ℕ → List ℕ
correlation c = cond (ltb c 8) [] ((c - 8) ∷ [])

-- the parity of a condition; 0 and no word where there is none
unfoldable pub parity : List ℕ → Choice ℕ
parity [] = given 0
parity (id ∷ ids) = pick 2

-- what every noise line has in front: p, corr, cond and parity
pub record NoiseStart : Type 0 where
  pub probability : ℕ
  pub correlation : List ℕ
  pub outcomes : List ℕ
  pub parity : ℕ

abbrev pub start_values : NoiseStart → List Value
start_values s = Value.number s.probability ∷ Value.list s.correlation ∷ Value.list s.outcomes ∷ Value.number s.parity ∷ []

-- an element line, with the weight of its place or without
unfoldable pub element_text : Bool → ℕ → SparsePauli → List ℕ
element_text false place P = line_text (bytes "x=L z=L") (pauli_values P)
element_text true place P = line_text (bytes "w=H x=L z=L") (Value.number (get_or weights place 0) ∷ pauli_values P)

-- so many element lines on n qubits, from a place on
unfoldable pub elements : ℕ → Bool → ℕ → ℕ → Choice (List (List ℕ))
elements n weighted zero place = given []
elements n weighted (suc k) place =
    pauli n >>= λ P. elements n weighted k (suc place) >>= λ later. given (element_text weighted place P ∷ later)

-- a kind, and whether it can stand here
pub record Entry : Type 0 where
  pub stands : Bool
  pub made : Choice Made

abbrev pub always_stands : Choice Made → Entry
always_stands made = record { stands = true; made = made }

abbrev pub stands_if : Bool → Choice Made → Entry
stands_if stands made = record { stands = stands; made = made }

-- ---- each kind, in a job with this header where so many outcomes are recorded

module _ (h : Header) (recorded : ℕ) where
  -- how many gate codes there are to choose from
  unfoldable pub gate_codes_of : ℕ
  gate_codes_of = cond (eqb h.qubits 1) 11 (cond (eqb h.edition 2) 16 15)

  -- the qubits of a gate: a, and for a code from 11 on another one
  unfoldable pub gate_qubits_of : ℕ → ℕ → Choice (List ℕ)
  gate_qubits_of g a =
      let two = pick (h.qubits - 1) >>= λ d. given (a ∷ (a + 1 + d) % h.qubits ∷ []) in
      cond (ltb g 11) (given (a ∷ [])) two

  unfoldable pub unitary : Choice Made
  unitary =
      pick gate_codes_of >>= λ g. pick h.qubits >>= λ a. gate_qubits_of g a >>= λ qs.
      line recorded (bytes "op=u g=N q=Q") (Value.number g ∷ Value.list qs ∷ [])

  unfoldable pub clifford : Choice Made
  clifford =
      pick (length (suited h.qubits tables)) >>= λ i. pick h.qubits >>= λ a.
      let t = get_or (suited h.qubits tables) i (table_on 0 []) in
      line recorded (bytes "op=c q=Q t=T") (Value.list (cyclic t.qubits h.qubits a) ∷ Value.list t.words ∷ [])

  -- p and e
  unfoldable pub pauli_line : String → Choice Made
  pauli_line template = pauli h.qubits >>= λ P. line recorded (bytes template) (pauli_values P)

  unfoldable pub controlled : Choice Made
  controlled =
      pick 2 >>= λ y. few h.qubits >>= λ a. few h.qubits >>= λ b.
      line recorded (bytes "op=k x=L z=L u=L v=L") (one_sided y a b)

  unfoldable pub permute : Choice Made
  permute =
      stretch h.qubits 8 >>= λ qs. pick (length qs) >>= λ r.
      line recorded (bytes "op=m s=Q q=Q") (Value.list (cyclic (length qs) (length qs) r) ∷ Value.list qs ∷ [])

  unfoldable pub conditional : Choice Made
  conditional =
      pauli h.qubits >>= λ P. few recorded >>= λ ids. pick 2 >>= λ b.
      line recorded (bytes "op=f x=L z=L id=L parity=B") (pauli_values P ++ Value.list ids ∷ Value.number b ∷ [])

  -- one qubit in the first edition
  unfoldable pub reset_qubits_of : Choice (List ℕ)
  reset_qubits_of = cond (eqb h.edition 2) (stretch h.qubits 8) (pick h.qubits >>= λ a. given (a ∷ []))

  unfoldable pub reset : Choice Made
  reset = reset_qubits_of >>= λ qs. line recorded (bytes "op=z q=Q") (Value.list qs ∷ [])

  unfoldable pub inject : Choice Made
  inject = pick h.shots >>= λ shot. pauli h.qubits >>= λ P. line recorded inject_template (Value.number shot ∷ pauli_values P)

  unfoldable pub flip : Choice Made
  flip =
      pick h.shots >>= λ shot. pick recorded >>= λ id.
      line recorded (bytes "op=t shot=N id=N") (Value.number shot ∷ Value.number id ∷ [])

  unfoldable pub measure : Choice Made
  measure = pauli h.qubits >>= λ P. line (suc recorded) (bytes "op=o x=L z=L id=N") (pauli_values P ++ Value.number recorded ∷ [])

  unfoldable pub allocate : Choice Made
  allocate = pick 2 >>= λ angle. line (suc recorded) (bytes "op=r id=N angle=B") (Value.number recorded ∷ Value.number angle ∷ [])

  unfoldable pub barrier : Choice Made
  barrier = stretch h.qubits 8 >>= λ qs. line recorded (bytes "op=b q=Q") (Value.list qs ∷ [])

  -- ---- noise

  unfoldable pub noise_start : Choice NoiseStart
  noise_start =
      pick 6 >>= λ p. pick 16 >>= λ c. few recorded >>= λ ids. parity ids >>= λ b.
      given (record { probability = get_or probabilities p 0; correlation = correlation c; outcomes = ids; parity = b })

  unfoldable pub single : Choice Made
  single =
      noise_start >>= λ start. pauli h.qubits >>= λ P.
      line recorded (bytes "op=n p=H corr=C cond=L parity=B d=1 x=L z=L size=N") (start_values start ++ pauli_values P ++ Value.number 1 ∷ [])

  unfoldable pub depolarizing : Choice Made
  depolarizing =
      noise_start >>= λ start. stretch h.qubits 4 >>= λ qs.
      line recorded depolarizing_template (start_values start ++ Value.list qs ∷ Value.number (size_of (Distribution.depolarizing qs)) ∷ [])

  -- d=3 and d=4
  unfoldable pub listed : Bool → String → Choice Made
  listed weighted template =
      noise_start >>= λ start. pick 4 >>= λ n. elements h.qubits weighted (suc n) 0 >>= λ texts.
      given (record { texts = line_text (bytes template) (start_values start ++ Value.number (suc n) ∷ Value.number (suc n) ∷ []) ∷ texts; recorded = recorded })

  -- ---- the ring of kinds

  -- u, c, p, e, k, m, f, z, i, noise with d=1 to d=4, t, o, r; and b in the second edition
  unfoldable pub ring : List Entry
  ring =
      always_stands unitary
      ∷ always_stands clifford
      ∷ always_stands (pauli_line "op=p x=L z=L")
      ∷ always_stands (pauli_line "op=e x=L z=L")
      ∷ always_stands controlled
      ∷ always_stands permute
      ∷ always_stands conditional
      ∷ always_stands reset
      ∷ always_stands inject
      ∷ always_stands single
      ∷ always_stands depolarizing
      ∷ always_stands (listed false "op=n p=H corr=C cond=L parity=B d=3 n=N size=N")
      ∷ always_stands (listed true "op=n p=H corr=C cond=L parity=B d=4 n=N size=N")
      ∷ stands_if (ltb 0 recorded) flip
      ∷ stands_if (ltb recorded h.outcomes) measure
      ∷ stands_if (ltb recorded h.outcomes) allocate
      ∷ cond (eqb h.edition 2) (always_stands barrier ∷ []) []

  -- the first that can stand, and behind the last u
  unfoldable pub first_standing : List Entry → Choice Made
  first_standing [] = unitary
  first_standing (e ∷ es) = let later = first_standing es in cond e.stands e.made later

  unfoldable pub instruction : Choice Made
  instruction = pick (length ring) >>= λ k. first_standing (drop k ring)
