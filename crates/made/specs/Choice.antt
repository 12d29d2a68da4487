-- Definitions. What is chosen by the words of the stream, as docs/MAKING.md has it: a choice goes on from the stream's state, and leaves the state behind the
-- words that it took. Assumes nothing.
use Rattle.std.specs.Prelude.{cond, ◌&&◌, List, [], ◌∷◌, ℕ, zero, suc, ◌/◌, ◌%◌, min, eqb, ltb}
use Rattle.stream.specs.Stream.{step}
use Rattle.job.specs.Line.{SparsePauli}

-- what was chosen, and the state behind it
pub record Chosen (A : Type 0) : Type 0 where
  pub value : A
  pub state : ℕ

abbrev pub Choice : Type 0 → Type 0
Choice A = ℕ → Chosen A

-- a value that takes no word
unfoldable pub given : {A : Type 0} → A → Choice A
given a state = record { value = a; state = state }

infixr 20 ◌>>=◌
-- one choice, and then one that looks at it
unfoldable pub ◌>>=◌ : {A B : Type 0} → Choice A → (A → Choice B) → Choice B
(first >>= next) state = next (first state).value (first state).state

-- the next word modulo n
unfoldable pub pick : ℕ → Choice ℕ
pick n state = record { value = step state % n; state = step state }

-- of the k numbers from q on, those below top whose bit of m is 1, from bit 0 on
unfoldable pub marked : ℕ → ℕ → ℕ → ℕ → List ℕ
marked zero top q m = []
marked (suc k) top q m =
    let later = marked k top (suc q) (m / 2) in
    cond (eqb (m % 2) 1 && ltb q top) (q ∷ later) later

-- a rising list of at most 8 numbers below top; where there are none, it is empty and takes no word
unfoldable pub few : ℕ → Choice (List ℕ)
few zero = given []
few (suc t) = pick (suc t) >>= λ a. pick 256 >>= λ m. given (marked 8 (suc t) a m)

unfoldable pub pauli : ℕ → Choice SparsePauli
pauli n = few n >>= λ x. few n >>= λ z. given (record { x = x; z = z })

-- (a + i) mod n, for i below k
unfoldable pub cyclic : ℕ → ℕ → ℕ → List ℕ
cyclic zero n a = []
cyclic (suc k) n a = a % n ∷ cyclic k n (suc a)

-- 1 to `most` of n numbers, each once
unfoldable pub stretch : ℕ → ℕ → Choice (List ℕ)
stretch n most = pick (min n most) >>= λ k. pick n >>= λ a. given (cyclic (suc k) n a)
