-- Definitions: what was put of made noise. Assumes nothing.
use Prim.Native.String.{String}
use Rattle.std.specs.Prelude.{◌≡◌, Bool, cond, List, [], ◌∷◌, ◌++◌, ℕ, ◌+◌, ◌≤◌, get_or}
use Rattle.text.specs.Bytes.{bytes}
use Rattle.text.specs.Number.{decimal, hexadecimal}
use Rattle.text.specs.List.{list_text}
use Rattle.text.specs.Template.{Value, line_text}
use Rattle.writer.specs.Placed.{Puts}
use Rattle.made.specs.Choice.{Chosen, Choice, given, ◌>>=◌, pick}
use Rattle.made.specs.Making.{probabilities, correlation, NoiseStart}
use Rattle.made_fields.specs.declared.Making.{Making}

-- p and corr, with which a noise line begins
unfoldable pub beginning : Choice (List ℕ)
beginning =
    pick 6 >>= λ p. pick 16 >>= λ c.
    given (line_text (bytes "op=n p=H corr=C") (Value.number (get_or probabilities p 0) ∷ Value.list (correlation c) ∷ []))

-- a noise line up to its distribution, and the rest of it
abbrev pub start_text : NoiseStart → List ℕ → List ℕ
start_text s rest =
    bytes "op=n p="
    ++ (hexadecimal s.probability
    ++ (bytes " corr="
    ++ (list_text s.correlation ++ (bytes " cond=" ++ (list_text s.outcomes ++ (bytes " parity=" ++ (decimal s.parity ++ rest)))))))

-- what every noise line has in front was put
pub record StartIs (c : Chosen NoiseStart) (m r : Making) (out after : List ℕ) : Type 0 where
  pub puts : Puts m.at (start_text c.value []) out after r.at
  pub recorded : r.recorded ≡ m.recorded
  pub state : r.state ≡ c.state
  pub near : r.at ≤ m.at + 400

-- how a line ends that n element lines follow
abbrev pub count_text : Bool → ℕ → List ℕ
count_text weighted n = line_text (bytes (cond weighted " d=4 n=N size=N" " d=3 n=N size=N")) (Value.number n ∷ Value.number n ∷ [])

-- the template of such a line
abbrev pub listed_template : Bool → String
listed_template weighted = cond weighted "op=n p=H corr=C cond=L parity=B d=4 n=N size=N" "op=n p=H corr=C cond=L parity=B d=3 n=N size=N"
