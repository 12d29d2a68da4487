-- Laws: element lines that were put, and noise with them. Assumes nothing.
use Rattle.std.specs.Prelude.{◌≡◌, refl, Bool, true, false, List, [], ◌∷◌, ◌++◌, ℕ, suc, ◌+◌, ◌-◌, ◌*◌, ◌≤◌, ◌<◌, get_or}
use Rattle.std.proofs.Common.{sym, ◌∙◌, append_assoc, add-one}
use Rattle.std.proofs.Math.Nat.{sub-zero}
use native.Mathlib.Omega.{arith}
use Rattle.text.specs.Bytes.{LF, bytes, unlines}
use Rattle.text.specs.Number.{hexadecimal}
use Rattle.text.specs.Template.{Value, value_text, first_text, line_text}
use Rattle.job.specs.declared.Header.{Header}
use Rattle.writer.specs.Placed.{Puts}
use Rattle.writer.specs.Laws.Placing.{puts_nothing, puts_more, Rest, rest_all, rest_more, rest_none}
use Rattle.writer.specs.Laws.Lists.{hex_length}
use Rattle.made.specs.Choice.{given, ◌>>=◌, pick, pauli}
use Rattle.made.specs.Making.{weights, NoiseStart, start_values, noise_start, element_text, elements, listed}
use Rattle.made_fields.specs.declared.choices.Number.{Number}
use Rattle.made_fields.specs.Chosen.{NumberIs}
use Rattle.made_fields.specs.declared.Making.{Making}
use Rattle.made_fields.specs.Lines.{PartIs, PauliIs, MadeIs}
use Rattle.made_fields.specs.Laws.Fields.{pauli_more}
use Rattle.made_lines.specs.Noise.{start_text, StartIs, count_text, listed_template}
use Rattle.made_lines.specs.Laws.Noise.{start_more}

-- ---- an element line

module _ (n place : ℕ) {m p r : Making} {out o1 after : List ℕ} where
  pub uniform_put : PauliIs (bytes "x=") (pauli n m.state) m p out o1 → PartIs 1 (LF ∷ []) p.state p r o1 after
      → PartIs 500 (element_text false place (pauli n m.state).value ++ LF ∷ []) (pauli n m.state).state m r out after
  unfolding bytes line_text first_text value_text element_text
  uniform_put q e =
      record {
        puts = puts_more (pauli_more q puts_nothing) e.puts;
        recorded = e.recorded ∙ q.recorded;
        state = e.state ∙ q.state;
        near = omega (arith, q.near, e.near);
      }

  pub weighted_put : {mid : Making} {x next at : ℕ} {o2 o3 : List ℕ} → Puts m.at (bytes "w=") out o2 next → x ≡ get_or weights place 0
      → Puts next (hexadecimal x) o2 o3 at → mid ≡ record { at = at; recorded = m.recorded; state = m.state }
      → PauliIs (bytes " x=") (pauli n mid.state) mid p o3 o1 → PartIs 1 (LF ∷ []) p.state p r o1 after
      → PartIs 500 (element_text true place (pauli n m.state).value ++ LF ∷ []) (pauli n m.state).state m r out after
  unfolding bytes line_text first_text value_text element_text
  weighted_put {x = x} name w hex em q e =
      let t = rw em at q in
      record {
        puts = puts_more (puts_more name (puts_more (rw w at hex) (pauli_more t puts_nothing))) e.puts;
        recorded = e.recorded ∙ t.recorded;
        state = e.state ∙ t.state;
        near = omega (arith, name.place, hex.place, hex_length x, t.near, e.near);
      }

-- ---- all element lines

-- those before place i are put
pub record Elements (n : ℕ) (weighted : Bool) (count : ℕ) (first : Making) (out : List ℕ) (i : ℕ) (m : Making) (after : List ℕ) : Type 0 where
  pub within : i ≤ count
  pub recorded : m.recorded ≡ first.recorded
  pub left : (elements n weighted (count - i) i m.state).state ≡ (elements n weighted count 0 first.state).state
  pub near : m.at ≤ first.at + 500 * i
  pub rest : Rest first.at (unlines (elements n weighted count 0 first.state).value) out m.at (unlines (elements n weighted (count - i) i m.state).value) after

pub elements_none : {n : ℕ} {weighted : Bool} {count : ℕ} {m : Making} {out : List ℕ} → Elements n weighted count m out 0 m out
elements_none = record { within = omega arith; recorded = refl; left = rw sub-zero; near = omega arith; rest = rw sub-zero rest_all }

module _ (n : ℕ) (weighted : Bool) (count i state : ℕ) (l : i < count) where
  one_more : count - i ≡ suc (count - (i + 1))
  one_more = omega arith

  first_state : (elements n weighted (count - i) i state).state ≡ (elements n weighted (count - (i + 1)) (i + 1) (pauli n state).state).state
  unfolding elements ◌>>=◌ given
  first_state = rw (one_more, add-one)

  first_text_lem : unlines (elements n weighted (count - i) i state).value
      ≡ (element_text weighted i (pauli n state).value ++ LF ∷ []) ++ unlines (elements n weighted (count - (i + 1)) (i + 1) (pauli n state).state).value
  unfolding elements ◌>>=◌ given unlines
  first_text_lem = rw (one_more, add-one) (sym (append_assoc (element_text weighted i (pauli n state).value) (LF ∷ []) _))

module _ {n : ℕ} {weighted : Bool} {count : ℕ} {first : Making} {out : List ℕ} {i : ℕ} {m : Making} {mid : List ℕ} (p : Elements n weighted count first out i m mid) where
  pub elements_more : {r : Making} {after : List ℕ} → i < count
      → PartIs 500 (element_text weighted i (pauli n m.state).value ++ LF ∷ []) (pauli n m.state).state m r mid after
      → Elements n weighted count first out (i + 1) r after
  elements_more l e =
      record {
        within = omega arith;
        recorded = e.recorded ∙ p.recorded;
        left = rw e.state (sym (first_state n weighted count i m.state l) ∙ p.left);
        near = omega (arith, p.near, e.near);
        rest = rw e.state (rest_more (rw (first_text_lem n weighted count i m.state l) at p.rest) e.puts);
      }

  pub elements_all : count ≤ i → count ≤ 4
      → PartIs 2000 (unlines (elements n weighted count 0 first.state).value) (elements n weighted count 0 first.state).state first m out mid
  unfolding elements given unlines
  elements_all l few =
      let none : count - i ≡ 0 = omega arith in
      record {
        puts = rest_none (rw none at p.rest);
        recorded = p.recorded;
        state = rw none at p.left;
        near = omega (arith, p.near, p.within);
      }

-- ---- d=3 and d=4

listed_text : (weighted : Bool) (s : NoiseStart) (n : ℕ)
    → line_text (bytes (listed_template weighted)) (start_values s ++ Value.number n ∷ Value.number n ∷ []) ≡ start_text s (count_text weighted n)
unfolding bytes line_text first_text value_text
listed_text true s n = refl
listed_text false s n = refl

pub listed_made : (weighted : Bool) (h : Header) {m s mid first r : Making} {n : Number} {at : ℕ} {out o1 o2 o3 after : List ℕ}
    → StartIs (noise_start h m.recorded m.state) m s out o1 → NumberIs (pick 4 s.state) n → Puts s.at (count_text weighted (n.value + 1)) o1 o2 at
    → mid ≡ record { at = at; recorded = m.recorded; state = n.state } → PartIs 1 (LF ∷ []) mid.state mid first o2 o3
    → PartIs 2000 (unlines (elements h.qubits weighted (n.value + 1) 0 first.state).value) (elements h.qubits weighted (n.value + 1) 0 first.state).state first r o3 after
    → MadeIs (listed h m.recorded weighted (listed_template weighted) m.state) m r out after
unfolding listed unlines ◌>>=◌ given
listed_made weighted h {m} start k c em e els =
    let n = rw start.state at k in
    let f = rw em at e in
    let es = rw (f.state, n.state, n.value, add-one) at els in
    record {
      puts = rw (listed_text weighted (noise_start h m.recorded m.state).value _) (puts_more (start_more start (rw (n.value, add-one) at c)) (puts_more f.puts es.puts));
      recorded = es.recorded ∙ f.recorded;
      state = es.state;
    }
