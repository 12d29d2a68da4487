-- The text of a made job as it is put: the header's line, then one instruction after the other. Laws. Assumes nothing.
use Rattle.std.specs.Prelude.{◌≡◌, Bool, true, false, cond, List, [], ◌∷◌, ◌++◌, ℕ, suc, ◌+◌, ◌-◌, ◌≤◌, ◌<◌, eqb, length}
use Rattle.std.proofs.Math.Path.{refl, sym}
use Rattle.std.proofs.Common.{ap, ◌∙◌, append_assoc, eq-eqb, ne_eqb, length-append}
use Rattle.std.proofs.Math.Nat.{sub-zero}
use native.Mathlib.Omega.{arith}
use Rattle.text.specs.Bytes.{LF, bytes, unlines}
use Rattle.text.specs.Template.{Value, line_text}
use Rattle.text.proofs.Laws.Written.{unlines_append}
use Rattle.job.specs.declared.Header.{Header}
use Rattle.job.specs.Sound.{HeaderSound}
use Rattle.writer.specs.Placed.{Puts}
use Rattle.line_writer.specs.Line.{is_list_of, values_in, Lent}
use Rattle.line_writer.specs.Laws.Lines.{line_length, numbers_lent}
use Rattle.writer.specs.Laws.Placing.{puts_more, Rest, rest_all, rest_more, rest_none}
use Rattle.made.specs.Making.{instruction}
use Rattle.made.specs.Made.{header_text, made_texts}
use Rattle.made.proofs.Laws.Jobs.{instruction_makes}
use Rattle.made_fields.specs.declared.Making.{Making}
use Rattle.made_fields.specs.Lines.{MadeIs, Ready}
use Rattle.job_maker.specs.Whole.{job_text, JobPut}

-- ---- the header's line

module _ (e q o s : ℕ) where
  pub second_lent : Lent (bytes "op=job edition=N qubits=N outcomes=N shots=N") (e ∷ q ∷ o ∷ s ∷ []) [] []
  unfolding is_list_of bytes
  second_lent = numbers_lent (bytes "op=job edition=N qubits=N outcomes=N shots=N") (e ∷ q ∷ o ∷ s ∷ []) (omega arith) refl

  pub first_lent : Lent (bytes "op=job qubits=N outcomes=N shots=N") (q ∷ o ∷ s ∷ []) [] []
  unfolding is_list_of bytes
  first_lent = numbers_lent (bytes "op=job qubits=N outcomes=N shots=N") (q ∷ o ∷ s ∷ []) (omega arith) refl

  -- the lines as they are put
  abbrev pub second_text : List ℕ
  second_text =
      line_text (bytes "op=job edition=N qubits=N outcomes=N shots=N") (values_in (bytes "op=job edition=N qubits=N outcomes=N shots=N") (e ∷ q ∷ o ∷ s ∷ []) [] [])

  abbrev pub first_text : List ℕ
  first_text = line_text (bytes "op=job qubits=N outcomes=N shots=N") (values_in (bytes "op=job qubits=N outcomes=N shots=N") (q ∷ o ∷ s ∷ []) [] [])

  pub second_length : length second_text ≤ 120
  unfolding is_list_of bytes values_in
  second_length =
      line_length (bytes "op=job edition=N qubits=N outcomes=N shots=N") (Value.number e ∷ Value.number q ∷ Value.number o ∷ Value.number s ∷ [])

  pub first_length : length first_text ≤ 120
  unfolding is_list_of bytes values_in
  first_length = omega (arith, line_length (bytes "op=job qubits=N outcomes=N shots=N") (Value.number q ∷ Value.number o ∷ Value.number s ∷ []))

  second_values : second_text ≡ line_text (bytes "op=job edition=N qubits=N outcomes=N shots=N") (Value.number e ∷ Value.number q ∷ Value.number o ∷ Value.number s ∷ [])
  unfolding is_list_of bytes values_in
  second_values = refl

  first_values : first_text ≡ line_text (bytes "op=job qubits=N outcomes=N shots=N") (Value.number q ∷ Value.number o ∷ Value.number s ∷ [])
  unfolding is_list_of bytes values_in
  first_values = refl

module _ (h : Header) where
  pub second_is : h.edition ≡ 2 → second_text h.edition h.qubits h.outcomes h.shots ≡ header_text h
  unfolding header_text
  second_is e = second_values h.edition h.qubits h.outcomes h.shots ∙ rw (eq-eqb h.edition 2 e)

  pub first_is : (h.edition ≡ 2 → ⊥) → first_text h.edition h.qubits h.outcomes h.shots ≡ header_text h
  unfolding header_text
  first_is ne = first_values h.edition h.qubits h.outcomes h.shots ∙ rw (ne_eqb h.edition 2 ne)

pub header_length : (h : Header) → length (header_text h ++ LF ∷ []) ≤ 121
unfolding is_list_of bytes values_in header_text
header_length h = omega (arith, length-append (header_text h) (LF ∷ []), go (eqb h.edition 2))
  where
    numbers : List Value
    numbers = Value.number h.qubits ∷ Value.number h.outcomes ∷ Value.number h.shots ∷ []

    go : (b : Bool)
        → length (cond b (line_text (bytes "op=job edition=N qubits=N outcomes=N shots=N") (Value.number h.edition ∷ numbers)) (line_text (bytes "op=job qubits=N outcomes=N shots=N") numbers)) ≤ 120
    go true = line_length (bytes "op=job edition=N qubits=N outcomes=N shots=N") (Value.number h.edition ∷ numbers)
    go false = omega (arith, line_length (bytes "op=job qubits=N outcomes=N shots=N") numbers)

-- ---- the loop over the lines

texts_first : (h : Header) (n i recorded state : ℕ) → i < n
    → unlines (made_texts h (n - i) recorded state)
    ≡ unlines (instruction h recorded state).value.texts
    ++ unlines (made_texts h (n - (i + 1)) (instruction h recorded state).value.recorded (instruction h recorded state).state)
unfolding made_texts
texts_first h n i recorded state l =
    let one : n - i ≡ suc (n - (i + 1)) = omega arith in
    rw one (unlines_append (instruction h recorded state).value.texts _)

-- i instructions are put, from a place on
pub record Putting (h : Header) (lines state from : ℕ) (out : List ℕ) (i : ℕ) (m : Making) (after : List ℕ) : Type 0 where
  pub within : m.recorded ≤ h.outcomes
  pub near : m.at ≤ 1049624
  pub rest : Rest from (unlines (made_texts h lines 0 state)) out m.at (unlines (made_texts h (lines - i) m.recorded m.state)) after

pub putting_begins : {h : Header} {lines state from : ℕ} {start out : List ℕ} → Puts 0 (header_text h ++ LF ∷ []) start out from
    → Putting h lines state from out 0 (record { at = from; recorded = 0; state = state }) out
putting_begins {h = h} p = record { within = omega arith; near = omega (arith, p.place, header_length h); rest = rw sub-zero rest_all }

module _ {h : Header} (range : HeaderSound h) {lines state from : ℕ} {out : List ℕ} {i : ℕ} {m : Making} {mid : List ℕ} (p : Putting h lines state from out i m mid) where
  pub putting_ready : Ready h m
  putting_ready =
      record {
        some_qubits = range.some_qubits;
        qubits = range.few_qubits;
        some_shots = range.some_shots;
        shots = range.few_shots;
        outcomes = range.few_outcomes;
        recorded = p.within;
        room = omega (arith, p.near);
      }

  pub putting_more : {r : Making} {after : List ℕ} → i < lines → m.at ≤ 1048576 → MadeIs (instruction h m.recorded m.state) m r mid after
      → Putting h lines state from out (i + 1) r after
  putting_more l few made =
      let a = (instruction_makes h range m.recorded p.within).from m.state in
      record {
        within = omega (arith, a.within, made.recorded);
        near = omega (arith, made.puts.place, a.short);
        rest = rw (made.recorded, made.state) (rest_more (rw (texts_first h lines i m.recorded m.state l) at p.rest) made.puts);
      }

-- the whole text is the header's line and the instructions
module _ {h : Header} {lines state from : ℕ} {start out : List ℕ} (header : Puts 0 (header_text h ++ LF ∷ []) start out from) {i : ℕ} {m : Making} {after : List ℕ}
    (p : Putting h lines state from out i m after)
  where
    text_is : job_text h lines state ≡ (header_text h ++ LF ∷ []) ++ unlines (made_texts h lines 0 state)
    unfolding unlines
    text_is = sym (append_assoc (header_text h) (LF ∷ []) (unlines (made_texts h lines 0 state)))

    -- what is not put only makes the text longer
    at_least : m.at ≤ length (job_text h lines state)
    at_least =
        omega (arith, header.place, p.rest.place, ap length text_is, length-append (header_text h ++ LF ∷ []) (unlines (made_texts h lines 0 state)))

    pub putting_stops : 1048576 < m.at → JobPut h lines state start after m.at
    putting_stops l = record { large = λ _. omega (arith, at_least); whole = λ few. absurd (omega arith) }

    none_left : lines ≤ i → Rest from (unlines (made_texts h lines 0 state)) out m.at [] after
    unfolding made_texts unlines
    none_left l =
        let none : lines - i ≡ 0 = omega arith in
        rw none at p.rest

    pub putting_done : lines ≤ i → JobPut h lines state start after m.at
    putting_done l = record { large = λ more. omega (arith, at_least); whole = λ _. rw text_is (puts_more header (rest_none (none_left l))) }
