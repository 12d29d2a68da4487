-- Lines going back, by their forms. Laws. Assumes nothing.
use Rattle.std.specs.Prelude.{ℕ, ◌≡◌, ◌⊎◌, refl, Bool, true, false, List, length, Option, Some}
use Rattle.std.proofs.Common.{arith, ◌∙◌, subst, true≢false, inl, inr}
use Rattle.std.proofs.Math.Path.{sym, ap}
use Rattle.std.proofs.Math.Option.{some}
use Rattle.pauli.specs.declared.Pauli.{Pauli as PauliWords}
use Rattle.pauli.specs.Gate.{gate_of}
use Rattle.pauli.specs.Fixed.{in_set}
use Rattle.text.specs.Bytes.{bytes}
use Rattle.text.specs.Template.{Value, number_at, list_at_of}
use Rattle.job.specs.Line.{Line}
use Rattle.job.specs.Grammar.{NoiseLine, Written, forms}
use Rattle.reader.specs.declared.Form.{Form}
use Rattle.reader.specs.declared.Form.TheVariants as form
use Rattle.reader.specs.Parsed.{place_of, no_form, form_of, Said}
use Rattle.instructions.specs.Reading.{noise_form}
use Rattle.instructions.specs.Laws.Meaning.{some_same, unitary_said, clifford_said, Meaning, meaning}
use Rattle.frames.specs.Forward.{Setting}
use Rattle.backward.specs.Walk.{carry, counts, Walk, one_more_of, backward}
use Rattle.instructions.specs.Laws.Read.{Idle}
use Rattle.lines_back.specs.Full.{full}
use Rattle.lines_back.specs.declared.Walk.{Walk as WalkWords}
use Rattle.lines_back.specs.Back.{HeldLine, Back, Readable, walk_of, written_back, noise_back, LineBack}

-- a form by its name
module _ {f k : Form} {words : List ℕ} (e : f ≡ k) where
  pub readable_as : Readable f words → Readable k words
  readable_as q = subst (λ (g : Form). Readable g words) e q

  pub back_as : {shot number : ℕ} {w w' : WalkWords} {set set' : List ℕ} → LineBack k words shot number w w' set set' → LineBack f words shot number w w' set set'
  back_as {shot} {number} {w} {w'} {set} {set'} b = subst (λ (g : Form). LineBack g words shot number w w' set set') (sym e) b

-- ---- plain lines

-- the forms of plain lines that change the walk
unfoldable pub acts : Form → Bool
acts form.Unread = false
acts form.Header = false
acts form.Unitary = true
acts form.Clifford = true
acts form.Pauli = false
acts form.Exponential = true
acts form.Controlled = true
acts form.Permute = true
acts form.Measure = true
acts form.Allocate = false
acts form.Conditional = true
acts form.Reset = true
acts form.Inject = true
acts form.Flip = true
acts form.Single = false
acts form.Depolarizing = false
acts form.Uniform = false
acts form.Weighted = false
acts form.Element = false
acts form.WeightedElement = false
acts form.EditionHeader = false
acts form.Barrier = false

-- they say plain lines
line_written : (f : Form) (vs : List Value) (w : Written) → acts f ≡ true → (form_of f).says vs ≡ some w → (l : Line) × (w ≡ Written.line l)
unfolding forms place_of bytes no_form acts
line_written form.Unread vs w a e = absurd (true≢false (sym a))
line_written form.Header vs w a e = absurd (true≢false (sym a))
line_written form.Unitary vs w a e = let (g, p, q) = unitary_said (gate_of (number_at 0 vs)) (list_at_of 0 vs) w e in (_, sym q)
line_written form.Clifford vs w a e = (_, sym (clifford_said (list_at_of 0 vs) (list_at_of 1 vs) w e).1)
line_written form.Pauli vs w a e = absurd (true≢false (sym a))
line_written form.Exponential vs w a e = (_, sym (some_same e))
line_written form.Controlled vs w a e = (_, sym (some_same e))
line_written form.Permute vs w a e = (_, sym (some_same e))
line_written form.Measure vs w a e = (_, sym (some_same e))
line_written form.Allocate vs w a e = absurd (true≢false (sym a))
line_written form.Conditional vs w a e = (_, sym (some_same e))
line_written form.Reset vs w a e = (_, sym (some_same e))
line_written form.Inject vs w a e = (_, sym (some_same e))
line_written form.Flip vs w a e = (_, sym (some_same e))
line_written form.Single vs w a e = absurd (true≢false (sym a))
line_written form.Depolarizing vs w a e = absurd (true≢false (sym a))
line_written form.Uniform vs w a e = absurd (true≢false (sym a))
line_written form.Weighted vs w a e = absurd (true≢false (sym a))
line_written form.Element vs w a e = absurd (true≢false (sym a))
line_written form.WeightedElement vs w a e = absurd (true≢false (sym a))
line_written form.EditionHeader vs w a e = absurd (true≢false (sym a))
line_written form.Barrier vs w a e = absurd (true≢false (sym a))

module _ {f : Form} {words : List ℕ} (q : Readable f words) where
  abbrev ready_line : (l : Line) → q.written ≡ Written.line l → HeldLine f words
  ready_line l e =
      let (r, within, sound) = q.sound l e in
      record {
        qubits = q.header.qubits;
        outcomes = q.header.outcomes;
        few_qubits = q.range.few_qubits;
        few_outcomes = q.range.few_outcomes;
        line = l;
        plain =
            record {
              edition = q.header.edition;
              shots = q.header.shots;
              recorded = r;
              values = q.values;
              wide = q.wide;
              said = subst (Said f words q.values) e q.said;
              sound = sound;
              in_words = omega (arith, q.range.few_shots);
              in_rows = within;
            };
      }

  pub ready : acts f ≡ true → HeldLine f words
  ready a = let (l, e) = line_written f q.values q.written a q.said.says in ready_line l e

-- what a function says of a plain line is what the line makes of the walk
module _ {f : Form} {words : List ℕ} {shot number : ℕ} {w w' : WalkWords} {set set' : List ℕ} {counted : Bool} (a : acts f ≡ true) where
  pub acted : Back f words shot w.observable (in_set set) w'.observable (in_set set') counted → length set' ≡ 16 → w'.count ≡ one_more_of counted w.count
      → w'.noise ≡ w.noise → LineBack f words shot number w w' set set'
  unfolding written_back noise_back backward
  acted back long count noise =
      record {
        long = long;
        walks = λ q. by_line q (line_written f _ _ a q.said.says);
        noise = λ q. noise ∙ kept q (line_written f _ _ a q.said.says);
      }
    where
      by_line : (q : Readable f words) → (l : Line) × (q.written ≡ Written.line l) → walk_of w' set' ≡ written_back (full shot) q.written (walk_of w set)
      by_line q (l, s) =
          let p = ready_line q l s in
          sym (λ i. record { carried = back.carries p i; count = (ap (λ (b : Bool). one_more_of b w.count) (back.counts_it p) ∙ sym count) i })
          ∙ sym (ap (λ (v : Written). written_back (full shot) v (walk_of w set)) s)

      kept : (q : Readable f words) → (l : Line) × (q.written ≡ Written.line l) → w.noise ≡ noise_back number q.written w.noise
      kept q (l, s) = sym (ap (λ (v : Written). noise_back number v w.noise) s)

pub acted_as : {f k : Form} {words : List ℕ} {shot number : ℕ} {w w' : WalkWords} {r : PauliWords} {set set' : List ℕ} {counted : Bool} → f ≡ k → acts k ≡ true
    → Back k words shot w.observable (in_set set) r (in_set set') counted → length set' ≡ 16
    → w' ≡ record { observable = r; count = one_more_of counted w.count; noise = w.noise } → LineBack f words shot number w w' set set'
acted_as {k = k} {words = words} {shot = shot} {number = number} {w = w} {set = set} {set' = set'} e a back long is =
    back_as e (subst (λ (v : WalkWords). LineBack k words shot number w v set set') (sym is) (acted a back long refl refl))

-- ---- noise

pub noise_written : {f : Form} {w : Written} → Meaning f w → noise_form f ≡ true → (n : NoiseLine) × (w ≡ Written.noise n)
unfolding noise_form
noise_written (Meaning.header h e) n = absurd (true≢false (sym n ∙ rw e))
noise_written (Meaning.edition_header h e) n = absurd (true≢false (sym n ∙ rw e))
noise_written (Meaning.plain l r k) n = absurd (true≢false (sym n ∙ k))
noise_written (Meaning.measure l e) n = absurd (true≢false (sym n ∙ rw e))
noise_written (Meaning.allocate l e) n = absurd (true≢false (sym n ∙ rw e))
noise_written (Meaning.alone m a b c) n = (m, refl)
noise_written (Meaning.uniform m a b) n = (m, refl)
noise_written (Meaning.weighted m a b) n = (m, refl)
noise_written (Meaning.element P e) n = absurd (true≢false (sym n ∙ rw e))
noise_written (Meaning.weighted_element v P e) n = absurd (true≢false (sym n ∙ rw e))

-- a noise line is remembered, and changes nothing else
module _ {f : Form} {words : List ℕ} {shot number : ℕ} {w w' : WalkWords} {set : List ℕ} (n : noise_form f ≡ true) where
  pub remembered : length set ≡ 16 → w' ≡ record { observable = w.observable; count = w.count; noise = Some number } → LineBack f words shot number w w' set set
  unfolding written_back noise_back
  remembered long e =
      record {
        long = long;
        walks = λ q. ap (λ (v : WalkWords). walk_of v set) e ∙ sym (ap (λ (v : Written). written_back (full shot) v (walk_of w set)) (noise_written (meaning f _ _ q.said.says) n).1);
        noise = λ q. ap (λ (v : WalkWords). v.noise) e ∙ sym (ap (λ (v : Written). noise_back number v w.noise) (noise_written (meaning f _ _ q.said.says) n).1);
      }

-- the four forms of noise
pub is_noise : {f : Form} → (f ≡ form.Single) ⊎ ((f ≡ form.Depolarizing) ⊎ ((f ≡ form.Uniform) ⊎ (f ≡ form.Weighted))) → noise_form f ≡ true
unfolding noise_form
is_noise (inl e) = rw e
is_noise (inr (inl e)) = rw e
is_noise (inr (inr (inl e))) = rw e
is_noise (inr (inr (inr e))) = rw e

-- ---- other lines

-- lines of the other forms change nothing
idle_written : (f : Form) (vs : List Value) (v : Written) → Idle f → noise_form f ≡ false → (form_of f).says vs ≡ some v → (c : Setting) (k : ℕ) (w : Walk) (before : Option ℕ)
    → (w ≡ written_back c v w) × (before ≡ noise_back k v before)
unfolding forms place_of bytes no_form noise_form written_back noise_back backward carry counts
idle_written form.Unread vs v h n e c k w before = let z : ◌≡◌ {A = ℕ} 0 1 = cc in absurd (omega arith)
idle_written form.Header vs v h n e c k w before = subst (λ (u : Written). (w ≡ written_back c u w) × (before ≡ noise_back k u before)) (some_same e) (refl, refl)
idle_written form.Unitary vs v h n e c k w before = absurd (h.unitary refl)
idle_written form.Clifford vs v h n e c k w before = absurd (h.clifford refl)
idle_written form.Pauli vs v h n e c k w before = subst (λ (u : Written). (w ≡ written_back c u w) × (before ≡ noise_back k u before)) (some_same e) (refl, refl)
idle_written form.Exponential vs v h n e c k w before = absurd (h.exponential refl)
idle_written form.Controlled vs v h n e c k w before = absurd (h.controlled refl)
idle_written form.Permute vs v h n e c k w before = absurd (h.permute refl)
idle_written form.Measure vs v h n e c k w before = absurd (h.measure refl)
idle_written form.Allocate vs v h n e c k w before = subst (λ (u : Written). (w ≡ written_back c u w) × (before ≡ noise_back k u before)) (some_same e) (refl, refl)
idle_written form.Conditional vs v h n e c k w before = absurd (h.conditional refl)
idle_written form.Reset vs v h n e c k w before = absurd (h.reset refl)
idle_written form.Inject vs v h n e c k w before = absurd (h.inject refl)
idle_written form.Flip vs v h n e c k w before = absurd (h.flip refl)
idle_written form.Single vs v h n e c k w before = absurd (true≢false n)
idle_written form.Depolarizing vs v h n e c k w before = absurd (true≢false n)
idle_written form.Uniform vs v h n e c k w before = absurd (true≢false n)
idle_written form.Weighted vs v h n e c k w before = absurd (true≢false n)
idle_written form.Element vs v h n e c k w before = subst (λ (u : Written). (w ≡ written_back c u w) × (before ≡ noise_back k u before)) (some_same e) (refl, refl)
idle_written form.WeightedElement vs v h n e c k w before = subst (λ (u : Written). (w ≡ written_back c u w) × (before ≡ noise_back k u before)) (some_same e) (refl, refl)
idle_written form.EditionHeader vs v h n e c k w before = subst (λ (u : Written). (w ≡ written_back c u w) × (before ≡ noise_back k u before)) (some_same e) (refl, refl)
idle_written form.Barrier vs v h n e c k w before = subst (λ (u : Written). (w ≡ written_back c u w) × (before ≡ noise_back k u before)) (some_same e) (refl, refl)

pub nothing_done : {f : Form} {words : List ℕ} {shot number : ℕ} {w : WalkWords} {set : List ℕ} → Idle f → noise_form f ≡ false → length set ≡ 16
    → LineBack f words shot number w w set set
nothing_done {f} {words} {shot} {number} {w} {set} h n long =
    record {
      long = long;
      walks = λ q. (idle_written f _ _ h n q.said.says (full shot) number (walk_of w set) w.noise).0;
      noise = λ q. (idle_written f _ _ h n q.said.says (full shot) number (walk_of w set) w.noise).1;
    }
