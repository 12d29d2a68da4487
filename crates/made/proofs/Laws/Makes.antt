-- What is known of a made instruction, and of a line that is written by a form's template. Laws. Assumes nothing.
use Rattle.std.specs.Prelude.{◌≡◌, Bool, true, ◌&&◌, List, [], ◌∷◌, ◌++◌, ℕ, ◌+◌, ◌*◌, ◌<◌, ◌≤◌, eqb, length}
use Rattle.std.proofs.Common.{ap, sym, ◌∙◌, arith, add-zero, eqb-true, length-append}
use Rattle.std.proofs.Math.Option.{some}
use Rattle.text.specs.Bytes.{bytes, LF, behind, unlines}
use Rattle.text.specs.Template.{Value, numbers_in, lists_in, line_text}
use Rattle.text.specs.Written.{at_space, of_one_line, Free, AllFree}
use Rattle.text.proofs.Theorems.{written_one_line}
use Rattle.text.proofs.Laws.Places.{literals}
use Rattle.text.proofs.Laws.Values.{both}
use Rattle.job.specs.declared.Header.{Header}
use Rattle.job.specs.Line.{Line, Instruction}
use Rattle.job.specs.Grammar.{Written, forms, read_line_of}
use Rattle.job.specs.Job.{recorded_by}
use Rattle.job.specs.Marks.{mark_of, form_from, form_by_mark}
use Rattle.job.specs.Sound.{LineSound, InstructionSound, SaidAs, HeaderSound}
use Rattle.job.proofs.Laws.Dispatch.{has_mark}
use Rattle.job.proofs.Laws.Texts.{Marked, form_written}
use Rattle.made.specs.Choice.{few}
use Rattle.made.specs.Making
use Rattle.made.proofs.Laws.Choice.{Few, Stretch}
use Rattle.made.proofs.Laws.Values.{Brief, brief_L, brief_Q, AllBrief, brief_suit, brief_length}

-- what is known of a made instruction: what it is, that its texts say it, that it is sound where so many outcomes are recorded, and that it takes at most
-- 1,048 bytes
pub record Makes (h : Header) (r : ℕ) (Is : Instruction → Type 0) (m : Making.Made) : Type 0 where
  pub instruction : Instruction
  pub is : Is instruction
  pub said : (ts : List (List ℕ)) (is : List Instruction) → SaidAs ts is → SaidAs (m.texts ++ ts) (instruction ∷ is)
  pub sound : InstructionSound h r instruction
  pub recorded : m.recorded ≡ r + recorded_by instruction
  pub within : m.recorded ≤ h.outcomes
  pub free : (ts : List (List ℕ)) → AllFree LF ts → AllFree LF (m.texts ++ ts)
  pub short : length (unlines m.texts) ≤ 1048

-- and so whatever follows from what it is
pub makes_as : {h : Header} {r : ℕ} {Is Js : Instruction → Type 0} {m : Making.Made} → ((i : Instruction) → Is i → Js i) → Makes h r Is m → Makes h r Js m
makes_as f a =
    record {
      instruction = a.instruction;
      is = f a.instruction a.is;
      said = a.said;
      sound = a.sound;
      recorded = a.recorded;
      within = a.within;
      free = a.free;
      short = a.short;
    }

-- ---- lines by the mark of their form

-- the template of the form with this mark
abbrev pub template_by : ℕ → List ℕ
template_by k = (form_by_mark k).template

-- the form's lines have its mark, and are one line each
unfoldable pub is_marked_of : ℕ → Bool
is_marked_of k = has_mark (template_by k) && of_one_line (template_by k) && eqb (mark_of (template_by k)) k

-- opens what it computes with
unfoldable pub marks : Unit {0}
unfolding is_marked_of form_from has_mark mark_of behind literals forms bytes of_one_line at_space numbers_in lists_in
marks = tt

-- a line with values for its letters
pub record LineKnown (k : ℕ) (ds : List Value) : Type 0 where
  pub reads : read_line_of (line_text (template_by k) ds) ≡ (form_by_mark k).says ds
  pub free : Free LF (line_text (template_by k) ds)
  pub short : length (line_text (template_by k) ds) ≤ length (template_by k) + 41 * length ds

pub line_known : (k : ℕ) (ds : List Value) → is_marked_of k ≡ true → AllBrief (template_by k) ds → LineKnown k ds
unfolding is_marked_of
line_known k ds e brief =
    let all = both _ (eqb (mark_of (template_by k)) k) e in
    let parts = both (has_mark (template_by k)) (of_one_line (template_by k)) all.0 in
    let m : Marked (form_by_mark k) = record { mark = parts.0; back = ap form_by_mark (eqb-true _ _ all.1); one = parts.1 } in
    record {
      reads = form_written (form_by_mark k) m ds (brief_suit (template_by k) ds brief);
      free = written_one_line (template_by k) parts.1 ds;
      short = brief_length (template_by k) ds brief;
    }

-- an instruction of one line
pub line_makes : {h : Header} {r recorded : ℕ} {Is : Instruction → Type 0} (k : ℕ) (ds : List Value) (l : Line) → Is (Instruction.line l) → is_marked_of k ≡ true
    → AllBrief (template_by k) ds → (form_by_mark k).says ds ≡ some (Written.line l) → LineSound h r l → recorded ≡ r + recorded_by (Instruction.line l)
    → recorded ≤ h.outcomes → length (template_by k) + 41 * length ds ≤ 1047 → Makes h r Is (record { texts = line_text (template_by k) ds ∷ []; recorded = recorded })
unfolding InstructionSound unlines
line_makes k ds l is marked brief says sound e within few =
    let t = line_known k ds marked brief in
    record {
      instruction = Instruction.line l;
      is = is;
      said = λ ts is a. SaidAs.line _ ts l is (t.reads ∙ says) a;
      sound = sound;
      recorded = e;
      within = within;
      free = λ ts a. (t.free, a);
      short = omega (arith, t.short, length-append (line_text (template_by k) ds) (LF ∷ []));
    }

-- ---- values of a header in range

module _ {h : Header} (range : HeaderSound h) where
  pub some_qubits : 0 < h.qubits
  some_qubits = range.some_qubits

  pub qubits_few : h.qubits ≤ 10000
  qubits_few = omega (arith, range.few_qubits)

  -- lists of qubits by their letters
  pub brief_few : (l : List ℕ) → Few h.qubits l → Brief 76 (Value.list l)
  brief_few l f = brief_L h.qubits qubits_few l f

  pub brief_stretch : (l : List ℕ) → Stretch h.qubits l → Brief 81 (Value.list l)
  brief_stretch l s = brief_Q h.qubits qubits_few l s

  -- ids of recorded outcomes
  pub brief_ids : (r : ℕ) (l : List ℕ) → r ≤ h.outcomes → Few r l → Brief 76 (Value.list l)
  brief_ids r l within f = brief_L r (omega (arith, range.few_outcomes)) l f

-- the kinds that record no outcome
pub same_recorded : (r : ℕ) → r ≡ r + 0
same_recorded r = sym (add-zero r)
