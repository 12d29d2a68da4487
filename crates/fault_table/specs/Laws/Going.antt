-- The table, from the last line to the first. Laws. Assumes nothing.
use Prim.Native.Nat.{ℕ, suc, ◌+◌, ◌-◌, ◌*◌, ◌≤◌, ◌<◌}
use Rattle.std.proofs.Common.{arith, subst, ◌∙◌}
use Rattle.std.specs.Prelude.{◌≡◌, Bool, take, drop}
use Rattle.std.proofs.Math.Path.{refl, sym, ap, ap₂}
use Rattle.std.proofs.Math.Bool.{cond}
use mathlib.Core.List.{List, [], ◌∷◌, ◌++◌, map}
use Rattle.std.proofs.Math.Option.{Option, none, some}
use Rattle.std.proofs.Math.ListN.{length, drop_of_length-le}
use Rattle.pauli.specs.Pauli.{anticommutes}
use Rattle.text.specs.Bytes.{unlines, lines}
use Rattle.text.specs.Template.{Value}
use Rattle.text.proofs.Laws.Written.{unlines_append}
use Rattle.template.specs.Values.{Whole}
use Rattle.job.specs.declared.Header.{Header}
use Rattle.job.specs.Line.{SparsePauli, pauli_of, Line, WeightedPauli, size_of, Instruction, Placed}
use Rattle.job.specs.Grammar.{NoiseLine, Written, read_line_of}
use Rattle.job.specs.Job.{Gathered, gather, gathered, noise_of, distribution_of, placed_at, job_of}
use Rattle.job.specs.Sound.{LineSound, NoiseSound}
use Rattle.job.proofs.Theorems.{checked_sound}
use Rattle.reader.specs.declared.Form.{Form}
use Rattle.reader.specs.Parsed.{Parsed, Said}
use Rattle.instructions.specs.Reading.{line_at}
use Rattle.instructions.specs.Ahead.{instructions_at}
use Rattle.instructions.specs.Laws.Meaning.{read_says}
use Rattle.frames.specs.Forward.{setting_of}
use Rattle.draws.specs.Draws.{element_at}
use Rattle.draws.proofs.Laws.SettledText.{element_sound}
use Rattle.backward.specs.Walk.{Carried, Walk, backward, walk_back, walk}
use Rattle.backward.specs.Walking.{line_first, plain_lines}
use Rattle.lines_back.specs.Laws.Same.{anti_left, same_backward}
use Rattle.lines_from_last.specs.Line.{LineBefore, LinesLeft}
use Rattle.lines_from_last.specs.Laws.Left.{all_left, one_done, left_known, gathered_more, none_left}
use Rattle.lines_back.specs.Back.{Readable}
use Rattle.single_faults.specs.Carried.{rows_by, mark_by, carried_to, carried_marks, carried_rows_of, carried_rows}
use Rattle.fault_table.specs.Lent.{all_carried, start_of}
use Rattle.fault_table.specs.Back.{carried_by, GroupsBack}
use Rattle.fault_table.specs.Rows.{rows_bytes, RowsBefore}
use Rattle.fault_table.specs.Laws.Putting.{rows_length}
use Rattle.fault_table.specs.Said.{size_said, marks_of, KeptFor, elements_with, ElementKnown, rows_said, NoiseFits, RowsReady}
use Rattle.fault_table.specs.Laws.Keeping.{marks_long}
use Rattle.fault_table.specs.Laws.Kinds.{rows_same}
use Rattle.fault_table.specs.Table.{table_bytes, kept_after_of, TableReady}
use Rattle.fault_table.specs.Laws.Measuring.{all_at}
use Rattle.fault_table.specs.Laws.Lines.{said_bytes, bytes_append, pauli_more, noise_there, noise_fits}

-- ---- a line in front of others

module _ (h : Header) (few : h.qubits ≤ 256) (gs : List (List ℕ)) (k : ℕ) (text : List ℕ) (g : Gathered) where
  abbrev with_line : Written → List Placed
  with_line w = (gather k text (some w) g).instructions

  -- what is carried back over it
  pub said_carried : (w : Written) → ((l : Line) → w ≡ Written.line l → (r : ℕ) × (r ≤ h.outcomes) × LineSound h r l)
      → (group : List ℕ) → carried_by w (carried_to h g.instructions group) ≡ carried_to h (with_line w) group
  unfolding gather carried_by carried_to walk walk_back plain_lines line_first backward
  said_carried (Written.header f) sound group = refl
  said_carried (Written.line l) sound group =
      let (r, within, s) = sound l refl in
      sym (ap (λ (w : Walk). w.carried) (same_backward h few r l s 0 (walk (setting_of h 0) (plain_lines g.instructions) _)))
  said_carried (Written.noise n) sound group = refl
  said_carried (Written.element v P) sound group = refl

  all_same : (f : Carried → Carried) (a b : List ℕ → Carried) → ((group : List ℕ) → f (a group) ≡ b group) → (l : List (List ℕ)) → map f (map a l) ≡ map b l
  all_same f a b e [] = refl
  all_same f a b e (group ∷ l) = ap₂ ◌∷◌ (e group) (all_same f a b e l)

  pub all_carried_lem : (w : Written) → ((l : Line) → w ≡ Written.line l → (r : ℕ) × (r ≤ h.outcomes) × LineSound h r l)
      → map (carried_by w) (map (carried_to h g.instructions) gs) ≡ map (carried_to h (with_line w)) gs
  all_carried_lem w sound = all_same (carried_by w) _ _ (said_carried w sound) gs

  -- its rows
  mark_same : (P : SparsePauli) (cs : List Carried) → ((c : Carried) → anticommutes h.qubits (pauli_of P) c.observable ≡ anticommutes 256 (pauli_of P) c.observable)
      → marks_of cs P ≡ map (mark_by h.qubits (pauli_of P)) cs
  unfolding mark_by
  mark_same P [] e = refl
  mark_same P (c ∷ cs) e = ap₂ (λ (b : Bool) (l : List ℕ). cond b 49 48 ∷ l) (sym (e c)) (mark_same P cs e)

  pub said_rows : (w : Written) → ((n : NoiseLine) → w ≡ Written.noise n → (r : ℕ) × NoiseSound h.qubits r (noise_of n g.elements))
      → unlines (rows_said k (map (carried_to h g.instructions) gs) w g.elements) ++ unlines (carried_rows h gs g.instructions) ≡ unlines (carried_rows h gs (with_line w))
  unfolding gather rows_said carried_rows carried_rows_of carried_marks unlines noise_of
  said_rows (Written.header f) sound = refl
  said_rows (Written.line l) sound = refl
  said_rows (Written.noise n) sound =
      let d = distribution_of n.kind g.elements in
      let cs = map (carried_to h g.instructions) gs in
      let s = (sound n refl).1.distribution in
      let same = rows_same k (λ (e : ℕ). marks_of cs (element_at d e)) (λ (e : ℕ). map (mark_by h.qubits (pauli_of (element_at d e))) cs) (size_of d) 0
      (λ e a b. mark_same (element_at d e) cs (λ c. anti_left h.qubits few c.observable (element_at d e) (element_sound h.qubits d s e))) in
      ap (λ (rows : List (List ℕ)). unlines rows ++ unlines (carried_rows h gs g.instructions)) same
      ∙ sym (unlines_append (rows_by k (λ (e : ℕ). map (mark_by h.qubits (pauli_of (element_at d e))) cs) (size_of d) 0) (carried_rows h gs g.instructions))
  said_rows (Written.element v P) sound = refl

-- their bytes
pub said_length : (groups k : ℕ) (state : List ℕ) (w : Written) (es : List WeightedPauli) → ((n : NoiseLine) → w ≡ Written.noise n → NoiseFits n es)
    → length (unlines (rows_said k (all_carried groups state) w es)) ≡ rows_bytes groups k (size_said w) 0
unfolding rows_said size_said unlines rows_bytes
said_length groups k state (Written.header f) es fits = refl
said_length groups k state (Written.line l) es fits = refl
said_length groups k state (Written.noise n) es fits =
    let d = distribution_of n.kind es in
    rows_length groups k (λ (e : ℕ). marks_of (all_carried groups state) (element_at d e)) (size_of d) 0 (λ e a b. marks_long groups state (pauli_of (element_at d e)))
    ∙ ap (λ (m : ℕ). rows_bytes groups k m 0) (sym (fits n refl).size)
said_length groups k state (Written.element v P) es fits = refl

-- the elements kept
said_kept : (k : ℕ) (text : List ℕ) (g : Gathered) (groups : ℕ) (cs after : List Carried) (kept : List ℕ) (w : Written) → after ≡ map (carried_by w) cs
    → KeptFor groups cs kept (elements_with w g.elements) → KeptFor groups after kept (gather k text (some w) g).elements
unfolding gather elements_with carried_by
said_kept k text g groups cs after kept w e x = go w e x
  where
    same : (cs : List Carried) → map (λ (c : Carried). c) cs ≡ cs
    same [] = refl
    same (c ∷ cs) = ap (λ (l : List Carried). c ∷ l) (same cs)

    go : (w : Written) → after ≡ map (carried_by w) cs → KeptFor groups cs kept (elements_with w g.elements) → KeptFor groups after kept (gather k text (some w) g).elements
    go (Written.header f) e x = rw (e ∙ same cs) x
    go (Written.line l) e x = record { held = λ few i h. absurd (omega arith) }
    go (Written.noise n) e x = record { held = λ few i h. absurd (omega arith) }
    go (Written.element v P) e x = rw (e ∙ same cs) x

said_count : (k : ℕ) (text : List ℕ) (g : Gathered) (w : Written) → kept_after_of w (length g.elements) ≡ length (gather k text (some w) g).elements
unfolding gather kept_after_of
said_count k text g (Written.header f) = refl
said_count k text g (Written.line l) = refl
said_count k text g (Written.noise n) = refl
said_count k text g (Written.element v P) = omega arith

kept_few : (w : Written) (n : ℕ) → kept_after_of w n ≤ n + 1
unfolding kept_after_of
kept_few (Written.header f) n = omega arith
kept_few (Written.line l) n = omega arith
kept_few (Written.noise m) n = omega arith
kept_few (Written.element v P) n = omega arith

pub said_alone : (k : ℕ) (cs : List Carried) (w : Written) (es : List WeightedPauli) → rows_said k cs w (elements_with w es) ≡ rows_said k cs w es
unfolding rows_said elements_with
said_alone k cs (Written.header f) es = refl
said_alone k cs (Written.line l) es = refl
said_alone k cs (Written.noise n) es = refl
said_alone k cs (Written.element v P) es = refl

noise_alone : (n : NoiseLine) (es : List WeightedPauli) → elements_with (Written.noise n) es ≡ es
unfolding elements_with
noise_alone n es = refl

-- ---- all instructions from a line on

pub gathered_last : (k : ℕ) (front done : List (List ℕ))
    → (before : List Placed) × ((gathered k (front ++ done)).instructions ≡ before ++ (gathered (k + length front) done).instructions)
unfolding gathered
gathered_last k [] done = ([], ap (λ (j : ℕ). (gathered j done).instructions) (omega arith))
gathered_last k (l ∷ front) done =
    let (before, e) = gathered_last (suc k) front done in
    let place : suc k + length front ≡ k + suc (length front) = omega arith in
    go (read_line_of l) before (e ∙ ap (λ (j : ℕ). before ++ (gathered j done).instructions) place)
  where
    go : (o : Option Written) (before : List Placed) → (gathered (suc k) (front ++ done)).instructions ≡ before ++ (gathered (k + suc (length front)) done).instructions
        → (more : List Placed) × ((gather k l o (gathered (suc k) (front ++ done))).instructions ≡ more ++ (gathered (k + suc (length front)) done).instructions)
    go none before e = unfold gather in (before, e)
    go (some (Written.header h)) before e = unfold gather in (before, e)
    go (some (Written.line i)) before e = unfold gather in (_ ∷ before, ap (λ (is : List Placed). placed_at k l (Instruction.line i) ∷ is) e)
    go (some (Written.noise n)) before e = unfold gather in (_ ∷ before, ap (λ (is : List Placed). placed_at k l (Instruction.noise (noise_of n (gathered (suc k) (front ++ done)).elements)) ∷ is) e)
    go (some (Written.element v P)) before e = unfold gather in (before, e)

-- ---- the loop

-- The lines from place e on are done: the table's end from a place on is that of their instructions.
pub record Going (job : List ℕ) (gs : List (List ℕ)) (groups : ℕ) (state kept out : List ℕ) (n k e place : ℕ) : Type 0 where
  pub done : List (List ℕ)
  pub left : LinesLeft job k e done
  pub words : length state ≡ groups * 24
  pub carried : all_carried groups state ≡ map (carried_to (job_of job).header (gathered (suc k) done).instructions) gs
  pub bytes_kept : length kept ≡ 1024
  pub count : n ≡ length (gathered (suc k) done).elements
  pub counted : n + e ≤ length job
  pub holds : KeptFor groups (all_carried groups state) kept (gathered (suc k) done).elements
  pub size : place + table_bytes groups (gathered (suc k) done).instructions ≡ length out
  pub text : drop place out ≡ unlines (carried_rows (job_of job).header gs (gathered (suc k) done).instructions)

module _ {job : List ℕ} {number : ℕ} {before : List ℕ} {groups : ℕ} {bytes : List ℕ} (q : TableReady job number before groups bytes) where
  abbrev h : Header
  h = (job_of job).header

  pub going_first : (kept : List ℕ) → length kept ≡ 1024 → Going job q.are groups before kept bytes 0 number (length job) (length bytes)
  unfolding gathered table_bytes carried_rows unlines carried_to walk walk_back plain_lines start_of
  going_first kept long =
      record {
        done = [];
        left = all_left job q.passes q.lines_in;
        words = q.words;
        carried = q.started;
        bytes_kept = long;
        count = refl;
        counted = omega arith;
        holds = record { held = λ few i h. absurd (omega arith) };
        size = omega arith;
        text = drop_of_length-le bytes {i = length bytes} (omega arith);
      }

  pub going_done : {state kept out : List ℕ} {n k e place : ℕ} → Going job q.are groups state kept out n k e place → length out ≡ length bytes → e ≡ 0
      → out ≡ unlines (carried_rows h q.are (job_of job).instructions)
  going_done {out = out} {place = place} g same z =
      let all = none_left job q.passes g.left z in
      let first : place ≡ 0 = omega (arith, rw all at g.size, same, q.long) in
      rw (first, all) at g.text

  module _ {state kept out : List ℕ} {n k e place at : ℕ} (g : Going job q.are groups state kept out n k e place) (same : length out ≡ length bytes) (positive : 0 < e)
      (b : LineBefore job (e - 1) at) where
    abbrev text : List ℕ
    text = line_at job at (e - 1)

    abbrev behind : Gathered
    behind = gathered (suc k) g.done

    abbrev said : Written
    said = (left_known job q.passes g.left positive b).written

    few_qubits : h.qubits ≤ 256
    few_qubits = (checked_sound job q.passes).header.few_qubits

    -- the instructions of the job, those from this line on being the last
    from_here : (before : List Placed) × ((job_of job).instructions ≡ before ++ (gather k text (some said) behind).instructions)
    unfolding instructions_at
    from_here =
        let l = one_done job q.passes g.left positive b in
        let (before, e) = gathered_last 1 (lines (take at job)) (text ∷ g.done) in
        let number : 1 + length (lines (take at job)) ≡ suc (k - 1) = omega (arith, l.number) in
        let all : (gathered 1 (lines job)).instructions ≡ (job_of job).instructions = all_at job q.passes groups in (
          before,
          sym all ∙ ap (λ (ls : List (List ℕ)). (gathered 1 ls).instructions) l.whole ∙ e
              ∙ ap (λ (j : ℕ). before ++ (gathered j (text ∷ g.done)).instructions) number
              ∙ ap (λ (x : Gathered). before ++ x.instructions) (gathered_more job q.passes g.left positive b),
        )

    sound_here : (m : NoiseLine) → said ≡ Written.noise m → (r : ℕ) × NoiseSound h.qubits r (noise_of m behind.elements)
    sound_here m e =
        noise_there job q.passes k text behind from_here.0 m (from_here.1 ∙ ap (λ (w : Written). from_here.0 ++ (gather k text (some w) behind).instructions) e)

    fits_here : (m : NoiseLine) → said ≡ Written.noise m → NoiseFits m behind.elements
    fits_here m e =
        noise_fits job q.passes k text behind from_here.0 m (from_here.1 ∙ ap (λ (w : Written). from_here.0 ++ (gather k text (some w) behind).instructions) e)
        q.narrow

    room_here : rows_bytes groups k (size_said said) 0 ≤ place
    room_here =
        omega (
          arith,
          g.size,
          same,
          q.long,
          ap (table_bytes groups) from_here.1,
          bytes_append groups from_here.0 (gather k text (some said) behind).instructions,
          said_bytes k text behind groups said,
        )

    -- ---- the line as it was read

    module _ {form : Form} {words : List ℕ} (parsed : Parsed text form words) (wide : Whole words) where
      pub line_readable : Readable form words
      line_readable =
          let line = left_known job q.passes g.left positive b in
          let (vs, s) = read_says parsed line.reads in
          record { header = h; range = (checked_sound job q.passes).header; wide = wide; values = vs; written = said; said = s; sound = line.sound }

      pub line_element : ElementKnown form words
      line_element =
          let (vs, s) = read_says parsed (left_known job q.passes g.left positive b).reads in
          record {
            wide = wide;
            values = vs;
            written = said;
            said = s;
            element = λ v P e. pauli_more h.qubits 256 few_qubits P ((left_known job q.passes g.left positive b).element v P e);
          }

      pub line_rows : (now : List ℕ) → length now ≡ 1024 → KeptFor groups (all_carried groups state) now (elements_with said behind.elements)
          → RowsReady form words state groups now k place out
      line_rows now long holds =
          let (vs, s) = read_says parsed (left_known job q.passes g.left positive b).reads in
          record {
            wide = wide;
            values = vs;
            written = said;
            said = s;
            elements = elements_with said behind.elements;
            noise = λ m e. subst (NoiseFits m) (sym (ap (λ (w : Written). elements_with w behind.elements) e ∙ noise_alone m behind.elements)) (fits_here m e);
            few = q.few;
            words_of_groups = g.words;
            bytes_kept = long;
            holds = holds;
            within = omega (arith, g.size);
            room = room_here;
          }

    pub going_on : {after now last : List ℕ} {more r : ℕ} → KeptFor groups (all_carried groups state) now (elements_with said behind.elements) → length now ≡ 1024
        → RowsBefore place r (rows_said k (all_carried groups state) said (elements_with said behind.elements)) out last → length last ≡ length out
        → all_carried groups after ≡ map (carried_by said) (all_carried groups state) → length after ≡ length state → more ≡ kept_after_of said n
        → Going job q.are groups after now last more (k - 1) at r
    going_on {after} {now} {last} {more} {r} holds long rows size moved wide kept =
        let whole = gathered_more job q.passes g.left positive b in
        let put : RowsBefore place r (rows_said k (all_carried groups state) said behind.elements) out last =
        rw (said_alone k (all_carried groups state) said behind.elements) at rows in
        let sound = (left_known job q.passes g.left positive b).sound in
        let bytes-here = said_length groups k state said behind.elements fits_here in
        record {
          done = text ∷ g.done;
          left = one_done job q.passes g.left positive b;
          words = wide ∙ g.words;
          carried =
              moved
              ∙ ap (map (carried_by said)) g.carried
              ∙ all_carried_lem h few_qubits q.are k text behind said sound
              ∙ sym (ap (λ (x : Gathered). map (carried_to h x.instructions) q.are) whole);
          bytes_kept = long;
          count = kept ∙ ap (kept_after_of said) g.count ∙ said_count k text behind said ∙ sym (ap (λ (x : Gathered). length x.elements) whole);
          counted = omega (arith, kept, kept_few said n, g.counted, b.within);
          holds = rw whole (said_kept k text behind groups (all_carried groups state) (all_carried groups after) now said moved holds);
          size =
              rw whole
              (omega (arith, put.begins, bytes-here, g.size, size, said_bytes k text behind groups said));
          text =
              put.bytes
              ∙ ap₂ (λ (cs : List Carried) (t : List ℕ). unlines (rows_said k cs said behind.elements) ++ t) g.carried g.text
              ∙ said_rows h few_qubits q.are k text behind said sound_here
              ∙ sym (ap (λ (x : Gathered). unlines (carried_rows h q.are x.instructions)) whole);
        }

    -- ---- a turn, by what the functions say

    module _ {form : Form} {words : List ℕ} (parsed : Parsed text form words) (wide : Whole words) {now : List ℕ}
        (keeps : (x : ElementKnown form words) (es : List WeightedPauli) → n ≡ length es → KeptFor groups (all_carried groups state) kept es
        → KeptFor groups (all_carried groups state) now (elements_with x.written es))
        (long : length now ≡ length kept) where
      now_held : KeptFor groups (all_carried groups state) now (elements_with said behind.elements)
      unfolding line_element
      now_held = keeps (line_element parsed wide) behind.elements g.count g.holds

      pub rows_ready : RowsReady form words state groups now k place out
      rows_ready = line_rows parsed wide now (long ∙ g.bytes_kept) now_held

      pub turn : {after last : List ℕ} {more r : ℕ}
          → ((x : RowsReady form words state groups now k place out) → RowsBefore place r (rows_said k (all_carried groups state) x.written x.elements) out last)
          → length last ≡ length out → GroupsBack form words groups state after → length after ≡ length state
          → ((f : List ℕ) (vs : List Value) (w : Written) → Said form f vs w → more ≡ kept_after_of w n)
          → Going job q.are groups after now last more (k - 1) at r
      unfolding rows_ready line_rows line_readable line_element
      turn rows size back Size-back counts =
          going_on now_held (long ∙ g.bytes_kept) (rows rows_ready) size (back.back (line_readable parsed wide)) Size-back
          (counts words (line_element parsed wide).values said (line_element parsed wide).said)
