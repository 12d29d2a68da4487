-- One instruction, a line or noise. Laws. Assumes nothing.
use Rattle.std.proofs.Math.Path.{refl}
use Rattle.std.specs.Prelude.{Result, Ok, List, ℕ, ◌+◌, ◌*◌, ◌≤◌, length, drop}
use Rattle.std.proofs.Common.{arith}
use Rattle.job.specs.Job.{job_of}
use Rattle.instructions.specs.declared.LineRead.{LineRead}
use Rattle.instructions.specs.Ahead.{instructions_at, Ahead, PlainRead, NoiseRead}
use Rattle.draws.specs.Draws.{Lent}
use Rattle.draws.specs.Settle.{step_of}
use Rattle.draws.specs.Left.{left_then, left_after}
use Rattle.draws.specs.Execute.{States, forward_all, execute_one, execute_then, execute}
use Rattle.rows.specs.declared.Shape.{Shape}
use Rattle.noise.specs.declared.Place.{Place}
use Rattle.template.specs.Values.{Whole}
use Rattle.faults.specs.Laws.Prepared.{noise_lines}
use Rattle.instructions.specs.Plain.{Plain}
use Rattle.lines.specs.Plain.{Ready, Obeyed}
use Rattle.execution.specs.Holds.{Holds}
use Rattle.execution.specs.Laws.Holds.{holds_line}
use Rattle.execution.specs.declared.Spent.{Spent}
use Rattle.execution.specs.Steps.{header_of, lent_by, RowsFor, ending_of, EndsBy, EndsAs, NoiseReady, NoiseDone}

-- ---- a line

module _ {job : List ℕ} (shape : Shape) {recorded : ℕ} (place : Place) {next : LineRead} {values : List ℕ}
    (read : PlainRead job (header_of job shape) recorded place.line place.byte next values) (ahead : Ahead job (header_of job shape) recorded place.line place.byte)
    {x z d noiseless : List ℕ} (rows : RowsFor shape x z d noiseless) (wide : Whole values)
  where
    -- it is as the crate lines wants it
    plain_said : Plain next.form values shape.width shape.qubits shape.outcomes read.line
    plain_said =
        record {
          edition = (job_of job).header.edition;
          shots = shape.shots;
          recorded = recorded;
          values = read.values;
          wide = wide;
          said = read.said;
          sound = read.sound;
          in_words = rows.in_words;
          in_rows = ahead.recorded;
        }

    pub plain_ready : Ready next.form values shape.width shape.qubits shape.outcomes x z d
    plain_ready =
        record {
          line = read.line;
          plain = plain_said;
          of_x = rows.of_x;
          of_z = rows.of_z;
          of_deltas = rows.of_deltas;
        }

    pub plain_went : (lent : Lent) (main : List ℕ) → place.position ≤ length main → (x' z' d' : List ℕ)
        → Obeyed next.form values shape.width shape.qubits shape.outcomes x z d x' z' d' → (states : States) → Holds shape.width x z d states
        → EndsAs job shape lent main (ending_of (header_of job shape) lent (instructions_at job place.line place.byte) (drop place.position main) states)
        (length (instructions_at job place.line place.byte)) place.line x' z' d'
        (Ok (record { byte = next.end + 1; line = place.line + 1; position = place.position }))
    unfolding EndsBy execute execute_then execute_one left_after left_then step_of
    plain_went lent main within x' z' d' obeyed states holds =
        record {
          by = record {
            recorded = _;
            ahead = read.ahead;
            fewer = rw read.instructions (omega arith);
            within = within;
            states = forward_all (header_of job shape) read.line states;
            holds = holds_line (header_of job shape) read.line holds (obeyed.acts read.line plain_said);
            is = rw read.instructions;
          };
        }

    -- the number of the next line is small
    pub plain_small : place.line + 1 ≤ length job + 1
    plain_small =
        let number = read.ahead.number in
        let within = read.ahead.within in
        omega arith

-- ---- a noise line

module _ {job : List ℕ} (shape : Shape) {recorded : ℕ} (place : Place) {next : LineRead} {values : List ℕ}
    (read : NoiseRead job (header_of job shape) recorded place.line place.byte next values) {noiseless : List ℕ}
    (rows : shape.outcomes * shape.width ≤ length noiseless)
  where
    pub noise_ready : NoiseReady job place next values noiseless shape
    unfolding noise_lines
    noise_ready = record { lines = noise_lines read noiseless shape.width rows; header = refl; number = refl }

    pub noise_done : {main second : List ℕ} {base : ℕ} {x z x' z' : List ℕ} {r : Result Place Spent}
        → NoiseDone job place next values shape noiseless main second base x z x' z' r → (d : List ℕ) (states : States) → Holds shape.width x z d states
        → EndsAs job shape (lent_by shape noiseless second base) main
        (ending_of (header_of job shape) (lent_by shape noiseless second base) (instructions_at job place.line place.byte) (drop place.position main) states)
        (length (instructions_at job place.line place.byte)) place.line x' z' d r
    unfolding noise_lines
    noise_done done d states holds = rw read.instructions (done.by (noise_lines read noiseless shape.width rows) refl refl _ d states holds)
