-- What it is for the words of frames and deltas to follow a plain line. Definitions. Assumes nothing.
use Rattle.std.specs.Prelude.{ℕ, ◌*◌, ◌≡◌, List, length}
use Rattle.job.specs.Line.{Line}
use Rattle.reader.specs.declared.Form.{Form}
use Rattle.instructions.specs.Plain.{Plain}
use Rattle.propagator.specs.Acts.{Acts, line_rule}

-- ---- lines that change frames and deltas

-- the values say a line, and the words are rows for it
pub record Ready (form : Form) (values : List ℕ) (w n m : ℕ) (x z d : List ℕ) : Type 0 where
  pub line : Line
  pub plain : Plain form values w n m line
  pub of_x : length x ≡ n * w
  pub of_z : length z ≡ n * w
  pub of_deltas : length d ≡ m * w

-- the words after are what the line makes of the words before, in every shot
pub record Obeyed (form : Form) (values : List ℕ) (w n m : ℕ) (x z d x' z' d' : List ℕ) : Type 0 where
  pub acts : (line : Line) → Plain form values w n m line → Acts w (line_rule n m line) x z d x' z' d'

-- ---- lines that change frames alone, whatever the outcomes

pub record FrameReady (form : Form) (values : List ℕ) (w n : ℕ) (x z : List ℕ) : Type 0 where
  pub outcomes : ℕ
  pub line : Line
  pub plain : Plain form values w n outcomes line
  pub of_x : length x ≡ n * w
  pub of_z : length z ≡ n * w

pub record FrameObeyed (form : Form) (values : List ℕ) (w n : ℕ) (x z x' z' : List ℕ) : Type 0 where
  pub acts : (m : ℕ) (line : Line) → Plain form values w n m line → (d : List ℕ) → Acts w (line_rule n m line) x z d x' z' d
