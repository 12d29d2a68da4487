-- The lines of a printed session, each by itself. Definitions. Assumes nothing.
use Rattle.std.specs.Prelude.{List, [], ◌∷◌, ◌++◌, ℕ}
use Rattle.text.specs.Bytes.{bytes}
use Rattle.text.specs.Template.{Value, line_text}
use Rattle.job.specs.declared.Header.{Header}
use Rattle.rows.specs.Words.{words_per_row, bit_in}
use Rattle.session.specs.Session.{bit_text}

-- the header's numbers
unfoldable pub header_text : Header → List ℕ
header_text h = line_text (bytes "ok=1 qubits=N outcomes=N shots=N") (Value.number h.qubits ∷ Value.number h.outcomes ∷ Value.number h.shots ∷ [])

-- the deltas of an outcome
unfoldable pub delta_text : ℕ → List ℕ → ℕ → List ℕ
delta_text shots deltas id = line_text (bytes "id=N delta=") (Value.number id ∷ []) ++ bit_text (bit_in (words_per_row shots) deltas id) shots 0
