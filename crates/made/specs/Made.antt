-- Definitions. The text of a made job, and the whole reply of the call that makes it (document 02, note 7; docs/MAKING.md). Assumes nothing.
use Rattle.std.specs.Prelude.{cond, List, [], ◌∷◌, ◌++◌, ℕ, zero, suc, ◌%◌, eqb}
use Rattle.text.specs.Bytes.{bytes, unlines}
use Rattle.text.specs.Template.{Value, line_text}
use Rattle.stream.specs.Stream.{step}
use Rattle.job.specs.declared.Header.{Header}
use Rattle.job.specs.Grammar.{header_with}
use Rattle.job.specs.Checks.{in_range}
use Rattle.job.specs.Job.{answer}
use Rattle.job.specs.Reply.{TextReply, refused_text, text_fits_of, written_text}
use Rattle.made.specs.Making.{instruction}

-- the header's line; the first edition has no field for it
unfoldable pub header_text : Header → List ℕ
header_text h =
    let numbers = Value.number h.qubits ∷ Value.number h.outcomes ∷ Value.number h.shots ∷ [] in
    cond (eqb h.edition 2)
    (line_text (bytes "op=job edition=N qubits=N outcomes=N shots=N") (Value.number h.edition ∷ numbers))
    (line_text (bytes "op=job qubits=N outcomes=N shots=N") numbers)

-- the lines of so many instructions, from where so many outcomes are recorded and the stream has this state
unfoldable pub made_texts : Header → ℕ → ℕ → ℕ → List (List ℕ)
made_texts h zero recorded state = []
made_texts h (suc n) recorded state =
    let i = instruction h recorded state in
    i.value.texts ++ made_texts h n i.value.recorded i.state

-- the first word is the edition
unfoldable pub made_header : ℕ → ℕ → ℕ → ℕ → Header
made_header qubits outcomes shots seed = header_with (suc (step seed % 2)) qubits outcomes shots

unfoldable pub made_text : ℕ → ℕ → ℕ → ℕ → ℕ → List ℕ
made_text qubits outcomes shots lines seed =
    let h = made_header qubits outcomes shots seed in
    unlines (header_text h ∷ made_texts h lines 0 (step seed))

-- 3: a header may not hold these numbers, whatever its edition. 22: the seed is zero. 15: the text does not fit.
unfoldable pub make_reply : ℕ → ℕ → ℕ → ℕ → ℕ → List ℕ → TextReply
make_reply qubits outcomes shots lines seed out =
    let text = made_text qubits outcomes shots lines seed in
    let fitting = cond (text_fits_of text out) (written_text text out) (refused_text (answer 15 0) out) in
    let seeded = cond (eqb seed 0) (refused_text (answer 22 0) out) fitting in
    cond (in_range (header_with 1 qubits outcomes shots)) seeded (refused_text (answer 3 0) out)
