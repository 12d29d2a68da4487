-- Gate lines of an accepted job, known by two of their bytes. Laws. Assumes nothing.
use Rattle.std.specs.Prelude.{ℕ, ◌<◌, ◌≡◌, true, List, length, get_or}
use Rattle.std.proofs.Common.{arith, sym, ap, ◌∙◌}
use Rattle.pauli.specs.declared.Pauli.{Pauli as PauliWords}
use Rattle.pauli.specs.Pauli.{Pauli}
use Rattle.pauli.specs.Gate.{gate_of, conjugated_back}
use Rattle.pauli.specs.Code.{by_gate}
use Rattle.pauli.specs.Fixed.{in_set, as_pauli}
use Rattle.text.specs.Template.{list_at_of}
use Rattle.job.specs.Line.{Line}
use Rattle.job.specs.Checks.{all_below}
use Rattle.job.specs.Sound.{LineSound}
use Rattle.job.proofs.Laws.Lists.{below_more}
use Rattle.instructions.specs.Laws.Known.{OfGate, of_gate, gate_line}
use Rattle.backward.specs.Walk.{carry, counts, backward}
use Rattle.lines_back.specs.Laws.Parts.{operand_below}
use Rattle.lines_from_last.specs.Line.{OfJob}
use Rattle.lines_back.specs.declared.Walk.{Walk as WalkWords}
use Rattle.lines_back.specs.Back.{written_back, noise_back}
use Rattle.gate_text.specs.declared.Gate.{Gate as GateWords}
use Rattle.gate_text.specs.Gate.{GateBytes, GateLine, GateRead}
use Rattle.walker.specs.Steps.{TextBack}

module _ {text : List ℕ} (there : GateBytes text) where
  abbrev gate_of_lem : (o : OfJob text) → OfGate text o.known.written
  gate_of_lem o = of_gate there o.known.reads

  -- on qubits below 256
  qubits_below : (o : OfJob text) → all_below 256 (list_at_of 0 (gate_of_lem o).values) ≡ true
  unfolding LineSound
  qubits_below o =
      let g = gate_of_lem o in
      let (r, within, sound) = o.known.sound (Line.unitary g.gate (list_at_of 0 g.values)) (sym g.is) in
      below_more _ 256 _ o.range.few_qubits sound.operands.below

  pub gate_there : OfJob text → GateLine text
  gate_there o = gate_line (gate_of_lem o)

  module _ {q : GateWords} (read : GateRead text q) where
    pub operands_of : OfJob text → (q.first.0 < 256) × (q.second.0 < 256)
    operands_of o =
        let g = gate_of_lem o in (
          rw (read.first _ g.reads) (operand_below 256 _ 0 (omega arith) (qubits_below o)),
          rw (read.second _ g.reads) (operand_below 256 _ 1 (omega arith) (qubits_below o)),
        )

    -- a gate line changes the observable alone
    pub gate_goes : {w : WalkWords} {b : PauliWords} → as_pauli b ≡ by_gate conjugated_back (gate_of q.code) q.first.0 q.second.0 (as_pauli w.observable)
        → (shot k : ℕ) (set : List ℕ) → length set ≡ 16
        → TextBack text shot k w (record { observable = b; count = w.count; noise = w.noise }) set set
    unfolding by_gate written_back noise_back backward carry counts
    gate_goes {w} {b} e shot k set long =
        record {
          long = long;
          walks = λ o.
              let g = gate_of_lem o in
              let back : as_pauli b ≡ conjugated_back g.gate (get_or (list_at_of 0 g.values) 0 0) (get_or (list_at_of 0 g.values) 1 0) (as_pauli w.observable) =
              e ∙ rw (read.code _ g.reads, read.first _ g.reads, read.second _ g.reads, g.code) in
              rw (← g.is) (ap (λ (P : Pauli). record { carried = record { observable = P; set = in_set set }; count = w.count }) back);
          noise = λ o. rw (← (gate_of_lem o).is);
        }
