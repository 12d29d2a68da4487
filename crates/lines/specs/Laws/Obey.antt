-- Lines by their forms: those that change something, and those that don't. Laws. Assumes nothing.
use Rattle.std.specs.Prelude.{ℕ, ◌*◌, ◌≤◌, List, Option as CodeOption, None, Some}
use Rattle.std.proofs.Common.{mul-le-mul_right, arith}
use Rattle.std.proofs.Math.Path.{◌≡◌, refl, subst}
use Rattle.std.proofs.Math.Option.{some}
use Rattle.pauli.specs.Gate.{Gate}
use Rattle.pauli.specs.Code.{gate_named, named_or_none}
use Rattle.pauli.specs.declared.Gate.{Gate as GateName}
use Rattle.text.specs.Bytes.{bytes}
use Rattle.text.proofs.Laws.Values.{none_some}
use Rattle.text.specs.Template.{Value}
use Rattle.job.specs.Line.{Line}
use Rattle.job.specs.Grammar.{Kind, Written, noise_line, forms}
use Rattle.frames.specs.Forward.{forward}
use Rattle.reader.specs.declared.Form.{Form}
use Rattle.reader.specs.declared.Form.TheVariants as form
use Rattle.reader.specs.Parsed.{place_of, no_form}
use Rattle.instructions.specs.Laws.Meaning.{noise_said, some_same}
use Rattle.propagator.specs.Acts.{Acts, line_rule}
use Rattle.instructions.specs.Plain.{Plain}
use Rattle.lines.specs.Plain.{Ready, Obeyed, FrameReady, FrameObeyed}
use Rattle.instructions.specs.Laws.Read.{written_line, Idle}

-- ---- scratch

-- 31 rows have room for so many
pub scratch_fits : (w k : ℕ) {l : ℕ} → k ≤ 31 → 31 * w ≤ l → k * w ≤ l
scratch_fits w k few room = omega (arith, mul-le-mul_right {m = k} {n = 31} w few)

-- ---- a gate by its code

module _ {o : CodeOption GateName} {g : Gate} (known : named_or_none o ≡ some g) where
  pub named_gate : {n : GateName} → o ≡ Some n → gate_named n ≡ g
  unfolding named_or_none
  named_gate is = some_same (rw is at known)

  pub not_nameless : o ≡ None → ⊥
  unfolding named_or_none
  not_nameless is = none_some (rw is at known)

-- ---- a form by its name

pub frame_ready : {f k : Form} {fields : List ℕ} {w n m : ℕ} {x z d : List ℕ} → f ≡ k → Ready f fields w n m x z d → FrameReady k fields w n x z
frame_ready {fields = fields} {w = w} {n = n} {m = m} e r =
    record {
      outcomes = m;
      line = r.line;
      plain = subst (λ (g : Form). Plain g fields w n m r.line) e r.plain;
      of_x = r.of_x;
      of_z = r.of_z;
    }

pub frame_obeyed : {f k : Form} {fields : List ℕ} {w n m : ℕ} {x z d x' z' : List ℕ} → f ≡ k → FrameObeyed k fields w n x z x' z'
    → Obeyed f fields w n m x z d x' z' d
frame_obeyed {fields = fields} {w = w} {n = n} {m = m} {d = d} e o =
    record { acts = λ line p. o.acts m line (subst (λ (g : Form). Plain g fields w n m line) e p) d }

pub obeyed_as : {f k : Form} {fields : List ℕ} {w n m : ℕ} {x z d x' z' d' : List ℕ} → f ≡ k → Obeyed k fields w n m x z d x' z' d'
    → Obeyed f fields w n m x z d x' z' d'
obeyed_as {fields = fields} {w = w} {n = n} {m = m} e o = record { acts = λ line p. o.acts line (subst (λ (g : Form). Plain g fields w n m line) e p) }

-- ---- lines that do nothing

-- a noise line is no plain line
no_noise : (kind : Kind) (size : ℕ) (vs : List Value) {l : Line} → noise_line kind size vs ≡ some (Written.line l) → ⊥
no_noise kind size vs {l} e = let k = noise_said kind size vs (Written.line l) e in let z : ◌≡◌ {A = ℕ} 0 1 = cc in omega arith

-- such a line is a Pauli or allocates an outcome
module _ {fields : List ℕ} {w n m : ℕ} (x z d : List ℕ) where
  idle_acts : (f : Form) → Idle f → (line : Line) → Plain f fields w n m line → Acts w (line_rule n m line) x z d x z d
  unfolding forms place_of bytes no_form forward
  idle_acts form.Unread h line p = let e = p.said.says in let z : ◌≡◌ {A = ℕ} 0 1 = cc in absurd (omega arith)
  idle_acts form.Header h line p = let e = p.said.says in let z : ◌≡◌ {A = ℕ} 0 1 = cc in absurd (omega arith)
  idle_acts form.Unitary h line p = absurd (h.unitary refl)
  idle_acts form.Clifford h line p = absurd (h.clifford refl)
  idle_acts form.Pauli h line p = subst (λ (l : Line). Acts w (line_rule n m l) x z d x z d) (written_line p.said.says) record { shots = λ s k. refl }
  idle_acts form.Exponential h line p = absurd (h.exponential refl)
  idle_acts form.Controlled h line p = absurd (h.controlled refl)
  idle_acts form.Permute h line p = absurd (h.permute refl)
  idle_acts form.Measure h line p = absurd (h.measure refl)
  idle_acts form.Allocate h line p = subst (λ (l : Line). Acts w (line_rule n m l) x z d x z d) (written_line p.said.says) record { shots = λ s k. refl }
  idle_acts form.Conditional h line p = absurd (h.conditional refl)
  idle_acts form.Reset h line p = absurd (h.reset refl)
  idle_acts form.Inject h line p = absurd (h.inject refl)
  idle_acts form.Flip h line p = absurd (h.flip refl)
  idle_acts form.Single h line p = absurd (no_noise _ _ p.values p.said.says)
  idle_acts form.Depolarizing h line p = absurd (no_noise _ _ p.values p.said.says)
  idle_acts form.Uniform h line p = absurd (no_noise _ _ p.values p.said.says)
  idle_acts form.Weighted h line p = absurd (no_noise _ _ p.values p.said.says)
  idle_acts form.Element h line p = let e = p.said.says in let z : ◌≡◌ {A = ℕ} 0 1 = cc in absurd (omega arith)
  idle_acts form.WeightedElement h line p = let e = p.said.says in let z : ◌≡◌ {A = ℕ} 0 1 = cc in absurd (omega arith)
  idle_acts form.EditionHeader h line p = let e = p.said.says in let z : ◌≡◌ {A = ℕ} 0 1 = cc in absurd (omega arith)
  idle_acts form.Barrier h line p = subst (λ (l : Line). Acts w (line_rule n m l) x z d x z d) (written_line p.said.says) record { shots = λ s k. refl }

  pub idle_obeyed : {f : Form} → Idle f → Obeyed f fields w n m x z d x z d
  idle_obeyed {f} h = record { acts = idle_acts f h }
