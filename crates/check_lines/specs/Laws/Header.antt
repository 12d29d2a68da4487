-- The header's numbers and the outcomes recorded, after a line. Laws. Assumes nothing.
use Rattle.std.specs.Prelude.{ℕ, ◌+◌, ◌≡◌, ◌&&◌, List}
use Rattle.std.proofs.Math.Numerals.{add-one}
use Rattle.std.proofs.Math.Path.{refl, ap}
use Rattle.std.proofs.Common.{◌∙◌}
use Rattle.std.proofs.Math.Bool.{not}
use Rattle.std.proofs.Math.Option.{some}
use Rattle.text.specs.Bytes.{bytes}
use Rattle.text.specs.Template.{Value}
use Rattle.template.specs.Values.{held_number}
use Rattle.job.specs.declared.Header.{Header}
use Rattle.job.specs.Grammar.{Written, header_by, edition_by, forms}
use Rattle.job.specs.Checks.{Context, records, in_range, header_fits_of, next}
use Rattle.reader.specs.declared.Form.{Form}
use Rattle.reader.specs.declared.Form.TheVariants as form
use Rattle.reader.specs.Parsed.{place_of, form_of, Said}
use Rattle.check_values.specs.declared.context.Context.{Context as Known}
use Rattle.check_values.specs.Contexts.{context_of}
use Rattle.instructions.specs.Laws.Meaning.{Meaning, some_same, header_held, edition_held}

module _ (c : Context) (f : Form) where
  pub none_recorded : (f ≡ form.Header → ⊥) → (f ≡ form.EditionHeader → ⊥) → (f ≡ form.Measure → ⊥) → (f ≡ form.Allocate → ⊥) → (w : Written) → Meaning f w
      → c.recorded ≡ (next c w).recorded
  unfolding next
  none_recorded a k b d w (Meaning.header h e) = absurd (a e)
  none_recorded a k b d w (Meaning.edition_header h e) = absurd (k e)
  none_recorded a k b d w (Meaning.plain l e m) = rw e
  none_recorded a k b d w (Meaning.measure l e) = absurd (b e)
  none_recorded a k b d w (Meaning.allocate l e) = absurd (d e)
  none_recorded a k b d w (Meaning.alone n e q m) = refl
  none_recorded a k b d w (Meaning.uniform n e q) = refl
  none_recorded a k b d w (Meaning.weighted n e q) = refl
  none_recorded a k b d w (Meaning.element P e) = refl
  none_recorded a k b d w (Meaning.weighted_element v P e) = refl

  -- a line that is no header asks for one before it, and keeps its numbers
  pub header_before : (f ≡ form.Header → ⊥) → (f ≡ form.EditionHeader → ⊥) → (w : Written) → Meaning f w → (c.begun ≡ header_fits_of c w) × (c.header ≡ (next c w).header)
  unfolding next header_fits_of
  header_before a b w (Meaning.header h e) = absurd (a e)
  header_before a b w (Meaning.edition_header h e) = absurd (b e)
  header_before a b w (Meaning.plain l e m) = (refl, refl)
  header_before a b w (Meaning.measure l e) = (refl, refl)
  header_before a b w (Meaning.allocate l e) = (refl, refl)
  header_before a b w (Meaning.alone n e k m) = (refl, refl)
  header_before a b w (Meaning.uniform n e k) = (refl, refl)
  header_before a b w (Meaning.weighted n e k) = (refl, refl)
  header_before a b w (Meaning.element P e) = (refl, refl)
  header_before a b w (Meaning.weighted_element v P e) = (refl, refl)

-- what a header's line says, by the words that hold its numbers
module _ {f : List ℕ} {vs : List Value} {w : Written} where
  pub header_said : Said form.Header f vs w → Written.header (header_by (held_number f)) ≡ w
  unfolding forms place_of bytes
  header_said h = ap Written.header (header_held h.held) ∙ some_same h.says

  pub edition_said : Said form.EditionHeader f vs w → Written.header (edition_by (held_number f)) ≡ w
  unfolding forms place_of bytes
  edition_said h = ap Written.header (edition_held h.held) ∙ some_same h.says

module _ (c : Known) {h r : Header} {w : Written} (e : Written.header h ≡ w) (same : r ≡ h) where
  pub fits_header : (not c.begun && in_range r) ≡ header_fits_of (context_of c) w
  unfolding header_fits_of context_of
  fits_header = ap (λ (x : Header). not c.begun && in_range x) same ∙ ap (λ (x : Written). header_fits_of (context_of c) x) e

  pub header_after_lem : r ≡ (next (context_of c) w).header
  unfolding next
  header_after_lem = same ∙ ap (λ (x : Written). (next (context_of c) x).header) e

-- o and r record an outcome
module _ (c : Known) (vs : List Value) (w : Written) where
  pub recorded_header : (form_of form.Header).says vs ≡ some w → 0 ≡ (next (context_of c) w).recorded
  unfolding forms place_of bytes next
  recorded_header e = ap (λ (x : Written). (next (context_of c) x).recorded) (some_same e)

  pub recorded_edition : (form_of form.EditionHeader).says vs ≡ some w → 0 ≡ (next (context_of c) w).recorded
  unfolding forms place_of bytes next
  recorded_edition e = ap (λ (x : Written). (next (context_of c) x).recorded) (some_same e)

  pub recorded_measure : (form_of form.Measure).says vs ≡ some w → c.recorded + 1 ≡ (next (context_of c) w).recorded
  unfolding forms place_of bytes next records context_of
  recorded_measure e = add-one c.recorded ∙ ap (λ (x : Written). (next (context_of c) x).recorded) (some_same e)

  pub recorded_allocate : (form_of form.Allocate).says vs ≡ some w → c.recorded + 1 ≡ (next (context_of c) w).recorded
  unfolding forms place_of bytes next records context_of
  recorded_allocate e = add-one c.recorded ∙ ap (λ (x : Written). (next (context_of c) x).recorded) (some_same e)
