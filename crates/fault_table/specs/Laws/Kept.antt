-- How many elements are kept after a line, by its form. Laws. Assumes nothing.
use Rattle.std.specs.Prelude.{ℕ, ◌+◌, ◌≡◌, true, List}
use Rattle.std.proofs.Math.Path.{refl, ap}
use Rattle.std.proofs.Common.{true≢false}
use Rattle.std.proofs.Math.Option.{some}
use Rattle.text.specs.Bytes.{bytes}
use Rattle.text.specs.Template.{Value}
use Rattle.job.specs.Grammar.{Written, forms}
use Rattle.reader.specs.declared.Form.{Form}
use Rattle.reader.specs.declared.Form.TheVariants as form
use Rattle.reader.specs.Parsed.{place_of, form_of}
use Rattle.instructions.specs.Laws.Meaning.{some_same, Meaning, meaning}
use Rattle.fault_table.specs.Said.{is_element_of}
use Rattle.fault_table.specs.Table.{kept_after_of}

pub element_kept : (n : ℕ) (w : Written) → true ≡ is_element_of w → n + 1 ≡ kept_after_of w n
unfolding kept_after_of is_element_of
element_kept n (Written.header h) e = absurd (true≢false e)
element_kept n (Written.line l) e = absurd (true≢false e)
element_kept n (Written.noise m) e = absurd (true≢false e)
element_kept n (Written.element v P) e = refl

module _ (n : ℕ) {f : Form} (vs : List Value) (w : Written) (s : (form_of f).says vs ≡ some w) where
  pub header_kept : f ≡ form.Header → n ≡ kept_after_of w n
  unfolding forms place_of bytes kept_after_of
  header_kept e = ap (λ (v : Written). kept_after_of v n) (some_same (rw e at s))

  pub edition_kept : f ≡ form.EditionHeader → n ≡ kept_after_of w n
  unfolding forms place_of bytes kept_after_of
  edition_kept e = ap (λ (v : Written). kept_after_of v n) (some_same (rw e at s))

  pub none_kept : (f ≡ form.Header → ⊥) → (f ≡ form.Element → ⊥) → (f ≡ form.WeightedElement → ⊥) → (f ≡ form.EditionHeader → ⊥) → 0 ≡ kept_after_of w n
  unfolding kept_after_of
  none_kept a b c d = go (meaning f vs w s)
    where
      go : {v : Written} → Meaning f v → 0 ≡ kept_after_of v n
      go (Meaning.header h e) = absurd (a e)
      go (Meaning.edition_header h e) = absurd (d e)
      go (Meaning.plain l e k) = refl
      go (Meaning.measure l e) = refl
      go (Meaning.allocate l e) = refl
      go (Meaning.alone m e t k) = refl
      go (Meaning.uniform m e t) = refl
      go (Meaning.weighted m e t) = refl
      go (Meaning.element P e) = absurd (b e)
      go (Meaning.weighted_element v P e) = absurd (c e)
