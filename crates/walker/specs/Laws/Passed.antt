-- Lines that do nothing in a walk of a shot, by a few of their bytes: Paulis, allocations, barriers, and injections in another shot. Laws. Assumes nothing.
use Rattle.std.specs.Prelude.{ℕ, ◌<◌, ◌≡◌, ◌⊎◌, Bool, ◌&&◌, length, get_or}
use Rattle.std.proofs.Common.{arith, sym, ap, ◌∙◌, ne_eqb, inl, inr}
use Rattle.std.proofs.Math.Path.{refl, subst}
use mathlib.Core.List.{List, [], ◌++◌}
use Rattle.std.proofs.Math.Option.{Option, none, some}
use Rattle.std.proofs.Math.ListN.{get_or-append}
use Rattle.template.specs.Values.{held_number}
use Rattle.template.specs.declared.Progress.{Progress}
use Rattle.text.specs.Bytes.{bytes}
use Rattle.text.specs.Template.{Value, numbers_in, number_at}
use Rattle.numbers.specs.Read.{in_front}
use Rattle.template.specs.Fields.{Held, Begins}
use Rattle.text.proofs.Laws.Values.{none_some}
use Rattle.text.proofs.Laws.Places.{literals}
use Rattle.template.specs.Laws.Fields.{numbers_append, nothing_held}
use Rattle.pauli.specs.Pauli.{anticommutes}
use Rattle.job.specs.Line.{SparsePauli, pauli_of, Line}
use Rattle.job.specs.Grammar.{Written, forms, read_line_of}
use Rattle.reader.specs.declared.Form.TheVariants as form
use Rattle.reader.specs.Parsed.{place_of, form_of}
use Rattle.reader.specs.Laws.Sift.{sift, opens}
use Rattle.reader.specs.Laws.Tried.{one_form, by_values}
use Rattle.instructions.specs.Laws.Meaning.{some_same}
use Rattle.backward.specs.Walk.{carry, counts, one_more_of, backward}
use Rattle.lines_back.specs.Back.{written_back, noise_back}
use Rattle.walker.specs.Steps.{PassedOver}

-- ---- lines that do nothing in any shot

module _ (l : List ℕ) (shot : ℕ) (v : Written) (first : get_or l 0 0 ≡ 111) (reads : read_line_of l ≡ some v) where
  pauli_passed : get_or l 3 0 ≡ 112 → PassedOver shot v
  unfolding forms place_of bytes sift opens literals written_back noise_back backward carry counts
  pauli_passed third =
      let (vs, have, says) = by_values (form_of form.Pauli) l v (sym (one_form l 111 112 form.Pauli refl first third) ∙ reads) in
      subst (PassedOver shot) (some_same says) record { walks = λ w. refl; noise = λ k before. refl }

  allocation_passed : get_or l 3 0 ≡ 114 → PassedOver shot v
  unfolding forms place_of bytes sift opens literals written_back noise_back backward carry counts
  allocation_passed third =
      let (vs, have, says) = by_values (form_of form.Allocate) l v (sym (one_form l 111 114 form.Allocate refl first third) ∙ reads) in
      subst (PassedOver shot) (some_same says) record { walks = λ w. refl; noise = λ k before. refl }

  barrier_passed : get_or l 3 0 ≡ 98 → PassedOver shot v
  unfolding forms place_of bytes sift opens literals written_back noise_back backward carry counts
  barrier_passed third =
      let (vs, have, says) = by_values (form_of form.Barrier) l v (sym (one_form l 111 98 form.Barrier refl first third) ∙ reads) in
      subst (PassedOver shot) (some_same says) record { walks = λ w. refl; noise = λ k before. refl }

  -- by the third byte: `b`, `p` or `r`
  pub still_passed : (get_or l 3 0 ≡ 98) ⊎ ((get_or l 3 0 ≡ 112) ⊎ (get_or l 3 0 ≡ 114)) → PassedOver shot v
  still_passed (inl b) = barrier_passed b
  still_passed (inr (inl p)) = pauli_passed p
  still_passed (inr (inr r)) = allocation_passed r

-- ---- injections in another shot

inject_passed : (shot n : ℕ) (P : SparsePauli) → (n ≡ shot → ⊥) → PassedOver shot (Written.line (Line.inject n P))
unfolding written_back noise_back backward carry counts
inject_passed shot n P other =
    record { walks = λ w. ap (λ (b : Bool). record { carried = w.carried; count = one_more_of (b && anticommutes 256 (pauli_of P) w.carried.observable) w.count }) (sym (ne_eqb n shot other)); noise = λ k before. refl }

-- what an injection begins with
unfoldable pub inject_begin : List ℕ
unfolding bytes
inject_begin = bytes "op=i shot=N "

front_some : (d : List Value) (o : Option (List Value)) (vs : List Value) → in_front d o ≡ some vs → (ws : List Value) × (vs ≡ d ++ ws)
unfolding in_front
front_some d none vs e = absurd (none_some e)
front_some d (some ws) vs e = (ws, sym (some_same e))

module _ {l words before : List ℕ} {p : Progress} (b : Begins l inject_begin 0 0 0 p before words) where
  one_number : Held words 1 0 b.values
  unfolding inject_begin bytes
  one_number = rw (b.numbers_read, b.lists_read) at (b.holds [] (nothing_held before))

  -- the shot stands first
  first_number : (vs ws : List Value) → vs ≡ b.values ++ ws → number_at 0 vs ≡ held_number words 0
  first_number vs ws e =
      let some_number : 0 < length (numbers_in b.values) = omega (arith, one_number.numbers_in_lem) in
      ap (λ (us : List Value). get_or (numbers_in us) 0 0) e
      ∙ ap (λ (ns : List ℕ). get_or ns 0 0) (numbers_append b.values ws)
      ∙ get_or-append (numbers_in b.values) (numbers_in ws) 0 0 some_number
      ∙ sym (one_number.number 0 (omega arith))

pub shot_passed : (l : List ℕ) (shot : ℕ) (v : Written) {words before : List ℕ} {p : Progress} → get_or l 0 0 ≡ 111 → get_or l 3 0 ≡ 105 → read_line_of l ≡ some v
    → Begins l inject_begin 0 0 0 p before words → (held_number words 0 ≡ shot → ⊥) → PassedOver shot v
unfolding forms place_of bytes sift opens literals inject_begin
shot_passed l shot v first third reads b other =
    let (vs, have, says) = by_values (form_of form.Inject) l v (sym (one_form l 111 105 form.Inject refl first third) ∙ reads) in
    let (ws, are) = front_some b.values _ vs (sym (b.reads (bytes "x=L z=L")) ∙ have) in
    subst (PassedOver shot) (some_same says) (inject_passed shot (number_at 0 vs) _ (λ e. other (sym (first_number b vs ws are) ∙ e)))
