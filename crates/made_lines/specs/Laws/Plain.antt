-- Laws: a line that was put field by field, with the values as they were chosen, is the line that the rule makes. Assumes nothing.
use Rattle.std.specs.Prelude.{◌≡◌, List, [], ◌∷◌, ℕ, ◌+◌, ◌<◌, set}
use Rattle.std.proofs.Math.Path.{ap}
use Rattle.std.proofs.Common.{◌∙◌, append_assoc, append-nil, arith, eq-eqb, ne_eqb, length-take}
use Rattle.std.proofs.Math.Numerals.{add-one}
use Rattle.std.proofs.Math.ListN.{length, take}
use Rattle.text.specs.Bytes.{LF, bytes, unlines}
use Rattle.text.specs.Number.{decimal}
use Rattle.text.specs.List.{list_text_by, list_text}
use Rattle.text.specs.Template.{value_text, first_text, line_text}
use Rattle.job.specs.declared.Header.{Header}
use Rattle.job.specs.Line.{SparsePauli}
use Rattle.writer.specs.Placed.{Puts}
use Rattle.writer.specs.Laws.Placing.{puts_nothing, puts_more}
use Rattle.made.specs.Choice.{Chosen, given, ◌>>=◌, pick, few, pauli, cyclic, stretch}
use Rattle.made.specs.Making.{one_sided, pauli_line, controlled, permute, conditional, reset_qubits_of, reset, inject, flip, measure, allocate, barrier}
use Rattle.made.proofs.Laws.Choice.{always_stretch}
use Rattle.made_fields.specs.declared.choices.Number.{Number}
use Rattle.made_fields.specs.declared.choices.Numbers.{Numbers}
use Rattle.made_fields.specs.Chosen.{NumberIs, ListIs}
use Rattle.made_fields.specs.declared.Making.{Making}
use Rattle.made_fields.specs.Lines.{FieldIs, PartIs, PauliIs, MadeIs}
use Rattle.made_lines.specs.Plain.{PauliLineIs}
use Rattle.made_fields.specs.Laws.Fields.{list_put, number_put, pauli_more, line_ended, line_moved}

-- a line that is a Pauli
module _ {m r : Making} {out after : List ℕ} where
  pub pauli_ended : {name mid : List ℕ} {c : Chosen SparsePauli} {p : Making} → PauliIs name c m p out mid → PartIs 1 (LF ∷ []) p.state p r mid after
      → PauliLineIs name c m r out after
  pauli_ended p e = record { puts = pauli_more p e.puts; recorded = e.recorded ∙ p.recorded; state = e.state ∙ p.state }

  module _ (h : Header) where
    pub p_made : PauliLineIs (bytes "op=p x=") (pauli h.qubits m.state) m r out after → MadeIs (pauli_line h m.recorded "op=p x=L z=L" m.state) m r out after
    unfolding bytes line_text first_text value_text unlines pauli_line ◌>>=◌ given
    p_made p = record { puts = simp (append_assoc, append-nil) p.puts; recorded = p.recorded; state = p.state }

    pub e_made : PauliLineIs (bytes "op=e x=") (pauli h.qubits m.state) m r out after → MadeIs (pauli_line h m.recorded "op=e x=L z=L" m.state) m r out after
    unfolding bytes line_text first_text value_text unlines pauli_line ◌>>=◌ given
    e_made p = record { puts = simp (append_assoc, append-nil) p.puts; recorded = p.recorded; state = p.state }

module _ (h : Header) {m mid r : Making} {out before after : List ℕ} where
  -- ---- lines with Paulis

  pub inject_made : {shot : Number} {next : ℕ} {from : Making} {behind : List ℕ} → NumberIs (pick h.shots m.state) shot
      → FieldIs 40 m.at (bytes "op=i shot=") (decimal shot.value) out behind next
      → from ≡ record { at = next; recorded = m.recorded; state = shot.state }
      → PauliIs (bytes " x=") (pauli h.qubits from.state) from mid behind before → PartIs 1 (LF ∷ []) mid.state mid r before after
      → MadeIs (inject h m.recorded m.state) m r out after
  unfolding bytes line_text first_text value_text inject ◌>>=◌ given
  inject_made n fn ef p e =
      let q = rw (ef, n.state) at p in
      line_ended _ _ (puts_more (number_put n fn) (pauli_more q puts_nothing)) q.recorded q.state e

  pub conditional_made : {p : Making} {list o1 o2 : List ℕ} {ids : Numbers} {b : Number} {next end : ℕ}
      → PauliIs (bytes "op=f x=") (pauli h.qubits m.state) m p out o1 → ListIs 8 (few m.recorded p.state) list ids
      → FieldIs 200 p.at (bytes " id=") (list_text (take ids.count list)) o1 o2 next → NumberIs (pick 2 ids.state) b
      → FieldIs 40 next (bytes " parity=") (decimal b.value) o2 before end
      → mid ≡ record { at = end; recorded = m.recorded; state = b.state } → PartIs 1 (LF ∷ []) mid.state mid r before after
      → MadeIs (conditional h m.recorded m.state) m r out after
  unfolding bytes line_text first_text value_text conditional ◌>>=◌ given
  conditional_made p l fl n fn em e =
      let ids = rw p.state at l in
      let b = rw ids.state at n in
      line_moved _ _ (pauli_more p (puts_more (list_put ids fl) (puts_more (number_put b fn) puts_nothing))) em b.state e

  pub measure_made : {p : Making} {o1 : List ℕ} {end : ℕ} → PauliIs (bytes "op=o x=") (pauli h.qubits m.state) m p out o1
      → FieldIs 40 p.at (bytes " id=") (decimal m.recorded) o1 before end
      → mid ≡ record { at = end; recorded = m.recorded + 1; state = p.state } → PartIs 1 (LF ∷ []) mid.state mid r before after
      → MadeIs (measure h m.recorded m.state) m r out after
  unfolding bytes line_text first_text value_text measure ◌>>=◌ given
  measure_made p f em e = line_moved _ _ (pauli_more p (puts_more f.puts puts_nothing)) (rw add-one at em) p.state e

  -- ---- lines of numbers

  pub flip_made : {shot id : Number} {next end : ℕ} {o1 : List ℕ} → NumberIs (pick h.shots m.state) shot
      → FieldIs 40 m.at (bytes "op=t shot=") (decimal shot.value) out o1 next → NumberIs (pick m.recorded shot.state) id
      → FieldIs 40 next (bytes " id=") (decimal id.value) o1 before end
      → mid ≡ record { at = end; recorded = m.recorded; state = id.state } → PartIs 1 (LF ∷ []) mid.state mid r before after
      → MadeIs (flip h m.recorded m.state) m r out after
  unfolding bytes line_text first_text value_text flip ◌>>=◌ given
  flip_made n fn k fk em e =
      let i = rw n.state at k in
      line_moved _ _ (puts_more (number_put n fn) (puts_more (number_put i fk) puts_nothing)) em i.state e

  pub allocate_made : {angle : Number} {next end : ℕ} {o1 : List ℕ} → FieldIs 40 m.at (bytes "op=r id=") (decimal m.recorded) out o1 next
      → NumberIs (pick 2 m.state) angle → FieldIs 40 next (bytes " angle=") (decimal angle.value) o1 before end
      → mid ≡ record { at = end; recorded = m.recorded + 1; state = angle.state } → PartIs 1 (LF ∷ []) mid.state mid r before after
      → MadeIs (allocate h m.recorded m.state) m r out after
  unfolding bytes line_text first_text value_text allocate ◌>>=◌ given
  allocate_made f n fn em e = line_moved _ _ (puts_more f.puts (puts_more (number_put n fn) puts_nothing)) (rw add-one at em) n.state e

  -- ---- lines with lists of qubits

  pub reset_made : {list : List ℕ} {q : Numbers} {end : ℕ} → ListIs 8 (reset_qubits_of h 0 m.state) list q
      → FieldIs 200 m.at (bytes "op=z q=") (list_text (take q.count list)) out before end
      → mid ≡ record { at = end; recorded = m.recorded; state = q.state } → PartIs 1 (LF ∷ []) mid.state mid r before after
      → MadeIs (reset h m.recorded m.state) m r out after
  unfolding bytes line_text first_text value_text reset_qubits_of reset ◌>>=◌ given
  reset_made l f em e = line_moved _ _ (puts_more (list_put l f) puts_nothing) em l.state e

  pub barrier_made : {list : List ℕ} {q : Numbers} {end : ℕ} → ListIs 8 (stretch h.qubits 8 m.state) list q
      → FieldIs 200 m.at (bytes "op=b q=") (list_text (take q.count list)) out before end
      → mid ≡ record { at = end; recorded = m.recorded; state = q.state } → PartIs 1 (LF ∷ []) mid.state mid r before after
      → MadeIs (barrier h m.recorded m.state) m r out after
  unfolding bytes line_text first_text value_text barrier ◌>>=◌ given
  barrier_made l f em e = line_moved _ _ (puts_more (list_put l f) puts_nothing) em l.state e

  pub controlled_made : {x z : List ℕ} {y : Number} {xs zs : Numbers} {end : ℕ} → NumberIs (pick 2 m.state) y → ListIs 8 (few h.qubits y.state) x xs
      → ListIs 8 (few h.qubits xs.state) z zs
      → Puts m.at (line_text (bytes "op=k x=L z=L u=L v=L") (one_sided y.value (take xs.count x) (take zs.count z))) out before end
      → mid ≡ record { at = end; recorded = m.recorded; state = zs.state } → PartIs 1 (LF ∷ []) mid.state mid r before after
      → MadeIs (controlled h m.recorded m.state) m r out after
  unfolding controlled ◌>>=◌ given
  controlled_made n lx lz p em e =
      let a = rw n.state at lx in
      let b = rw a.state at lz in
      line_moved _ _ (rw (n.value, a.list_is, b.list_is) at p) em b.state e

  pub permute_made : (places : List ℕ) {list o1 : List ℕ} {q : Numbers} {k : Number} {next end : ℕ} → ListIs 8 (stretch h.qubits 8 m.state) list q
      → q.count ≡ length (take q.count list) → NumberIs (pick q.count q.state) k → take q.count places ≡ cyclic q.count q.count k.value
      → FieldIs 200 m.at (bytes "op=m s=") (list_text (take q.count places)) out o1 next
      → FieldIs 200 next (bytes " q=") (list_text (take q.count list)) o1 before end
      → mid ≡ record { at = end; recorded = m.recorded; state = k.state } → PartIs 1 (LF ∷ []) mid.state mid r before after
      → MadeIs (permute h m.recorded m.state) m r out after
  unfolding bytes line_text first_text value_text permute ◌>>=◌ given
  permute_made places {list} {o1} {q} {k} l c n ep fp fl em e =
      let long : q.count ≡ length (stretch h.qubits 8 m.state).value = c ∙ ap length l.list_is in
      let i = rw l.state at n in
      let order : take q.count places ≡ cyclic (length (stretch h.qubits 8 m.state).value) (length (stretch h.qubits 8 m.state).value) k.value =
      ep ∙ ap (λ (j : ℕ). cyclic j j k.value) long
      in
      let j = rw long at i in
      line_moved _ _ (puts_more (rw (order, j.value) at fp.puts) (puts_more (list_put l fl) puts_nothing)) em j.state e

-- a stretch is not empty
pub stretch_some : (n state : ℕ) {list : List ℕ} {q : Numbers} → 0 < n → ListIs 8 (stretch n 8 state) list q → 0 < q.count
stretch_some n state {list} {q} h l =
    let filled = ((always_stretch n 8 h (omega arith) (omega arith)).from state).stretch.filled in
    omega (arith, filled, ap length l.list_is, length-take q.count list)

-- X parts alone
pub sides_x : (a b : List ℕ) {at one two next y : ℕ} {out o1 o2 after : List ℕ} → y ≡ 0 → FieldIs 200 at (bytes "op=k x=") (list_text a) out o1 one
    → FieldIs 200 one (bytes " z=- u=") (list_text b) o1 o2 two → Puts two (bytes " v=-") o2 after next
    → Puts at (line_text (bytes "op=k x=L z=L u=L v=L") (one_sided y a b)) out after next
unfolding bytes line_text first_text value_text list_text_by one_sided
sides_x a b ey f g p = rw ey (puts_more f.puts (puts_more g.puts p))

-- Z parts alone
pub sides_z : (a b : List ℕ) {at one next y : ℕ} {out o1 after : List ℕ} → (y ≡ 0 → ⊥) → FieldIs 200 at (bytes "op=k x=- z=") (list_text a) out o1 one
    → FieldIs 200 one (bytes " u=- v=") (list_text b) o1 after next
    → Puts at (line_text (bytes "op=k x=L z=L u=L v=L") (one_sided y a b)) out after next
unfolding bytes line_text first_text value_text list_text_by one_sided
sides_z a b {at} {one} {next} {y} ny f g = rw (ne_eqb y 0 ny) (puts_more f.puts (puts_more g.puts puts_nothing))

-- the qubits of a reset
pub reset_stretch : (h : Header) (state : ℕ) {list : List ℕ} {r : Numbers} → h.edition ≡ 2 → ListIs 8 (stretch h.qubits 8 state) list r
    → ListIs 8 (reset_qubits_of h 0 state) list r
unfolding reset_qubits_of
reset_stretch h state e l = rw (eq-eqb h.edition 2 e) l

pub reset_one : (h : Header) (state : ℕ) (list : List ℕ) {a : Number} → (h.edition ≡ 2 → ⊥) → 0 < length list → NumberIs (pick h.qubits state) a
    → ListIs 8 (reset_qubits_of h 0 state) (set list 0 a.value) (record { count = 1; state = a.state })
unfolding reset_qubits_of ◌>>=◌ given
reset_one h state [] ne room n = absurd (omega (arith, room))
reset_one h state (b ∷ list) ne room n =
    rw (ne_eqb h.edition 2 ne) (record { list_is = ap (λ (q : ℕ). q ∷ []) n.value; state = n.state; short = omega arith })
