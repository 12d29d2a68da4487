-- Laws: fields put one after the other. Assumes nothing.
use Rattle.std.specs.Prelude.{◌≡◌, refl, List, [], ◌∷◌, ◌++◌, ℕ, ◌+◌, ◌≤◌, length, take}
use Rattle.std.proofs.Common.{sym, ap, subst, ◌∙◌, append_assoc, arith, length-take}
use Rattle.text.specs.Bytes.{LF, bytes, unlines}
use Rattle.text.specs.Number.{decimal}
use Rattle.text.specs.List.{list_text}
use Rattle.writer.specs.Placed.{Puts}
use Rattle.writer.specs.Laws.Placing.{puts_more}
use Rattle.writer.specs.Laws.Lists.{decimal_length, list_length}
use Rattle.job.specs.Line.{SparsePauli}
use Rattle.made.specs.Choice.{Chosen, given, ◌>>=◌, few, pauli}
use Rattle.made_fields.specs.declared.choices.Number.{Number}
use Rattle.made_fields.specs.declared.choices.Numbers.{Numbers}
use Rattle.made_fields.specs.Chosen.{NumberIs, ListIs}
use Rattle.made_fields.specs.declared.Making.{Making}
use Rattle.made_fields.specs.Lines.{FieldIs, PartIs, PauliIs, MadeIs}

pub short_list : (l : List ℕ) → length l ≤ 8 → length (list_text l) ≤ 169
short_list l h = omega (arith, list_length decimal decimal_length l, h)

pub take_short : (n : ℕ) (l : List ℕ) → n ≤ 8 → length (take n l) ≤ 8
take_short n l h = omega (arith, length-take n l, h)

-- the bytes up to a value, and the value
pub field_put : (most : ℕ) {at next end : ℕ} {s t out mid after : List ℕ} → Puts at s out mid next → Puts next t mid after end → length s + length t ≤ most
    → FieldIs most at s t out after end
field_put most p q h = record { puts = puts_more p q; near = omega (arith, p.place, q.place, h) }

-- a chosen list that was put
pub list_put : {most n : ℕ} {c : Chosen (List ℕ)} {list : List ℕ} {r : Numbers} {at next : ℕ} {name out after : List ℕ} → ListIs most c list r
    → FieldIs n at name (list_text (take r.count list)) out after next → Puts at (name ++ list_text c.value) out after next
list_put l f = rw l.list_is at f.puts

-- the two lists of a Pauli
pub pauli_put : (n : ℕ) {m r : Making} {x z : List ℕ} {xs zs : Numbers} {name out mid after : List ℕ} {next end : ℕ}
    → ListIs 8 (few n m.state) x xs → FieldIs 200 m.at name (list_text (take xs.count x)) out mid next
    → ListIs 8 (few n xs.state) z zs → FieldIs 200 next (bytes " z=") (list_text (take zs.count z)) mid after end
    → r ≡ record { at = end; recorded = m.recorded; state = zs.state }
    → PauliIs name (pauli n m.state) m r out after
unfolding pauli ◌>>=◌ given
pauli_put n {m} {r} {x} {z} {xs} {zs} {name} lx fx lz fz e =
    rw e
    (record {
      puts = rw append_assoc at (puts_more (list_put lx fx) (rw lx.state at (list_put lz fz)));
      recorded = refl;
      state = lz.state ∙ ap (λ (s : ℕ). (few n s).state) lx.state;
      near = omega (arith, fx.near, fz.near);
    })

-- a Pauli within a line
pub pauli_more : {end : ℕ} {name rest out mid after : List ℕ} {c : Chosen SparsePauli} {m r : Making} → PauliIs name c m r out mid → Puts r.at rest mid after end
    → Puts m.at (name ++ (list_text c.value.x ++ (bytes " z=" ++ (list_text c.value.z ++ rest)))) out after end
pauli_more p q = simp append_assoc at (puts_more p.puts q)

-- a chosen number that was put
pub number_put : {n : ℕ} {c : Chosen ℕ} {r : Number} {at next : ℕ} {name out after : List ℕ} → NumberIs c r
    → FieldIs n at name (decimal r.value) out after next → Puts at (name ++ decimal c.value) out after next
number_put l f = rw l.value at f.puts

-- the LF behind a line
pub line_ended : (k s : ℕ) {m mid r : Making} {t out before after : List ℕ} → Puts m.at t out before mid.at → mid.recorded ≡ k → mid.state ≡ s
    → PartIs 1 (LF ∷ []) mid.state mid r before after
    → MadeIs (record { value = record { texts = t ∷ []; recorded = k }; state = s }) m r out after
unfolding unlines
line_ended k s p er es e = record { puts = puts_more p e.puts; recorded = e.recorded ∙ er; state = e.state ∙ es }

-- the same where the text goes on at a place
pub line_moved : (k s : ℕ) {at behind : ℕ} {m mid r : Making} {t out before after : List ℕ} → Puts m.at t out before at
    → mid ≡ record { at = at; recorded = k; state = behind } → behind ≡ s → PartIs 1 (LF ∷ []) mid.state mid r before after
    → MadeIs (record { value = record { texts = t ∷ []; recorded = k }; state = s }) m r out after
line_moved k s {at} {behind} {m} {mid} p em es e =
    line_ended k s (subst (Puts _ _ _ _) (ap Making.at (sym em)) p) (ap Making.recorded em) (ap Making.state em ∙ es) e
