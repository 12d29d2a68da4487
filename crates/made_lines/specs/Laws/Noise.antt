-- Laws: lines of noise that were put field by field, with the values as they were chosen. Assumes nothing.
use Rattle.std.specs.Prelude.{◌≡◌, refl, Bool, true, false, cond, ℕ, ◌+◌, ◌-◌, ◌^◌, ◌≤◌, ◌<◌, get_or, take}
use Rattle.std.proofs.Math.Path.{sym, ap, subst}
use Rattle.std.proofs.Common.{◌∙◌, arith, lt-ltb, le-ltb, length-take-le}
use mathlib.Core.List.{List, [], ◌∷◌, ◌++◌, append_assoc, append-nil}
use Rattle.std.proofs.Math.ListN.{length}
use Rattle.text.specs.Bytes.{LF, bytes}
use Rattle.text.specs.Number.{decimal_digits, decimal, hexadecimal}
use Rattle.text.specs.List.{commas_by, list_text_by, list_text}
use Rattle.text.specs.Template.{value_text, first_text, line_text}
use Rattle.job.specs.declared.Header.{Header}
use Rattle.job.specs.Line.{size_of}
use Rattle.writer.specs.Placed.{Puts}
use Rattle.writer.specs.Laws.Placing.{puts_nothing, puts_more}
use Rattle.writer.specs.Laws.Lists.{hex_length}
use Rattle.made.specs.Choice.{Chosen, given, ◌>>=◌, pick, few, pauli, stretch}
use Rattle.made.specs.Making.{probabilities, correlation, parity, NoiseStart, noise_start, single, depolarizing}
use Rattle.made.proofs.Laws.Words.{pick_is, parity_none, parity_some}
use Rattle.made_fields.specs.declared.choices.Number.{Number}
use Rattle.made_fields.specs.declared.choices.Numbers.{Numbers}
use Rattle.made_fields.specs.Chosen.{NumberIs, ListIs}
use Rattle.made_fields.specs.declared.Making.{Making}
use Rattle.made_fields.specs.Lines.{FieldIs, PartIs, PauliIs, MadeIs}
use Rattle.made_fields.specs.Laws.Fields.{list_put, number_put, pauli_more, line_moved}
use Rattle.made_lines.specs.Noise.{beginning, start_text, StartIs, count_text}

-- ---- values

pub correlation_none : (c : ℕ) {at next : ℕ} {out after : List ℕ} → c < 8 → Puts at (bytes " corr=-") out after next
    → FieldIs 40 at (bytes " corr=") (list_text (correlation c)) out after next
unfolding bytes correlation list_text_by
correlation_none c l p = rw (lt-ltb c 8 l) (record { puts = p; near = omega (arith, p.place) })

pub correlation_some : (c : ℕ) {at next : ℕ} {out after : List ℕ} → 8 ≤ c → FieldIs 40 at (bytes " corr=") (decimal (c - 8)) out after next
    → FieldIs 40 at (bytes " corr=") (list_text (correlation c)) out after next
unfolding correlation list_text_by commas_by
correlation_some c l f = rw (le-ltb c 8 l, append-nil) f

pub no_condition : (ids : List ℕ) (state : ℕ) → length ids ≡ 0 → NumberIs (parity ids state) (record { value = 0; state = state })
no_condition ids state e = rw (parity_none ids state e) (record { value = refl; state = refl })

pub condition_parity : (ids : List ℕ) (state : ℕ) {r : Number} → (length ids ≡ 0 → ⊥) → NumberIs (pick 2 state) r → NumberIs (parity ids state) r
condition_parity ids state e n = rw (parity_some ids state e ∙ sym (pick_is 2 state)) n

-- ---- what every noise line has in front

pub beginning_put : {m r : Making} {p c : Number} {x next at end : ℕ} {out o1 o2 after : List ℕ} → NumberIs (pick 6 m.state) p
    → Puts m.at (bytes "op=n p=") out o1 next → x ≡ get_or probabilities p.value 0 → Puts next (hexadecimal x) o1 o2 at → NumberIs (pick 16 p.state) c
    → FieldIs 40 at (bytes " corr=") (list_text (correlation c.value)) o2 after end → r ≡ record { at = end; recorded = m.recorded; state = c.state }
    → PartIs 80 (beginning m.state).value (beginning m.state).state m r out after
unfolding bytes line_text first_text value_text beginning ◌>>=◌ given
beginning_put {m} {x = x} n name e hex k f er =
    let c = rw n.state at k in
    let h : Puts _ (hexadecimal (get_or probabilities (pick 6 m.state).value 0)) _ _ _ = rw (e, n.value) at hex in
    let l = rw c.value at f.puts in
    rw er
    (record {
      puts = puts_more name (puts_more h (puts_more l puts_nothing));
      recorded = refl;
      state = c.state;
      near = omega (arith, name.place, hex.place, hex_length x, f.near);
    })

pub start_put : (h : Header) {m s r : Making} {ids : Numbers} {b : Number} {at end : ℕ} {list out o1 o2 after : List ℕ}
    → PartIs 80 (beginning m.state).value (beginning m.state).state m s out o1 → length list ≡ 8 → ListIs 8 (few m.recorded s.state) list ids
    → FieldIs 200 s.at (bytes " cond=") (list_text (take ids.count list)) o1 o2 at
    → ((l : List ℕ) → length l ≡ ids.count → NumberIs (parity l ids.state) b) → FieldIs 40 at (bytes " parity=") (decimal b.value) o2 after end
    → r ≡ record { at = end; recorded = m.recorded; state = b.state } → StartIs (noise_start h m.recorded m.state) m r out after
unfolding bytes line_text first_text value_text beginning noise_start ◌>>=◌ given
start_put h {ids = ids} {list = list} p long l fl n fn er =
    let i = rw p.state at l in
    let b = rw (i.list_is, i.state) at (n (take ids.count list) (length-take-le ids.count list (omega (arith, long, l.short)))) in
    rw er
    (record {
      puts = simp append_assoc at (puts_more p.puts (puts_more (list_put i fl) (puts_more (number_put b fn) puts_nothing)));
      recorded = refl;
      state = b.state;
      near = omega (arith, p.near, fl.near, fn.near);
    })

-- within a line
pub start_more : {c : Chosen NoiseStart} {m s : Making} {end : ℕ} {rest out mid after : List ℕ} → StartIs c m s out mid → Puts s.at rest mid after end
    → Puts m.at (start_text c.value rest) out after end
start_more s q = simp append_assoc at (puts_more s.puts q)

-- ---- d=1 and d=2

size_one : bytes " size=1" ≡ bytes " size=" ++ decimal 1
unfolding bytes decimal_digits
size_one = refl

module _ (h : Header) {m s mid r : Making} {out o1 before after : List ℕ} (start : StartIs (noise_start h m.recorded m.state) m s out o1) where
  pub single_made : {next : Making} {end : ℕ} {o2 : List ℕ} → PauliIs (bytes " d=1 x=") (pauli h.qubits s.state) s next o1 o2
      → Puts next.at (bytes " size=1") o2 before end → mid ≡ record { at = end; recorded = m.recorded; state = next.state }
      → PartIs 1 (LF ∷ []) mid.state mid r before after → MadeIs (single h m.recorded m.state) m r out after
  unfolding bytes line_text first_text value_text single ◌>>=◌ given
  single_made {next} {end} {o2} p q em e =
      let t = rw start.state at p in
      let size = subst (λ (text : List ℕ). Puts next.at text o2 before end) size_one q in
      line_moved _ _ (start_more start (pauli_more t (puts_more size puts_nothing))) em t.state e

  pub spread_made : {q : Numbers} {at size end : ℕ} {list o2 : List ℕ} → length list ≡ 8 → ListIs 4 (stretch h.qubits 4 s.state) list q
      → FieldIs 200 s.at (bytes " d=2 q=") (list_text (take q.count list)) o1 o2 at → size ≡ 4 ^ q.count - 1
      → FieldIs 40 at (bytes " size=") (decimal size) o2 before end → mid ≡ record { at = end; recorded = m.recorded; state = q.state }
      → PartIs 1 (LF ∷ []) mid.state mid r before after → MadeIs (depolarizing h m.recorded m.state) m r out after
  unfolding bytes line_text first_text value_text depolarizing size_of ◌>>=◌ given
  spread_made {q} {list = list} long lq fl es fs em e =
      let l = rw start.state at lq in
      let count = sym (length-take-le q.count list (omega (arith, long, lq.short))) ∙ ap length l.list_is in
      let size = rw (es ∙ ap (λ (k : ℕ). 4 ^ k - 1) count) at fs.puts in
      line_moved _ _ (start_more start (puts_more (list_put l fl) (puts_more size puts_nothing))) em l.state e

-- ---- how a line ends that element lines follow

pub count_put : (weighted : Bool) (n : ℕ) {at next end : ℕ} {out mid after : List ℕ} → FieldIs 40 at (bytes (cond weighted " d=4 n=" " d=3 n=")) (decimal n) out mid next
    → FieldIs 40 next (bytes " size=") (decimal n) mid after end → Puts at (count_text weighted n) out after end × (end ≤ at + 80)
unfolding bytes line_text first_text value_text
count_put true n a b = (puts_more a.puts (puts_more b.puts puts_nothing), omega (arith, a.near, b.near))
count_put false n a b = (puts_more a.puts (puts_more b.puts puts_nothing), omega (arith, a.near, b.near))
