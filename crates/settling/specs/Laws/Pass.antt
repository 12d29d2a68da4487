-- A pass over a job, from instruction to instruction. Laws. Assumes nothing.
use Rattle.std.specs.Prelude.{◌≡◌, Ok, Err, refl, ℕ, ◌+◌, ◌-◌, ◌*◌, ◌≤◌, ◌<◌, length, drop}
use Rattle.std.proofs.Math.Path.{sym, ap}
use Rattle.std.proofs.Common.{subst, ◌∙◌, arith}
use mathlib.Core.List.{List, [], ◌∷◌, ◌++◌, append_assoc, append-nil}
use Rattle.std.proofs.Math.ListN.{take, length-take}
use Rattle.text.specs.Bytes.{LF, unlines, until}
use Rattle.job.specs.Line.{Placed}
use Rattle.job.specs.Job.{Job, job_of, check_job}
use Rattle.job.proofs.Laws.Begun.{ended_parts, job_passes, job_begun}
use Rattle.instructions.specs.Reading.{line_at, LineAt}
use Rattle.instructions.specs.Laws.Places.{whole_line}
use Rattle.instructions.specs.Laws.Steps.{none_left}
use Rattle.job_shape.specs.Header.{behind_header_of}
use Rattle.job_shape.specs.Laws.Header.{header_line, header_started}
use Rattle.writer.specs.Placed.{Puts}
use Rattle.writer.specs.Laws.Placing.{puts_nothing, puts_more}
use Rattle.draws.specs.Left.{left_after}
use Rattle.draws.specs.Settle.{SettledLine, Settled, prefixed, settle, settled_text}
use Rattle.settling.specs.declared.instruction_text.Reached.{Reached}
use Rattle.noise_text.specs.Injections.{text_of}
use Rattle.settling.specs.Pass.{Pass, lent_by, settled_from, left_from, Between, Onward, SpentHere}
use Rattle.settling.specs.Whole.{settled_by, left_by_all, Fits, taken_for, PutAll, SettledPut}
use Rattle.noise_text.specs.Laws.Injections.{text_append}

-- ---- lines before others

prefixed_none : (o : Settled) → o ≡ prefixed [] o
unfolding prefixed
prefixed_none (Settled.spent_at k) = refl
prefixed_none (Settled.settled ls) = refl

prefixed_more : (ls ms : List SettledLine) (o : Settled) → prefixed ls (prefixed ms o) ≡ prefixed (ls ++ ms) o
unfolding prefixed
prefixed_more ls ms (Settled.spent_at k) = refl
prefixed_more ls ms (Settled.settled ks) = ap Settled.settled (sym (append_assoc ls ms ks))

-- ---- all instructions

-- Some lines are put from a place on, and what is left comes from the instructions from a place on.
pub record Going (p : Pass) (from : ℕ) (out : List ℕ) (here : Reached) (after : List ℕ) : Type 0 where
  pub lines_put : List SettledLine
  pub settles : settled_by p ≡ prefixed lines_put (settled_from p here)
  pub leaves : left_by_all p ≡ left_from p here
  pub puts : Puts from (text_of lines_put) out after here.text
  pub few : here.text ≤ 8388608 * here.place.line
  pub between : Between p here

same_head : {A : Type 0} {a b : A} {l m : List A} → a ∷ l ≡ b ∷ m → a ≡ b
same_head e = cc

-- the header's bytes
header_text : (job : List ℕ) (e : ℕ) → (check_job job).number ≡ 0 → LineAt job 0 e → (job_of job).text ≡ line_at job 0 e
header_text job e passes at = let b = job_begun job passes in ap (λ (j : Job). j.text) b.is ∙ same_head (sym b.split ∙ at.cut)

header_append : (t : List ℕ) (ls : List SettledLine) → settled_text t ls ≡ settled_text t [] ++ text_of ls
unfolding settled_text unlines
header_append t ls = sym (append_assoc t (LF ∷ []) (text_of ls))

module _ {p : Pass} (f : Fits p) where
  pub fits_sizes : (0 < length p.job) × (length p.job ≤ 1048576)
  fits_sizes = ended_parts p.job (job_passes p.job f.passes).0

  pub header_at : LineAt p.job 0 (until LF p.job)
  header_at = header_line p.job f.passes

  module _ {out after : List ℕ} {from byte : ℕ} (found : from ≡ behind_header_of p.job) (puts : Puts 0 (take from p.job) out after byte) where
    pub header_put : Puts 0 (settled_text (job_of p.job).text []) out after byte
    unfolding settled_text unlines
    header_put =
        let first : from ≡ until LF p.job + 1 - 0 = omega (arith, found) in
        rw (header_text p.job (until LF p.job) f.passes header_at)
        (subst (λ (t : List ℕ). Puts 0 t out after byte) (ap (λ (k : ℕ). take k p.job) first ∙ whole_line header_at) puts)

    pub pass_begins : Going p byte after (record { place = record { byte = from; line = 2; position = 0 }; text = byte }) after
    unfolding unlines
    pass_begins =
        let s = header_started p.job f.passes in
        let few : byte ≤ 8388608 * 2 = omega (arith, found, puts.place, header_at.inside, fits_sizes, length-take from p.job) in
        rw found
        (record {
          lines_put = [];
          settles = ap (λ (is : List Placed). settle (lent_by p) is p.main) (sym s.instructions) ∙ prefixed_none _;
          leaves = ap (λ (is : List Placed). left_after (lent_by p) is p.main) (sym s.instructions);
          puts = puts_nothing;
          few = few;
          between =
              record {
                header = (job_of p.job).header;
                recorded = 0;
                ahead = s.ahead;
                shots_are = f.shots_are;
                words_are = f.words_are;
                rows = f.rows;
                position = omega arith;
              };
        })

module _ {p : Pass} {from : ℕ} {out : List ℕ} {here : Reached} {mid : List ℕ} (g : Going p from out here mid) where
  pub pass_on : {after : List ℕ} {next : Reached} → Onward p mid here after next → Going p from out next after
  pass_on {after} {next} o =
      record {
        lines_put = g.lines_put ++ o.lines;
        settles = g.settles ∙ ap (prefixed g.lines_put) o.settles ∙ prefixed_more g.lines_put o.lines (settled_from p next);
        leaves = g.leaves ∙ o.leaves;
        puts = rw (text_append g.lines_put o.lines) (puts_more g.puts o.puts);
        few = omega (arith, g.few, o.few, o.onward);
        between = o.between;
      }

  pub pass_spent : {start after : List ℕ} {position : ℕ} → SpentHere p here position → SettledPut p start after (Err (record { line = here.place.line; taken = position }))
  unfolding prefixed PutAll taken_for
  pass_spent s = record { put = rw (g.settles, s.settles) refl; within = s.within; leaves = s.leaves ∙ sym g.leaves }

  pub pass_done : {start : List ℕ} → Puts 0 (settled_text (job_of p.job).text []) start out from → length p.job ≤ here.place.byte
      → SettledPut p start mid (Ok (record { bytes = here.text; taken = here.place.position }))
  unfolding prefixed PutAll taken_for settle left_after
  pass_done header h =
      let t = (job_of p.job).text in
      let none = none_left p.job here.place.line here.place.byte h in
      record {
        put =
            rw (g.settles, none, append-nil g.lines_put)
            (record { long = here.text; is = refl; puts = rw (header_append t g.lines_put) (puts_more header g.puts) });
        within = g.between.position;
        leaves = sym (g.leaves ∙ ap (λ (is : List Placed). left_after (lent_by p) is (drop here.place.position p.main)) none);
      }
