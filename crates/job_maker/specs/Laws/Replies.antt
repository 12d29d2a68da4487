-- The whole reply of the call that makes a job. Laws. Assumes nothing.
use Rattle.std.specs.Prelude.{◌≡◌, Bool, ◌&&◌, List, [], ◌∷◌, ◌++◌, length}
use Rattle.std.proofs.Math.Path.{refl, sym, ap}
use Rattle.std.proofs.Common.{◌∙◌, arith}
use Rattle.std.proofs.Math.Bool.{true, false, and-false}
use Prim.Native.Nat.{ℕ, suc, ◌+◌, ◌%◌, ◌≤◌, ◌<◌}
use borrow.Author.Tests.{eq-eqb, ne_eqb, lt-leb, leb-true, leb-false}
use Rattle.std.proofs.Math.Dec.{leb}
use Rattle.stream.specs.Stream.{step}
use Rattle.job.specs.Grammar.{header_with}
use Rattle.job.specs.Checks.{in_range}
use Rattle.job.specs.Job.{max_bytes, answer, accepted}
use Rattle.job.specs.Reply.{refused_text, text_fits_of}
use Rattle.job.specs.Sound.{HeaderSound}
use Rattle.writer.specs.Placed.{placed, Puts}
use Rattle.writer.specs.Laws.Placing.{placed_over}
use Rattle.writer.specs.Laws.Fits.{room_for, within_limit}
use Rattle.made.specs.Made.{made_header, made_text, make_reply}
use Rattle.made.proofs.Laws.Replies.{header_fits}
use Rattle.job_maker.specs.Whole.{JobPut}

-- ---- the header

module _ (qubits outcomes shots seed : ℕ) {state : ℕ} (e : state ≡ step seed) where
  pub header_is : header_with (1 + state % 2) qubits outcomes shots ≡ made_header qubits outcomes shots seed
  unfolding made_header
  header_is =
      let edition : 1 + state % 2 ≡ suc (step seed % 2) = rw e (omega arith) in
      rw edition

  pub header_range : in_range (header_with 1 qubits outcomes shots) ≡ true → HeaderSound (header_with (1 + state % 2) qubits outcomes shots)
  header_range range = rw header_is (header_fits qubits outcomes shots seed range)

  -- the code's job is the made one
  pub job_is : {lines : ℕ} {out after : List ℕ} {r : ℕ} → JobPut (header_with (1 + state % 2) qubits outcomes shots) lines state out after r
      → JobPut (made_header qubits outcomes shots seed) lines (step seed) out after r
  job_is p = rw (header_is, e) at p

-- ---- the reply

module _ (qubits outcomes shots lines seed : ℕ) (out : List ℕ) where
  pub unheld_reply : in_range (header_with 1 qubits outcomes shots) ≡ false → refused_text (answer 3 0) out ≡ make_reply qubits outcomes shots lines seed out
  unfolding make_reply
  unheld_reply e = rw e

  module _ (range : in_range (header_with 1 qubits outcomes shots) ≡ true) where
    pub unseeded_reply : seed ≡ 0 → refused_text (answer 22 0) out ≡ make_reply qubits outcomes shots lines seed out
    unfolding make_reply
    unseeded_reply e = rw (range, eq-eqb seed 0 e)

    -- the text was measured over no bytes
    module _ (seeded : seed ≡ 0 → ⊥) {front : List ℕ} {r : ℕ} (p : JobPut (made_header qubits outcomes shots seed) lines (step seed) [] front r) (empty : length front ≡ 0) where
      abbrev text : List ℕ
      text = made_text qubits outcomes shots lines seed

      all_lent : front ++ out ≡ out
      all_lent = go front empty
        where
          go : (l : List ℕ) → length l ≡ 0 → l ++ out ≡ out
          go [] e = refl
          go (a ∷ l) e = absurd (omega arith)

      large_reply : 1048576 < r → refused_text (answer 15 0) (front ++ out) ≡ make_reply qubits outcomes shots lines seed out
      unfolding make_reply made_text
      large_reply h = rw (all_lent, range, ne_eqb seed 0 seeded, lt-leb (length text) 1048576 (p.large h), and-false)

      module _ (few : r ≤ 1048576) where
        size : r ≡ length text
        unfolding made_text
        size = omega (arith, (p.whole few).place)

        fits_same : leb r (length (front ++ out)) && leb r max_bytes ≡ text_fits_of text out
        fits_same = rw (all_lent, size)

        -- the second pass puts what the first has measured
        again : {s : ℕ} {after : List ℕ} → JobPut (made_header qubits outcomes shots seed) lines (step seed) (front ++ out) after s → Puts 0 text (front ++ out) after s
        unfolding made_text
        again {s} {after} q = go (leb s 1048576) refl
          where
            go : (b : Bool) → leb s 1048576 ≡ b → Puts 0 text (front ++ out) after s
            go true e = q.whole (leb-true s 1048576 e)
            go false e = absurd (omega (arith, q.large (leb-false s 1048576 e), size))

      pub long_reply : leb r (length (front ++ out)) && leb r max_bytes ≡ false → refused_text (answer 15 0) (front ++ out) ≡ make_reply qubits outcomes shots lines seed out
      unfolding make_reply
      long_reply long = go (leb r 1048576) refl
        where
          go : (b : Bool) → leb r 1048576 ≡ b → refused_text (answer 15 0) (front ++ out) ≡ make_reply qubits outcomes shots lines seed out
          go true e = rw (all_lent, range, ne_eqb seed 0 seeded, sym (fits_same (leb-true r 1048576 e)) ∙ long)
          go false e = large_reply (leb-false r 1048576 e)

      pub whole_reply : {s : ℕ} {after : List ℕ} → leb r (length (front ++ out)) && leb r max_bytes ≡ true
          → JobPut (made_header qubits outcomes shots seed) lines (step seed) (front ++ out) after s
          → record { answered = accepted; figure = r; out = after } ≡ make_reply qubits outcomes shots lines seed out
      unfolding make_reply
      whole_reply {s} {after} measured q =
          let few = within_limit r (length (front ++ out)) measured in
          let fits : text_fits_of text out ≡ true = sym (fits_same few) ∙ measured in
          let written = (again few q).bytes ∙ ap (placed 0 text) all_lent ∙ placed_over text out (room_for (length text) (length out) fits) in
          rw (range, ne_eqb seed 0 seeded, fits, written, size few)
