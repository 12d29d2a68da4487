-- Theorems about runs of jobs without noise, from their lines to the bits of the words that the runs leave: shots apart, and faults that add. Their proofs on
-- lists stand in crate frames. Assumes nothing.
use Rattle.std.specs.Prelude.{◌≡◌, true, List, ℕ, ◌<◌}
use Rattle.pauli.specs.Bits.{Bits}
use Rattle.job.specs.declared.Header.{Header}
use Rattle.job.specs.Line.{Line}
use Rattle.frames.specs.Forward.{setting_of, start}
use Rattle.frames.specs.Shots.{combined, ApartBut, Together}
use Rattle.frames.proofs.ShotTheorems.{shots_apart, deltas_add}
use Rattle.run.specs.Run.{Memory}
use Rattle.backward.specs.Calls.{shot_bits, SameBits, RanQuiet}
use Rattle.backward.proofs.Laws.ShotBits.{line_bits, same_then, same_back, same_states, same_combined}

-- Shots apart: two settled jobs with one header whose other lines agree, and which hold every injection and flip of the set's shots equally often between
-- the same two of them, are run to their ends, whatever is lent. In each shot of the set all frame and delta bits are equal.
pub shots_apart_calls : (h : Header) (a b : List ℕ) (m n : Memory) (ks ls : List Line) → RanQuiet a m h ks → RanQuiet b n h ls
    → (shots : Bits) → ApartBut shots ks ls → (shot : ℕ) → shot < h.shots → shots shot ≡ true → SameBits h (shot_bits a m shot) (shot_bits b n shot)
shots_apart_calls h a b m n ks ls first second shots apart shot below on =
    same_then h (line_bits a m h ks first shot below)
    (same_then h (same_states h (shots_apart (setting_of h shot) shots on ks ls apart start)) (same_back h (line_bits b n h ls second shot below)))

-- Faults add: where a third settled job holds just the injections and flips of two, each between the same two other lines, and twice where both hold it
-- there, all frame and delta bits of its run are the exclusive or of theirs, in every shot.
pub faults_add_calls : (h : Header) (a b c : List ℕ) (m n o : Memory) (ks ls ms : List Line) → RanQuiet a m h ks → RanQuiet b n h ls → RanQuiet c o h ms
    → Together ks ls ms → (shot : ℕ) → shot < h.shots → SameBits h (shot_bits c o shot) (combined (shot_bits a m shot) (shot_bits b n shot))
faults_add_calls h a b c m n o ks ls ms first second both all shot below =
    same_then h (line_bits c o h ms both shot below)
    (same_then h (same_states h (deltas_add (setting_of h shot) ks ls ms all))
    (same_back h (same_combined h (line_bits a m h ks first shot below) (line_bits b n h ls second shot below))))
