-- `seed_words::fill` meets its contract: the words written so far and those that are left to write, from this state on, make the whole. Assumes nothing.
use Prim.Native.Nat.{◌+◌, ◌*◌}
use lib.ListN.{length}
use Rattle.stream.specs.Laws.Words.{Filling}
use Rattle.seed_words.proofs.fill.Given as goal

abbrev pub invariant-loop-i : goal.invariant-loop-i
invariant-loop-i l = Filling (length l.initial.words) l.seed l.words l.state l.i

-- whole blocks are left

abbrev pub invariant-loop-k : goal.invariant-loop-k
invariant-loop-k l = Filling (length l.initial.words) l.seed l.words l.state (l.rest + l.k * 4096)
