-- Definitions. The correlation check: one size per corr, as the lines say it (document 02, note 6). Assumes nothing.
use Rattle.std.specs.Prelude.{Bool, true, cond, List, [], ◌∷◌, ◌++◌, ℕ, eqb}
use Rattle.std.proofs.Math.Option.{Option, none, some}
use Rattle.job.specs.Line.{size_of, Instruction, Placed}

-- a correlation with the size of the first noise line that has it
pub record Seen : Type 0 where
  pub correlation : ℕ
  pub size : ℕ

-- whether a size is that of the correlation's first line, if there was one
unfoldable pub agrees : List Seen → ℕ → ℕ → Bool
agrees [] c size = true
agrees (s ∷ seen) c size = let later = agrees seen c size in cond (eqb s.correlation c) (eqb s.size size) later

-- a correlation that was seen before keeps its first size
unfoldable pub seen_after : List Seen → Option ℕ → ℕ → List Seen
seen_after seen none size = seen
seen_after seen (some c) size = seen ++ record { correlation = c; size = size } ∷ []

unfoldable pub size_fits : List Seen → Option ℕ → ℕ → Bool
size_fits seen none size = true
size_fits seen (some c) size = agrees seen c size

-- the correlation of an instruction and the size that it says; a line has no correlation
unfoldable pub correlation_of : Instruction → Option ℕ
correlation_of (Instruction.line l) = none
correlation_of (Instruction.noise n) = n.correlation

unfoldable pub said_size : Instruction → ℕ
said_size (Instruction.line l) = 0
said_size (Instruction.noise n) = n.size

-- the size of its distribution, worked out
unfoldable pub distribution_size : Instruction → ℕ
distribution_size (Instruction.line l) = 0
distribution_size (Instruction.noise n) = size_of n.distribution

-- the first line whose size, by some measure, differs from that of the first line with its corr
unfoldable pub first_differing_by : (Instruction → ℕ) → List Seen → List Placed → Option ℕ
first_differing_by measure seen [] = none
first_differing_by measure seen (i ∷ is) =
    let corr = correlation_of i.instruction in
    let size = measure i.instruction in
    let later = first_differing_by measure (seen_after seen corr size) is in
    cond (size_fits seen corr size) later (some i.line)

-- 19: sizes of one corr differ; the later line. The sizes are those written.
abbrev pub first_differing_of : List Seen → List Placed → Option ℕ
first_differing_of = first_differing_by said_size
