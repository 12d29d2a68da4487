-- Laws: a measure of the instructions that is another in each of them gives the same line. Assumes nothing.
use Rattle.std.specs.Prelude.{◌≡◌, refl, List, [], ◌∷◌}
use Rattle.job.specs.Line.{Instruction, Placed}
use Rattle.job.specs.Sound.{Every, SizeSaid}
use Rattle.circuit.specs.Correlation.{Seen, correlation_of, seen_after, said_size, distribution_size, first_differing_by}

-- the size that an instruction says, and its distribution's
said_same : (i : Instruction) → SizeSaid i → said_size i ≡ distribution_size i
unfolding SizeSaid said_size distribution_size
said_same (Instruction.line l) s = refl
said_same (Instruction.noise n) s = s

pub measured_same : (seen : List Seen) (is : List Placed) → Every (λ (p : Placed). SizeSaid p.instruction) is
    → first_differing_by said_size seen is ≡ first_differing_by distribution_size seen is
unfolding first_differing_by
measured_same seen [] s = refl
measured_same seen (p ∷ is) s =
    let i = p.instruction in
    rw (said_same i s.0, measured_same (seen_after seen (correlation_of i) (distribution_size i)) is s.1)
