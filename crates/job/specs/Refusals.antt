-- Refusals by their numbers, and what a test refuses. Definitions. Assumes nothing.
use Rattle.std.specs.Prelude.{ℕ, Result, Ok, Err}
use Rattle.job.specs.declared.refusals.Refusal.{Refusal}
use Rattle.job.specs.declared.refusals.Refusal.TheVariants.{Length, Form, Header, Qubit, Operands, Permutation, Clifford, NextId, NotRecorded, Shot, Probability, Elements, Words, Draws, Room, Noise, Walk, Annotation, Sizes, Control, Size, Seed, Edition, Groups, Shares, Caller}

abbrev pub number_of : Refusal → ℕ
number_of Length = 1
number_of Form = 2
number_of Header = 3
number_of Qubit = 4
number_of Operands = 5
number_of Permutation = 6
number_of Clifford = 7
number_of NextId = 8
number_of NotRecorded = 9
number_of Shot = 10
number_of Probability = 11
number_of Elements = 12
number_of Words = 13
number_of Draws = 14
number_of Room = 15
number_of Noise = 16
number_of Walk = 17
number_of Annotation = 18
number_of Sizes = 19
number_of Control = 20
number_of Size = 21
number_of Seed = 22
number_of Edition = 23
number_of Groups = 24
number_of Shares = 25
number_of Caller = 26

-- the number by which a test refuses, and 0 where it does not
abbrev pub refusal_in : Result (Unit {0}) Refusal → ℕ
refusal_in (Ok u) = 0
refusal_in (Err r) = number_of r
