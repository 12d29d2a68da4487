-- Definitions. The ten starred cases of document 01, "Printed session", as one table of inputs and values, from the bytes of a job to the bytes or
-- the count that comes of it; and cases of document 02: sizes of noise lines (note 6) and the table of single faults (note 13). Assumes nothing.
use Rattle.std.specs.Prelude.{Bool, true, false, ◌&&◌, List, [], ◌∷◌, ◌++◌, ℕ, ◌-◌, ◌^◌, eqb, take, replicate}
use Prim.Native.String.{String, ◌++◌ as append}
use Rattle.text.specs.Bytes.{bytes}
use Rattle.job.specs.declared.Answer.{Answer}
use Rattle.job.specs.Job.{check_job}
use Rattle.job.specs.declared.CountReply.{CountReply}
use Rattle.job.specs.Reply.{TextReply}
use Rattle.backward.specs.Settling.{settle_reply}
use Rattle.backward.specs.Walking.{walk_reply}
use Rattle.session.specs.Session.{printed}
use Rattle.single_faults.specs.Table.{table_reply}

pub data Case : Type 0 where
  -- a job, and what the printing program prints of it
  prints : String → String → Case
  -- a job, a shot and a set, and the walk's count
  walks : String → ℕ → List ℕ → ℕ → Case
  -- a job and the words of the main list, and the settled text
  settles : String → List ℕ → String → Case
  -- a job and the words of the main list, and the number and line that refuse settling
  stops : String → List ℕ → ℕ → ℕ → Case
  -- a job, and the number and line that refuse it, 0 and 0 where none does
  refuses : String → ℕ → ℕ → Case
  -- a job and the lent list of groups, and the table of its single faults
  tables : String → List ℕ → String → Case
  -- a job and the lent list of groups, and the number and line that refuse the table
  untabled : String → List ℕ → ℕ → ℕ → Case

unfoldable pub same_bytes_of : List ℕ → List ℕ → Bool
same_bytes_of [] [] = true
same_bytes_of [] (b ∷ bs) = false
same_bytes_of (a ∷ as') [] = false
same_bytes_of (a ∷ as') (b ∷ bs) = eqb a b && same_bytes_of as' bs

unfoldable pub same_answer_of : Answer → ℕ → ℕ → Bool
same_answer_of a number line = eqb a.number number && eqb a.line line

-- the reply of settling with no noiseless bits, no second list and 256 lent bytes
unfoldable pub settled_by : String → List ℕ → TextReply
settled_by job main = settle_reply (bytes job) (record { noiseless = []; main = main; second = []; base = 0 }) (replicate 256 0)

-- the reply of the table of single faults with 512 lent bytes
unfoldable pub table_by : String → List ℕ → TextReply
table_by job list = table_reply (bytes job) list (replicate 512 0)

unfoldable pub wrote : TextReply → String → Bool
wrote r text = same_answer_of r.answered 0 0 && same_bytes_of (take r.figure r.out) (bytes text)

unfoldable pub counted : CountReply → ℕ → Bool
counted r n = same_answer_of r.answered 0 0 && eqb r.count n

unfoldable pub holds : Case → Bool
holds (Case.prints job text) = same_bytes_of (printed (bytes job)) (bytes text)
holds (Case.walks job shot set n) = counted (walk_reply (bytes job) shot set) n
holds (Case.settles job main text) = wrote (settled_by job main) text
holds (Case.stops job main number line) = same_answer_of (settled_by job main).answered number line
holds (Case.refuses job number line) = same_answer_of (check_job (bytes job)) number line
holds (Case.tables job list text) = wrote (table_by job list) text
holds (Case.untabled job list number line) = same_answer_of (table_by job list).answered number line

unfoldable pub all_hold : List Case → Bool
all_hold [] = true
all_hold (c ∷ cs) = holds c && all_hold cs

-- ---- the jobs

-- the printed session
unfoldable pub session : String
session =
    "op=job qubits=2 outcomes=2 shots=3\nop=u g=4 q=0\nop=u g=11 q=0,1\nop=i shot=1 x=0 z=-\nop=o x=- z=0 id=0\nop=o x=- z=1 id=1\nop=t shot=2 id=1\n"

-- A line on one qubit whose frame is X, Z and Y in the shots 0, 1 and 2; the two outcomes show the X and the Z part after it.
unfoldable pub on_three : String → String
on_three line =
    append "op=job qubits=1 outcomes=2 shots=3\nop=i shot=0 x=0 z=-\nop=i shot=1 x=- z=0\nop=i shot=2 x=0 z=0\n"
    (append line "\nop=o x=- z=0 id=0\nop=o x=0 z=- id=1\n")

-- one shot of noise with these last fields, in which a fault falls, and what stands behind it; on so many qubits
unfoldable pub noise_on : String → String → String
noise_on qubits fields =
    append "op=job qubits=" (append qubits (append " outcomes=0 shots=1\nop=n p=3ff0000000000000 corr=- cond=- parity=0 " (append fields "\n")))

-- depolarizing noise on one qubit
unfoldable pub noisy : String
unfolding noise_on
noisy = noise_on "1" "d=2 q=0 size=3"

-- inject X0, measure Z0, conditional X0 on 0, measure Z0
unfoldable pub undone : String
undone =
    "op=job qubits=1 outcomes=2 shots=1\nop=i shot=0 x=0 z=-\nop=o x=- z=0 id=0\nop=f x=0 z=- id=0 parity=1\nop=o x=- z=0 id=1\n"

-- ---- the table

unfoldable pub cases : List Case
unfolding session on_three noise_on noisy undone
cases =
    -- ★1 the session; ★2 its walk of {0,1} in shot 1 counts 1
    Case.prints session "ok=1 qubits=2 outcomes=2 shots=3\nid=0 delta=010\nid=1 delta=001\n"
    ∷ Case.walks session 1 (0 ∷ 1 ∷ []) 1
    -- ★3 one-qubit t of 9 is identity: it does to each Pauli what I does, and its walk counts the injections with an X part
    ∷ Case.prints (on_three "op=c q=0 t=0000000000000009") "ok=1 qubits=1 outcomes=2 shots=3\nid=0 delta=101\nid=1 delta=011\n"
    ∷ Case.prints (on_three "op=u g=0 q=0") "ok=1 qubits=1 outcomes=2 shots=3\nid=0 delta=101\nid=1 delta=011\n"
    ∷ Case.walks (on_three "op=c q=0 t=0000000000000009") 0 (0 ∷ []) 1
    ∷ Case.walks (on_three "op=c q=0 t=0000000000000009") 1 (0 ∷ []) 0
    -- ★4 6 Hadamard
    ∷ Case.prints (on_three "op=c q=0 t=0000000000000006") "ok=1 qubits=1 outcomes=2 shots=3\nid=0 delta=011\nid=1 delta=101\n"
    ∷ Case.prints (on_three "op=u g=4 q=0") "ok=1 qubits=1 outcomes=2 shots=3\nid=0 delta=011\nid=1 delta=101\n"
    ∷ Case.walks (on_three "op=c q=0 t=0000000000000006") 0 (0 ∷ []) 0
    ∷ Case.walks (on_three "op=c q=0 t=0000000000000006") 1 (0 ∷ []) 1
    -- ★5 b (eleven) SqrtZ
    ∷ Case.prints (on_three "op=c q=0 t=000000000000000b") "ok=1 qubits=1 outcomes=2 shots=3\nid=0 delta=101\nid=1 delta=110\n"
    ∷ Case.prints (on_three "op=u g=5 q=0") "ok=1 qubits=1 outcomes=2 shots=3\nid=0 delta=101\nid=1 delta=110\n"
    ∷ Case.walks (on_three "op=c q=0 t=000000000000000b") 0 (1 ∷ []) 1
    ∷ Case.walks (on_three "op=c q=0 t=000000000000000b") 2 (1 ∷ []) 0
    -- ★6 k=1: word 0 gives X, ★7 1 Z, ★8 2 Y; the first word is the shot's, which faults
    ∷ Case.settles noisy (0 ∷ 0 ∷ []) "op=job qubits=1 outcomes=0 shots=1\nop=i shot=0 x=0 z=-\n"
    ∷ Case.settles noisy (0 ∷ 1 ∷ []) "op=job qubits=1 outcomes=0 shots=1\nop=i shot=0 x=- z=0\n"
    ∷ Case.settles noisy (0 ∷ 2 ∷ []) "op=job qubits=1 outcomes=0 shots=1\nop=i shot=0 x=0 z=0\n"
    -- ★9 2^64 - 1 is rejected: the next word is taken, and where there is none the draws are spent
    ∷ Case.settles noisy (0 ∷ (2 ^ 64 - 1) ∷ 1 ∷ []) "op=job qubits=1 outcomes=0 shots=1\nop=i shot=0 x=- z=0\n"
    ∷ Case.settles noisy (0 ∷ (2 ^ 64 - 2) ∷ []) "op=job qubits=1 outcomes=0 shots=1\nop=i shot=0 x=0 z=0\n"
    ∷ Case.stops noisy (0 ∷ (2 ^ 64 - 1) ∷ []) 14 2
    -- ★10 deltas 1, 0, and the walk of {1} counts 0
    ∷ Case.prints undone "ok=1 qubits=1 outcomes=2 shots=1\nid=0 delta=1\nid=1 delta=0\n"
    ∷ Case.walks undone 0 (1 ∷ []) 0
    -- also: p 3ff0000000000001 is 11
    ∷ Case.refuses "op=job qubits=1 outcomes=0 shots=64\nop=n p=3ff0000000000001 corr=- cond=- parity=0 d=2 q=0 size=3\n" 11 2
    -- a refusal's line is printed; so is that of spent draws, since none are lent
    ∷ Case.prints "op=job qubits=1 outcomes=0 shots=1\nop=u g=4 q=1\n" "ok=0 refusal=4 line=2\n"
    ∷ Case.prints noisy "ok=0 refusal=14 line=2\n"
    -- the limits of the printing program, and one past each: a larger header is refused after the other tests
    ∷ Case.prints "op=job qubits=64 outcomes=256 shots=64\n" "ok=1 qubits=64 outcomes=256 shots=64\n"
    ∷ Case.prints "op=job qubits=65 outcomes=256 shots=64\n" "ok=0 refusal=13 line=0\n"
    ∷ Case.prints "op=job qubits=64 outcomes=257 shots=64\n" "ok=0 refusal=13 line=0\n"
    ∷ Case.prints "op=job qubits=64 outcomes=256 shots=65\n" "ok=0 refusal=13 line=0\n"
    ∷ Case.prints "op=job qubits=65 outcomes=0 shots=1\nop=z q=65\n" "ok=0 refusal=4 line=2\n"
    -- document 02, note 6: the size written is 1, 4^k - 1 or n, else 21, before any fault of the element lines
    ∷ Case.refuses (noise_on "1" "d=1 x=0 z=- size=2") 21 2
    ∷ Case.refuses (noise_on "1" "d=2 q=0 size=4") 21 2
    ∷ Case.refuses (noise_on "1" "d=3 n=1 size=2\nx=9 z=-") 21 2
    ∷ Case.refuses (noise_on "1" "d=4 n=1 size=0\nw=3ff0000000000000 x=0 z=-") 21 2
    -- it is a number, on the noise line, and always there
    ∷ Case.refuses (noise_on "1" "d=2 q=0") 2 2
    ∷ Case.refuses (noise_on "1" "d=2 q=0 size=03") 2 2
    ∷ Case.refuses (noise_on "1" "d=2 q=0 size=18446744073709551616") 2 2
    ∷ Case.refuses (noise_on "1" "d=3 n=1 size=1\nx=0 z=- size=1") 2 3
    -- other numbers of the line come before: a missing element line, d=2 over 32 qubits, n of 0
    ∷ Case.refuses (noise_on "1" "d=3 n=1 size=2") 2 2
    ∷ Case.refuses (noise_on "32" "d=2 q=0,1,2,3,4,5,6,7,8,9,10,11,12,13,14,15,16,17,18,19,20,21,22,23,24,25,26,27,28,29,30,31 size=0") 5 2
    ∷ Case.refuses (noise_on "1" "d=3 n=0 size=1") 12 2
    -- and over 31 qubits none refuses
    ∷ Case.refuses (noise_on "31" "d=2 q=0,1,2,3,4,5,6,7,8,9,10,11,12,13,14,15,16,17,18,19,20,21,22,23,24,25,26,27,28,29,30 size=4611686018427387903") 0 0
    ∷ []

-- ---- single faults

-- Noise of every kind but d=4, with element lines before a later noise line, and an injection and a flip of its own, which count as lines and are absent
-- otherwise. Qubit 1 is the first operand of d=2, so it has the lower bits; a conditional carries outcome 0 into the second group.
unfoldable pub faulty : String
faulty =
    "op=job qubits=2 outcomes=2 shots=2\nop=i shot=0 x=0 z=-\nop=n p=0000000000000000 corr=- cond=- parity=0 d=2 q=1,0 size=15\nop=u g=4 q=1\nop=n p=3ff0000000000000 corr=- cond=- parity=0 d=3 n=2 size=2\nx=0 z=-\nx=- z=1\nop=o x=- z=0 id=0\nop=f x=1 z=- id=0 parity=0\nop=n p=3ff0000000000000 corr=7 cond=0 parity=1 d=1 x=1 z=- size=1\nop=o x=- z=1 id=1\nop=t shot=1 id=1\n"

-- d=2 over so many qubits, in line 2
unfoldable pub spread : String → String
spread fields =
    append "op=job qubits=5 outcomes=0 shots=1\nop=n p=0000000000000000 corr=- cond=- parity=0 d=2 q=" (append fields "\n")

unfoldable pub table_cases : List Case
table_cases =
    Case.tables faulty (1 ∷ 0 ∷ 2 ∷ 0 ∷ 1 ∷ [])
    "line=3 el=0 groups=00\nline=3 el=1 groups=01\nline=3 el=2 groups=01\nline=3 el=3 groups=10\nline=3 el=4 groups=10\nline=3 el=5 groups=11\nline=3 el=6 groups=11\nline=3 el=7 groups=00\nline=3 el=8 groups=00\nline=3 el=9 groups=01\nline=3 el=10 groups=01\nline=3 el=11 groups=10\nline=3 el=12 groups=10\nline=3 el=13 groups=11\nline=3 el=14 groups=11\nline=5 el=0 groups=10\nline=5 el=1 groups=00\nline=10 el=0 groups=01\n"
    -- an empty group, whose character is 0, and no noise
    ∷ Case.tables session (0 ∷ []) ""
    -- no groups; 17 groups; 17 of which the last is cut short, or has an unrecorded outcome; a length past every list; a group that does not rise
    ∷ Case.untabled faulty [] 24 0
    ∷ Case.untabled faulty (replicate 17 0) 24 0
    ∷ Case.untabled faulty (replicate 16 0 ++ 1 ∷ []) 17 0
    ∷ Case.untabled faulty (replicate 16 0 ++ 1 ∷ 2 ∷ []) 17 0
    ∷ Case.untabled faulty ((2 ^ 64 - 1) ∷ []) 17 0
    ∷ Case.untabled faulty (2 ∷ 1 ∷ 1 ∷ []) 17 0
    -- over five qubits; the groups come first
    ∷ Case.untabled (spread "0,1,2,3,4 size=1023") (0 ∷ []) 24 2
    ∷ Case.untabled (spread "0,1,2,3,4 size=1023") [] 24 0
    ∷ Case.untabled (spread "0,1,2,3,4 size=1023") (1 ∷ 0 ∷ []) 17 0
    -- over four, whose table is longer than the lent bytes
    ∷ Case.untabled (spread "0,1,2,3 size=255") (0 ∷ []) 15 0
    ∷ []
