-- Well formed: a program that some file is read as. The tests of a record's bytes stand in the order of the bytes.
-- Assumes nothing.
use Rattle.std.specs.Prelude.{Bool, true, cond, ◌&&◌, List, [], ◌∷◌, ℕ, suc, ◌+◌, eqb, leb, ltb, length, get_or}
use Rattle.program.specs.Tests.{all_of, below}
use Rattle.program.specs.Program.{Instruction, Code, Condition, Program, no_condition, instruction_at, code_of}
use Rattle.program.specs.Counts.{stores}

-- ---- an instruction: op, m, r, k1, n1, k2, n2
-- the largest m of an op
unfoldable pub mode_limit : ℕ → ℕ
mode_limit op = cond (eqb op 0) 3 (cond (eqb op 1) 2 (cond (eqb op 2) 1 (cond (eqb op 3) 15 3)))

-- m is in range; a branch at place k of n instructions passes over no more of them than come after it
unfoldable pub mode_test : ℕ → ℕ → ℕ → ℕ → Bool
mode_test n k op m = leb m (mode_limit op) && cond (eqb op 3) (leb (k + suc m) n) true

-- compute and load have a register; the others have r = 0
unfoldable pub register_test : ℕ → ℕ → Bool
register_test op r = leb r (cond (leb op 1) 7 0)

-- an operand's kind is 0 or 1; a fence has none
unfoldable pub kind_test : ℕ → ℕ → Bool
kind_test op k = leb k (cond (eqb op 4) 0 1)

-- a constant is any byte, a register is 0..7; a fence has 0
unfoldable pub number_test : ℕ → ℕ → ℕ → Bool
number_test op k n = cond (eqb op 4) (eqb n 0) (cond (eqb k 0) true (leb n 7))

-- the tests of the seven bytes, at place k of n instructions
abbrev pub instruction_tests : ℕ → ℕ → Instruction → List Bool
instruction_tests n k i =
    leb i.op 4
    ∷ mode_test n k i.op i.m
    ∷ register_test i.op i.r
    ∷ kind_test i.op i.k1
    ∷ number_test i.op i.k1 i.n1
    ∷ kind_test i.op i.k2
    ∷ number_test i.op i.k2 i.n2
    ∷ []

unfoldable pub instruction_test : ℕ → ℕ → Instruction → Bool
instruction_test n k i = all_of (instruction_tests n k i)

-- ---- a condition: kind, thread, index, value
-- kind 0 is about one of the 8 registers of a thread of the program, kind 1 about one of the 16 locations, with thread 0
abbrev pub condition_tests : ℕ → Condition → List Bool
condition_tests threads q =
    leb q.kind 1
    ∷ cond (eqb q.kind 0) (ltb q.thread threads) (eqb q.thread 0)
    ∷ leb q.index (cond (eqb q.kind 0) 7 15)
    ∷ []

unfoldable pub condition_test : ℕ → Condition → Bool
condition_test threads q = all_of (condition_tests threads q)

-- ---- the whole
-- all bytes of an unused entry are 0
unfoldable pub unused_instruction : Instruction → Bool
unused_instruction i = all_of (eqb i.op 0 ∷ eqb i.m 0 ∷ eqb i.r 0 ∷ eqb i.k1 0 ∷ eqb i.n1 0 ∷ eqb i.k2 0 ∷ eqb i.n2 0 ∷ [])

unfoldable pub unused_condition : Condition → Bool
unused_condition q = all_of (eqb q.kind 0 ∷ eqb q.thread 0 ∷ eqb q.index 0 ∷ eqb q.value 0 ∷ [])

-- at most 16 instructions, each in range; the entries after them are 0
unfoldable pub code_test : Code → Bool
code_test c =
    all_of
    (leb c.count 16
    ∷ eqb (length c.instructions) 16
    ∷ below (λ k. cond (ltb k c.count) (instruction_test c.count k (instruction_at c k)) (unused_instruction (instruction_at c k))) 16
    ∷ [])

-- version 1; 1 to 4 threads, at most 16 stores; at most 8 conditions; entries that are not used are 0
unfoldable pub program_test : Program → Bool
program_test p =
    all_of
    (eqb p.version 1
    ∷ leb 1 p.threads
    ∷ leb p.threads 4
    ∷ eqb (length p.codes) 4
    ∷ below (λ i. code_test (code_of p i) && cond (ltb i p.threads) true (eqb (code_of p i).count 0)) 4
    ∷ leb (stores p) 16
    ∷ leb p.conditions 8
    ∷ eqb (length p.question) 8
    ∷ below (λ k. let q = get_or p.question k no_condition in cond (ltb k p.conditions) (condition_test p.threads q) (unused_condition q)) 8
    ∷ [])
