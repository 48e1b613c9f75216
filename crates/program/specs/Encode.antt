-- The file of a program: its records one after the other, each with its mark.
-- Assumes nothing.
use Rattle.std.specs.Prelude.{List, [], ◌∷◌, ◌++◌, ℕ, zero, suc, get_or}
use Rattle.program.specs.Program.{Instruction, Code, Condition, Program, no_condition, instruction_at, code_of}

-- n records from number k on, each by its number
unfoldable pub each_record : (ℕ → List ℕ) → ℕ → ℕ → List ℕ
each_record one zero k = []
each_record one (suc n) k = one k ++ each_record one n (suc k)

abbrev pub instruction_record : Instruction → List ℕ
instruction_record x = 0x49 ∷ 0x4E ∷ x.op ∷ x.m ∷ x.r ∷ x.k1 ∷ x.n1 ∷ x.k2 ∷ x.n2 ∷ []

-- all instructions of a thread
abbrev pub instruction_records : Code → List ℕ
instruction_records c = each_record (λ k. instruction_record (instruction_at c k)) c.count 0

-- thread i, followed by its instructions
abbrev pub thread_record : ℕ → Code → List ℕ
thread_record i c = (0x54 ∷ 0x48 ∷ i ∷ c.count ∷ []) ++ instruction_records c

-- all threads of a program
abbrev pub thread_records : Program → List ℕ
thread_records p = each_record (λ i. thread_record i (code_of p i)) p.threads 0

abbrev pub condition_record : Condition → List ℕ
condition_record q = 0x43 ∷ 0x4E ∷ q.kind ∷ q.thread ∷ q.index ∷ q.value ∷ []

-- all conditions of a program
abbrev pub condition_records : Program → List ℕ
condition_records p = each_record (λ k. condition_record (get_or p.question k no_condition)) p.conditions 0

-- the question, followed by its conditions
abbrev pub question_records : Program → List ℕ
question_records p = (0x51 ∷ 0x55 ∷ p.conditions ∷ []) ++ condition_records p

-- THE FILE OF A PROGRAM
unfoldable pub file_of : Program → List ℕ
file_of p = (0x50 ∷ 0x47 ∷ p.version ∷ p.threads ∷ []) ++ (thread_records p ++ question_records p)
