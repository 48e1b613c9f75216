-- Instructions and stores of a program, counted.
-- Assumes nothing.
use Rattle.std.specs.Prelude.{cond, ℕ, zero, suc, ◌+◌, ◌-◌, eqb}
use Rattle.program.specs.Tests.{sum_below}
use Rattle.program.specs.Program.{Instruction, Code, Program, instruction_at, code_of}

-- 1 for a store, 0 for any other instruction
unfoldable pub one_store : Instruction → ℕ
one_store i = cond (eqb i.op 2) 1 0

-- the stores among the n instructions from position k on
unfoldable pub stores_among : Code → ℕ → ℕ → ℕ
stores_among c k zero = 0
stores_among c k (suc n) = one_store (instruction_at c k) + stores_among c (suc k) n

-- the stores at position k and after it
unfoldable pub stores_from : Code → ℕ → ℕ
stores_from c k = stores_among c k (c.count - k)

-- the stores of all threads
unfoldable pub stores : Program → ℕ
stores p = sum_below (λ i. stores_from (code_of p i) 0) p.threads

-- the instructions of all threads
unfoldable pub instructions : Program → ℕ
instructions p = sum_below (λ i. (code_of p i).count) p.threads

-- the instructions and the stores of a program together
unfoldable pub size : Program → ℕ
size p = instructions p + stores p
