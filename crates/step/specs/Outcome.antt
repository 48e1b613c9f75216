-- Complete, the question asked at the end, and the outcome.
-- Assumes nothing.
use Rattle.std.specs.Prelude.{Bool, true, false, cond, ◌&&◌, List, [], ◌∷◌, ◌++◌, map, ℕ, zero, suc, ◌+◌, ◌*◌, eqb, ltb, get_or, replicate}
use Rattle.program.specs.Tests.{below}
use Rattle.program.specs.Program.{no_condition, code_of}
use Rattle.machine.specs.State.{fresh_register, thread_of, message_at}
use Rattle.program.specs.declared.Condition.{Condition}
use Rattle.certify_runs.specs.Below.{Program, Memory, Machine}
use Rattle.step.specs.Order.{range, for_each}

-- all threads have come to their end, and no promise is outstanding
unfoldable pub complete : Program → Machine → Bool
complete p x = below (λ i. eqb (thread_of x i).position (code_of p i).count && eqb (thread_of x i).promises 0) p.threads

-- the value at l of the newest of the first n messages, 0 if there is none
unfoldable pub last_of : Memory → ℕ → ℕ → ℕ
last_of m l zero = 0
last_of m l (suc n) = let rest = last_of m l n in cond (eqb (message_at m (suc n)).location l) (message_at m (suc n)).value rest

-- the last value of a location: what the newest message to it has, else 0
unfoldable pub last_value : Memory → ℕ → ℕ
last_value m l = last_of m l m.count

-- a condition of kind 0 is about the value of a register, one of kind 1 about the last value of a location
unfoldable pub holds : Machine → Condition → Bool
holds x q = eqb (cond (eqb q.kind 0) (get_or (thread_of x q.thread).registers q.index fresh_register).value (last_value x.memory q.index)) q.value

-- every condition holds, as is the case where there are none
unfoldable pub question_holds : Program → Machine → Bool
question_holds p x = below (λ k. holds x (get_or p.question k no_condition)) p.conditions

-- complete, with the asked outcome
unfoldable pub asked : Program → Machine → Bool
asked p x = complete p x && question_holds p x

-- ---- the outcome
-- the values of thread i's registers, all 0 where the program has no such thread
abbrev pub register_values : Program → Machine → ℕ → List ℕ
register_values p x i = cond (ltb i p.threads) (map (λ (r : ℕ). (get_or (thread_of x i).registers r fresh_register).value) (range 0 8)) (replicate 8 0)

-- THE OUTCOME: the registers of four threads, then the last values of locations 0 to 15; 48 bytes
unfoldable pub outcome : Program → Machine → List ℕ
outcome p x = for_each (range 0 4) (λ i. register_values p x i) ++ map (λ (l : ℕ). last_value x.memory l) (range 0 16)

-- x is smaller than y, byte by byte: it has the smaller byte where they first differ
unfoldable pub smaller : List ℕ → List ℕ → Bool
smaller x [] = false
smaller [] (b ∷ y) = true
smaller (a ∷ x) (b ∷ y) = elim (ltb a b) [ true ↦ true | false ↦ elim (ltb b a) [ true ↦ false | false ↦ smaller x y ] ]

-- a condition asked of an outcome: a register's byte, or a location's
unfoldable pub holds_in : List ℕ → Condition → Bool
holds_in o q = eqb (get_or o (cond (eqb q.kind 0) (8 * q.thread + q.index) (32 + q.index)) 0) q.value

-- an outcome satisfies the question: every condition holds of it
unfoldable pub satisfies : Program → List ℕ → Bool
satisfies p o = below (λ k. holds_in o (get_or p.question k no_condition)) p.conditions
