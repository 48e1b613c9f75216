-- The first certifying run, as a relation: what `first_run` works out, and the order in which it is the first.
-- Assumes nothing.
use Rattle.std.specs.Prelude.{◌≡◌, ◌⊎◌, List, [], ◌∷◌, ℕ, ◌≤◌, ◌<◌}
use Rattle.std.proofs.Math.Option.{some}
use Rattle.program.specs.Program.{instr_at}
use Rattle.machine.specs.State.{append}
use Rattle.machine.specs.Rules.{next, execute, add_promise}
use Rattle.certify_runs.specs.Below.{Code, Instr, Message, Memory, Thread}
use Rattle.certify_runs.specs.Certify.{RunStep, executed, own_message, message_of}
use Rattle.certify_runs.specs.Runs.{Fewer}

-- CERTIFIES: by these steps, in turn, thread i alone comes to an empty promise set, and to none before
pub data Certifies (c : Code) (i : ℕ) : Memory → Thread → List RunStep → Type 0 where
  -- here
  stop : {m : Memory} {s : Thread} → s.promises ≡ 0 → Certifies c i m s []
  -- or after an instruction, executed at a time of the memory
  go : {m : Memory} {s : Thread} {l : List RunStep} (x : Instr) (t : ℕ) (s' : Thread) → (s.promises ≡ 0 → ⊥) → instr_at c s.position ≡ some x → t ≤ m.count
      → execute x m t s ≡ next s' → Certifies c i m s' l → Certifies c i m s (executed t ∷ l)
  -- or after a store that was not promised before: it appends a message and fulfils that
  go_own : {m : Memory} {s : Thread} {l : List RunStep} (x : Instr) (w : Message) (s' : Thread) → (s.promises ≡ 0 → ⊥) → instr_at c s.position ≡ some x → message_of i s x ≡ some w → Fewer m
      → execute x (append m w) (append m w).count (add_promise (append m w) s) ≡ next s' → Certifies c i (append m w) s' l → Certifies c i m s (own_message (append m w).count ∷ l)

-- EARLIER, of two ways to execute one instruction: times ascending, then an own message
pub data Earlier : RunStep → RunStep → Type 0 where
  by_time : {t u : ℕ} → t < u → Earlier (executed t) (executed u)
  own_last : {t u : ℕ} → Earlier (executed t) (own_message u)

-- BEFORE, of two runs: where they part, the one goes on by the earlier step
pub data Before : List RunStep → List RunStep → Type 0 where
  parts : {a b : RunStep} {l k : List RunStep} → Earlier a b → Before (a ∷ l) (b ∷ k)
  alike : {a : RunStep} {l k : List RunStep} → Before l k → Before (a ∷ l) (a ∷ k)

-- FIRST: it certifies, and is before every other run that does
pub record First (c : Code) (i : ℕ) (m : Memory) (s : Thread) (l : List RunStep) : Type 0 where
  pub certifies : Certifies c i m s l
  pub least : (k : List RunStep) → Certifies c i m s k → (k ≡ l) ⊎ Before l k
