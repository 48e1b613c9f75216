-- What the functions of the rules promise each other: the answer of a rule for the code, a store in parts, the first promise of a set,
-- sets of times.
-- Assumes nothing.
use Rattle.std.specs.Prelude.{◌≡◌, Bool, true, false, ◌&&◌, ℕ, max, ◌+◌, ◌%◌, ◌^◌, ◌<◌, ◌≤◌, T, eqb, leb, ltb, Result, Ok, Err}
use Rattle.theory_views.specs.Views.{view_at}
use Rattle.program.specs.WellFormed.{program_test}
use Rattle.program.specs.declared.Refusal.{Refusal}
use Rattle.program.specs.declared.Refusal.TheVariants.{ViewNotBelow}
use Rattle.machine.specs.Below.{Program, Operand, StoreMode, Instr, Compute, Load, Store, Branch, Fence}
use Rattle.machine.specs.State.{Memory, Thread, Machine, message_at, has, append, raise_coherence, with_forward, with_views}
use Rattle.machine.specs.Rules.{Executed, refused, next, test, advance, store_pre, store_views, execute, add_promise, store_message}
use Rattle.machine.specs.WellFormed.{machine_test}

-- the answer of a rule for the code: the thread's next state, or the refusal
abbrev pub ruled : Executed → Result Thread Refusal
ruled (refused r) = Err r
ruled (next s) = Ok s

-- the most that an instruction moves the position on by
abbrev pub reach : Instr → ℕ
reach (Compute k r a b) = 1
reach (Load k r a b) = 1
reach (Store k a d) = 1
reach (Branch n a b) = n + 1
reach (Fence k) = 1

-- ---- stores
-- pre-view and coherence view are both below t
unfoldable pub below_time : StoreMode → ℕ → ℕ → ℕ → ℕ → Thread → Bool
below_time k t l va vd s = ltb (store_pre k va vd s.views) t && ltb (view_at s.coherence l) t

-- what a store changes, but for the promises
abbrev pub stored : StoreMode → ℕ → ℕ → ℕ → ℕ → Thread → Thread
stored k t l va vd s = advance 1 (with_forward l t (max va vd) (with_views (store_views k t va s.views) (raise_coherence l t s)))

-- a store at time t whose promise is made with it, so that 26 is no test and the promises stay
unfoldable pub own_at : StoreMode → ℕ → ℕ → ℕ → ℕ → Thread → Executed
own_at k t l va vd s = test (below_time k t l va vd s) ViewNotBelow (next (stored k t l va vd s))

-- a store of thread i that was not promised before: it appends a message and fulfils that
unfoldable pub own_store : StoreMode → Operand → Operand → Memory → ℕ → Thread → Executed
own_store k a d m i s =
    let m' = append m (store_message i a d s) in
    execute (Store k a d) m' m'.count (add_promise m' s)

-- ---- promises
-- t is in the set, and no time before it is
pub record FirstPromise (p t : ℕ) : Type 0 where
  pub member : has p t ≡ true
  pub within : t ≤ 16
  pub before : (u : ℕ) → u < t → has p u ≡ false

-- ---- sets of times
-- a message to l stands at time t
unfoldable pub stands : Memory → ℕ → ℕ → Bool
stands m l t = ltb 0 t && leb t m.count && eqb (message_at m t).location l

-- the set has the times at which a message to l stands, and no others
abbrev pub TimesAt : Memory → ℕ → ℕ → Type 0
TimesAt m l r = (t : ℕ) → has r t ≡ stands m l t

-- the times of the set up to v
unfoldable pub up_to : ℕ → ℕ → ℕ
up_to p v = p % 2 ^ v

-- t is the newest time of the set; 0 if it is empty
pub record NewestTime (p t : ℕ) : Type 0 where
  pub within : t ≤ 16
  pub member : 0 < t → has p t ≡ true
  pub after : (u : ℕ) → t < u → has p u ≡ false

-- ---- machines
-- program and machine are well formed: else refusal 20
pub record Formed (p : Program) (x : Machine) : Type 0 where
  pub program_formed : T (program_test p)
  pub machine_formed : T (machine_test p x)
