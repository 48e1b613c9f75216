-- Which values and locations of a store make no difference to what is tried or sought.
-- Assumes nothing.
use mathlib.Core.Path.{◌≡◌, sym, ap, subst, ◌∙◌}
use mathlib.Core.Logic.{⊎_elim}
use Prim.Native.Nat.{ℕ, ◌+◌, ◌-◌, ◌*◌, ◌%◌, ◌≤◌, ◌<◌}
use native.Mathlib.Decide.{dec_lt}
use native.Mathlib.Omega.{arith}
use lib.Dec.{T, ltb, lt→ltb}
use Rattle.program.proofs.Tests.{and_both, eq→eqb}
use Rattle.machine.specs.State.{message_at, has}
use Rattle.machine.proofs.Sets.{has_positive}
use Rattle.rules_times.specs.Times.{After}
use Rattle.certify_runs.specs.Below.{Message, Memory}
use Rattle.certify_cares.specs.Cares.{Marked}
use Rattle.certify_cares.proofs.Agreeing.{same_value, not_less, less}
use Rattle.certify_cares.proofs.Marks.{all_marked}
use Rattle.certify_under.specs.Vacant.{Vacant}
use Rattle.certify_sought.specs.Numbers.{Sought, Seeks}
use Rattle.certify_sought.specs.Asks.{Unsought, Elsewhere, Located, SoughtIn}

-- ---- whether the number of a store is sought
module _ (q : Sought) (l v b n : ℕ) (be : b ≡ 256 * l) (ne : n ≡ b + v) where
  -- it is not below the second that is met, nor is that of any other value
  pub unsought_all : q.met.second ≤ n → q.met.second ≤ b → Unsought q l v 0
  unsought_all high all = record { found = λ t. let h = t.1 in absurd (omega arith); missed = λ none y yb a t. let h = t.1 in omega arith }

  -- it is not below it, nor is that of a value as large as the care says
  pub unsought_above : q.met.second ≤ n → b < q.met.second → (k : ℕ) → k ≡ 512 + (q.met.second - b) → k < 768 → Unsought q l v k
  unsought_above high low k ke top =
      record {
        found = λ t. let h = t.1 in absurd (omega arith);
        missed = λ none y yb a t. let h = t.1 in ⊎_elim (λ e. none (subst (λ (z : ℕ). Seeks q (256 * l + z)) (sym e) t)) (λ large. omega arith) (not_less (omega arith) top a);
      }

  -- it is below `from`, as is that of any byte
  pub unsought_none : n < q.from → 256 ≤ q.from - b → Unsought q l v 0
  unsought_none low far = record { found = λ t. let h = t.0 in absurd (omega arith); missed = λ none y yb a t. let h = t.0 in omega arith }

  -- it is below `from`, as is that of a value below what the care says
  pub unsought_below : n < q.from → (k : ℕ) → k ≡ 768 + (q.from - b) → k < 1024 → Unsought q l v k
  unsought_below low k ke top =
      record {
        found = λ t. let h = t.0 in absurd (omega arith);
        missed = λ none y yb a t. let h = t.0 in ⊎_elim (λ e. none (subst (λ (z : ℕ). Seeks q (256 * l + z)) (sym e) t)) (λ small. omega arith) (less (omega arith) (omega arith) a);
      }

-- the value itself is asked for
pub unsought_same : (q : Sought) (l v : ℕ) → Unsought q l v 2
unsought_same q l v = record { found = λ t y a. same_value a; missed = λ none y yb a t. none (subst (λ (z : ℕ). Seeks q (256 * l + z)) (sym (same_value a)) t) }

-- ---- the locations of messages, one by one
module _ (m : Memory) (p : ℕ) where
  -- before the first time of the set there is none
  pub located_first : (r set : ℕ) → After p 0 r → Located m p r set
  located_first r set on u out lo um at = absurd (subst T (on.between u (has_positive p u out) lo) out)

  -- one message more
  pub located_next : (u r set set' : ℕ) (w : Message) → Located m p u set → w ≡ message_at m u → Marked set' (w.location % 16) × ((j : ℕ) → Marked set j → Marked set' j) → After p u r → Located m p r set'
  located_next u r set set' w h we more on j out lo jm at = elim (dec_lt j u) [
    | yes before ↦ more.1 _ (h j out before jm at)
    | no after ↦ elim (dec_lt u j) [
      | yes past ↦ absurd (subst T (on.between j past lo) out)
      | no neither ↦ (let i : j ≡ u = omega arith in
          let f : (message_at m j).location ≡ w.location = ap (λ (i : ℕ). (message_at m i).location) i ∙ ap (λ (x : Message). x.location) (sym we) in
          let g : w.location % 16 ≡ (message_at m j).location = omega arith in
          subst (Marked set') g more.0)
    ]
  ]

  -- past the last message: all
  pub located_all : (u set : ℕ) → Located m p u set → m.count < u → Located m p 17 set
  located_all u set h over j out lo jm = h j out (omega arith) jm

-- a location that is neither in the set of the promises' nor in that of the numbers that are sought
pub elsewhere : (m : Memory) (p : ℕ) (q : Sought) (one two set : ℕ) → m.count ≤ 16 → Located m p 17 one → SoughtIn p q two → ((j : ℕ) → Marked one j → Marked set j) × ((j : ℕ) → Marked two j → Marked set j)
    → (l : ℕ) → l < 16 → (Marked set l → ⊥) → Elsewhere m p q l
elsewhere m p q one two set room located sought both l low out =
    record {
      unpromised = λ u there um at. out (both.0 l (subst (Marked one) at (located u there (omega arith) um (omega arith))));
      unsought = λ there v vb s. out (both.1 l (sought there l v low vb s));
    }

-- every time is in the set of all
all_times : (u : ℕ) → 0 < u → u ≤ 16 → T (has 65535 u)
unfolding has
all_times u lo hi = and_both (ltb 0 u) _ (lt→ltb 0 u lo) (eq→eqb (all_marked (u - 1) (omega arith)))

-- a location that is not in the set of all messages' has none
pub vacant_out : (m : Memory) (set : ℕ) → m.count ≤ 16 → Located m 65535 17 set → (l : ℕ) → l < 16 → (Marked set l → ⊥) → Vacant m l
vacant_out m set room located l low out t lo hi at = out (subst (Marked set) at (located t (all_times t lo (omega arith)) (omega arith) hi (omega arith)))
