-- The order of next steps: by thread; of one thread executions before promises; those by time, these by location and then by value.
-- Assumes nothing.
use Rattle.std.specs.Prelude.{◌≡◌, ◌⊎◌, List, [], ◌∷◌, ◌++◌, map, ℕ, zero, suc, ◌<◌}
use Rattle.step.specs.Step.{Step}

-- x is before y: at the first of thread, kind, a and b in which they differ, x has the smaller
abbrev pub Less : Step → Step → Type 0
Less x y =
    (x.thread < y.thread) ⊎ ((x.thread ≡ y.thread)
    × ((x.kind < y.kind) ⊎ ((x.kind ≡ y.kind)
    × ((x.a < y.a) ⊎ ((x.a ≡ y.a)
    × (x.b < y.b))))))

-- k, k + 1, ..: n numbers
unfoldable pub range : ℕ → ℕ → List ℕ
range k zero = []
range k (suc n) = k ∷ range (suc k) n

-- the lists f a, one after the other
unfoldable pub for_each : {A B : Type 0} → List A → (A → List B) → List B
for_each [] f = []
for_each (a ∷ rest) f = f a ++ for_each rest f

abbrev pub execution : ℕ → ℕ → Step
execution i t = record { kind = 0; thread = i; a = t; b = 0 }

abbrev pub promise : ℕ → ℕ → ℕ → Step
promise i l v = record { kind = 1; thread = i; a = l; b = v }

-- executions by time: 0 to 16
unfoldable pub executions : ℕ → List Step
executions i = map (execution i) (range 0 17)

-- promises by location, then value: all 16 × 256
unfoldable pub promises : ℕ → List Step
promises i = for_each (range 0 16) (λ l. map (promise i l) (range 0 256))

-- EVERY STEP THAT CAN BE TRIED, in order, for four threads
unfoldable pub every_step : List Step
every_step = for_each (range 0 4) (λ i. executions i ++ promises i)
