-- The two least numbers that runs have met, and which numbers are still sought.
-- Assumes nothing.
use Rattle.std.specs.Prelude.{◌≡◌, ◌⊎◌, cond, ℕ, ◌≤◌, ◌<◌, leb, ltb}
pub use Rattle.certify_sought.specs.declared.Met.{Met}
pub use Rattle.certify_sought.specs.declared.Sought.{Sought}

-- the two least numbers met, with n; where the two are the same, only the least is sought, and they stay the same
abbrev pub meeting : ℕ → Met → Met
meeting n p = cond (leb p.least n) (record { least = p.least; second = n }) (record { least = n; second = cond (ltb p.least p.second) p.least n })

-- an empty promise set is sought, and none was met
abbrev pub certifying : Sought
certifying = record { hole = 0; from = 0; met = record { least = 1; second = 1 } }

-- n is from `from` on, and below the second of the numbers met and not the least
abbrev pub Unmet : ℕ → Met → ℕ → Type 0
Unmet from p n = (from ≤ n) × (n < p.second) × (n ≡ p.least → ⊥)

-- the number is sought
abbrev pub Seeks : Sought → ℕ → Type 0
Seeks q n = Unmet q.from q.met n

-- r are the numbers met after p, each of which was sought then and passes
pub data Better (from : ℕ) (P : ℕ → Type 0) (p : Met) : Met → Type 0 where
  same : Better from P p p
  more : {r : Met} (k : ℕ) → Better from P p r → Unmet from r k → P k → Better from P p (meeting k r)

-- and no other number that was sought passes
pub record Twice (from : ℕ) (p : Met) (P : ℕ → Type 0) (r : Met) : Type 0 where
  pub better : Better from P p r
  pub none : (k : ℕ) → Unmet from r k → P k → ⊥

-- r are the two least numbers from `from` on and below the top that pass; the top where there are fewer
pub record TwoLeast (from top : ℕ) (P : ℕ → Type 0) (r : Met) : Type 0 where
  pub within : r.second ≤ top
  pub ordered : (r.least < r.second) ⊎ ((r.least ≡ top) × (r.second ≡ top))
  pub first : r.least < top → (from ≤ r.least) × P r.least
  pub then : r.second < top → (from ≤ r.second) × P r.second
  pub others : (k : ℕ) → from ≤ k → k < r.second → (k ≡ r.least → ⊥) → P k → ⊥

-- r.least is the least such number, the top if there is none; and where r.second is not 0, r are the two least
pub record LeastOrTwo (from top : ℕ) (P : ℕ → Type 0) (r : Met) : Type 0 where
  pub within : r.least ≤ top
  pub first : r.least < top → (from ≤ r.least) × P r.least
  pub others : (k : ℕ) → from ≤ k → k < r.least → P k → ⊥
  pub two : (r.second ≡ 0 → ⊥) → TwoLeast from top P r

-- what is met where an empty promise set is: 0 too, if it is sought
pub record Emptied (q : Sought) (r : Met) : Type 0 where
  pub new : Seeks q 0 → r ≡ meeting 0 q.met
  pub old : (Seeks q 0 → ⊥) → r ≡ q.met
