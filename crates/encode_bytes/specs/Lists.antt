-- Bytes within a list, and entries of equal width one after the other.
-- Assumes nothing.
use Rattle.std.specs.Prelude.{List, [], ◌∷◌, ◌++◌, ℕ, zero, suc, drop}

-- the bytes of n entries from k on, one after the other
unfoldable pub joined : (ℕ → List ℕ) → ℕ → ℕ → List ℕ
joined f k zero = []
joined f k (suc n) = f k ++ joined f (suc k) n

-- n entries of w bytes each, read one after the other from the start of the bytes
unfoldable pub entries : {A : Type 0} → (List ℕ → A) → ℕ → ℕ → List ℕ → List A
entries f w zero b = []
entries f w (suc n) b = f b ∷ entries f w n (drop w b)
