-- Views: a view is a time, and to merge is to take the larger. A list of views has one for each place, whatever their number.
-- Assumes nothing.
use Rattle.std.specs.Prelude.{List, ℕ, max, get_or, set}

-- the view at place i; 0 past the end
abbrev pub view_at : List ℕ → ℕ → ℕ
view_at c i = get_or c i 0

-- the view at place i raised by v, the others as they were
abbrev pub raise_at : List ℕ → ℕ → ℕ → List ℕ
raise_at c i v = set c i (max (view_at c i) v)
