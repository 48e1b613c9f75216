-- What a caller may conclude from the contracts of the listing: they leave one answer only, and one content of the lent memory.
-- Assumes nothing.
use mathlib.Core.Path.{◌≡◌, sym, ◌∙◌}
use mathlib.Core.Bool.{Bool, true, false}
use mathlib.Core.List.{List}
use Prim.Native.Nat.{ℕ}
use Rattle.std.specs.Prelude.{Result}
use Rattle.program.specs.declared.Refused.{Refused}
use Rattle.outcomes.specs.Answers.{Answer, ListedIn, Listed, ListedWithin}

-- answers that meet the contract coincide, lent memory included, whether entries are wide or not
pub listed_coincide : (wide : Bool) (f : List ℕ) (b : ℕ) (t : List ℕ) (r r' : Result Answer Refused) (after after' : List ℕ) → ListedIn wide f b t r after → ListedIn wide f b t r' after' → (r ≡ r') × (after ≡ after')
listed_coincide wide f b t r r' after after' l l' = (l.answer ∙ sym l'.answer, l.lent ∙ sym l'.lent)

-- those of the plain listing
pub outcomes_coincide : (f : List ℕ) (b : ℕ) (t : List ℕ) (r r' : Result Answer Refused) (after after' : List ℕ) → Listed f b t r after → Listed f b t r' after' → (r ≡ r') × (after ≡ after')
outcomes_coincide f b t r r' after after' l l' = listed_coincide false f b t r r' after after' l l'

-- those of a listing within a table of machines, which is lent memory too
pub within_coincide : (f : List ℕ) (b : ℕ) (t machines : List ℕ) (r r' : Result Answer Refused) (after after' machinesAfter machinesAfter' : List ℕ) → ListedWithin f b t machines r after machinesAfter
    → ListedWithin f b t machines r' after' machinesAfter' → (r ≡ r') × (after ≡ after') × (machinesAfter ≡ machinesAfter')
within_coincide f b t machines r r' after after' m m' w w' =
    let l = listed_coincide true f b t r r' after after' w.listed w'.listed in
    (l.0, l.1, w.lent_machines ∙ sym w'.lent_machines)

-- whatever the two tables of machines are: the same answer and outcomes
pub same_within : (f : List ℕ) (b : ℕ) (t machines machines' : List ℕ) (r r' : Result Answer Refused) (after after' machinesAfter machinesAfter' : List ℕ) → ListedWithin f b t machines r after machinesAfter
    → ListedWithin f b t machines' r' after' machinesAfter' → (r ≡ r') × (after ≡ after')
same_within f b t machines machines' r r' after after' m m' w w' = listed_coincide true f b t r r' after after' w.listed w'.listed
