-- THE THEOREM OF THE LISTING: for every file, budget, table and answer that meets the contract of the listing, the answer means what it should.
-- Assumes nothing.
use mathlib.Core.Path.{◌≡◌, refl, ap, ◌∙◌}
use mathlib.Core.Bool.{Bool}
use mathlib.Core.List.{List}
use Prim.Native.Nat.{ℕ}
use Rattle.std.specs.Prelude.{Result}
use Rattle.program.specs.declared.Program.{Program}
use Rattle.program.specs.File.{FileAnswer, refused, program, read_file}
use Rattle.program.proofs.ReadFormed.{read_formed}
use Rattle.program.specs.declared.Refused.{Refused}
use Rattle.search_sequences.specs.OfProgram.{sequences_of, listing_to}
use Rattle.search_sequences.proofs.Meaning as sequences
use Rattle.search_outcomes.specs.Rows.{capacity}
use Rattle.outcomes.specs.Answers.{Answer, answer_of, answer_on, table_on, ListedIn}
use Rattle.outcomes.specs.Meaning.{Told, Means, bad_file, listed}
use Rattle.outcomes.proofs.Listing.{listing_demand, first_reaches, listing_asks}

pub theorem : (wide : Bool) (f : List ℕ) (b : ℕ) (t : List ℕ) (r : Result Answer Refused) (after : List ℕ) → ListedIn wide f b t r after → Means wide f b t r after
theorem wide f b t r after s = go (read_file f) refl
  where
    answered : (a : FileAnswer) → read_file f ≡ a → r ≡ answer_on wide a b t
    answered a d = s.answer ∙ ap (λ (y : FileAnswer). answer_on wide y b t) d

    left : (a : FileAnswer) → read_file f ≡ a → after ≡ table_on wide a b t
    left a d = s.lent ∙ ap (λ (y : FileAnswer). table_on wide y b t) d

    told : (p : Program) → read_file f ≡ program p → Told wide f p b t (answer_of (capacity wide t) (listing_to p b)) after
    told p d =
        record {
          sequences = sequences_of p;
          all = sequences.listed p;
          listing = listing_to p b;
          demand = listing_demand p b (sequences_of p) (sequences.listed p);
          told = refl;
          lent = left (program p) d;
          replays = λ n e h. first_reaches p b n e h f d;
          asks = λ n e h. listing_asks p b n e h (read_formed f p d);
        }

    go : (a : FileAnswer) → read_file f ≡ a → Means wide f b t r after
    go (refused n place) d = bad_file n place d (answered (refused n place) d) (left (refused n place) d)
    go (program p) d = listed p d _ (answered (program p) d) (told p d)
