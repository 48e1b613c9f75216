-- A list with one entry changed again, and put back; a memory with a message appended and taken off again.
-- Assumes nothing.
use mathlib.Core.Path.{◌≡◌, refl, sym, ap, ◌∙◌}
use mathlib.Core.List.{List, [], ◌∷◌}
use Prim.Native.Nat.{ℕ, zero, suc, ◌+◌, ◌-◌}
use native.Mathlib.Omega.{arith}
use lib.ListN.{get_or, set}
use Rattle.machine.specs.declared.Message.{Message}
use Rattle.machine.specs.declared.Memory.{Memory}
use Rattle.machine.specs.State.{no_message, append}
use Rattle.step.specs.Inner.{without_newest}

pub set_again : {A : Type 0} (l : List A) (i : ℕ) (a b : A) → set (set l i a) i b ≡ set l i b
set_again [] i a b = refl
set_again (x ∷ l) zero a b = refl
set_again {A} (x ∷ l) (suc i) a b = ap (λ (q : List A). x ∷ q) (set_again l i a b)

pub set_back : {A : Type 0} (l : List A) (i : ℕ) (d : A) → set l i (get_or l i d) ≡ l
set_back [] i d = refl
set_back (x ∷ l) zero d = refl
set_back {A} (x ∷ l) (suc i) d = ap (λ (q : List A). x ∷ q) (set_back l i d)

-- the place of the message was empty before
pub taken_off : (m : Memory) (w : Message) → get_or m.messages m.count no_message ≡ no_message → without_newest (append m w) ≡ m
taken_off m w spare =
    let n : m.count + 1 - 1 ≡ m.count = omega arith in
    let back : set (set m.messages m.count w) (m.count + 1 - 1) no_message ≡ m.messages =
    ap (λ (k : ℕ). set (set m.messages m.count w) k no_message) n
    ∙ set_again m.messages m.count w no_message
    ∙ ap (set m.messages m.count) (sym spare)
    ∙ set_back m.messages m.count no_message in
    λ j. record { count = n j; messages = back j }
