-- The outcome of a machine as the bytes that are written for it.
-- Assumes nothing.
use mathlib.Core.Path.{◌≡◌, refl, sym, ap, ap₂, ◌∙◌}
use mathlib.Core.List.{List, [], ◌∷◌, ◌++◌, map, append-nil}
use Prim.Native.Nat.{ℕ, zero, suc, ◌+◌, ◌≤◌}
use native.Mathlib.Omega.{arith}
use lib.ListN.{length, get_or, replicate, length-append, drop_of_length-le}
use Rattle.machine.specs.declared.Machine.{Machine}
use Rattle.machine.specs.State.{fresh_register, thread_of}
use Rattle.step.specs.Order.{range, for_each}
use Rattle.step.specs.Outcome.{last_value}
use Rattle.encode_bytes.specs.Lists.{joined}
use Rattle.encode_bytes.specs.Places.{put}
use Rattle.encode_bytes.proofs.Entries.{joined_length}
use Rattle.search_outcomes.specs.Table.{ending}
use Rattle.search_outcomes.specs.Inner.{values_of, lasts_of}
use Rattle.search_outcomes.proofs.Writing.{put_earlier}
use Rattle.search_outcomes.proofs.LastValues.{lasts_length}

-- ---- lists over a range of numbers are entries one after the other
map_joined : (f : ℕ → ℕ) (k n : ℕ) → map f (range k n) ≡ joined (λ j. f j ∷ []) k n
unfolding range joined
map_joined f k zero = refl
map_joined f k (suc n) = ap (λ (x : List ℕ). f k ∷ x) (map_joined f (suc k) n)

each_joined : (f g : ℕ → List ℕ) → ((i : ℕ) → f i ≡ g i) → (k n : ℕ) → for_each (range k n) f ≡ joined g k n
unfolding range joined for_each
each_joined f g e k zero = refl
each_joined f g e k (suc n) = ap₂ (λ (x y : List ℕ). x ++ y) (e k) (each_joined f g e (suc k) n)

-- ---- the registers, then the locations
abbrev registers : Machine → List ℕ
registers x = joined (λ i. values_of (thread_of x i)) 0 4

registers_length : (x : Machine) → length (registers x) ≡ 32
registers_length x =
    joined_length (λ i. values_of (thread_of x i)) 8 (λ i. joined_length (λ r. (get_or (thread_of x i).registers r fresh_register).value ∷ []) 1 (λ j. refl) 0 8) 0 4

ending_parts : (x : Machine) → ending x ≡ registers x ++ lasts_of x.memory x.memory.count
unfolding ending lasts_of last_value
ending_parts x =
    ap (λ (l : List ℕ). l ++ map (λ (l : ℕ). last_value x.memory l) (range 0 16))
    (each_joined (λ i. map (λ (r : ℕ). (get_or (thread_of x i).registers r fresh_register).value) (range 0 8)) (λ i. values_of (thread_of x i))
    (λ i. map_joined (λ (r : ℕ). (get_or (thread_of x i).registers r fresh_register).value) 0 8) 0 4)

pub ending_length : (x : Machine) → length (ending x) ≡ 48
ending_length x =
    let p : List ℕ = registers x in
    let q : List ℕ = lasts_of x.memory x.memory.count in
    ap length (ending_parts x) ∙ length-append p q ∙ (let a = registers_length x in let b = lasts_length x.memory x.memory.count in omega arith)

-- ---- what is written over a whole list
put_whole : (bs a : List ℕ) → length a ≤ length bs → put 0 bs a ≡ bs
unfolding put
put_whole bs a h = ap (λ (x : List ℕ). bs ++ x) (drop_of_length-le a {i = 0 + length bs} (omega arith)) ∙ append-nil bs

pub ending_written : (x : Machine) {o a b : List ℕ} → o ≡ replicate 48 0 → a ≡ put 32 (lasts_of x.memory x.memory.count) o → b ≡ put 0 (joined (λ i. values_of (thread_of x i)) 0 4) a → b ≡ ending x
ending_written x {o} empty e f =
    let p : List ℕ = registers x in
    let q : List ℕ = lasts_of x.memory x.memory.count in
    let l = registers_length x in
    let m = lasts_length x.memory x.memory.count in
    let n : length o ≡ 48 = ap length empty in
    f ∙ ap (put 0 p) e ∙ put_earlier 0 32 p q o (omega arith) (omega arith) ∙ put_whole (p ++ q) o (let k = length-append p q in omega arith) ∙ sym (ending_parts x)
