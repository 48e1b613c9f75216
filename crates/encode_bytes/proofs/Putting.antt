-- A list with some bytes replaced: one run after the other, and entry after entry.
-- Assumes nothing.
use mathlib.Core.Path.{◌≡◌, sym, ap, ap₂, subst, ◌∙◌}
use mathlib.Core.List.{List, [], ◌++◌, append_assoc}
use mathlib.Core.Logic.{◌⊎◌, inl, inr}
use Prim.Native.Nat.{ℕ, suc, ◌+◌, ◌*◌, ◌-◌, ◌≤◌, ◌<◌}
use native.Mathlib.Nat.{mul-suc, mul-le-mul_left}
use native.Mathlib.Omega.{arith}
use lib.ListN.{length, get_or, take, drop, length-append, length-take, length-drop, take-append-drop, get_or-append}
use borrow.Rule.Slice.PartMut.{put_mid}
use lib.Seq.{length-take-le, take_at, drop_at, drop-drop, get_or-take, get_or-drop, get_or-append-add}
use Rattle.encode_bytes.specs.Lists.{joined}
use Rattle.encode_bytes.specs.Places.{put}

pub put_none : (i : ℕ) (a : List ℕ) → put i [] a ≡ a
unfolding put
put_none i a = let e : i + 0 ≡ i = omega arith in ap (λ (k : ℕ). take i a ++ drop k a) e ∙ take-append-drop i a

pub put_length : (i : ℕ) (bs a : List ℕ) → i + length bs ≤ length a → length (put i bs a) ≡ length a
unfolding put
put_length i bs a h = simp (length-append, length-take, length-drop) (omega arith)

-- one run after the other
pub put_more : (i j : ℕ) (bs cs a : List ℕ) → j ≡ i + length bs → i ≤ length a → put j cs (put i bs a) ≡ put i (bs ++ cs) a
unfolding put
put_more i j bs cs a e h =
    let head : List ℕ = take i a ++ bs in
    let rest : List ℕ = drop (i + length bs) a in
    let t : length (take i a) ≡ i = length-take-le i a h in
    let l : length head ≡ j = omega (arith, length-append (take i a) bs) in
    let s : take i a ++ (bs ++ rest) ≡ head ++ rest = sym (append_assoc (take i a) bs rest) in
    let front : take j (take i a ++ (bs ++ rest)) ≡ head = ap (take j) s ∙ take_at head rest j l in
    let n : i + length bs + length cs ≡ i + length (bs ++ cs) = omega (arith, length-append bs cs) in
    let back : drop (j + length cs) (take i a ++ (bs ++ rest)) ≡ drop (i + length (bs ++ cs)) a =
    sym (drop-drop (length cs) j (take i a ++ (bs ++ rest))) ∙ ap (λ (l : List ℕ). drop (length cs) (drop j l)) s ∙ ap (drop (length cs)) (drop_at head rest j l)
    ∙ drop-drop (length cs) (i + length bs) a ∙ ap (λ (k : ℕ). drop k a) n
    in
    ap₂ (λ (x y : List ℕ). x ++ (cs ++ y)) front back
    ∙ append_assoc (take i a) bs (cs ++ drop (i + length (bs ++ cs)) a)
    ∙ ap (λ (l : List ℕ). take i a ++ l) (sym (append_assoc bs cs (drop (i + length (bs ++ cs)) a)))

-- the same, where what is written is known by equations
pub put_then : (i j : ℕ) (bs cs a : List ℕ) {b c : List ℕ} → b ≡ put i bs a → c ≡ put j cs b → j ≡ i + length bs → i ≤ length a → c ≡ put i (bs ++ cs) a
put_then i j bs cs a e e' l h = e' ∙ ap (put j cs) e ∙ put_more i j bs cs a l h

-- ---- bytes beside those that are put stay
put_before : (i k : ℕ) (bs a : List ℕ) → i ≤ length a → k < i → get_or (put i bs a) k 0 ≡ get_or a k 0
unfolding put
put_before i k bs a h l =
    let n : length (take i a) ≡ i = length-take-le i a h in
    get_or-append (take i a) (bs ++ drop (i + length bs) a) 0 k (omega arith) ∙ get_or-take i a k 0 l

put_behind : (i j : ℕ) (bs a : List ℕ) → i ≤ length a → get_or (put i bs a) (i + length bs + j) 0 ≡ get_or a (i + length bs + j) 0
unfolding put
put_behind i j bs a h =
    let n : length (take i a) ≡ i = length-take-le i a h in
    let e : i + length bs + j ≡ length (take i a) + (length bs + j) = omega arith in
    ap (λ (k : ℕ). get_or (take i a ++ (bs ++ drop (i + length bs) a)) k 0) e
    ∙ get_or-append-add (take i a) (bs ++ drop (i + length bs) a) (length bs + j) 0
    ∙ get_or-append-add bs (drop (i + length bs) a) j 0
    ∙ get_or-drop (i + length bs) a j 0

pub put_beside : (i n k : ℕ) (bs a : List ℕ) → length bs ≡ n → i ≤ length a → (k < i) ⊎ (i + n ≤ k) → get_or (put i bs a) k 0 ≡ get_or a k 0
put_beside i n k bs a e h (inl l) = put_before i k bs a h l
put_beside i n k bs a e h (inr l) =
    let m : i + length bs + (k - (i + n)) ≡ k = omega arith in
    subst (λ (j : ℕ). get_or (put i bs a) j 0 ≡ get_or a j 0) m (put_behind i (k - (i + n)) bs a h)

-- the bytes from place i on, replaced by as many
pub put_part : (i k : ℕ) (bs ys a : List ℕ) → ys ≡ bs → k ≡ length bs → put_mid i k a ys ≡ put i bs a
unfolding put
put_part i k bs ys a e l = ap₂ (λ (y z : List ℕ). take i a ++ (y ++ z)) e (drop-drop k i a ∙ ap (λ (n : ℕ). drop (i + n) a) l)

-- ---- n entries, one after the other, of which k are written: the next goes to place j
module _ (f : ℕ → List ℕ) (n : ℕ) where
  pub entry_put : {k j k' j' : ℕ} (a : List ℕ) {a' all : List ℕ} → k < n → a' ≡ put j (f k) a → k' ≡ k + 1 → j' ≡ j + length (f k) → j ≤ length a → put j (joined f k (n - k)) a ≡ all → put j' (joined f k' (n - k')) a' ≡ all
  unfolding joined
  entry_put {k} {j} {k'} {j'} a {a'} {all} h e ek ej l rest =
      let z : n - k ≡ suc (n - k') = omega arith in
      let y : k' ≡ suc k = omega arith in
      ap₂ (λ (x : ℕ) (b : List ℕ). put j' (joined f x (n - k')) b) y e
      ∙ put_more j j' (f k) (joined f (suc k) (n - k')) a ej l
      ∙ sym (ap (λ (x : ℕ). put j (joined f k x) a) z)
      ∙ rest

  pub none_put : (j : ℕ) (a : List ℕ) → put j (joined f 0 (n - 0)) a ≡ put j (joined f 0 n) a
  none_put j a = let z : n - 0 ≡ n = omega arith in ap (λ (m : ℕ). put j (joined f 0 m) a) z

  pub all_put : {k : ℕ} (j : ℕ) (a : List ℕ) → n ≤ k → put j (joined f k (n - k)) a ≡ a
  unfolding joined
  all_put {k} j a h = let z : n - k ≡ 0 = omega arith in ap (λ (x : ℕ). put j (joined f k x) a) z ∙ put_none j a

-- ---- entries of w bytes: the place of the next, which is within n of them
pub next_place : (w k : ℕ) → w * (k + 1) ≡ w * k + w
next_place w k = let e : k + 1 ≡ suc k = omega arith in ap (λ (j : ℕ). w * j) e ∙ mul-suc w k ∙ omega arith

pub within_place : (w n k : ℕ) → k < n → w * k + w ≤ w * n
within_place w n k h = let m : w * (k + 1) ≤ w * n = mul-le-mul_left w (omega arith) in omega (arith, next_place w k)

-- the front replaced
pub put_front : (n : ℕ) (bs ys a : List ℕ) → ys ≡ bs → n ≡ length bs → ys ++ drop n a ≡ put 0 bs a
unfolding put
put_front n bs ys a e l = ap₂ (λ (y : List ℕ) (k : ℕ). y ++ drop k a) e (omega arith)
