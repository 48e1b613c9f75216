-- Bytes written into a list: in front of others, over others, and moved up.
-- Assumes nothing.
use mathlib.Core.Path.{◌≡◌, sym, ap, ap₂, ◌∙◌}
use mathlib.Core.List.{List, [], ◌∷◌, ◌++◌, append_assoc}
use Prim.Native.Nat.{ℕ, suc, ◌+◌, ◌-◌, ◌≤◌, ◌<◌}
use native.Mathlib.Omega.{arith}
use lib.ListN.{length, take, drop, set, length-append, length-drop, length-set}
use lib.Seq.{drop_at, take-append-le, take-take, length-take-le, set-append_left}
use Rattle.std.specs.List.{copy_within}
use Rattle.encode_bytes.specs.Places.{put}

-- ---- in front of bytes that were put
pub put_earlier : (i j : ℕ) (bs cs a : List ℕ) → j ≡ i + length bs → j ≤ length a → put i bs (put j cs a) ≡ put i (bs ++ cs) a
unfolding put
put_earlier i j bs cs a e h =
    let rest : List ℕ = drop (j + length cs) a in
    let whole : List ℕ = take j a ++ (cs ++ rest) in
    let l : length (take j a) ≡ j = length-take-le j a h in
    let front : take i whole ≡ take i a = take-append-le i (take j a) (cs ++ rest) (omega arith) ∙ take-take i j a (omega arith) in
    let back : drop (i + length bs) whole ≡ cs ++ rest = ap (λ (k : ℕ). drop k whole) (sym e) ∙ drop_at (take j a) (cs ++ rest) j l in
    let n : j + length cs ≡ i + length (bs ++ cs) = omega (arith, length-append bs cs) in
    ap₂ (λ (x y : List ℕ). x ++ (bs ++ y)) front back
    ∙ ap (λ (x : List ℕ). take i a ++ x) (sym (append_assoc bs cs rest) ∙ ap (λ (k : ℕ). (bs ++ cs) ++ drop k a) n)

-- ---- what stands before the bytes is written once more
pub put_from_start : (i : ℕ) (bs a : List ℕ) → i ≤ length a → put 0 (take i a ++ bs) a ≡ put i bs a
unfolding put
put_from_start i bs a h =
    let l : length (take i a) ≡ i = length-take-le i a h in
    let n : 0 + length (take i a ++ bs) ≡ i + length bs = omega (arith, length-append (take i a) bs) in
    ap (λ (k : ℕ). (take i a ++ bs) ++ drop k a) n ∙ append_assoc (take i a) bs (drop (i + length bs) a)

-- ---- a byte of those that were put
set_behind : (xs ys : List ℕ) (l v : ℕ) → set (xs ++ ys) (length xs + l) v ≡ xs ++ set ys l v
set_behind [] ys l v = let e : 0 + l ≡ l = omega arith in ap (λ (k : ℕ). set ys k v) e
set_behind (x ∷ xs) ys l v = let e : suc (length xs) + l ≡ suc (length xs + l) = omega arith in ap (λ (k : ℕ). set (x ∷ (xs ++ ys)) k v) e ∙ ap (λ (z : List ℕ). x ∷ z) (set_behind xs ys l v)

pub put_over : (i l v : ℕ) (bs a : List ℕ) → i ≤ length a → l < length bs → set (put i bs a) (i + l) v ≡ put i (set bs l v) a
unfolding put
put_over i l v bs a h m =
    let rest : List ℕ = drop (i + length bs) a in
    let n : length (take i a) ≡ i = length-take-le i a h in
    let same : length (set bs l v) ≡ length bs = length-set bs l v in
    ap (λ (k : ℕ). set (take i a ++ (bs ++ rest)) (k + l) v) (sym n)
    ∙ set_behind (take i a) (bs ++ rest) l v
    ∙ ap (λ (x : List ℕ). take i a ++ x) (set-append_left bs rest l v m ∙ ap (λ (k : ℕ). set bs l v ++ drop (i + k) a) (sym same))

-- ---- the bytes from start to end are moved up by w
pub copy_within_put : (start end w : ℕ) (a : List ℕ) → start ≤ end → end + w ≤ length a → copy_within a start end (start + w) ≡ put (start + w) (take (end - start) (drop start a)) a
unfolding put
copy_within_put start end w a h room =
    let part : List ℕ = take (end - start) (drop start a) in
    let l : length part ≡ end - start = length-take-le (end - start) (drop start a) (rw (length-drop start a) (omega arith)) in
    append_assoc (take (start + w) a) part (drop (start + w + (end - start)) a) ∙ ap (λ (n : ℕ). take (start + w) a ++ (part ++ drop (start + w + n) a)) (sym l)
