-- Entries of equal width: read after they are written, and written after they are read.
-- Assumes nothing.
use mathlib.Core.Path.{◌≡◌, refl, sym, ap, ap₂, ◌∙◌}
use mathlib.Core.List.{List, [], ◌∷◌, ◌++◌, append_assoc}
use Prim.Native.Nat.{ℕ, zero, suc, ◌+◌, ◌*◌, ◌≤◌, ◌<◌}
use native.Mathlib.Nat.{mul-zero, mul-suc, not-suc-le-zero, le_of_suc-le-suc}
use native.Mathlib.Omega.{arith}
use lib.ListN.{length, get_or, drop, length-append, length-drop, drop_of_length-le}
use lib.Seq.{drop-cons, drop_at, drop-drop, get_or-drop}
use Rattle.encode_bytes.specs.Lists.{joined, entries}
use Rattle.encode_bytes.specs.Inner.{AllBytes}

-- ---- how long entries are together
pub joined_length : (f : ℕ → List ℕ) (w : ℕ) → ((j : ℕ) → length (f j) ≡ w) → (k n : ℕ) → length (joined f k n) ≡ w * n
unfolding joined
joined_length f w e k zero = sym (mul-zero w)
joined_length f w e k (suc n) = length-append (f k) (joined f (suc k) n) ∙ omega (arith, e k, joined_length f w e (suc k) n, mul-suc w n)

-- ---- bytes that are read one by one
abbrev pub run : List ℕ → ℕ → ℕ → List ℕ
run b k zero = []
run b k (suc n) = get_or b k 0 ∷ run b (suc k) n

pub run_again : (b : List ℕ) (k n : ℕ) → k + n ≤ length b → run b k n ++ drop (k + n) b ≡ drop k b
run_again b k zero h = let e : k + 0 ≡ k = omega arith in ap (λ (j : ℕ). drop j b) e
run_again b k (suc n) h =
    let e : k + suc n ≡ suc k + n = omega arith in
    ap (λ (j : ℕ). get_or b k 0 ∷ (run b (suc k) n ++ drop j b)) e
    ∙ ap (λ (l : List ℕ). get_or b k 0 ∷ l) (run_again b (suc k) n (omega arith))
    ∙ sym (drop-cons b k 0 (omega arith))

pub bytes_drop : (n : ℕ) (b : List ℕ) → AllBytes b → AllBytes (drop n b)
bytes_drop n b h k = rw (get_or-drop n b k 0) (h (n + k))

-- ---- a part of some bytes, and what is left of them
pub part_then : (p q r s t : List ℕ) → p ++ s ≡ t → q ++ r ≡ s → (p ++ q) ++ r ≡ t
part_then p q r s t e e' = append_assoc p q r ∙ ap (λ (l : List ℕ). p ++ l) e' ∙ e

pub part_at : (n w : ℕ) (b p : List ℕ) → p ++ drop w (drop n b) ≡ drop n b → p ++ drop (n + w) b ≡ drop n b
part_at n w b p e = sym (ap (λ (l : List ℕ). p ++ l) (drop-drop w n b)) ∙ e

pub drop_part : (n w : ℕ) (b p q rest : List ℕ) → drop n b ≡ (p ++ q) ++ rest → length p ≡ w → drop (n + w) b ≡ q ++ rest
drop_part n w b p q rest e l = sym (drop-drop w n b) ∙ ap (drop w) (e ∙ append_assoc p q rest) ∙ drop_at p (q ++ rest) w l

-- ---- the entries after a shift
joined_shift : (f : ℕ → List ℕ) (k n : ℕ) → joined f (suc k) n ≡ joined (λ j. f (suc j)) k n
unfolding joined
joined_shift f k zero = refl
joined_shift f k (suc n) = ap (λ (l : List ℕ). f (suc k) ++ l) (joined_shift f (suc k) n)

module _ {A : Type 0} (e : A → List ℕ) (f : List ℕ → A) (w : ℕ) where
  -- read after they are written
  module _ (width : (x : A) → length (e x) ≡ w) (xs : List A) (d : A) (back : (j : ℕ) → j < length xs → (rest : List ℕ) → f (e (get_or xs j d) ++ rest) ≡ get_or xs j d) where
    pub entries_back : (n k : ℕ) → k + n ≡ length xs → (rest : List ℕ) → entries f w n (joined (λ j. e (get_or xs j d)) k n ++ rest) ≡ drop k xs
    unfolding joined entries
    entries_back zero k h rest = sym (drop_of_length-le xs {i = k} (omega arith))
    entries_back (suc n) k h rest =
        let x : A = get_or xs k d in
        let more : List ℕ = joined (λ j. e (get_or xs j d)) (suc k) n ++ rest in
        let l : k < length xs = omega arith in
        ap (λ (b : List ℕ). f b ∷ entries f w n (drop w b)) (append_assoc (e x) (joined (λ j. e (get_or xs j d)) (suc k) n) rest)
        ∙ ap₂ (λ (y : A) (b : List ℕ). y ∷ entries f w n b) (back k l more) (drop_at (e x) more w (width x))
        ∙ ap (λ (ys : List A). x ∷ ys) (entries_back n (suc k) (omega arith) rest)
        ∙ sym (drop-cons xs k d l)

  -- written after they are read
  module _ (d : A) (again : (b : List ℕ) → w ≤ length b → AllBytes b → e (f b) ++ drop w b ≡ b) where
    pub entries_again : (n : ℕ) (b : List ℕ) → w * n ≤ length b → AllBytes b → joined (λ j. e (get_or (entries f w n b) j d)) 0 n ++ drop (w * n) b ≡ b
    unfolding joined entries
    entries_again zero b h o = ap (λ (j : ℕ). drop j b) (mul-zero w)
    entries_again (suc n) b h o =
        let c : List ℕ = drop w b in
        let m : w * suc n ≡ w + w * n = omega (arith, mul-suc w n) in
        let rest : drop (w * suc n) b ≡ drop (w * n) c = ap (λ (j : ℕ). drop j b) m ∙ sym (drop-drop (w * n) w b) in
        let l : w * n ≤ length c = rw (length-drop w b) (omega arith) in
        ap₂ (λ (x y : List ℕ). (e (f b) ++ x) ++ y) (joined_shift (λ j. e (get_or (f b ∷ entries f w n c) j d)) 0 n) rest
        ∙ append_assoc (e (f b)) (joined (λ j. e (get_or (entries f w n c) j d)) 0 n) (drop (w * n) c)
        ∙ ap (λ (x : List ℕ). e (f b) ++ x) (entries_again n c l (bytes_drop w b o))
        ∙ again b (omega arith) o

-- ---- entries that are read: how many, and what holds of each
module _ {A : Type 0} (f : List ℕ → A) (w : ℕ) where
  pub entries_length : (n : ℕ) (b : List ℕ) → length (entries f w n b) ≡ n
  unfolding entries
  entries_length zero b = refl
  entries_length (suc n) b = ap suc (entries_length n (drop w b))

  -- what holds of every entry that is read holds of each in the list
  pub entries_each : (P : A → Type 0) → ((c : List ℕ) → P (f c)) → (n : ℕ) (b : List ℕ) (i : ℕ) (d : A) → i < n → P (get_or (entries f w n b) i d)
  unfolding entries
  entries_each P h zero b i d l = absurd (not-suc-le-zero l)
  entries_each P h (suc n) b zero d l = h b
  entries_each P h (suc n) b (suc i) d l = entries_each P h n (drop w b) i d (le_of_suc-le-suc l)
