-- Bytes that stand at a place of a file.
-- Assumes nothing.
use mathlib.Core.Path.{◌≡◌, sym, ap, ◌∙◌}
use mathlib.Core.List.{List, ◌++◌, append_assoc}
use Prim.Native.Nat.{ℕ, ◌+◌, ◌≤◌, ◌<◌}
use native.Mathlib.Omega.{arith}
use lib.ListN.{length, get_or, length-append, get_or-append}
use lib.Seq.{get_or-append-add}
use Rattle.program.specs.File.{byte_at}

-- the bytes bs stand in the file f at a place
pub record At (f : List ℕ) (at : ℕ) (bs : List ℕ) : Type 0 where
  pub before : List ℕ
  pub after : List ℕ
  pub is : f ≡ before ++ (bs ++ after)
  pub place : length before ≡ at

module _ {f : List ℕ} {at : ℕ} {bs : List ℕ} (h : At f at bs) where
  -- they are within the file
  pub at_fits : at + length bs ≤ length f
  at_fits =
      let a = ap length h.is in
      let b = length-append h.before (bs ++ h.after) in
      let c = length-append bs h.after in
      let d = h.place in
      omega arith

  -- byte k of them is byte `at + k` of the file
  pub at_byte : (k : ℕ) → k < length bs → byte_at f (at + k) ≡ get_or bs k 0
  at_byte k l =
      ap (λ (g : List ℕ). byte_at g (at + k)) h.is ∙ ap (λ (n : ℕ). get_or (h.before ++ (bs ++ h.after)) (n + k) 0) (sym h.place)
      ∙ get_or-append-add h.before (bs ++ h.after) k 0 ∙ get_or-append bs h.after 0 k l

module _ {f : List ℕ} {at : ℕ} (a b : List ℕ) (h : At f at (a ++ b)) where
  -- the first part stands at the place, the second behind it
  pub at_first : At f at a
  at_first = record { before = h.before; after = b ++ h.after; is = h.is ∙ ap (λ (l : List ℕ). h.before ++ l) (append_assoc a b h.after); place = h.place }

  pub at_second : At f (at + length a) b
  at_second =
      let l = length-append h.before a in
      let d = h.place in
      record {
        before = h.before ++ a;
        after = h.after;
        is = h.is ∙ ap (λ (l : List ℕ). h.before ++ l) (append_assoc a b h.after) ∙ sym (append_assoc h.before a (b ++ h.after));
        place = omega arith;
      }
