-- What the code relies on that tells what the tries of a load or store rest on, on plain values.
-- Assumes nothing.
use mathlib.Core.Path.{◌≡◌, refl, sym, ap, ap₂, subst, subst₂, ◌∙◌}
use mathlib.Core.Logic.{◌⊎◌, inl, inr, ⊎_elim}
use mathlib.Core.Bool.{Bool, true, false, not, ◌&&◌}
use mathlib.Core.List.{List}
use Prim.Native.Nat.{ℕ, ◌+◌, ◌*◌, ◌/◌, ◌%◌, ◌^◌, ◌≤◌, ◌<◌}
use native.Mathlib.Nat.{add_comm, mod-lt}
use native.Mathlib.Decide.{ℕ_discrete, dec_lt}
use native.Mathlib.Omega.{arith}
use lib.Dec.{T, eqb, lit<}
use borrow.Author.Tests.{eqb-true, not-false, eqb-false}
use Rattle.program.proofs.Tests.{and_both, eq→eqb, is_false}
use Rattle.machine.specs.State.{message_at, has}
use Rattle.machine.specs.Rules.{value_of, address}
use Rattle.machine.proofs.Effects.{load_location}
use Rattle.machine.proofs.Sets.{has_positive}
use Rattle.rules_times.specs.Times.{After}
use Rattle.certify_runs.specs.Below.{Operand, LoadMode, StoreMode, Instr, Compute, Load, Store, Branch, Fence, Message, Memory, Thread}
use Rattle.certify_cares.specs.Cares.{Marked, Agrees, Agreeing}
use Rattle.certify_cares.proofs.Agreeing.{same_address, not_that, not_barred}
use Rattle.certify_lost.proofs.Lower.{near_sum}
use Rattle.certify_under.specs.Vacant.{Vacant}
use Rattle.certify_sought.specs.Numbers.{Sought}
use Rattle.certify_sought.specs.Asks.{OtherValues, Unsought, Elsewhere, StoresSame, LoadsSame, StoreAsks, Asks}

-- ---- the other values of the promises to a location, one by one
module _ (m : Memory) (p l v : ℕ) where
  -- before the first promise there is none
  pub values_first : (r k : ℕ) → After p 0 r → OtherValues m p l v r k
  values_first r k h y u a out lo um at val = absurd (subst T (h.between u (has_positive p u out) lo) out)

  -- a care that asks no less, and asks for v where the message at u is to l with another value
  values_next : (u r k k' : ℕ) → OtherValues m p l v u k → ((y : ℕ) → Agrees k' v y → Agrees k v y)
      → ((y : ℕ) → Agrees k' v y → (message_at m u).location ≡ l → (message_at m u).value ≡ y → v ≡ y) → After p u r → OtherValues m p l v r k'
  values_next u r k k' h more here on y j a out lo jm at val =
      elim (dec_lt j u) [
        | yes before ↦ h y j (more y a) out before jm at val
        | no after ↦ elim (dec_lt u j) [
          | yes past ↦ absurd (subst T (on.between j past lo) out)
          | no neither ↦ (let e : j ≡ u = omega arith in here y a (ap (λ (i : ℕ). (message_at m i).location) (sym e) ∙ at) (ap (λ (i : ℕ). (message_at m i).value) (sym e) ∙ val))
        ]
      ]

  module _ (u r k : ℕ) (h : OtherValues m p l v u k) (w : Message) (we : w ≡ message_at m u) (on : After p u r) where
    -- the message at u has another value, and the care is joined with one that it is not that
    pub values_other : w.value < 256 → (k' : ℕ) → ((x y : ℕ) → Agrees k' x y → Agrees k x y × Agrees (256 + w.value) x y) → OtherValues m p l v r k'
    values_other b k' joins =
        values_next u r k k' h (λ y a. (joins v y a).0) (λ y a at val. ⊎_elim (λ e. e) (λ n. absurd (n (let e : w.value ≡ y = ap (λ (i : Message). i.value) we ∙ val in omega arith))) (not_that (omega arith) (omega arith) (joins v y a).1)) on

    -- the message at u is to another location or has the value v
    pub values_same : (eqb w.location l && not (eqb w.value v)) ≡ false → OtherValues m p l v r k
    values_same other = values_next u r k k h (λ y a. a) (λ y a at val. sym (same (ap (λ (i : Message). i.location) we ∙ at)) ∙ ap (λ (i : Message). i.value) we ∙ val) on
      where
        same : w.location ≡ l → w.value ≡ v
        same at = eqb-true w.value v (not-false (eqb w.value v) (is_false (not (eqb w.value v)) (λ t. subst T other (and_both (eqb w.location l) (not (eqb w.value v)) (eq→eqb at) t))))

  -- past the last message: all promises
  pub values_all : (u r : ℕ) → OtherValues m p l v u r → m.count < u → OtherValues m p l v 17 r
  values_all u r h over y j a out lo jm = h y j a out (omega arith) jm

-- ---- what a load rests on
-- an operand keeps its location, and the other, if it is of one from which that leads into the set, too: the sum does, or it is not in the set
same_or_out : (set turn x y x' y' : ℕ) → ((v : ℕ) → Marked set (address (x + v)) → Marked turn (address v)) → Agrees (65536 * 65535) x x' → Agrees (65536 * turn) y y'
    → (address (x + y) ≡ address (x' + y')) ⊎ (Marked set (address (x' + y')) → ⊥)
same_or_out set turn x y x' y' turns p q = elim (ℕ_discrete (set / 2 ^ address (x' + y') % 2) 1) [
  | yes there ↦ inl (near_sum x x' y y' (same_address p) (not_barred turn q (turns y' (subst (Marked set) (near_sum x' x y' y' (sym (same_address p)) refl) there))))
  | no out ↦ inr out
]

-- x and y are the values of the operands, and l is the location of their sum; if there is a location out of the set, tries are apart, and neither it nor l has a message
module _ (m : Memory) (s : Thread) (a b : Operand) (apart : Bool) (x y l set turn : ℕ) (xe : x ≡ value_of s a) (ye : y ≡ value_of s b) (le : l ≡ address (x + y))
    (free : (j : ℕ) → j < 16 → (Marked set j → ⊥) → (apart ≡ true) × (Vacant m l × Vacant m j)) (cares : List ℕ) where
  either_loads : (s' : Thread) → (load_location s a b ≡ load_location s' a b) ⊎ (Marked set (load_location s' a b) → ⊥) → LoadsSame apart m s s' a b
  either_loads s' e =
      ⊎_elim inl (λ out. let z = free (load_location s' a b) (mod-lt _ (lit< tt)) out in inr (z.0, subst (Vacant m) (le ∙ ap₂ (λ (i j : ℕ). address (i + j)) xe ye) z.1.0, z.1.1)) e

  -- the first operand keeps its location
  pub first_kept : ((v : ℕ) → Marked set (address (x + v)) → Marked turn (address v)) → (k k' : ℕ) → k ≡ 65536 * 65535 → k' ≡ 65536 * turn
      → ((s' : Thread) → Agreeing cares s s' → Agrees k (value_of s a) (value_of s' a) × Agrees k' (value_of s b) (value_of s' b)) → (s' : Thread) → Agreeing cares s s' → LoadsSame apart m s s' a b
  first_kept turns k k' ke ke' f s' g =
      either_loads s' (same_or_out set turn _ _ _ _ (subst (λ (i : ℕ). (v : ℕ) → Marked set (address (i + v)) → Marked turn (address v)) xe turns)
      (subst (λ (i : ℕ). Agrees i (value_of s a) (value_of s' a)) ke (f s' g).0) (subst (λ (i : ℕ). Agrees i (value_of s b) (value_of s' b)) ke' (f s' g).1))

  -- the second
  pub second_kept : ((v : ℕ) → Marked set (address (y + v)) → Marked turn (address v)) → (k k' : ℕ) → k ≡ 65536 * turn → k' ≡ 65536 * 65535
      → ((s' : Thread) → Agreeing cares s s' → Agrees k (value_of s a) (value_of s' a) × Agrees k' (value_of s b) (value_of s' b)) → (s' : Thread) → Agreeing cares s s' → LoadsSame apart m s s' a b
  second_kept turns k k' ke ke' f s' g =
      either_loads s' (subst₂ (λ (i j : ℕ). (address i ≡ address j) ⊎ (Marked set (address j) → ⊥)) (add_comm (value_of s b) (value_of s a)) (add_comm (value_of s' b) (value_of s' a))
      (same_or_out set turn _ _ _ _ (subst (λ (i : ℕ). (v : ℕ) → Marked set (address (i + v)) → Marked turn (address v)) ye turns)
      (subst (λ (i : ℕ). Agrees i (value_of s b) (value_of s' b)) ke' (f s' g).1) (subst (λ (i : ℕ). Agrees i (value_of s a) (value_of s' a)) ke (f s' g).0)))

-- ---- what a store rests on
-- x and v are the values of the operands, and l is the location; one out of the set has neither a promise nor, if the hole is outstanding, a number that is sought
module _ (m : Memory) (s : Thread) (a d : Operand) (q : Sought) (room : m.count ≤ 16) (x l v set k k' : ℕ) (xe : x ≡ value_of s a) (le : l ≡ address x) (ve : v ≡ value_of s d)
    (free : (j : ℕ) → j < 16 → (Marked set j → ⊥) → Elsewhere m s.promises q j) (ke : k ≡ 65536 * set) (others : OtherValues m s.promises l v 17 k') (cares : List ℕ)
    (keeps : (s' : Thread) → Agreeing cares s s' → Agrees k (value_of s a) (value_of s' a) × Agrees k' (value_of s d) (value_of s' d)) where
  at_place : l ≡ address (value_of s a)
  at_place = le ∙ ap address xe

  -- on its location, or that it is not one of the set; and on that its data is not the value of another promise to it
  stores_kept : (s' : Thread) → Agreeing cares s s' → StoresSame m s a d s' ⊎ Elsewhere m s.promises q (address (value_of s' a))
  stores_kept s' g = elim (ℕ_discrete (set / 2 ^ address (value_of s' a) % 2) 1) [
    | yes there ↦ inl (record {
      place = not_barred set (subst (λ (i : ℕ). Agrees i (value_of s a) (value_of s' a)) ke (keeps s' g).0) there;
      data_kept = λ u out um lu vu. sym ve ∙ others (value_of s' d) u (subst (λ (i : ℕ). Agrees k' i (value_of s' d)) (sym ve) (keeps s' g).1) out (omega arith) um (lu ∙ sym at_place) vu;
    })
    | no out ↦ inr (free (address (value_of s' a)) (mod-lt _ (lit< tt)) out)
  ]

  -- the hole is not outstanding
  pub keeps_hole : has s.promises q.hole ≡ false → StoreAsks m s a d q cares
  keeps_hole n = record { store = stores_kept; number = λ out. absurd (subst T n out) }

  -- it may be: on whether its number is sought
  pub fills_hole : (n : ℕ) → Unsought q l v n → ((s' : Thread) → Agreeing cares s s' → Agrees n (value_of s d) (value_of s' d)) → StoreAsks m s a d q cares
  fills_hole n u f = record { store = stores_kept; number = λ out. (n, (subst₂ (λ (i j : ℕ). Unsought q i j n) at_place ve u, f)) }

-- ---- the instructions
-- the instruction is a load or store
abbrev pub is_tried : Instr → Bool
is_tried (Compute k r a b) = false
is_tried (Load k r a b) = true
is_tried (Store k a d) = true
is_tried (Branch n a b) = false
is_tried (Fence k) = false

-- the register and the operands of a load
pub load_same : (k k' : LoadMode) (r r' : ℕ) (a a' b b' : Operand) → Load k r a b ≡ Load k' r' a' b' → (r ≡ r') × (a ≡ a') × (b ≡ b')
load_same k k' r r' a a' b b' e = (cc, cc, cc)

-- the operands of a store
store_same : (k k' : StoreMode) (a a' d d' : Operand) → Store k a d ≡ Store k' a' d' → (a ≡ a') × (d ≡ d')
store_same k k' a a' d d' e = (cc, cc)

-- a load is no store
pub load_not_store : (k : LoadMode) (k' : StoreMode) (r : ℕ) (a a' b d' : Operand) → Load k r a b ≡ Store k' a' d' → ⊥
load_not_store k k' r a a' b d' e = eqb-false 0 1 refl cc

module _ (x : Instr) (m : Memory) (s : Thread) (q : Sought) (apart : Bool) (cares : List ℕ) where
  -- the instruction is a load
  pub load_asks : (k : LoadMode) (r : ℕ) (a b : Operand) → x ≡ Load k r a b → ((s' : Thread) → Agreeing cares s s' → LoadsSame apart m s s' a b) → Asks x m s q apart cares
  load_asks k r a b is f =
      record {
        load = λ k' r' a' b' is' s' g. let e = load_same k k' r r' a a' b b' (sym is ∙ is') in subst₂ (λ (o o' : Operand). LoadsSame apart m s s' o o') e.1 e.2 (f s' g);
        store = λ k' a' d' is'. absurd (load_not_store k k' r a a' b d' (sym is ∙ is'));
      }

  -- it is a store
  pub store_asks : (k : StoreMode) (a d : Operand) → x ≡ Store k a d → StoreAsks m s a d q cares → Asks x m s q apart cares
  store_asks k a d is f =
      record {
        load = λ k' r' a' b' is'. absurd (load_not_store k' k r' a' a b' d (sym is' ∙ is));
        store = λ k' a' d' is'. let z = store_same k k' a a' d d' (sym is ∙ is') in subst₂ (λ (o o' : Operand). StoreAsks m s o o' q cares) z.0 z.1 f;
      }

  -- what is neither rests on nothing
  pub other_asks : is_tried x ≡ false → Asks x m s q apart cares
  other_asks n = record { load = λ k r a b is. absurd (subst T (sym (ap is_tried is) ∙ n) tt); store = λ k a d is. absurd (subst T (sym (ap is_tried is) ∙ n) tt) }
