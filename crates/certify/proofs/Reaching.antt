-- What the search of runs relies on, on plain values: one state, and the instructions before it that have one way to go on.
-- Assumes nothing.
use mathlib.Core.Path.{◌≡◌, refl, sym, ap, ◌∙◌, subst}
use mathlib.Core.Logic.{inl, inr, ⊎_elim}
use mathlib.Core.Option.{some, some-injective}
use Prim.Native.Nat.{ℕ, ◌+◌, ◌-◌, ◌*◌, ◌≤◌, ◌<◌}
use native.Mathlib.Decide.{ℕ_discrete}
use native.Mathlib.Omega.{arith}
use lib.Dec.{T, eqb, eqb→eq}
use Rattle.std.specs.Prelude.{Result, Ok}
use Rattle.program.specs.Program.{instr_at}
use Rattle.program.proofs.Counts.{there}
use Rattle.program.proofs.Tests.{eq→eqb, is_true, is_false}
use Rattle.program.specs.declared.Refusal.{Refusal}
use Rattle.machine.specs.State.{append, has}
use Rattle.machine.specs.Rules.{next, value_of, address, execute, add_promise, store_message}
use Rattle.machine.specs.Inner.{ruled, own_store}
use Rattle.machine.proofs.Cases.{ruled_done}
use Rattle.machine.proofs.Effects.{effect, effect_time, moves}
use Rattle.certify_runs.specs.Below.{Code, Operand, StoreMode, Instr, Store, Message, Memory, Thread}
use Rattle.certify_runs.specs.Certify.{message_of, certified}
use Rattle.certify_runs.specs.Inner.{Trying}
use Rattle.certify_runs.specs.Runs.{done, by, own}
use Rattle.certify_cares.specs.Cares.{Agreeing, Covers}
use Rattle.certify_cares.specs.declared.Cares.{Cares}
use Rattle.certify_under.specs.Under.{Rests}
use Rattle.certify_under.proofs.Resting.{rests_self}
use Rattle.certify_straight.specs.Straight.{Leads}
use Rattle.certify_sought.specs.declared.Met.{Met}
use Rattle.certify_sought.specs.declared.Sought.{Sought}
use Rattle.certify_sought.specs.Numbers.{Unmet, Seeks, Better, same, Twice, Emptied}
use Rattle.certify_sought.specs.Asks.{Asks, Repeats}
use Rattle.certify_sought.specs.Aim.{Fills, Meets}
use Rattle.certify_sought.proofs.Numbers.{narrows, better_on, better_as, least_passes, zero_sought, emptied_better, emptied_now}
use Rattle.certify_tried.specs.declared.Tried.{Tried}
use Rattle.certify_tried.specs.declared.Reached.{Reached}
use Rattle.certify.specs.Search.{Owns, Found, Unkept, Filled, Missed, Through}
use Rattle.certify.proofs.Leading.{leads_there, leads_back}
use Rattle.certify.proofs.Finding.{rests_less, asked_likewise}
use Rattle.certify.proofs.Filling.{fills_out, meets_certified, certified_meets, only_zero}

-- ---- what is asked of the search
pub found_twice : (from : ℕ) (p : Met) (P : Thread → ℕ → Type 0) (s : Thread) (r : Reached) → Found from p P s r → Twice from p (P s) r.met
found_twice from p P s r f = record { better = f.better; none = λ k u h. f.barren s (rests_self r.cares.of s) k u h }

pub found_certified : (c : Code) (i : ℕ) (m : Memory) (s : Thread) (r : Met) → Twice 0 (record { least = 1; second = 1 }) (Meets c i m s 0) r → eqb r.least 0 ≡ certified c i m s
found_certified c i m s r f = go (ℕ_discrete r.least 0)
  where
    go : Dec (r.least ≡ 0) → eqb r.least 0 ≡ certified c i m s
    go (yes z) =
        is_true (eqb r.least 0) (eq→eqb z)
        ∙ sym (is_true (certified c i m s) (⊎_elim (λ (e : r.least ≡ 1). absurd (omega arith)) (λ w. meets_certified c i r.least m s w) (least_passes f.better)))
    go (no n) =
        is_false (eqb r.least 0) (λ z. n (eqb→eq r.least 0 z))
        ∙ sym (is_false (certified c i m s) (λ z. f.none 0 (zero_sought f.better (omega arith, omega arith, λ e. omega arith) n) (certified_meets c i m s z)))

-- ---- one state
module _ (c : Code) (i : ℕ) (m : Memory) (s : Thread) (q : Sought) where
  -- the thread is at its end
  pub reach_end : (q.hole ≡ 0 → s.promises ≡ 0 → ⊥) → c.count ≤ s.position → (k : Cares) → Found q.from q.met (λ y j. Meets c i m y q.hole j) s (record { met = q.met; cares = k })
  reach_end unkept h k = record { better = same; barren = λ s' rests j u r. ended s' rests j r }
    where
      past : (s' : Thread) → Rests k.of s s' → (x : Instr) → instr_at c s'.position ≡ some x → ⊥
      past s' rests x g = let l = (there c s'.position x g).0 in let at = rests.under.same_position in omega arith

      ended : (s' : Thread) → Rests k.of s s' → (j : ℕ) → Meets c i m s' q.hole j → ⊥
      ended s' rests j (done (inl p)) = unkept p.0 (rests.under.same_promises ∙ p.2)
      ended s' rests j (done (inr (x, g, f))) = past s' rests x g
      ended s' rests j (by x t y g tl e r) = past s' rests x g
      ended s' rests j (own x w y g gw room e r) = past s' rests x g

  -- ---- its instruction x
  module _ (x : Instr) (is_next : instr_at c s.position ≡ some x) (here : Reached) (fills : Filled c i m s x q here) where
    pub fills_meets : Better q.from (Meets c i m s q.hole) q.met here.met
    fills_meets = better_as (λ j z. done (inr (x, is_next, z))) fills.better

    -- at a time
    pub tried_meets : {p p' : Met} (t : ℕ) → Better q.from (Through c i m s x t q.hole) p p' → Better q.from (Meets c i m s q.hole) p p'
    tried_meets t b = better_as (λ j z. by {m = m} {s = s} x t z.0 is_next (effect_time (effect x m t s z.0 z.1)) z.1 z.2) b

    -- by its own message
    pub owns_meets : {p p' : Met} → Better q.from (λ j. Owns c i m s x q.hole j) p p' → Better q.from (Meets c i m s q.hole) p p'
    owns_meets b = better_as (λ j w. own x w.message w.after is_next w.is_own w.fewer w.does w.goes_on) b

    -- after the last time, and the own message
    module _ (unkept : Unkept s x q) (room : m.count ≤ 16) (p : Tried) (t : ℕ) (tried : Better q.from (Meets c i m s q.hole) here.met p.met) (covered : Covers p.cares.of here.cares.of) (known : Missed c i m s x q p 0 t) (over : 16 < t)
        (r : Reached) (owns : Found q.from p.met (λ y j. Owns c i m y x q.hole j) s r) (covers : Covers r.cares.of p.cares.of)
        (last : Sought) (is_last : last ≡ record { hole = q.hole; from = q.from; met = r.met }) (asked : Cares) (asks : Asks x m s last p.apart asked.of)
        (k : Cares) (both : Covers k.of r.cares.of × Covers k.of asked.of) where
      pub reach_better : Better q.from (Meets c i m s q.hole) q.met r.met
      reach_better = better_on fills_meets (better_on tried (owns_meets owns.better))

      sought_last : (j : ℕ) → Unmet q.from r.met j → Seeks last j
      sought_last j u = subst (λ (o : Sought). Seeks o j) (sym is_last) u

      same_hole : q.hole ≡ last.hole
      same_hole = ap (λ (o : Sought). o.hole) (sym is_last)

      same_next : (s' : Thread) → Rests k.of s s' → (y : Instr) → instr_at c s'.position ≡ some y → x ≡ y
      same_next s' rests y g = some-injective x y (sym is_next ∙ ap (instr_at c) rests.under.same_position ∙ g)

      -- a thread that fills the hole by a number that is sought stores the same
      repeats : (s' : Thread) → Rests k.of s s' → (j : ℕ) → Unmet q.from r.met j → Fills c i x q.hole j m s' → Repeats x s s'
      repeats s' rests j u f how a d is = (place, elim (ℕ_discrete (value_of s d) (value_of s' d)) [ yes e ↦ e | no n ↦ absurd (unsought n) ])
        where
          agree : Agreeing asked.of s s'
          agree = (rests_less both.1 rests).agreeing

          out : T (has s.promises last.hole)
          out = subst (λ (h : ℕ). T (has s.promises h)) same_hole (subst (λ (n : ℕ). T (has n q.hole)) (sym rests.under.same_promises) (fills_out f))

          mine : store_message i a d s' ≡ f.message
          mine = some-injective _ _ (sym (ap (message_of i s') is) ∙ f.is_own)

          byte : value_of s' d < 256
          byte = subst (λ (w : Message). w.value < 256) (sym mine) f.byte

          number : Seeks last (256 * address (value_of s' a) + value_of s' d)
          number = subst (Seeks last) (sym (subst (λ (w : Message). 256 * w.location + w.value ≡ j) (sym mine) f.number)) (sought_last j u)

          place : address (value_of s a) ≡ address (value_of s' a)
          place = ⊎_elim (λ here. here.place) (λ there. absurd (there.unsought out (value_of s' d) byte number)) ((asks.store how a d is).store s' agree)

          unsought : (value_of s d ≡ value_of s' d → ⊥) → ⊥
          unsought n =
              let z = (asks.store how a d is).number out in
              let ag = z.1.1 s' agree in
              z.1.0.missed (λ t. n (z.1.0.found t (value_of s' d) ag)) (value_of s' d) byte ag (subst (λ (l : ℕ). Seeks last (256 * l + value_of s' d)) (sym place) number)

      barren : (s' : Thread) → Rests k.of s s' → (j : ℕ) → Unmet q.from r.met j → Meets c i m s' q.hole j → ⊥
      barren s' rests j u (done (inl z)) = unkept.outstanding z.0 (rests.under.same_promises ∙ z.2)
      barren s' rests j u (done (inr (y, g, w))) =
          let f = subst (λ (z : Instr). Fills c i z q.hole j m s') (sym (same_next s' rests y g)) w in
          let less = rests_less both.0 rests in
          fills.barren s' (rests_less covered (rests_less covers less)) (repeats s' rests j u f) j (narrows tried j (narrows owns.better j u)) f
      barren s' rests j u (by y v z g tl e w) =
          let does = subst (λ (o : Instr). execute o m v s' ≡ next z) (sym (same_next s' rests y g)) e in
          known.missed v (omega arith) (omega arith) s' z (rests_less covers (rests_less both.0 rests)) (asked_likewise x m s s' last p.apart asked.of asks (rests_less both.1 rests) v z does) does j (narrows owns.better j u) w
      barren s' rests j u (own y w v g gw few e rest) =
          let z = same_next s' rests y g in
          owns.barren s' (rests_less both.0 rests) j u
          (record {
            message = w;
            after = v;
            is_own = ap (message_of i s') z ∙ gw;
            fewer = few;
            does = subst (λ (o : Instr). execute o (append m w) (append m w).count (add_promise (append m w) s') ≡ next v) (sym z) e;
            goes_on = rest;
          })

      pub reach_all : Found q.from q.met (λ y j. Meets c i m y q.hole j) s (record { met = r.met; cares = k })
      reach_all = record { better = reach_better; barren = barren }

-- ---- the instructions before it
module _ (c : Code) (i : ℕ) (m : Memory) (s y : Thread) (lead : Leads c s y) (q : Sought) where
  pub straight_better : {p : Met} → Better q.from (Meets c i m y q.hole) q.met p → Better q.from (Meets c i m s q.hole) q.met p
  straight_better b = better_as (λ j w. leads_there lead i q.hole j w) b

  -- an empty promise set is there, and is sought
  pub straight_kept : (q.hole ≡ 0) × (y.promises ≡ 0) → (p : Met) → Emptied q p → (k : Cares) → Found q.from q.met (λ v j. Meets c i m v q.hole j) s (record { met = p; cares = k })
  straight_kept empty p e k =
      record {
        better = straight_better (emptied_better q p e (done (inl (empty.0, refl, empty.1))));
        barren = λ s' rests j u w. emptied_now q p e (subst (Unmet q.from p) (only_zero c i q.hole j m s' empty.0 w) u);
      }

  pub straight_found : (r : Reached) → Found q.from q.met (λ v j. Meets c i m v q.hole j) y r → (k : Cares)
      → ((s' : Thread) → Rests k.of s s' → (y' : Thread) × (Leads c s' y' × Rests r.cares.of y y'))
      → Found q.from q.met (λ v j. Meets c i m v q.hole j) s (record { met = r.met; cares = k })
  straight_found r f k back =
      record {
        better = straight_better f.better;
        barren = λ s' rests j u w. let z = back s' rests in f.barren z.0 z.1.1 j u (leads_back z.1.0 i q.hole j w);
      }

-- ---- each instruction moves the position on, so the search ends
module _ (c : Code) (m : Memory) (s : Thread) (x : Instr) (w : Trying c m s x) where
  further : (m' : Memory) (t : ℕ) (s₀ s' : Thread) → s₀.position ≡ s.position → execute x m' t s₀ ≡ next s' → 5 * (20 - s'.position) + 4 < 5 * (20 - s.position) + 1
  further m' t s₀ s' p e =
      let h = moves (effect x m' t s₀ s' e) in
      let l = (there c s.position x w.is_next).0 in
      let short = w.ready.code_ok.short in
      omega arith

  pub further_by : (t : ℕ) (y : Thread) → execute x m t s ≡ next y → 5 * (20 - y.position) + 4 < 5 * (20 - s.position) + 1
  further_by t y e = further m t s y refl e

  pub further_own : (k : StoreMode) (a d : Operand) → x ≡ Store k a d → (i : ℕ) (u : Result Thread Refusal) → u ≡ ruled (own_store k a d m i s) → {y : Thread} → u ≡ Ok y → 5 * (20 - y.position) + 4 < 5 * (20 - s.position) + 1
  unfolding own_store
  further_own k a d is i u e {y} z =
      let m' = append m (store_message i a d s) in
      further m' m'.count (add_promise m' s) y refl
      (ap (λ (v : Instr). execute v m' m'.count (add_promise m' s)) is ∙ ruled_done (own_store k a d m i s) u e z)
