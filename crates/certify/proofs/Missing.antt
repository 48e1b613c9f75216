-- Tries of a load or store at times in turn: what is known after each.
-- Assumes nothing.
use mathlib.Core.Path.{◌≡◌, refl, sym, ap, subst, subst₂, ◌∙◌}
use mathlib.Core.Logic.{◌⊎◌, inl, inr, ⊎_elim}
use mathlib.Core.Bool.{Bool, true, false}
use mathlib.Core.List.{List}
use mathlib.Core.Option.{none, some}
use Prim.Native.Nat.{ℕ, ◌<◌}
use native.Mathlib.Nat.{le_refl}
use native.Mathlib.Decide.{ℕ_discrete, dec_lt}
use native.Mathlib.Omega.{arith}
use lib.Count.{ones}
use lib.Dec.{T}
use lib.ListN.{length, set, replicate, get_or-eq_default, length-set, length-replicate, get_or-replicate}
use lib.Seq.{get_or-set_same, get_or-set_other}
use Rattle.std.specs.Prelude.{Result, Err}
use Rattle.program.specs.Program.{instr_at}
use Rattle.program.specs.Counts.{stores_from}
use Rattle.program.specs.declared.Refusal.{Refusal}
use Rattle.machine.specs.Rules.{next, read_value, read_view, execute}
use Rattle.machine.specs.Inner.{ruled}
use Rattle.machine.proofs.Cases.{ruled_refused}
use Rattle.machine.proofs.Effects.{load_location, effect, effect_time}
use Rattle.certify_runs.specs.Below.{Code, Operand, LoadMode, StoreMode, Instr, Compute, Load, Store, Branch, Fence, Memory, Thread}
use Rattle.certify_runs.specs.Inner.{Trying}
use Rattle.certify_runs.specs.Runs.{done, by}
use Rattle.certify_runs.proofs.Fit.{comes_fit}
use Rattle.certify_cares.specs.Cares as cares
use Rattle.certify_cares.specs.Cares.{Agrees, care_of, Agreeing, AgreeingBut, Covers}
use Rattle.certify_under.specs.Under.{Rests}
use Rattle.certify_under.specs.Vacant.{Vacant}
use Rattle.certify_under.specs.Threads.{cohering}
use Rattle.certify_under.proofs.Resting.{load_rests, vacant_zero, idle_rests, store_rests}
use Rattle.certify_straight.specs.Straight.{plainly}
use Rattle.certify_window.specs.Window.{Earliest, Following}
use Rattle.certify_window.specs.Idle.{Idles}
use Rattle.certify_vain.specs.Tries.{counted_at, Vain}
use Rattle.certify_sought.specs.declared.Met.{Met}
use Rattle.certify_sought.specs.declared.Sought.{Sought}
use Rattle.certify_sought.specs.Numbers.{Unmet, Better, same, Emptied}
use Rattle.certify_sought.specs.Asks.{Likewise}
use Rattle.certify_sought.specs.Aim.{Meets}
use Rattle.certify_sought.proofs.Numbers.{narrows, better_as, emptied_better, emptied_now}
use Rattle.certify_sought.proofs.Asking.{load_same, load_not_store}
use Rattle.certify_tried.specs.declared.Tried.{Tried}
use Rattle.certify_tried.specs.declared.Reached.{Reached}
use Rattle.certify_tried.specs.Tried.{Hopeless, Noted}
use Rattle.certify.specs.Search.{Found, Failed, Knows, Fails, Missed, Through, Went}
use Rattle.certify.proofs.Filling.{only_zero}
use Rattle.certify.proofs.Finding.{covers_self, rests_less, other, no_thread_left, likewise_less, loads_vacant, does_too}
use Rattle.certify.proofs.Stores.{aim_fits}
use Rattle.certify.proofs.Vacant.{idle_lifts}

-- ---- what was met
-- after a try of a load or store it is what the search after it met
pub noted_met : (x : Instr) (s : Thread) {t : ℕ} {p : Tried} {sub : Reached} {apart : Bool} {r : Tried} → plainly x s ≡ none → Noted x t p sub apart r → r.met ≡ sub.met
unfolding plainly
noted_met (Compute how r a b) s halting n = absurd (no_thread_left halting)
noted_met (Load how r a b) s halting n = (n.load how r a b refl).0
noted_met (Store how a d) s halting n = (n.store how a d refl).0
noted_met (Branch k a b) s halting n = absurd (no_thread_left halting)
noted_met (Fence how) s halting n = absurd (no_thread_left halting)

-- ---- the times noted
-- none at first
pub untried : (u : ℕ) → counted_at (replicate 17 3) u ≡ 3
untried u = elim (dec_lt u 17) [ yes l ↦ get_or-replicate 17 u 3 3 l | no l ↦ get_or-eq_default (replicate 17 3) 3 {n = u} (omega (arith, length-replicate {A = ℕ} 17 3)) ]

-- what was noted of a time is what was noted last
noted_at : (counted : List ℕ) (t v u : ℕ) → (counted_at (set counted t v) u ≡ 3 → ⊥) → u ≡ t → counted_at (set counted t v) u ≡ v
noted_at counted t v u tried e = elim (dec_lt t (length counted)) [
  | yes l ↦ ap (counted_at (set counted t v)) e ∙ get_or-set_same counted t v 3 l
  | no l ↦ absurd (tried (get_or-eq_default (set counted t v) 3 {n = u} (let z = length-set counted t v in omega arith)))
]

-- the thread that goes on is where y is, with the same promises
pub resumed_same : (apart : Bool) (y z s : Thread) → (apart ≡ true → z ≡ cohering y s.coherence) × (apart ≡ false → z ≡ y) → (z.position ≡ y.position) × (z.promises ≡ y.promises)
resumed_same true y z s is = (ap (λ (v : Thread). v.position) (is.0 refl), ap (λ (v : Thread). v.promises) (is.0 refl))
resumed_same false y z s is = (ap (λ (v : Thread). v.position) (is.1 refl), ap (λ (v : Thread). v.promises) (is.1 refl))

module _ (c : Code) (i : ℕ) (m : Memory) (s : Thread) (x : Instr) (q : Sought) where
  -- no time was tried yet
  pub knows_none : plainly x s ≡ none → (known : Reached) (p : Tried) → p ≡ record { met = known.met; tries = 0; cares = known.cares; counted = replicate 17 3; apart = true } → Knows c i m s x q p
  knows_none halting known p e = record { halting = halting; failed = λ how r a b is u tried. absurd (tried (ap (λ (z : Tried). counted_at z.counted u) e ∙ untried u)) }

  pub missed_none : (p : Tried) (t : ℕ) → Knows c i m s x q p → Earliest x m s t → Missed c i m s x q p 0 t
  missed_none p t known o =
      record { knows = known; missed = λ u low l s' y rests like e j sought w. let mine = does_too x m s s' known.halting rests.under like u y e in o.before u mine.0 l mine.1 }

  -- on to the next time
  pub missed_on : (p r : Tried) (low t t' : ℕ) → Missed c i m s x q p low t → Went c i m s x q p t r → Following x m s t t' → Missed c i m s x q r low t'
  missed_on p r low t t' h w on =
      record {
        knows = w.knows;
        missed = λ u from l s' y rests like e j sought z. elim (dec_lt u t) [
          | yes before ↦ h.missed u from before s' y (rests_less w.covers rests) (likewise_less w.narrower like) e j (narrows w.better j sought) z
          | no after ↦ elim (dec_lt t u) [
            | yes late ↦ (let mine = does_too x m s s' w.knows.halting rests.under like u y e in on.between u mine.0 late l mine.1)
            | no neither ↦ (let now : u ≡ t = omega arith in w.fails s' y rests like (subst (λ (v : ℕ). execute x m v s' ≡ next y) now e) j sought z)
          ]
        ];
      }

  module _ (p : Tried) (t : ℕ) (known : Knows c i m s x q p) where
    -- the try leaves what is known as it is
    unchanged : Fails c i m s x q p t → Went c i m s x q p t p
    unchanged fails = record { better = same; covers = covers_self p.cares.of; narrower = λ z. z; knows = known; fails = fails }

    -- it cannot be executed at t
    pub went_refused : (u : Result Thread Refusal) → u ≡ ruled (execute x m t s) → {n : Refusal} → u ≡ Err n → Went c i m s x q p t p
    went_refused u e z =
        unchanged (λ s' y rests like d j sought w.
        let mine = does_too x m s s' known.halting rests.under like t y d in
        other (sym (ruled_refused (execute x m t s) u e z) ∙ mine.1))

    -- too few stores are left
    crowded : Trying c m s x → stores_from c s.position < ones s.promises → Went c i m s x q p t p
    crowded w few =
        unchanged (λ s' y rests like d j sought r.
        let at = ap (λ (n : ℕ). stores_from c n) rests.under.same_position in
        let out = ap ones rests.under.same_promises in
        let f = comes_fit (aim_fits c i q.hole j) (by {m = m} {s = s'} x t y (subst (λ (n : ℕ). instr_at c n ≡ some x) rests.under.same_position w.is_next) (effect_time (effect x m t s' y d)) d r) in
        omega arith)

    -- it is in vain
    in_vain : Vain m s x p.counted t → Went c i m s x q p t p
    in_vain v = unchanged vain
      where
        load : (u : ℕ) (s' y : Thread) → execute x m u s' ≡ next y → execute (Load v.mode v.register v.a v.b) m u s' ≡ next y
        load u s' y d = subst (λ (z : Instr). execute z m u s' ≡ next y) v.is_load d

        vain : Fails c i m s x q p t
        vain s' y rests like e j sought w =
            let d = v.doubled in
            let u = d.time in
            let f = known.failed v.mode v.register v.a v.b v.is_load u d.tried in
            let near = like.load v.mode v.register v.a v.b v.is_load in
            let written = subst (λ (k : ℕ). Agrees k (read_value m u) (read_value m t)) (sym f.noted) d.alike in
            let no-time : Vacant m (load_location s v.a v.b) → ⊥ = λ vacant.
            (let now = vacant_zero m v.mode v.register v.a v.b s' (loads_vacant p.apart m s s' v.a v.b near vacant) t y (load t s' y e) in
            let before = d.before in
            omega arith) in
            let same_location : load_location s v.a v.b ≡ load_location s' v.a v.b = ⊎_elim (λ here. here) (λ z. absurd (no-time z.1)) near in
            let does : execute x m u s ≡ next f.after = ⊎_elim (λ here. here) (λ vacant. absurd (no-time vacant)) f.does in
            f.barren y
            (load_rests m v.mode v.register v.a v.b s s' rests.under same_location f.cares (f.among s' rests.agreeing) u t written d.low f.after y (load u s f.after does) (load t s' y e))
            j sought w

    -- nothing can come of it
    pub went_hopeless : Trying c m s x → Hopeless c m s x p.counted t → Went c i m s x q p t p
    went_hopeless w h = ⊎_elim in_vain (crowded w) h

    -- what is known of a time tried before, where no more is sought
    still : (r : Tried) {P : ℕ → Type 0} → Better q.from P p.met r.met → Covers r.cares.of p.cares.of → (j u : ℕ) → counted_at r.counted u ≡ counted_at p.counted u → (a b : Operand) → Failed c i m s x q p j a b u → Failed c i m s x q r j a b u
    still r better covers j u told a b f =
        record {
          after = f.after;
          does = f.does;
          cares = f.cares;
          noted = f.noted ∙ sym told;
          among = λ s' agree. f.among s' (covers.agreeing s s' agree);
          barren = λ v rests k sought z. f.barren v rests k (narrows better k sought) z;
        }

    -- it comes to an empty promise set, which is sought
    pub went_found : (y : Thread) → execute x m t s ≡ next y → (q.hole ≡ 0) × (y.promises ≡ 0) → (now : Met) → Emptied (record { hole = q.hole; from = q.from; met = p.met }) now
        → Went c i m s x q p t (record { met = now; tries = p.tries; cares = p.cares; counted = p.counted; apart = p.apart })
    went_found y does empty now e =
        let better : Better q.from (Through c i m s x t q.hole) p.met now =
        emptied_better (record { hole = q.hole; from = q.from; met = p.met }) now e (y, does, done (inl (empty.0, refl, empty.1))) in
        record {
          better = better;
          covers = covers_self p.cares.of;
          narrower = λ o. o;
          knows = record {
            halting = known.halting;
            failed = λ how r a b is u tried. still (record { met = now; tries = p.tries; cares = p.cares; counted = p.counted; apart = p.apart }) better (covers_self p.cares.of) r u refl a b (known.failed how r a b is u tried);
          };
          fails = λ s' v rests like d j sought z.
              emptied_now (record { hole = q.hole; from = q.from; met = p.met }) now e (subst (Unmet q.from now) (only_zero c i q.hole j m v empty.0 z) sought);
        }

    -- it goes on from y, or from a thread z that comes to no more
    module _ (y : Thread) (does : execute x m t s ≡ next y) (z : Thread) (lifts : (k : ℕ) → Meets c i m z q.hole k → Meets c i m y q.hole k)
        (sub : Reached) (found : Found q.from p.met (λ v k. Meets c i m v q.hole k) z sub) (apart : Bool) where
      goes_on : (r : Tried) → Noted x t p sub apart r → r.met ≡ sub.met → ((s' v : Thread) → Rests r.cares.of s s' → Likewise r.apart x m s s' → execute x m t s' ≡ next v → Rests sub.cares.of z v)
          → (Better q.from (Meets c i m z q.hole) p.met r.met → (how : LoadMode) (j : ℕ) (a b : Operand) → x ≡ Load how j a b → (u : ℕ) → (counted_at r.counted u ≡ 3 → ⊥) → Failed c i m s x q r j a b u) → Went c i m s x q p t r
      goes_on r n e follows failed =
          let better : Better q.from (Meets c i m z q.hole) p.met r.met = subst (Better q.from (Meets c i m z q.hole) p.met) (sym e) found.better in
          record {
            better = better_as (λ k w. (y, does, lifts k w)) better;
            covers = n.covers;
            narrower = n.narrower;
            knows = record { halting = known.halting; failed = failed better };
            fails = λ s' v rests like d j sought w. found.barren v (follows s' v rests like d) j (subst (λ (o : Met). Unmet q.from o j) e sought) w;
          }

      module _ (how : LoadMode) (j : ℕ) (a b : Operand) (is : x ≡ Load how j a b) (r : Tried) (n : Noted x t p sub apart r) where
        told : (r.met ≡ sub.met) × (r.counted ≡ set p.counted t (care_of sub.cares.of j)) × ((v v' : Thread) → Agreeing r.cares.of v v' → AgreeingBut sub.cares.of j v v') × (r.apart ≡ true → apart ≡ true)
        told = n.load how j a b is

        load : (u : ℕ) (s' v : Thread) → execute x m u s' ≡ next v → execute (Load how j a b) m u s' ≡ next v
        load u s' v d = subst (λ (o : Instr). execute o m u s' ≡ next v) is d

        -- a load, by what follows from it in threads that do likewise
        went_by : (execute x m t s ≡ next z) ⊎ Vacant m (load_location s a b) → ((s' v : Thread) → Rests r.cares.of s s' → Likewise r.apart x m s s' → execute x m t s' ≡ next v → Rests sub.cares.of z v) → Went c i m s x q p t r
        went_by came follows = goes_on r n told.0 follows failed
          where
            here : (u : ℕ) → (counted_at r.counted u ≡ 3 → ⊥) → u ≡ t → Failed c i m s x q r j a b u
            here u tried e =
                record {
                  after = z;
                  does = subst (λ (o : ℕ). (execute x m o s ≡ next z) ⊎ Vacant m (load_location s a b)) (sym e) came;
                  cares = sub.cares.of;
                  noted = sym (ap (λ (o : List ℕ). counted_at o u) told.1 ∙ noted_at p.counted t (care_of sub.cares.of j) u (λ o. tried (ap (λ (l : List ℕ). counted_at l u) told.1 ∙ o)) e);
                  among = λ s' agree. told.2 s s' agree;
                  barren = λ v rests k sought o. found.barren v rests k (subst (λ (l : Met). Unmet q.from l k) told.0 sought) o;
                }

            failed : Better q.from (Meets c i m z q.hole) p.met r.met → (how' : LoadMode) (j' : ℕ) (a' b' : Operand) → x ≡ Load how' j' a' b' → (u : ℕ) → (counted_at r.counted u ≡ 3 → ⊥) → Failed c i m s x q r j' a' b' u
            failed better how' j' a' b' is' u tried =
                let one = load_same how how' j j' a a' b b' (sym is ∙ is') in
                elim (ℕ_discrete u t) [
                  | yes e ↦ subst (λ (o : ℕ). Failed c i m s x q r o a' b' u) one.0 (subst₂ (λ (o o' : Operand). Failed c i m s x q r j o o' u) one.1 one.2 (here u tried e))
                  | no e ↦ (let as_before : counted_at r.counted u ≡ counted_at p.counted u = ap (λ (l : List ℕ). counted_at l u) told.1 ∙ get_or-set_other p.counted t u _ 3 e in
                      still r better n.covers j' u as_before a' b' (known.failed how' j' a' b' is' u (λ o. tried (as_before ∙ o))))
                ]

        -- a load that was not apart, from which it goes on as it is
        pub went_load : z ≡ y → (apart ≡ true → ⊥) → Went c i m s x q p t r
        went_load e alone = went_by (inl (does ∙ ap next (sym e))) (λ s' v rests like d.
            let same_location = ⊎_elim (λ (here : load_location s a b ≡ load_location s' a b). here) (λ o. absurd (alone (told.3 o.0))) (like.load how j a b is) in
            load_rests m how j a b s s' rests.under same_location sub.cares.of (told.2 s s' rests.agreeing) t t (cares.same refl) (le_refl _) z v (load t s z (does ∙ ap next (sym e))) (load t s' v d))

        -- one that was, from which it goes on with the coherence views of before
        pub went_idle : z ≡ cohering y s.coherence → t ≡ 0 → Vacant m (load_location s a b) → read_view s (load_location s a b) 0 ≡ 0 → Went c i m s x q p t r
        went_idle e zero vacant unseen = went_by (inr vacant) (λ s' v rests like d.
            subst (λ (o : Thread). Rests sub.cares.of o v) (sym e)
            (idle_rests m how j a b s s' rests.under sub.cares.of (told.2 s s' rests.agreeing) unseen y v (at_zero s y (load t s y does)) (at_zero s' v (load t s' v d))))
          where
            at_zero : (o o' : Thread) → execute (Load how j a b) m t o ≡ next o' → execute (Load how j a b) m 0 o ≡ next o'
            at_zero o o' d = subst (λ (u : ℕ). execute (Load how j a b) m u o ≡ next o') zero d

      pub went_store : z ≡ y → (how : StoreMode) (a d : Operand) → x ≡ Store how a d → (r : Tried) → Noted x t p sub apart r → Went c i m s x q p t r
      went_store e how a d is r n =
          goes_on r n told.0 (λ s' v rests like o.
          store_rests m how a d s s' rests.under (like.store how a d is).place sub.cares.of (told.2 s s' rests.agreeing) t m z v (store s z (does ∙ ap next (sym e))) (store s' v o))
          (λ better how' j' a' b' is' u tried. absurd (load_not_store how' how j' a' a b' d (sym is' ∙ is)))
        where
          told : (r.met ≡ sub.met) × (r.counted ≡ p.counted) × ((v v' : Thread) → Agreeing r.cares.of v v' → Agreeing sub.cares.of v v')
          told = n.store how a d is

          store : (s' v : Thread) → execute x m t s' ≡ next v → execute (Store how a d) m t s' ≡ next v
          store s' v o = subst (λ (w : Instr). execute w m t s' ≡ next v) is o

    -- it goes on as it is
    went_on : (y : Thread) → execute x m t s ≡ next y → (sub : Reached) → Found q.from p.met (λ v k. Meets c i m v q.hole k) y sub → (r : Tried) → Noted x t p sub false r → Went c i m s x q p t r
    unfolding plainly
    went_on y does sub found r n = go x refl
      where
        go : (o : Instr) → x ≡ o → Went c i m s x q p t r
        go (Compute how j a b) e = absurd (no_thread_left (sym (ap (λ (v : Instr). plainly v s) e) ∙ known.halting))
        go (Load how j a b) e = went_load y does y (λ k w. w) sub found false how j a b e r n refl (λ o. subst T (sym o) tt)
        go (Store how a d) e = went_store y does y (λ k w. w) sub found false refl how a d e r n
        go (Branch how a b) e = absurd (no_thread_left (sym (ap (λ (v : Instr). plainly v s) e) ∙ known.halting))
        go (Fence how) e = absurd (no_thread_left (sym (ap (λ (v : Instr). plainly v s) e) ∙ known.halting))

    -- it is idle, and goes on with the coherence views of before
    went_apart : (y : Thread) → execute x m t s ≡ next y → Idles x m s t y q.hole → (z : Thread) → z ≡ cohering y s.coherence → (sub : Reached) → Found q.from p.met (λ v k. Meets c i m v q.hole k) z sub
        → (r : Tried) → Noted x t p sub true r → Went c i m s x q p t r
    went_apart y does o z e sub found r n =
        went_idle y does z lifts sub found true o.mode o.register o.a o.b o.is_load r n e o.at_zero o.vacant o.unseen
      where
        lifts : (k : ℕ) → Meets c i m z q.hole k → Meets c i m y q.hole k
        lifts k w = idle_lifts c i q.hole k x m s t y does o (subst (λ (v : Thread). Meets c i m v q.hole k) e w)

    -- it goes on in one of the two ways
    pub went_resumed : (y : Thread) → execute x m t s ≡ next y → (apart : Bool) → (apart ≡ true → Idles x m s t y q.hole) → (z : Thread) → (apart ≡ true → z ≡ cohering y s.coherence) × (apart ≡ false → z ≡ y)
        → (sub : Reached) → Found q.from p.met (λ v k. Meets c i m v q.hole k) z sub → (r : Tried) → Noted x t p sub apart r → Went c i m s x q p t r
    went_resumed y does true idles z is sub found r n = went_apart y does (idles refl) z (is.0 refl) sub found r n
    went_resumed y does false idles z is sub found r n = went_on y does sub (subst (λ (v : Thread). Found q.from p.met (λ o k. Meets c i m o q.hole k) v sub) (is.1 refl) found) r n

    -- what is met after it, in either way, is met by it
    pub resumed_better : (y : Thread) → execute x m t s ≡ next y → (apart : Bool) → (apart ≡ true → Idles x m s t y q.hole) → (z : Thread) → (apart ≡ true → z ≡ cohering y s.coherence) × (apart ≡ false → z ≡ y)
        → {now : Met} → Better q.from (Meets c i m z q.hole) p.met now → Better q.from (Through c i m s x t q.hole) p.met now
    resumed_better y does true idles z is b = better_as (λ k w. (y, does, idle_lifts c i q.hole k x m s t y does (idles refl) (subst (λ (v : Thread). Meets c i m v q.hole k) (is.0 refl) w))) b
    resumed_better y does false idles z is b = better_as (λ k w. (y, does, subst (λ (v : Thread). Meets c i m v q.hole k) (is.1 refl) w)) b
