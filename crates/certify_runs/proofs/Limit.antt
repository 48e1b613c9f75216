-- The limit of 16 messages is no limit: a run on a memory with room for every store left that is not promised is a certifying run on 16 places.
-- Assumes nothing.
use mathlib.Core.Path.{◌≡◌, sym, ap, ◌∙◌, subst}
use Prim.Native.Nat.{ℕ, suc, ◌+◌, ◌-◌, ◌≤◌, ◌<◌}
use native.Mathlib.Decide.{dec_lt}
use native.Mathlib.Omega.{arith}
use lib.Count.{ones}
use lib.ListN.{length, length-set}
use Rattle.program.specs.Counts.{stores_from}
use Rattle.program.proofs.Counts.{stores_past, stores_fall}
use Rattle.machine.specs.State.{message_at, append, with, with_promises}
use Rattle.machine.specs.Rules.{add_promise}
use Rattle.machine.proofs.Memories.{message_stays, message_new}
use Rattle.machine.proofs.Effects.{Effect, effect, moves}
use Rattle.certify_runs.specs.Below.{Code, Message, Memory, Thread}
use Rattle.certify_runs.specs.Runs.{done, by, own, Certifying, Unlimited, Roomier}
use Rattle.certify_runs.specs.Inner.{outstanding}
use Rattle.certify_runs.proofs.Fit.{takes, own_effect, own_leaves, own_store_lem, fits}
use Rattle.certify_runs.proofs.Twins.{Twins, carry_all}
use Rattle.certify_runs.proofs.Executes.{executes}

-- the messages of both are twins
all_twins : {m n : Memory} {k : ℕ} → Roomier m n k → Twins 17 m n
all_twins q =
    let count = q.same_count in
    record { same_count = count; at = λ t p l o. let e = q.same_messages t p (omega arith) in (ap (λ (w : Message). w.location) e, ap (λ (w : Message). w.value) e) }

-- a message appended to both takes one of the places
pub roomier_append : {m n : Memory} {k : ℕ} (w : Message) → Roomier m n k → 0 < k → n.count < length n.messages → Roomier (append m w) (append n w) (k - 1)
roomier_append {m} {n} {k} w q more here =
    let count = q.same_count in
    let room = q.room in
    let places = length-set m.messages m.count w in
    record {
      same_count = omega arith;
      same_messages = λ t p l. go t p l (dec_lt n.count t);
      room = omega arith;
    }
  where
    newest : message_at (append m w) (n.count + 1) ≡ w
    newest =
        let room = q.room in
        let count = q.same_count in
        subst (λ (c : ℕ). message_at (append m w) (c + 1) ≡ w) count (message_new m w (omega arith))

    go : (t : ℕ) → 0 < t → t ≤ n.count + 1 → Dec (n.count < t) → message_at (append m w) t ≡ message_at (append n w) t
    go t p l (yes far) =
        let e : n.count + 1 ≡ t = omega arith in
        subst (λ (u : ℕ). message_at (append m w) u ≡ message_at (append n w) u) e (newest ∙ sym (message_new n w here))
    go t p l (no near) =
        let count = q.same_count in
        message_stays m w t p (omega arith) ∙ q.same_messages t p (omega arith) ∙ sym (message_stays n w t p (omega arith))

-- NO LIMIT: the memory n has 16 places, m room for every store left that is not promised; where the messages and those stores are at most 16, what a run without the limit does on m a certifying run does on n
pub unlimited_is_certifying : {c : Code} {i : ℕ} {m n : Memory} {s : Thread} (k : ℕ) → Roomier m n k → stores_from c s.position ≤ k + outstanding s
    → length n.messages ≡ 16 → n.count + stores_from c s.position ≤ 16 + outstanding s → Unlimited c i m s → Certifying c i n s
unlimited_is_certifying k q more places few (done e) = done e
unlimited_is_certifying {c} {i} {m} {n} {s} k q more places few (by x t s' g tl e r) =
    let h = effect x m t s s' e in
    let count = q.same_count in
    let b = takes h in
    let d = stores_past c s.position x g in
    let f = stores_fall c (suc s.position) s'.position (moves h) in
    let fit = fits r in
    by {m = n} x t s' g (omega arith) (executes (carry_all (all_twins q) (omega arith) h)) (unlimited_is_certifying k q (omega arith) places (omega arith) r)
unlimited_is_certifying {c} {i} {m} {n} {s} k q more places few (own x w s' g gw room e r) =
    let h = effect x (append m w) (append m w).count (add_promise (append m w) s) s' e in
    let count = q.same_count in
    let o = own_effect i m w s gw h in
    let b = ap ones (own_leaves o) in
    let one = own_store_lem o in
    let d = stores_past c s.position x g in
    let f = stores_fall c (suc s.position) s'.position (moves h) in
    let fit = fits r in
    let small : n.count < 16 = omega arith in
    let q' = roomier_append w q (omega arith) (omega arith) in
    let h' = carry_all (all_twins q') (omega arith) h in
    own {m = n} x w s' g gw small (executes (subst (λ (o : ℕ). Effect (append n w) (o + 1) (with_promises (with s.promises (o + 1)) s) x s') count h'))
    (unlimited_is_certifying (k - 1) q' (omega arith) (length-set n.messages n.count w ∙ places) (omega arith) r)
