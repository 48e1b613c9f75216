-- A failure after a blind load tells of every load, if what is read does not count.
-- Assumes nothing.
use mathlib.Core.Path.{◌≡◌, sym, ap, subst, ◌∙◌}
use mathlib.Core.Logic.{inl, inr}
use mathlib.Core.Option.{some, some-injective}
use Prim.Native.Nat.{ℕ}
use Rattle.program.specs.Program.{instr_at}
use Rattle.machine.specs.Rules.{next, execute}
use Rattle.certify_runs.specs.Below.{Code, Operand, LoadMode, Instr, Load, Message, Memory, Thread}
use Rattle.certify_runs.specs.Certify.{message_of}
use Rattle.certify_runs.specs.Runs.{done, by, own}
use Rattle.certify_runs.proofs.Fit.{no_message_lem}
use Rattle.certify_under.specs.Under.{Rests}
use Rattle.certify_sought.specs.declared.Met.{Met}
use Rattle.certify_sought.specs.declared.Sought.{Sought}
use Rattle.certify_sought.specs.Numbers.{Unmet, Better, same}
use Rattle.certify_sought.specs.Aim.{Meets}
use Rattle.certify_tried.specs.Blind.{unread, Told}
use Rattle.certify_tried.specs.declared.Reached.{Reached}
use Rattle.certify_tried.proofs.Unread.{unread_rests}
use Rattle.certify.specs.Search.{Found, Unkept}

-- a load that fails whatever it reads
pub blind_found : (c : Code) (i : ℕ) (m : Memory) (s : Thread) (x : Instr) → instr_at c s.position ≡ some x → (q : Sought) → Unkept s x q
    → (k : LoadMode) (r : ℕ) (a b : Operand) → x ≡ Load k r a b → (y : Thread) → y ≡ unread k r a b m s
    → (t : Reached) → Found q.from q.met (λ v j. Meets c i m v q.hole j) y t → (f : Reached) → Told r t q.met f
    → Found q.from q.met (λ v j. Meets c i m v q.hole j) s f
blind_found c i m s x is_next q unkept k r a b is y is-unread t found f told =
    record { better = subst (Better q.from (λ j. Meets c i m s q.hole j) q.met) (sym told.as_before) same; barren = barren }
  where
    same_next : (s' : Thread) → Rests f.cares.of s s' → (z : Instr) → instr_at c s'.position ≡ some z → z ≡ Load k r a b
    same_next s' rests z g = sym (some-injective x z (sym is_next ∙ ap (instr_at c) rests.under.same_position ∙ g)) ∙ is

    silent : (s' : Thread) (z : Instr) (w : Message) → z ≡ Load k r a b → message_of i s' z ≡ some w → ⊥
    silent s' z w e g = no_message_lem (sym (ap (message_of i s') e) ∙ g)

    barren : (s' : Thread) → Rests f.cares.of s s' → (j : ℕ) → Unmet q.from f.met j → Meets c i m s' q.hole j → ⊥
    barren s' rests j u (done (inl z)) = unkept.outstanding z.0 (rests.under.same_promises ∙ z.2)
    barren s' rests j u (done (inr (z, g, h))) = silent s' z h.message (same_next s' rests z g) h.is_own
    barren s' rests j u (own z w v g gw few e run) = silent s' z w (same_next s' rests z g) gw
    barren s' rests j u (by z v y' g tl e run) =
        let does = subst (λ (o : Instr). execute o m v s' ≡ next y') (same_next s' rests z g) e in
        let left = unread_rests m k r a b s s' rests.under t.cares.of (told.others s s' rests.agreeing) told.uncounted v y' does in
        found.barren y' (subst (λ (o : Thread). Rests t.cares.of o y') (sym is-unread) left) j (subst (λ (o : Met). Unmet q.from o j) (told.as_before ∙ sym told.none_new) u) run
