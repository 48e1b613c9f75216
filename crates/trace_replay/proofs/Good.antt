-- A trace is replayed to its end exactly if it is the trace of steps that are accepted in turn.
-- Assumes nothing.
use mathlib.Core.Path.{◌≡◌, refl, sym, ap, subst, ◌∙◌}
use mathlib.Core.Logic.{◌↔◌}
use mathlib.Core.Bool.{Bool, true, false, ◌&&◌}
use mathlib.Core.List.{List, [], ◌∷◌, ◌++◌, append-nil}
use Prim.Native.Nat.{ℕ, suc, ◌+◌}
use native.Mathlib.Omega.{arith}
use lib.Dec.{eqb}
use lib.ListN.{length}
use borrow.Author.Tests.{eqb-true, eqb-false}
use Rattle.program.specs.declared.Program.{Program}
use Rattle.program.specs.File.{FileAnswer, program, read_file}
use Rattle.program.specs.declared.Refusal.{Refusal}
use Rattle.machine.specs.declared.Machine.{Machine}
use Rattle.machine.specs.State.{fresh}
use Rattle.step.specs.Step.{Step, Decision, rejected, accepted, step}
use Rattle.step.specs.Outcome.{complete, asked}
use Rattle.trace_record.specs.Trace.{trace_bytes}
use Rattle.trace_replay.specs.Replay.{ended, broken, after_mark, after_step, replay_from}
use Rattle.trace_replay.specs.Answers.{Replayed, replayed, on_program, replay}
use Rattle.trace_replay.specs.InTurn.{InTurn, no_step, a_step, TraceOf}

-- ---- what ends is not broken off
pub not_broken : {n m : ℕ} {c : Refusal} {x y : Machine} → broken c n x ≡ ended m y → ⊥
not_broken {n} {m} {c} {x} {y} e = eqb-false 0 1 refl cc

ended_steps : {n m : ℕ} {x y : Machine} → ended n x ≡ ended m y → n ≡ m
ended_steps {n} {m} {x} {y} e = cc

ended_machine : {n m : ℕ} {x y : Machine} → ended n x ≡ ended m y → x ≡ y
ended_machine {n} {m} {x} {y} e = cc

-- a record with its mark, before a trace
with_mark : {c d k i u v : ℕ} {t t' : List ℕ} → c ≡ 0x53 → d ≡ 0x54 → t ≡ t' → c ∷ d ∷ k ∷ i ∷ u ∷ v ∷ t ≡ 0x53 ∷ 0x54 ∷ k ∷ i ∷ u ∷ v ∷ t'
with_mark {c} {d} {k} {i} {u} {v} {t} {t'} e e' r = rw (e, e', r)

module _ (p : Program) where
  -- ---- steps accepted in turn are replayed, and then what comes after them
  pub through : {x y : Machine} {q : List Step} → InTurn p x q y → (n : ℕ) (rest : List ℕ) → replay_from p n x (trace_bytes q ++ rest) ≡ replay_from p (n + length q) y rest
  unfolding replay_from trace_bytes
  through {x} no_step n rest = let e : n ≡ n + 0 = omega arith in ap (λ (i : ℕ). replay_from p i x rest) e
  through {x} {y} (a_step {q = q} k z e more) n rest =
      ap (after_step (λ w. replay_from p (suc n) w (trace_bytes q ++ rest)) n x) e
      ∙ through more (suc n) rest
      ∙ (let s : suc n + length q ≡ n + suc (length q) = omega arith in ap (λ (i : ℕ). replay_from p i y rest) s)

  good_if : {x y : Machine} {q : List Step} → InTurn p x q y → replay_from p 0 x (trace_bytes q) ≡ ended (length q) y
  unfolding replay_from
  good_if {x} {y} {q} h =
      ap (replay_from p 0 x) (sym (append-nil (trace_bytes q))) ∙ through h 0 []
      ∙ (let s : 0 + length q ≡ length q = omega arith in ap (λ (i : ℕ). ended i y) s)

  -- ---- a replay from n steps on that ends after m
  record Onward (n : ℕ) (x : Machine) (t : List ℕ) (m : ℕ) (y : Machine) : Type 0 where
    further : ℕ
    sum : m ≡ n + further
    trace : TraceOf p x t further y

  good_then : (n : ℕ) (x : Machine) (t : List ℕ) (m : ℕ) (y : Machine) → replay_from p n x t ≡ ended m y → Onward n x t m y
  unfolding replay_from trace_bytes
  good_then n x [] m y h =
      let e = ended_steps h in
      record {
        further = 0;
        sum = omega arith;
        trace = record { steps = []; bytes = refl; count = refl; in_turn = subst (InTurn p x []) (ended_machine h) no_step };
      }
  good_then n x (c ∷ []) m y h = absurd (not_broken h)
  good_then n x (c ∷ d ∷ []) m y h = absurd (not_broken h)
  good_then n x (c ∷ d ∷ k ∷ []) m y h = absurd (not_broken h)
  good_then n x (c ∷ d ∷ k ∷ i ∷ []) m y h = absurd (not_broken h)
  good_then n x (c ∷ d ∷ k ∷ i ∷ u ∷ []) m y h = absurd (not_broken h)
  good_then n x (c ∷ d ∷ k ∷ i ∷ u ∷ v ∷ t) m y h =
      go (eqb c 0x53) refl (eqb d 0x54) refl (step p x s) refl h (λ z. good_then (suc n) z t m y)
    where
      s : Step
      s = record { kind = k; thread = i; a = u; b = v }

      go : (b : Bool) → eqb c 0x53 ≡ b → (b' : Bool) → eqb d 0x54 ≡ b' → (o : Decision) → step p x s ≡ o
          → after_mark (b && b') n x (after_step (λ z. replay_from p (suc n) z t) n x o) ≡ ended m y
          → ((z : Machine) → replay_from p (suc n) z t ≡ ended m y → Onward (suc n) z t m y)
          → Onward n x (c ∷ d ∷ k ∷ i ∷ u ∷ v ∷ t) m y
      go false e b' e' o r h rest = absurd (not_broken h)
      go true e false e' o r h rest = absurd (not_broken h)
      go true e true e' (rejected j) r h rest = absurd (not_broken h)
      go true e true e' (accepted z) r h rest =
          let w = rest z h in
          let total = w.sum in
          let g = w.trace in
          record {
            further = suc w.further;
            sum = omega arith;
            trace = record {
              steps = s ∷ g.steps;
              bytes = with_mark (eqb-true c 0x53 e) (eqb-true d 0x54 e') g.bytes;
              count = ap suc g.count;
              in_turn = a_step s z r g.in_turn;
            };
          }

  -- GOOD TRACES: the replay of t ends after n steps at y, exactly if t is the trace of n steps that, accepted in turn, lead to y
  pub good_iff : (x : Machine) (t : List ℕ) (n : ℕ) (y : Machine) → (replay_from p 0 x t ≡ ended n y) ↔ TraceOf p x t n y
  good_iff x t n y = (there, back)
    where
      there : replay_from p 0 x t ≡ ended n y → TraceOf p x t n y
      there h =
          let w = good_then 0 x t n y h in
          let e = w.sum in
          let g = w.trace in
          let f = g.count in
          record { steps = g.steps; bytes = g.bytes; count = omega arith; in_turn = g.in_turn }

      back : TraceOf p x t n y → replay_from p 0 x t ≡ ended n y
      back g = ap (replay_from p 0 x) g.bytes ∙ good_if g.in_turn ∙ ap (λ (i : ℕ). ended i y) (sym g.count)

-- ---- on the program of a good file, from the fresh machine
module _ (f : List ℕ) (p : Program) (good : read_file f ≡ program p) {q : List Step} {y : Machine} (h : InTurn p fresh q y) where
  -- REPLAYED: the trace of steps accepted in turn is good, with their number and the machine that they lead to
  pub in_turn_replayed : replay f (trace_bytes q) ≡ replayed p (ended (length q) y)
  unfolding replay
  in_turn_replayed = ap (λ (a : FileAnswer). on_program a (trace_bytes q)) good ∙ ap (replayed p) (good_if p h)

  -- and it is complete, and holds, where that machine is and does
  pub in_turn_complete : (replay f (trace_bytes q)).complete ≡ complete p y
  in_turn_complete = ap (λ (r : Replayed). r.complete) in_turn_replayed

  pub in_turn_holds : (replay f (trace_bytes q)).holds ≡ asked p y
  in_turn_holds = ap (λ (r : Replayed). r.holds) in_turn_replayed
