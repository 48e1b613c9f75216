-- Going through instructions that have one way to go on by position, registers and views, and the way back.
-- Assumes nothing.
use Rattle.std.proofs.Common.{◌≡◌, ℕ, suc, ◌+◌, ◌-◌, ◌%◌, ◌<◌, ◌≤◌, max, Bool, true, false, not, ◌||◌, eqb, ◌⊎◌, List, length, get_or, set, sym, refl, ap, ◌∙◌, subst, inl, inr, arith, length-set, get_or-set_other, get_or-set_same, lt-ltb, eq-eqb, ne_eqb, Option, None, Some}
use mathlib.Core.Option.{none, some, some-injective}
use native.Mathlib.Decide.{ℕ_discrete}
use lib.ListN.{get_or-eq_default}
use lib.Seq.{set_out}
use borrow.Author.Tests.{eqb-false}
use Rattle.program.specs.declared.Instruction.{Instruction}
use Rattle.program.specs.Program.{operand, compute_mode, fence_mode, decode, instruction_at, instr_at}
use Rattle.program.proofs.Counts.{there}
use Rattle.program.specs.Inner.{CodeOk}
use Rattle.machine.specs.State.{fresh_register, raise_cap}
use Rattle.machine.specs.Rules.{value_of, view_of, combine, compute_done, branch_by, branch_done, fence_views, fence_done}
use Rattle.certify_runs.specs.Below.{Code, OfRegister, Instr, Compute, Branch, Fence, Register, Views, Thread}
use Rattle.certify_cares.specs.Cares.{Agrees, care_of, Agreeing, AgreeingBut, first_of, second_of, no_step, Tells}
use Rattle.certify_under.specs.Threads.{standing}
use Rattle.certify_straight.specs.Straight.{Step, Fork, result_of, step_over, passed_at, plainly, Halts, Walked, start, further, Ended}
use Rattle.certify_straight.proofs.Plain.{no_thread, plain_compute, plain_branch, plain_fence, op_halts}
use Rattle.certify_straight.proofs.Backwards.{Backwards, back_none, back_compute, back_branch, back_fence}

-- ---- operands as their two bytes
module _ (s : Thread) (k n : ℕ) where
  pub held_constant : k ≡ 0 → (n ≡ value_of s (operand k n)) × (0 ≡ view_of s (operand k n))
  unfolding operand
  held_constant e = rw e (refl, refl)

  is_register_lem : (k ≡ 0 → ⊥) → operand k n ≡ OfRegister n
  unfolding operand
  is_register_lem d = rw (ne_eqb k 0 d)

  pub held_register : (k ≡ 0 → ⊥) → n < 8 → (r : Register) → r ≡ get_or s.registers (n % 8) fresh_register → (r.value ≡ value_of s (operand k n)) × (r.view ≡ view_of s (operand k n))
  held_register d l r e =
      let h : n % 8 ≡ n = omega arith in
      let g : r ≡ get_or s.registers n fresh_register = e ∙ ap (λ (j : ℕ). get_or s.registers j fresh_register) h in
      rw (is_register_lem d) (ap (λ (x : Register). x.value) g, ap (λ (x : Register). x.view) g)

  pub held_past : (k ≡ 0 → ⊥) → length s.registers ≤ n → (0 ≡ value_of s (operand k n)) × (0 ≡ view_of s (operand k n))
  held_past d l =
      let g = sym (get_or-eq_default s.registers fresh_register {n = n} l) in
      rw (is_register_lem d) (ap (λ (x : Register). x.value) g, ap (λ (x : Register). x.view) g)

-- ---- the op byte
module _ (i : Instruction) where
  pub op_compute : i.op ≡ 0 → decode i ≡ Compute (compute_mode i.m) i.r (first_of i) (second_of i)
  unfolding decode
  op_compute e = rw e refl

  pub op_branch : i.op ≡ 3 → decode i ≡ Branch i.m (first_of i) (second_of i)
  unfolding decode
  op_branch e = rw e refl

  pub op_fence : (i.op ≡ 0 → ⊥) → (i.op ≡ 1 → ⊥) → (i.op ≡ 2 → ⊥) → (i.op ≡ 3 → ⊥) → decode i ≡ Fence (fence_mode i.m)
  unfolding decode
  op_fence a b c d = rw (ne_eqb i.op 0 a, ne_eqb i.op 1 b, ne_eqb i.op 2 c, ne_eqb i.op 3 d) refl

  -- a plain instruction that is neither a compute nor a branch is a fence
  pub op_plain : (y y' : Thread) → plainly (decode i) y ≡ some y' → (i.op ≡ 0 → ⊥) → (i.op ≡ 3 → ⊥) → decode i ≡ Fence (fence_mode i.m)
  unfolding decode
  op_plain y y' e a d = op_fence a (λ h. no_thread (sym (op_halts i y i.op (inl h)) ∙ e)) (λ h. no_thread (sym (op_halts i y i.op (inr h)) ∙ e)) d

  -- a byte that is none of the four is a fence's
  pub op_rest : (eqb i.op 1 || eqb i.op 2) ≡ false → (i.op ≡ 0 → ⊥) → (i.op ≡ 3 → ⊥) → decode i ≡ Fence (fence_mode i.m)
  op_rest h a d = op_fence a (λ e. go (eqb i.op 1) (eqb i.op 2) (inl (eq-eqb i.op 1 e)) h) (λ e. go (eqb i.op 1) (eqb i.op 2) (inr (eq-eqb i.op 2 e)) h) d
    where
      go : (p q : Bool) → (p ≡ true) ⊎ (q ≡ true) → (p || q) ≡ false → ⊥
      go p q (inl e) h = eqb-false 0 1 refl cc
      go true q (inr e) h = eqb-false 0 1 refl cc
      go false q (inr e) h = eqb-false 0 1 refl cc

module _ (c : Code) (n : ℕ) (l : n < c.count) where
  instr_is : instr_at c n ≡ some (decode (instruction_at c n))
  unfolding instr_at
  instr_is = rw (lt-ltb n c.count l) refl

  -- a branch lands in the code or at its end
  branch_lands : CodeOk c → (instruction_at c n).op ≡ 3 → n + suc (instruction_at c n).m ≤ c.count
  branch_lands o e = o.lands n (instruction_at c n).m (first_of (instruction_at c n)) (second_of (instruction_at c n)) (instr_is ∙ ap some (op_branch (instruction_at c n) e))

  -- any other than a load or store goes on
  pub goes_op : (s : Thread) → s.position ≡ n → (eqb (instruction_at c n).op 1 || eqb (instruction_at c n).op 2) ≡ false → Halts c s → ⊥
  goes_op s at plain h = elim (ℕ_discrete i.op 0) [
    | yes e ↦ no_thread (sym stuck ∙ plain_compute (decode i) s _ (op_compute i e) refl)
    | no d ↦ elim (ℕ_discrete i.op 3) [
      | yes e ↦ no_thread (sym stuck ∙ plain_branch (decode i) s _ (op_branch i e) refl)
      | no d' ↦ no_thread (sym stuck ∙ plain_fence (decode i) s _ (op_rest i plain d d') refl)
    ]
  ]
    where
      i : Instruction
      i = instruction_at c n

      stuck : plainly (decode i) s ≡ none
      stuck = h (decode i) (ap (instr_at c) at ∙ instr_is)

-- ---- on the way
-- by j instructions s has come to position n, with these registers and views
pub record On (c : Code) (s : Thread) (registers : List Register) (n : ℕ) (views : Views) (steps : List Step) (j : ℕ) : Type 0 where
  pub far : j ≤ n
  pub few : j ≤ 16
  pub steps_long : length steps ≡ 16
  pub registers_long : length registers ≡ 8
  pub walked : Walked c s steps j (standing s registers n views)

-- a step that is put in later does not count
kept_steps : {c : Code} {s : Thread} {steps : List Step} (j : ℕ) (e : Step) {k : ℕ} {y : Thread} → k ≤ j → Walked c s steps k y → Walked c s (set steps j e) k y
kept_steps j e l start = start
kept_steps {c} {s} {steps} j e l (further {j = k} {y = y} x w g p i t) =
    let same : passed_at (set steps j e) k ≡ passed_at steps k = get_or-set_other steps j k e no_step (λ h. omega arith) in
    further x (kept_steps j e (omega arith) w) g p (ap (λ (v : Step). v.instruction) same ∙ i) (subst (λ (v : Step). Tells v y) (sym same) t)

-- the thread there, and how the way ends
on_ended : {c : Code} {s : Thread} {registers : List Register} {n : ℕ} {views : Views} {steps : List Step} {j : ℕ} → On c s registers n views steps j → (y : Thread) → y ≡ standing s registers n views
    → (f : Option Fork) → Ended c s steps j (standing s registers n views) f → Ended c s steps j y f × (Walked c s steps j y × (j ≤ 16))
on_ended {c} {s} {steps = steps} {j = j} on y is f ended =
    (subst (λ (z : Thread). Ended c s steps j z f) (sym is) ended, (subst (Walked c s steps j) (sym is) on.walked, on.few))

-- one more instruction
module _ {c : Code} {s : Thread} {registers : List Register} {n : ℕ} {views : Views} {steps : List Step} {j : ℕ} (o : On c s registers n views steps j) (l : n < c.count) (short : c.count ≤ 16) (e : Step)
    (is : e.instruction ≡ instruction_at c n) (told : Tells e (standing s registers n views)) (registers' : List Register) (n' : ℕ) (views' : Views) (further-on : n < n') (long : length registers' ≡ 8)
    (moved : plainly (decode e.instruction) (standing s registers n views) ≡ some (standing s registers' n' views')) where
  instr_there : instr_at c n ≡ some (decode e.instruction)
  instr_there = instr_is c n l ∙ ap (λ (i : Instruction). some (decode i)) (sym is)

  one_more : Walked c s (set steps j e) (suc j) (standing s registers' n' views')
  one_more =
      let here : passed_at (set steps j e) j ≡ e = (let f = o.far in let h = o.steps_long in get_or-set_same steps j e no_step (omega arith)) in
      further (decode e.instruction) (kept_steps j e (omega arith) o.walked) instr_there moved (ap (λ (v : Step). v.instruction) here ∙ is)
      (subst (λ (v : Step). Tells v (standing s registers n views)) (sym here) told)

  on_more : On c s registers' n' views' (set steps j e) (j + 1)
  on_more =
      let f = o.far in
      let h : suc j ≡ j + 1 = omega arith in
      record {
        far = omega arith;
        few = omega arith;
        steps_long = length-set steps j e ∙ o.steps_long;
        registers_long = long;
        walked = subst (λ (k : ℕ). Walked c s (set steps j e) k (standing s registers' n' views')) h one_more;
      }

-- a branch moves on by its instructions and 1 on one way, by 1 on the other
other_by : (t : Bool) (m : ℕ) → m + 2 - branch_by t m ≡ branch_by (not t) m
other_by true m = omega arith
other_by false m = omega arith

-- ---- one turn of the loop: the instruction at n, its operands a and b, and the step that tells of it
pub record Turn (c : Code) (s : Thread) (registers : List Register) (n : ℕ) (views : Views) (steps : List Step) (j : ℕ) (a b : Register) (step : Step) : Type 0 where
  pub tells : step ≡ step_over (instruction_at c n) a b
  pub on : On c s registers n views steps j
  pub inside : n < c.count
  pub short : c.count ≤ 16
  pub first_found : (y : Thread) → length y.registers ≡ 8 → get_or registers ((instruction_at c n).n1 % 8) fresh_register ≡ get_or y.registers ((instruction_at c n).n1 % 8) fresh_register
      → (a.value ≡ value_of y (first_of (instruction_at c n))) × (a.view ≡ view_of y (first_of (instruction_at c n)))
  pub second_found : (y : Thread) → length y.registers ≡ 8 → get_or registers ((instruction_at c n).n2 % 8) fresh_register ≡ get_or y.registers ((instruction_at c n).n2 % 8) fresh_register
      → (b.value ≡ value_of y (second_of (instruction_at c n))) × (b.view ≡ view_of y (second_of (instruction_at c n)))

pub a_turn : {c : Code} {s : Thread} {registers : List Register} {n : ℕ} {views : Views} {steps : List Step} {j : ℕ} (a b : Register) {step : Step}
    → On c s registers n views steps j → step ≡ step_over (instruction_at c n) a b → n < c.count → c.count ≤ 16
    → ((y : Thread) → length y.registers ≡ 8 → get_or registers ((instruction_at c n).n1 % 8) fresh_register ≡ get_or y.registers ((instruction_at c n).n1 % 8) fresh_register
    → (a.value ≡ value_of y (first_of (instruction_at c n))) × (a.view ≡ view_of y (first_of (instruction_at c n))))
    → ((y : Thread) → length y.registers ≡ 8 → get_or registers ((instruction_at c n).n2 % 8) fresh_register ≡ get_or y.registers ((instruction_at c n).n2 % 8) fresh_register
    → (b.value ≡ value_of y (second_of (instruction_at c n))) × (b.view ≡ view_of y (second_of (instruction_at c n))))
    → Turn c s registers n views steps j a b step
a_turn a b o t i h f g = record { tells = t; on = o; inside = i; short = h; first_found = f; second_found = g }

module _ {c : Code} {s : Thread} {registers : List Register} {n : ℕ} {views : Views} {steps : List Step} {j : ℕ} {a b : Register} {step : Step} (u : Turn c s registers n views steps j a b step) where
  abbrev here : Instruction
  here = instruction_at c n

  abbrev now : Thread
  now = standing s registers n views

  first : (a.value ≡ value_of now (first_of here)) × (a.view ≡ view_of now (first_of here))
  first = u.first_found now u.on.registers_long refl

  second : (b.value ≡ value_of now (second_of here)) × (b.view ≡ view_of now (second_of here))
  second = u.second_found now u.on.registers_long refl

  turned : (registers' : List Register) (n' : ℕ) (views' : Views) → n < n' → length registers' ≡ 8 → plainly (decode here) now ≡ some (standing s registers' n' views')
      → On c s registers' n' views' (set steps j step) (j + 1)
  turned registers' n' views' l long moved =
      subst (λ (e : Step). On c s registers' n' views' (set steps j e) (j + 1)) (sym u.tells)
      (on_more u.on u.inside u.short (step_over here a b) refl (record { first_held = first.0; second_held = second.0 }) registers' n' views' l long moved)

  pub turn_compute : here.op ≡ 0 → (v : Register) → v ≡ result_of here.m a b → On c s (set registers here.r v) (n + 1) views (set steps j step) (j + 1)
  turn_compute e v h =
      turned (set registers here.r v) (n + 1) views (omega arith) (length-set registers here.r v ∙ u.on.registers_long)
      (plain_compute (decode here) now (standing s (set registers here.r v) (n + 1) views) (op_compute here e) (rw (h, first.0, first.1, second.0, second.1) refl))

  -- a register past the eight is not written
  pub turn_past : here.op ≡ 0 → 8 ≤ here.r → On c s registers (n + 1) views (set steps j step) (j + 1)
  turn_past e l =
      let v = result_of here.m a b in
      let h = u.on.registers_long in
      subst (λ (g : List Register). On c s g (n + 1) views (set steps j step) (j + 1)) (set_out registers here.r v (omega arith)) (turn_compute e v refl)

  -- a branch leads no further than 16
  pub turn_lands : CodeOk c → here.op ≡ 3 → n + suc here.m ≤ 16
  turn_lands o e = let h = branch_lands c n u.inside o e in let s = u.short in omega arith

  module _ (e : here.op ≡ 3) (m : ℕ) (z : 0 < m) (h : m ≡ branch_by (eqb a.value b.value) here.m) (w : Views) (q : w ≡ raise_cap (max a.view b.view) views) where
    -- what it leaves
    branched : standing s registers (n + m) w ≡ branch_done here.m (first_of here) (second_of here) now
    branched = rw (q, h, first.0, first.1, second.0, second.1) refl

    pub turn_branch : On c s registers (n + m) w (set steps j step) (j + 1)
    turn_branch = turned registers (n + m) w (omega arith) u.on.registers_long (plain_branch (decode here) now (standing s registers (n + m) w) (op_branch here e) branched)

    -- the way ends after it, and the other way is told
    pub turn_fork : m ≤ here.m + 1 → (y : Thread) → y ≡ standing s registers (n + m) w → (f : Fork) → f.other ≡ n + (here.m + 2 - m)
        → Ended c s (set steps j step) (j + 1) y (Some f) × (Walked c s (set steps j step) (j + 1) y × (j + 1 ≤ 16))
    turn_fork l y is f leads-to =
        let one_less : j ≡ j + 1 - 1 = omega arith in
        on_ended turn_branch y is (Some f)
        (record {
          some_step = omega arith;
          before = now;
          walked = subst (λ (k : ℕ). Walked c s (set steps j step) k now) one_less (kept_steps j step (omega arith) u.on.walked);
          over = here.m;
          a = first_of here;
          b = second_of here;
          is_next = instr_is c n u.inside ∙ ap some (op_branch here e);
          after = branched;
          other_way = rw (leads-to, h, first.0, second.0) (ap (λ (k : ℕ). n + k) (other_by (eqb (value_of now (first_of here)) (value_of now (second_of here))) here.m));
        })

  pub turn_fence : decode here ≡ Fence (fence_mode here.m) → (w : Views) → w ≡ fence_views (fence_mode here.m) views → On c s registers (n + 1) w (set steps j step) (j + 1)
  turn_fence e w q = turned registers (n + 1) w (omega arith) u.on.registers_long (plain_fence (decode here) now (standing s registers (n + 1) w) e (rw q refl))

-- ---- the ends of the way
pub on_start : (c : Code) (s : Thread) (steps : List Step) → length steps ≡ 16 → length s.registers ≡ 8 → On c s s.registers s.position s.views steps 0
on_start c s steps l h = record { far = omega arith; few = omega arith; steps_long = l; registers_long = h; walked = start }

pub on_gone : {c : Code} {s : Thread} {registers : List Register} {n : ℕ} {views : Views} {steps : List Step} {j : ℕ} → On c s registers n views steps j → (y : Thread) → y ≡ standing s registers n views
    → Halts c (standing s registers n views) → Ended c s steps j y None × (Walked c s steps j y × (j ≤ 16))
on_gone o y is halted = on_ended o y is None halted

-- ---- the way back
-- one step back from z: the thread before the last of the steps, and the cares there
pub record Back (c : Code) (s z : Thread) (steps : List Step) (j : ℕ) (k cares : List ℕ) : Type 0 where
  pub from : Thread
  pub came : Walked c s steps j from
  pub backwards : Backwards c from z k cares

module _ (c : Code) (s z : Thread) (steps : List Step) (j : ℕ) (k q r : List ℕ) where
  back_step : ((y y' : Thread) → plainly (decode (passed_at steps j).instruction) y ≡ some y' → Tells (passed_at steps j) y → instr_at c y.position ≡ some (decode (passed_at steps j).instruction) → Backwards c y' z k q → Backwards c y z k r)
      → Back c s z steps (suc j) k q → Back c s z steps j k r
  back_step by b = go b.came b.backwards
    where
      go : {v : Thread} → Walked c s steps (suc j) v → Backwards c v z k q → Back c s z steps j k r
      go (further {y = y} {y' = y'} x w g p i t) rec =
          let is : x ≡ decode (passed_at steps j).instruction = sym (there c y.position x g).1 ∙ ap decode (sym i) in
          record { from = y; came = w; backwards = by y y' (subst (λ (v : Instr). plainly v y ≡ some y') is p) t (g ∙ ap some is) rec }

module _ (steps : List Step) (n : ℕ) (q r : List ℕ) (l : 0 < n) where
  abbrev last : Step
  last = passed_at steps (n - 1)

  -- for any code and threads
  abbrev pub BackOne : Type 0
  BackOne = (c : Code) (s z : Thread) (k : List ℕ) → Back c s z steps n k q → Back c s z steps (n - 1) k r

  one_back : ((c : Code) (z : Thread) (k : List ℕ) (y y' : Thread) → plainly (decode last.instruction) y ≡ some y' → Tells last y → instr_at c y.position ≡ some (decode last.instruction) → Backwards c y' z k q → Backwards c y z k r) → BackOne
  one_back by c s z k b =
      let e : n ≡ suc (n - 1) = omega arith in
      back_step c s z steps (n - 1) k q r (by c z k) (subst (λ (m : ℕ). Back c s z steps m k q) e b)

  pub one_compute_back : last.instruction.op ≡ 0
      → ((s s' : Thread) → Tells last s → Agreeing r s s' → AgreeingBut q last.instruction.r s s'
      × Agrees (care_of q last.instruction.r) (combine (compute_mode last.instruction.m) (value_of s (first_of last.instruction)) (value_of s (second_of last.instruction))) (combine (compute_mode last.instruction.m) (value_of s' (first_of last.instruction)) (value_of s' (second_of last.instruction))))
      → BackOne
  one_compute_back e cares = one_back (λ c z k y y' p t g rec.
      let i = last.instruction in
      let is = op_compute i e in
      let w = compute_done (compute_mode i.m) i.r (first_of i) (second_of i) y in
      back_compute c y z k (decode i) g y' q rec r (compute_mode i.m) i.r (first_of i) (second_of i) is (some-injective y' w (sym p ∙ plain_compute (decode i) y w is refl)) (λ s'. cares y s' t))

  pub one_branch_back : last.instruction.op ≡ 3
      → ((s s' : Thread) → Tells last s → Agreeing r s s' → Agreeing q s s'
      × (branch_by (eqb (value_of s (first_of last.instruction)) (value_of s (second_of last.instruction))) last.instruction.m ≡ branch_by (eqb (value_of s' (first_of last.instruction)) (value_of s' (second_of last.instruction))) last.instruction.m))
      → BackOne
  one_branch_back e cares = one_back (λ c z k y y' p t g rec.
      let i = last.instruction in
      let is = op_branch i e in
      let w = branch_done i.m (first_of i) (second_of i) y in
      back_branch c y z k (decode i) g y' q rec r i.m (first_of i) (second_of i) is (some-injective y' w (sym p ∙ plain_branch (decode i) y w is refl)) (λ s'. cares y s' t))

  pub one_fence_back : (last.instruction.op ≡ 0 → ⊥) → (last.instruction.op ≡ 3 → ⊥) → r ≡ q → BackOne
  one_fence_back a d same = one_back (λ c z k y y' p t g rec.
      let i = last.instruction in
      let is = op_plain i y y' p a d in
      let w = fence_done (fence_mode i.m) y in
      back_fence c y z k (decode i) g y' q rec r (fence_mode i.m) is (some-injective y' w (sym p ∙ plain_fence (decode i) y w is refl)) same)

-- where it starts, and where it ends
pub back_start : (c : Code) (s z : Thread) (steps : List Step) (n : ℕ) (k : List ℕ) → Walked c s steps n z → Back c s z steps n k k
back_start c s z steps n k w = record { from = z; came = w; backwards = back_none c z k }

pub back_end : (c : Code) (s z : Thread) (steps : List Step) (n : ℕ) (k r : List ℕ) → n ≡ 0 → Back c s z steps n k r → Backwards c s z k r
back_end c s z steps n k r e b = go e b.came b.backwards
  where
    go : {m : ℕ} {y : Thread} → m ≡ 0 → Walked c s steps m y → Backwards c y z k r → Backwards c s z k r
    go e start w = w
    go e (further x w g p i t) rec = absurd (omega arith)
