-- Code without loads ahead.
-- Assumes nothing.
use Rattle.std.specs.Prelude.{◌≡◌, ℕ, ◌≤◌}
use Rattle.std.proofs.Math.Option.{some}
use Rattle.program.specs.declared.Code.{Code}
use Rattle.program.specs.declared.Operand.{Operand}
use Rattle.program.specs.declared.LoadMode.{LoadMode}
use Rattle.program.specs.declared.Instr.TheVariants.{Load}
use Rattle.program.specs.Program.{instr_at}

-- LOADLESS: no load stands at position n or after it
abbrev pub Loadless : Code → ℕ → Type 0
Loadless c n = (k : ℕ) → n ≤ k → (how : LoadMode) (r : ℕ) (a b : Operand) → instr_at c k ≡ some (Load how r a b) → ⊥
