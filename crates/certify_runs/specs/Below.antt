-- The types of the crates below, named once for the rooms of certification.
-- Assumes nothing.
pub use Rattle.program.specs.declared.Code.{Code}
pub use Rattle.program.specs.declared.Program.{Program}
pub use Rattle.program.specs.declared.Operand.{Operand}
pub use Rattle.program.specs.declared.Operand.TheVariants.{Constant, OfRegister}
pub use Rattle.program.specs.declared.ComputeMode.{ComputeMode}
pub use Rattle.program.specs.declared.LoadMode.{LoadMode}
pub use Rattle.program.specs.declared.StoreMode.{StoreMode}
pub use Rattle.program.specs.declared.FenceMode.{FenceMode}
pub use Rattle.program.specs.declared.Instr.{Instr}
pub use Rattle.program.specs.declared.Instr.TheVariants.{Compute, Load, Store, Branch, Fence}
pub use Rattle.machine.specs.declared.Message.{Message}
pub use Rattle.machine.specs.declared.Memory.{Memory}
pub use Rattle.machine.specs.declared.Register.{Register}
pub use Rattle.machine.specs.declared.Forward.{Forward}
pub use Rattle.machine.specs.declared.Views.{Views}
pub use Rattle.machine.specs.declared.Thread.{Thread}
pub use Rattle.machine.specs.declared.Machine.{Machine}
