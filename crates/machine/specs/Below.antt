-- The types of the crates below, named once for this crate.
-- Assumes nothing.
pub use Rattle.program.specs.declared.Code.{Code}
pub use Rattle.program.specs.declared.Program.{Program}
pub use Rattle.program.specs.declared.Operand.{Operand}
pub use Rattle.program.specs.declared.Operand.TheVariants.{Constant, OfRegister}
pub use Rattle.program.specs.declared.ComputeMode.{ComputeMode}
pub use Rattle.program.specs.declared.ComputeMode.TheVariants.{Add, Subtract, ExclusiveOr, Equal}
pub use Rattle.program.specs.declared.LoadMode.{LoadMode}
pub use Rattle.program.specs.declared.LoadMode.TheVariants.{PlainLoad, Acquire, WeakAcquire}
pub use Rattle.program.specs.declared.StoreMode.{StoreMode}
pub use Rattle.program.specs.declared.StoreMode.TheVariants.{PlainStore, Release}
pub use Rattle.program.specs.declared.FenceMode.{FenceMode}
pub use Rattle.program.specs.declared.FenceMode.TheVariants.{DmbSy, DmbLd, DmbSt, Isb}
pub use Rattle.program.specs.declared.Instr.{Instr}
pub use Rattle.program.specs.declared.Instr.TheVariants.{Compute, Load, Store, Branch, Fence}
