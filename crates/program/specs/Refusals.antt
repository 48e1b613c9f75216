-- The refusals, and the number of each.
-- Assumes nothing.
use Rattle.std.specs.Prelude.{ℕ}
pub use Rattle.program.specs.declared.Refusal.{Refusal}
pub use Rattle.program.specs.declared.Refusal.TheVariants.{InputEnds, OtherMark, OtherVersion, ThreadCount, InstructionCount, InstructionByte, StoreCount, ConditionByte, BytesFollow, ThreadNumber, NotWellFormed, NoThread, StepKind, NoLocation, MemoryFull, AtEnd, NoMessage, NewerMessage, ViewNotBelow, NotCertified, ShortArea, ManyOutcomes}
pub use Rattle.program.specs.declared.Refused.{Refused}

abbrev pub number : Refusal → ℕ
-- ---- of a program file or a trace file
-- the input ends before or inside a record that is needed
number InputEnds = 1
-- a record begins with another mark than the one due here
number OtherMark = 2
-- the version is not 1
number OtherVersion = 3
-- the number of threads is not 1 to 4
number ThreadCount = 4
-- a thread has more than 16 instructions
number InstructionCount = 5
-- a byte of an instruction is out of range, or is not 0 though it is not used
number InstructionByte = 6
-- a 17th store
number StoreCount = 7
-- the number of conditions is above 8, or a byte of a condition is out of range
number ConditionByte = 8
-- bytes follow the last condition
number BytesFollow = 9
-- the thread's number is not the next one
number ThreadNumber = 10
-- ---- of a step or a certification
-- program or machine is not well formed
number NotWellFormed = 20
-- there is no such thread
number NoThread = 21
-- the kind of the step is above 1, or b is not 0 in an execution
number StepKind = 22
-- the promised location is above 15
number NoLocation = 23
-- 16 messages stand in memory already
number MemoryFull = 24
-- the thread is at its end
number AtEnd = 25
-- a load finds no message to its location at that time, a store has not promised its message for it, nothing else executes after time 0
number NoMessage = 26
-- a load would pass over a newer message to its location that the thread must see
number NewerMessage = 27
-- a view that the store has to come after is not below its time
number ViewNotBelow = 28
-- alone, the thread could not keep its promises after the step
number NotCertified = 29
-- ---- of a search or a listing
-- the lent trace area is shorter than 480 bytes
number ShortArea = 30
-- there are more outcomes than the lent table has entries
number ManyOutcomes = 40
