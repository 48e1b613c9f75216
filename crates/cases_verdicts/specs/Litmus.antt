-- Litmus tests with known verdicts, with the place of the sequence that shows an outcome, or the number of all sequences. Locations x = 0, y = 1, z = 2.
-- Assumes nothing.
use Rattle.std.specs.Prelude.{List, [], ◌∷◌, ◌++◌}
use Rattle.program.specs.declared.Instruction.{Instruction}
use Rattle.program.specs.declared.Condition.{Condition}
use Rattle.step.specs.Step.{Step}
use Rattle.step.specs.Order.{execution, promise}
use Rattle.theory_sequences.specs.Answer.{allowed, forbidden}
use Rattle.cases_verdicts.specs.Written.{con, reg, add, xor, load, load_acquire, load_weak_acquire, store, store_release, control, dmb_sy, dmb_st, isb, register_is, location_is, program}
use Rattle.cases_verdicts.specs.Cases.{Case, case}

-- ---- store buffering: each thread stores to its own location and reads 0 from the other's
abbrev both_zero : List Condition
both_zero = register_is 0 0 0 ∷ register_is 1 0 0 ∷ []

-- release stores and acquire loads
abbrev pub sb_rel_acq : Case
sb_rel_acq = case (program ((store_release (con 0) (con 1) ∷ load_acquire 0 (con 1) ∷ []) ∷ (store_release (con 1) (con 1) ∷ load_acquire 0 (con 0) ∷ []) ∷ []) both_zero) 101 (forbidden 101)

-- release stores and weak acquire loads
abbrev pub sb_rel_weak : Case
sb_rel_weak =
    case (program ((store_release (con 0) (con 1) ∷ load_weak_acquire 0 (con 1) ∷ []) ∷ (store_release (con 1) (con 1) ∷ load_weak_acquire 0 (con 0) ∷ []) ∷ []) both_zero) 7
    (allowed 7 (promise 0 0 1 ∷ execution 0 1 ∷ execution 0 0 ∷ promise 1 1 1 ∷ execution 1 2 ∷ execution 1 0 ∷ []))

-- ---- message passing: the flag is seen and the data is stale
-- a store of the data, dmb st, a store of the flag
abbrev writer : List Instruction
writer = store (con 0) (con 37) ∷ dmb_st ∷ store (con 1) (con 42) ∷ []

abbrev stale : List Condition
stale = register_is 1 0 42 ∷ register_is 1 1 0 ∷ []

abbrev first_writes : List Step
first_writes = promise 0 0 37 ∷ execution 0 1 ∷ execution 0 0 ∷ promise 0 1 42 ∷ execution 0 2 ∷ []

-- a plain reader
abbrev pub mp_plain : Case
mp_plain = case (program (writer ∷ (load 0 (con 1) ∷ load 1 (con 0) ∷ []) ∷ []) stale) 11 (allowed 11 (first_writes ++ (execution 1 2 ∷ execution 1 0 ∷ [])))

-- an address dependency in the reader
abbrev pub mp_addr : Case
mp_addr = case (program (writer ∷ (load 0 (con 1) ∷ xor 2 (reg 0) (reg 0) ∷ load 1 (reg 2) ∷ []) ∷ []) stale) 1032 (forbidden 1032)

-- a control dependency in the reader
abbrev pub mp_ctrl : Case
mp_ctrl = case (program (writer ∷ (load 0 (con 1) ∷ control (reg 0) ∷ load 1 (con 0) ∷ []) ∷ []) stale) 13 (allowed 13 (first_writes ++ (execution 1 2 ∷ execution 1 0 ∷ execution 1 0 ∷ [])))

-- a control dependency and isb in the reader
abbrev pub mp_ctrl_isb : Case
mp_ctrl_isb = case (program (writer ∷ (load 0 (con 1) ∷ control (reg 0) ∷ isb ∷ load 1 (con 0) ∷ []) ∷ []) stale) 2215 (forbidden 2215)

-- release and acquire
abbrev pub mp_rel_acq : Case
mp_rel_acq = case (program ((store (con 0) (con 37) ∷ store_release (con 1) (con 42) ∷ []) ∷ (load_acquire 0 (con 1) ∷ load 1 (con 0) ∷ []) ∷ []) stale) 182 (forbidden 182)

-- a store forwarded behind a branch: the address dependency on its reader does not order the load after it
abbrev pub ppoca : Case
ppoca =
    case
    (program (writer ∷ (load 0 (con 1) ∷ control (reg 0) ∷ store (con 2) (con 1) ∷ load 1 (con 2) ∷ xor 2 (reg 1) (reg 1) ∷ load 3 (reg 2) ∷ []) ∷ [])
    (register_is 1 0 42 ∷ register_is 1 1 1 ∷ register_is 1 3 0 ∷ [])) 28
    (allowed 28 (first_writes ++ (execution 1 2 ∷ execution 1 0 ∷ promise 1 2 1 ∷ execution 1 3 ∷ execution 1 3 ∷ execution 1 0 ∷ execution 1 0 ∷ [])))

-- ---- load buffering: each thread reads what the other stores after its own load
abbrev both42 : List Condition
both42 = register_is 0 0 42 ∷ register_is 1 0 42 ∷ []

-- the first thread passes on what it read; the second's store is plain
abbrev pub lb_plain : Case
lb_plain =
    case (program ((load 0 (con 0) ∷ store (con 1) (reg 0) ∷ []) ∷ (load 0 (con 1) ∷ store (con 0) (con 42) ∷ []) ∷ []) both42) 338
    (allowed 338 (promise 1 0 42 ∷ execution 0 1 ∷ promise 0 1 42 ∷ execution 0 2 ∷ execution 1 2 ∷ execution 1 1 ∷ []))

-- the second's store has a data dependency
abbrev pub lb_data : Case
lb_data =
    case (program ((load 0 (con 0) ∷ store (con 1) (reg 0) ∷ []) ∷ (load 0 (con 1) ∷ xor 1 (reg 0) (reg 0) ∷ add 2 (reg 1) (con 42) ∷ store (con 0) (reg 2) ∷ []) ∷ []) both42) 2385
    (forbidden 2385)

-- release stores
abbrev pub lb_rels : Case
lb_rels =
    case (program ((load 0 (con 0) ∷ store_release (con 1) (con 1) ∷ []) ∷ (load 0 (con 1) ∷ store_release (con 0) (con 1) ∷ []) ∷ []) (register_is 0 0 1 ∷ register_is 1 0 1 ∷ [])) 415
    (forbidden 415)

-- ---- 2+2W with dmb sy: each location ends with the value that was stored to it first
abbrev pub two_writes_sy : Case
two_writes_sy =
    case (program ((store (con 0) (con 1) ∷ dmb_sy ∷ store (con 1) (con 2) ∷ []) ∷ (store (con 1) (con 1) ∷ dmb_sy ∷ store (con 0) (con 2) ∷ []) ∷ []) (location_is 0 1 ∷ location_is 1 1 ∷ [])) 7689
    (forbidden 7689)
