-- P1 to P10, ten small programs with known answers, under the definitions: one computed table.
-- Assumes nothing.
use mathlib.Core.Path.{refl}
use Rattle.cases_verdicts.specs.Cases.{Right, cases}
use Rattle.cases_verdicts.proofs.Computed.{formed, quicks, carried}

-- P1 TO P10
pub table : Right cases
unfolding formed quicks
table = carried cases tt refl
