-- The answer of a replay for the code: a refusal with the file that it is in, beside program, steps, machine and the two answers.
-- Assumes nothing.
use Rattle.std.specs.Prelude.{false, List, ℕ, ◌*◌, Ok, Err}
use Rattle.program.specs.declared.Program.{Program}
use Rattle.program.specs.Program.{no_program}
use Rattle.program.specs.File.{FileAnswer, refused, program, read_file}
use Rattle.machine.specs.declared.Machine.{Machine}
use Rattle.machine.specs.State.{fresh}
use Rattle.step.specs.Outcome.{complete, asked}
use Rattle.trace_replay.specs.Replay.{ReplayEnd, ended, broken, replay_from}
pub use Rattle.trace_replay.specs.declared.ReplayRefusal.{ReplayRefusal}
pub use Rattle.trace_replay.specs.declared.ReplayRefusal.TheVariants as whose
pub use Rattle.trace_replay.specs.declared.Replayed.{Replayed}

-- a refusal: not complete, and the question does not hold
abbrev pub refused_with : ReplayRefusal → Program → ℕ → Machine → Replayed
refused_with refusal p n x = record { answer = Err refusal; program = p; steps = n; machine = x; complete = false; holds = false }

-- a trace that is refused: how many steps came before, the machine they lead to, and the place where the refused record begins
abbrev pub replayed : Program → ReplayEnd → Replayed
replayed p (ended n x) = record { answer = Ok tt; program = p; steps = n; machine = x; complete = complete p x; holds = asked p x }
replayed p (broken r n x) = refused_with (whose.Trace (record { refusal = r; place = 6 * n }) n) p n x

-- a program file that is refused: no steps, a program of all 0 and the fresh machine
abbrev pub on_program : FileAnswer → List ℕ → Replayed
on_program (refused r place) t = refused_with (whose.Program (record { refusal = r; place = place })) no_program 0 fresh
on_program (program p) t = replayed p (replay_from p 0 fresh t)

-- REPLAY of a trace file on a program file
unfoldable pub replay : List ℕ → List ℕ → Replayed
replay f t = on_program (read_file f) t
