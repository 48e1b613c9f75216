-- Answers are computed the quick way, and carried over to the definitions.
-- Assumes nothing.
use mathlib.Core.Path.{◌≡◌, refl, sym, ap₂, ◌∙◌}
use mathlib.Core.Bool.{Bool, true, ◌&&◌}
use mathlib.Core.List.{List, [], ◌∷◌, map}
use lib.Dec.{T}
use Rattle.program.specs.Tests.{all_of, below, sum_below}
use Rattle.program.specs.Program.{operand, compute_mode, load_mode, store_mode, fence_mode, decode, instr_at, code_of}
use Rattle.program.specs.Counts.{one_store, stores_among, stores_from, stores, instructions, size}
use Rattle.program.specs.WellFormed.{mode_limit, mode_test, register_test, kind_test, number_test, instruction_test, condition_test, unused_instruction, unused_condition, code_test, program_test}
use Rattle.machine.specs.State.{fresh_thread, fresh, has, with, without}
use Rattle.machine.specs.Rules.{combine, readable, none_newer, read_value, load_at, promised, store_at, execute}
use Rattle.certify_runs.specs.Certify.{or_else, first_from, by_own_message, one_more, first_run_within, first_run, certified}
use Rattle.certify_runs.proofs.Candidates.{relaxed, stores_reached, candidates}
use Rattle.step.specs.Step.{Step, settle, execute_step, promise_step, kind_step, rule_step}
use Rattle.step.specs.Order.{range, for_each}
use Rattle.step.specs.Outcome.{complete, last_of, last_value, holds, question_holds, asked}
use Rattle.theory_sequences.specs.Scan.{asking}
use Rattle.theory_sequences.proofs.Fewer.{each, hunt}
use Rattle.search_sequences.proofs.Keys.{insert_key}
use Rattle.search_sequences.proofs.Few.{keys_of, few_of, few}
use Rattle.search_sequences.proofs.Quick.{quick, quick_is}
use Rattle.program.proofs.Tests.{and_left, and_right}
use Rattle.theory_sequences.specs.Answer.{Answer}
use Rattle.search_sequences.specs.OfProgram.{answer_to}
use Rattle.cases_verdicts.specs.Cases.{Case, Right}

-- the programs are well formed: this computes
unfoldable pub formed : List Case → Bool
unfolding all_of below sum_below operand compute_mode load_mode store_mode fence_mode decode instr_at code_of one_store stores_among stores_from stores instructions size mode_limit mode_test register_test kind_test number_test instruction_test condition_test unused_instruction unused_condition code_test program_test fresh_thread fresh has with without combine readable none_newer read_value load_at promised store_at execute or_else first_from by_own_message one_more first_run_within first_run certified relaxed stores_reached candidates settle execute_step promise_step kind_step rule_step range for_each complete last_of last_value holds question_holds asked asking each hunt insert_key keys_of few_of few quick
formed [] = true
formed (c ∷ cs) = program_test c.asks && formed cs

-- the quick answers: this computes
unfoldable pub quicks : List Case → List (Answer Step)
unfolding all_of below sum_below operand compute_mode load_mode store_mode fence_mode decode instr_at code_of one_store stores_among stores_from stores instructions size mode_limit mode_test register_test kind_test number_test instruction_test condition_test unused_instruction unused_condition code_test program_test fresh_thread fresh has with without combine readable none_newer read_value load_at promised store_at execute or_else first_from by_own_message one_more first_run_within first_run certified relaxed stores_reached candidates settle execute_step promise_step kind_step rule_step range for_each complete last_of last_value holds question_holds asked asking each hunt insert_key keys_of few_of few quick
quicks cs = map (λ (c : Case). quick c.asks c.budget) cs

quick_answers : (cs : List Case) → T (formed cs) → map (λ (c : Case). answer_to c.asks c.budget) cs ≡ quicks cs
unfolding formed quicks
quick_answers [] h = refl
quick_answers (c ∷ cs) h =
    ap₂ (λ (o : Answer Step) (os : List (Answer Step)). o ∷ os) (sym (quick_is c.asks (and_left (program_test c.asks) (formed cs) h) c.budget))
    (quick_answers cs (and_right (program_test c.asks) (formed cs) h))

-- well-formed programs whose quick answers are those to be answered are all right
pub carried : (cs : List Case) → T (formed cs) → quicks cs ≡ map (λ (c : Case). c.answers) cs → Right cs
unfolding Right
carried cs h e = quick_answers cs h ∙ e
