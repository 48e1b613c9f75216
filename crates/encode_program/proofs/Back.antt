-- A program value: decoding after encoding, and encoding after decoding, change nothing.
-- Assumes nothing.
use mathlib.Core.Path.{◌≡◌, refl, sym, ap, ◌∙◌}
use mathlib.Core.List.{List, [], ◌∷◌, ◌++◌, append-nil}
use Prim.Native.Nat.{ℕ, ◌+◌, ◌≤◌}
use native.Mathlib.Omega.{arith}
use lib.ListN.{length, get_or, drop, length-drop, drop_of_length-le}
use lib.Seq.{drop-cons, drop-drop, drop-append-add, get_or-append-add}
use Rattle.program.specs.Program.{no_instruction, no_code, no_condition, code_of}
use Rattle.program.specs.File.{byte_at}
use Rattle.program.specs.declared.Code.{Code}
use Rattle.program.specs.declared.Program.{Program}
use Rattle.encode_bytes.specs.Lists.{joined, entries}
use Rattle.encode_bytes.specs.Inner.{AllBytes}
use Rattle.encode_program.specs.Value.{instruction_bytes, code_bytes, condition_bytes, program_bytes, instruction_from, code_from, condition_from, program_of}
use Rattle.encode_program.specs.Sized.{SizedProgram}
use Rattle.encode_program.proofs.Lengths.{code_length, codes_length}
use Rattle.encode_bytes.proofs.Entries.{run_again, bytes_drop, part_then, part_at, entries_back, entries_again}

-- ---- decoding after encoding
code_back : (c : Code) → length c.instructions ≡ 16 → (rest : List ℕ) → code_from (code_bytes c ++ rest) ≡ c
unfolding code_from code_bytes
code_back c l rest =
    let e = entries_back instruction_bytes instruction_from 7 (λ x. refl) c.instructions no_instruction (λ j h r. refl) 16 0 (sym l) rest in
    λ i. record { count = c.count; instructions = e i }

pub program_back : (p : Program) → SizedProgram p → program_of (program_bytes p) ≡ p
unfolding program_of program_bytes code_of
program_back p s =
    let cs : List ℕ = joined (λ i. code_bytes (code_of p i)) 0 4 in
    let qs : List ℕ = joined (λ k. condition_bytes (get_or p.question k no_condition)) 0 8 in
    let l : length cs ≡ 452 = codes_length p in
    let codes : entries code_from 113 4 (cs ++ (p.conditions ∷ qs)) ≡ p.codes =
    entries_back code_bytes code_from 113 code_length p.codes no_code (λ j h r. code_back (code_of p j) (s.instructions j (let q = s.codes in omega arith)) r) 4 0 (sym s.codes) (p.conditions ∷ qs)
    in
    let count : byte_at (cs ++ (p.conditions ∷ qs)) 452 ≡ p.conditions = ap (byte_at (cs ++ (p.conditions ∷ qs))) (sym l ∙ omega arith) ∙ get_or-append-add cs (p.conditions ∷ qs) 0 0 in
    let rest : drop 453 (cs ++ (p.conditions ∷ qs)) ≡ qs = ap (λ (n : ℕ). drop n (cs ++ (p.conditions ∷ qs))) (let z : 453 ≡ length cs + 1 = omega arith in z) ∙ drop-append-add cs (p.conditions ∷ qs) 1 in
    let question : entries condition_from 4 8 (drop 453 (cs ++ (p.conditions ∷ qs))) ≡ p.question =
    ap (entries condition_from 4 8) (rest ∙ sym (append-nil qs))
    ∙ entries_back condition_bytes condition_from 4 (λ x. refl) p.question no_condition (λ j h r. refl) 8 0 (sym s.question) []
    in
    λ i. record { version = p.version; threads = p.threads; codes = codes i; conditions = count i; question = question i }

-- ---- encoding after decoding
code_again : (b : List ℕ) → 113 ≤ length b → AllBytes b → code_bytes (code_from b) ++ drop 113 b ≡ b
unfolding code_from code_bytes
code_again b h o =
    let e = entries_again instruction_bytes instruction_from 7 no_instruction (λ c l q. run_again c 0 7 l) 16 (drop 1 b) (rw (length-drop 1 b) (omega arith)) (bytes_drop 1 b o) in
    ap (λ (x : List ℕ). byte_at b 0 ∷ (joined (λ k. instruction_bytes (get_or (entries instruction_from 7 16 (drop 1 b)) k no_instruction)) 0 16 ++ x)) (sym (drop-drop 112 1 b))
    ∙ ap (λ (x : List ℕ). byte_at b 0 ∷ x) e
    ∙ sym (drop-cons b 0 0 (omega arith))

pub program_again : (b : List ℕ) → length b ≡ 487 → AllBytes b → program_bytes (program_of b) ≡ b
unfolding program_of program_bytes code_of
program_again b l o =
    let cs : List ℕ = joined (λ i. code_bytes (get_or (entries code_from 113 4 (drop 2 b)) i no_code)) 0 4 in
    let qs : List ℕ = joined (λ k. condition_bytes (get_or (entries condition_from 4 8 (drop 455 b)) k no_condition)) 0 8 in
    let codes : cs ++ drop 454 b ≡ drop 2 b =
    part_at 2 452 b cs (entries_again code_bytes code_from 113 no_code code_again 4 (drop 2 b) (rw (length-drop 2 b) (omega arith)) (bytes_drop 2 b o))
    in
    let question : qs ++ drop 487 b ≡ drop 455 b =
    part_at 455 32 b qs (entries_again condition_bytes condition_from 4 no_condition (λ c h q. run_again c 0 4 h) 8 (drop 455 b) (rw (length-drop 455 b) (omega arith)) (bytes_drop 455 b o))
    in
    let end : drop 487 b ≡ [] = drop_of_length-le b {i = 487} (omega arith) in
    sym (append-nil ((byte_at b 0 ∷ byte_at b 1 ∷ []) ++ (cs ++ (byte_at b 454 ∷ qs))))
    ∙ ap (λ (x : List ℕ). ((byte_at b 0 ∷ byte_at b 1 ∷ []) ++ (cs ++ (byte_at b 454 ∷ qs))) ++ x) (sym end)
    ∙ part_then (byte_at b 0 ∷ byte_at b 1 ∷ []) (cs ++ (byte_at b 454 ∷ qs)) (drop 487 b) (drop 2 b) b (run_again b 0 2 (omega arith))
    (part_then cs (byte_at b 454 ∷ qs) (drop 487 b) (drop 454 b) (drop 2 b) codes
    (ap (λ (x : List ℕ). byte_at b 454 ∷ x) question ∙ sym (drop-cons b 454 0 (omega arith))))
