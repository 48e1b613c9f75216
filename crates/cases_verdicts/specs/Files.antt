-- The files of P1 to P10, byte by byte: each record of the program file on a line of its own.
-- Assumes nothing.
use Rattle.std.specs.Prelude.{List, [], ◌∷◌, ◌++◌, ℕ}

-- the empty program: one thread that has no instructions, and a question without conditions
abbrev pub bytes_of_empty : List ℕ
bytes_of_empty =
    0x50 ∷ 0x47 ∷ 0x01 ∷ 0x01
    ∷ 0x54 ∷ 0x48 ∷ 0x00 ∷ 0x00
    ∷ 0x51 ∷ 0x55 ∷ 0x00
    ∷ []

-- S up to its question: a store (op 2) of the constant 1 to the constant 0
abbrev pub bytes_of_s : List ℕ
bytes_of_s =
    0x50 ∷ 0x47 ∷ 0x01 ∷ 0x01
    ∷ 0x54 ∷ 0x48 ∷ 0x00 ∷ 0x01
    ∷ 0x49 ∷ 0x4E ∷ 0x02 ∷ 0x00 ∷ 0x00 ∷ 0x00 ∷ 0x00 ∷ 0x00 ∷ 0x01
    ∷ []

-- D up to its question: the same store, then a load (op 1) into register 0 from the sum of the constants 0 and 0
abbrev pub bytes_of_d : List ℕ
bytes_of_d =
    0x50 ∷ 0x47 ∷ 0x01 ∷ 0x01
    ∷ 0x54 ∷ 0x48 ∷ 0x00 ∷ 0x02
    ∷ 0x49 ∷ 0x4E ∷ 0x02 ∷ 0x00 ∷ 0x00 ∷ 0x00 ∷ 0x00 ∷ 0x00 ∷ 0x01
    ∷ 0x49 ∷ 0x4E ∷ 0x01 ∷ 0x00 ∷ 0x00 ∷ 0x00 ∷ 0x00 ∷ 0x00 ∷ 0x00
    ∷ []

-- E up to its question: the store in thread 0, the load in thread 1
abbrev pub bytes_of_e : List ℕ
bytes_of_e =
    0x50 ∷ 0x47 ∷ 0x01 ∷ 0x02
    ∷ 0x54 ∷ 0x48 ∷ 0x00 ∷ 0x01
    ∷ 0x49 ∷ 0x4E ∷ 0x02 ∷ 0x00 ∷ 0x00 ∷ 0x00 ∷ 0x00 ∷ 0x00 ∷ 0x01
    ∷ 0x54 ∷ 0x48 ∷ 0x01 ∷ 0x01
    ∷ 0x49 ∷ 0x4E ∷ 0x01 ∷ 0x00 ∷ 0x00 ∷ 0x00 ∷ 0x00 ∷ 0x00 ∷ 0x00
    ∷ []

-- a question of one condition: its kind, thread, index and value
abbrev pub asking : ℕ → ℕ → ℕ → ℕ → List ℕ
asking kind thread index value =
    0x51 ∷ 0x55 ∷ 0x01
    ∷ 0x43 ∷ 0x4E ∷ kind ∷ thread ∷ index ∷ value
    ∷ []

-- the ten files, in the order of the cases
abbrev pub files : List (List ℕ)
files =
    bytes_of_empty
    ∷ bytes_of_empty
    ∷ (bytes_of_s ++ asking 1 0 0 1)
    ∷ (bytes_of_s ++ asking 1 0 0 0)
    ∷ (bytes_of_s ++ asking 1 0 0 0)
    ∷ (bytes_of_d ++ asking 0 0 0 0)
    ∷ (bytes_of_e ++ asking 0 1 0 1)
    ∷ (bytes_of_e ++ asking 0 1 0 0)
    ∷ (bytes_of_e ++ asking 0 1 0 2)
    ∷ (bytes_of_e ++ asking 0 1 0 2)
    ∷ []
