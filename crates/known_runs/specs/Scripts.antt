-- The scripts of the known runs, as bytes. Assumes nothing.
use Rattle.std.specs.Prelude.{ℕ, ◌/◌, ◌%◌, ◌^◌, List, [], ◌∷◌, ◌++◌, length, replicate}

-- register 0 takes page 0, register 1 takes 5, register 0 takes their combination, page 0 takes register 0
abbrev pub A : List ℕ
A = 4 ∷ 0x00 ∷ 0x44 ∷ 0x51 ∷ 0x20 ∷ 0 ∷ 0 ∷ 0 ∷ 0 ∷ 0 ∷ 0 ∷ 0 ∷ 5 ∷ 0 ∷ 0 ∷ 0 ∷ 0 ∷ 0 ∷ 0 ∷ 0 ∷ 0 ∷ []

-- register 0 takes page 1, register 1 takes page 0, register 0 takes their combination, page 2 takes register 0
abbrev pub B : List ℕ
B = 4 ∷ 0x00 ∷ 0x04 ∷ 0x51 ∷ 0x20 ∷ 0 ∷ 0 ∷ 0 ∷ 1 ∷ 0 ∷ 0 ∷ 0 ∷ 0 ∷ 0 ∷ 0 ∷ 0 ∷ 0 ∷ 0 ∷ 0 ∷ 0 ∷ 2 ∷ []

-- four bytes for each, most significant first
abbrev pub operand_bytes : List ℕ → List ℕ
operand_bytes [] = []
operand_bytes (w ∷ ws) =
    (w / 2 ^ 24 % 256) ∷ (w / 2 ^ 16 % 256) ∷ (w / 2 ^ 8 % 256) ∷ (w % 256) ∷ operand_bytes ws

abbrev pub script : List ℕ → List ℕ → List ℕ
script codes operands = length codes ∷ codes ++ operand_bytes operands

-- n times register 0 takes 0
abbrev pub sets : ℕ → List ℕ
sets n = script (replicate n 0x40) (replicate n 0)

-- register 0 takes page p
abbrev pub reads : ℕ → List ℕ
reads p = script (0x00 ∷ []) (p ∷ [])

-- register 0 takes page 0, register 1 takes page 1
abbrev pub reads_two : List ℕ
reads_two = script (0x00 ∷ 0x04 ∷ []) (0 ∷ 1 ∷ [])

-- registers 0, 1 and 2 take pages 1, 0 and 2
abbrev pub reads_three : List ℕ
reads_three = script (0x00 ∷ 0x04 ∷ 0x08 ∷ []) (1 ∷ 0 ∷ 2 ∷ [])

-- register 1 takes b, register 0 takes the page numbered by the operand and register 1
abbrev pub reads_from : ℕ → ℕ → List ℕ
reads_from operand b = script (0x44 ∷ 0x11 ∷ []) (b ∷ operand ∷ [])

-- registers 0 and 1 take w and b, the page numbered by the operand and register 1 takes register 0
abbrev pub puts_from : ℕ → ℕ → ℕ → List ℕ
puts_from w operand b = script (0x40 ∷ 0x44 ∷ 0x31 ∷ []) (w ∷ b ∷ operand ∷ [])

-- register 0 takes page 0, register 1 takes the page that register 0 numbers
abbrev pub follows : List ℕ
follows = script (0x00 ∷ 0x14 ∷ []) (0 ∷ 0 ∷ [])

-- register 0 takes w, page p takes register 0
abbrev pub puts : ℕ → ℕ → List ℕ
puts w p = script (0x40 ∷ 0x20 ∷ []) (w ∷ p ∷ [])

-- the same with two pages, the first first
abbrev pub puts_two : ℕ → ℕ → ℕ → List ℕ
puts_two w p q = script (0x40 ∷ 0x20 ∷ 0x20 ∷ []) (w ∷ p ∷ q ∷ [])

-- register 0 takes 7, pages 2, 1 and 0 take register 0
abbrev pub puts_three : List ℕ
puts_three = script (0x40 ∷ 0x20 ∷ 0x20 ∷ 0x20 ∷ []) (7 ∷ 2 ∷ 1 ∷ 0 ∷ [])

-- register 1 takes page q, register 0 takes 7, page p takes register 0
abbrev pub reads_puts : ℕ → ℕ → List ℕ
reads_puts q p = script (0x04 ∷ 0x40 ∷ 0x20 ∷ []) (q ∷ 7 ∷ p ∷ [])

-- page 0 takes 6, register 1 takes page 0, and page 0 takes the combination of both
abbrev pub reads_own : List ℕ
reads_own = script (0x40 ∷ 0x20 ∷ 0x04 ∷ 0x51 ∷ 0x20 ∷ []) (6 ∷ 0 ∷ 0 ∷ 0 ∷ 0 ∷ [])

-- register 0 takes 6, pages 1 and 0 take it, and register 1 takes page 0
abbrev pub puts_then_reads : List ℕ
puts_then_reads = script (0x40 ∷ 0x20 ∷ 0x20 ∷ 0x04 ∷ []) (6 ∷ 1 ∷ 0 ∷ 0 ∷ [])

-- register 0 takes w; if it is equal to register 1, the next step is left out; register 0 takes 9
abbrev pub skips_if_zero : ℕ → List ℕ
skips_if_zero w = script (0x40 ∷ 0x61 ∷ 0x40 ∷ []) (w ∷ 1 ∷ 9 ∷ [])

-- a skip of n steps, and then one set
abbrev pub skips : ℕ → List ℕ
skips n = script (0x60 ∷ 0x40 ∷ []) (n ∷ 0 ∷ [])

-- one step
abbrev pub single : ℕ → ℕ → List ℕ
single code operand = script (code ∷ []) (operand ∷ [])
