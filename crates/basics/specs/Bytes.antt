-- Numbers as bytes. Assumes nothing.
use Rattle.std.specs.Prelude.{ℕ, ◌+◌, ◌*◌, cond, List, length, Some, None, Option, nat_le, slice_index}

-- four bytes from `at` on, most significant first; a byte that is not there counts as 0
abbrev pub big_endian : List ℕ → ℕ → ℕ
big_endian bs at =
    slice_index bs at * 16777216 + slice_index bs (at + 1) * 65536 + slice_index bs (at + 2) * 256 + slice_index bs (at + 3)

-- the same, where all four are there
abbrev pub word_at : List ℕ → ℕ → Option ℕ
word_at bs at = cond (nat_le (at + 4) (length bs)) (Some (big_endian bs at)) None
