-- Decimal digits, and a list whose last number changes.
use Rattle.std.specs.Prelude.{ℕ, ◌+◌, ◌-◌, ◌*◌, if◌then◌else◌, ◌&&◌, Option, Some, None, List, length, nat_le, nat_lt, slice_set}

-- the largest u32
abbrev pub U32_MAX : ℕ
U32_MAX = 4294967295

-- the digit that a byte is, `0` to `9` in ASCII
abbrev pub digit_of : ℕ → Option ℕ
digit_of b = if nat_le 48 b && nat_le b 57 then Some (b - 48) else None

-- the number with a digit more, where it is at most `most`
abbrev pub with_digit : ℕ → ℕ → ℕ → Option ℕ
with_digit n d most = if nat_le (n * 10 + d) most then Some (n * 10 + d) else None

-- the list with `n` as the last of its first `count` numbers, where it has so many
abbrev pub last_set : List ℕ → ℕ → ℕ → List ℕ
last_set xs count n = if nat_lt 0 count && nat_le count (length xs) then slice_set xs (count - 1) n else xs
