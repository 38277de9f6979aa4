-- A block of bytes that wait to be written: a full one is written, and begun anew.
use Rattle.std.specs.Prelude.{ℕ, ◌+◌, cond, List, [], ◌∷◌, ◌≡◌, ltb, set}
use Rattle.io.specs.Digits.{last_digits, IsDigitCount}

-- the place of a byte in the block when `waiting` bytes wait
abbrev pub place_in : ℕ → ℕ
place_in waiting = cond (ltb waiting 65536) waiting 0

-- the block with a byte more
abbrev pub block_with : List ℕ → ℕ → ℕ → List ℕ
block_with block waiting b = set block (place_in waiting) b

-- how many bytes wait after those of a list, one after the other
abbrev pub waiting_after : ℕ → List ℕ → ℕ
waiting_after waiting [] = waiting
waiting_after waiting (b ∷ bs) = waiting_after (place_in waiting + 1) bs

-- the block then
abbrev pub block_after : List ℕ → ℕ → List ℕ → List ℕ
block_after block waiting [] = block
block_after block waiting (b ∷ bs) = block_after (block_with block waiting b) (place_in waiting + 1) bs

-- `waiting` and `block` become `waiting'` and `block'` by the decimal digits of a number: the fewest that hold it, and at least one
pub record Shows (block : List ℕ) (waiting n waiting' : ℕ) (block' : List ℕ) : Type 0 where
  pub count : ℕ
  pub fewest : IsDigitCount 10 1 n count
  pub waits : waiting' ≡ waiting_after waiting (last_digits 10 count n)
  pub holds : block' ≡ block_after block waiting (last_digits 10 count n)
