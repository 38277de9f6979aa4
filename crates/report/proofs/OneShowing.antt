-- A number has its decimal digits in one way: what `Shows` allows is one count and one block.
-- Assumes nothing.
use Prim.Native.Nat.{ℕ, ◌-◌, ◌≤◌, ◌<◌}
use mathlib.Core.Path.{◌≡◌, sym, ap, ◌∙◌}
use mathlib.Core.List.{List}
use mathlib.Core.Logic.{⊎_elim}
use native.Mathlib.Nat.{pow-le-pow_right, eq-zero-or-pos}
use native.Mathlib.Omega.{arith}
use Rattle.io.specs.Digits.{last_digits, IsDigitCount}
use Rattle.report.specs.Blocks.{waiting_after, block_after, Shows}

-- no number of digits that holds n is smaller
least_count : (b n j k : ℕ) → 0 < b → IsDigitCount b 1 n j → IsDigitCount b 1 n k → j ≤ k
least_count b n j k base l m =
    ⊎_elim (λ none. omega arith)
    (λ more. omega (arith, l.2 (omega arith), m.1, pow-le-pow_right {n = b} base {i = k} {j = j - 1} (omega arith)))
    (eq-zero-or-pos (j - k))

pub one_showing : (block : List ℕ) (waiting n r r' : ℕ) (after after' : List ℕ) → Shows block waiting n r after → Shows block waiting n r' after'
    → (r ≡ r') × (after ≡ after')
one_showing block waiting n r r' after after' s t =
    let same : s.count ≡ t.count =
    omega (arith, least_count 10 n s.count t.count (omega arith) s.fewest t.fewest, least_count 10 n t.count s.count (omega arith) t.fewest s.fewest) in (
      s.waits ∙ ap (λ (k : ℕ). waiting_after waiting (last_digits 10 k n)) same ∙ sym t.waits,
      s.holds ∙ ap (λ (k : ℕ). block_after block waiting (last_digits 10 k n)) same ∙ sym t.holds,
    )
