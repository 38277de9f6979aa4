-- What `{n}` of `write!` writes of a number into an output, by one call of `write_str` or several, shows the number as `Output::number` does.
-- Assumes nothing.
use Prim.Native.Nat.{ℕ, zero, suc, ◌+◌, ◌-◌, ◌/◌, ◌%◌, ◌^◌, ◌≤◌, ◌<◌}
use mathlib.Core.Path.{◌≡◌, refl, sym, ap, ap₂, subst, subst⁻¹, ◌∙◌}
use mathlib.Core.List.{List, [], ◌∷◌, ◌++◌}
use native.Mathlib.Nat.{pow-suc}
use native.Mathlib.Omega.{arith}
use borrow.Author.Tests.{lt-ltb}
use Rattle.std.proofs.lemmas.Fmt.{decimal_by_steps}
use Rattle.std.specs.Fmt.{decimal, WritesInCalls}
use Rattle.std.specs.List.{FoldsTo, concat}
use Rattle.io.specs.Digits.{hex_digit_ascii, last_digits, IsDigitCount}
use Rattle.report.specs.Blocks.{place_in, block_with, waiting_after, block_after, Shows}
use Rattle.report.proofs.BlockSteps.{shown}

-- ── texts one after the other ──
waiting_on : (w : ℕ) (a b : List ℕ) → waiting_after (waiting_after w a) b ≡ waiting_after w (a ++ b)
waiting_on w [] b = refl
waiting_on w (x ∷ a) b = waiting_on (place_in w + 1) a b

block_on : (block : List ℕ) (w : ℕ) (a b : List ℕ) → block_after (block_after block w a) (waiting_after w a) b ≡ block_after block w (a ++ b)
block_on block w [] b = refl
block_on block w (x ∷ a) b = block_on (block_with block w x) (place_in w + 1) a b

-- ── the digits ──
abbrev Digits : ℕ → List ℕ → Type 0
Digits n ds = (k : ℕ) × IsDigitCount 10 1 n k × (ds ≡ last_digits 10 k n)

digit_is : (d : ℕ) → d < 10 → 48 + d ≡ hex_digit_ascii d
digit_is d l = rw (lt-ltb d 10 l) refl

one_digit : (n : ℕ) → n < 10 → Digits n ((48 + n) ∷ [])
one_digit n l =
    let same : n % 10 ≡ n = omega arith in
    (1, (omega arith, omega arith, λ a. absurd (omega arith)), ap (λ (d : ℕ). d ∷ []) (digit_is n l ∙ ap hex_digit_ascii (sym same)))

ten_more : (n k : ℕ) → 10 ≤ n → IsDigitCount 10 1 (n / 10) k → IsDigitCount 10 1 n (suc k)
ten_more n zero h fewest = absurd (omega arith)
ten_more n (suc zero) h fewest = (omega arith, omega arith, λ a. omega arith)
ten_more n (suc (suc j)) h fewest =
    let back : (i : ℕ) → suc i - 1 ≡ i = λ i. omega arith in
    let low : 10 ^ suc j ≤ n / 10 = subst (λ (i : ℕ). 10 ^ i ≤ n / 10) (back (suc j)) (fewest.2 (omega arith)) in (
      omega arith,
      omega (arith, fewest.1, pow-suc 10 (suc (suc j))),
      λ a. subst⁻¹ (λ (i : ℕ). 10 ^ i ≤ n) (back (suc (suc j))) (omega (arith, low, pow-suc 10 (suc j))),
    )

one_more : (n : ℕ) (ds : List ℕ) → 10 ≤ n → Digits (n / 10) ds → Digits n (ds ++ ((48 + n % 10) ∷ []))
one_more n ds h (k, fewest, is) =
    (suc k, ten_more n k h fewest, ap₂ (λ (x : List ℕ) (d : ℕ). x ++ (d ∷ [])) is (digit_is (n % 10) (omega arith)))

decimal_shows : (n : ℕ) → n < 2 ^ 64 → Digits n (decimal n)
decimal_shows = decimal_by_steps Digits one_digit one_more

-- ── an output: how many bytes wait, and the block ──
module _ {W : Type 0} (waiting : W → ℕ) (block : W → List ℕ) where
  -- what `write_str` promises of it
  abbrev pub Took : W → List ℕ → W → Type 0
  Took old s new = (waiting new ≡ waiting_after (waiting old) s) × (block new ≡ block_after (block old) (waiting old) s)

  after_calls : (w : W) (parts : List (List ℕ)) (v : W) → FoldsTo Took w parts v → Took w (concat parts) v
  after_calls w [] v e = (ap waiting (sym e), ap block (sym e))
  after_calls w (s ∷ parts) v (u, took, e) =
      let on = after_calls u parts v e in (
        on.0 ∙ (ap (λ (z : ℕ). waiting_after z (concat parts)) took.0 ∙ waiting_on (waiting w) s (concat parts)),
        on.1 ∙ (ap₂ (λ (b : List ℕ) (z : ℕ). block_after b z (concat parts)) took.1 took.0 ∙ block_on (block w) (waiting w) s (concat parts)),
      )

  pub written_shows : (n : ℕ) → n < 2 ^ 64 → (w v : W) → WritesInCalls Took w (decimal n) v → Shows (block w) (waiting w) n (waiting v) (block v)
  written_shows n small w v wrote =
      let took = after_calls w wrote.parts v wrote.calls in
      let digits = decimal_shows n small in
      shown digits.1 (wrote.whole ∙ digits.2) took.0 took.1
