-- Rows with a strength: what stands inside one is a level deeper (below_strong), and what is inside a part is as deep (below_part). Bounds of
-- the operators' strengths, and the rows of operators, each by a test that computes. What an expression leaves (expr_cap). Assumes nothing.
use mathlib.Core.Bool.{true, false, Bool}
use mathlib.Core.Path.{◌≡◌, refl, sym}
use Prim.Native.Nat.{ℕ, ◌≤◌, ◌<◌, min}
use borrow.Author.Tests.{ne_eqb}
use lib.Dec.{eqb, leb}
use native.Mathlib.Omega.{arith}
use Rattle.theory.specs.Trees.{Row, Tree, cap_of}
use Rattle.theory.specs.Table.{pick, both, mem}
use Rattle.theory.proofs.Cases.{both_l, both_r, leb_le}
use Rattle.kinds.specs.Strength.{strength_of, prefix_of}
use Rattle.grammar.specs.Limits.{Around, is_query, is_expression, below}
use Rattle.grammar.proofs.LevelsHold.{no_strength}
use Rattle.descent.proofs.Named.{op_row}
use Rattle.descent.proofs.Walk.{deeper, not_b}
use Rattle.descent.proofs.SameRow.{below?, throughout}
use Rattle.descent.proofs.TableFacts.{BOUND}
use Rattle.descent.proofs.Means.{plain_code, str_of, ExprTree}

pub below_strong : (r : Row) (c : Around) → is_expression r ≡ true → is_query r.code ≡ false → below r c ≡ deeper c
unfolding below pick
below_strong r c h q = rw (h, q)

pub below_part : (r : Row) (c : Around) → r.str ≡ 0 → is_query r.code ≡ false → below r c ≡ c
unfolding below pick
below_part r c h q = rw (no_strength r h, q)

bound_test : ℕ → Bool
bound_test k = both (leb (strength_of k) 10) (leb (prefix_of k) 11)

bounds_right : below? BOUND bound_test ≡ true
unfolding bound_test below? strength_of prefix_of both
bounds_right = refl

pub strength_most : (k : ℕ) → k < BOUND → strength_of k ≤ 10
unfolding bound_test
strength_most k h = leb_le (strength_of k) 10 (both_l _ _ (throughout BOUND bound_test bounds_right k h))

pub prefix_most : (k : ℕ) → k < BOUND → prefix_of k ≤ 11
unfolding bound_test
prefix_most k h = leb_le (prefix_of k) 11 (both_r _ _ (throughout BOUND bound_test bounds_right k h))

-- an operator's row is no query, and its code is plain
code_test : ℕ → Bool
code_test k = both (not_b (is_query (op_row k).code)) (both (plain_code (op_row k).code) (pick (eqb (strength_of k) 0) true (λ w. is_expression (op_row k))))

codes_right : below? BOUND code_test ≡ true
unfolding code_test below? op_row strength_of plain_code is_query not_b mem pick both
codes_right = refl

pub not-true : (b : Bool) → not_b b ≡ true → b ≡ false
unfolding not_b
not-true true e = sym e
not-true false e = refl

pub op_no_query : (k : ℕ) → k < BOUND → is_query (op_row k).code ≡ false
unfolding code_test
op_no_query k h = not-true (is_query (op_row k).code) (both_l _ _ (throughout BOUND code_test codes_right k h))

pub op_plain : (k : ℕ) → k < BOUND → plain_code (op_row k).code ≡ true
unfolding code_test
op_plain k h = both_l _ _ (both_r _ _ (throughout BOUND code_test codes_right k h))

pub op_expression : (k : ℕ) → k < BOUND → 0 < strength_of k → is_expression (op_row k) ≡ true
unfolding code_test pick
op_expression k h p = rw (ne_eqb (strength_of k) 0 (λ e. omega (arith, e, p))) at (both_r (plain_code (op_row k).code) _ (both_r _ _ (throughout BOUND code_test codes_right k h)))

-- what an expression leaves to an operator that its row is too tight for
pub expr_cap : (y : Tree) (said s k : ℕ) → ExprTree y said → s ≤ str_of y → k ≤ s → min k said ≡ min k (cap_of y)
unfolding cap_of str_of
expr_cap y said s k e = rw e.is (λ a b. omega (arith, a, b, e.leaves))
