-- How an expression begins: at a kind where head_row has a row that is strong enough it begins with it (head_in); where it has none
-- (head_none), or a row that is too loose (head_weak), the token is wrong. begins_head: the kinds at which it may begin. Assumes nothing.
use mathlib.Core.Bool.{true, false, Bool}
use mathlib.Core.List.{List}
use mathlib.Core.Option.{some, none, Option}
use mathlib.Core.Path.{◌≡◌, refl, sym, ap, ◌∙◌}
use Prim.Native.Nat.{ℕ, ◌+◌, ◌≤◌, ◌<◌}
use borrow.Author.Tests.{lt-leb}
use lib.Dec.{eqb}
use native.Mathlib.Omega.{arith}
use Rattle.theory.specs.Trees.{Nt, Row, nil}
use Rattle.theory.specs.Table.{pick, both, mem, lookup, enter_of, null_of}
use Rattle.theory.specs.Outcome.{refused}
use Rattle.theory.proofs.Cases.{by_bool, 0≢1, both_r, eqb_eq, le-leb}
use Rattle.theory.proofs.Tested.{allb, all_mem, asked_some, asked_none, asked_weak}
use Rattle.kinds.specs.Strength.{prefix_of}
use Rattle.kinds.specs.Classes.{is_name, begins_expr, literal_code}
use Rattle.grammar.specs.Rows.{exprs}
use Rattle.grammar.specs.Grammar.{sql}
use Rattle.grammar.specs.Sizes.{LEVELS}
use Rattle.grammar.specs.Limits.{Around, is_query}
use Rattle.descent.proofs.Places.{kind_at, tok_at, wrong, calls, rests}
use Rattle.descent.proofs.Named.{prefix_row, rest_of, head_row, own}
use Rattle.descent.proofs.Walk.{not_b}
use Rattle.descent.proofs.SameRow.{below?, throughout}
use Rattle.descent.proofs.TableFacts.{BOUND, heads_in}
use Rattle.descent.proofs.Steps.{call_in, call_wrong}
use Rattle.descent.proofs.Means.{Takes, Good}
use Rattle.descent.proofs.Common.{begun_no_word}

unfoldable pub is_there : Option Row → Bool
is_there none = false
is_there (some r) = true

same_b : Bool → Bool → Bool
same_b true b = b
same_b false b = not_b b

begins_test : ℕ → Bool
begins_test k = allb (λ C. same_b (begins_expr k) (is_there (head_row C k))) exprs

begins_right : below? BOUND begins_test ≡ true
unfolding begins_test same_b not_b is_there below? begins_expr head_row prefix_row rest_of prefix_of literal_code is_name exprs pick both allb
begins_right = refl

same_b_lem : (a b : Bool) → same_b a b ≡ true → a ≡ b
unfolding same_b not_b
same_b_lem true true e = refl
same_b_lem true false e = sym e
same_b_lem false true e = e
same_b_lem false false e = refl

pub begins_head : (C : ℕ) → mem C exprs ≡ true → (k : ℕ) → k < BOUND → begins_expr k ≡ is_there (head_row C k)
unfolding begins_test
begins_head C m k h = same_b_lem (begins_expr k) (is_there (head_row C k)) (all_mem (λ C. same_b (begins_expr k) (is_there (head_row C k))) exprs C (throughout BOUND begins_test begins_right k h) m)

module _ (K T : List ℕ) (good : Good K T) (at : ℕ) (c : Around) (s : ℕ) (A : Nt) (t : Takes A s) (o : mem (kind_at K at) (own A.of) ≡ false) where
  pub head_in : (r : Row) → head_row A.of (kind_at K at) ≡ some r → 1 ≤ r.str → s ≤ r.str → enter_of sql A (kind_at K at) ≡ some r
  unfolding enter_of
  head_in r e p q = asked_some A.least (lookup A.of (kind_at K at) sql.heads) r (heads_in A.of t.among (kind_at K at) (good.bound at) o ∙ e)
      (le-leb A.least r.str (t.enough r.str p q))

  -- it is begun
  pub head_on : (r : Row) → head_row A.of (kind_at K at) ≡ some r → 1 ≤ r.str → s ≤ r.str → is_query r.code ≡ false → c.level ≤ LEVELS
      → calls K T c A at ≡ rests K T (record { c = c; A = A; r = r; l = nil; t = tok_at K T at }) r.items nil (at + 1)
  head_on r e p q n l = call_in K T good.sound c A at r (head_in r e p q) (begun_no_word c r (tok_at K T at) n l)

  head_out : enter_of sql A (kind_at K at) ≡ none → (null_of sql A ≡ true → ⊥) → calls K T c A at ≡ refused (wrong (kind_at K at)) at
  head_out e n = call_wrong K T good.sound c A at e (by_bool (null_of sql A) (λ z. absurd (n z)) (λ z. z))

  pub head_none : head_row A.of (kind_at K at) ≡ none → (null_of sql A ≡ true → begins_expr (kind_at K at) ≡ true) → calls K T c A at ≡ refused (wrong (kind_at K at)) at
  unfolding enter_of is_there
  head_none e n = head_out (asked_none A.least (lookup A.of (kind_at K at) sql.heads) (heads_in A.of t.among (kind_at K at) (good.bound at) o ∙ e))
      (λ z. 0≢1 (sym (begins_head A.of t.among (kind_at K at) (good.bound at) ∙ ap is_there e) ∙ n z))

  pub head_weak : (r : Row) → head_row A.of (kind_at K at) ≡ some r → 1 ≤ r.str → r.str < s → calls K T c A at ≡ refused (wrong (kind_at K at)) at
  unfolding enter_of null_of
  head_weak r e p q = let l = t.loose r.str p q in
      head_out (asked_weak A.least (lookup A.of (kind_at K at) sql.heads) r (heads_in A.of t.among (kind_at K at) (good.bound at) o ∙ e) (lt-leb A.least r.str l))
      (λ z. let w = eqb_eq A.least 0 (both_r (mem A.of sql.nulls) (eqb A.least 0) z) in omega (arith, w, l))
