-- What goes on in a class that takes an expression: from what is no expression, or ends in name DOT STAR, nothing (shut_tail); nor from an
-- expression, at a token that is neither a tighter operator nor one of the class's own tails (stops_in). Each by a test that computes.
-- Assumes nothing.
use mathlib.Core.Bool.{true, false, Bool}
use mathlib.Core.List.{List, [], ◌∷◌}
use mathlib.Core.Logic.{inl, inr}
use mathlib.Core.Option.{some, none}
use mathlib.Core.Path.{◌≡◌, refl, sym, ◌∙◌}
use Prim.Native.Nat.{ℕ, ◌≤◌, ◌<◌, min}
use lib.Dec.{eqb, leb}
use native.Mathlib.Omega.{arith}
use Rattle.theory.specs.Trees.{Nt, Row}
use Rattle.theory.specs.Table.{pick, both, mem, lookup, cont_of}
use Rattle.theory.proofs.Cases.{none≢some, eqb-true, leb_le}
use Rattle.theory.proofs.Tested.{allb, all_mem, not_found, Rows, rows_ok, cont_found}
use Rattle.kinds.specs.Kinds.{ID, KWID, STRING, COMMA, AS}
use Rattle.kinds.specs.Strength.{strength_of}
use Rattle.grammar.specs.Classes.{Paren, Column, Inside?, Args?}
use Rattle.grammar.specs.Rows.{but_column, exprs, select_items, values_items, lines, heads_of, tails_of}
use Rattle.grammar.specs.Grammar.{sql}
use Rattle.descent.proofs.Places.{kind_at}
use Rattle.descent.proofs.SameRow.{eq_nt, eq_item, eq_items, eq_row, eq_found, same_found, below?, throughout}
use Rattle.descent.proofs.TableFacts.{BOUND, cont_tight}
use Rattle.descent.proofs.Means.{Good, Stops}

-- ── in a class that takes an expression, a tail asks an expression on its left ──
left_test : ℕ → Row → Bool
left_test C q = pick (mem C exprs) (leb 1 q.left) (λ w. true)

lefts_right : allb (Rows left_test) sql.tails ≡ true
unfolding left_test sql lines but_column exprs select_items values_items heads_of tails_of pick both allb mem
lefts_right = refl

tail_asks : (C k : ℕ) (q : Row) → mem C exprs ≡ true → lookup C k sql.tails ≡ some q → 1 ≤ q.left
unfolding left_test pick
tail_asks C k q m e = leb_le 1 q.left (rw m at (rows_ok left_test C k q sql.tails lefts_right e))

pub shut_tail : (A : Nt) → mem A.of exprs ≡ true → (q : Row) (m k : ℕ) → min q.str m ≡ 0 → cont_of sql A q m k ≡ none
shut_tail A a q m k z = not_found (cont_of sql A q m k) (λ r e. let f = cont_found sql A q m k r e in let l = tail_asks A.of k r a f.0 in
    let x = leb_le r.left q.str f.2 in let y = leb_le r.left (min q.cap m) f.3 in absurd (omega arith))

-- ── the tails of a class that takes an expression, beside operators ──
unfoldable pub others : ℕ → List ℕ
others C = pick (eqb C Column) (AS ∷ ID ∷ KWID ∷ STRING ∷ []) (λ w. pick (mem C (Paren ∷ Inside? ∷ Args? ∷ [])) (COMMA ∷ []) (λ w. []))

other_test : ℕ → Bool
other_test k = pick (eqb (strength_of k) 0) (allb (λ C. pick (mem k (others C)) true (λ w. eq_found (lookup C k sql.tails) none)) exprs) (λ w. true)

others_right : below? BOUND other_test ≡ true
unfolding other_test others below? eq_found eq_row eq_items eq_item eq_nt strength_of sql lines but_column exprs select_items values_items heads_of tails_of pick both allb mem lookup
others_right = refl

pub other_none : (A : Nt) (q : Row) (m k : ℕ) → mem A.of exprs ≡ true → k < BOUND → strength_of k ≡ 0 → mem k (others A.of) ≡ false → cont_of sql A q m k ≡ none
unfolding other_test pick
other_none A q m k a h z o = not_found (cont_of sql A q m k) (λ r e. none≢some (sym none_there ∙ (cont_found sql A q m k r e).0))
  where
    tested : allb (λ C. pick (mem k (others C)) true (λ w. eq_found (lookup C k sql.tails) none)) exprs ≡ true
    tested = rw (eqb-true (strength_of k) 0 z) at (throughout BOUND other_test others_right k h)

    none_there : lookup A.of k sql.tails ≡ none
    none_there = same_found (lookup A.of k sql.tails) none
        (rw o at (all_mem (λ C. pick (mem k (others C)) true (λ w. eq_found (lookup C k sql.tails) none)) exprs A.of tested a))

module _ (K T : List ℕ) (good : Good K T) where
  -- an expression that was asked at strength 1, or of a column, ends here
  pub stops_in : (A : Nt) (q : Row) (m s said n : ℕ) → mem A.of exprs ≡ true → s ≤ 1 → min q.str (min q.cap m) ≡ said → Stops K T s said n → mem (kind_at K n) (others A.of) ≡ false
      → cont_of sql A q m (kind_at K n) ≡ none
  stops_in A q m s said n a h e (inl z) o = other_none A q m (kind_at K n) a (good.bound n) z o
  stops_in A q m s said n a h e (inr (inl l)) o = other_none A q m (kind_at K n) a (good.bound n) (omega (arith, l, h)) o
  stops_in A q m s said n a h e (inr (inr l)) o = cont_tight A a (kind_at K n) (good.bound n) (omega (arith, l)) q m (omega (arith, l, e))
