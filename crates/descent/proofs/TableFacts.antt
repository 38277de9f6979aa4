-- What the table has at every kind, each by one test that computes: tails_op, tails_none: an operator goes on by its row in every class that
-- takes an expression, and in an expression nothing else does; heads_in: in each of these classes an expression begins by head_row, but at
-- the kinds of the class's own. Assumes nothing.
use mathlib.Core.Bool.{true, false, Bool}
use mathlib.Core.Option.{some, none}
use mathlib.Core.Path.{◌≡◌, refl, sym, ap, ◌∙◌}
use Prim.Native.Nat.{ℕ, ◌≤◌, ◌<◌, min}
use lib.Dec.{eqb}
use native.Mathlib.Omega.{arith}
use Rattle.theory.specs.Trees.{Nt, Row}
use Rattle.theory.specs.Table.{pick, both, mem, lookup, cont_of}
use Rattle.theory.proofs.Cases.{pick_inv, 0≢1, none≢some, both_l, both_r, eqb_eq, eqb-true, leb_le, le-leb}
use Rattle.theory.proofs.Tested.{allb, all_mem, not_found, cont_found, cont_some}
use Rattle.kinds.specs.Strength.{strength_of, prefix_of}
use Rattle.kinds.specs.Classes.{is_name, literal_code}
use Rattle.grammar.specs.Classes.{Expr, E}
use Rattle.grammar.specs.Rows.{but_column, exprs, select_items, values_items, lines, heads_of, tails_of}
use Rattle.grammar.specs.Grammar.{sql}
use Rattle.descent.proofs.Named.{op_row, prefix_row, rest_of, head_row, own}
use Rattle.descent.proofs.SameRow.{eq_nt, eq_item, eq_items, eq_row, eq_found, same_found, below?, throughout}

-- kinds are 0 (the end) to 71
abbrev pub BOUND : ℕ
BOUND = 72

op_test : ℕ → Bool
op_test k = pick (eqb (strength_of k) 0) (eq_found (lookup Expr k sql.tails) none)
    (λ w. both (both (eqb (op_row k).str (strength_of k)) (both (eqb (op_row k).left (strength_of k)) (eqb (op_row k).cap 99))) (allb (λ C. eq_found (lookup C k sql.tails) (some (op_row k))) exprs))

ops_right : below? BOUND op_test ≡ true
unfolding op_test below? eq_found eq_row eq_items eq_item eq_nt op_row strength_of sql lines but_column exprs select_items values_items heads_of tails_of pick both allb mem lookup
ops_right = refl

head_test : ℕ → Bool
head_test k = allb (λ C. pick (mem k (own C)) true (λ w. eq_found (lookup C k sql.heads) (head_row C k))) exprs

heads_right : below? BOUND head_test ≡ true
unfolding head_test below? eq_found eq_row eq_items eq_item eq_nt head_row prefix_row rest_of own prefix_of literal_code is_name sql lines but_column exprs select_items values_items heads_of tails_of pick both allb mem lookup
heads_right = refl

-- ── what the tests say ──
op_facts : (k : ℕ) → k < BOUND → 0 < strength_of k
    → ((op_row k).str ≡ strength_of k) × ((op_row k).left ≡ strength_of k) × ((op_row k).cap ≡ 99) × (allb (λ C. eq_found (lookup C k sql.tails) (some (op_row k))) exprs ≡ true)
unfolding op_test
op_facts k h p = pick_inv (eqb (strength_of k) 0) _ _ true (throughout BOUND op_test ops_right k h)
    (λ z x. absurd (omega (arith, eqb_eq (strength_of k) 0 z)))
    (λ z x. let a = both_l (both (eqb (op_row k).str (strength_of k)) (both (eqb (op_row k).left (strength_of k)) (eqb (op_row k).cap 99))) (allb (λ C. eq_found (lookup C k sql.tails) (some (op_row k))) exprs) x in
    let b = both_r (eqb (op_row k).str (strength_of k)) (both (eqb (op_row k).left (strength_of k)) (eqb (op_row k).cap 99)) a in (
      eqb_eq (op_row k).str (strength_of k) (both_l (eqb (op_row k).str (strength_of k)) (both (eqb (op_row k).left (strength_of k)) (eqb (op_row k).cap 99)) a),
      eqb_eq (op_row k).left (strength_of k) (both_l (eqb (op_row k).left (strength_of k)) (eqb (op_row k).cap 99) b),
      eqb_eq (op_row k).cap 99 (both_r (eqb (op_row k).left (strength_of k)) (eqb (op_row k).cap 99) b),
      both_r (both (eqb (op_row k).str (strength_of k)) (both (eqb (op_row k).left (strength_of k)) (eqb (op_row k).cap 99))) (allb (λ C. eq_found (lookup C k sql.tails) (some (op_row k))) exprs) x,
    ))

pub tails_op : (C : ℕ) → mem C exprs ≡ true → (k : ℕ) → k < BOUND → 0 < strength_of k → lookup C k sql.tails ≡ some (op_row k)
tails_op C m k h p = same_found (lookup C k sql.tails) (some (op_row k)) (all_mem (λ C. eq_found (lookup C k sql.tails) (some (op_row k))) exprs C (op_facts k h p).3 m)

pub op_str : (k : ℕ) → k < BOUND → 0 < strength_of k → ((op_row k).str ≡ strength_of k) × ((op_row k).left ≡ strength_of k) × ((op_row k).cap ≡ 99)
op_str k h p = let f = op_facts k h p in (f.0, f.1, f.2)

pub tails_none : (k : ℕ) → k < BOUND → strength_of k ≡ 0 → lookup Expr k sql.tails ≡ none
unfolding op_test
tails_none k h p = pick_inv (eqb (strength_of k) 0) _ _ true (throughout BOUND op_test ops_right k h)
    (λ z x. same_found (lookup Expr k sql.tails) none x) (λ z x. 0≢1 (sym z ∙ eqb-true (strength_of k) 0 p))

pub heads_in : (C : ℕ) → mem C exprs ≡ true → (k : ℕ) → k < BOUND → mem k (own C) ≡ false → lookup C k sql.heads ≡ head_row C k
unfolding head_test
heads_in C m k h o = pick_inv (mem k (own C)) true _ true
    (all_mem (λ C. pick (mem k (own C)) true (λ w. eq_found (lookup C k sql.heads) (head_row C k))) exprs C (throughout BOUND head_test heads_right k h) m)
    (λ z x. 0≢1 (sym o ∙ z)) (λ z x. same_found (lookup C k sql.heads) (head_row C k) x)

-- ── an operator goes on, or does not ──
module _ (A : Nt) (m : mem A.of exprs ≡ true) (k : ℕ) (h : k < BOUND) (p : 0 < strength_of k) where
  pub cont_op : (q : Row) (cap : ℕ) → A.least ≤ strength_of k → strength_of k ≤ min q.str (min q.cap cap) → cont_of sql A q cap k ≡ some (op_row k)
  cont_op q cap a b = let s = op_str k h p in
      cont_some sql A q cap k (op_row k) (tails_op A.of m k h p) (le-leb A.least (op_row k).str (omega (arith, s.0, a)))
      (le-leb (op_row k).left q.str (omega (arith, s.1, b))) (le-leb (op_row k).left (min q.cap cap) (omega (arith, s.1, b)))

  -- it asks more of its left operand than that leaves
  pub cont_tight : (q : Row) (cap : ℕ) → min q.str (min q.cap cap) < strength_of k → cont_of sql A q cap k ≡ none
  cont_tight q cap a = not_found (cont_of sql A q cap k) (λ r e. let f = cont_found sql A q cap k r e in
      let z : some r ≡ some (op_row k) = sym f.0 ∙ tails_op A.of m k h p in let y : r ≡ op_row k = cc in
      let l = leb_le r.left q.str f.2 in let m = leb_le r.left (min q.cap cap) f.3 in let x : r.left ≡ (op_row k).left = ap (λ w. w.left) y in absurd (omega (arith, (op_str k h p).1, a, l, m, x)))

  -- it is looser than what is asked
  pub cont_loose : (q : Row) (cap : ℕ) → strength_of k < A.least → cont_of sql A q cap k ≡ none
  cont_loose q cap a = not_found (cont_of sql A q cap k) (λ r e. let f = cont_found sql A q cap k r e in
      let z : some r ≡ some (op_row k) = sym f.0 ∙ tails_op A.of m k h p in let y : r ≡ op_row k = cc in
      let l = leb_le A.least r.str f.1 in let x : r.str ≡ (op_row k).str = ap (λ w. w.str) y in absurd (omega (arith, (op_str k h p).0, a, l, x)))

pub cont_none : (s : ℕ) (q : Row) (cap k : ℕ) → k < BOUND → strength_of k ≡ 0 → cont_of sql (E s) q cap k ≡ none
cont_none s q cap k h p = not_found (cont_of sql (E s) q cap k) (λ r e. none≢some (sym (tails_none k h p) ∙ (cont_found sql (E s) q cap k r e).0))
