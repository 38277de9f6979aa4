-- Lists of expressions: the walk over a list, and over the members after a separator, mean what the grammar says. Assumes nothing.
use mathlib.Core.List.{List, [], ◌∷◌}
use mathlib.Core.Path.{◌≡◌, refl, ap}
use Prim.Native.Nat.{ℕ, ◌+◌, suc}
use native.Mathlib.Omega.{arith}
use Rattle.theory.specs.Trees.{Tree, nil}
use Rattle.theory.specs.Table.{pick, both, mem, lookup}
use Rattle.theory.specs.Outcome.{got, refused}
use Rattle.theory.proofs.Tested.{kinds_of}
use Rattle.kinds.specs.Kinds.{COMMA}
use Rattle.grammar.specs.Classes.{Exprs?, E}
use Rattle.grammar.specs.Rows.{begins, goes, but_column, exprs, select_items, values_items, lines, heads_of, tails_of}
use Rattle.grammar.specs.Grammar.{sql}
use Rattle.grammar.specs.Limits.{Around, is_query}
use Rattle.grammar.specs.Nodes.{count}
use Rattle.grammar.specs.Reading.{value}
use Rattle.descent.proofs.Places.{tok_at, from, calls}
use Rattle.descent.proofs.Walk.{expr_w, list_w}
use Rattle.descent.proofs.Grown.{recs}
use Rattle.descent.proofs.ClassFacts.{firsts_Exprs, Exprs_at_COMMA, Exprs_may}
use Rattle.descent.proofs.Rules.{value_next_expr}
use Rattle.descent.proofs.Means.{ExprTree, Told, Good, next_expr, ExprOK, ExprsOK, ListOK}
use Rattle.descent.proofs.Common.{told_map, expr_got}
use Rattle.descent.proofs.Sides.{single_count}
use Rattle.descent.proofs.ListLaw.{ListClass, ListRule, looped, firsts}

abbrev pub One : Tree → Type 0
One y = (i : ℕ) × ExprTree y i

one_counts : (y : Tree) → One y → count (value y).nodes ≡ 1
one_counts y p = single_count (value y).nodes p.1.single

pub exprs_list : ListClass Exprs? COMMA next_expr
unfolding sql lines but_column exprs select_items values_items heads_of tails_of pick both mem lookup kinds_of is_query
exprs_list = record { begins = Exprs_at_COMMA; only = firsts_Exprs; goes = refl; goes_only = refl; may = Exprs_may; weak = refl; loose = refl; no_query = refl }

exprs_rule : ListRule next_expr (E 1) (λ v. v)
exprs_rule = record { items = refl; through = λ l t v. ap (λ z. z.nodes) (value_next_expr l t (v ∷ [])) }

module _ (K T : List ℕ) (good : Good K T) (f : ℕ) where
  member : ExprOK K T f → (at : ℕ) (c : Around)
      → Told (expr_w K T f at c 1) (λ a s m rs. (y : Tree) × (calls K T c (E 1) at ≡ got y a (from K T a)) × One y × (rs ≡ recs (value y))) (λ m p. calls K T c (E 1) at ≡ refused m p)
  member ok at c = told_map (expr_w K T f at c 1) (expr_got K T good f ok at c 1 (omega arith) (omega arith)) (λ a s n rs p. (p.0, p.1, (s, p.2), p.3)) (λ m p e. e)

  pub exprs_ok : ExprOK K T f → ExprsOK K T f → ExprsOK K T (suc f)
  unfolding expr_w
  exprs_ok ok next at c n x u = looped K T good exprs_list (λ v. v) exprs_rule One one_counts c at n x u (expr_w K T f at c 1) (λ b. list_w K T f b c (n + 1)) (member ok at c)
      (λ a z. next (a + 1) c (n + 1) z (tok_at K T a))

  pub list_ok : ExprOK K T f → ExprsOK K T f → ListOK K T (suc f)
  unfolding expr_w
  list_ok ok next at c n F is k e = firsts K T good exprs_list (λ v. v) exprs_rule One one_counts c at n F is k (expr_w K T f at c 1) (λ b. list_w K T f b c (n + 1)) e (member ok at c)
      (λ a. next (a + 1) c (n + 1) nil (tok_at K T a))
