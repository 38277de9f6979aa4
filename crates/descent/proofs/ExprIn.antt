-- An expression in a class that takes one and may have more: it is read (expr_in), and where the next token is none of the class's own tails
-- it ends (expr_ends), else it goes on by the tail's row (again_on). Where no expression begins the walk stops there (expr_absent), and a
-- class that may be absent is (absent_in). Assumes nothing.
use mathlib.Core.Bool.{true, false}
use mathlib.Core.List.{List}
use mathlib.Core.Logic.{inl, inr}
use mathlib.Core.Option.{some, none, Option}
use mathlib.Core.Path.{◌≡◌, refl, sym, ◌∙◌, subst}
use Prim.Native.Nat.{ℕ, ◌+◌, ◌≤◌, ◌<◌}
use native.Mathlib.Omega.{arith}
use Rattle.theory.specs.Trees.{Tok, Nt, Row, Tree, nil, cap_of}
use Rattle.theory.specs.Table.{pick, mem, lookup, enter_of, cont_of, null_of}
use Rattle.theory.specs.Outcome.{got, refused}
use Rattle.theory.proofs.Cases.{0≢1}
use Rattle.theory.proofs.Tested.{asked_none}
use Rattle.kinds.specs.Classes.{begins_expr}
use Rattle.grammar.specs.Classes.{Expr, Column, E, any}
use Rattle.grammar.specs.Rows.{exprs}
use Rattle.grammar.specs.Grammar.{sql}
use Rattle.grammar.specs.Limits.{Around}
use Rattle.grammar.specs.Nodes.{Rec}
use Rattle.grammar.specs.Reading.{column, value}
use Rattle.descent.proofs.Places.{kind_at, tok_at, from, wrong, calls, rests, again}
use Rattle.descent.proofs.Named.{head_row, own}
use Rattle.descent.proofs.Walk.{expr_w}
use Rattle.descent.proofs.Grown.{recs}
use Rattle.descent.proofs.TableFacts.{BOUND, heads_in}
use Rattle.descent.proofs.Steps.{call_absent, call_wrong, row_on}
use Rattle.descent.proofs.ClassFacts.{E_may}
use Rattle.descent.proofs.Means.{ExprTree, Exprd, Takes, Told, Good, Stops, ExprOK}
use Rattle.descent.proofs.Common.{told_map, again_got, expr_got, goes_no_word}
use Rattle.descent.proofs.Heads.{is_there, begins_head}
use Rattle.descent.proofs.Tails.{others, stops_in}

pub takes_any : (C : ℕ) → mem C exprs ≡ true → (C ≡ Column → ⊥) → Takes (any C) 1
takes_any C m o = record { among = m; enough = λ k a b. omega arith; loose = λ k a b. absurd (omega (arith, a, b)); column = λ e. absurd (omega (arith, e)); other = λ a e. o e; most = omega arith }

not_there : (o : Option Row) → is_there o ≡ false → o ≡ none
unfolding is_there
not_there none e = refl
not_there (some r) e = 0≢1 (sym e)

no_head : (C s k : ℕ) → mem C exprs ≡ true → k < BOUND → mem k (own C) ≡ false → begins_expr k ≡ false → enter_of sql (record { of = C; least = s }) k ≡ none
unfolding enter_of
no_head C s k m h o b = asked_none s (lookup C k sql.heads) (heads_in C m k h o ∙ not_there (head_row C k) (sym (begins_head C m k h) ∙ b))

got≢refused : {X : Type 0} {y : Tree} {a : ℕ} {us : List Tok} {m p : ℕ} → got y a us ≡ refused m p → X
got≢refused e = absurd (let z : ◌≡◌ {A = ℕ} 0 1 = cc in omega arith)

same_refusal : {m p m' p' : ℕ} → refused m p ≡ refused m' p' → (m ≡ m') × (p ≡ p')
same_refusal e = (cc, cc)

module _ (K T : List ℕ) (good : Good K T) where
  pub again_on : (c : Around) (A : Nt) (y : Tree) (said n : ℕ) (q : Row) (e : ExprTree y said) → cont_of sql A e.r (cap_of e.k) (kind_at K n) ≡ some q
      → again K T c A y n ≡ rests K T (record { c = c; A = A; r = q; l = y; t = tok_at K T n }) q.items nil (n + 1)
  unfolding again
  again_on c A y said n q e o = subst (λ z. again K T c A z n ≡ rests K T (record { c = c; A = A; r = q; l = z; t = tok_at K T n }) q.items nil (n + 1)) (sym e.is)
      (row_on K T good.sound (record { c = c; A = A; r = e.r; l = e.l; t = e.t }) e.k n q o (goes_no_word c q e.r e.l e.t (tok_at K T n) e.k))

  pub expr_ends : (c : Around) (A : Nt) (y : Tree) (s said n : ℕ) → mem A.of exprs ≡ true → s ≤ 1 → ExprTree y said → Stops K T s said n → mem (kind_at K n) (others A.of) ≡ false
      → again K T c A y n ≡ got y n (from K T n)
  expr_ends c A y s said n m h e st o = again_got K T good c A y said n e (stops_in K T good A e.r (cap_of e.k) s said n m h e.leaves st o)

  pub absent_in : (c : Around) (C n : ℕ) → mem C exprs ≡ true → mem (kind_at K n) (own C) ≡ false → null_of sql (any C) ≡ true → begins_expr (kind_at K n) ≡ false
      → calls K T c (any C) n ≡ got nil n (from K T n)
  absent_in c C n m o z b = call_absent K T good.sound c (any C) n (no_head C 0 (kind_at K n) m (good.bound n) o b) z

  module _ (f : ℕ) (ok : ExprOK K T f) (at : ℕ) (c : Around) where
    pub expr_in : (C : ℕ) → Takes (any C) 1 → mem (kind_at K at) (own C) ≡ false → (null_of sql (any C) ≡ true → begins_expr (kind_at K at) ≡ true)
        → Told (expr_w K T f at c 1)
        (λ a said n rs. (y : Tree) × (calls K T c (any C) at ≡ again K T c (any C) y a) × ExprTree y said × Stops K T 1 said a × (rs ≡ recs (value y)))
        (λ m p. calls K T c (any C) at ≡ refused m p)
    expr_in C t o b = told_map (expr_w K T f at c 1) (ok at c 1 (any C) t o b) (λ a said n rs p. no_star a said n rs p) (λ m p e. e)
      where
        no_star : (a said n : ℕ) (rs : List Rec) → (y : Tree) × (calls K T c (any C) at ≡ again K T c (any C) y a) × Exprd y said 1 × Stops K T 1 said a × (rs ≡ recs (value y))
            → (y : Tree) × (calls K T c (any C) at ≡ again K T c (any C) y a) × ExprTree y said × Stops K T 1 said a × (rs ≡ recs (value y))
        no_star a said n rs (y, e, inl t, st, r) = (y, e, t.0, st, r)
        no_star a said n rs (y, e, inr z, st, r) = absurd (omega (arith, z.1))

    pub expr_absent : begins_expr (kind_at K at) ≡ false → Told (expr_w K T f at c 1) (λ a said n rs. ⊥) (λ m p. (m ≡ wrong (kind_at K at)) × (p ≡ at))
    unfolding exprs own mem pick
    expr_absent b = let no = call_wrong K T good.sound c (E 1) at (no_head Expr 1 (kind_at K at) refl (good.bound at) refl b) (E_may 1 (omega arith)) in
        told_map (expr_w K T f at c 1) (expr_got K T good f ok at c 1 (omega arith) (omega arith))
        (λ a said n rs p. got≢refused (sym p.1 ∙ no)) (λ m p e. same_refusal (sym e ∙ no))
