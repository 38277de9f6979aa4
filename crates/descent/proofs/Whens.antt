-- The pairs WHEN expression THEN expression of CASE mean what the grammar says: the first and those after it (whens_ok), and those after
-- some (further_whens_ok). word_ok: a word that is there, and an expression. Assumes nothing.
use mathlib.Core.List.{List, [], ◌∷◌, ◌++◌, append_assoc, append-nil}
use mathlib.Core.Path.{◌≡◌, refl, sym, ap, ◌∙◌}
use Prim.Native.Nat.{ℕ, ◌+◌, suc}
use borrow.Author.Tests.{eqb-false}
use lib.Dec.{eqb}
use native.Mathlib.Omega.{arith}
use Rattle.theory.specs.Trees.{Tok, lit, nt, Tree, nil, add, leaf, node}
use Rattle.theory.specs.Table.{pick, both, mem, lookup}
use Rattle.theory.proofs.Cases.{eqb_eq}
use Rattle.theory.proofs.Tested.{kinds_of}
use Rattle.kinds.specs.Kinds.{WHEN, THEN}
use Rattle.grammar.specs.Classes.{Whens?, E, any}
use Rattle.grammar.specs.Rows.{begins, goes, but_column, exprs, select_items, values_items, lines, heads_of, tails_of}
use Rattle.grammar.specs.Grammar.{sql}
use Rattle.grammar.specs.Limits.{is_query, below}
use Rattle.grammar.specs.Nodes.{count, beside, records}
use Rattle.grammar.specs.Reading.{empty, side, value}
use Rattle.descent.proofs.Places.{kind_at, tok_at, OpenRow}
use Rattle.descent.proofs.Walk.{expr_w, after_w, when_w}
use Rattle.descent.proofs.Grown.{recs}
use Rattle.descent.proofs.Steps.{nt_got, nt_refused}
use Rattle.descent.proofs.ClassFacts.{firsts_Whens, Whens_at_WHEN, Whens_may}
use Rattle.descent.proofs.Rules.{value_next_when}
use Rattle.descent.proofs.Means.{Single, Good, next_when, ExprOK, AfterOK, WordOK, FurtherWhensOK, WhensOK}
use Rattle.descent.proofs.Common.{told_map, told_bind, told_onto, told_choose, told_done, expr_got}
use Rattle.descent.proofs.Sides.{single_count}
use Rattle.descent.proofs.Strong.{below_part}
use Rattle.descent.proofs.Values.{recs_all_3, count_3}
use Rattle.descent.proofs.ListLaw.{ListClass, list_begins, list_absent, list_on, list_stop}

whens_list : ListClass Whens? WHEN next_when
unfolding sql lines but_column exprs select_items values_items heads_of tails_of pick both mem lookup kinds_of is_query
whens_list = record { begins = Whens_at_WHEN; only = firsts_Whens; goes = refl; goes_only = refl; may = Whens_may; weak = refl; loose = refl; no_query = refl }

-- a further pair
module _ (l : Tree) (u : Tok) (x : Tree) (v : Tok) (z : Tree) where
  abbrev pair : Tree
  pair = node next_when l u (add (add (add nil x) (leaf v)) z)

  nodes_pair : (value pair).nodes ≡ side (value l ∷ value x ∷ value z ∷ [])
  unfolding value side beside
  nodes_pair = ap (λ z. z.nodes) (value_next_when (value l) u (value x ∷ empty ∷ value z ∷ []))

  recs_pair : recs (value pair) ≡ recs (value l) ++ (recs (value x) ++ recs (value z))
  recs_pair = ap records nodes_pair ∙ recs_all_3 (value l) (value x) (value z)

  count_pair : Single (value x).nodes → Single (value z).nodes → count (value pair).nodes ≡ count (value l).nodes + 2
  count_pair s t = ap count nodes_pair ∙ count_3 (value l) (value x) (value z) ∙ rw (single_count (value x).nodes s, single_count (value z).nodes t) (omega arith)

module _ (K T : List ℕ) (good : Good K T) (f : ℕ) where
  pub word_ok : ExprOK K T f → WordOK K T (suc f)
  unfolding expr_w
  word_ok ok at word c s h m e = told_choose (eqb (kind_at K at) word) _ _ (λ z. told_map (expr_w K T f (at + 1) c s) (expr_got K T good f ok (at + 1) c s h m) (λ a u n rs p. (p.0, p.1, p.2, p.3)) (λ m p q. q)) (λ z. absurd (eqb-false (kind_at K at) word z e))

  pub further_whens_ok : WordOK K T f → AfterOK K T f → FurtherWhensOK K T f → FurtherWhensOK K T (suc f)
  unfolding expr_w mem pick
  further_whens_ok word after next at c n x e = told_bind (after_w K T f at WHEN c 1) _ (word at WHEN c 1 (omega arith) (omega arith) e)
      (λ a s m rs p. let first = nt_got K T good.sound F (E 1) (lit THEN ∷ nt (E 1) ∷ []) nil (at + 1) (rw inside p.1) in
      told_bind (after_w K T f a THEN c 1) _ (after a THEN c 1 F [] (add nil p.0) (omega arith) (omega arith) (omega arith) inside refl)
      (λ b s m qs q. let cp = count_pair x (tok_at K T at) p.0 (tok_at K T a) q.0 p.2.single q.2.single in let rp = recs_pair x (tok_at K T at) p.0 (tok_at K T a) q.0 in
      told_choose (eqb (kind_at K b) WHEN) _ _
      (λ z. let w = eqb_eq (kind_at K b) WHEN z in let on = first ∙ q.1 ∙ list_on K T good whens_list c next_when x (tok_at K T at) _ b w in
      told_onto (rs ++ qs) (when_w K T f b c (n + 2)) (next b c (n + 2) (pair x (tok_at K T at) p.0 (tok_at K T a) q.0) w)
      (λ d s m ps g. (g.0, on ∙ g.1, omega (arith, g.2, cp), g.3 ∙ ap (λ z. z ++ ps) rp ∙ append_assoc (recs (value x)) _ ps ∙ rw (p.3, q.3)))
      (λ m p g. on ∙ g))
      (λ z. told_done b 0 (n + 2) (rs ++ qs) (
        pair x (tok_at K T at) p.0 (tok_at K T a) q.0,
        first ∙ q.1 ∙ list_stop K T good whens_list c next_when x (tok_at K T at) _ b (eqb-false (kind_at K b) WHEN z),
        omega (arith, cp),
        rp ∙ rw (p.3, q.3),
      )))
      (λ m p q. first ∙ q))
      (λ m p q. nt_refused K T good.sound F (E 1) (lit THEN ∷ nt (E 1) ∷ []) nil (at + 1) (rw inside q))
    where
      F : OpenRow
      F = record { c = c; A = any Whens?; r = next_when; l = x; t = tok_at K T at }

      inside : below next_when c ≡ c
      inside = below_part next_when c whens_list.weak whens_list.no_query

  pub whens_ok : AfterOK K T f → FurtherWhensOK K T f → WhensOK K T (suc f)
  unfolding expr_w value count records
  whens_ok after next at c n F is k e j = told_bind (after_w K T f at WHEN c 1) _ (after at WHEN c 1 F (lit THEN ∷ nt (E 1) ∷ nt (any Whens?) ∷ is) k (omega arith) (omega arith) (omega arith) e j)
      (λ a s m rs p. told_bind (after_w K T f a THEN c 1) _ (after a THEN c 1 F (nt (any Whens?) ∷ is) _ (omega arith) (omega arith) (omega arith) e j)
      (λ b s m qs q. told_choose (eqb (kind_at K b) WHEN) _ _
      (λ z. let w = eqb_eq (kind_at K b) WHEN z in let on = list_begins K T good whens_list c b w in
      told_onto (rs ++ qs) (when_w K T f b c (n + 2)) (next b c (n + 2) nil w)
      (λ d s m ps g. (
        tok_at K T at,
        p.0,
        tok_at K T a,
        q.0,
        g.0,
        p.1 ∙ q.1 ∙ nt_got K T good.sound F (any Whens?) is _ b (rw e (on ∙ g.1)),
        omega (arith, g.2),
        p.2.single,
        q.2.single,
        rw (p.3, q.3, g.3) (append_assoc (recs (value p.0)) (recs (value q.0)) ps),
      ))
      (λ m v g. p.1 ∙ q.1 ∙ nt_refused K T good.sound F (any Whens?) is _ b (rw e (on ∙ g))))
      (λ z. told_done b 0 (n + 2) (rs ++ qs) (
        tok_at K T at,
        p.0,
        tok_at K T a,
        q.0,
        nil,
        p.1 ∙ q.1 ∙ nt_got K T good.sound F (any Whens?) is _ b (rw e (list_absent K T good whens_list c b (eqb-false (kind_at K b) WHEN z))),
        omega arith,
        p.2.single,
        q.2.single,
        rw (p.3, q.3) (ap (λ z. recs (value p.0) ++ z) (sym (append-nil (recs (value q.0))))),
      )))
      (λ m v q. p.1 ∙ q))
      (λ m p q. q)
