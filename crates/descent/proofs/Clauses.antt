-- An optional part of a word and an expression means what the grammar says (clause_ok), and WHERE, HAVING and ELSE are such (where_clause,
-- having_clause, else_clause). Assumes nothing.
use mathlib.Core.Bool.{true, false}
use mathlib.Core.List.{List, [], ◌∷◌}
use mathlib.Core.Option.{some}
use mathlib.Core.Path.{◌≡◌, refl, ap, ◌∙◌}
use Prim.Native.Nat.{ℕ, ◌+◌, suc}
use borrow.Author.Tests.{eqb-false}
use lib.Dec.{eqb}
use native.Mathlib.Omega.{arith}
use Rattle.theory.specs.Trees.{Tok, nt, Row, nil, add, node}
use Rattle.theory.specs.Table.{pick, mem, enter_of, null_of}
use Rattle.theory.proofs.Cases.{eqb_eq}
use Rattle.theory.proofs.Tested.{kinds_of}
use Rattle.kinds.specs.Kinds.{ELSE, WHERE, HAVING}
use Rattle.grammar.specs.Classes.{Where?, Having?, Else?, E, any}
use Rattle.grammar.specs.RowNames.{row_where, row_having, row_else}
use Rattle.grammar.specs.Rows.{part}
use Rattle.grammar.specs.Grammar.{sql}
use Rattle.grammar.specs.Limits.{is_query}
use Rattle.grammar.specs.Reading.{Val, empty, value_of, value, ◌#◌}
use Rattle.descent.proofs.Places.{kind_at, tok_at, OpenRow, rests}
use Rattle.descent.proofs.Walk.{missing, expr_w}
use Rattle.descent.proofs.Steps.{nt_got, nt_refused, call_in, call_absent, row_stop}
use Rattle.descent.proofs.ClassFacts.{out, none_of_1, firsts_Where, Where_at_WHERE, Where_may, firsts_Having, Having_at_HAVING, Having_may, firsts_Else, Else_at_ELSE, Else_may}
use Rattle.descent.proofs.Rules.{known, value_where, value_having, value_else}
use Rattle.descent.proofs.Means.{Good, Clause, ExprOK, ClauseOK}
use Rattle.descent.proofs.Common.{told_map, told_choose, told_done, expr_got, part_no_word}
use Rattle.descent.proofs.NoTails.{plain_classes, ends}
use Rattle.descent.proofs.Strong.{below_part}
use Rattle.descent.proofs.NodeRecords.{there, not_there}

-- the word's row, of one expression
abbrev word_row : ℕ → Row
word_row c = part c (nt (E 1) ∷ [])

word_clause : (C word code : ℕ) → enter_of sql (any C) word ≡ some (word_row code) → kinds_of C (λ q. true) sql.heads ≡ word ∷ [] → null_of sql (any C) ≡ true → mem C plain_classes ≡ true
    → is_query code ≡ false → ((l : Val) (t : Tok) (v : Val) → value_of code l t (v ∷ []) ≡ known code v) → Clause C word (word_row code)
word_clause C word code h o n e q v = record {
  here = h;
  only = λ k f. out C k (rw o (none_of_1 f));
  may = n;
  no_more = ends C e;
  items = refl;
  level = λ c. below_part (word_row code) c refl q;
  weak = refl;
  no_query = q;
  through = λ l t x. ap (λ z. z.nodes) (v l t x);
}

pub where_clause : Clause Where? WHERE (word_row row_where)
unfolding plain_classes mem pick is_query ◌#◌
where_clause = word_clause Where? WHERE row_where Where_at_WHERE firsts_Where Where_may refl refl (λ l t v. value_where l t (v ∷ []))

pub having_clause : Clause Having? HAVING (word_row row_having)
unfolding plain_classes mem pick is_query ◌#◌
having_clause = word_clause Having? HAVING row_having Having_at_HAVING firsts_Having Having_may refl refl (λ l t v. value_having l t (v ∷ []))

pub else_clause : Clause Else? ELSE (word_row row_else)
unfolding plain_classes mem pick is_query ◌#◌
else_clause = word_clause Else? ELSE row_else Else_at_ELSE firsts_Else Else_may refl refl (λ l t v. value_else l t (v ∷ []))

module _ (K T : List ℕ) (good : Good K T) (f : ℕ) where
  pub clause_ok : ExprOK K T f → ClauseOK K T (suc f)
  unfolding expr_w value
  clause_ok ok at c C word r w = told_choose (eqb (kind_at K at) word) _ _
      (λ z. let F : OpenRow = record { c = c; A = any C; r = r; l = nil; t = tok_at K T at } in
      let in' = call_in K T good.sound c (any C) at r (rw (eqb_eq (kind_at K at) word z) w.here) (part_no_word c r (tok_at K T at) w.no_query w.weak)
      ∙ ap (λ z. rests K T F z nil (at + 1)) w.items in
      told_map (expr_w K T f (at + 1) c 1) (expr_got K T good f ok (at + 1) c 1 (omega arith) (omega arith))
      (λ a s m rs p. let same = w.through empty (tok_at K T at) (value p.0) in let o = there (value (node r nil (tok_at K T at) (add nil p.0))) (value p.0) same p.2.single in (
        node r nil (tok_at K T at) (add nil p.0),
        in' ∙ nt_got K T good.sound F (E 1) [] nil (at + 1) (rw (w.level c) p.1) ∙ row_stop K T good.sound F (add nil p.0) a (w.no_more r _ (kind_at K a)),
        (p.3 ∙ o.1, o.0),
      ))
      (λ m p q. in' ∙ nt_refused K T good.sound F (E 1) [] nil (at + 1) (rw (w.level c) q)))
      (λ z. told_done at 0 0 (missing ∷ []) (nil, call_absent K T good.sound c (any C) at (w.only (kind_at K at) (eqb-false (kind_at K at) word z)) w.may, ((not_there (value nil) refl).1, (not_there (value nil) refl).0)))
