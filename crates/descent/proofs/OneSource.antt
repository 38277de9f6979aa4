-- A source of FROM is read as the grammar says: a table, or a query in parentheses with an optional alias (lent_w, source_w). Assumes nothing.
use mathlib.Core.Bool.{true}
use mathlib.Core.List.{List, [], ◌∷◌, ◌++◌}
use mathlib.Core.Path.{◌≡◌, refl, sym, ap, ◌∙◌}
use Prim.Native.Nat.{ℕ, ◌+◌, suc}
use lib.Dec.{eqb}
use native.Mathlib.Omega.{arith}
use Rattle.theory.specs.Trees.{lit, nt, Row, Tree, nil, add, leaf, node}
use Rattle.theory.specs.Table.{pick, mem, enter_of}
use Rattle.theory.specs.Outcome.{got, refused}
use Rattle.theory.proofs.Cases.{eqb_eq}
use Rattle.kinds.specs.Kinds.{LP, RP}
use Rattle.grammar.specs.Classes.{Query, Source, Alias?, any}
use Rattle.grammar.specs.RowNames.{row_query_source}
use Rattle.grammar.specs.NodeNames.{node_query_source}
use Rattle.grammar.specs.Rows.{part, select_items, values_items}
use Rattle.grammar.specs.Grammar.{sql}
use Rattle.grammar.specs.Limits.{Around, is_query, below}
use Rattle.grammar.specs.Nodes.{Rec}
use Rattle.grammar.specs.Reading.{Val, one, opt, is_query_val, rules, ruled, value_of, value, values, ◌#◌}
use Rattle.descent.proofs.Places.{kind_at, tok_at, from, wrong, rests}
use Rattle.descent.proofs.Walk.{over, alias_w, lent_w, query_w, source_w}
use Rattle.descent.proofs.Grown.{recs}
use Rattle.descent.proofs.Steps.{nt_got, nt_refused}
use Rattle.descent.proofs.ClassFacts.{out, none_of_2, firsts_Query, Query_at_SELECT, Query_at_VALUES, Query_may, Source_at_LP}
use Rattle.descent.proofs.Means.{Single, Told, Good, Reads, QueryOK, SourceOK}
use Rattle.descent.proofs.Common.{told_bind, told_map, told_choose, told_done, told_stop}
use Rattle.descent.proofs.NoTails.{plain_classes}
use Rattle.descent.proofs.Sides.{one_single}
use Rattle.descent.proofs.PlainClasses.{opened, begin, whole, took, not_took}
use Rattle.descent.proofs.NodeRecords.{beside_two, over_beside}
use Rattle.descent.proofs.Alias.{alias_ok}
use Rattle.descent.proofs.TableSource.{table_ok}

abbrev lent_row : Row
lent_row = part row_query_source (nt (any Query) ∷ lit RP ∷ nt (any Alias?) ∷ [])

lent_records : (rs qs : List Rec) (mode : ℕ) (q a : Val) → rs ≡ recs q → Single q.nodes → (mode ≡ a.num) × Single (opt a).nodes × (qs ≡ recs (opt a))
    → over 13 mode 2 0 (rs ++ qs) ≡ recs (one node_query_source a.num (q ∷ opt a ∷ []))
lent_records rs qs mode q a e s p = rw (e, p.0, p.2) (over_beside 13 a.num 2 (q ∷ opt a ∷ []) (recs q ++ recs (opt a)) (beside_two q (opt a) s p.1))

module _ (K T : List ℕ) (good : Good K T) (f : ℕ) where
  -- a query where no row goes on from it
  pub query_got : QueryOK K T f → (at : ℕ) (c : Around) → Reads K T c (any Query) at (query_w K T f at c) (λ y s m rs. (rs ≡ recs (value y)) × Single (value y).nodes × (is_query_val (value y) ≡ true))
  unfolding plain_classes mem pick select_items values_items value value_of
  query_got ok at c = told_map (query_w K T f at c)
      (ok at c (any Query) [] Query_at_SELECT Query_at_VALUES (λ s v. (out Query (kind_at K at) (ap (mem (kind_at K at)) firsts_Query ∙ none_of_2 s v), Query_may)))
      (λ a s n rs p. (
        node p.0 nil (tok_at K T at) p.1,
        p.2 ∙ whole K T good c Query p.0 at p.1 a refl,
        (sym p.7.records, p.7.single, p.3),
      ))
      (λ m i e. e)

  lent_ok : (at : ℕ) (c : Around) (n : ℕ) (q : Tree) (rs : List Rec) → rs ≡ recs (value q) → Single (value q).nodes
      → Told (lent_w K T n rs)
      (λ a s m rs. (y : Tree) × (rests K T (opened K T c Source lent_row at) (lit RP ∷ nt (any Alias?) ∷ []) (add nil q) n ≡ got y a (from K T a)) × ((rs ≡ recs (value y)) × Single (value y).nodes))
      (λ m p. rests K T (opened K T c Source lent_row at) (lit RP ∷ nt (any Alias?) ∷ []) (add nil q) n ≡ refused m p)
  unfolding lent_w is_query below pick plain_classes mem value values value_of ruled rules ◌#◌
  lent_ok at c n q rs e s = let F = opened K T c Source lent_row at in
      told_choose (eqb (kind_at K n) RP) _ _
      (λ z. let l = took K T good F RP (nt (any Alias?) ∷ []) (add nil q) n (omega arith) refl z in let k = add (add nil q) (leaf (tok_at K T n)) in
      told_bind (alias_w K T (n + 1)) _ (alias_ok K T good (n + 1) c)
      (λ a mode m qs p. told_done a 0 0 (over 13 mode 2 0 (rs ++ qs)) (
        node lent_row nil (tok_at K T at) (add k p.0),
        l ∙ nt_got K T good.sound F (any Alias?) [] k (n + 1) p.1 ∙ whole K T good c Source lent_row at (add k p.0) a refl,
        (lent_records rs qs mode (value q) (value p.0) e s p.2, one_single 13 (value p.0).num (value q ∷ opt (value p.0) ∷ [])),
      ))
      (λ m i e. l ∙ nt_refused K T good.sound F (any Alias?) [] k (n + 1) e))
      (λ z. told_stop (wrong (kind_at K n)) n (not_took K T good F RP (nt (any Alias?) ∷ []) (add nil q) n (omega arith) z))

  pub source_ok : QueryOK K T f → SourceOK K T (suc f)
  unfolding source_w is_query below pick
  source_ok ok at c = let F = opened K T c Source lent_row at in
      told_choose (eqb (kind_at K at) LP) _ _
      (λ z. let b = begin K T good c Source lent_row at (ap (enter_of sql (any Source)) (eqb_eq (kind_at K at) LP z) ∙ Source_at_LP) refl refl in
      told_bind (query_w K T f (at + 1) c) _ (query_got ok (at + 1) c)
      (λ a x n rs p. told_map (lent_w K T a rs) (lent_ok at c a p.0 rs p.2.0 p.2.1)
      (λ d s m qs q. (q.0, b ∙ nt_got K T good.sound F (any Query) (lit RP ∷ nt (any Alias?) ∷ []) nil (at + 1) p.1 ∙ q.1, q.2))
      (λ m i e. b ∙ nt_got K T good.sound F (any Query) (lit RP ∷ nt (any Alias?) ∷ []) nil (at + 1) p.1 ∙ e))
      (λ m i e. b ∙ nt_refused K T good.sound F (any Query) (lit RP ∷ nt (any Alias?) ∷ []) nil (at + 1) e))
      (table_ok K T good at c)
