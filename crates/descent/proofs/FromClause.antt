-- FROM is read as the grammar says: a source, then joins; or it is absent (from_w). Assumes nothing.
use mathlib.Core.List.{List, [], ◌∷◌, ◌++◌}
use mathlib.Core.Path.{◌≡◌, refl, ap, ◌∙◌}
use Prim.Native.Nat.{ℕ, ◌+◌, suc}
use borrow.Author.Tests.{eqb-false}
use lib.Dec.{eqb}
use native.Mathlib.Omega.{arith}
use Rattle.theory.specs.Trees.{nt, Row, nil, add, node}
use Rattle.theory.specs.Table.{pick, mem, enter_of}
use Rattle.theory.proofs.Cases.{eqb_eq}
use Rattle.kinds.specs.Kinds.{FROM}
use Rattle.grammar.specs.Classes.{Source, From?, Joins?, any}
use Rattle.grammar.specs.RowNames.{row_from}
use Rattle.grammar.specs.NodeNames.{node_from}
use Rattle.grammar.specs.Rows.{part}
use Rattle.grammar.specs.Grammar.{sql}
use Rattle.grammar.specs.Limits.{is_query, below}
use Rattle.grammar.specs.Nodes.{count, Rec, records}
use Rattle.grammar.specs.Reading.{Val, empty, one, opt, rules, ruled, value_of, value, values}
use Rattle.theory.proofs.Lists.{more}
use Rattle.descent.proofs.Places.{kind_at, tok_at}
use Rattle.descent.proofs.Walk.{missing, over, from_w, joins_w, source_w}
use Rattle.descent.proofs.Grown.{recs}
use Rattle.descent.proofs.Steps.{nt_got, nt_refused}
use Rattle.descent.proofs.ClassFacts.{none_of_1, firsts_From, From_at_FROM, From_may}
use Rattle.descent.proofs.Means.{Single, Good, FromOK, SourceOK, JoinsOK}
use Rattle.descent.proofs.Common.{told_bind, told_choose, told_done}
use Rattle.descent.proofs.NoTails.{plain_classes}
use Rattle.descent.proofs.Sides.{single_count, one_single}
use Rattle.descent.proofs.PlainClasses.{opened, begin, whole, absent}
use Rattle.descent.proofs.NodeRecords.{there, not_there, one_beside, last_beside, beside_is, over_beside}

abbrev from_row : Row
from_row = part row_from (nt (any Source) ∷ nt (any Joins?) ∷ [])

from_records : (m : ℕ) (rs qs : List Rec) (s j u : Val) → rs ≡ recs s → Single s.nodes → recs j ≡ qs → 0 + count j.nodes ≡ m + 0 → u.nodes ≡ (one node_from 0 (s ∷ j ∷ [])).nodes
    → (over 8 0 (m + 1) 0 (rs ++ qs) ≡ recs (opt u)) × Single (opt u).nodes
from_records m rs qs s j u e p g n w =
    let t = there u (one node_from 0 (s ∷ j ∷ [])) w (one_single 8 0 (s ∷ j ∷ [])) in
    let b = one_beside s (j ∷ []) (recs j) 1 (count j.nodes) (single_count s.nodes p) (last_beside j (count j.nodes) refl) in
    (over_beside 8 0 (m + 1) (s ∷ j ∷ []) (rs ++ qs) (beside_is (s ∷ j ∷ []) (recs s ++ recs j) (rs ++ qs) (1 + count j.nodes) (m + 1) b (rw (e, g) refl) (omega (arith, n))) ∙ t.1, t.0)

module _ (K T : List ℕ) (good : Good K T) (f : ℕ) where
  pub from_ok : SourceOK K T f → JoinsOK K T f → FromOK K T (suc f)
  unfolding from_w more is_query below pick plain_classes mem value values value_of ruled rules records count
  from_ok so jo at c = told_choose (eqb (kind_at K at) FROM) _ _
      (λ z. let F = opened K T c From? from_row at in let b = begin K T good c From? from_row at (ap (enter_of sql (any From?)) (eqb_eq (kind_at K at) FROM z) ∙ From_at_FROM) refl refl in
      told_bind (source_w K T f (at + 1) c) _ (so (at + 1) c)
      (λ a x n rs p. let g = b ∙ nt_got K T good.sound F (any Source) (nt (any Joins?) ∷ []) nil (at + 1) p.1 in
      told_bind (joins_w K T f a c 0) _ (jo a c 0 nil tt)
      (λ d x m qs q. let k = add (add nil p.0) q.0 in told_done d 0 0 (over 8 0 (m + 1) 0 (rs ++ qs)) (
        node from_row nil (tok_at K T at) k,
        g ∙ nt_got K T good.sound F (any Joins?) [] (add nil p.0) a q.1 ∙ whole K T good c From? from_row at k d refl,
        from_records m rs qs (value p.0) (value q.0) (value (node from_row nil (tok_at K T at) k)) p.2.0 p.2.1 q.3 q.2 refl,
      ))
      (λ m i e. g ∙ nt_refused K T good.sound F (any Joins?) [] (add nil p.0) a e))
      (λ m i e. b ∙ nt_refused K T good.sound F (any Source) (nt (any Joins?) ∷ []) nil (at + 1) e))
      (λ z. let t = not_there empty refl in told_done at 0 0 (missing ∷ []) (
        nil,
        absent K T good c From? at (ap (mem (kind_at K at)) firsts_From ∙ none_of_1 (eqb-false (kind_at K at) FROM z)) From_may,
        (t.1, t.0),
      ))
