-- What an operator makes: one node over its left operand and what comes after it, with the walk's records (made); of a binary operator,
-- whatever came before its right operand (binary_goes). Assumes nothing.
use mathlib.Core.List.{List, [], ◌∷◌, ◌++◌}
use mathlib.Core.Path.{◌≡◌, sym, ap, ◌∙◌}
use Prim.Native.Nat.{ℕ, ◌+◌, ◌≤◌}
use lib.ListN.{length}
use mathlib.Core.Bool.{false}
use Rattle.theory.specs.Table.{mem}
use Rattle.theory.specs.Trees.{Nt, nt, Tree, add, node, cap_of}
use Rattle.grammar.specs.NodeNames.{node_binary}
use Rattle.grammar.specs.Limits.{Around, below}
use Rattle.grammar.specs.Nodes.{Nodes, count, Rec, records}
use Rattle.grammar.specs.Reading.{Val, side, one, value}
use Rattle.descent.proofs.Places.{kind_at, OpenRow}
use Rattle.descent.proofs.Named.{own}
use Rattle.descent.proofs.Walk.{over, binary_w}
use Rattle.descent.proofs.Grown.{recs}
use Rattle.descent.proofs.Steps.{nt_got, nt_refused}
use Rattle.descent.proofs.Means.{Single, Right, Good, Goes, BinaryOK}
use Rattle.descent.proofs.Common.{told_map}
use Rattle.descent.proofs.Sides.{single_count, beside_end, recs_over}
use Rattle.descent.proofs.Strong.{expr_cap}

pub made : (code d n pre : ℕ) (vs : List Val) (ns : Nodes) (v l : Val) (rs : List Rec) → v.num ≡ 0 → v.nodes ≡ (one code d (l ∷ vs)).nodes → side vs ≡ ns → count ns + 1 ≡ n
    → Single l.nodes → length (recs l) ≡ pre → rs ≡ over code d n pre (records ns) → (v.num ≡ 0) × Single v.nodes × (recs v ≡ recs l ++ rs)
made code d n pre vs ns v l rs z e q c s p r = (z, (code, d, side (l ∷ vs), e), ap records e ∙ recs_over code d n pre l vs ns s p q c ∙ ap (λ u. recs l ++ u) (sym r))

module _ (K T : List ℕ) (good : Good K T) (f : ℕ) where
  pub binary_goes : BinaryOK K T f → (F : OpenRow) (k : Tree) (at : ℕ) (c : Around) (s detail pre : ℕ) (A : Nt) → Right A s → mem (kind_at K at) (own A.of) ≡ false → F.r.str ≤ s → below F.r F.c ≡ c
      → ((x : Tree) → (value (node F.r F.l F.t (add k x))).num ≡ 0)
      → ((x : Tree) → (value (node F.r F.l F.t (add k x))).nodes ≡ (one node_binary detail (value F.l ∷ value x ∷ [])).nodes)
      → Goes K T F (nt A ∷ []) k at pre (binary_w K T f at c s detail pre)
  unfolding cap_of side
  binary_goes ok F k at c s detail pre A t o h b num nodes sg len = told_map (binary_w K T f at c s detail pre) (ok at c s detail pre A t o)
      (λ a said n rs q. let x = q.0 in let e = q.2.0 in
      let g = made node_binary detail 2 pre (value x ∷ []) (value x).nodes (value (node F.r F.l F.t (add k x))) (value F.l) rs (num x) (nodes x)
      (beside_end (value x).nodes) (ap (λ i. i + 1) (single_count (value x).nodes e.single)) sg len q.2.2 in
      (add k x, nt_got K T good.sound F A [] k at (rw b q.1), (e.some, expr_cap x said s F.r.str e q.2.1 h), g.0, g.1, g.2))
      (λ m p e. nt_refused K T good.sound F A [] k at (rw b e))
