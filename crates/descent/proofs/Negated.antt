-- After NOT that follows an operand: NOT IN, NOT BETWEEN, NOT LIKE, NOT NULL; or a token that can't stand there. Assumes nothing.
use mathlib.Core.Bool.{false}
use mathlib.Core.List.{List, [], ◌∷◌}
use mathlib.Core.Option.{some}
use mathlib.Core.Path.{◌≡◌, refl, sym, ap, ◌∙◌}
use Prim.Native.Nat.{ℕ, ◌+◌, suc}
use lib.Dec.{eqb}
use lib.ListN.{get_or}
use native.Mathlib.Omega.{arith}
use Rattle.theory.specs.Trees.{Tok, lit, nt, Row, Tree, nil, add, leaf, node, cap_of}
use Rattle.theory.specs.Table.{pick, mem, enter_of}
use Rattle.theory.proofs.Cases.{eqb_eq}
use Rattle.kinds.specs.Kinds.{NULL, LP, RP, AND, IN, BETWEEN, LIKE_KW, NOTNULL}
use Rattle.grammar.specs.Classes.{Not, Inside?, E, any}
use Rattle.grammar.specs.RowNames.{row_not_like, row_not_in, row_not_between, row_not_null}
use Rattle.grammar.specs.NodeNames.{node_binary, node_null_test, node_in_list, node_in_query, node_between}
use Rattle.grammar.specs.Rows.{part, binary}
use Rattle.grammar.specs.Grammar.{sql}
use Rattle.grammar.specs.Limits.{Around, is_query, below}
use Rattle.grammar.specs.Nodes.{end, count, beside, rec, records}
use Rattle.grammar.specs.Reading.{Val, empty, side, cat, one, choose, is_query_val, inside, rules, ruled, value_of, value, ◌#◌}
use Rattle.descent.proofs.Places.{kind_at, tok_at, wrong, OpenRow, calls, rests}
use Rattle.descent.proofs.Named.{own, not_row}
use Rattle.descent.proofs.Walk.{Walked, done, over, wrong_at, expr_w, binary_w, range_w, among_w}
use Rattle.descent.proofs.Steps.{nt_got, nt_refused, call_in, call_wrong, row_stop}
use Rattle.descent.proofs.Growing.{records_beside, count_beside}
use Rattle.descent.proofs.ClassFacts.{out, firsts_Not, Not_at_LIKE_KW, Not_at_IN, Not_at_BETWEEN, Not_at_NULL, Not_may}
use Rattle.descent.proofs.Means.{Single, Good, Goes, NegatedOK, BinaryOK, BetweenOK, InsideOK}
use Rattle.descent.proofs.Common.{right_E, told_map, told_choose, told_done, told_stop, part_no_word}
use Rattle.descent.proofs.NoTails.{plain_classes, ends}
use Rattle.descent.proofs.Sides.{single_count, beside_end}
use Rattle.descent.proofs.Strong.{below_part, expr_cap}
use Rattle.descent.proofs.Made.{made}

abbrev not_in : Row
not_in = part row_not_in (lit LP ∷ nt (any Inside?) ∷ lit RP ∷ [])

abbrev not_between : Row
not_between = part row_not_between (nt (E 5) ∷ lit AND ∷ nt (E 5) ∷ [])

abbrev not_like : Row
not_like = part row_not_like (nt (E 5) ∷ [])

abbrev not_null : Row
not_null = part row_not_null []

-- the two bounds of BETWEEN, AND between them
pub bounds_side : (x z : Val) → side (x ∷ empty ∷ z ∷ []) ≡ beside x.nodes z.nodes
unfolding side beside
bounds_side x z = ap (beside x.nodes) (beside_end z.nodes)

pub bounds_count : (x z : Val) → Single x.nodes → Single z.nodes → count (beside x.nodes z.nodes) + 1 ≡ 3
bounds_count x z s t = let a = count_beside x.nodes z.nodes in let b = single_count x.nodes s in let c = single_count z.nodes t in omega (arith, a, b, c)

module _ (K T : List ℕ) (good : Good K T) (f : ℕ) (at : ℕ) (c : Around) (pre : ℕ) (F : OpenRow) (isNot : F.r ≡ not_row) (b : below F.r F.c ≡ c) where
  -- the part after NOT, by the row r
  abbrev inner : Row → OpenRow
  inner r = record { c = c; A = any Not; r = r; l = nil; t = tok_at K T at }

  begun_part : (r : Row) → enter_of sql (any Not) (kind_at K at) ≡ some r → r.str ≡ 0 → is_query r.code ≡ false
      → calls K T c (any Not) at ≡ rests K T (inner r) r.items nil (at + 1)
  begun_part r e s q = call_in K T good.sound c (any Not) at r e (part_no_word c r (tok_at K T at) q s)

  -- it is read whole
  whole_part : (r : Row) (k : Tree) (a : ℕ) → calls K T c (any Not) at ≡ rests K T (inner r) [] k a
      → rests K T F (nt (any Not) ∷ []) nil at ≡ rests K T F [] (add nil (node r nil (tok_at K T at) k)) a
  unfolding plain_classes mem pick
  whole_part r k a e = nt_got K T good.sound F (any Not) [] nil at (rw b (e ∙ row_stop K T good.sound (inner r) k a (ends Not refl r (cap_of k) (kind_at K a))))

  -- its value, beside the left operand's
  abbrev node' : Tree → Val
  node' y = value (node F.r F.l F.t (add nil y))

  abbrev Over : Tree → ℕ → ℕ → List Val → Type 0
  Over y code d vs = ((node' y).num ≡ 0) × ((node' y).nodes ≡ (one code d (value F.l ∷ vs)).nodes)

  over_in : (u : Tok) (p x q : Tree) → Over (node not_in nil u (add (add (add nil p) x) q)) (choose (is_query_val (value x)) node_in_query node_in_list) 1 (inside (value x) ∷ [])
  unfolding value value_of ruled rules pick ◌#◌ side
  over_in u p x q = rw isNot (refl, refl)

  over_between : (u v : Tok) (x z : Tree) → Over (node not_between nil u (add (add (add nil x) (leaf v)) z)) node_between 1 (cat (value x ∷ empty ∷ value z ∷ []) ∷ [])
  unfolding value value_of ruled rules pick ◌#◌ side
  over_between u v x z = rw isNot (refl, refl)

  over_like : (u : Tok) (x : Tree) → Over (node not_like nil u (add nil x)) node_binary (300 + u.text) (cat (value x ∷ []) ∷ [])
  unfolding value value_of ruled rules pick ◌#◌ side
  over_like u x = rw isNot (refl, refl)

  over_null : (u : Tok) → Over (node not_null nil u nil) node_null_test NOTNULL []
  unfolding value value_of ruled rules pick ◌#◌ side
  over_null u = rw isNot (refl, refl)

  -- what the walk after NOT is to come to
  abbrev Comes : Walked → Type 0
  Comes w = Goes K T F (nt (any Not) ∷ []) nil at pre w

  negated_in : InsideOK K T f → kind_at K at ≡ IN → Comes (among_w K T f (at + 1) c 1 pre)
  unfolding is_query pick mem cap_of side
  negated_in ok e sg len = let on = begun_part not_in (rw e Not_at_IN) refl refl in
      told_map (among_w K T f (at + 1) c 1 pre) (ok (at + 1) c 1 pre (inner not_in) refl (below_part not_in c refl refl) refl)
      (λ a s m rs q. let k = add (add (add nil (leaf q.0)) q.1) (leaf q.2) in let x = inside (value q.1) in let o = over_in (tok_at K T at) (leaf q.0) q.1 (leaf q.2) in
      let g = made (choose (is_query_val (value q.1)) node_in_query node_in_list) 1 2 pre (x ∷ []) x.nodes (node' (node not_in nil (tok_at K T at) k)) (value F.l) rs o.0 o.1
      (beside_end x.nodes) (ap (λ i. i + 1) (single_count x.nodes q.5)) sg len q.4 in
      (add nil (node not_in nil (tok_at K T at) k), whole_part not_in k a (on ∙ q.3), rw (isNot, q.6) (omega arith, refl), g.0, g.1, g.2))
      (λ m p h. nt_refused K T good.sound F (any Not) [] nil at (rw b (on ∙ h)))

  negated_between : BetweenOK K T f → kind_at K at ≡ BETWEEN → Comes (range_w K T f (at + 1) c 5 1 pre)
  unfolding is_query pick mem cap_of side
  negated_between ok e sg len = let on = begun_part not_between (rw e Not_at_BETWEEN) refl refl in
      told_map (range_w K T f (at + 1) c 5 1 pre) (ok (at + 1) c 1 pre (inner not_between) refl (below_part not_between c refl refl) refl)
      (λ a s m rs q. let x = q.0 in let z = q.2 in let k = add (add (add nil x) (leaf q.1)) z in let o = over_between (tok_at K T at) q.1 x z in
      let ns = beside (value x).nodes (value z).nodes in
      let g = made node_between 1 3 pre (cat (value x ∷ empty ∷ value z ∷ []) ∷ []) ns (node' (node not_between nil (tok_at K T at) k)) (value F.l) rs o.0 o.1
      (beside_end (side (value x ∷ empty ∷ value z ∷ [])) ∙ bounds_side (value x) (value z)) (bounds_count (value x) (value z) q.4.1.single q.5.single) sg len
      (q.6 ∙ ap (over node_between 1 3 pre) (sym (records_beside (value x).nodes (value z).nodes))) in
      let h = expr_cap z s 5 4 q.5 q.7 (omega arith) in
      (add nil (node not_between nil (tok_at K T at) k), whole_part not_between k a (on ∙ q.3), (q.5.some, rw isNot (omega (arith, h))), g.0, g.1, g.2))
      (λ m p h. nt_refused K T good.sound F (any Not) [] nil at (rw b (on ∙ h)))

  negated_like : BinaryOK K T f → kind_at K at ≡ LIKE_KW → Comes (binary_w K T f (at + 1) c 5 (300 + get_or T at 0) pre)
  unfolding is_query pick mem own cap_of side
  negated_like ok e sg len = let on = begun_part not_like (rw e Not_at_LIKE_KW) refl refl in let b' = below_part not_like c refl refl in
      told_map (binary_w K T f (at + 1) c 5 (300 + get_or T at 0) pre) (ok (at + 1) c 5 (300 + get_or T at 0) pre (E 5) (right_E 5 (omega arith) (omega arith)) refl)
      (λ a s m rs q. let x = q.0 in let t = q.2.0 in let o = over_like (tok_at K T at) x in
      let g = made node_binary (300 + get_or T at 0) 2 pre (cat (value x ∷ []) ∷ []) (value x).nodes (node' (node not_like nil (tok_at K T at) (add nil x))) (value F.l) rs o.0 o.1
      (beside_end (side (value x ∷ [])) ∙ beside_end (value x).nodes) (ap (λ i. i + 1) (single_count (value x).nodes t.single)) sg len q.2.2 in
      let h = expr_cap x s 5 4 t q.2.1 (omega arith) in
      (add nil (node not_like nil (tok_at K T at) (add nil x)), whole_part not_like (add nil x) a (on ∙ nt_got K T good.sound (inner not_like) (E 5) [] nil (at + 1) (rw b' q.1)), (t.some, rw isNot (omega (arith, h))), g.0, g.1, g.2))
      (λ m p h. nt_refused K T good.sound F (any Not) [] nil at (rw b (on ∙ nt_refused K T good.sound (inner not_like) (E 5) [] nil (at + 1) (rw b' h))))

  negated_null : kind_at K at ≡ NULL → Comes (done (at + 1) 12 0 (rec 40 NOTNULL 1 (pre + 1) ∷ []))
  unfolding is_query pick mem cap_of side count records
  negated_null e sg len = let o = over_null (tok_at K T at) in
      let g = made node_null_test NOTNULL 1 pre [] end (node' (node not_null nil (tok_at K T at) nil)) (value F.l) (rec 40 NOTNULL 1 (pre + 1) ∷ []) o.0 o.1 refl refl sg len
      (ap (λ i. rec 40 NOTNULL 1 i ∷ []) (omega arith)) in
      told_done (at + 1) 12 0 (rec 40 NOTNULL 1 (pre + 1) ∷ [])
      (add nil (node not_null nil (tok_at K T at) nil), whole_part not_null nil (at + 1) (begun_part not_null (rw e Not_at_NULL) refl refl), rw isNot (omega arith, refl), g.0, g.1, g.2)

  negated_wrong : eqb (kind_at K at) IN ≡ false → eqb (kind_at K at) BETWEEN ≡ false → eqb (kind_at K at) LIKE_KW ≡ false → eqb (kind_at K at) NULL ≡ false → Comes (wrong_at K T at)
  unfolding mem pick
  negated_wrong x y z w sg len = told_stop (wrong (kind_at K at)) at (nt_refused K T good.sound F (any Not) [] nil at
      (rw b (call_wrong K T good.sound c (any Not) at (out Not (kind_at K at) (rw (firsts_Not, z, x, y, w))) Not_may)))

module _ (K T : List ℕ) (good : Good K T) (f : ℕ) where
  pub negated_ok : InsideOK K T f → BetweenOK K T f → BinaryOK K T f → NegatedOK K T (suc f)
  unfolding expr_w
  negated_ok inside between binary at c pre F isNot b sg len = told_choose (eqb (kind_at K at) IN) (among_w K T f (at + 1) c 1 pre) _
      (λ z. negated_in K T good f at c pre F isNot b inside (eqb_eq (kind_at K at) IN z) sg len)
      (λ x. told_choose (eqb (kind_at K at) BETWEEN) (range_w K T f (at + 1) c 5 1 pre) _
      (λ z. negated_between K T good f at c pre F isNot b between (eqb_eq (kind_at K at) BETWEEN z) sg len)
      (λ y. told_choose (eqb (kind_at K at) LIKE_KW) (binary_w K T f (at + 1) c 5 (300 + get_or T at 0) pre) _
      (λ z. negated_like K T good f at c pre F isNot b binary (eqb_eq (kind_at K at) LIKE_KW z) sg len)
      (λ v. told_choose (eqb (kind_at K at) NULL) _ (wrong_at K T at)
      (λ z. negated_null K T good f at c pre F isNot b (eqb_eq (kind_at K at) NULL z) sg len)
      (λ w. negated_wrong K T good f at c pre F isNot b x y v w sg len))))
