-- An operator after an operand, by its row: binary, NOT .., IN, BETWEEN, LIKE, IS [NOT], COLLATE, ISNULL and NOTNULL. Assumes nothing.
use mathlib.Core.Bool.{true, false, Bool}
use mathlib.Core.List.{List, [], ◌∷◌}
use mathlib.Core.Option.{none}
use mathlib.Core.Path.{◌≡◌, refl, sym, ap, ◌∙◌, subst}
use Prim.Native.Nat.{ℕ, ◌+◌, ◌≤◌, ◌<◌, min, suc}
use borrow.Author.Tests.{ne_eqb, ltb-true}
use lib.Dec.{ltb, eqb}
use lib.ListN.{get_or}
use native.Mathlib.Omega.{arith}
use Rattle.theory.specs.Trees.{Tok, nt, Row, Tree, nil, add, leaf, node, cap_of}
use Rattle.theory.specs.Table.{pick, both, mem, cont_of}
use Rattle.theory.specs.Outcome.{got}
use Rattle.theory.proofs.Cases.{pick_inv, 0≢1, eqb_eq, leb_le}
use Rattle.theory.proofs.Tested.{not_found, cont_found, tight_ok}
use Rattle.kinds.specs.Kinds.{NOT, IS, IN, BETWEEN, LIKE_KW, ISNULL, NOTNULL, COLLATE}
use Rattle.kinds.specs.Strength.{strength_of}
use Rattle.grammar.specs.Classes.{Name, IsRight, E, any, after_is}
use Rattle.grammar.specs.RowNames.{row_is_not}
use Rattle.grammar.specs.NodeNames.{node_binary, node_null_test, node_in_list, node_in_query, node_between, node_collate}
use Rattle.grammar.specs.Rows.{binary, running, exprs}
use Rattle.grammar.specs.Grammar.{sql}
use Rattle.grammar.proofs.Checked.{tight}
use Rattle.grammar.specs.Limits.{Around, is_query, below, begun, judge}
use Rattle.grammar.specs.Nodes.{end, count, beside, rec, records}
use Rattle.grammar.specs.Reading.{Val, empty, side, cat, one, choose, name, is_query_val, inside, rules, ruled, value_of, value, ◌#◌}
use Rattle.descent.proofs.Places.{kind_at, tok_at, from, OpenRow, calls, rests}
use Rattle.descent.proofs.Named.{own, is_row, like_row, in_row, between_row, not_row, null_test_row, collate_row, op_row}
use Rattle.descent.proofs.Walk.{Walked, done, over, name_rec, collate_w, expr_w, negated_w, binary_w, range_w, among_w}
use Rattle.descent.proofs.SameRow.{eq_items, eq_row, same_row, below?, throughout}
use Rattle.descent.proofs.TableFacts.{BOUND}
use Rattle.descent.proofs.Steps.{nt_got, nt_refused, call_in, row_stop}
use Rattle.descent.proofs.Growing.{records_beside}
use Rattle.descent.proofs.ClassFacts.{IsRight_at_NOT, IsRight_may}
use Rattle.descent.proofs.Means.{Right, Good, Goes, OperatorOK, NegatedOK, BinaryOK, BetweenOK, InsideOK}
use Rattle.descent.proofs.Common.{right_E, told_map, told_choose, told_done}
use Rattle.descent.proofs.Sides.{single_count, beside_end}
use Rattle.descent.proofs.Strong.{strength_most, expr_cap}
use Rattle.descent.proofs.Tails.{others, other_none}
use Rattle.descent.proofs.NameRead.{name_tree, name_got, name_wrong, told_name}
use Rattle.descent.proofs.Made.{made, binary_goes}
use Rattle.descent.proofs.Negated.{bounds_side, bounds_count}

-- ── the rows by their kinds ──
op_binary : (k : ℕ) → k < NOT → op_row k ≡ binary (strength_of k)
unfolding op_row pick
op_binary k h = rw (
  ne_eqb k IS (λ e. omega (arith, e)),
  ne_eqb k LIKE_KW (λ e. omega (arith, e)),
  ne_eqb k IN (λ e. omega (arith, e)),
  ne_eqb k BETWEEN (λ e. omega (arith, e)),
  ne_eqb k NOT (λ e. omega (arith, e)),
  ne_eqb k ISNULL (λ e. omega (arith, e)),
  ne_eqb k NOTNULL (λ e. omega (arith, e)),
  ne_eqb k COLLATE (λ e. omega (arith, e)),
)

-- the row at a kind that is known
op_at : (k d : ℕ) (r : Row) → k ≡ d → op_row d ≡ r → op_row k ≡ r
op_at k d r e h = rw e h

op_rows : (op_row NOT ≡ not_row) × (op_row IN ≡ in_row) × (op_row BETWEEN ≡ between_row) × (op_row LIKE_KW ≡ like_row) × (op_row IS ≡ is_row) × (op_row COLLATE ≡ collate_row)
unfolding op_row pick
op_rows = (refl, refl, refl, refl, refl, refl)

-- the operators of strength 4 that take a right operand take it at 5
four : (k : ℕ) → mem k (NOT ∷ BETWEEN ∷ LIKE_KW ∷ IS ∷ []) ≡ true → strength_of k + 1 ≡ 5
unfolding strength_of mem
four k m = pick_inv (eqb k NOT) true _ true m (λ z x. rw (eqb_eq k NOT z))
    (λ z m. pick_inv (eqb k BETWEEN) true _ true m (λ z x. rw (eqb_eq k BETWEEN z))
    (λ z m. pick_inv (eqb k LIKE_KW) true _ true m (λ z x. rw (eqb_eq k LIKE_KW z))
    (λ z m. pick_inv (eqb k IS) true _ true m (λ z x. rw (eqb_eq k IS z)) (λ z x. 0≢1 x))))

last_test : ℕ → Bool
last_test k = pick (ltb k NOT) true (λ w. pick (mem k (NOT ∷ IN ∷ BETWEEN ∷ LIKE_KW ∷ IS ∷ COLLATE ∷ [])) true (λ w. pick (eqb (strength_of k) 0) true (λ w. eq_row (op_row k) null_test_row)))

last_right : below? BOUND last_test ≡ true
unfolding last_test below? strength_of op_row eq_row eq_items both mem pick
last_right = refl

op_null_test : (k : ℕ) → k < BOUND → 0 < strength_of k → ltb k NOT ≡ false → mem k (NOT ∷ IN ∷ BETWEEN ∷ LIKE_KW ∷ IS ∷ COLLATE ∷ []) ≡ false → op_row k ≡ null_test_row
unfolding last_test pick
op_null_test k h p a m = same_row (op_row k) null_test_row (rw (a, m, ne_eqb (strength_of k) 0 (λ e. omega (arith, e, p))) at (throughout BOUND last_test last_right k h))

-- ── what follows IS ──
right_is : Right after_is 5
unfolding exprs others mem pick
right_is = record {
  takes = record { among = refl; enough = λ k a b. b; loose = λ k a b. b; column = λ e. absurd (omega (arith, e)); other = λ a e. absurd (omega (arith, e)); most = omega arith };
  alone = λ q m k b z. other_none after_is q m k refl b z refl;
  must = IsRight_may;
  some = omega arith;
}

-- from IS NOT with its operand nothing goes on there: what is asked is tighter than what it leaves
shut_is : (m k : ℕ) → cont_of sql after_is (running 5 4 row_is_not (nt (E 5) ∷ [])) m k ≡ none
shut_is m k = not_found _ (λ q e. let x = cont_found sql after_is (running 5 4 row_is_not (nt (E 5) ∷ [])) m k q e in
    let a = leb_le 5 q.str x.1 in let d = leb_le q.left (min 4 m) x.3 in let t = tight_ok sql tight IsRight k q x.0 in omega (arith, a, d, t))

-- ── each of them ──
module _ (K T : List ℕ) (good : Good K T) (f : ℕ) (at : ℕ) (c : Around) (pre : ℕ) (F : OpenRow) (tok : F.t ≡ tok_at K T at) (b : below F.r F.c ≡ c) where
  abbrev Comes : Walked → Type 0
  Comes w = Goes K T F F.r.items nil (at + 1) pre w

  abbrev node' : Tree → Val
  node' k = value (node F.r F.l F.t k)

  -- the row's items are these
  with_items : (r : Row) (w : Walked) → F.r ≡ r → Goes K T F r.items nil (at + 1) pre w → Comes w
  with_items r w e g = subst (λ i. Goes K T F i nil (at + 1) pre w) (sym (ap (λ q. q.items) e)) g

  abbrev Over : Tree → ℕ → ℕ → List Val → Type 0
  Over k code d vs = ((node' k).num ≡ 0) × ((node' k).nodes ≡ (one code d (value F.l ∷ vs)).nodes)

  over_binary : (s : ℕ) → F.r ≡ binary s → (x : Tree) → Over (add nil x) node_binary (kind_at K at) (value x ∷ [])
  unfolding value value_of ruled rules pick
  over_binary s e x = rw (e, tok) (refl, refl)

  by_binary : BinaryOK K T f → (s : ℕ) → F.r ≡ binary s → s ≤ 10 → Comes (binary_w K T f (at + 1) c (s + 1) (kind_at K at) pre)
  unfolding own mem pick
  by_binary ok s e h = with_items (binary s) _ e (binary_goes K T good f ok F nil (at + 1) c (s + 1) (kind_at K at) pre (E (s + 1)) (right_E (s + 1) (omega arith) (omega (arith, h))) refl (let i = ap (λ q. q.str) e in omega (arith, i)) b
      (λ x. (over_binary s e x).0) (λ x. (over_binary s e x).1))

  by_not : NegatedOK K T f → F.r ≡ not_row → Comes (negated_w K T f (at + 1) c 5 pre)
  by_not ok e = with_items not_row _ e (ok (at + 1) c pre F e b)

  over_in : F.r ≡ in_row → (u v : Tok) (x : Tree) → Over (add (add (add nil (leaf u)) x) (leaf v)) (choose (is_query_val (value x)) node_in_query node_in_list) 0 (inside (value x) ∷ [])
  unfolding value value_of ruled rules pick ◌#◌ side
  over_in e u v x = rw e (refl, refl)

  by_in : InsideOK K T f → F.r ≡ in_row → Comes (among_w K T f (at + 1) c 0 pre)
  unfolding cap_of mem pick side
  by_in ok e sg len = told_map (among_w K T f (at + 1) c 0 pre) (ok (at + 1) c 0 pre F (ap (λ q. q.items) e) b (rw e))
      (λ a s m rs q. let x = inside (value q.1) in let k = add (add (add nil (leaf q.0)) q.1) (leaf q.2) in let o = over_in e q.0 q.2 q.1 in
      let g = made (choose (is_query_val (value q.1)) node_in_query node_in_list) 0 2 pre (x ∷ []) x.nodes (node' k) (value F.l) rs o.0 o.1
      (beside_end x.nodes) (ap (λ i. i + 1) (single_count x.nodes q.5)) sg len q.4 in
      (k, q.3, rw (e, q.6) (omega arith, refl), g.0, g.1, g.2))
      (λ m p h. h)

  over_between : F.r ≡ between_row → (v : Tok) (x z : Tree) → Over (add (add (add nil x) (leaf v)) z) node_between 0 (value x ∷ empty ∷ value z ∷ [])
  unfolding value value_of ruled rules pick
  over_between e v x z = rw e (refl, refl)

  by_between : BetweenOK K T f → F.r ≡ between_row → Comes (range_w K T f (at + 1) c 5 0 pre)
  unfolding cap_of mem pick
  by_between ok e sg len = told_map (range_w K T f (at + 1) c 5 0 pre) (ok (at + 1) c 0 pre F (ap (λ q. q.items) e) b (rw e))
      (λ a s m rs q. let x = q.0 in let z = q.2 in let k = add (add (add nil x) (leaf q.1)) z in let o = over_between e q.1 x z in
      let g = made node_between 0 3 pre (value x ∷ empty ∷ value z ∷ []) (beside (value x).nodes (value z).nodes) (node' k) (value F.l) rs o.0 o.1
      (bounds_side (value x) (value z)) (bounds_count (value x) (value z) q.4.1.single q.5.single) sg len
      (q.6 ∙ ap (over node_between 0 3 pre) (sym (records_beside (value x).nodes (value z).nodes))) in
      (k, q.3, (q.5.some, rw e (expr_cap z s 5 4 q.5 q.7 (omega arith))), g.0, g.1, g.2))
      (λ m p h. h)

  over_like : F.r ≡ like_row → (x : Tree) → Over (add nil x) node_binary (200 + get_or T at 0) (value x ∷ [])
  unfolding value value_of ruled rules pick
  over_like e x = rw (e, tok) (refl, refl)

  by_like : BinaryOK K T f → F.r ≡ like_row → Comes (binary_w K T f (at + 1) c 5 (200 + get_or T at 0) pre)
  unfolding own mem pick
  by_like ok e = with_items like_row _ e (binary_goes K T good f ok F nil (at + 1) c 5 (200 + get_or T at 0) pre (E 5) (right_E 5 (omega arith) (omega arith)) refl (let i = ap (λ q. q.str) e in omega (arith, i)) b (λ x. (over_like e x).0) (λ x. (over_like e x).1))

  -- IS NOT, and IS without NOT
  abbrev is_not_row : Row
  is_not_row = running 5 4 row_is_not (nt (E 5) ∷ [])

  over_is_not : F.r ≡ is_row → kind_at K at ≡ IS → (u : Tok) (x : Tree) → Over (add nil (node is_not_row nil u (add nil x))) node_binary 137 (cat (value x ∷ []) ∷ [])
  unfolding value value_of ruled rules pick ◌#◌ side
  over_is_not e d u x = rw (e, tok, d) (refl, refl)

  over_is : F.r ≡ is_row → kind_at K at ≡ IS → (x : Tree) → (value x).num ≡ 0 → Over (add nil x) node_binary 37 (value x ∷ [])
  unfolding value value_of ruled rules pick ◌#◌ side
  over_is e d x z = rw (e, tok, d, z) (refl, refl)

  by_is : BinaryOK K T f → F.r ≡ is_row → kind_at K at ≡ IS → Comes (choose (eqb (kind_at K (at + 1)) NOT) (binary_w K T f (at + 2) c 5 137 pre) (binary_w K T f (at + 1) c 5 37 pre))
  unfolding own mem pick cap_of side below is_query judge begun both
  by_is ok e d sg len = told_choose (eqb (kind_at K (at + 1)) NOT) (binary_w K T f (at + 2) c 5 137 pre) (binary_w K T f (at + 1) c 5 37 pre)
      (λ z. let u = tok_at K T (at + 1) in
      told_map (binary_w K T f (at + 2) c 5 137 pre) (ok (at + 2) c 5 137 pre (E 5) (right_E 5 (omega arith) (omega arith)) refl)
      (λ a s m rs q. let x = q.0 in let t = q.2.0 in let o = over_is_not e d u x in let y = node is_not_row nil u (add nil x) in
      let g = made node_binary 137 2 pre (cat (value x ∷ []) ∷ []) (value x).nodes (node' (add nil y)) (value F.l) rs o.0 o.1
      (beside_end (side (value x ∷ [])) ∙ beside_end (value x).nodes) (ap (λ i. i + 1) (single_count (value x).nodes t.single)) sg len q.2.2 in
      let h = expr_cap x s 5 4 t q.2.1 (omega arith) in (
        add nil y,
        items ∙ nt_got K T good.sound F after_is [] nil (at + 1) (rw b (begun z ∙ nt_got K T good.sound (inner u) (E 5) [] nil (at + 2) (rw inside q.1) ∙ ends u x a)),
        (t.some, rw e (omega (arith, h))),
        g.0,
        g.1,
        g.2,
      ))
      (λ m p h. items ∙ nt_refused K T good.sound F after_is [] nil (at + 1) (rw b (begun z ∙ nt_refused K T good.sound (inner (tok_at K T (at + 1))) (E 5) [] nil (at + 2) (rw inside h)))))
      (λ z. told_map (binary_w K T f (at + 1) c 5 37 pre) (ok (at + 1) c 5 37 pre after_is right_is (rw z))
      (λ a s m rs q. let x = q.0 in let t = q.2.0 in let o = over_is e d x t.silent in
      let g = made node_binary 37 2 pre (value x ∷ []) (value x).nodes (node' (add nil x)) (value F.l) rs o.0 o.1
      (beside_end (value x).nodes) (ap (λ i. i + 1) (single_count (value x).nodes t.single)) sg len q.2.2 in
      (add nil x, items ∙ nt_got K T good.sound F after_is [] nil (at + 1) (rw b q.1), (t.some, rw e (expr_cap x s 5 4 t q.2.1 (omega arith))), g.0, g.1, g.2))
      (λ m p h. items ∙ nt_refused K T good.sound F after_is [] nil (at + 1) (rw b h)))
    where
      items : rests K T F F.r.items nil (at + 1) ≡ rests K T F (nt after_is ∷ []) nil (at + 1)
      items = ap (λ q. rests K T F q.items nil (at + 1)) e

      inner : Tok → OpenRow
      inner u = record { c = c; A = after_is; r = is_not_row; l = nil; t = u }

      inside : below is_not_row c ≡ c
      inside = refl

      silent : (c : Around) (t : Tok) → judge c is_not_row nil t nil ≡ 0
      silent c t = refl

      begun : eqb (kind_at K (at + 1)) NOT ≡ true → calls K T c after_is (at + 1) ≡ rests K T (inner (tok_at K T (at + 1))) is_not_row.items nil (at + 2)
      begun z = call_in K T good.sound c after_is (at + 1) is_not_row (rw (eqb_eq (kind_at K (at + 1)) NOT z) IsRight_at_NOT) (silent c (tok_at K T (at + 1)))
          ∙ ap (λ i. rests K T (inner (tok_at K T (at + 1))) is_not_row.items nil i) (omega arith)

      ends : (u : Tok) (x : Tree) (a : ℕ) → rests K T (inner u) [] (add nil x) a ≡ got (node is_not_row nil u (add nil x)) a (from K T a)
      ends u x a = row_stop K T good.sound (inner u) (add nil x) a (shut_is (cap_of x) (kind_at K a))

  over_collate : F.r ≡ collate_row → (x : Tree) → Over (add nil x) node_collate 0 (value x ∷ [])
  unfolding value value_of ruled rules pick
  over_collate e x = rw e (refl, refl)

  name_nodes : (n : ℕ) → (value (name_tree K T good n)).nodes ≡ (name (tok_at K T n)).nodes
  unfolding value value_of ruled rules pick
  name_nodes n = refl

  by_collate : F.r ≡ collate_row → Comes (collate_w K T (at + 1) pre)
  unfolding collate_w cap_of side count records
  by_collate e sg len = told_name K T good (at + 1) _
      (λ z. let x = name_tree K T good (at + 1) in let o = over_collate e x in
      let g = made node_collate 0 2 pre (value x ∷ []) (name (tok_at K T (at + 1))).nodes (node' (add nil x)) (value F.l) (over 44 0 2 pre (name_rec K T (at + 1) ∷ [])) o.0 o.1
      (beside_end (value x).nodes ∙ name_nodes (at + 1)) refl sg len refl in
      told_done (at + 1 + 1) 12 0 (over 44 0 2 pre (name_rec K T (at + 1) ∷ []))
      (add nil x, items ∙ nt_got K T good.sound F (any Name) [] nil (at + 1) (rw b (name_got K T good (at + 1) c z)), rw e (omega arith, refl), g.0, g.1, g.2))
      (λ z. items ∙ nt_refused K T good.sound F (any Name) [] nil (at + 1) (rw b (name_wrong K T good (at + 1) c z)))
    where
      items : rests K T F F.r.items nil (at + 1) ≡ rests K T F (nt (any Name) ∷ []) nil (at + 1)
      items = ap (λ q. rests K T F q.items nil (at + 1)) e

  over_null : F.r ≡ null_test_row → Over nil node_null_test (kind_at K at) []
  unfolding value value_of ruled rules pick
  over_null e = rw (e, tok) (refl, refl)

  by_null : F.r ≡ null_test_row → Comes (done (at + 1) 12 0 (rec 40 (kind_at K at) 1 (pre + 1) ∷ []))
  unfolding cap_of side count records
  by_null e sg len = let o = over_null e in
      let g = made node_null_test (kind_at K at) 1 pre [] end (node' nil) (value F.l) (rec 40 (kind_at K at) 1 (pre + 1) ∷ []) o.0 o.1 refl refl sg len (ap (λ i. rec 40 (kind_at K at) 1 i ∷ []) (omega arith)) in
      told_done (at + 1) 12 0 (rec 40 (kind_at K at) 1 (pre + 1) ∷ []) (nil, ap (λ q. rests K T F q.items nil (at + 1)) e, rw e (omega arith, refl), g.0, g.1, g.2)

module _ (K T : List ℕ) (good : Good K T) (f : ℕ) where
  pub operator_ok : BinaryOK K T f → NegatedOK K T f → InsideOK K T f → BetweenOK K T f → OperatorOK K T (suc f)
  unfolding expr_w mem pick
  operator_ok bin neg ins bet at c s pre F p es er et b sg len =
      told_choose (ltb (kind_at K at) NOT) (binary_w K T f (at + 1) c s (kind_at K at) pre) _
      (λ z. rw es (by_binary K T good f at c pre F et b bin (strength_of (kind_at K at)) (er ∙ op_binary (kind_at K at) (ltb-true (kind_at K at) NOT z)) (strength_most (kind_at K at) (good.bound at)) sg len))
      (λ a. told_choose (eqb (kind_at K at) NOT) (negated_w K T f (at + 1) c s pre) _
      (λ z. rw (es ∙ four (kind_at K at) (rw z)) (by_not K T good f at c pre F et b neg (row NOT not_row op_rows.0 z) sg len))
      (λ a1. told_choose (eqb (kind_at K at) IN) (among_w K T f (at + 1) c 0 pre) _
      (λ z. by_in K T good f at c pre F et b ins (row IN in_row op_rows.1 z) sg len)
      (λ a2. told_choose (eqb (kind_at K at) BETWEEN) (range_w K T f (at + 1) c s 0 pre) _
      (λ z. rw (es ∙ four (kind_at K at) (rw (a1, z))) (by_between K T good f at c pre F et b bet (row BETWEEN between_row op_rows.2 z) sg len))
      (λ a3. told_choose (eqb (kind_at K at) LIKE_KW) (binary_w K T f (at + 1) c s (200 + get_or T at 0) pre) _
      (λ z. rw (es ∙ four (kind_at K at) (rw (a1, a3, z))) (by_like K T good f at c pre F et b bin (row LIKE_KW like_row op_rows.3 z) sg len))
      (λ a4. told_choose (eqb (kind_at K at) IS) (choose (eqb (kind_at K (at + 1)) NOT) (binary_w K T f (at + 2) c s 137 pre) (binary_w K T f (at + 1) c s 37 pre)) _
      (λ z. rw (es ∙ four (kind_at K at) (rw (a1, a3, a4, z))) (by_is K T good f at c pre F et b bin (row IS is_row op_rows.4 z) (eqb_eq (kind_at K at) IS z) sg len))
      (λ a5. told_choose (eqb (kind_at K at) COLLATE) (collate_w K T (at + 1) pre) _
      (λ z. by_collate K T good f at c pre F et b (row COLLATE collate_row op_rows.5 z) sg len)
      (λ a6. by_null K T good f at c pre F et b (er ∙ op_null_test (kind_at K at) (good.bound at) p a (rw (a1, a2, a3, a4, a5, a6))) sg len)))))))
    where
      row : (d : ℕ) (r : Row) → op_row d ≡ r → eqb (kind_at K at) d ≡ true → F.r ≡ r
      row d r h z = er ∙ op_at (kind_at K at) d r (eqb_eq (kind_at K at) d z) h
