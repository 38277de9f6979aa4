-- IN's parentheses: ( query ), ( ), ( expressions ). Assumes nothing.
use mathlib.Core.Bool.{true, false}
use mathlib.Core.List.{List, [], ◌∷◌, append-nil}
use mathlib.Core.Option.{some}
use mathlib.Core.Path.{◌≡◌, refl, sym, ap, ◌∙◌}
use Prim.Native.Nat.{ℕ, ◌+◌, suc}
use borrow.Author.Tests.{eqb-false}
use lib.Dec.{eqb, leb}
use native.Mathlib.Omega.{arith}
use Rattle.theory.specs.Trees.{Tok, lit, nt, Row, Tree, nil, add, leaf, node, cap_of}
use Rattle.theory.specs.Table.{pick, both, mem}
use Rattle.theory.specs.Outcome.{refused}
use Rattle.theory.proofs.Cases.{0≢1, both_l, both_r, both_i, eqb_eq, leb_le, le-leb}
use Rattle.kinds.specs.Kinds.{LP, RP, SELECT, VALUES}
use Rattle.grammar.specs.Classes.{Paren, Inside?, Args?, any}
use Rattle.grammar.specs.RowNames.{row_select, row_values, row_next_row, row_word_join}
use Rattle.grammar.specs.NodeNames.{node_list, node_in_list, node_in_query}
use Rattle.grammar.specs.Rows.{part, exprs, select_items, values_items}
use Rattle.grammar.specs.Limits.{is_query}
use Rattle.grammar.specs.Nodes.{count, beside, Rec, rec, records}
use Rattle.grammar.specs.Reading.{Val, side, one, choose, is_query_val, inside, value}
use Rattle.descent.proofs.Places.{kind_at, tok_at, wrong, OpenRow, calls, rests}
use Rattle.descent.proofs.Named.{own}
use Rattle.descent.proofs.Walk.{Walked, done, over, wrong_at, ended_w, expr_w, list_w, query_w}
use Rattle.descent.proofs.Grown.{recs}
use Rattle.descent.proofs.Steps.{nt_got, nt_refused, lit_got, lit_wrong, call_absent, row_stop}
use Rattle.descent.proofs.ClassFacts.{none_of_2, Inside_at_SELECT, Inside_at_VALUES, Inside_at_RP, Inside_may}
use Rattle.descent.proofs.Means.{Single, plain_code, Told, Good, QueryNode, InsideOK, HostOK, QueryOK}
use Rattle.descent.proofs.Common.{told_bind, told_choose, told_done, told_stop, no_word}
use Rattle.descent.proofs.Sides.{beside_end, recs_of, one_single}
use Rattle.descent.proofs.Tails.{shut_tail}
use Rattle.descent.proofs.Values.{plain_no_query, query_val}

inside_query : (v : Val) → is_query_val v ≡ true → inside v ≡ v
unfolding inside choose
inside_query v e = rw e

inside_list : (v : Val) → is_query_val v ≡ false → inside v ≡ one node_list 0 (v ∷ [])
unfolding inside choose
inside_list v e = rw e

query_code : (v : Val) → is_query_val v ≡ true → 42 ≡ choose (is_query_val v) node_in_query node_in_list
unfolding choose
query_code v e = rw e

list_code : (v : Val) → is_query_val v ≡ false → 41 ≡ choose (is_query_val v) node_in_query node_in_list
unfolding choose
list_code v e = rw e

nil_val : is_query_val (value nil) ≡ false
unfolding value is_query pick
nil_val = refl

nil_recs : rec 4 0 0 1 ∷ [] ≡ recs (one node_list 0 (value nil ∷ []))
unfolding value side beside records count
nil_recs = refl

list_single : (v : Val) → is_query_val v ≡ false → Single (inside v).nodes
list_single v e = rw (inside_list v e) (one_single node_list 0 (v ∷ []))

list_recs : (v : Val) (m : ℕ) (rs : List Rec) → is_query_val v ≡ false → m ≡ count v.nodes → rs ≡ recs v → over 4 0 m 0 rs ≡ recs (inside v)
unfolding side
list_recs v m rs e n r = rw (inside_list v e, r) (sym (recs_of node_list 0 m (v ∷ []) v.nodes (beside_end v.nodes) (sym n)))

among : mem Inside? exprs ≡ true
unfolding exprs mem pick
among = refl

host_class : mem Inside? (Paren ∷ Inside? ∷ Args? ∷ []) ≡ true
unfolding mem pick
host_class = refl

-- SELECT and VALUES stand side by side
two_kinds : (k : ℕ) → both (leb SELECT k) (leb k VALUES) ≡ true → (k ≡ SELECT → ⊥) → (k ≡ VALUES → ⊥) → ⊥
two_kinds k e a b = let x = leb_le SELECT k (both_l (leb SELECT k) (leb k VALUES) e) in let y = leb_le k VALUES (both_r (leb SELECT k) (leb k VALUES) e) in omega (arith, a, b, x, y)

no_kind : (k : ℕ) → both (leb SELECT k) (leb k VALUES) ≡ false → mem k (own Inside?) ≡ false
unfolding own pick
no_kind k e = none_of_2 (λ z. 0≢1 (sym e ∙ both_i (leb SELECT k) (leb k VALUES) (le-leb SELECT k (omega (arith, z))) (le-leb k VALUES (omega (arith, z)))))
    (λ z. 0≢1 (sym e ∙ both_i (leb SELECT k) (leb k VALUES) (le-leb SELECT k (omega (arith, z))) (le-leb k VALUES (omega (arith, z)))))

module _ (K T : List ℕ) (good : Good K T) (f : ℕ) where
  -- what is between the parentheses was read: RP, and the record over both operands
  abbrev Ends : OpenRow → ℕ → ℕ → ℕ → Walked → Type 0
  Ends F at not pre w = Told w
      (λ a s m rs. (u : Tok) × (x : Tree) × (v : Tok) × (rests K T F F.r.items nil at ≡ rests K T F [] (add (add (add nil (leaf u)) x) (leaf v)) a)
      × (rs ≡ over (choose (is_query_val (value x)) node_in_query node_in_list) not 2 pre (recs (inside (value x)))) × Single (inside (value x)).nodes × (s ≡ 12))
      (λ m p. rests K T F F.r.items nil at ≡ refused m p)

  ended : (F : OpenRow) (at not pre : ℕ) (u : Tok) (x : Tree) (a code : ℕ) (rs : List Rec) → mem F.r.code (row_word_join ∷ row_next_row ∷ []) ≡ false
      → rests K T F F.r.items nil at ≡ rests K T F (lit RP ∷ []) (add (add nil (leaf u)) x) a
      → code ≡ choose (is_query_val (value x)) node_in_query node_in_list → rs ≡ recs (inside (value x)) → Single (inside (value x)).nodes → Ends F at not pre (ended_w K T a code not pre rs)
  unfolding ended_w
  ended F at not pre u x a code rs j e d r sg = told_choose (eqb (kind_at K a) RP) (done (a + 1) 12 0 (over code not 2 pre rs)) (wrong_at K T a)
      (λ z. told_done (a + 1) 12 0 (over code not 2 pre rs) (
        u,
        x,
        tok_at K T a,
        e ∙ lit_got K T good.sound F RP [] (add (add nil (leaf u)) x) a (omega arith) (eqb_eq (kind_at K a) RP z) (no_word F.c F.r F.l F.t (add (add nil (leaf u)) x) (leaf (tok_at K T a)) j),
        rw (d, r),
        sg,
        refl,
      ))
      (λ z. told_stop (wrong (kind_at K a)) a (e ∙ lit_wrong K T good.sound F RP [] (add (add nil (leaf u)) x) a (omega arith) (eqb-false (kind_at K a) RP z)))

  pub inside_ok : QueryOK K T f → HostOK K T f → InsideOK K T (suc f)
  unfolding expr_w
  inside_ok query host at c not pre F is b j = told_choose (eqb (kind_at K at) LP) _ (wrong_at K T at)
      (λ z. told_choose (both (leb SELECT (kind_at K (at + 1))) (leb (kind_at K (at + 1)) VALUES)) _ _
      (λ w. told_bind (query_w K T f (at + 1) c) _ (query (at + 1) c (any Inside?) []
      (Inside_at_SELECT ∙ ap (λ i. some (part row_select i)) (sym (append-nil select_items))) (Inside_at_VALUES ∙ ap (λ i. some (part row_values i)) (sym (append-nil values_items)))
      (λ x y. absurd (two_kinds (kind_at K (at + 1)) w x y)))
      (λ a s m rs q. a_query_lem z a rs q.0 q.1 q.2 q.3 q.4 q.7)
      (λ m p e. lp z ∙ nt_refused K T good.sound F (any Inside?) (lit RP ∷ []) (add nil (leaf (tok_at K T at))) (at + 1) (rw b e)))
      (λ w. told_choose (eqb (kind_at K (at + 1)) RP) _ _
      (λ v. nothing z (eqb_eq (kind_at K (at + 1)) RP v))
      (λ v. told_bind (list_w K T f (at + 1) c 0) _ (host (at + 1) c Inside? F (add nil (leaf (tok_at K T at))) host_class (no_kind (kind_at K (at + 1)) w) (λ y e. eqb-false (kind_at K (at + 1)) RP v e) b j)
      (λ a s m rs q. a_list z a m rs q.0 q.1 q.2 q.3 q.5)
      (λ m p e. lp z ∙ e))))
      (λ z. told_stop (wrong (kind_at K at)) at (ap (λ i. rests K T F i nil at) is ∙ lit_wrong K T good.sound F LP (nt (any Inside?) ∷ lit RP ∷ []) nil at (omega arith) (eqb-false (kind_at K at) LP z)))
    where
      u : Tok
      u = tok_at K T at

      lp : eqb (kind_at K at) LP ≡ true → rests K T F F.r.items nil at ≡ rests K T F (nt (any Inside?) ∷ lit RP ∷ []) (add nil (leaf u)) (at + 1)
      lp z = ap (λ i. rests K T F i nil at) is ∙ lit_got K T good.sound F LP (nt (any Inside?) ∷ lit RP ∷ []) nil at (omega arith) (eqb_eq (kind_at K at) LP z) (no_word F.c F.r F.l F.t nil (leaf u) j)

      -- a query
      a_query_lem : eqb (kind_at K at) LP ≡ true → (a : ℕ) (rs : List Rec) (r : Row) (k : Tree)
          → calls K T c (any Inside?) (at + 1) ≡ rests K T (record { c = c; A = any Inside?; r = r; l = nil; t = tok_at K T (at + 1) }) [] k a
          → is_query r.code ≡ true → r.str ≡ 0 → QueryNode r (tok_at K T (at + 1)) k rs → Ends F at not pre (ended_w K T a 42 not pre rs)
      a_query_lem z a rs r k e q st nd = let x = node r nil (tok_at K T (at + 1)) k in let h = inside_query (value x) (query_val r (tok_at K T (at + 1)) k q) in
          ended F at not pre u x a 42 rs j
          (lp z ∙ nt_got K T good.sound F (any Inside?) (lit RP ∷ []) (add nil (leaf u)) (at + 1)
          (rw b (e ∙ row_stop K T good.sound (record { c = c; A = any Inside?; r = r; l = nil; t = tok_at K T (at + 1) }) k a (shut_tail (any Inside?) among r (cap_of k) (kind_at K a) (omega (arith, st))))))
          (query_code (value x) (query_val r (tok_at K T (at + 1)) k q)) (rw h (sym nd.records)) (rw h nd.single)

      -- nothing
      nothing : eqb (kind_at K at) LP ≡ true → kind_at K (at + 1) ≡ RP → Ends F at not pre (ended_w K T (at + 1) 41 not pre (rec 4 0 0 1 ∷ []))
      nothing z e = ended F at not pre u nil (at + 1) 41 (rec 4 0 0 1 ∷ []) j
          (lp z ∙ nt_got K T good.sound F (any Inside?) (lit RP ∷ []) (add nil (leaf u)) (at + 1) (rw b (call_absent K T good.sound c (any Inside?) (at + 1) (rw e Inside_at_RP) Inside_may)))
          (list_code (value nil) nil_val) (nil_recs ∙ ap recs (sym (inside_list (value nil) nil_val))) (list_single (value nil) nil_val)

      -- expressions
      a_list : eqb (kind_at K at) LP ≡ true → (a m : ℕ) (rs : List Rec) (y : Tree)
          → rests K T F (nt (any Inside?) ∷ lit RP ∷ []) (add nil (leaf u)) (at + 1) ≡ rests K T F (lit RP ∷ []) (add (add nil (leaf u)) y) a
          → plain_code (value y).row ≡ true → m ≡ count (value y).nodes → rs ≡ recs (value y) → Ends F at not pre (ended_w K T a 41 not pre (over 4 0 m 0 rs))
      a_list z a m rs y e pl n r = let h = plain_no_query (value y).row pl in
          ended F at not pre u y a 41 (over 4 0 m 0 rs) j (lp z ∙ e) (list_code (value y) h) (list_recs (value y) m rs h n r) (list_single (value y) h)
