-- A call, after its LP, means what the grammar says. Assumes nothing.
use mathlib.Core.Bool.{true, false}
use mathlib.Core.List.{List, [], ◌∷◌, ◌++◌, append_assoc}
use mathlib.Core.Option.{none}
use mathlib.Core.Path.{◌≡◌, refl, sym, ap, ◌∙◌, subst}
use Prim.Native.Nat.{ℕ, ◌+◌, ◌≤◌, suc}
use borrow.Author.Tests.{eqb-false}
use lib.Dec.{eqb}
use lib.ListN.{length, length-append}
use native.Mathlib.Omega.{arith}
use Rattle.theory.specs.Trees.{Tok, Nt, lit, nt, Row, Tree, nil, add, leaf, node, cap_of}
use Rattle.theory.specs.Table.{pick, mem, cont_of}
use Rattle.theory.specs.Outcome.{got, refused}
use Rattle.theory.proofs.Cases.{eqb_eq}
use Rattle.kinds.specs.Kinds.{RP, STAR, DISTINCT}
use Rattle.kinds.specs.Classes.{name_code}
use Rattle.grammar.specs.Classes.{Exprs?, Args?, E, any}
use Rattle.grammar.specs.RowNames.{row_names, row_call, row_star_args, row_distinct_args}
use Rattle.grammar.specs.NodeNames.{node_list, node_call}
use Rattle.grammar.specs.Rows.{part}
use Rattle.grammar.specs.Grammar.{sql}
use Rattle.grammar.specs.Limits.{Around, is_query, below, judge}
use Rattle.grammar.specs.Nodes.{count, beside, Rec, rec, records}
use Rattle.grammar.specs.Reading.{Val, empty, side, cat, one, name, rules, ruled, value_of, value, ◌#◌}
use Rattle.descent.proofs.Places.{kind_at, tok_at, from, wrong, OpenRow, rests}
use Rattle.descent.proofs.Named.{names_row, own}
use Rattle.descent.proofs.Walk.{Walked, not_b, called_w, expr_w, list_w, call_w}
use Rattle.descent.proofs.Grown.{recs}
use Rattle.descent.proofs.Steps.{nt_got, nt_refused, lit_got, lit_wrong, call_in, call_absent, row_stop}
use Rattle.descent.proofs.Growing.{recs_one}
use Rattle.descent.proofs.ClassFacts.{none_of_2, Args_at_STAR, Args_at_DISTINCT, Args_at_RP, Args_may}
use Rattle.descent.proofs.Rules.{known, value_star_args, value_distinct_args}
use Rattle.descent.proofs.Means.{Single, plain_code, Told, Good, ListOK, HostOK, call_row, CallOK}
use Rattle.descent.proofs.Common.{told_bind, told_choose, told_done, told_stop, no_word, part_no_word}
use Rattle.descent.proofs.Sides.{single_count, one_single}
use Rattle.descent.proofs.Strong.{below_part}
use Rattle.descent.proofs.Tails.{shut_tail}
use Rattle.descent.proofs.Values.{recs_all_1, recs_all_2, count_1, count_2, name_single, recs_name, plain_not}
use Rattle.descent.proofs.Hosts.{args_host}

-- ── the nodes ──
-- what a call says by its detail, from the row of its arguments
unfoldable detail_of : ℕ → ℕ
detail_of r = pick (eqb r row_star_args) 2 (λ w. pick (eqb r row_distinct_args) 1 (λ w. 0))

abbrev row_of_call : Row
row_of_call = part row_call (nt (any Args?) ∷ lit RP ∷ [])

last_record : (p : Rec) (rs : List Rec) (q : Rec) (D i s : ℕ) → i ≡ 2 → s ≡ length rs + 3 → p ∷ ((rs ++ (q ∷ [])) ++ (rec 32 D i s ∷ [])) ≡ p ∷ (rs ++ (q ∷ rec 32 D 2 (length rs + 3) ∷ []))
last_record p rs q D i s a b = rw (a, b) (ap (λ z. p ∷ z) (append_assoc rs (q ∷ []) _))

module _ (m : ℕ) (nm t : Tok) (y : Tree) (w : Tok) where
  abbrev call_kids : Tree
  call_kids = add (add nil y) (leaf w)

  abbrev call_node : Tree
  call_node = node row_of_call nil t call_kids

  abbrev whole_call : Tree
  whole_call = node (names_row m) nil nm (add nil call_node)

  value_in_call : value whole_call ≡ known row_names (one node_call (detail_of (value y).row) (name nm ∷ one node_list 0 (cat (value y ∷ []) ∷ []) ∷ []))
  unfolding value value_of ruled rules pick ◌#◌ side beside detail_of
  value_in_call = refl

  recs_arguments : recs (one node_list 0 (cat (value y ∷ []) ∷ [])) ≡ recs (value y) ++ (rec 4 0 (count (value y).nodes) (length (recs (value y)) + 1) ∷ [])
  recs_arguments = recs_one node_list 0 (cat (value y ∷ []) ∷ []) ∙ rw (recs_all_1 (cat (value y ∷ [])), recs_all_1 (value y), count_1 (cat (value y ∷ [])), count_1 (value y))

  recs_call : (D n : ℕ) (rs : List Rec) → detail_of (value y).row ≡ D → n ≡ count (value y).nodes → rs ≡ recs (value y)
      → recs (value whole_call) ≡ rec (name_code nm.kind) nm.text 0 1 ∷ (rs ++ (rec 4 0 n (length rs + 1) ∷ rec 32 D 2 (length rs + 3) ∷ []))
  recs_call D n rs d e r = rw (value_in_call, d, e, r) (recs_one node_call D (name nm ∷ one node_list 0 (cat (value y ∷ []) ∷ []) ∷ [])
      ∙ rw (recs_all_2 (name nm) (one node_list 0 (cat (value y ∷ []) ∷ [])), recs_arguments, recs_name nm, count_2 (name nm) (one node_list 0 (cat (value y ∷ []) ∷ [])))
      (last_record _ (recs (value y)) _ D _ _ (omega (arith, single_count _ (name_single nm), single_count _ (one_single node_list 0 (cat (value y ∷ []) ∷ []))))
      (omega (arith, length-append (recs (value y)) (rec 4 0 (count (value y).nodes) (length (recs (value y)) + 1) ∷ [])))))

  single_call : Single (value whole_call).nodes
  single_call = rw value_in_call (one_single node_call (detail_of (value y).row) (name nm ∷ one node_list 0 (cat (value y ∷ []) ∷ []) ∷ []))

  silent_call : (value whole_call).num ≡ 0
  silent_call = rw value_in_call refl

-- ── the arguments ──
abbrev star_args : Row
star_args = part row_star_args []

abbrev distinct_args : Row
distinct_args = part row_distinct_args (nt (E 1) ∷ nt (any Exprs?) ∷ [])

detail_star : (t : Tok) → detail_of (value (node star_args nil t nil)).row ≡ 2
unfolding value value_of detail_of pick
detail_star t = refl

nothing_star : (t : Tok) → (0 ≡ count (value (node star_args nil t nil)).nodes) × ([] ≡ recs (value (node star_args nil t nil)))
unfolding value count records
nothing_star t = rw (value_star_args empty t []) (refl, refl)

detail_none : detail_of (value nil).row ≡ 0
unfolding value detail_of pick
detail_none = refl

nothing_none : (0 ≡ count (value nil).nodes) × ([] ≡ recs (value nil))
unfolding value count records
nothing_none = (refl, refl)

detail_plain : (v : Val) → plain_code v.row ≡ true → detail_of v.row ≡ 0
unfolding detail_of plain_code not_b mem pick
detail_plain v p = rw (plain_not v.row row_star_args refl p, plain_not v.row row_distinct_args refl p)

module _ (t : Tok) (x l : Tree) where
  abbrev distinct_tree : Tree
  distinct_tree = node distinct_args nil t (add (add nil x) l)

  detail_distinct : detail_of (value distinct_tree).row ≡ 1
  unfolding value value_of detail_of pick
  detail_distinct = refl

  nodes_distinct : (value distinct_tree).nodes ≡ side (value x ∷ value l ∷ [])
  unfolding value
  nodes_distinct = ap (λ z. z.nodes) (value_distinct_args empty t (value x ∷ value l ∷ []))

  count_distinct : Single (value x).nodes → 1 + count (value l).nodes ≡ count (value distinct_tree).nodes
  count_distinct s = let i = single_count (value x).nodes s in rw nodes_distinct (omega (arith, count_2 (value x) (value l), i))

  recs_distinct : recs (value x) ++ recs (value l) ≡ recs (value distinct_tree)
  recs_distinct = sym (ap records nodes_distinct ∙ recs_all_2 (value x) (value l))

call_inside : (c : Around) → below row_of_call c ≡ c
unfolding is_query pick
call_inside c = below_part row_of_call c refl refl

distinct_inside : (c : Around) → below distinct_args c ≡ c
unfolding is_query pick
distinct_inside c = below_part distinct_args c refl refl

star_begins : (c : Around) (t : Tok) → judge c star_args nil t nil ≡ 0
unfolding is_query pick
star_begins c t = part_no_word c star_args t refl refl

distinct_begins : (c : Around) (t : Tok) → judge c distinct_args nil t nil ≡ 0
unfolding is_query pick
distinct_begins c t = part_no_word c distinct_args t refl refl

not_own : (k : ℕ) → (k ≡ STAR → ⊥) → (k ≡ DISTINCT → ⊥) → mem k (own Args?) ≡ false
unfolding own pick
not_own k a b = none_of_2 a b

-- what is said of the walk over a call, after its LP
module _ (K T : List ℕ) where
  abbrev Called : OpenRow → Tok → ℕ → Walked → Type 0
  Called F nm at w = Told w
      (λ a said m rs. (k : Tree) × (rests K T F F.r.items nil at ≡ got (node F.r nil F.t k) a (from K T a)) × (said ≡ 12) × (99 ≤ cap_of k)
      × ((n : ℕ) → recs (value (node (names_row n) nil nm (add nil (node F.r nil F.t k)))) ≡ rec (name_code nm.kind) nm.text 0 1 ∷ rs)
      × ((n : ℕ) → Single (value (node (names_row n) nil nm (add nil (node F.r nil F.t k)))).nodes) × ((n : ℕ) → (value (node (names_row n) nil nm (add nil (node F.r nil F.t k)))).num ≡ 0))
      (λ m p. rests K T F F.r.items nil at ≡ refused m p)

module _ (K T : List ℕ) (good : Good K T) where
  module _ (c : Around) (A : Nt) (t : Tok) (ends : (q : Row) (m k : ℕ) → cont_of sql A q m k ≡ none) (nm : Tok) (at : ℕ) where
    abbrev open_call : OpenRow
    open_call = record { c = c; A = A; r = row_of_call; l = nil; t = t }

    -- RP after the arguments y
    called : (a D n : ℕ) (rs : List Rec) (y : Tree) → rests K T open_call row_of_call.items nil at ≡ rests K T open_call (lit RP ∷ []) (add nil y) a
        → detail_of (value y).row ≡ D → n ≡ count (value y).nodes → rs ≡ recs (value y) → Called K T open_call nm at (called_w K T a D n rs)
    unfolding called_w mem pick cap_of
    called a D n rs y e d i r = told_choose (eqb (kind_at K a) RP) _ _
        (λ z. told_done (a + 1) 12 0 _ (
          call_kids 0 nm t y (tok_at K T a),
          e ∙ lit_got K T good.sound open_call RP [] (add nil y) a (omega arith) (eqb_eq (kind_at K a) RP z) (no_word c row_of_call nil t _ _ refl)
              ∙ row_stop K T good.sound open_call _ (a + 1) (ends row_of_call _ (kind_at K (a + 1))),
          refl,
          omega arith,
          (λ m. recs_call m nm t y (tok_at K T a) D n rs d i r),
          (λ m. single_call m nm t y (tok_at K T a)),
          (λ m. silent_call m nm t y (tok_at K T a)),
        ))
        (λ z. told_stop (wrong (kind_at K a)) a (e ∙ lit_wrong K T good.sound open_call RP [] (add nil y) a (omega arith) (eqb-false (kind_at K a) RP z)))

    -- ( STAR ), ( ), ( DISTINCT expressions ) or ( expressions )
    module _ (f : ℕ) (list : ListOK K T f) (host : HostOK K T f) where
      args_ok : Called K T open_call nm at (call_w K T (suc f) at c)
      unfolding expr_w mem pick
      args_ok = told_choose (eqb (kind_at K at) STAR) _ _
          (λ z. called (at + 1) 2 0 [] (node star_args nil (tok_at K T at) nil)
          (nt_got K T good.sound open_call (any Args?) (lit RP ∷ []) nil at (rw (call_inside c) (call_in K T good.sound c (any Args?) at star_args (rw (eqb_eq (kind_at K at) STAR z) Args_at_STAR) (star_begins c (tok_at K T at))
          ∙ row_stop K T good.sound _ nil (at + 1) (shut_tail (any Args?) args_host.among star_args _ (kind_at K (at + 1)) (omega arith)))))
          (detail_star (tok_at K T at)) (nothing_star (tok_at K T at)).0 (nothing_star (tok_at K T at)).1)
          (λ nz. told_choose (eqb (kind_at K at) RP) _ _
          (λ z. called at 0 0 [] nil (nt_got K T good.sound open_call (any Args?) (lit RP ∷ []) nil at (rw (call_inside c) (call_absent K T good.sound c (any Args?) at (rw (eqb_eq (kind_at K at) RP z) Args_at_RP) Args_may)))
          detail_none nothing_none.0 nothing_none.1)
          (λ nr. told_choose (eqb (kind_at K at) DISTINCT) _ _
          (λ z. let in' = call_in K T good.sound c (any Args?) at distinct_args (rw (eqb_eq (kind_at K at) DISTINCT z) Args_at_DISTINCT) (distinct_begins c (tok_at K T at)) in
          told_bind (list_w K T f (at + 1) c 0) _ (list (at + 1) c 0 (record { c = c; A = any Args?; r = distinct_args; l = nil; t = tok_at K T at }) [] nil (distinct_inside c))
          (λ a s n rs p. called a 1 n rs (distinct_tree (tok_at K T at) p.0 p.1)
          (nt_got K T good.sound open_call (any Args?) (lit RP ∷ []) nil at (rw (call_inside c) (in' ∙ p.2 ∙ row_stop K T good.sound (record { c = c; A = any Args?; r = distinct_args; l = nil; t = tok_at K T at }) _ a
          (shut_tail (any Args?) args_host.among distinct_args _ (kind_at K a) (omega arith)))))
          (detail_distinct (tok_at K T at) p.0 p.1) (let i = count_distinct (tok_at K T at) p.0 p.1 p.3.1.single in omega (arith, p.4, p.5, i)) (p.6 ∙ recs_distinct (tok_at K T at) p.0 p.1))
          (λ m v p. nt_refused K T good.sound open_call (any Args?) (lit RP ∷ []) nil at (rw (call_inside c) (in' ∙ p))))
          (λ nd. told_bind (list_w K T f at c 0) _ (host at c Args? open_call nil refl (not_own (kind_at K at) (eqb-false (kind_at K at) STAR nz) (eqb-false (kind_at K at) DISTINCT nd)) (λ m. eqb-false (kind_at K at) RP nr) (call_inside c) refl)
          (λ a s n rs p. called a 0 n rs p.0 p.1 (detail_plain (value p.0) p.2) p.3 p.5)
          (λ m v p. p))))

  pub call_ok : (f : ℕ) → ListOK K T f → HostOK K T f → CallOK K T (suc f)
  call_ok f list host at c F nm er el ec ends = subst (λ z. Called K T z nm at (call_w K T (suc f) at c)) (sym (same er el ec)) (args_ok c F.A F.t ends nm at f list host)
    where
      same : F.r ≡ call_row K T → F.l ≡ nil → F.c ≡ c → ◌≡◌ {A = OpenRow} (record { c = F.c; A = F.A; r = F.r; l = F.l; t = F.t }) (record { c = c; A = F.A; r = call_row K T; l = nil; t = F.t })
      same er el ec = rw (er, el, ec)
