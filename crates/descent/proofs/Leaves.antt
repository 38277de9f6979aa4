-- Operands that begin with a name or a literal: a literal, names, name DOT STAR in a column, a call. Assumes nothing.
use mathlib.Core.Bool.{true, false, Bool}
use mathlib.Core.List.{List, [], ◌∷◌}
use mathlib.Core.Logic.{◌⊎◌, inl, inr}
use mathlib.Core.Option.{some}
use mathlib.Core.Path.{◌≡◌, refl, sym, ap, ◌∙◌}
use Prim.Native.Nat.{ℕ, ◌+◌, ◌≤◌, ◌<◌, suc}
use borrow.Author.Tests.{eqb-false}
use lib.Dec.{ltb, eqb, leb}
use lib.ListN.{get_or}
use native.Mathlib.Omega.{arith}
use Rattle.theory.specs.Trees.{Tok, nt, Row, Tree, nil, add, node, cap_of}
use Rattle.theory.specs.Table.{pick, both, mem}
use Rattle.theory.specs.Outcome.{got, refused}
use Rattle.theory.proofs.Cases.{by_bool, 0≢1, both_l, both_r, both_i, eqb_eq, eqb-true, le-leb}
use Rattle.kinds.specs.Kinds.{ID, INDEXED, NULL, LP, DOT, STAR}
use Rattle.kinds.specs.Strength.{prefix_of}
use Rattle.kinds.specs.Classes.{is_name, heads_call, name_code, literal_code}
use Rattle.grammar.specs.Classes.{Column, any}
use Rattle.grammar.specs.RowNames.{row_dot_star}
use Rattle.grammar.specs.NodeNames.{node_name_star, node_names}
use Rattle.grammar.specs.Rows.{ending}
use Rattle.grammar.specs.Limits.{Around, is_query, below}
use Rattle.grammar.specs.Nodes.{count, beside, Rec, rec, records}
use Rattle.grammar.specs.Reading.{empty, side, says, choose, name, rules, ruled, value_of, value, ◌#◌}
use Rattle.descent.proofs.Places.{kind_at, tok_at, from, OpenRow, calls, rests, again}
use Rattle.descent.proofs.Named.{literal_row, names_row, rest_of, head_row}
use Rattle.descent.proofs.Walk.{done, onto, deeper, not_b, name_rec, dots_w, dotted_w, expr_w, call_w}
use Rattle.descent.proofs.Grown.{recs}
use Rattle.descent.proofs.SameRow.{below?, throughout}
use Rattle.descent.proofs.TableFacts.{BOUND}
use Rattle.descent.proofs.Steps.{nt_got, nt_refused, call_in, call_absent, row_stop}
use Rattle.descent.proofs.Means.{Single, plain_code, str_of, ExprTree, StarTree, Exprd, Told, Good, LeafOK, call_row, CallOK}
use Rattle.descent.proofs.Common.{told_onto, told_map, told_choose, told_done, part_no_word}
use Rattle.descent.proofs.NoTails.{ends}
use Rattle.descent.proofs.Sides.{beside_end, recs_over, one_single}
use Rattle.descent.proofs.Heads.{head_on}
use Rattle.descent.proofs.NamesOfColumn.{dot_row, second_of, rest_dot, rest_may, rest_ends, rest_call, rest_none, second_may, second_ends, second_here, star_here, After, dots_read}

-- ── the kinds of names and literals ──
leaf_test : ℕ → Bool
leaf_test k = pick (both (leb ID k) (leb k NULL)) (both (eqb (prefix_of k) 0) (pick (ltb 0 (literal_code k)) true (λ w. both (is_name k) (pick (heads_call k) true (λ w. eqb k INDEXED))))) (λ w. true)

leaves_right : below? BOUND leaf_test ≡ true
unfolding leaf_test below? prefix_of literal_code is_name heads_call pick both
leaves_right = refl

module _ (k : ℕ) (h : k < BOUND) (a : ID ≤ k) (b : k ≤ NULL) where
  leaf_facts : both (eqb (prefix_of k) 0) (pick (ltb 0 (literal_code k)) true (λ w. both (is_name k) (pick (heads_call k) true (λ w. eqb k INDEXED)))) ≡ true
  unfolding leaf_test pick both
  leaf_facts = rw (le-leb ID k a, le-leb k NULL b) at (throughout BOUND leaf_test leaves_right k h)

  no_prefix : prefix_of k ≡ 0
  no_prefix = eqb_eq (prefix_of k) 0 (both_l (eqb (prefix_of k) 0) _ leaf_facts)

  name_facts : ltb 0 (literal_code k) ≡ false → both (is_name k) (pick (heads_call k) true (λ w. eqb k INDEXED)) ≡ true
  unfolding pick
  name_facts z = rw z at (both_r (eqb (prefix_of k) 0) (pick (ltb 0 (literal_code k)) true (λ w. both (is_name k) (pick (heads_call k) true (λ w. eqb k INDEXED)))) leaf_facts)

  leaf_literal : (C : ℕ) → ltb 0 (literal_code k) ≡ true → head_row C k ≡ some literal_row
  unfolding head_row pick
  leaf_literal C z = rw (no_prefix, z)

  leaf_names : (C : ℕ) → ltb 0 (literal_code k) ≡ false → head_row C k ≡ some (names_row (rest_of C k))
  unfolding head_row pick
  leaf_names C z = rw (no_prefix, z, both_l (is_name k) _ (name_facts z))

  -- where it heads no call it is INDEXED
  leaf_indexed : ltb 0 (literal_code k) ≡ false → heads_call k ≡ false → k ≡ INDEXED
  unfolding pick
  leaf_indexed z w = eqb_eq k INDEXED (rw w at (both_r (is_name k) (pick (heads_call k) true (λ w. eqb k INDEXED)) (name_facts z)))

-- ── the node of names whose first is t, with what comes after it, k, and the records rs after the first name's ──
module _ (R : ℕ) (t : Tok) where
  abbrev whole : Tree → Tree
  whole k = node (names_row R) nil t (add nil k)

  abbrev Names : Tree → List Rec → Type 0
  Names k rs = (99 ≤ cap_of k) × ((value (whole k)).num ≡ 0) × Single (value (whole k)).nodes × (recs (value (whole k)) ≡ rec (name_code t.kind) t.text 0 1 ∷ rs)

  names_alone : Names nil (rec 31 0 1 2 ∷ [])
  unfolding value value_of ruled rules pick side beside count records cap_of ◌#◌
  names_alone = (omega arith, refl, one_single node_names 0 (name t ∷ empty ∷ []), refl)

  names_dots : (K T : List ℕ) (good : Good K T) (D : ℕ) (u : Tok) (y : Tree) (rs : List Rec) → After K T good y rs → Names (node (dot_row D) nil u (add nil y)) rs
  unfolding value value_of ruled rules pick side beside cap_of records count ◌#◌
  names_dots K T good D u y rs (shut, silent, r) = (
    omega (arith, shut),
    rw silent,
    rw silent (one_single node_names 0 (name t ∷ value y ∷ [])),
    rw (r, silent) (recs_over node_names 0 (count (value y).nodes + 1) 1 (name t) (value y ∷ []) (value y).nodes (one_single (name_code t.kind) t.text []) refl (beside_end (value y).nodes) refl),
  )

  names_tree : (k : Tree) (said : ℕ) → said ≡ 12 → 99 ≤ cap_of k → (value (whole k)).num ≡ 0 → Single (value (whole k)).nodes → ExprTree (whole k) said
  unfolding cap_of plain_code not_b mem pick
  names_tree k said e open_end silent single = record { r = names_row R; l = nil; t = t; k = add nil k; is = refl; leaves = omega (arith, e, open_end); some = omega (arith, e); plain = refl; silent = silent; single = single }

  -- DOT STAR
  abbrev dot_star : ℕ → Tok → Tok → Tree
  dot_star D u v = node (dot_row D) nil u (add nil (node (ending row_dot_star []) nil v nil))

  star_tree : (D : ℕ) (u v : Tok) → StarTree (whole (dot_star D u v))
  unfolding value value_of ruled rules pick cap_of plain_code not_b mem ◌#◌
  star_tree D u v = record { r = names_row R; l = nil; t = t; k = add nil (dot_star D u v); is = refl; shut = refl; plain = refl; says = refl; single = one_single node_name_star 0 (name t ∷ []) }

  star_recs : (D : ℕ) (u v : Tok) → recs (value (whole (dot_star D u v))) ≡ rec (name_code t.kind) t.text 0 1 ∷ (rec 6 0 1 2 ∷ [])
  unfolding value value_of ruled rules pick side beside records count ◌#◌
  star_recs D u v = refl

module _ (K T : List ℕ) (good : Good K T) where
  -- after the first name, in a class C that takes an expression of strength s: nothing, DOT STAR, or DOT name [DOT name]
  dotted_read : (n : ℕ) (c : Around) (s C k : ℕ) (t : Tok) → (s ≡ 0 → C ≡ Column) → (1 ≤ s → C ≡ Column → ⊥) → (kind_at K n ≡ LP → k ≡ INDEXED)
      → Told (dotted_w K T n s)
      (λ a said m rs. (y : Tree) × (calls K T c (any (rest_of C k)) n ≡ got y a (from K T a))
      × (((said ≡ 12) × Names (rest_of C k) t y rs) ⊎ ((said ≡ 0) × (s ≡ 0) × StarTree (whole (rest_of C k) t y) × (recs (value (whole (rest_of C k) t y)) ≡ rec (name_code t.kind) t.text 0 1 ∷ rs))))
      (λ m p. calls K T c (any (rest_of C k)) n ≡ refused m p)
  unfolding dotted_w below is_query pick
  dotted_read n c s C k t col oth lp = told_choose (eqb (kind_at K n) DOT) _ (done n 12 0 (rec 31 0 1 2 ∷ []))
      (λ z. told_choose (both (eqb s 0) (eqb (kind_at K (n + 1)) STAR)) (done (n + 2) 0 0 (rec 6 0 1 2 ∷ [])) (dots_w K T n)
      (λ w. let no = eqb_eq s 0 (both_l (eqb s 0) (eqb (kind_at K (n + 1)) STAR) w) in
      told_done (n + 2) 0 0 (rec 6 0 1 2 ∷ []) (
        dot_star R t D (tok_at K T n) (tok_at K T (n + 1)),
        on z ∙ nt_got K T good.sound F (any D) [] nil (n + 1) (star (col no) (eqb_eq (kind_at K (n + 1)) STAR (both_r (eqb s 0) (eqb (kind_at K (n + 1)) STAR) w)))
            ∙ row_stop K T good.sound F _ (n + 2) (ends R (rest_ends C k) (dot_row D) _ (kind_at K (n + 2))),
        inr (refl, no, star_tree R t D (tok_at K T n) (tok_at K T (n + 1)), star_recs R t D (tok_at K T n) (tok_at K T (n + 1))),
      ))
      (λ w. told_map (dots_w K T n) (dots_read K T good D (second_may C) (second_ends C) n c (second_here C (kind_at K (n + 1)) (good.bound (n + 1)) (no_star w)))
      (λ a said m rs q. (
        node (dot_row D) nil (tok_at K T n) (add nil q.0),
        on z ∙ nt_got K T good.sound F (any D) [] nil (n + 1) q.1 ∙ row_stop K T good.sound F _ a (ends R (rest_ends C k) (dot_row D) _ (kind_at K a)),
        inl (q.2, names_dots R t K T good D (tok_at K T n) q.0 rs q.3),
      ))
      (λ m p e. on z ∙ nt_refused K T good.sound F (any D) [] nil (n + 1) e)))
      (λ z. told_done n 12 0 (rec 31 0 1 2 ∷ []) (
        nil,
        call_absent K T good.sound c (any R) n (rest_none C k (kind_at K n) (eqb-false (kind_at K n) DOT z) lp) (rest_may C k),
        inl (refl, names_alone R t),
      ))
    where
      R : ℕ
      R = rest_of C k

      D : ℕ
      D = second_of C

      F : OpenRow
      F = record { c = c; A = any R; r = dot_row D; l = nil; t = tok_at K T n }

      on : eqb (kind_at K n) DOT ≡ true → calls K T c (any R) n ≡ rests K T F (nt (any D) ∷ []) nil (n + 1)
      on z = call_in K T good.sound c (any R) n (dot_row D) (rw (eqb_eq (kind_at K n) DOT z) (rest_dot C k)) (part_no_word c (dot_row D) (tok_at K T n) refl refl)

      star : C ≡ Column → kind_at K (n + 1) ≡ STAR → calls K T c (any D) (n + 1) ≡ got (node (ending row_dot_star []) nil (tok_at K T (n + 1)) nil) (n + 2) (from K T (n + 2))
      star e d = call_in K T good.sound c (any D) (n + 1) (ending row_dot_star []) (rw d (star_here C e)) (part_no_word c (ending row_dot_star []) (tok_at K T (n + 1)) refl refl)
          ∙ row_stop K T good.sound (record { c = c; A = any D; r = ending row_dot_star []; l = nil; t = tok_at K T (n + 1) }) nil (n + 1 + 1) (ends D (second_ends C) (ending row_dot_star []) _ (kind_at K (n + 1 + 1)))
          ∙ ap (λ z. got (node (ending row_dot_star []) nil (tok_at K T (n + 1)) nil) z (from K T z)) (omega arith)

      no_star : both (eqb s 0) (eqb (kind_at K (n + 1)) STAR) ≡ false → C ≡ Column → kind_at K (n + 1) ≡ STAR → ⊥
      no_star w e d = by_bool (eqb s 0) (λ z. 0≢1 (sym w ∙ both_i (eqb s 0) (eqb (kind_at K (n + 1)) STAR) z (eqb-true (kind_at K (n + 1)) STAR d)))
          (λ z. oth (some_more s (eqb-false s 0 z)) e)
        where
          some_more : (i : ℕ) → (i ≡ 0 → ⊥) → 1 ≤ i
          some_more i o = omega (arith, o)

  module _ (f : ℕ) where
    pub leaf_ok : CallOK K T f → LeafOK K T (suc f)
    unfolding expr_w again below is_query pick value value_of ruled rules side records count cap_of str_of plain_code not_b mem
    leaf_ok call at c s A t o nu l x = told_choose (ltb 0 (literal_code (kind_at K at))) (done (at + 1) 12 0 _) _
        (λ z. told_done (at + 1) 12 0 _ (
          node literal_row nil tok nil,
          head_on K T good at c s A t o literal_row (leaf_literal (kind_at K at) (good.bound at) x.0 x.1 A.of z) (omega arith) (omega (arith, t.most)) refl l,
          inl (
            record {
              r = literal_row;
              l = nil;
              t = tok;
              k = nil;
              is = refl;
              leaves = refl;
              some = omega arith;
              plain = refl;
              silent = refl;
              single = one_single (literal_code (kind_at K at)) (choose (eqb (kind_at K at) NULL) 0 (get_or T at 0)) [];
            },
            omega (arith, t.most),
          ),
          refl,
        ))
        (λ z. told_choose (both (eqb (kind_at K (at + 1)) LP) (heads_call (kind_at K at))) (onto (name_rec K T at ∷ []) (call_w K T f (at + 2) (deeper c))) (onto (name_rec K T at ∷ []) (dotted_w K T (at + 1) s))
        (λ w. let e = in_call (eqb_eq (kind_at K (at + 1)) LP (both_l (eqb (kind_at K (at + 1)) LP) (heads_call (kind_at K at)) w)) (both_r (eqb (kind_at K (at + 1)) LP) (heads_call (kind_at K at)) w) in
        told_onto (name_rec K T at ∷ []) (call_w K T f (at + 2) (deeper c)) (call (at + 2) (deeper c) F2 tok refl refl refl (ends R (rest_ends A.of (kind_at K at))))
        (λ a said m rs q. (
          node r nil tok (add nil (node (call_row K T) nil (tok_at K T (at + 1)) q.0)),
          on z ∙ nt_got K T good.sound F (any R) [] nil (at + 1) (e ∙ q.1),
          inl (names_tree R tok (node (call_row K T) nil (tok_at K T (at + 1)) q.0) said q.2 (omega (arith, q.3)) (q.6 R) (q.5 R), omega (arith, t.most)),
          sym (q.4 R),
        ))
        (λ m p h. on z ∙ nt_refused K T good.sound F (any R) [] nil (at + 1) (e ∙ h)))
        (λ w. told_onto (name_rec K T at ∷ []) (dotted_w K T (at + 1) s) (dotted_read (at + 1) (deeper c) s A.of (kind_at K at) tok t.column t.other (no_call z w))
        (λ a said m rs q. (node r nil tok (add nil q.0), on z ∙ nt_got K T good.sound F (any R) [] nil (at + 1) q.1, (names_said q.0 said rs q.2).0, (names_said q.0 said rs q.2).1))
        (λ m p h. on z ∙ nt_refused K T good.sound F (any R) [] nil (at + 1) h)))
      where
        tok : Tok
        tok = tok_at K T at

        R : ℕ
        R = rest_of A.of (kind_at K at)

        r : Row
        r = names_row R

        F : OpenRow
        F = record { c = c; A = A; r = r; l = nil; t = tok }

        F2 : OpenRow
        F2 = record { c = deeper c; A = any R; r = call_row K T; l = nil; t = tok_at K T (at + 1) }

        on : ltb 0 (literal_code (kind_at K at)) ≡ false → calls K T c A at ≡ rests K T F (nt (any R) ∷ []) nil (at + 1)
        on z = head_on K T good at c s A t o r (leaf_names (kind_at K at) (good.bound at) x.0 x.1 A.of z) (omega arith) (omega (arith, t.most)) refl l

        no_call : ltb 0 (literal_code (kind_at K at)) ≡ false → both (eqb (kind_at K (at + 1)) LP) (heads_call (kind_at K at)) ≡ false → kind_at K (at + 1) ≡ LP → kind_at K at ≡ INDEXED
        no_call z w e = by_bool (heads_call (kind_at K at)) (λ h. 0≢1 (sym w ∙ both_i (eqb (kind_at K (at + 1)) LP) (heads_call (kind_at K at)) (eqb-true (kind_at K (at + 1)) LP e) h))
            (λ h. leaf_indexed (kind_at K at) (good.bound at) x.0 x.1 z h)

        names_said : (y : Tree) (said : ℕ) (rs : List Rec)
            → ((said ≡ 12) × Names R tok y rs) ⊎ ((said ≡ 0) × (s ≡ 0) × StarTree (whole R tok y) × (recs (value (whole R tok y)) ≡ name_rec K T at ∷ rs))
            → Exprd (whole R tok y) said s × (name_rec K T at ∷ rs ≡ recs (value (whole R tok y)))
        names_said y said rs (inl h) = (inl (names_tree R tok y said h.0 h.1.0 h.1.1 h.1.2, omega (arith, t.most)), sym h.1.3)
        names_said y said rs (inr h) = (inr (h.0, h.1, h.2), sym h.3)

        in_call : kind_at K (at + 1) ≡ LP → heads_call (kind_at K at) ≡ true → calls K T (deeper c) (any R) (at + 1) ≡ rests K T F2 (call_row K T).items nil (at + 2)
        in_call e h = call_in K T good.sound (deeper c) (any R) (at + 1) (call_row K T) (rw e (rest_call K T A.of (kind_at K at) h)) (part_no_word (deeper c) (call_row K T) (tok_at K T (at + 1)) refl refl)
            ∙ ap (λ i. rests K T F2 (call_row K T).items nil i) (omega arith)
