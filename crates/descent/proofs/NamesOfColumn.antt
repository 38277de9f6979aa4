-- Names after the first: what may come after it (rest_dot, rest_call, rest_none), DOT name [DOT name] for both classes to which the first DOT
-- leads (dots_read), and the values of the trees. Assumes nothing.
use mathlib.Core.Bool.{true, false}
use mathlib.Core.List.{List, [], ◌∷◌}
use mathlib.Core.Option.{some, none}
use mathlib.Core.Path.{◌≡◌, refl, ◌∙◌}
use Prim.Native.Nat.{ℕ, ◌+◌, ◌≤◌, ◌<◌}
use borrow.Author.Tests.{eqb-false}
use lib.Dec.{eqb}
use native.Mathlib.Omega.{arith}
use Rattle.theory.specs.Trees.{Tok, nt, Row, Tree, nil, add, node, cap_of}
use Rattle.theory.specs.Table.{pick, enter_of, null_of, mem}
use Rattle.theory.specs.Outcome.{got, refused}
use Rattle.theory.proofs.Cases.{by_bool, 0≢1, eqb_eq}
use Rattle.kinds.specs.Kinds.{INDEXED, LP, DOT, STAR}
use Rattle.kinds.specs.Classes.{is_name, heads_call}
use Rattle.grammar.specs.Classes.{Name, Column, StarOrName, SecondName, ColRest?, ColDots?, Dot?, NameRest?, Dots?, any}
use Rattle.grammar.specs.RowNames.{row_dot, row_dot_star, row_dot_name}
use Rattle.grammar.specs.NodeNames.{node_names}
use Rattle.grammar.specs.Rows.{part, ending}
use Rattle.grammar.specs.Grammar.{sql}
use Rattle.grammar.specs.Limits.{Around, is_query, below}
use Rattle.grammar.specs.Nodes.{count, beside, Rec, rec, records}
use Rattle.grammar.specs.Reading.{side, rules, ruled, value_of, value}
use Rattle.descent.proofs.Places.{kind_at, tok_at, from, wrong, OpenRow, calls, rests}
use Rattle.descent.proofs.Named.{rest_of}
use Rattle.descent.proofs.Walk.{over, name_rec, dots_w}
use Rattle.descent.proofs.Grown.{recs}
use Rattle.descent.proofs.TableFacts.{BOUND}
use Rattle.descent.proofs.Steps.{nt_got, nt_refused, call_in, call_absent, call_wrong, row_stop}
use Rattle.descent.proofs.ClassFacts.{out, none_of_1, none_of_2, firsts_ColRest, ColRest_at_DOT, ColRest_at_LP, ColRest_may, firsts_ColDots, ColDots_at_DOT, ColDots_may, StarOrName_at_STAR, StarOrName_may, SecondName_may, firsts_Dot, Dot_at_DOT, Dot_may, firsts_NameRest, NameRest_at_LP, NameRest_at_DOT, NameRest_may, firsts_Dots, Dots_at_DOT, Dots_may}
use Rattle.descent.proofs.Means.{Told, Good, call_row}
use Rattle.descent.proofs.Common.{told_choose, told_done, part_no_word}
use Rattle.descent.proofs.NoTails.{plain_classes, ends}
use Rattle.descent.proofs.PlainClasses.{opened, begin, whole}
use Rattle.descent.proofs.NameRead.{second_row, at_name, second_in, star_or_name_in, name_tree, name_got, name_wrong, told_name}

abbrev pub dot_row : ℕ → Row
dot_row D = part row_dot (nt (any D) ∷ [])

abbrev pub dot_name_row : Row
dot_name_row = part row_dot_name (nt (any Name) ∷ [])

-- after the first DOT of an expression that stands in class C
unfoldable pub second_of : ℕ → ℕ
second_of C = pick (eqb C Column) StarOrName (λ w. SecondName)

-- ── what may come after the first name ──
-- what holds of each of the four classes holds of the one that is asked for
by_rest : (P : ℕ → ℕ → Type 0) (C k : ℕ) → ((k ≡ INDEXED → ⊥) → P ColRest? StarOrName) → (k ≡ INDEXED → P ColDots? StarOrName) → ((k ≡ INDEXED → ⊥) → P NameRest? SecondName) → (k ≡ INDEXED → P Dots? SecondName)
    → P (rest_of C k) (second_of C)
unfolding rest_of second_of pick
by_rest P C k a b c d = by_bool (eqb C Column)
    (λ z. by_bool (eqb k INDEXED) (λ w. rw (z, w) (b (eqb_eq k INDEXED w))) (λ w. rw (z, w) (a (eqb-false k INDEXED w))))
    (λ z. by_bool (eqb k INDEXED) (λ w. rw (z, w) (d (eqb_eq k INDEXED w))) (λ w. rw (z, w) (c (eqb-false k INDEXED w))))

pub rest_dot : (C k : ℕ) → enter_of sql (any (rest_of C k)) DOT ≡ some (dot_row (second_of C))
rest_dot C k = by_rest (λ R D. enter_of sql (any R) DOT ≡ some (dot_row D)) C k (λ w. ColRest_at_DOT) (λ w. ColDots_at_DOT) (λ w. NameRest_at_DOT) (λ w. Dots_at_DOT)

pub rest_may : (C k : ℕ) → null_of sql (any (rest_of C k)) ≡ true
rest_may C k = by_rest (λ R D. null_of sql (any R) ≡ true) C k (λ w. ColRest_may) (λ w. ColDots_may) (λ w. NameRest_may) (λ w. Dots_may)

pub rest_ends : (C k : ℕ) → mem (rest_of C k) plain_classes ≡ true
unfolding plain_classes mem pick
rest_ends C k = by_rest (λ R D. mem R plain_classes ≡ true) C k (λ w. refl) (λ w. refl) (λ w. refl) (λ w. refl)

-- a call's name is not INDEXED
pub rest_call : (K T : List ℕ) (C k : ℕ) → heads_call k ≡ true → enter_of sql (any (rest_of C k)) LP ≡ some (call_row K T)
unfolding heads_call
rest_call K T C k h = by_rest (λ R D. enter_of sql (any R) LP ≡ some (call_row K T)) C k (λ w. ColRest_at_LP) (λ w. 0≢1 (rw w at h)) (λ w. NameRest_at_LP) (λ w. 0≢1 (rw w at h))

pub rest_none : (C k j : ℕ) → (j ≡ DOT → ⊥) → (j ≡ LP → k ≡ INDEXED) → enter_of sql (any (rest_of C k)) j ≡ none
rest_none C k j a b = by_rest (λ R D. enter_of sql (any R) j ≡ none) C k
    (λ w. out ColRest? j (rw firsts_ColRest (none_of_2 a (λ e. w (b e))))) (λ w. out ColDots? j (rw firsts_ColDots (none_of_1 a)))
    (λ w. out NameRest? j (rw firsts_NameRest (none_of_2 (λ e. w (b e)) a))) (λ w. out Dots? j (rw firsts_Dots (none_of_1 a)))

-- ── what may come after the first DOT ──
by_second : (P : ℕ → Type 0) (C : ℕ) → (C ≡ Column → P StarOrName) → ((C ≡ Column → ⊥) → P SecondName) → P (second_of C)
unfolding second_of pick
by_second P C a b = by_bool (eqb C Column) (λ z. rw z (a (eqb_eq C Column z))) (λ z. rw z (b (eqb-false C Column z)))

pub second_may : (C : ℕ) → null_of sql (any (second_of C)) ≡ false
second_may C = by_second (λ D. null_of sql (any D) ≡ false) C (λ z. StarOrName_may) (λ z. SecondName_may)

pub second_ends : (C : ℕ) → mem (second_of C) plain_classes ≡ true
unfolding plain_classes mem pick
second_ends C = by_second (λ D. mem D plain_classes ≡ true) C (λ z. refl) (λ z. refl)

pub second_here : (C k : ℕ) → k < BOUND → (C ≡ Column → k ≡ STAR → ⊥) → enter_of sql (any (second_of C)) k ≡ at_name second_row k
second_here C k h o = by_second (λ D. enter_of sql (any D) k ≡ at_name second_row k) C (λ z. star_or_name_in k h (o z)) (λ z. second_in k h)

pub star_here : (C : ℕ) → C ≡ Column → enter_of sql (any (second_of C)) STAR ≡ some (ending row_dot_star [])
star_here C c = by_second (λ D. enter_of sql (any D) STAR ≡ some (ending row_dot_star [])) C (λ z. StarOrName_at_STAR) (λ z. absurd (z c))

-- ── DOT name [DOT name] ──
module _ (K T : List ℕ) (good : Good K T) where
  module _ (n : ℕ) (c : Around) (d : kind_at K n ≡ DOT) where
    dot_on : calls K T c (any Dot?) n ≡ rests K T (opened K T c Dot? dot_name_row n) (nt (any Name) ∷ []) nil (n + 1)
    unfolding is_query pick
    dot_on = begin K T good c Dot? dot_name_row n (rw d Dot_at_DOT) refl refl

    dot_got : is_name (kind_at K (n + 1)) ≡ true → calls K T c (any Dot?) n ≡ got (node dot_name_row nil (tok_at K T n) (add nil (name_tree K T good (n + 1)))) (n + 1 + 1) (from K T (n + 1 + 1))
    unfolding below is_query plain_classes mem pick
    dot_got z = dot_on ∙ nt_got K T good.sound (opened K T c Dot? dot_name_row n) (any Name) [] nil (n + 1) (name_got K T good (n + 1) c z)
        ∙ whole K T good c Dot? dot_name_row n (add nil (name_tree K T good (n + 1))) (n + 1 + 1) refl

    dot_wrong : is_name (kind_at K (n + 1)) ≡ false → calls K T c (any Dot?) n ≡ refused (wrong (kind_at K (n + 1))) (n + 1)
    unfolding below is_query pick
    dot_wrong z = dot_on ∙ nt_refused K T good.sound (opened K T c Dot? dot_name_row n) (any Name) [] nil (n + 1) (name_wrong K T good (n + 1) c z)

  dot_absent : (n : ℕ) (c : Around) → (kind_at K n ≡ DOT → ⊥) → calls K T c (any Dot?) n ≡ got nil n (from K T n)
  dot_absent n c o = call_absent K T good.sound c (any Dot?) n (out Dot? (kind_at K n) (rw firsts_Dot (none_of_1 o))) Dot_may

  -- y is what comes after the first DOT, and rs the records that its names and the node over all names make
  abbrev pub After : Tree → List Rec → Type 0
  After y rs = (99 ≤ cap_of y) × ((value y).num ≡ 0) × (rs ≡ over node_names 0 (count (value y).nodes + 1) 1 (recs (value y)))

  after_one : (n : ℕ) → After (node second_row nil (tok_at K T n) (add nil nil)) (name_rec K T n ∷ (rec 31 0 2 3 ∷ []))
  unfolding value value_of ruled rules pick side beside count records cap_of
  after_one n = (omega arith, refl, refl)

  after_two : (n m : ℕ) (u : Tok) → After (node second_row nil (tok_at K T n) (add nil (node dot_name_row nil u (add nil (name_tree K T good m))))) (name_rec K T n ∷ (name_rec K T m ∷ (rec 31 0 3 4 ∷ [])))
  unfolding value value_of ruled rules pick side beside count records cap_of
  after_two n m u = (omega arith, refl, refl)

  module _ (D : ℕ) (may : null_of sql (any D) ≡ false) (plain : mem D plain_classes ≡ true) (at : ℕ) (c : Around)
      (here : enter_of sql (any D) (kind_at K (at + 1)) ≡ at_name second_row (kind_at K (at + 1))) where
    pub dots_read : Told (dots_w K T at)
        (λ a s m rs. (y : Tree) × (calls K T c (any D) (at + 1) ≡ got y a (from K T a)) × (s ≡ 12) × After y rs)
        (λ m p. calls K T c (any D) (at + 1) ≡ refused m p)
    unfolding dots_w at_name pick is_query below
    dots_read = told_name K T good (at + 1) _
        (λ z. told_choose (eqb (kind_at K (at + 1 + 1)) DOT) _ _
        (λ d. told_name K T good (at + 1 + 1 + 1) _
        (λ i. told_done (at + 1 + 1 + 1 + 1) 12 0 _ (
          node second_row nil (tok_at K T (at + 1)) (add nil (node dot_name_row nil (tok_at K T (at + 1 + 1)) (add nil (name_tree K T good (at + 1 + 1 + 1))))),
          on z ∙ nt_got K T good.sound F (any Dot?) [] nil (at + 1 + 1) (dot_got (at + 1 + 1) c (eqb_eq (kind_at K (at + 1 + 1)) DOT d) i)
              ∙ row_stop K T good.sound F _ (at + 1 + 1 + 1 + 1) (ends D plain second_row _ (kind_at K (at + 1 + 1 + 1 + 1))),
          refl,
          after_two (at + 1) (at + 1 + 1 + 1) (tok_at K T (at + 1 + 1)),
        ))
        (λ i. on z ∙ nt_refused K T good.sound F (any Dot?) [] nil (at + 1 + 1) (dot_wrong (at + 1 + 1) c (eqb_eq (kind_at K (at + 1 + 1)) DOT d) i)))
        (λ d. told_done (at + 1 + 1) 12 0 _ (
          node second_row nil (tok_at K T (at + 1)) (add nil nil),
          on z ∙ nt_got K T good.sound F (any Dot?) [] nil (at + 1 + 1) (dot_absent (at + 1 + 1) c (eqb-false (kind_at K (at + 1 + 1)) DOT d))
              ∙ row_stop K T good.sound F _ (at + 1 + 1) (ends D plain second_row _ (kind_at K (at + 1 + 1))),
          refl,
          after_one (at + 1),
        )))
        (λ z. call_wrong K T good.sound c (any D) (at + 1) (here ∙ rw z) may)
      where
        F : OpenRow
        F = record { c = c; A = any D; r = second_row; l = nil; t = tok_at K T (at + 1) }

        on : is_name (kind_at K (at + 1)) ≡ true → calls K T c (any D) (at + 1) ≡ rests K T F (nt (any Dot?) ∷ []) nil (at + 1 + 1)
        on z = call_in K T good.sound c (any D) (at + 1) second_row (here ∙ rw z) (part_no_word c second_row (tok_at K T (at + 1)) refl refl)
