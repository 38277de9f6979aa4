-- The list { separator item }, once for every class of that form: the walk over the members after a separator (looped), and over the first
-- and those after it (firsts), mean what the grammar says if the walk over a member does. Assumes nothing.
use mathlib.Core.Bool.{true, false}
use mathlib.Core.List.{List, [], ◌∷◌, ◌++◌, append_assoc, append-nil}
use mathlib.Core.Option.{some}
use mathlib.Core.Path.{◌≡◌, refl, sym, ap, ◌∙◌}
use Prim.Native.Nat.{ℕ, ◌+◌, min}
use borrow.Author.Tests.{eqb-false}
use lib.Dec.{eqb}
use native.Mathlib.Omega.{arith}
use Rattle.theory.specs.Trees.{Tok, Nt, Item, nt, Row, Tree, nil, add, node, cap_of}
use Rattle.theory.specs.Table.{lookup, enter_of, null_of}
use Rattle.theory.specs.Outcome.{got, refused}
use Rattle.theory.proofs.Cases.{eqb_eq, le-leb}
use Rattle.theory.proofs.Tested.{kinds_of, cont_some}
use Rattle.grammar.specs.Classes.{any}
use Rattle.grammar.specs.Rows.{begins, goes}
use Rattle.grammar.specs.Grammar.{sql}
use Rattle.grammar.specs.Limits.{Around, is_query, below, members}
use Rattle.grammar.specs.Nodes.{count, records}
use Rattle.grammar.specs.Reading.{Val, side, choose, value_of, value}
use Rattle.descent.proofs.Places.{kind_at, tok_at, from, OpenRow, calls, rests}
use Rattle.descent.proofs.Walk.{Walked, done, bind, onto, κ}
use Rattle.descent.proofs.Grown.{recs}
use Rattle.descent.proofs.Steps.{nt_got, nt_refused, call_in, call_absent, row_on, row_stop}
use Rattle.descent.proofs.ClassFacts.{out, none_of_1}
use Rattle.descent.proofs.Means.{Told, Good, Further}
use Rattle.descent.proofs.Common.{told_bind, told_onto, told_choose, told_done, part_no_word, goes_no_word}
use Rattle.descent.proofs.NoTails.{no_cont}
use Rattle.descent.proofs.Strong.{below_part}
use Rattle.descent.proofs.Values.{recs_all_2, count_2}

-- the class C begins, and goes on, by one row r, at a separator alone
pub record ListClass (C sep : ℕ) (r : Row) : Type 0 where
  pub begins : enter_of sql (any C) sep ≡ some r
  pub only : kinds_of C (λ q. true) sql.heads ≡ sep ∷ []
  pub goes : lookup C sep sql.tails ≡ some r
  pub goes_only : kinds_of C (λ q. true) sql.tails ≡ sep ∷ []
  pub may : null_of sql (any C) ≡ true
  pub weak : r.str ≡ 0
  pub loose : r.left ≡ 0
  pub no_query : is_query r.code ≡ false

module _ (K T : List ℕ) (good : Good K T) {C sep : ℕ} {r : Row} (list : ListClass C sep r) (c : Around) where
  pub list_begins : (n : ℕ) → kind_at K n ≡ sep → calls K T c (any C) n ≡ rests K T (record { c = c; A = any C; r = r; l = nil; t = tok_at K T n }) r.items nil (n + 1)
  list_begins n e = call_in K T good.sound c (any C) n r (rw e list.begins) (part_no_word c r (tok_at K T n) list.no_query list.weak)

  pub list_absent : (n : ℕ) → (kind_at K n ≡ sep → ⊥) → calls K T c (any C) n ≡ got nil n (from K T n)
  list_absent n f = call_absent K T good.sound c (any C) n (out C (kind_at K n) (rw list.only (none_of_1 f))) list.may

  module _ (q : Row) (l : Tree) (t : Tok) (k : Tree) (n : ℕ) where
    pub list_on : kind_at K n ≡ sep
        → rests K T (record { c = c; A = any C; r = q; l = l; t = t }) [] k n ≡ rests K T (record { c = c; A = any C; r = r; l = node q l t k; t = tok_at K T n }) r.items nil (n + 1)
    list_on e = row_on K T good.sound (record { c = c; A = any C; r = q; l = l; t = t }) k n r
        (cont_some sql (any C) q (cap_of k) (kind_at K n) r (rw e list.goes) (le-leb 0 r.str (omega arith))
        (le-leb r.left q.str (omega (arith, list.loose))) (le-leb r.left (min q.cap (cap_of k)) (omega (arith, list.loose))))
        (goes_no_word c r q l t (tok_at K T n) k)

    pub list_stop : (kind_at K n ≡ sep → ⊥) → rests K T (record { c = c; A = any C; r = q; l = l; t = t }) [] k n ≡ got (node q l t k) n (from K T n)
    list_stop f = row_stop K T good.sound (record { c = c; A = any C; r = q; l = l; t = t }) k n (no_cont (any C) q (cap_of k) (kind_at K n) (rw list.goes_only (none_of_1 f)))

-- ── a list of members that are one item each ──
-- what a member's value stands for in the list
pub record ListRule (r : Row) (I : Nt) (member : Val → Val) : Type 0 where
  pub items : r.items ≡ nt I ∷ []
  pub through : (l : Val) (t : Tok) (v : Val) → (value_of r.code l t (v ∷ [])).nodes ≡ side (l ∷ member v ∷ [])

module _ (K T : List ℕ) (good : Good K T) {C sep : ℕ} {r : Row} (list : ListClass C sep r) {I : Nt} (member : Val → Val) (rule : ListRule r I member)
    (P : Tree → Type 0) (counts : (y : Tree) → P y → count (member (value y)).nodes ≡ 1) (c : Around) where
  -- a member, and the walk over it
  abbrev pub Member : ℕ → Walked → Type 0
  Member at w = Told w (λ a s m rs. (y : Tree) × (calls K T c I at ≡ got y a (from K T a)) × P y × (rs ≡ recs (member (value y)))) (λ m p. calls K T c I at ≡ refused m p)

  nodes_next : (x : Tree) (u : Tok) (y : Tree) → (value (node r x u (add nil y))).nodes ≡ side (value x ∷ member (value y) ∷ [])
  unfolding value
  nodes_next x u y = rule.through (value x) u (value y)

  recs_next : (x : Tree) (u : Tok) (y : Tree) → recs (value (node r x u (add nil y))) ≡ recs (value x) ++ recs (member (value y))
  recs_next x u y = ap records (nodes_next x u y) ∙ recs_all_2 (value x) (member (value y))

  count_next : (x : Tree) (u : Tok) (y : Tree) → P y → count (value (node r x u (add nil y))).nodes ≡ count (value x).nodes + 1
  count_next x u y p = ap count (nodes_next x u y) ∙ count_2 (value x) (member (value y)) ∙ ap (λ z. count (value x).nodes + z) (counts y p)

  members_next : (x : Tree) (u : Tok) (y : Tree) → members (node r x u (add nil y)) ≡ members x + 1
  unfolding members
  members_next x u y = refl

  pub looped : (at n : ℕ) (x : Tree) (u : Tok) (w : Walked) (v : ℕ → Walked) → Member at w
      → ((a : ℕ) (z : Tree) → Further K T C r c z (tok_at K T a) (a + 1) (n + 1) (v (a + 1)))
      → Further K T C r c x u at n (bind w (λ a s m rs. choose (eqb (κ K T a) sep) (onto rs (v (a + 1))) (done a 0 (n + 1) rs)))
  looped at n x u w v here next = told_bind w _ here
      (λ a s m rs h. let first = ap (λ z. rests K T F z nil at) rule.items ∙ nt_got K T good.sound F I [] nil at (rw inside h.1) in
      told_choose (eqb (kind_at K a) sep) _ _
      (λ z. let on = list_on K T good list c r x u (add nil h.0) a (eqb_eq (kind_at K a) sep z) in
      told_onto rs (v (a + 1)) (next a (node r x u (add nil h.0)))
      (λ b s m qs g. let cn = count_next x u h.0 h.2 in let mn = members_next x u h.0 in (
        g.0,
        first ∙ on ∙ g.1,
        omega (arith, g.2, cn),
        omega (arith, g.3, cn, mn),
        g.4 ∙ ap (λ z. z ++ qs) (recs_next x u h.0) ∙ append_assoc (recs (value x)) (recs (member (value h.0))) qs ∙ rw h.3,
      ))
      (λ m p e. first ∙ on ∙ e))
      (λ z. let cn = count_next x u h.0 h.2 in let mn = members_next x u h.0 in
      told_done a 0 (n + 1) rs (
        node r x u (add nil h.0),
        first ∙ list_stop K T good list c r x u (add nil h.0) a (eqb-false (kind_at K a) sep z),
        omega (arith, cn),
        omega (arith, cn, mn),
        recs_next x u h.0 ∙ rw h.3,
      )))
      (λ m p e. ap (λ z. rests K T F z nil at) rule.items ∙ nt_refused K T good.sound F I [] nil at (rw inside e))
    where
      F : OpenRow
      F = record { c = c; A = any C; r = r; l = x; t = u }

      inside : below r c ≡ c
      inside = below_part r c list.weak list.no_query

  pub firsts : (at n : ℕ) (F : OpenRow) (is : List Item) (k : Tree) (w : Walked) (v : ℕ → Walked) → below F.r F.c ≡ c → Member at w
      → ((a : ℕ) → Further K T C r c nil (tok_at K T a) (a + 1) (n + 1) (v (a + 1)))
      → Told (bind w (λ a s m rs. choose (eqb (κ K T a) sep) (onto rs (v (a + 1))) (done a 0 (n + 1) rs)))
      (λ a s m rs. (x : Tree) × (l : Tree) × (rests K T F (nt I ∷ nt (any C) ∷ is) k at ≡ rests K T F is (add (add k x) l) a)
      × P x × (m ≡ n + 1 + members l) × (members l ≡ count (value l).nodes) × (rs ≡ recs (member (value x)) ++ recs (value l)))
      (λ m p. rests K T F (nt I ∷ nt (any C) ∷ is) k at ≡ refused m p)
  unfolding members value count records
  firsts at n F is k w v e here next = told_bind w _ here
      (λ a s m rs h. let first = nt_got K T good.sound F I (nt (any C) ∷ is) k at (rw e h.1) in
      told_choose (eqb (kind_at K a) sep) _ _
      (λ z. let on = list_begins K T good list c a (eqb_eq (kind_at K a) sep z) in
      told_onto rs (v (a + 1)) (next a)
      (λ b s m qs g. (h.0, g.0, first ∙ nt_got K T good.sound F (any C) is (add k h.0) a (rw e (on ∙ g.1)), h.2, omega (arith, g.2, g.3), omega (arith, g.3), rw (h.3, g.4)))
      (λ m p q. first ∙ nt_refused K T good.sound F (any C) is (add k h.0) a (rw e (on ∙ q))))
      (λ z. told_done a 0 (n + 1) rs (
        h.0,
        nil,
        first ∙ nt_got K T good.sound F (any C) is (add k h.0) a (rw e (list_absent K T good list c a (eqb-false (kind_at K a) sep z))),
        h.2,
        omega arith,
        refl,
        h.3 ∙ sym (append-nil (recs (member (value h.0)))),
      )))
      (λ m p q. nt_refused K T good.sound F I (nt (any C) ∷ is) k at (rw e q))
