-- Names, names with dots, names in USING, and the parts that end with a name or with a call's RP. Assumes nothing.
use mathlib.Core.List.{List, [], ◌∷◌, ◌++◌, append_assoc}
use mathlib.Core.Logic.{◌⊎◌, inl, inr}
use mathlib.Core.Path.{◌≡◌, refl, sym, ap, ◌∙◌}
use Prim.Native.Nat.{ℕ, ◌+◌, ◌≤◌, ◌<◌, zero, suc}
use lib.Dec.{eqb}
use lib.ListN.{length, get_or, length-append}
use native.Mathlib.Omega.{arith}
use Rattle.theory.specs.Table.{both}
use Rattle.theory.proofs.Cases.{both_l, eqb_eq}
use Rattle.kinds.specs.Kinds.{RP, LP, DOT, STAR}
use Rattle.kinds.specs.Classes.{is_name}
use Rattle.grammar.specs.Nodes.{Rec, rec}
use Rattle.descent.proofs.Walk.{κ, name_w, dots_w, dotted_w, called_w, collate_w, names_w, using_w, close_w}
use Rattle.shapes.specs.Shape.{Class, a_name, an_expr, a_column, a_constraint, Shape, fin, ◌▸◌, some_of, Node, name_node, names_node, name_star_node, collate_node, using_node}
use Rattle.shapes.proofs.Records.{Read, One, read_is, read_each, read_some, ◌&◌, read_node, read_after, read_leaf}
use Rattle.shapes.proofs.Gives.{Gives, gives_bind, gives_choose, gives_done, gives_stop, gives_spent, gives_map}
use Rattle.shapes.proofs.KindCodes.{name_code_lem}
use Rattle.shapes.proofs.Loops.{Several, gives_loop, gives_close}

-- what an expression that is asked at strength s comes to: an expression, or, in a column (s is 0), name DOT STAR, which says 0
abbrev pub Exprd : ℕ → ℕ → List Rec → Type 0
Exprd s said rs = ((0 < said) × One an_expr rs) ⊎ ((said ≡ 0) × (s ≡ 0) × One a_column rs)

-- a name's record
pub one_name : (c d : ℕ) → (20 ≤ c) × (c ≤ 23) → One a_name (rec c d 0 1 ∷ [])
one_name c d h = read_leaf (name_node h.0 h.1)

module _ (K T : List ℕ) (bound : (n : ℕ) → get_or K n 0 < 72) where
  pub gives_name : (at : ℕ) → Gives (name_w K T at) (λ a s n rs. One a_name rs × (length rs ≡ 1))
  unfolding name_w
  gives_name at = gives_choose (is_name (κ K T at)) _ _ (λ z. gives_done (at + 1) 0 0 _ (one_name _ _ (name_code_lem (κ K T at) (bound at) z), refl)) (λ z. gives_stop)

  -- ── after the records ls of a name ──
  module _ (ls : List Rec) (l : One a_name ls) (len : length ls ≡ 1) where
    pub gives_dots : (at : ℕ) → Gives (dots_w K T at) (λ a s n rs. (0 < s) × One an_expr (ls ++ rs))
    unfolding dots_w
    gives_dots at = gives_bind (name_w K T (at + 1)) _ (gives_name (at + 1))
        (λ a s n rs r. gives_choose (eqb (κ K T a) DOT) _ _
        (λ z. gives_bind (name_w K T (a + 1)) _ (gives_name (a + 1))
        (λ b s m qs q. gives_done b 12 0 _ (omega arith, read_is (read_node (names_node refl refl) (l & read_each (r.0 & read_each (read_some q.0))) (three rs qs r.1 q.1)) refl (regroup rs qs))))
        (λ z. gives_done a 12 0 _ (omega arith, read_is (read_node (names_node refl refl) (l & read_each (read_some r.0)) (two rs r.1)) refl (sym (append_assoc ls rs _)))))
      where
        three : (rs qs : List Rec) → length rs ≡ 1 → length qs ≡ 1 → 4 ≡ length (ls ++ (rs ++ qs)) + 1
        three rs qs e h = omega (arith, length-append ls (rs ++ qs), length-append rs qs, e, h, len)

        two : (rs : List Rec) → length rs ≡ 1 → 3 ≡ length (ls ++ rs) + 1
        two rs e = omega (arith, length-append ls rs, e, len)

        regroup : (rs qs : List Rec) → ls ++ (rs ++ (qs ++ (rec 31 0 3 4 ∷ []))) ≡ (ls ++ (rs ++ qs)) ++ (rec 31 0 3 4 ∷ [])
        regroup rs qs = ap (λ z. ls ++ z) (sym (append_assoc rs qs _)) ∙ sym (append_assoc ls (rs ++ qs) _)

    pub gives_dotted : (at s : ℕ) → Gives (dotted_w K T at s) (λ a said n rs. Exprd s said (ls ++ rs))
    unfolding dotted_w
    gives_dotted at s = gives_choose (eqb (κ K T at) DOT) _ _
        (λ z. gives_choose (both (eqb s 0) (eqb (κ K T (at + 1)) STAR)) _ _
        (λ y. gives_done (at + 2) 0 0 _ (inr (refl, eqb_eq s 0 (both_l (eqb s 0) _ y), read_node (name_star_node refl refl) l (omega (arith, len)))))
        (λ y. gives_map _ (gives_dots at) (λ a said n qs q. inl q)))
        (λ z. gives_done at 12 0 _ (inl (omega arith, read_node (names_node refl refl) (read_some l) (omega (arith, len)))))

    -- RP of a call's arguments, which are the node L
    pub gives_called : {L : Class} {S : Shape} (at d n : ℕ) (rs : List Rec) → Node an_expr 32 d (a_name ▸ L ▸ fin) → Node L 4 0 S → Read S n rs → Gives (called_w K T at d n rs) (λ a s m qs. (0 < s) × One an_expr (ls ++ qs))
    unfolding called_w
    gives_called {L} at d n rs N M r = gives_choose (eqb (κ K T at) RP) _ _
        (λ z. gives_done (at + 1) 12 0 _ (omega arith, read_is (read_node N (l & read_node M r refl) size) refl regroup))
        (λ z. gives_stop)
      where
        list : Rec
        list = rec 4 0 n (length rs + 1)

        size : length rs + 3 ≡ length (ls ++ (rs ++ (list ∷ []))) + 1
        size = omega (arith, length-append ls (rs ++ (list ∷ [])), length-append rs (list ∷ []), len)

        regroup : ls ++ (rs ++ (list ∷ rec 32 d 2 (length rs + 3) ∷ [])) ≡ (ls ++ (rs ++ (list ∷ []))) ++ (rec 32 d 2 (length rs + 3) ∷ [])
        regroup = ap (λ z. ls ++ z) (sym (append_assoc rs (list ∷ []) _)) ∙ sym (append_assoc ls (rs ++ (list ∷ [])) _)

  -- COLLATE name, after the records ls of an operand
  pub gives_collate : (at pre : ℕ) (ls : List Rec) → One an_expr ls → length ls ≡ pre → Gives (collate_w K T at pre) (λ a s n rs. (0 < s) × One an_expr (ls ++ rs))
  unfolding collate_w
  gives_collate at pre ls l len = gives_bind (name_w K T at) _ (gives_name at) (λ a s n rs r. gives_done a 12 0 _ (omega arith, read_after ls rs (collate_node refl refl) (l & r.0) len))

  -- ── USING ──
  pub gives_names : (f at n : ℕ) → Gives (names_w K T f at n) (λ a s m rs. Several (some_of a_name) n m rs)
  unfolding names_w
  gives_names zero at n = gives_spent
  gives_names (suc f) at n = gives_loop K T n (name_w K T at) (λ a m. names_w K T f (a + 1) (n + 1)) (gives_map _ (gives_name at) (λ a s m rs r. r.0)) (λ a m. gives_names f (a + 1) (n + 1))

  pub gives_using : (f at : ℕ) → Gives (using_w K T f at) (λ a s n rs. One a_constraint rs)
  unfolding using_w
  gives_using f at = gives_choose (eqb (κ K T at) LP) _ _
      (λ z. gives_bind (names_w K T f (at + 1) 0) _ (gives_names f (at + 1) 0)
      (λ a s n rs r. gives_bind (close_w K T a 11 0 n (length rs)) _ (gives_close K T a 11 0 n (length rs))
      (λ b s m qs q. gives_done b s m _ (read_is (read_node (using_node refl refl) (read_is r.read (r.counts ∙ none_before r.more) refl) refl) refl (ap (λ z. rs ++ z) q.1)))))
      (λ z. gives_stop)
    where
      none_before : (k : ℕ) → 0 + k ≡ k
      none_before k = omega arith
