-- What calls nothing of the cycle ends. Assumes nothing.
use mathlib.Core.Bool.{true}
use mathlib.Core.List.{List, []}
use mathlib.Core.Path.{◌≡◌}
use Prim.Native.Nat.{ℕ, ◌+◌, ◌*◌, ◌-◌, ◌<◌, zero, suc}
use borrow.Author.Tests.{ltb-true, ltb-false}
use lib.Dec.{ltb, eqb}
use lib.ListN.{length, get_or}
use native.Mathlib.Omega.{arith}
use Rattle.theory.specs.Table.{both}
use Rattle.theory.proofs.Cases.{by_bool, eqb_eq}
use Rattle.kinds.specs.Kinds.{INDEXED, JOIN_KW, LP, RP, COMMA, DOT, STAR, NOT, AS, JOIN, BY, ASC, DESC, NULLS, FIRST, LAST}
use Rattle.kinds.specs.Classes.{is_name, is_bare_alias, begins_expr}
use Rattle.words.specs.Flags.{NO_FLAGS, flags_of, united, legal}
use Rattle.grammar.specs.Nodes.{Rec}
use Rattle.grammar.specs.Reading.{choose}
use Rattle.descent.proofs.Walk.{done, stop, κ, τ, name_w, close_w, too_deep_w, dots_w, dotted_w, called_w, collate_w, alias_w, qualified_w, index_w, table_w, lent_w, nulls_w, way_w, join_w, joined_w, names_w, using_w, ended_w}
use Rattle.descent.proofs.Equations.{kind_end}
use Rattle.shapes.proofs.Ends.{Ends, ends_bind, ends_onto, ends_from, ends_choose, ends_done, ends_stop}

-- fuel for the tokens from a place on: ten a token, and r
abbrev pub Enough : List ℕ → ℕ → ℕ → ℕ → Type 0
Enough K f at r = 10 * (length K - at) + r < f

-- where there is a kind, there is a token
pub some_kind : (K : List ℕ) (n : ℕ) → (get_or K n 0 ≡ 0 → ⊥) → n < length K
some_kind K n h = by_bool (ltb n (length K)) (λ e. ltb-true n (length K) e) (λ e. absurd (h (kind_end K n (ltb-false n (length K) e))))

pub token_at : (K : List ℕ) (n k : ℕ) → 0 < k → eqb (get_or K n 0) k ≡ true → n < length K
token_at K n k p e = some_kind K n (λ z. absurd (let w = eqb_eq (get_or K n 0) k e in omega (arith, z, w, p)))

module _ (K T : List ℕ) where
  pub name_ends : (at : ℕ) → Ends at (name_w K T at)
  unfolding name_w
  name_ends at = ends_choose (is_name (κ K T at)) _ _ (λ z. ends_done (at + 1) 0 0 _ (omega arith)) (λ z. ends_stop)

  pub close_ends : (at code d n pre : ℕ) → Ends at (close_w K T at code d n pre)
  unfolding close_w
  close_ends at code d n pre = ends_choose (eqb (κ K T at) RP) _ _ (λ z. ends_done (at + 1) 12 0 _ (omega arith)) (λ z. ends_stop)

  pub too_deep_ends : (at s : ℕ) → Ends at (too_deep_w K T at s)
  unfolding too_deep_w
  too_deep_ends at s = ends_choose (begins_expr (κ K T at)) _ _ (λ z. ends_choose (both (eqb (κ K T at) NOT) (ltb 10 s)) _ _ (λ y. ends_stop) (λ y. ends_stop)) (λ z. ends_stop)

  dots_ends : (at : ℕ) → Ends at (dots_w K T at)
  unfolding dots_w
  dots_ends at = ends_bind (name_w K T (at + 1)) _ (name_ends (at + 1))
      (λ a s n rs h. ends_choose (eqb (κ K T a) DOT) _ _
      (λ z. ends_bind (name_w K T (a + 1)) _ (name_ends (a + 1)) (λ b s m qs g. ends_done b 12 0 _ (omega (arith, h, g))))
      (λ z. ends_done a 12 0 _ (omega (arith, h))))

  pub dotted_ends : (at s : ℕ) → Ends at (dotted_w K T at s)
  unfolding dotted_w
  dotted_ends at s = ends_choose (eqb (κ K T at) DOT) _ _
      (λ z. ends_choose (both (eqb s 0) (eqb (κ K T (at + 1)) STAR)) _ _ (λ y. ends_done (at + 2) 0 0 _ (omega arith)) (λ y. dots_ends at))
      (λ z. ends_done at 12 0 _ (omega arith))

  pub called_ends : (at d n : ℕ) (rs : List Rec) → Ends at (called_w K T at d n rs)
  unfolding called_w
  called_ends at d n rs = ends_choose (eqb (κ K T at) RP) _ _ (λ z. ends_done (at + 1) 12 0 _ (omega arith)) (λ z. ends_stop)

  pub collate_ends : (at pre : ℕ) → Ends at (collate_w K T at pre)
  unfolding collate_w
  collate_ends at pre = ends_bind (name_w K T at) _ (name_ends at) (λ a s n rs h. ends_done a 12 0 _ h)

  pub ended_ends : (at code not pre : ℕ) (rs : List Rec) → Ends at (ended_w K T at code not pre rs)
  unfolding ended_w
  ended_ends at code not pre rs = ends_choose (eqb (κ K T at) RP) _ _ (λ z. ends_done (at + 1) 12 0 _ (omega arith)) (λ z. ends_stop)

  -- ── sources ──
  pub alias_ends : (at : ℕ) → Ends at (alias_w K T at)
  unfolding alias_w
  alias_ends at = ends_choose (eqb (κ K T at) AS) _ _ (λ z. ends_bind (name_w K T (at + 1)) _ (name_ends (at + 1)) (λ a s n rs h. ends_done a 1 0 rs (omega (arith, h))))
      (λ z. ends_choose (is_bare_alias (κ K T at)) _ _ (λ y. ends_done (at + 1) 2 0 _ (omega arith)) (λ y. ends_done at 0 0 _ (omega arith)))

  qualified_ends : (at : ℕ) → Ends at (qualified_w K T at)
  unfolding qualified_w
  qualified_ends at = ends_choose (eqb (κ K T (at + 1)) DOT) _ _
      (λ z. ends_bind (name_w K T at) _ (name_ends at) (λ a s n rs h. ends_onto rs _ (ends_from (name_w K T (a + 1)) (omega (arith, h)) (name_ends (a + 1)))))
      (λ z. ends_onto _ _ (name_ends at))

  index_ends : (at : ℕ) → Ends at (index_w K T at)
  unfolding index_w
  index_ends at = ends_choose (eqb (κ K T at) INDEXED) _ _
      (λ z. ends_choose (eqb (κ K T (at + 1)) BY) _ _ (λ y. ends_bind (name_w K T (at + 2)) _ (name_ends (at + 2)) (λ a s n rs h. ends_done a 1 0 rs (omega (arith, h)))) (λ y. ends_stop))
      (λ z. ends_choose (eqb (κ K T at) NOT) _ _
      (λ y. ends_choose (eqb (κ K T (at + 1)) INDEXED) _ _ (λ x. ends_done (at + 2) 2 0 _ (omega arith)) (λ x. ends_stop))
      (λ y. ends_done at 0 0 _ (omega arith)))

  pub table_ends : (at : ℕ) → Ends at (table_w K T at)
  unfolding table_w
  table_ends at = ends_bind (qualified_w K T at) _ (qualified_ends at)
      (λ a s n rs h. ends_bind (alias_w K T a) _ (alias_ends a) (λ b m n qs g. ends_bind (index_w K T b) _ (index_ends b) (λ d y n ps i. ends_done d 0 0 _ (omega (arith, h, g, i)))))

  pub lent_ends : (at : ℕ) (rs : List Rec) → Ends at (lent_w K T at rs)
  unfolding lent_w
  lent_ends at rs = ends_choose (eqb (κ K T at) RP) _ _ (λ z. ends_bind (alias_w K T (at + 1)) _ (alias_ends (at + 1)) (λ a m n qs h. ends_done a 0 0 _ (omega (arith, h)))) (λ z. ends_stop)

  -- ── a way of sorting; join words, of which there is one or COMMA ──
  nulls_ends : (at d : ℕ) → Ends at (nulls_w K T at d)
  unfolding nulls_w
  nulls_ends at d = ends_choose (eqb (κ K T at) NULLS) _ _
      (λ z. ends_choose (eqb (κ K T (at + 1)) FIRST) _ _ (λ y. ends_done (at + 2) (d + 4) 0 [] (omega arith))
      (λ y. ends_choose (eqb (κ K T (at + 1)) LAST) _ _ (λ x. ends_done (at + 2) (d + 8) 0 [] (omega arith)) (λ x. ends_stop)))
      (λ z. ends_done at d 0 [] (omega arith))

  pub way_ends : (at : ℕ) → Ends at (way_w K T at)
  unfolding way_w
  way_ends at = ends_choose (eqb (κ K T at) ASC) _ _ (λ z. ends_from (nulls_w K T (at + 1) 1) (omega arith) (nulls_ends (at + 1) 1))
      (λ z. ends_choose (eqb (κ K T at) DESC) _ _ (λ y. ends_from (nulls_w K T (at + 1) 2) (omega arith) (nulls_ends (at + 1) 2)) (λ y. nulls_ends at 0))

  at_join : (at flags : ℕ) → Ends (at + 1) (choose (legal flags) (done (at + 1) (64 + flags) 0 []) (stop 7 at))
  at_join at flags = ends_choose (legal flags) _ _ (λ z. ends_done (at + 1) (64 + flags) 0 [] (omega arith)) (λ z. ends_stop)

  words_end : (more at flags : ℕ) → Ends (at + 1) (join_w K T more at flags)
  unfolding join_w
  words_end zero at flags = ends_choose (eqb (κ K T at) JOIN) _ _ (λ z. at_join at flags) (λ z. ends_stop)
  words_end (suc more) at flags = ends_choose (eqb (κ K T at) JOIN) _ _ (λ z. at_join at flags)
      (λ z. ends_choose (eqb (κ K T at) JOIN_KW) _ _ (λ y. ends_from _ (omega arith) (words_end more (at + 1) (united flags (flags_of (τ K T at))))) (λ y. ends_stop))

  pub joined_ends : (at : ℕ) → Ends (at + 1) (joined_w K T at)
  unfolding joined_w
  joined_ends at = ends_choose (eqb (κ K T at) COMMA) _ _ (λ z. ends_done (at + 1) 0 0 [] (omega arith)) (λ z. words_end 3 at NO_FLAGS)

  -- ── names of USING ──
  names_end : (f at n : ℕ) → Enough K f at 0 → Ends at (names_w K T f at n)
  unfolding names_w
  names_end zero at n h = absurd (omega (arith, h))
  names_end (suc f) at n h = ends_bind (name_w K T at) _ (name_ends at)
      (λ a s m rs g. ends_choose (eqb (κ K T a) COMMA) _ _
      (λ z. let i = token_at K a COMMA (omega arith) z in ends_onto rs _ (ends_from (names_w K T f (a + 1) (n + 1)) (omega (arith, g)) (names_end f (a + 1) (n + 1) (omega (arith, h, g, i)))))
      (λ z. ends_done a 0 (n + 1) rs g))

  pub using_ends : (f at : ℕ) → Enough K f at 0 → Ends at (using_w K T f at)
  unfolding using_w
  using_ends f at h = ends_choose (eqb (κ K T at) LP) _ _
      (λ z. ends_bind (names_w K T f (at + 1) 0) _ (names_end f (at + 1) 0 (omega (arith, h)))
      (λ a s n rs g. ends_bind (close_w K T a 11 0 n (length rs)) _ (close_ends a 11 0 n (length rs)) (λ b s m qs i. ends_done b s m _ (omega (arith, g, i)))))
      (λ z. ends_stop)
