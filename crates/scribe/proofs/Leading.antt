-- Nodes whose first child stands first: their tokens are that child's, at a place that asks for the node's own strength, and then a tail (binary_led, ..).
-- Assumes nothing.
use mathlib.Core.List.{List, [], ◌∷◌, ◌++◌}
use mathlib.Core.Path.{◌≡◌, refl, sym, ap, ◌∙◌}
use Prim.Native.Nat.{ℕ, zero, suc, ◌+◌, ◌-◌, ◌%◌, ◌/◌}
use lib.Dec.{eqb}
use Rattle.theory.specs.Trees.{Tok}
use Rattle.kinds.specs.Kinds.{AND, IN, BETWEEN, COLLATE, AS, DESC, NULLS, FIRST, LAST}
use Rattle.grammar.specs.NodeNames.{node_column, node_sort, node_binary, node_null_test, node_in_list, node_in_query, node_between, node_collate}
use Rattle.grammar.specs.Nodes.{count}
use Rattle.grammar.specs.Reading.{choose}
use Rattle.grammar.specs.Writing.{at, after, within, binary_toks, binary_str, not_if, tok}
use Rattle.shapes.specs.Shape.{Class, a_query, an_expr, a_name, any_of}
use Rattle.scribe.proofs.Whole.{Whole, piece_at, before_of}
use Rattle.scribe.proofs.Kids.{must, may, may_piece, Kids1, Kids2, Kids3}
use Rattle.scribe.proofs.Spelt.{Spelt, binary_spelt, null_test_spelt, between_spelt, in_list_spelt, in_query_spelt, collate_spelt, column_spelt, sort_spelt, at_zero}

-- so many nodes before the one that ends at j
unfoldable pub backs : List ℕ → ℕ → ℕ → ℕ
backs N zero j = j
backs N (suc n) j = backs N n (before_of N j)

pub record Led {C : Class} {N : List ℕ} {i : ℕ} (w : Whole C N i) (ts : List Tok) : Type 0 where
  pub place : ℕ
  pub placed : place ≡ backs N (count w.kids - 1) (i - 1)
  pub first : Whole an_expr N place
  pub toks : (piece_at w).toks ≡ at (piece_at w).str (piece_at first) ++ ts

module _ {C : Class} {N : List ℕ} {i : ℕ} (w : Whole C N i) where
  -- a node of this strength, said so
  led_by : {s m n : ℕ} {us : List Tok} (k : Whole an_expr N m) (ts : List Tok) → count w.kids ≡ n → m ≡ backs N (n - 1) (i - 1) → Spelt (piece_at w) s us → us ≡ at s (piece_at k) ++ ts → Led w ts
  led_by {s} {m} k ts c e h q =
      record { place = m; placed = e ∙ ap (λ z. backs N (z - 1) (i - 1)) (sym c); first = k; toks = h.toks ∙ q ∙ ap (λ z. at z (piece_at k) ++ ts) (sym h.str) }

  pub binary_led : w.code ≡ node_binary → (k : Kids2 (must an_expr) (must an_expr) N (i - 1) w.kids) → Led w (binary_toks w.detail ++ at (binary_str w.detail + 1) (piece_at k.second))
  unfolding backs
  binary_led e k = led_by k.first (binary_toks w.detail ++ at (binary_str w.detail + 1) (piece_at k.second)) k.counted refl (binary_spelt w e k) (refl)

  pub null_test_led : w.code ≡ node_null_test → (k : Kids1 (must an_expr) N (i - 1) w.kids) → Led w (tok w.detail ∷ [])
  unfolding backs
  null_test_led e k = led_by k.first (tok w.detail ∷ []) k.counted refl (null_test_spelt w e k) (refl)

  pub between_led : w.code ≡ node_between → (k : Kids3 (must an_expr) (must an_expr) (must an_expr) N (i - 1) w.kids) → Led w (not_if w.detail ++ (tok BETWEEN ∷ (at 5 (piece_at k.second) ++ (tok AND ∷ at 5 (piece_at k.third)))))
  unfolding backs
  between_led e k = led_by k.first (not_if w.detail ++ (tok BETWEEN ∷ (at 5 (piece_at k.second) ++ (tok AND ∷ at 5 (piece_at k.third))))) k.counted refl (between_spelt w e k) (refl)

  pub in_list_led : w.code ≡ node_in_list → (k : Kids2 (must an_expr) (must (any_of an_expr)) N (i - 1) w.kids) → Led w (not_if w.detail ++ (tok IN ∷ within (piece_at k.second).toks))
  unfolding backs
  in_list_led e k = led_by k.first (not_if w.detail ++ (tok IN ∷ within (piece_at k.second).toks)) k.counted refl (in_list_spelt w e k) (refl)

  pub in_query_led : w.code ≡ node_in_query → (k : Kids2 (must an_expr) (must a_query) N (i - 1) w.kids) → Led w (not_if w.detail ++ (tok IN ∷ within (piece_at k.second).toks))
  unfolding backs
  in_query_led e k = led_by k.first (not_if w.detail ++ (tok IN ∷ within (piece_at k.second).toks)) k.counted refl (in_query_spelt w e k) (refl)

  pub collate_led : w.code ≡ node_collate → (k : Kids2 (must an_expr) (must a_name) N (i - 1) w.kids) → Led w (tok COLLATE ∷ (piece_at k.second).toks)
  unfolding backs
  collate_led e k = led_by k.first (tok COLLATE ∷ (piece_at k.second).toks) k.counted refl (collate_spelt w e k) (refl)

  pub column_led : w.code ≡ node_column → (k : Kids2 (must an_expr) (may a_name) N (i - 1) w.kids) → Led w (after (tok AS ∷ []) (may_piece k.second))
  unfolding backs
  column_led e k = led_by k.first (after (tok AS ∷ []) (may_piece k.second)) k.counted refl (column_spelt w e k) (ap (λ z. z ++ (after (tok AS ∷ []) (may_piece k.second))) (sym (at_zero (piece_at k.first))))

  pub sort_led : w.code ≡ node_sort → (k : Kids1 (must an_expr) N (i - 1) w.kids) → Led w (choose (eqb (w.detail % 4) 2) (tok DESC ∷ []) [] ++ choose (eqb (w.detail / 4) 1) (tok NULLS ∷ tok FIRST ∷ []) (choose (eqb (w.detail / 4) 2) (tok NULLS ∷ tok LAST ∷ []) []))
  unfolding backs
  sort_led e k = led_by k.first (choose (eqb (w.detail % 4) 2) (tok DESC ∷ []) [] ++ choose (eqb (w.detail / 4) 1) (tok NULLS ∷ tok FIRST ∷ []) (choose (eqb (w.detail / 4) 2) (tok NULLS ∷ tok LAST ∷ []) [])) k.counted refl (sort_spelt w e k) (ap (λ z. z ++ (choose (eqb (w.detail % 4) 2) (tok DESC ∷ []) [] ++ choose (eqb (w.detail / 4) 1) (tok NULLS ∷ tok FIRST ∷ []) (choose (eqb (w.detail / 4) 2) (tok NULLS ∷ tok LAST ∷ []) []))) (sym (at_zero (piece_at k.first))))
