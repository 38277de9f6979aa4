-- Clauses that may be absent, as the writer meets them: by the code in the table (may_gone, may_here), by the children counted there (order_none,
-- group_none, no_from, ..). Each expression has a token, so that a group list with members is written. Assumes nothing.
use mathlib.Core.Bool.{true, false}
use mathlib.Core.List.{List, [], ◌∷◌, ◌++◌}
use mathlib.Core.Logic.{inl, inr, ⊎_elim}
use mathlib.Core.Path.{◌≡◌, refl, sym, ap, ◌∙◌}
use Prim.Native.Nat.{ℕ, ◌+◌, ◌-◌, ◌*◌, ◌<◌}
use lib.Dec.{eqb, leb}
use lib.ListN.{length, get_or}
use native.Mathlib.Omega.{arith}
use Rattle.theory.specs.Trees.{Tok}
use Rattle.theory.specs.Table.{both, pick}
use Rattle.theory.proofs.Cases.{pick_case}
use Rattle.kinds.specs.Kinds.{COMMA, DOT, GROUP, BY}
use Rattle.grammar.specs.Sizes.{WIDTH}
use Rattle.grammar.specs.NodeNames.{node_absent, node_on, node_using, node_parens, node_names, node_call, node_subquery, node_exists, node_case, node_cast, node_prefix, node_binary, node_null_test, node_in_list, node_in_query, node_between, node_collate}
use Rattle.grammar.specs.Nodes.{Nodes, end, mk, count}
use Rattle.grammar.specs.Meaning.{plain_detail}
use Rattle.grammar.specs.Writing.{piece, nothing, formed, forms, ◌!◌, after, each, parted, grouped, binary_toks, binary_str, not_if, at, tok}
use Rattle.canon.proofs.Folds.{P}
use Rattle.shapes.specs.Shape.{Class, a_from, a_constraint, an_expr, a_name, absence, list_of, any_of, Shape, many_of, some_of, Node, Shaped, shaped_next, shaped_none, shaped_more, name_node, literal_node, names_node, call_node, star_call_node, parens_node, subquery_node, exists_node, case_node, cast_node, prefix_node, binary_node, null_node, in_list_node, in_query_node, between_node, collate_node}
use Rattle.scribe.proofs.Spelling.{piece_of, P_node, plain_piece, unwrapped_piece, more_piece}
use Rattle.scribe.proofs.Whole.{Whole, piece_at}
use Rattle.scribe.proofs.Kids.{known, Maybe, may_piece, is_there, not_absent, absent_code, absent_kids, absent_piece, some_counted}
use Rattle.scribe.proofs.Spelt.{next_of, list_is, any_is, from_is, from_shape, list_spelt, after_here, after_gone, toks_gone, constraint_is}
use Rattle.scribe.proofs.Lists.{parted_none}

-- ── by the table's numbers ──
abbrev pub code_at : List ℕ → ℕ → ℕ
code_at N i = get_or N (WIDTH * (i - 1)) 0

abbrev pub children_at : List ℕ → ℕ → ℕ
children_at N i = get_or N (WIDTH * (i - 1) + 2) 0

module _ {C : Class} {N : List ℕ} {i : ℕ} (p : is_there C ≡ true) where
  pub may_gone : (m : Maybe C N i) → code_at N i ≡ node_absent → may_piece m ≡ nothing
  may_gone (inl w) e = absurd (not_absent p w (sym (known w).code ∙ e))
  may_gone (inr w) e = absent_piece w

  pub may_here : (m : Maybe C N i) → (code_at N i ≡ node_absent → ⊥) → (w : Whole C N i) × (may_piece m ≡ piece_at w)
  may_here (inl w) h = (w, refl)
  may_here (inr w) h = absurd (h ((known w).code ∙ absent_code w))

  -- words before it
  pub clause_gone : (ws : List Tok) (m : Maybe C N i) → code_at N i ≡ node_absent → after ws (may_piece m) ≡ []
  clause_gone ws (inl w) e = absurd (not_absent p w (sym (known w).code ∙ e))
  clause_gone ws (inr w) e = after_gone ws w

  pub clause_here : (ws : List Tok) (m : Maybe C N i) → (code_at N i ≡ node_absent → ⊥) → (w : Whole C N i) × (after ws (may_piece m) ≡ ws ++ (piece_at w).toks)
  clause_here ws (inl w) h = (w, after_here ws p w)
  clause_here ws (inr w) h = absurd (h ((known w).code ∙ absent_code w))

no_children : {N : List ℕ} {i : ℕ} (w : Whole absence N i) → children_at N i ≡ 0
unfolding count
no_children w = (known w).children ∙ ap count (absent_kids w)

module _ {N : List ℕ} {i : ℕ} where
  -- ── ORDER BY ──
  list_counted : {D : Class} (w : Whole (list_of D) N i) → 0 < children_at N i
  list_counted w = let a = some_counted (list_is w).1 in let b = (known w).children in omega (arith, a, b)

  pub order_none : {D : Class} (ws : List Tok) (m : Maybe (list_of D) N i) → children_at N i ≡ 0 → after ws (may_piece m) ≡ []
  order_none ws (inl w) e = absurd (let a = list_counted w in omega (arith, a, e))
  order_none ws (inr w) e = after_gone ws w

  pub order_some : {D : Class} (ws : List Tok) (m : Maybe (list_of D) N i) → (children_at N i ≡ 0 → ⊥) → (w : Whole (list_of D) N i) × (after ws (may_piece m) ≡ ws ++ (piece_at w).toks)
  order_some ws (inl w) h = (w, after_here ws refl w)
  order_some ws (inr w) h = absurd (h (no_children w))

  -- ── FROM ──
  pub no_from : (m : Maybe a_from N i) → children_at N i ≡ 0 → (may_piece m).toks ≡ []
  no_from (inl w) e = absurd (let a = some_counted (from_shape w (from_is w)) in let b = (known w).children in omega (arith, a, b, e))
  no_from (inr w) e = toks_gone w

  pub some_from : (m : Maybe a_from N i) → (children_at N i ≡ 0 → ⊥) → (w : Whole a_from N i) × (may_piece m ≡ piece_at w)
  some_from (inl w) h = (w, refl)
  some_from (inr w) h = absurd (h (no_children w))

  -- ── a join's constraint ──
  pub constraint_gone : (m : Maybe a_constraint N i) → (code_at N i ≡ node_on → ⊥) → (code_at N i ≡ node_using → ⊥) → (may_piece m).toks ≡ []
  constraint_gone (inl w) h g = ⊎_elim (λ e. absurd (h ((known w).code ∙ e))) (λ e. absurd (g ((known w).code ∙ e))) (constraint_is w)
  constraint_gone (inr w) h g = toks_gone w

  pub constraint_here : (m : Maybe a_constraint N i) → 0 < code_at N i → (w : Whole a_constraint N i) × (may_piece m ≡ piece_at w)
  constraint_here m h = may_here refl m (λ e. absurd (omega (arith, h, e)))
  -- ── a schema and its DOT ──

-- ── tokens that are some ──
pub record Spoken (ts : List Tok) : Type 0 where
  pub head : Tok
  pub more : List Tok
  pub same : ts ≡ head ∷ more

spoken_here : {t : Tok} {ts : List Tok} → Spoken (t ∷ ts)
spoken_here {t} {ts} = record { head = t; more = ts; same = refl }

spoken_is : {ts us : List Tok} → ts ≡ us → Spoken us → Spoken ts
spoken_is e b = record { head = b.head; more = b.more; same = e ∙ b.same }

spoken_left : {ts : List Tok} (us : List Tok) → Spoken ts → Spoken (ts ++ us)
spoken_left {ts} us b = record { head = b.head; more = b.more ++ us; same = ap (λ z. z ++ us) b.same }

spoken_right : (ts : List Tok) {us : List Tok} → Spoken us → Spoken (ts ++ us)
spoken_right [] b = b
spoken_right (t ∷ ts) b = spoken_here

binary_spoken : (d : ℕ) → Spoken (binary_toks d)
unfolding binary_toks
binary_spoken d = pick_case Spoken (leb 300 d) _ _ (λ a. spoken_here) (λ a. pick_case Spoken (leb 200 d) _ _ (λ b. spoken_here) (λ b. pick_case Spoken (eqb d 137) _ _ (λ c. spoken_here) (λ c. spoken_here)))

toks_of : (c d : ℕ) (ks : Nodes) (k : ℕ) → eqb k node_parens ≡ false → c ≡ k → (piece_of c d ks).toks ≡ formed k forms (plain_detail k d) (P ks)
unfolding piece
toks_of c d ks k h e = ap (λ z. (piece_of z d ks).toks) e ∙ ap (λ z. z.toks) (plain_piece k d ks h)

name_spoken : {c d : ℕ} {S : Shape} (ks : Nodes) → Node a_name c d S → Spoken (piece_of c d ks).toks
unfolding formed forms pick both plain_detail
name_spoken {c} {d} ks (name_node lo hi) =
    next_of 20 c lo (λ e. spoken_is (toks_of c d ks 20 refl e) spoken_here)
    (λ h. next_of 21 c h (λ e. spoken_is (toks_of c d ks 21 refl e) spoken_here)
    (λ h. next_of 22 c h (λ e. spoken_is (toks_of c d ks 22 refl e) spoken_here)
    (λ h. let e : c ≡ 23 = omega (arith, h, hi) in spoken_is (toks_of c d ks 23 refl e) spoken_here)))

names_spoken : {ks : Nodes} (t : Tok) → Shaped (some_of a_name) ks → Spoken (parted t (P ks))
unfolding parted
names_spoken t (shaped_next {c = a} {d = b} {ks = x} {ns = ns} n s r) = spoken_is (ap (parted t) (P_node a b x ns)) (spoken_left (each t (P ns)) (name_spoken x n))

-- so it is for what stands under the first node
abbrev Inner : Nodes → Type 0
Inner end = Unit {0}
Inner (mk a b x r) = (a b : ℕ) (S : Shape) → Node an_expr a b S → Shaped S x → Spoken (piece_of a b x).toks

parens_spoken : (c d : ℕ) (ks : Nodes) → c ≡ node_parens → Shaped (some_of an_expr) ks → Inner ks → Spoken (piece_of c d ks).toks
unfolding formed forms pick both piece
parens_spoken c d end e x3 f = elim x3 [ ]
parens_spoken c d (mk a b x end) e (shaped_next {S = S} n s r) f = spoken_is (ap (λ z. (piece_of z d (mk a b x end)).toks) e ∙ ap (λ z. z.toks) (unwrapped_piece d a b x)) (f a b S n s)
parens_spoken c d (mk a b x (mk a' b' x' r)) e (shaped_next n s t) f = spoken_is (ap (λ z. (piece_of z d (mk a b x (mk a' b' x' r))).toks) e ∙ ap (λ z. z.toks) (more_piece d a b x a' b' x' r)) spoken_here

one_spoken : {c d : ℕ} {S : Shape} (ks : Nodes) → Node an_expr c d S → Shaped S ks → Inner ks → Spoken (piece_of c d ks).toks
unfolding formed forms pick both plain_detail
one_spoken {c} {d} ks (literal_node lo hi z) s f =
    next_of 24 c lo (λ e. spoken_is (toks_of c d ks 24 refl e) spoken_here)
    (λ h. next_of 25 c h (λ e. spoken_is (toks_of c d ks 25 refl e) spoken_here)
    (λ h. next_of 26 c h (λ e. spoken_is (toks_of c d ks 26 refl e) spoken_here)
    (λ h. next_of 27 c h (λ e. spoken_is (toks_of c d ks 27 refl e) spoken_here)
    (λ h. next_of 28 c h (λ e. spoken_is (toks_of c d ks 28 refl e) spoken_here)
    (λ h. next_of 29 c h (λ e. spoken_is (toks_of c d ks 29 refl e) spoken_here)
    (λ h. let e : c ≡ 30 = omega (arith, h, hi) in spoken_is (toks_of c d ks 30 refl e) spoken_here))))))
one_spoken {c} {d} ks (names_node e h) s f = spoken_is (toks_of c d ks node_names refl e) (names_spoken _ s)
one_spoken {c} {d} ks (call_node e h) s f = spoken_is (toks_of c d ks node_call refl e) (spoken_right (P ks ! 0).toks spoken_here)
one_spoken {c} {d} ks (star_call_node e h) s f = spoken_is (toks_of c d ks node_call refl e) (spoken_right (P ks ! 0).toks spoken_here)
one_spoken {c} {d} ks (parens_node e h) s f = parens_spoken c d ks e s f
one_spoken {c} {d} ks (subquery_node e h) s f = spoken_is (toks_of c d ks node_subquery refl e) spoken_here
one_spoken {c} {d} ks (exists_node e h) s f = spoken_is (toks_of c d ks node_exists refl e) spoken_here
one_spoken {c} {d} ks (case_node e h) s f = spoken_is (toks_of c d ks node_case refl e) spoken_here
one_spoken {c} {d} ks (cast_node e h) s f = spoken_is (toks_of c d ks node_cast refl e) spoken_here
one_spoken {c} {d} ks (prefix_node e h) s f = spoken_is (toks_of c d ks node_prefix refl e) spoken_here
one_spoken {c} {d} ks (binary_node e h) s f = spoken_is (toks_of c d ks node_binary refl e) (spoken_right (at (binary_str d) (P ks ! 0)) (spoken_left _ (binary_spoken d)))
one_spoken {c} {d} ks (null_node e h) s f = spoken_is (toks_of c d ks node_null_test refl e) (spoken_right (at 4 (P ks ! 0)) spoken_here)
one_spoken {c} {d} ks (in_list_node e h) s f = spoken_is (toks_of c d ks node_in_list refl e) (spoken_right (at 4 (P ks ! 0)) (spoken_right (not_if d) spoken_here))
one_spoken {c} {d} ks (in_query_node e h) s f = spoken_is (toks_of c d ks node_in_query refl e) (spoken_right (at 4 (P ks ! 0)) (spoken_right (not_if d) spoken_here))
one_spoken {c} {d} ks (between_node e h) s f = spoken_is (toks_of c d ks node_between refl e) (spoken_right (at 4 (P ks ! 0)) (spoken_right (not_if d) spoken_here))
one_spoken {c} {d} ks (collate_node e h) s f = spoken_is (toks_of c d ks node_collate refl e) (spoken_right (at 10 (P ks ! 0)) spoken_here)

-- each expression has a token
pub expr_spoken : {c d : ℕ} {S : Shape} (ks : Nodes) → Node an_expr c d S → Shaped S ks → Spoken (piece_of c d ks).toks
expr_spoken end n s = one_spoken end n s tt
expr_spoken (mk a b x r) n s = one_spoken (mk a b x r) n s (λ a b S n s. expr_spoken x n s)

list_spoken : {ks : Nodes} (t : Tok) → Shaped (many_of an_expr) ks → 0 < count ks → Spoken (parted t (P ks))
unfolding parted count
list_spoken t shaped_none h = absurd (omega (arith, h))
list_spoken t (shaped_more (shaped_next {c = a} {d = b} {ks = x} {ns = ns} n s r)) h = spoken_is (ap (parted t) (P_node a b x ns)) (spoken_left (each t (P ns)) (expr_spoken x n s))

-- ── GROUP BY ──
grouped_spoken : (c s : ℕ) (ts : List Tok) → Spoken ts → grouped (record { code = c; str = s; toks = ts }) ≡ tok GROUP ∷ tok BY ∷ ts
unfolding grouped
grouped_spoken c s [] b = absurd (let l = ap length b.same in omega (arith, l))
grouped_spoken c s (t ∷ ts) b = refl

grouped_none : (c s : ℕ) (ts : List Tok) → ts ≡ [] → grouped (record { code = c; str = s; toks = ts }) ≡ []
unfolding grouped
grouped_none c s [] e = refl
grouped_none c s (t ∷ ts) e = absurd (let l = ap length e in omega (arith, l))

module _ {N : List ℕ} {i : ℕ} where
  pub group_none : (m : Maybe (any_of an_expr) N i) → children_at N i ≡ 0 → grouped (may_piece m) ≡ []
  group_none (inl w) e = grouped_none (piece_at w).code (piece_at w).str (piece_at w).toks ((list_spelt w (any_is w).0).toks ∙ parted_none (tok COMMA) w.kids (sym (known w).children ∙ e))
  group_none (inr w) e = grouped_none (piece_at w).code (piece_at w).str (piece_at w).toks (toks_gone w)

  pub group_some : (m : Maybe (any_of an_expr) N i) → (children_at N i ≡ 0 → ⊥) → (w : Whole (any_of an_expr) N i) × (grouped (may_piece m) ≡ tok GROUP ∷ tok BY ∷ (piece_at w).toks)
  group_some (inl w) h =
      let c = (known w).children in
      (w, grouped_spoken (piece_at w).code (piece_at w).str (piece_at w).toks (spoken_is (list_spelt w (any_is w).0).toks (list_spoken (tok COMMA) (any_is w).1 (omega (arith, c, h)))))
  group_some (inr w) h = absurd (h (no_children w))
