-- From what a function of the cycle is given to what it gives its callees, and its tokens by theirs. Assumes nothing.
use mathlib.Core.Bool.{true, false}
use mathlib.Core.List.{List, [], ◌∷◌, ◌++◌, append_assoc, append-nil}
use mathlib.Core.Logic.{inl, inr, ⊎_elim}
use mathlib.Core.Path.{◌≡◌, refl, sym, ap, ap₂, ◌∙◌}
use Prim.Native.Nat.{ℕ, ◌+◌, ◌-◌, ◌<◌, ◌≤◌}
use lib.Dec.{eqb}
use native.Mathlib.Omega.{arith}
use Rattle.theory.specs.Trees.{Tok}
use Rattle.theory.proofs.Cases.{0≢1, eqb-true, eqb_eq, by_bool}
use Rattle.kinds.specs.Kinds.{AND, AS, BETWEEN, BY, CASE, CAST, DISTINCT, DOT, ELSE, END, EXISTS, GROUP, IN, LP, ON, ORDER, RP, STAR}
use Rattle.grammar.specs.NodeNames.{node_query, node_list, node_join, node_on, node_using, node_names, node_call, node_parens, node_subquery, node_exists, node_case, node_cast, node_prefix, node_binary, node_in_list, node_in_query, node_between}
use Rattle.grammar.specs.Reading.{choose}
use Rattle.grammar.specs.Writing.{at, after as put_after, within, parted, grouped, binary_toks, binary_str, not_if, node_str, tok}
use Rattle.canon.proofs.Folds.{P}
use Rattle.shapes.specs.Shape.{Class, a_query, a_source, a_join, a_constraint, a_sort, an_expr, a_name, list_of, any_of, many_of, Shaped, shaped_more}
use Rattle.scribe.proofs.Whole.{Whole, piece_at, before_of}
use Rattle.scribe.proofs.Kids.{known, kids_stand, Maybe, may_piece, may_there}
use Rattle.scribe.proofs.Spelt.{binary_kids, between_kids, in_list_kids, in_query_kids, subquery_kids, subquery_spelt, exists_kids, exists_spelt, cast_kids, cast_spelt, on_kids, on_spelt, using_shape, using_spelt, join_kids, join_spelt, names_shape, names_spelt, list_spelt, call_kids, CallKids, call_args, call_star, call_args_spelt, call_star_spelt, parens_shape, parens_spelt, str_binary, at_zero, after_here, query_is, join_is, source_is, list_is, any_is, expr_range, column_range, sort_is}
use Rattle.scribe.proofs.Lists.{case_toks, case_kids, case_spelt, case_ended}
use Rattle.scribe.proofs.Clauses.{code_at, children_at, order_none, order_some, group_none, group_some, constraint_here, constraint_gone}
use Rattle.scribe.proofs.Leading.{binary_led, between_led, in_list_led, in_query_led}
use Rattle.scribe.proofs.Parts.{Coded, Term, is_term, Operand, Leaf, Row, Terms, Inside, a_query_lem, members, Perhaps, not_any, some_terms, Part, coded_toks, term_toks, operand_toks, may_toks, bare_toks, terms_toks, inner_toks, inside_toks, perhaps_toks, whens_toks, call_toks, args_toks, part_toks, constraint_toks, join_toks, source_of, using_toks}
use Rattle.writer.specs.declared.lent.Pages.{Pages}
use Rattle.writer.specs.declared.spelling.Pen.{Pen}
use Rattle.writer.specs.Pages.{nodes_of, Field, Wrote, Writ, Trailed, Trails, Bounds}
use Rattle.writer.proofs.Pens.{◌after◌, wrote_as, writ_at, trailed}
use Rattle.writer.proofs.Leaves.{code_at_lem, code_of, detail_of, children_at_lem}
use Rattle.writer.proofs.Said.{expr_term, leads_within, by_term}

-- ── a node by its code ──
abbrev pub coded : {C : Class} {N : List ℕ} {i k : ℕ} (w : Whole C N i) → w.code ≡ k → Coded k N i
coded {C} w e = record { class = C; whole = w; is = e }

-- .. by the table's
pub code_is : {C : Class} {N : List ℕ} {i k : ℕ} (w : Whole C N i) → code_at N i ≡ k → w.code ≡ k
code_is w e = sym (known w).code ∙ e

-- the strength of a term
pub strength_at : {pages : Pages} {i c d k : ℕ} → k ≡ node_str c d → Field 0 pages i c → Field 1 pages i d → (t : Term (nodes_of pages) i) → k ≡ node_str t.whole.code t.whole.detail
strength_at e F G t = e ∙ ap₂ node_str (code_of t.whole F) (detail_of t.whole G)

-- ── rows ──
abbrev pub row_of : {C D : Class} {N : List ℕ} {i : ℕ} (w : Whole D N i) → Shaped (many_of C) w.kids → Row C N i
row_of w s = record { kids = w.kids; there = (known w).there; stands = kids_stand w; shaped = s; counted = (known w).children }

abbrev pub terms_of : {C : Class} {N : List ℕ} {i : ℕ} → is_term C ≡ true → Row C N i → Terms N i
terms_of {C} p r = record { class = C; term = p; row = r }

abbrev pub any_terms : {N : List ℕ} {i : ℕ} → Whole (any_of an_expr) N i → Terms N i
any_terms w = terms_of refl (row_of w (any_is w).1)

pub any_toks : {N : List ℕ} {i : ℕ} (w : Whole (any_of an_expr) N i) → (piece_at w).toks ≡ terms_toks N i (any_terms w)
any_toks w = (list_spelt w (any_is w).0).toks

abbrev pub list_terms : {C : Class} {N : List ℕ} {i : ℕ} → is_term C ≡ true → Whole (list_of C) N i → Terms N i
list_terms p w = terms_of p (row_of w (shaped_more (list_is w).1))

pub list_toks : {C : Class} {N : List ℕ} {i : ℕ} (p : is_term C ≡ true) (w : Whole (list_of C) N i) → (piece_at w).toks ≡ terms_toks N i (list_terms p w)
list_toks p w = (list_spelt w (list_is w).0).toks

-- ── in parentheses ──
no_query : {C : Class} {N : List ℕ} {i k : ℕ} (w : Whole C N i) → w.code ≡ k → (k ≡ node_query → ⊥) → code_at N i ≡ node_query → ⊥
no_query w e h q = h (sym e ∙ code_is w q)

pub list_no_query : {C : Class} {N : List ℕ} {i : ℕ} (w : Whole C N i) → w.code ≡ node_list → code_at N i ≡ node_query → ⊥
list_no_query w e = no_query w e (λ q. absurd (omega (arith, q)))

pub parens_no_query : {C : Class} {N : List ℕ} {i : ℕ} (w : Whole C N i) → w.code ≡ node_parens → code_at N i ≡ node_query → ⊥
parens_no_query w e = no_query w e (λ q. absurd (omega (arith, q)))

abbrev pub in_any : {N : List ℕ} {i : ℕ} → Whole (any_of an_expr) N i → Inside N i
in_any w = members (any_terms w) (list_no_query w (any_is w).0)

abbrev pub in_list : {N : List ℕ} {i : ℕ} → Whole (list_of an_expr) N i → Inside N i
in_list w = members (list_terms refl w) (list_no_query w (list_is w).0)

abbrev pub in_parens : {N : List ℕ} {i : ℕ} → Coded node_parens N i → Inside N i
in_parens w = members (terms_of refl (row_of w.whole (shaped_more (parens_shape w.whole w.is)))) (parens_no_query w.whole w.is)

abbrev pub in_query : {N : List ℕ} {i : ℕ} → Whole a_query N i → Inside N i
in_query w = a_query_lem (coded w (query_is w))

pub inner_there : {N : List ℕ} {i : ℕ} → Inside N i → 0 < i
inner_there (a_query_lem w) = (known w.whole).there
inner_there (members t h) = t.row.there

pub inner_query : {N : List ℕ} {i : ℕ} → Inside N i → code_at N i ≡ node_query → Coded node_query N i
inner_query (a_query_lem w) e = w
inner_query (members t h) e = absurd (h e)

pub inner_terms : {N : List ℕ} {i : ℕ} → Inside N i → (code_at N i ≡ node_query → ⊥) → Terms N i
inner_terms (a_query_lem w) h = absurd (h ((known w.whole).code ∙ w.is))
inner_terms (members t h) g = t

module _ {pages : Pages} {p q : Pen} {i : ℕ} where
  pub inner_t : (code_at (nodes_of pages) i ≡ node_query → ⊥) → Writ terms_toks pages p q i → Writ inner_toks pages p q i
  inner_t h s = record { told = λ x. go x }
    where
      go : (x : Inside (nodes_of pages) i) → Wrote pages p q (inner_toks (nodes_of pages) i x)
      go (a_query_lem w) = absurd (h ((known w.whole).code ∙ w.is))
      go (members t g) = s.told t

-- ── the list of GROUP BY and ORDER BY ──
not_none : (n : ℕ) → eqb n 0 ≡ false → n ≡ 0 → ⊥
not_none n e q = absurd (0≢1 (sym e ∙ eqb-true n 0 q))

module _ {N : List ℕ} {i : ℕ} where
  pub order_perhaps : (m : Maybe (list_of a_sort) N i) → (b : Perhaps N i) × (put_after (tok ORDER ∷ tok BY ∷ []) (may_piece m) ≡ perhaps_toks ORDER N i b)
  order_perhaps m =
      by_bool (eqb (children_at N i) 0)
      (λ e. let q = eqb_eq (children_at N i) 0 e in (not_any (may_there m).0 q, order_none (tok ORDER ∷ tok BY ∷ []) m q))
      (λ e. let k = order_some (tok ORDER ∷ tok BY ∷ []) m (not_none (children_at N i) e) in (some_terms (list_terms refl k.0) (not_none (children_at N i) e), k.1 ∙ ap (λ z. tok ORDER ∷ tok BY ∷ z) (list_toks refl k.0)))

  pub group_perhaps : (m : Maybe (any_of an_expr) N i) → (b : Perhaps N i) × (grouped (may_piece m) ≡ perhaps_toks GROUP N i b)
  group_perhaps m =
      by_bool (eqb (children_at N i) 0)
      (λ e. let q = eqb_eq (children_at N i) 0 e in (not_any (may_there m).0 q, group_none m q))
      (λ e. let k = group_some m (not_none (children_at N i) e) in (some_terms (any_terms k.0) (not_none (children_at N i) e), k.1 ∙ ap (λ z. tok GROUP ∷ tok BY ∷ z) (any_toks k.0)))

  pub perhaps_there : Perhaps N i → 0 < i
  perhaps_there (not_any h e) = h
  perhaps_there (some_terms t h) = t.row.there

  pub perhaps_terms : {pages : Pages} {r : ℕ} → nodes_of pages ≡ N → Field 2 pages i r → Perhaps N i → (r ≡ 0 → ⊥) → Terms N i
  perhaps_terms e F (not_any h q) g = absurd (g (children_at_lem F h ∙ ap (λ z. children_at z i) e ∙ q))
  perhaps_terms e F (some_terms t h) g = t

module _ {pages : Pages} {p q : Pen} {i n : ℕ} (k : ℕ) (F : Field 2 pages i n) where
  pub perhaps_none : n ≡ 0 → Wrote pages p q [] → Writ (perhaps_toks k) pages p q i
  perhaps_none e s = record { told = λ b. go b }
    where
      go : (b : Perhaps (nodes_of pages) i) → Wrote pages p q (perhaps_toks k (nodes_of pages) i b)
      go (not_any h q) = s
      go (some_terms t h) = absurd (h (sym (children_at_lem F t.row.there) ∙ e))

  pub perhaps_some : (n ≡ 0 → ⊥) → ((t : Terms (nodes_of pages) i) → Wrote pages p q (tok k ∷ tok BY ∷ terms_toks (nodes_of pages) i t)) → Writ (perhaps_toks k) pages p q i
  perhaps_some g f = record { told = λ b. go b }
    where
      go : (b : Perhaps (nodes_of pages) i) → Wrote pages p q (perhaps_toks k (nodes_of pages) i b)
      go (not_any h e) = absurd (g (children_at_lem F h ∙ e))
      go (some_terms t h) = f t

-- ── what comes after the first child ──
-- IN, of a list or a query
in_said : (d : ℕ) (us : List Tok) → not_if d ++ (tok IN ∷ us) ≡ (not_if d ++ (tok IN ∷ [])) ++ us
in_said d us = sym (append_assoc (not_if d) (tok IN ∷ []) us)

module _ {pages : Pages} {p q : Pen} {i k : ℕ} where
  pub trails_binary : {c d j : ℕ} {o : Pen} → Field 0 pages i c → c ≡ node_binary → Field 1 pages i d → Wrote pages o q (binary_toks d) → j ≡ i - 1 → Writ (term_toks (k + 1)) pages p o j → Trails k pages p q i
  trails_binary F e G n h s =
      record {
        told = λ t l a.
            let b : t.whole.code ≡ node_binary = sym (code_of t.whole F) ∙ e in
            let kids = binary_kids t.whole b in
            let m : k ≡ binary_str t.whole.detail = a ∙ str_binary t.whole.code t.whole.detail b in
            trailed (binary_led t.whole b kids) (wrote_as (ap₂ (λ x y. binary_toks x ++ at (y + 1) (piece_at kids.second)) (sym (detail_of t.whole G)) (sym m)) (n after (writ_at h s (expr_term kids.second))));
      }

  pub trails_between : {c : ℕ} → Field 0 pages i c → c ≡ node_between → Bounds pages p q i → Trails k pages p q i
  trails_between F e s = record { told = λ t l a. s.told (coded t.whole (sym (code_of t.whole F) ∙ e)) }

  pub trails_in : {c d j : ℕ} {o : Pen} → Field 0 pages i c → node_in_list ≤ c → c < node_between → Field 1 pages i d → Wrote pages o q (not_if d ++ (tok IN ∷ [])) → j ≡ i - 1 → Writ inside_toks pages p o j → Trails k pages p q i
  trails_in {c} {d = d} F lo hi G n h s = record { told = λ t l a. by_bool (eqb c node_in_list) (λ e. listed t (sym (code_of t.whole F) ∙ eqb_eq c node_in_list e)) (λ e. asked t (sym (code_of t.whole F) ∙ other e)) }
    where
      other : eqb c node_in_list ≡ false → c ≡ node_in_query
      other e = let m : c ≡ node_in_list → ⊥ = λ z. absurd (0≢1 (sym e ∙ eqb-true c node_in_list z)) in omega (arith, lo, hi, m)

      listed : (t : Term (nodes_of pages) i) → t.whole.code ≡ node_in_list → Trailed t.whole pages p q
      listed t b =
          let kids = in_list_kids t.whole b in
          trailed (in_list_led t.whole b kids) (wrote_as (ap₂ (λ x y. not_if x ++ (tok IN ∷ within y)) (sym (detail_of t.whole G)) (any_toks kids.second) ∙ in_said d (inside_toks (nodes_of pages) (i - 1) (in_any kids.second))) (n after (writ_at h s (in_any kids.second))))

      asked : (t : Term (nodes_of pages) i) → t.whole.code ≡ node_in_query → Trailed t.whole pages p q
      asked t b =
          let kids = in_query_kids t.whole b in
          trailed (in_query_led t.whole b kids) (wrote_as (ap (λ x. not_if x ++ (tok IN ∷ within (piece_at kids.second).toks)) (sym (detail_of t.whole G)) ∙ in_said d (inside_toks (nodes_of pages) (i - 1) (in_query kids.second))) (n after (writ_at h s (in_query kids.second))))

module _ {pages : Pages} {i : ℕ} where
  pub in_given : {c : ℕ} → Field 0 pages i c → node_in_list ≤ c → c < node_between → Term (nodes_of pages) i → Inside (nodes_of pages) (i - 1)
  in_given {c} F lo hi t =
      by_bool (eqb c node_in_list) (λ e. in_any (in_list_kids t.whole (sym (code_of t.whole F) ∙ eqb_eq c node_in_list e)).second)
      (λ e. let n : c ≡ node_in_list → ⊥ = λ q. absurd (0≢1 (sym e ∙ eqb-true c node_in_list q)) in let b : c ≡ node_in_query = omega (arith, lo, hi, n) in in_query (in_query_kids t.whole (sym (code_of t.whole F) ∙ b)).second)

-- BETWEEN low AND high
pub bounds_by : {pages : Pages} {p p₁ p₂ p₃ q : Pen} {i d j l : ℕ} → Field 1 pages i d → Wrote pages p₃ q (not_if d ++ (tok BETWEEN ∷ [])) → l ≡ before_of (nodes_of pages) (i - 1) → Writ (term_toks 5) pages p₂ p₃ l → Wrote pages p₁ p₂ (tok AND ∷ []) → j ≡ i - 1 → Writ (term_toks 5) pages p p₁ j → Bounds pages p q i
bounds_by {d = d} G n g low a h high =
    record {
      told = λ w.
          let k = between_kids w.whole w.is in
          trailed (between_led w.whole w.is k)
          (wrote_as (ap (λ x. not_if x ++ (tok BETWEEN ∷ (at 5 (piece_at k.second) ++ (tok AND ∷ at 5 (piece_at k.third))))) (sym (detail_of w.whole G)) ∙ sym (append_assoc (not_if d) (tok BETWEEN ∷ []) (at 5 (piece_at k.second) ++ (tok AND ∷ at 5 (piece_at k.third)))))
          (n after (writ_at g low (expr_term k.second) after (a after writ_at h high (expr_term k.third)))));
    }

-- ── CASE, CAST, calls ──
module _ {N : List ℕ} {i : ℕ} where
  pub case_said : (w : Coded node_case N i) → coded_toks node_case N i w ≡ tok CASE ∷ (whens_toks N i w ++ (put_after (tok ELSE ∷ []) (may_piece (case_kids w.whole w.is).otherwise) ++ (tok END ∷ [])))
  case_said w =
      let k = case_kids w.whole w.is in
      (case_spelt w.whole w.is).toks ∙ ap (λ z. tok CASE ∷ (z ++ (tok END ∷ []))) (case_ended k) ∙ ap (λ z. tok CASE ∷ z) (append_assoc (case_toks (P k.pairs)) (put_after (tok ELSE ∷ []) (may_piece k.otherwise)) (tok END ∷ []))

  abbrev pub cast_first : (w : Coded node_cast N i) → Whole an_expr N (before_of N (i - 1))
  cast_first w = (cast_kids w.whole w.is).first

  abbrev pub cast_type : (w : Coded node_cast N i) → Maybe a_name N (i - 1)
  cast_type w = inl (cast_kids w.whole w.is).second

  pub cast_said : (w : Coded node_cast N i) → coded_toks node_cast N i w ≡ tok CAST ∷ tok LP ∷ (at 0 (piece_at (cast_first w)) ++ (put_after (tok AS ∷ []) (may_piece (cast_type w)) ++ (tok RP ∷ [])))
  cast_said w =
      let k = cast_kids w.whole w.is in
      (cast_spelt w.whole w.is k).toks
      ∙ ap (λ z. tok CAST ∷ tok LP ∷ z) (append_assoc (piece_at k.first).toks (tok AS ∷ (piece_at k.second).toks) (tok RP ∷ []))
      ∙ ap₂ (λ x y. tok CAST ∷ tok LP ∷ (x ++ (y ++ (tok RP ∷ [])))) (sym (at_zero (piece_at k.first))) (sym (after_here (tok AS ∷ []) refl k.second))

  call_name : {C : Class} {w : Whole C N i} → CallKids w → Whole a_name N (before_of N (i - 1))
  call_name (call_args h k) = k.first
  call_name (call_star h k) = k.first

  pub call_name_lem : (w : Coded node_call N i) → Whole a_name N (before_of N (i - 1))
  call_name_lem w = call_name (call_kids w.whole w.is)

  pub call_said : (w : Coded node_call N i) → coded_toks node_call N i w ≡ (piece_at (call_name_lem w)).toks ++ within (args_toks N i w)
  unfolding call_name call_name_lem
  call_said w = go (call_kids w.whole w.is)
    where
      go : (k : CallKids w.whole) → coded_toks node_call N i w ≡ (piece_at (call_name k)).toks ++ within (call_toks k)
      go (call_args h k) = (call_args_spelt w.whole w.is (λ e. absurd (omega (arith, h, e))) k).toks
      go (call_star h k) = (call_star_spelt w.whole w.is h k).toks

  pub args_star : (w : Coded node_call N i) → w.whole.detail ≡ 2 → args_toks N i w ≡ tok STAR ∷ []
  args_star w e = go (call_kids w.whole w.is)
    where
      go : (k : CallKids w.whole) → call_toks k ≡ tok STAR ∷ []
      go (call_args h k) = absurd (omega (arith, h, e))
      go (call_star h k) = refl

  pub args_list : (w : Coded node_call N i) → (w.whole.detail ≡ 2 → ⊥) → (x : Whole (any_of an_expr) N (i - 1)) × (args_toks N i w ≡ choose (eqb w.whole.detail 1) (tok DISTINCT ∷ []) [] ++ terms_toks N (i - 1) (any_terms x))
  args_list w n = go (call_kids w.whole w.is)
    where
      go : (k : CallKids w.whole) → (x : Whole (any_of an_expr) N (i - 1)) × (call_toks k ≡ choose (eqb w.whole.detail 1) (tok DISTINCT ∷ []) [] ++ terms_toks N (i - 1) (any_terms x))
      go (call_args h k) = (k.second, ap (λ z. choose (eqb w.whole.detail 1) (tok DISTINCT ∷ []) [] ++ z) (any_toks k.second))
      go (call_star h k) = absurd (n h)

-- ── a part of FROM ──
pub part_src : {N : List ℕ} {i : ℕ} (p : Part N i) → Whole a_source N (source_of N i p)
part_src (inl w) = w
part_src (inr w) = (join_kids w (join_is w)).first

pub part_said : {N : List ℕ} {i : ℕ} (p : Part N i) → part_toks N i p ≡ join_toks N i p ++ ((piece_at (part_src p)).toks ++ constraint_toks N i p)
unfolding part_src
part_said (inl w) = sym (append-nil (piece_at w).toks)
part_said (inr w) = (join_spelt w (join_is w) (join_kids w (join_is w))).toks

pub part_there : {N : List ℕ} {i : ℕ} → Part N i → 0 < i
part_there (inl w) = (known w).there
part_there (inr w) = (known w).there

pub part_on : {N : List ℕ} {i : ℕ} → Whole a_join N i → Maybe a_constraint N (i - 1)
part_on w = (join_kids w (join_is w)).second

module _ {pages : Pages} {p q : Pen} {i c : ℕ} (F : Field 0 pages i c) where
  pub constraint_on : c ≡ node_join → {j : ℕ} → j ≡ i - 1 → Writ (bare_toks a_constraint) pages p q j → Writ constraint_toks pages p q i
  constraint_on e h s = record { told = λ x. go x }
    where
      go : (x : Part (nodes_of pages) i) → Wrote pages p q (constraint_toks (nodes_of pages) i x)
      go (inl w) = absurd (⊎_elim (λ z. let x = code_of w F in omega (arith, e, z, x)) (λ z. let x = code_of w F in omega (arith, e, z, x)) (source_is w))
      go (inr w) = writ_at h s (join_kids w (join_is w)).second

  pub constraint_none : (c ≡ node_join → ⊥) → Wrote pages p q [] → Writ constraint_toks pages p q i
  constraint_none n s = record { told = λ x. go x }
    where
      go : (x : Part (nodes_of pages) i) → Wrote pages p q (constraint_toks (nodes_of pages) i x)
      go (inl w) = s
      go (inr w) = absurd (n (code_of w F ∙ join_is w))

-- its ON or USING
module _ {pages : Pages} {i c : ℕ} (F : Field 0 pages i c) where
  pub on_there : {k : ℕ} → c ≡ k → 0 < k → (m : Maybe a_constraint (nodes_of pages) i) → (w : Whole a_constraint (nodes_of pages) i) × (w.code ≡ k) × (may_piece m ≡ piece_at w)
  on_there {k} e h m =
      let q : code_at (nodes_of pages) i ≡ k = sym (code_at_lem F (may_there m).0) ∙ e in
      let x = constraint_here m (omega (arith, h, q)) in
      (x.0, code_is x.0 q, x.1)

  pub on_said : (e : c ≡ node_on) (m : Maybe a_constraint (nodes_of pages) i) → (x : Whole an_expr (nodes_of pages) (i - 1)) × (bare_toks a_constraint (nodes_of pages) i m ≡ may_toks an_expr (tok ON ∷ []) (nodes_of pages) (i - 1) (inl x))
  on_said e m =
      let k = on_there e (omega arith) m in
      let kids = on_kids k.0 k.1 in
      (kids.first, ap (λ z. z.toks) k.2 ∙ (on_spelt k.0 k.1 kids).toks ∙ sym (after_here (tok ON ∷ []) refl kids.first))

  pub using_said : (e : c ≡ node_using) (m : Maybe a_constraint (nodes_of pages) i) → (x : Row a_name (nodes_of pages) i) × (bare_toks a_constraint (nodes_of pages) i m ≡ using_toks (nodes_of pages) i x)
  using_said e m =
      let k = on_there e (omega arith) m in
      (row_of k.0 (shaped_more (using_shape k.0 k.1)), ap (λ z. z.toks) k.2 ∙ (using_spelt k.0 k.1).toks)

  pub on_none : (c ≡ node_on → ⊥) → (c ≡ node_using → ⊥) → (m : Maybe a_constraint (nodes_of pages) i) → bare_toks a_constraint (nodes_of pages) i m ≡ []
  on_none a b m = let q = code_at_lem F (may_there m).0 in constraint_gone m (λ z. a (q ∙ z)) (λ z. b (q ∙ z))

-- ── an operand ──
module _ {N : List ℕ} {i c : ℕ} (t : Operand N i) (e : c ≡ code_at N i) where
  pub operand_code : {k : ℕ} → c ≡ k → t.it.whole.code ≡ k
  operand_code h = code_is t.it.whole (sym e ∙ h)

  abbrev pub operand_leaf : c < node_names → Leaf N i
  operand_leaf h = record { it = t.it; first = t.first; low = let k = (known t.it.whole).code in omega (arith, h, e, k) }

abbrev pub names_row : {N : List ℕ} {i : ℕ} (t : Operand N i) → t.it.whole.code ≡ node_names → Row a_name N i
names_row t e = row_of t.it.whole (shaped_more (names_shape t.it.whole e))

pub names_said : {N : List ℕ} {i : ℕ} (t : Operand N i) (e : t.it.whole.code ≡ node_names) → operand_toks N i t ≡ parted (tok DOT) (P t.it.whole.kids)
names_said t e = (names_spelt t.it.whole e).toks

pub parens_said : {N : List ℕ} {i : ℕ} (t : Operand N i) (e : t.it.whole.code ≡ node_parens) → operand_toks N i t ≡ inside_toks N i (in_parens (coded t.it.whole e))
parens_said t e = (parens_spelt t.it.whole e (t.bare e)).toks

-- a subquery, after EXISTS or not
module _ {N : List ℕ} {i c : ℕ} (t : Operand N i) (e : c ≡ code_at N i) (lo : node_subquery ≤ c) (hi : c < node_case) where
  code_sub : eqb c node_exists ≡ false → t.it.whole.code ≡ node_subquery
  code_sub q = let n : c ≡ node_exists → ⊥ = λ z. absurd (0≢1 (sym q ∙ eqb-true c node_exists z)) in let b : c ≡ node_subquery = omega (arith, lo, hi, n) in operand_code t e b

  code_exists : eqb c node_exists ≡ true → t.it.whole.code ≡ node_exists
  code_exists q = operand_code t e (eqb_eq c node_exists q)

  pub sub_said : (x : Whole a_query N (i - 1)) × (operand_toks N i t ≡ choose (eqb c node_exists) (tok EXISTS ∷ []) [] ++ inside_toks N (i - 1) (in_query x))
  unfolding choose
  sub_said =
      by_bool (eqb c node_exists)
      (λ q. let k = exists_kids t.it.whole (code_exists q) in (k.first, (exists_spelt t.it.whole (code_exists q) k).toks ∙ ap (λ b. choose b (tok EXISTS ∷ []) [] ++ inside_toks N (i - 1) (in_query k.first)) (sym q)))
      (λ q. let k = subquery_kids t.it.whole (code_sub q) in (k.first, (subquery_spelt t.it.whole (code_sub q) k).toks ∙ ap (λ b. choose b (tok EXISTS ∷ []) [] ++ inside_toks N (i - 1) (in_query k.first)) (sym q)))

-- what is left is a prefix
no_later : {N : List ℕ} {i : ℕ} (C : Class) → is_term C ≡ true → (w : Whole C N i) → w.code ≤ 44
no_later {N} {i} = by_term (λ C. (w : Whole C N i) → w.code ≤ 44)
    (λ w. (expr_range w).1)
    (λ w. let r = (column_range w).1 in omega (arith, r))
    (λ w. let r = sort_is w in omega (arith, r))

pub operand_prefix : {N : List ℕ} {i c : ℕ} (t : Operand N i) → c ≡ code_at N i → 38 ≤ c → t.it.whole.code ≡ node_prefix
operand_prefix {c = c} t e h =
    let k = (known t.it.whole).code in
    let q : c ≡ t.it.whole.code = e ∙ k in
    let hi = no_later t.it.class t.it.term t.it.whole in
    by_bool (eqb t.it.whole.code node_prefix) (λ z. eqb_eq t.it.whole.code node_prefix z)
    (λ z. let n : t.it.whole.code ≡ node_prefix → ⊥ = λ y. absurd (0≢1 (sym z ∙ eqb-true t.it.whole.code node_prefix y)) in
    absurd (0≢1 (sym (leads_within t.it.whole.code (omega (arith, h, q, n)) (omega (arith, hi)) ∙ t.first))))
