-- What each of the writer's functions writes, by the tests that it makes. Assumes nothing.
use mathlib.Core.Bool.{true, false}
use mathlib.Core.List.{List, [], ◌∷◌, ◌++◌, append_assoc}
use mathlib.Core.Logic.{◌⊎◌, inl, inr, ⊎_elim}
use mathlib.Core.Path.{◌≡◌, refl, sym, ap, ap₂, ◌∙◌, subst⁻¹}
use Prim.Native.Nat.{ℕ, suc, ◌+◌, ◌-◌, ◌/◌, ◌<◌, ◌≤◌}
use lib.Dec.{eqb}
use native.Mathlib.Omega.{arith}
use borrow.Author.Tests.{ne_eqb, lt-leb}
use Rattle.theory.specs.Trees.{Tok}
use Rattle.theory.specs.Table.{pick, both}
use Rattle.theory.proofs.Cases.{0≢1, eqb-true, eqb_eq, le-leb}
use Rattle.kinds.specs.Kinds.{AS, ID, STRING, INDEXED, JOIN_KW, INTEGER, FLOAT, BLOB, VARIABLE, CTIME_KW, NULL, STAR, DOT, NOT, IS, LIKE_KW, JOIN, NULLS, FIRST, LAST, COLLATE, LP, BY}
use Rattle.kinds.specs.Strength.{strength_of}
use Rattle.std.specs.Prelude.{Option, None, Some, option_to_list}
use Rattle.words.specs.Fewest.{Fewest, fewest_of, writing_of, words_in}
use Rattle.words.proofs.FewestWords.{words_in_is}
use Rattle.words.specs.declared.Writing.{Writing}
use Rattle.grammar.specs.NodeNames.{node_absent, node_star, node_name_star, node_column, node_sort, node_null, node_names, node_parens, node_table, node_join, node_null_test}
use Rattle.grammar.specs.Reading.{choose}
use Rattle.grammar.specs.Writing.{tok, toktext, after, node_str, binary_toks, binary_str, join_of, join_words}
use Rattle.shapes.specs.Shape.{Class, a_name, an_expr, a_column, a_sort, a_source, a_join, a_query, a_body, a_from, a_constraint, absence, list_of, any_of, empty_list, Joining}
use Rattle.scribe.proofs.Whole.{Whole, piece_at}
use Rattle.scribe.proofs.Kids.{known, Maybe, may_piece, may_there, Kids4, must, may}
use Rattle.scribe.proofs.Spelt.{literal_kind, name_kind, next_of, name_spelt, null_spelt, star_spelt, name_star_kids, name_star_spelt, literal_spelt, expr_range, column_range, sort_is, source_is, join_is, join_detail, join_worded, parens_one, parens_some, piece_there, table_kids_lem, table_spelt, null_test_kids, collate_kids, column_kids, sort_kids}
use Rattle.scribe.proofs.Clauses.{code_at, may_gone, may_here, clause_gone, clause_here}
use Rattle.scribe.proofs.Leading.{backs, null_test_led, collate_led, column_led, sort_led}
use Rattle.scribe.proofs.Parts.{Coded, Term, is_term, Leaf, Part, leads_of, node_toks, leaf_toks, coded_toks, alias_toks, schema_toks, titled_toks, index_toks, nulls_toks, way_toks, join_toks, source_of, opens}
use Rattle.writer.specs.declared.lent.Pages.{Pages}
use Rattle.writer.specs.declared.spelling.Pen.{Pen}
use Rattle.writer.specs.Pages.{nodes_of, Field, Bared, Taken, Wrote, Writ, Closes}
use Rattle.writer.proofs.Pens.{◌after◌, wrote_as, writ_at, trailed}
use Rattle.writer.proofs.Leaves.{code_at_lem, code_of, detail_of, children_of, backs_most}

-- ── numbers of records ──
module _ {C : Class} {pages : Pages} {i r : ℕ} (m : Maybe C (nodes_of pages) i) (F : Field 0 pages i r) where
  pub is_absent : r ≡ 0 → code_at (nodes_of pages) i ≡ node_absent
  is_absent e = sym (code_at_lem F (may_there m).0) ∙ e

  pub is_there : (r ≡ 0 → ⊥) → code_at (nodes_of pages) i ≡ node_absent → ⊥
  is_there h e = h (code_at_lem F (may_there m).0 ∙ e)

-- ── names and literals ──
pub name_string : {c : ℕ} → c ≡ 21 → STRING ≡ name_kind c
unfolding name_kind pick
name_string e = rw e refl

pub name_indexed : {c : ℕ} → c ≡ 22 → INDEXED ≡ name_kind c
unfolding name_kind pick
name_indexed e = rw e refl

pub name_join : {c : ℕ} → c ≡ 23 → JOIN_KW ≡ name_kind c
unfolding name_kind pick
name_join e = rw e refl

pub name_id : {c : ℕ} → (c ≡ 21 → ⊥) → (c ≡ 22 → ⊥) → (c ≡ 23 → ⊥) → ID ≡ name_kind c
unfolding name_kind pick
name_id {c} a b d = rw (ne_eqb c 21 a, ne_eqb c 22 b, ne_eqb c 23 d) refl

pub literal_integer : {c : ℕ} → c ≡ 24 → INTEGER ≡ literal_kind c
unfolding literal_kind pick
literal_integer e = rw e refl

pub literal_float : {c : ℕ} → c ≡ 25 → FLOAT ≡ literal_kind c
unfolding literal_kind pick
literal_float e = rw e refl

pub literal_string : {c : ℕ} → c ≡ 26 → STRING ≡ literal_kind c
unfolding literal_kind pick
literal_string e = rw e refl

pub literal_blob : {c : ℕ} → c ≡ 27 → BLOB ≡ literal_kind c
unfolding literal_kind pick
literal_blob e = rw e refl

pub literal_variable : {c : ℕ} → c ≡ 28 → VARIABLE ≡ literal_kind c
unfolding literal_kind pick
literal_variable e = rw e refl

pub literal_time : {c : ℕ} → (c ≡ 24 → ⊥) → (c ≡ 25 → ⊥) → (c ≡ 26 → ⊥) → (c ≡ 27 → ⊥) → (c ≡ 28 → ⊥) → CTIME_KW ≡ literal_kind c
unfolding literal_kind pick
literal_time {c} a b d e f = rw (ne_eqb c 24 a, ne_eqb c 25 b, ne_eqb c 26 d, ne_eqb c 27 e, ne_eqb c 28 f) refl

pub name_said : {N : List ℕ} {i : ℕ} (w : Whole a_name N i) {c d k : ℕ} → c ≡ w.code → d ≡ w.detail → k ≡ name_kind c → (piece_at w).toks ≡ toktext k d ∷ []
name_said w e h g = (name_spelt w).toks ∙ ap₂ (λ a b. toktext a b ∷ []) (ap name_kind (sym e) ∙ sym g) (sym h)

-- ── codes whose first child stands first ──
pub leads_below : (c : ℕ) → (c ≡ 7 → ⊥) → (c ≡ 14 → ⊥) → c < 39 → false ≡ leads_of c
unfolding leads_of pick
leads_below c a b h = rw (ne_eqb c 7 a, ne_eqb c 14 b, ne_eqb c 39 (λ e. absurd (omega (arith, e, h))), ne_eqb c 40 (λ e. absurd (omega (arith, e, h))), ne_eqb c 41 (λ e. absurd (omega (arith, e, h))), ne_eqb c 42 (λ e. absurd (omega (arith, e, h))), ne_eqb c 43 (λ e. absurd (omega (arith, e, h))), ne_eqb c 44 (λ e. absurd (omega (arith, e, h)))) refl

pub leads_above : (c : ℕ) → 45 ≤ c → false ≡ leads_of c
unfolding leads_of pick
leads_above c h = rw (ne_eqb c 7 (λ e. absurd (omega (arith, e, h))), ne_eqb c 14 (λ e. absurd (omega (arith, e, h))), ne_eqb c 39 (λ e. absurd (omega (arith, e, h))), ne_eqb c 40 (λ e. absurd (omega (arith, e, h))), ne_eqb c 41 (λ e. absurd (omega (arith, e, h))), ne_eqb c 42 (λ e. absurd (omega (arith, e, h))), ne_eqb c 43 (λ e. absurd (omega (arith, e, h))), ne_eqb c 44 (λ e. absurd (omega (arith, e, h)))) refl

pub leads_at : (c : ℕ) → (c ≡ 7) ⊎ (c ≡ 14) → true ≡ leads_of c
unfolding leads_of pick
leads_at c (inl e) = rw e refl
leads_at c (inr e) = rw e refl

pub leads_within : (c : ℕ) → 39 ≤ c → c < 45 → true ≡ leads_of c
unfolding leads_of pick
leads_within c lo hi =
    next_of 39 c lo (λ e. rw e refl)
    (λ h. next_of 40 c h (λ e. rw e refl)
    (λ h. next_of 41 c h (λ e. rw e refl)
    (λ h. next_of 42 c h (λ e. rw e refl)
    (λ h. next_of 43 c h (λ e. rw e refl)
    (λ h. let e : c ≡ 44 = omega (arith, h, hi) in rw e refl)))))

pub leads_last : {c : ℕ} → leads_of c ≡ true → (c ≡ 7 → ⊥) → (c ≡ 14 → ⊥) → (c ≡ 39 → ⊥) → (c ≡ 40 → ⊥) → (c ≡ 41 → ⊥) → (c ≡ 42 → ⊥) → (c ≡ 43 → ⊥) → c ≡ 44
unfolding leads_of pick
leads_last {c} l a b d e f g h = eqb_eq c 44 (sym (rw (ne_eqb c 7 a, ne_eqb c 14 b, ne_eqb c 39 d, ne_eqb c 40 e, ne_eqb c 41 f, ne_eqb c 42 g, ne_eqb c 43 h) refl) ∙ l)

not_led : {c k : ℕ} → leads_of c ≡ false → true ≡ leads_of k → c ≡ k → ⊥
not_led l t e = absurd (0≢1 (sym (t ∙ ap leads_of (sym e) ∙ l)))

-- a class of terms is one of three
pub by_term : (Q : Class → Type 0) → Q an_expr → Q a_column → Q a_sort → (C : Class) → is_term C ≡ true → Q C
by_term Q e c s an_expr p = e
by_term Q e c s a_column p = c
by_term Q e c s a_sort p = s
by_term Q e c s a_query p = absurd (0≢1 p)
by_term Q e c s a_body p = absurd (0≢1 p)
by_term Q e c s a_from p = absurd (0≢1 p)
by_term Q e c s a_source p = absurd (0≢1 p)
by_term Q e c s a_join p = absurd (0≢1 p)
by_term Q e c s a_constraint p = absurd (0≢1 p)
by_term Q e c s a_name p = absurd (0≢1 p)
by_term Q e c s absence p = absurd (0≢1 p)
by_term Q e c s (list_of D) p = absurd (0≢1 p)
by_term Q e c s (any_of D) p = absurd (0≢1 p)
by_term Q e c s empty_list p = absurd (0≢1 p)

-- ── a literal, STAR, name DOT STAR ──
module _ {N : List ℕ} {i : ℕ} where
  pub leaf_null : (t : Leaf N i) → code_at N i ≡ node_null → leaf_toks N i t ≡ tok NULL ∷ []
  leaf_null t e = (null_spelt t.it.whole (sym (known t.it.whole).code ∙ e)).toks

  pub leaf_star : (t : Leaf N i) → code_at N i ≡ node_star → leaf_toks N i t ≡ tok STAR ∷ []
  leaf_star t e = (star_spelt t.it.whole (sym (known t.it.whole).code ∙ e)).toks

  abbrev pub leaf_name : (t : Leaf N i) → code_at N i ≡ node_name_star → Whole a_name N (i - 1)
  leaf_name t e = (name_star_kids t.it.whole (sym (known t.it.whole).code ∙ e)).first

  pub leaf_name_star : (t : Leaf N i) (e : code_at N i ≡ node_name_star) → leaf_toks N i t ≡ (piece_at (leaf_name t e)).toks ++ (tok DOT ∷ tok STAR ∷ [])
  leaf_name_star t e = let q = sym (known t.it.whole).code ∙ e in (name_star_spelt t.it.whole q (name_star_kids t.it.whole q)).toks

  literal_range : (C : Class) → is_term C ≡ true → (w : Whole C N i) → w.code < node_names → leads_of w.code ≡ false → (w.code ≡ node_star → ⊥) → (w.code ≡ node_name_star → ⊥) → 24 ≤ w.code
  literal_range = by_term (λ C. (w : Whole C N i) → w.code < node_names → leads_of w.code ≡ false → (w.code ≡ node_star → ⊥) → (w.code ≡ node_name_star → ⊥) → 24 ≤ w.code)
      (λ w h l a b. (expr_range w).0)
      (λ w h l a b. absurd (let r = column_range w in let q : w.code ≡ 7 = omega (arith, r, a, b) in not_led l (leads_at 7 (inl refl)) q))
      (λ w h l a b. absurd (not_led l (leads_at 14 (inr refl)) (sort_is w)))

  pub leaf_literal : (t : Leaf N i) {c d k : ℕ} → c ≡ code_at N i → d ≡ t.it.whole.detail → k ≡ literal_kind c → (c ≡ node_null → ⊥) → (c ≡ node_star → ⊥) → (c ≡ node_name_star → ⊥) → leaf_toks N i t ≡ toktext k d ∷ []
  leaf_literal t {c} e h g a b n =
      let w = t.it.whole in
      let q : c ≡ t.it.whole.code = e ∙ (known t.it.whole).code in
      let lo = literal_range t.it.class t.it.term t.it.whole t.low t.first (λ z. b (q ∙ z)) (λ z. n (q ∙ z)) in
      let hi = t.low in
      let m : t.it.whole.code ≤ 29 = let x : t.it.whole.code ≡ 30 → ⊥ = λ z. a (q ∙ z) in omega (arith, hi, x) in
      (literal_spelt t.it.whole lo m).toks ∙ ap₂ (λ y z. toktext y z ∷ []) (ap literal_kind (sym q) ∙ sym g) (sym h)

-- ── operators ──
module _ (d : ℕ) where
  pub binary_not_like : 300 ≤ d → binary_toks d ≡ tok NOT ∷ toktext LIKE_KW (d - 300) ∷ []
  unfolding binary_toks pick
  binary_not_like h = rw (le-leb 300 d h) refl

  pub binary_like : d < 300 → 200 ≤ d → binary_toks d ≡ toktext LIKE_KW (d - 200) ∷ []
  unfolding binary_toks pick
  binary_like h g = rw (lt-leb 300 d h, le-leb 200 d g) refl

  pub binary_is_not : d < 300 → d < 200 → d ≡ 137 → binary_toks d ≡ tok IS ∷ tok NOT ∷ []
  unfolding binary_toks pick
  binary_is_not h g e = rw (lt-leb 300 d h, lt-leb 200 d g, eqb-true d 137 e) refl

  pub binary_kind : d < 300 → d < 200 → (d ≡ 137 → ⊥) → binary_toks d ≡ tok d ∷ []
  unfolding binary_toks pick
  binary_kind h g e = rw (lt-leb 300 d h, lt-leb 200 d g, ne_eqb d 137 e) refl

  pub binding_words : 100 ≤ d → 4 ≡ binary_str d
  unfolding binary_str choose
  binding_words h = rw (le-leb 100 d h) refl

  pub binding_kind : d < 100 → strength_of d ≡ binary_str d
  unfolding binary_str choose
  binding_kind h = rw (lt-leb 100 d h) refl

-- past the codes there is no strength
pub str_above : (c d : ℕ) → 45 ≤ c → node_str c d ≡ 0
unfolding node_str pick both
str_above c d h = rw (ne_eqb c 38 (λ e. absurd (omega (arith, e, h))), ne_eqb c 39 (λ e. absurd (omega (arith, e, h))), le-leb 40 c (omega (arith, h)), lt-leb c 43 (omega (arith, h)), ne_eqb c 44 (λ e. absurd (omega (arith, e, h))), le-leb 24 c (omega (arith, h)), lt-leb c 37 (omega (arith, h))) refl

-- ── sort terms ──
pub nulls_first : {s : ℕ} → s ≡ 1 → nulls_toks s ≡ tok NULLS ∷ tok FIRST ∷ []
unfolding choose
nulls_first e = rw e refl

pub nulls_last : {s : ℕ} → s ≡ 2 → nulls_toks s ≡ tok NULLS ∷ tok LAST ∷ []
unfolding choose
nulls_last e = rw e refl

pub nulls_none : {s : ℕ} → (s ≡ 1 → ⊥) → (s ≡ 2 → ⊥) → nulls_toks s ≡ []
unfolding choose
nulls_none {s} a b = rw (ne_eqb s 1 a, ne_eqb s 2 b) refl

-- ── joins ──
join_words_on : (xs ys : List ℕ) → join_words (xs ++ ys) ≡ join_words xs ++ join_words ys
unfolding join_words
join_words_on [] ys = refl
join_words_on (x ∷ xs) ys = ap (λ z. toktext JOIN_KW x ∷ z) (join_words_on xs ys)

-- the words that a word or none is
abbrev worded : Option ℕ → List Tok
worded w = join_words (option_to_list w)

pub join_none : {w : Option ℕ} → w ≡ None → worded w ≡ []
unfolding join_words
join_none e = ap worded e

pub join_some : {w : Option ℕ} {n : ℕ} → w ≡ Some n → worded w ≡ toktext JOIN_KW n ∷ []
unfolding join_words
join_some e = ap worded e

pub join_said : (d : ℕ) → 64 ≤ d → {w : Writing} → w ≡ writing_of (fewest_of (d - 64)) → join_of d ≡ join_words (option_to_list w.first) ++ (join_words (option_to_list w.second) ++ (tok JOIN ∷ []))
join_said d h {w} e =
    let f : Fewest = fewest_of (d - 64) in
    join_worded d h ∙ ap (λ x. join_words x ++ (tok JOIN ∷ [])) (sym (words_in_is f) ∙ ap words_in (sym e))
    ∙ ap (λ z. z ++ (tok JOIN ∷ [])) (join_words_on (option_to_list w.first) (option_to_list w.second)) ∙ append_assoc (join_words (option_to_list w.first)) (join_words (option_to_list w.second)) (tok JOIN ∷ [])

no_join : {N : List ℕ} {i : ℕ} (w : Whole a_source N i) → code_at N i ≡ node_join → ⊥
no_join w e = let c = (known w).code in ⊎_elim (λ q. absurd (omega (arith, q, c, e))) (λ q. absurd (omega (arith, q, c, e))) (source_is w)

module _ {pages : Pages} {i r : ℕ} (F : Field 0 pages i r) where
  part_there : Part (nodes_of pages) i → 0 < i
  part_there (inl w) = (known w).there
  part_there (inr w) = (known w).there

  pub part_source : (p : Part (nodes_of pages) i) → (r ≡ node_join → ⊥) → Whole a_source (nodes_of pages) i
  part_source (inl w) h = w
  part_source (inr w) h = absurd (h (code_of w F ∙ join_is w))

  pub part_join : (p : Part (nodes_of pages) i) → r ≡ node_join → Whole a_join (nodes_of pages) i
  part_join (inl w) e = absurd (no_join w (sym (code_at_lem F (known w).there) ∙ e))
  part_join (inr w) e = w

  pub no_join_toks : (p : Part (nodes_of pages) i) → (r ≡ node_join → ⊥) → join_toks (nodes_of pages) i p ≡ []
  no_join_toks (inl w) h = refl
  no_join_toks (inr w) h = absurd (h (code_of w F ∙ join_is w))

  pub join_toks_lem : (p : Part (nodes_of pages) i) → r ≡ node_join → {d : ℕ} → Field 1 pages i d → Joining d × (join_toks (nodes_of pages) i p ≡ join_of d)
  join_toks_lem (inl w) e G = absurd (no_join w (sym (code_at_lem F (known w).there) ∙ e))
  join_toks_lem (inr w) e G = (subst⁻¹ Joining (detail_of w G) (join_detail w (join_is w)), ap join_of (sym (detail_of w G)))

  pub taken_join : {b : ℕ} → r ≡ node_join → b ≡ backs (nodes_of pages) 1 (i - 1) → Taken pages i b
  unfolding backs
  taken_join {b} e h =
      record {
        most = let m = backs_most (nodes_of pages) 1 (i - 1) in omega (arith, h, m);
        is = λ p. at p;
      }
    where
      at : (p : Part (nodes_of pages) i) → b ≡ source_of (nodes_of pages) i p
      at (inl w) = absurd (no_join w (sym (code_at_lem F (known w).there) ∙ e))
      at (inr w) = h

  pub taken_source : (r ≡ node_join → ⊥) → Taken pages i i
  taken_source h = record { most = omega arith; is = λ p. at p }
    where
      at : (p : Part (nodes_of pages) i) → i ≡ source_of (nodes_of pages) i p
      at (inl w) = refl
      at (inr w) = absurd (h (code_of w F ∙ join_is w))

-- ── a table ──
module _ {N : List ℕ} {i : ℕ} where
  pub schema_none : (m : Maybe a_name N i) → code_at N i ≡ node_absent → schema_toks N i m ≡ []
  unfolding choose
  schema_none m e = ap (λ p. p.toks ++ choose (eqb p.code node_absent) [] (tok DOT ∷ [])) (may_gone refl m e)

  pub schema_some : (m : Maybe a_name N i) → (code_at N i ≡ node_absent → ⊥) → (w : Whole a_name N i) × (schema_toks N i m ≡ (piece_at w).toks ++ (tok DOT ∷ []))
  unfolding choose
  schema_some m h = let k = may_here refl m h in (k.0, ap (λ p. p.toks ++ choose (eqb p.code node_absent) [] (tok DOT ∷ [])) k.1 ∙ ap (λ b. (piece_at k.0).toks ++ choose b [] (tok DOT ∷ [])) (piece_there refl k.0))

  module _ (w : Coded node_table N i) where
    abbrev pub table_kids : Kids4 (may a_name) (must a_name) (may a_name) (may a_name) N (i - 1) w.whole.kids
    table_kids = table_kids_lem w.whole w.is

    pub table_said : coded_toks node_table N i w ≡ titled_toks N i w ++ ((after) (tok AS ∷ []) (may_piece table_kids.third) ++ index_toks N i w)
    table_said =
        (table_spelt w.whole w.is table_kids).toks
        ∙ sym (append_assoc (may_piece table_kids.first).toks (choose (eqb (may_piece table_kids.first).code node_absent) [] (tok DOT ∷ [])) ((piece_at table_kids.second).toks ++ ((after) (tok AS ∷ []) (may_piece table_kids.third) ++ index_toks N i w)))
        ∙ sym (append_assoc ((may_piece table_kids.first).toks ++ choose (eqb (may_piece table_kids.first).code node_absent) [] (tok DOT ∷ [])) (piece_at table_kids.second).toks ((after) (tok AS ∷ []) (may_piece table_kids.third) ++ index_toks N i w))

    pub index_not : {d : ℕ} → d ≡ w.whole.detail → d / 4 ≡ 2 → index_toks N i w ≡ tok NOT ∷ tok INDEXED ∷ []
    unfolding choose
    index_not {d} e h = ap (λ b. choose b (tok NOT ∷ tok INDEXED ∷ []) ((after) (tok INDEXED ∷ tok BY ∷ []) (may_piece table_kids.fourth))) (eqb-true (w.whole.detail / 4) 2 (ap (λ z. z / 4) (sym e) ∙ h))

    index_by : {d : ℕ} → d ≡ w.whole.detail → (d / 4 ≡ 2 → ⊥) → index_toks N i w ≡ (after) (tok INDEXED ∷ tok BY ∷ []) (may_piece table_kids.fourth)
    unfolding choose
    index_by {d} e h = ap (λ b. choose b (tok NOT ∷ tok INDEXED ∷ []) ((after) (tok INDEXED ∷ tok BY ∷ []) (may_piece table_kids.fourth))) (ne_eqb (w.whole.detail / 4) 2 (λ z. h (ap (λ y. y / 4) e ∙ z)))

    pub index_none : {d : ℕ} → d ≡ w.whole.detail → (d / 4 ≡ 2 → ⊥) → code_at N (i - 1) ≡ node_absent → index_toks N i w ≡ []
    index_none e h g = index_by e h ∙ clause_gone refl (tok INDEXED ∷ tok BY ∷ []) table_kids.fourth g

    pub index_some : {d : ℕ} → d ≡ w.whole.detail → (d / 4 ≡ 2 → ⊥) → (code_at N (i - 1) ≡ node_absent → ⊥) → (x : Whole a_name N (i - 1)) × (index_toks N i w ≡ tok INDEXED ∷ tok BY ∷ (piece_at x).toks)
    index_some e h g = let k = clause_here refl (tok INDEXED ∷ tok BY ∷ []) table_kids.fourth g in (k.0, index_by e h ∙ k.1)

-- ── one-member parentheses ──
abbrev pub expr_term : {N : List ℕ} {i : ℕ} → Whole an_expr N i → Term N i
expr_term w = record { class = an_expr; term = refl; whole = w }

abbrev pub BaredTo : Pages → ℕ → ℕ → Type 0
BaredTo pages i r = (r ≤ i) × ((t : Term (nodes_of pages) i) → (v : Term (nodes_of pages) r) × (piece_at t.whole ≡ piece_at v.whole))

module _ {pages : Pages} {i r : ℕ} (b : BaredTo pages i r) {c : ℕ} (F : Field 0 pages r c) where
  pub bare_on : c ≡ node_parens → {n l : ℕ} → Field 2 pages r n → n ≡ 1 → l ≡ r - 1 → BaredTo pages i l
  bare_on e {n} {l} G h k = (
    let m = b.0 in omega (arith, m, k),
    (λ t. let v = b.1 t in
        let p = parens_one v.0.whole (sym (code_of v.0.whole F) ∙ e) (sym (children_of v.0.whole G) ∙ h) in
        subst⁻¹ (λ z. (v : Term (nodes_of pages) z) × (piece_at t.whole ≡ piece_at v.whole)) k (expr_term p.0, v.1 ∙ p.1)),
  )

  pub bare_many : c ≡ node_parens → {n : ℕ} → Field 2 pages r n → (n ≡ 1 → ⊥) → Bared pages i r
  bare_many e G h =
      record {
        most = b.0;
        told = λ t. let v = b.1 t in (v.0, v.1, λ q. let s = parens_some v.0.whole q in let x = children_of v.0.whole G in omega (arith, s, x, h));
      }

  pub bare_other : (c ≡ node_parens → ⊥) → Bared pages i r
  bare_other h = record { most = b.0; told = λ t. let v = b.1 t in (v.0, v.1, λ q. absurd (h (code_of v.0.whole F ∙ q))) }

-- ── LP, so many times ──
pub opens_none : opens 0 [] ≡ []
unfolding opens
opens_none = refl

pub opens_next : (n : ℕ) → opens (n + 1) [] ≡ tok LP ∷ opens n []
unfolding opens
opens_next n = ap (λ z. opens z []) (let e : n + 1 ≡ suc n = omega arith in e)

-- ── where no expression comes after the first child ──
module _ {pages : Pages} {p q : Pen} {i c : ℕ} where
  pub closes_null : {d : ℕ} → c ≡ node_null_test → Field 1 pages i d → Wrote pages p q (tok d ∷ []) → Closes c pages p q i
  closes_null e F s = record { told = λ t l h a b f g. let k = sym h ∙ e in trailed (null_test_led t.whole k (null_test_kids t.whole k)) (wrote_as (ap (λ z. tok z ∷ []) (sym (detail_of t.whole F))) s) }

  pub closes_column : {j : ℕ} → c ≡ node_column → j ≡ i - 1 → Writ alias_toks pages p q j → Closes c pages p q i
  closes_column e h s = record { told = λ t l n a b f g. let k = sym n ∙ e in let x = column_kids t.whole k in trailed (column_led t.whole k x) (writ_at h s x.second) }

  pub closes_sort : {d : ℕ} → c ≡ node_sort → Field 1 pages i d → Wrote pages p q (way_toks d) → Closes c pages p q i
  closes_sort e F s = record { told = λ t l h a b f g. let k = sym h ∙ e in trailed (sort_led t.whole k (sort_kids t.whole k)) (wrote_as (ap way_toks (sym (detail_of t.whole F))) s) }

  pub closes_collate : (c ≡ 40 → ⊥) → (c ≡ 7 → ⊥) → (c ≡ 14 → ⊥) → {j : ℕ} {o : Pen} → j ≡ i - 1 → Writ (node_toks a_name) pages p o j → Wrote pages o q (tok COLLATE ∷ []) → Closes c pages p q i
  closes_collate x y z h s n =
      record {
        told = λ t l e a b f g.
            let k : t.whole.code ≡ 44 = sym e ∙ leads_last (ap leads_of e ∙ l) y z a x f g b in
            let kids = collate_kids t.whole k in
            trailed (collate_led t.whole k kids) (◌after◌ n (writ_at h s kids.second));
      }
