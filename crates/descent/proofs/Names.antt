-- A name's tree is one node (name_reads). The walk over names parted by COMMA means what the grammar says (names_ok). Assumes nothing.
use mathlib.Core.List.{List, [], ◌∷◌}
use mathlib.Core.Path.{◌≡◌, refl, sym, ap}
use Prim.Native.Nat.{ℕ, ◌+◌, zero, suc}
use native.Mathlib.Omega.{arith}
use Rattle.theory.specs.Trees.{Tok, nt, Row, Tree, nil, node}
use Rattle.theory.specs.Table.{pick, both, mem, lookup}
use Rattle.theory.specs.Outcome.{got, refused}
use Rattle.kinds.specs.Kinds.{COMMA}
use Rattle.kinds.specs.Classes.{is_name, name_code}
use Rattle.grammar.specs.Classes.{Name, Names?, any}
use Rattle.grammar.specs.RowNames.{row_next_name}
use Rattle.grammar.specs.Rows.{begins, goes, part, but_column, exprs, select_items, values_items, lines, heads_of, tails_of}
use Rattle.grammar.specs.Grammar.{sql}
use Rattle.grammar.specs.Limits.{Around, is_query, below}
use Rattle.grammar.specs.Nodes.{rec}
use Rattle.grammar.specs.Reading.{value}
use Rattle.theory.proofs.Tested.{kinds_of}
use Rattle.descent.proofs.Places.{kind_at, tok_at, from, wrong, calls}
use Rattle.descent.proofs.Walk.{name_rec, name_w, names_w}
use Rattle.descent.proofs.Grown.{recs}
use Rattle.descent.proofs.ClassFacts.{firsts_Names, Names_at_COMMA, Names_may}
use Rattle.descent.proofs.Rules.{value_next_name}
use Rattle.descent.proofs.Means.{Single, Told, Good, Reads, Further, NamesOK}
use Rattle.descent.proofs.Common.{told_map, told_choose, told_done, told_stop, told_spent}
use Rattle.descent.proofs.Sides.{single_count}
use Rattle.descent.proofs.NameRead.{name_row, name_tree, name_got, name_wrong}
use Rattle.descent.proofs.Values.{name_single, recs_name, value_name_tree}
use Rattle.descent.proofs.ListLaw.{ListClass, ListRule, looped, firsts}

module _ (K T : List ℕ) (good : Good K T) where
  pub name_reads : (c : Around) (at : ℕ) → Reads K T c (any Name) at (name_w K T at) (λ y s m rs. Single (value y).nodes × (rs ≡ recs (value y)))
  unfolding name_w
  name_reads c at = told_choose (is_name (kind_at K at)) _ _
      (λ z. told_done (at + 1) 0 0 (name_rec K T at ∷ []) (name_tree K T good at, name_got K T good at c z, (single (tok_at K T at), here (tok_at K T at))))
      (λ z. told_stop (wrong (kind_at K at)) at (name_wrong K T good at c z))
    where
      single : (t : Tok) → Single (value (node name_row nil t nil)).nodes
      single t = rw (value_name_tree t) (name_single t)

      here : (t : Tok) → rec (name_code t.kind) t.text 0 1 ∷ [] ≡ recs (value (node name_row nil t nil))
      here t = rw (value_name_tree t) (sym (recs_name t))

-- ── names parted by COMMA ──
abbrev pub next_name : Row
next_name = part row_next_name (nt (any Name) ∷ [])

names_list : ListClass Names? COMMA next_name
unfolding sql lines but_column exprs select_items values_items heads_of tails_of pick both mem lookup kinds_of is_query
names_list = record { begins = Names_at_COMMA; only = firsts_Names; goes = refl; goes_only = refl; may = Names_may; weak = refl; loose = refl; no_query = refl }

names_rule : ListRule next_name (any Name) (λ v. v)
names_rule = record { items = refl; through = λ l t v. ap (λ z. z.nodes) (value_next_name l t (v ∷ [])) }

abbrev One : Tree → Type 0
One y = Single (value y).nodes

module _ (K T : List ℕ) (good : Good K T) where
  member : (c : Around) (at : ℕ)
      → Told (name_w K T at) (λ a s m rs. (y : Tree) × (calls K T c (any Name) at ≡ got y a (from K T a)) × One y × (rs ≡ recs (value y))) (λ m p. calls K T c (any Name) at ≡ refused m p)
  member c at = told_map (name_w K T at) (name_reads K T good c at) (λ a s m rs p. (p.0, p.1, p.2.0, p.2.1)) (λ m p e. e)

  further_names : (f : ℕ) (c : Around) (at n : ℕ) (x : Tree) (u : Tok) → Further K T Names? next_name c x u at n (names_w K T f at n)
  unfolding names_w
  further_names zero c at n x u = told_spent
  further_names (suc f) c at n x u = looped K T good names_list (λ v. v) names_rule One (λ y p. single_count (value y).nodes p) c at n x u (name_w K T at) (λ b. names_w K T f b (n + 1)) (member c at)
      (λ a z. further_names f c (a + 1) (n + 1) z (tok_at K T a))

  pub names_ok : (f : ℕ) → NamesOK K T f
  unfolding names_w
  names_ok zero at n F is k = told_spent
  names_ok (suc f) at n F is k = told_map _ (firsts K T good names_list (λ v. v) names_rule One (λ y p. single_count (value y).nodes p) (below F.r F.c) at n F is k (name_w K T at) (λ b. names_w K T f b (n + 1)) refl (member (below F.r F.c) at)
      (λ a. further_names f (below F.r F.c) (a + 1) (n + 1) nil (tok_at K T a)))
      (λ a s m rs p. (p.0, p.1, p.2, omega (arith, p.4, p.5), p.3, p.6)) (λ m p e. e)
