-- An optional alias in FROM is read as the grammar says (alias_w). Assumes nothing.
use mathlib.Core.Bool.{true, false}
use mathlib.Core.List.{List, [], ◌∷◌}
use mathlib.Core.Option.{some}
use mathlib.Core.Path.{◌≡◌, refl, ap, ◌∙◌}
use Prim.Native.Nat.{ℕ, ◌+◌}
use lib.Dec.{eqb}
use Rattle.theory.specs.Trees.{nt, Row, nil, add, node}
use Rattle.theory.specs.Table.{pick, both, on_row, mem, lookup, asked, enter_of}
use Rattle.theory.proofs.Cases.{eqb_eq}
use Rattle.theory.proofs.Tested.{allb, kinds_of}
use Rattle.kinds.specs.Kinds.{ID, KWID, STRING, AS}
use Rattle.kinds.specs.Classes.{is_bare_alias}
use Rattle.grammar.specs.Classes.{Name, Alias?, any}
use Rattle.grammar.specs.RowNames.{row_source_as, row_source_bare}
use Rattle.grammar.specs.Rows.{part, but_column, exprs, select_items, values_items, lines, heads_of, tails_of}
use Rattle.grammar.specs.Grammar.{sql}
use Rattle.grammar.specs.Limits.{Around, is_query, below}
use Rattle.grammar.specs.Nodes.{count, records}
use Rattle.grammar.specs.Reading.{empty, side, says, opt, name, rules, ruled, value_of, value, values}
use Rattle.descent.proofs.Places.{kind_at, tok_at}
use Rattle.descent.proofs.Walk.{Walked, missing, name_rec, name_w, alias_w}
use Rattle.descent.proofs.Grown.{recs}
use Rattle.descent.proofs.SameRow.{eq_nt, eq_item, eq_items, eq_row, eq_found}
use Rattle.descent.proofs.ClassFacts.{firsts_Alias, Alias_at_AS, Alias_may}
use Rattle.descent.proofs.Means.{Single, Good, Reads}
use Rattle.descent.proofs.Common.{told_bind, told_choose, told_done}
use Rattle.descent.proofs.NoTails.{plain_classes}
use Rattle.descent.proofs.PlainClasses.{enters, among_mem, begin, whole, absent, one_item}
use Rattle.descent.proofs.Values.{name_single}
use Rattle.descent.proofs.NodeRecords.{there, not_there, side_one}
use Rattle.descent.proofs.Names.{name_reads}

abbrev as_row : Row
as_row = part row_source_as (nt (any Name) ∷ [])

abbrev bare_row : Row
bare_row = part row_source_bare []

bare_kinds : allb (λ k. eq_found (enter_of sql (any Alias?) k) (some bare_row)) (ID ∷ KWID ∷ STRING ∷ []) ≡ true
unfolding sql lines but_column exprs select_items values_items heads_of tails_of pick both allb mem lookup asked enter_of on_row eq_found eq_row eq_items eq_item eq_nt
bare_kinds = refl

bare_in : (k : ℕ) → is_bare_alias k ≡ true → enter_of sql (any Alias?) k ≡ some bare_row
unfolding is_bare_alias
bare_in k e = enters Alias? bare_row (ID ∷ KWID ∷ STRING ∷ []) bare_kinds k (among_mem k (ID ∷ KWID ∷ STRING ∷ []) ∙ e)

bare_out : (k : ℕ) → eqb k AS ≡ false → is_bare_alias k ≡ false → mem k (kinds_of Alias? (λ r. true) sql.heads) ≡ false
unfolding is_bare_alias mem pick
bare_out k a e = ap (mem k) firsts_Alias ∙ rw a (among_mem k (ID ∷ KWID ∷ STRING ∷ []) ∙ e)

-- an optional part: what it says, and its node
abbrev pub Optional : List ℕ → List ℕ → ℕ → Around → ℕ → Walked → Type 0
Optional K T C c at w = Reads K T c (any C) at w (λ y says m rs. (says ≡ (value y).num) × Single (opt (value y)).nodes × (rs ≡ recs (opt (value y))))

module _ (K T : List ℕ) (good : Good K T) where
  pub alias_ok : (at : ℕ) (c : Around) → Optional K T Alias? c at (alias_w K T at)
  unfolding alias_w is_query below pick plain_classes mem value values value_of ruled rules records count side
  alias_ok at c = told_choose (eqb (kind_at K at) AS) _ _
      (λ z. told_bind (name_w K T (at + 1)) _
      (one_item K T good c Alias? as_row (any Name) at _ _ refl (ap (enter_of sql (any Alias?)) (eqb_eq (kind_at K at) AS z) ∙ Alias_at_AS) refl refl refl (name_reads K T good c (at + 1)))
      (λ a s n rs p. let t = there (value (node as_row nil (tok_at K T at) (add nil p.0))) (value p.0) (side_one (value p.0)) p.2.0 in
      told_done a 1 0 rs (node as_row nil (tok_at K T at) (add nil p.0), p.1, (refl, t.0, p.2.1 ∙ t.1)))
      (λ m p q. q))
      (λ z. told_choose (is_bare_alias (kind_at K at)) _ _
      (λ y. let t = there (value (node bare_row nil (tok_at K T at) nil)) (name (tok_at K T at)) refl (name_single (tok_at K T at)) in told_done (at + 1) 2 0 (name_rec K T at ∷ []) (
        node bare_row nil (tok_at K T at) nil,
        begin K T good c Alias? bare_row at (bare_in (kind_at K at) y) refl refl ∙ whole K T good c Alias? bare_row at nil (at + 1) refl,
        (refl, t.0, t.1),
      ))
      (λ y. let t = not_there empty refl in told_done at 0 0 (missing ∷ []) (nil, absent K T good c Alias? at (bare_out (kind_at K at) z y) Alias_may, (refl, t.0, t.1))))
