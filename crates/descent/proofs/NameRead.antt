-- A name is read where its kind is a name's (name_got), and only there (name_wrong); told_name: the walk over it, before what comes after it.
-- second_in, star_or_name_in: what DOT leads to begins at the same kinds. Assumes nothing.
use mathlib.Core.Bool.{true, false, Bool}
use mathlib.Core.List.{List, [], ◌∷◌}
use mathlib.Core.Option.{some, none, Option}
use mathlib.Core.Path.{◌≡◌, refl, ◌∙◌}
use Prim.Native.Nat.{ℕ, ◌+◌, ◌<◌}
use borrow.Author.Tests.{ne_eqb}
use lib.Dec.{eqb}
use Rattle.theory.specs.Trees.{nt, Row, Tree, nil, node}
use Rattle.theory.specs.Table.{pick, both, on_row, mem, lookup, asked, enter_of}
use Rattle.theory.specs.Outcome.{got, refused}
use Rattle.theory.proofs.Cases.{both_l, both_r}
use Rattle.kinds.specs.Kinds.{STAR}
use Rattle.kinds.specs.Classes.{is_name}
use Rattle.grammar.specs.Classes.{Name, StarOrName, SecondName, Dot?, any}
use Rattle.grammar.specs.RowNames.{row_name, row_second_name}
use Rattle.grammar.specs.Rows.{part, but_column, exprs, select_items, values_items, lines, heads_of, tails_of}
use Rattle.grammar.specs.Grammar.{sql}
use Rattle.grammar.specs.Limits.{Around, is_query}
use Rattle.grammar.specs.Nodes.{Rec}
use Rattle.grammar.specs.Reading.{choose}
use Rattle.descent.proofs.Places.{kind_at, tok_at, from, wrong, calls}
use Rattle.descent.proofs.Walk.{Walked, done, bind, wrong_at, name_rec, name_w}
use Rattle.descent.proofs.SameRow.{eq_nt, eq_item, eq_items, eq_row, eq_found, same_found, below?, throughout}
use Rattle.descent.proofs.TableFacts.{BOUND}
use Rattle.descent.proofs.Steps.{call_wrong}
use Rattle.descent.proofs.ClassFacts.{Name_may}
use Rattle.descent.proofs.Means.{Told, Good}
use Rattle.descent.proofs.Common.{told_stop}
use Rattle.descent.proofs.NoTails.{plain_classes}
use Rattle.descent.proofs.PlainClasses.{begin, whole}

abbrev pub name_row : Row
name_row = part row_name []

abbrev pub second_row : Row
second_row = part row_second_name (nt (any Dot?) ∷ [])

-- at a name's kind this row, else none
unfoldable pub at_name : Row → ℕ → Option Row
at_name r k = pick (is_name k) (some r) (λ w. none)

name_test : ℕ → Bool
name_test k = both (eq_found (enter_of sql (any Name) k) (at_name name_row k)) (both (eq_found (enter_of sql (any SecondName) k) (at_name second_row k))
    (pick (eqb k STAR) true (λ w. eq_found (enter_of sql (any StarOrName) k) (at_name second_row k))))

names_right : below? BOUND name_test ≡ true
unfolding name_test at_name below? eq_found eq_row eq_items eq_item eq_nt is_name sql lines but_column exprs select_items values_items heads_of tails_of pick both mem lookup asked on_row enter_of
names_right = refl

pub name_in : (k : ℕ) → k < BOUND → enter_of sql (any Name) k ≡ at_name name_row k
unfolding name_test
name_in k h = same_found _ _ (both_l _ _ (throughout BOUND name_test names_right k h))

pub second_in : (k : ℕ) → k < BOUND → enter_of sql (any SecondName) k ≡ at_name second_row k
unfolding name_test
second_in k h = same_found _ _ (both_l _ _ (both_r _ _ (throughout BOUND name_test names_right k h)))

pub star_or_name_in : (k : ℕ) → k < BOUND → (k ≡ STAR → ⊥) → enter_of sql (any StarOrName) k ≡ at_name second_row k
unfolding name_test pick
star_or_name_in k h o = same_found _ _ (rw (ne_eqb k STAR o) at (both_r (eq_found (enter_of sql (any SecondName) k) (at_name second_row k)) _ (both_r _ _ (throughout BOUND name_test names_right k h))))

-- a walk that begins with a test
pub told_first : {P : ℕ → ℕ → ℕ → List Rec → Type 0} {Q : ℕ → ℕ → Type 0} (b : Bool) (v w : Walked) (k : ℕ → ℕ → ℕ → List Rec → Walked)
    → (b ≡ true → Told (bind v k) P Q) → (b ≡ false → Told (bind w k) P Q) → Told (bind (choose b v w) k) P Q
unfolding choose
told_first true v w k x y = x refl
told_first false v w k x y = y refl

module _ (K T : List ℕ) (good : Good K T) where
  abbrev pub name_tree : ℕ → Tree
  name_tree n = node name_row nil (tok_at K T n) nil

  pub name_got : (n : ℕ) (c : Around) → is_name (kind_at K n) ≡ true → calls K T c (any Name) n ≡ got (name_tree n) (n + 1) (from K T (n + 1))
  unfolding at_name plain_classes mem pick is_query
  name_got n c z = let e : enter_of sql (any Name) (kind_at K n) ≡ some name_row = name_in (kind_at K n) (good.bound n) ∙ rw z in
      begin K T good c Name name_row n e refl refl ∙ whole K T good c Name name_row n nil (n + 1) refl

  pub name_wrong : (n : ℕ) (c : Around) → is_name (kind_at K n) ≡ false → calls K T c (any Name) n ≡ refused (wrong (kind_at K n)) n
  unfolding at_name pick
  name_wrong n c z = let e : enter_of sql (any Name) (kind_at K n) ≡ none = name_in (kind_at K n) (good.bound n) ∙ rw z in
      call_wrong K T good.sound c (any Name) n e Name_may

  -- the walk over a name, and what it is handed to
  pub told_name : {P : ℕ → ℕ → ℕ → List Rec → Type 0} {Q : ℕ → ℕ → Type 0} (n : ℕ) (k : ℕ → ℕ → ℕ → List Rec → Walked)
      → (is_name (kind_at K n) ≡ true → Told (k (n + 1) 0 0 (name_rec K T n ∷ [])) P Q) → (is_name (kind_at K n) ≡ false → Q (wrong (kind_at K n)) n)
      → Told (bind (name_w K T n) k) P Q
  unfolding name_w bind
  told_name n k x y = told_first (is_name (kind_at K n)) (done (n + 1) 0 0 (name_rec K T n ∷ [])) (wrong_at K T n) k x (λ z. told_stop (wrong (kind_at K n)) n (y z))
