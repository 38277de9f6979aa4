-- What goes on in a class, by its tails: nothing at other kinds than theirs (no_cont); nothing at all from the classes that one test finds
-- without tails (ends), so that a row of theirs ends where its items do; a tail that asks nothing of its left operand goes on from any
-- (loose_tail). Assumes nothing.
use mathlib.Core.Bool.{true, false, Bool}
use mathlib.Core.List.{List, [], ◌∷◌}
use mathlib.Core.Option.{some, none}
use mathlib.Core.Path.{◌≡◌, refl, sym, ap, ◌∙◌}
use Prim.Native.Nat.{ℕ, min}
use native.Mathlib.Omega.{arith}
use Rattle.theory.specs.Trees.{Nt, Row}
use Rattle.theory.specs.Table.{pick, both, mem, lookup, cont_of}
use Rattle.theory.proofs.Cases.{0≢1, le-leb}
use Rattle.theory.proofs.Tested.{allb, all_mem, not_found, kinds_of, kinds_found, cont_found, cont_some}
use Rattle.grammar.specs.Classes.{Command, Name, Query, FirstLast, StarOrName, Source, Not, SecondName, Semi?, Order?, Way?, Nulls?, Limit?, Offset?, Distinct?, From?, Where?, Group?, Having?, Word2?, Word3?, On?, Dot?, Alias?, Index?, ColRest?, ColDots?, NameRest?, Dots?, Else?, any}
use Rattle.grammar.specs.Rows.{but_column, exprs, select_items, values_items, lines, heads_of, tails_of}
use Rattle.grammar.specs.Grammar.{sql}

pub no_cont : (A : Nt) (q : Row) (m k : ℕ) → mem k (kinds_of A.of (λ q. true) sql.tails) ≡ false → cont_of sql A q m k ≡ none
no_cont A q m k o = not_found (cont_of sql A q m k) (λ r e. 0≢1 (sym o ∙ kinds_found A.of (λ q. true) k r sql.tails (cont_found sql A q m k r e).0 refl))

none_of : List ℕ → Bool
none_of [] = true
none_of (k ∷ ks) = false

-- the classes that have no tail
unfoldable pub plain_classes : List ℕ
plain_classes = Command ∷ Name ∷ Query ∷ FirstLast ∷ StarOrName ∷ Source ∷ Not ∷ SecondName ∷ Semi? ∷ Order? ∷ Way? ∷ Nulls? ∷ Limit? ∷ Offset? ∷ Distinct? ∷ From? ∷ Where? ∷ Group? ∷ Having?
    ∷ Word2? ∷ Word3? ∷ On? ∷ Dot? ∷ Alias? ∷ Index? ∷ ColRest? ∷ ColDots? ∷ NameRest? ∷ Dots? ∷ Else? ∷ []

plain_right : allb (λ C. none_of (kinds_of C (λ q. true) sql.tails)) plain_classes ≡ true
unfolding plain_classes none_of sql lines but_column exprs select_items values_items heads_of tails_of pick both allb mem kinds_of
plain_right = refl

nothing : (ks : List ℕ) → none_of ks ≡ true → ks ≡ []
unfolding none_of
nothing [] e = refl
nothing (k ∷ ks) e = 0≢1 e

pub ends : (C : ℕ) → mem C plain_classes ≡ true → (q : Row) (m k : ℕ) → cont_of sql (any C) q m k ≡ none
unfolding mem
ends C p q m k = no_cont (any C) q m k (ap (mem k) (nothing (kinds_of C (λ q. true) sql.tails) (all_mem (λ C. none_of (kinds_of C (λ q. true) sql.tails)) plain_classes C plain_right p)))

-- a tail of a class that asks nothing of its left operand
pub loose_tail : (C k : ℕ) (r : Row) → lookup C k sql.tails ≡ some r → r.left ≡ 0 → (q : Row) (m : ℕ) → cont_of sql (any C) q m k ≡ some r
loose_tail C k r e z q m = cont_some sql (any C) q m k r e (le-leb 0 r.str (omega arith)) (le-leb r.left q.str (omega (arith, z))) (le-leb r.left (min q.cap m) (omega (arith, z)))
