-- A row that the table has for a class and a kind stands on one of its lines (by_line), and no other line hides it (Finds). Assumes nothing.
use mathlib.Core.Bool.{true, false, Bool}
use mathlib.Core.List.{List, [], ◌∷◌, ◌++◌}
use mathlib.Core.Option.{some, none, Option}
use mathlib.Core.Path.{◌≡◌, refl}
use Prim.Native.Nat.{ℕ}
use lib.Dec.{eqb}
use native.Mathlib.Omega.{arith}
use Rattle.theory.specs.Trees.{Row}
use Rattle.theory.specs.Table.{Line, pick, both, mem, lookup}
use Rattle.theory.proofs.Cases.{by_bool, pick_inv, 0≢1, none≢some, both_l, both_r, both_i, eqb_eq}
use Rattle.theory.proofs.Tested.{allb, Kinds, is_none, hiding}
use Rattle.grammar.specs.Rows.{but_column, exprs, select_items, values_items, lines, heads_of, tails_of}
use Rattle.grammar.specs.Grammar.{sql}

abbrev pub AllLines : (Line → Type 0) → List Line → Type 0
AllLines Q [] = Unit {0}
AllLines Q (e ∷ es) = Q e × AllLines Q es

abbrev pub Finds : Line → List Line → Type 0
Finds e es = (C k : ℕ) → mem C e.of ≡ true → mem k e.at ≡ true → lookup C k es ≡ some e.row

pub all_in : (p : ℕ → Bool) (l : List ℕ) (k : ℕ) → allb p l ≡ true → mem k l ≡ true → p k ≡ true
unfolding mem allb
all_in p [] k a m = 0≢1 m
all_in p (c ∷ l) k a m = pick_inv (eqb k c) true _ true m
    (λ h x. rw (eqb_eq k c h) (both_l (p c) (allb p l) a))
    (λ h x. all_in p l k (both_r (p c) (allb p l) a) x)

finds_here : (e : Line) (es : List Line) → Finds e (e ∷ es)
unfolding lookup pick
finds_here e es C k m n = rw (both_i (mem C e.of) (mem k e.at) m n)

none_some : (o : Option Row) (r : Row) → is_none o ≡ true → o ≡ some r → ⊥
unfolding is_none
none_some none r e h = none≢some h
none_some (some q) r e h = 0≢1 e

finds_later : (e f : Line) (es : List Line) → Kinds (λ C k r. is_none (lookup C k es)) f ≡ true → Finds e es → Finds e (f ∷ es)
unfolding lookup pick
finds_later e f es h g C k m n = by_bool (both (mem C f.of) (mem k f.at))
    (λ b. absurd (none_some (lookup C k es) e.row
    (all_in (λ k. is_none (lookup C k es)) f.at k (all_in (λ C. allb (λ k. is_none (lookup C k es)) f.at) f.of C h (both_l (mem C f.of) (mem k f.at) b)) (both_r (mem C f.of) (mem k f.at) b)) (g C k m n)))
    (λ b. rw b (g C k m n))

hides_none : (b : Bool) (e : Line) (l : List Line) → pick b [] (λ w. e ∷ []) ++ l ≡ [] → (b ≡ true) × (l ≡ [])
unfolding pick
hides_none true e l h = (refl, h)
hides_none false e l h = absurd (let z : ◌≡◌ {A = ℕ} 0 1 = cc in omega arith)

pub by_line : (Q : Line → Type 0) (es : List Line) → hiding es ≡ [] → AllLines Q es → (C k : ℕ) (r : Row) → lookup C k es ≡ some r
    → (e : Line) × Q e × (mem C e.of ≡ true) × (mem k e.at ≡ true) × (e.row ≡ r) × Finds e es
unfolding lookup hiding
by_line Q [] h all C k r l = none≢some l
by_line Q (e ∷ es) h all C k r l =
    let n = hides_none (Kinds (λ C k r. is_none (lookup C k es)) e) e (hiding es) h in
    pick_inv (both (mem C e.of) (mem k e.at)) (some e.row) _ (some r) l
    (λ b x. (e, all.0, both_l (mem C e.of) (mem k e.at) b, both_r (mem C e.of) (mem k e.at) b, cc, finds_here e es))
    (λ b x. let f = by_line Q es n.1 all.1 C k r x in (f.0, f.1, f.2, f.3, f.4, finds_later f.0 e es n.0 f.5))

pub heads_apart : hiding sql.heads ≡ []
unfolding sql lines but_column exprs select_items values_items heads_of tails_of pick both allb mem lookup is_none hiding
heads_apart = refl

pub tails_apart : hiding sql.tails ≡ []
unfolding sql lines but_column exprs select_items values_items heads_of tails_of pick both allb mem lookup is_none hiding
tails_apart = refl
