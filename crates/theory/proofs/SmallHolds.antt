-- The example passes the table's test, so each theorem of the theory holds of it, in a line; and examples by computation.
-- Assumes nothing.
use mathlib.Core.Bool.{true}
use mathlib.Core.List.{List, [], ◌∷◌, ◌++◌}
use mathlib.Core.Logic.{◌↔◌}
use mathlib.Core.Path.{◌≡◌, refl}
use Prim.Native.Nat.{ℕ}
use lib.Dec.{leb}
use lib.ListN.{length}
use Rattle.theory.specs.Trees.{Tok, lit, nt, Row, Tree, nil, add, leaf, node, toks, cap_of}
use Rattle.theory.specs.Derives.{Ok, Derives}
use Rattle.theory.specs.Table.{pick, both, on_row, mem, lookup, asked, enter_of, cont_of, null_of, gram}
use Rattle.theory.specs.Judged.{faults_of}
use Rattle.theory.specs.Outcome.{Ans, refused, Outcome}
use Rattle.theory.specs.Small.{expr, any, row, comma_row, rows_row, exprs, heads, tails, follows, tok, small, Cx, count, first_row, under, begun, judge, start}
use Rattle.theory.proofs.Machine.{on_bool, on_fed, feed, step, next, run}
use Rattle.theory.proofs.Laws.{Laws}
use Rattle.theory.proofs.Tested.{notb, allb, kinds_of, listed, is_none, culprits, hiding, loose_b, follow_b, FollowOf, after_b, firsts_b, items_ok, is_done, least_ok, leaves_ok, Tight, Checked, laws}
use Rattle.theory.proofs.Fits.{fits}
use Rattle.theory.proofs.Right.{tree, on_end, on_next, scan, parse, unambiguous}
use Rattle.theory.proofs.Descend.{check, sum, fault}
use Rattle.theory.proofs.Lists.{Lists, lines_of, lists}
use Rattle.theory.proofs.Scan.{on_next_a, on_end_a, fault_of, scan_a, parse_a, local_refusal}
use Rattle.theory.proofs.Outcomes.{outcome, one_outcome}

-- no line hides another; and the lines in conflict, which a refusal prints
none_hidden : hiding heads ++ hiding tails ≡ []
unfolding heads tails exprs pick both allb mem lookup is_none hiding
none_hidden = refl

no_culprits : culprits (λ l. allb (λ C. items_ok small C l.row l.row.items) l.of) (heads ++ tails) ≡ []
unfolding small heads tails exprs follows pick both allb mem lookup kinds_of null_of listed loose_b follow_b after_b firsts_b items_ok culprits on_bool on_row
no_culprits = refl

pub small_checked : Checked small (any 20)
unfolding small heads tails exprs follows pick both notb allb mem lookup asked kinds_of enter_of cont_of cap_of null_of listed loose_b follow_b after_b firsts_b items_ok is_done least_ok leaves_ok on_bool on_row on_fed feed step next run
small_checked = record { ends = refl; any = refl; leaves = refl; follows_h = refl; follows_t = refl; least_h = refl; least_t = refl }

pub small_tight : Tight small
unfolding small tails exprs pick both allb
small_tight = refl

pub small_laws : Laws (gram small) (FollowOf small) (any 20)
small_laws = laws small (any 20) small_checked

abbrev pub answer : List Tok → Ans
answer = parse_a (gram small) Cx under (judge 64) start (any 20)

abbrev pub Means : List Tok → Ans → Type 0
Means = Outcome Cx under (judge 64) (gram small) start (any 20)

-- an answer, if and only if it is what the grammar and the judge on finished trees allow; and they allow one
pub small_outcome : (ts : List Tok) (a : Ans) → (answer ts ≡ a) ↔ Means ts a
small_outcome = outcome Cx under (judge 64) (gram small) start (any 20) (FollowOf small) small_laws

pub small_one_outcome : (ts : List Tok) (a b : Ans) → Means ts a → Means ts b → a ≡ b
small_one_outcome = one_outcome Cx under (judge 64) (gram small) start (any 20) (FollowOf small) small_laws

pub small_unambiguous : (ts : List Tok) (x y : Tree) → Derives (gram small) (any 20) ts x → Derives (gram small) (any 20) ts y → x ≡ y
small_unambiguous = unambiguous (gram small) (any 20) (FollowOf small) small_laws

-- a refusal before the end rests on the tokens up to its place
pub small_local : (us : List Tok) (u : Tok) (vs ws : List Tok) (m : ℕ) → answer (us ++ (u ∷ vs)) ≡ refused m (length us) → answer (us ++ (u ∷ ws)) ≡ refused m (length us)
small_local = local_refusal (gram small) Cx under (judge 64) start (any 20)

-- where an expression of strength s is asked, there stands one of strength s or more
pub small_fits : (s : ℕ) (r : Row) (x : Tree) → Ok (gram small) (expr s) r x ↔ (Ok (gram small) (expr 0) r x × (leb s r.str ≡ true))
small_fits s = fits small small_tight 1 s

-- { , expr } and { , row } are lists
small_list_21 : Lists (gram small) (any 21)
unfolding small heads tails exprs pick both mem allb lines_of
small_list_21 = lists small 21 (record { same = refl; loose = refl })

small_list_25 : Lists (gram small) (any 25)
unfolding small heads tails exprs pick both mem allb lines_of
small_list_25 = lists small 25 (record { same = refl; loose = refl })

-- ── examples ──
-- VALUES ( a ) , ( b , c ): refused with 7 at the last )
ex_rows : answer (tok 70 ∷ tok 12 ∷ tok 1 ∷ tok 13 ∷ tok 14 ∷ tok 12 ∷ tok 1 ∷ tok 14 ∷ tok 1 ∷ tok 13 ∷ []) ≡ refused 7 9
unfolding small heads tails exprs pick both mem lookup asked enter_of cont_of null_of cap_of on_bool on_row on_fed feed step next scan_a on_next_a on_end_a check sum fault fault_of under judge begun count first_row
ex_rows = refl

-- - NOT b: refused with 3 at NOT
ex_not : answer (tok 52 ∷ tok 19 ∷ tok 36 ∷ tok 2 ∷ []) ≡ refused 3 2
unfolding small heads tails exprs pick both mem lookup asked enter_of cont_of null_of cap_of on_bool on_row on_fed feed step next scan_a on_next_a on_end_a check sum fault fault_of under judge begun count first_row
ex_not = refl

-- a + NOT b = c is a + (NOT (b = c)): NOT stands where it is asked for 8, and what ends in it leaves 3, so = goes on in it
abbrev not_row : Row
not_row = record { code = 38; str = 9; left = 9; cap = 3; items = nt (expr 3) ∷ [] }

abbrev called : ℕ → Tree
called k = node (row 20 12 []) nil (tok k) nil

right : Tree
right = node (row 1 0 (nt (expr 1) ∷ nt (any 21) ∷ nt (any 22) ∷ [])) nil (tok 52) (add (add (add nil
    (node (row 39 7 (nt (expr 8) ∷ [])) (called 1) (tok 18) (add nil (node not_row nil (tok 36) (add nil
    (node (record { code = 39; str = 4; left = 4; cap = 3; items = nt (expr 5) ∷ [] }) (called 2) (tok 28) (add nil (called 1)))))))) nil) nil)

ex_right : parse (gram small) (any 20) (tok 52 ∷ tok 1 ∷ tok 18 ∷ tok 36 ∷ tok 2 ∷ tok 28 ∷ tok 1 ∷ []) ≡ tree (add nil right)
unfolding right small heads tails exprs pick both mem lookup asked enter_of cont_of null_of cap_of on_bool on_row on_fed feed step next scan on_next on_end
ex_right = refl

-- a = b = c: refused with 3 at the second =, which does not repeat
ex_twice : answer (tok 52 ∷ tok 1 ∷ tok 28 ∷ tok 1 ∷ tok 28 ∷ tok 1 ∷ []) ≡ refused 3 4
unfolding small heads tails exprs pick both mem lookup asked enter_of cont_of null_of cap_of on_bool on_row on_fed feed step next scan_a on_next_a on_end_a check sum fault fault_of under judge begun count first_row
ex_twice = refl

-- ( a: not finished
ex_end : answer (tok 52 ∷ tok 12 ∷ tok 1 ∷ []) ≡ refused 4 3
unfolding small heads tails exprs pick both mem lookup asked enter_of cont_of null_of cap_of on_bool on_row on_fed feed step next scan_a on_next_a on_end_a check sum fault fault_of under judge begun count first_row
ex_end = refl

-- with a limit of 2: - - - a begins level 3 at the third -
ex_deep : parse_a (gram small) Cx under (judge 2) start (any 20) (tok 52 ∷ tok 19 ∷ tok 19 ∷ tok 19 ∷ tok 1 ∷ []) ≡ refused 5 3
unfolding small heads tails exprs pick both mem lookup asked enter_of cont_of null_of cap_of on_bool on_row on_fed feed step next scan_a on_next_a on_end_a check sum fault fault_of under judge begun count first_row
ex_deep = refl

-- the tree of VALUES ( a ) , ( b , c ), and the judge's words on its ten tokens
abbrev name : Tree
name = node (row 20 12 []) nil (tok 1) nil

abbrev one_row : Tree → Tree
one_row xs = node (row 4 0 (nt (expr 1) ∷ nt (any 21) ∷ lit 13 ∷ [])) nil (tok 12) (add (add (add nil name) xs) (leaf (tok 13)))

values : Tree
values = node (row 2 0 (nt (any 24) ∷ nt (any 25) ∷ [])) nil (tok 70)
    (add (add nil (one_row nil)) (node rows_row nil (tok 14) (add nil (one_row (node comma_row nil (tok 14) (add nil name))))))

ex_words : faults_of Cx under (judge 64) start values ≡ 0 ∷ 0 ∷ 0 ∷ 0 ∷ 0 ∷ 0 ∷ 0 ∷ 0 ∷ 0 ∷ 7 ∷ []
unfolding values faults_of pick both under judge begun count first_row
ex_words = refl

ex_tree : parse (gram small) (any 20) (toks values) ≡ tree (add nil values)
unfolding values toks small heads tails exprs pick both mem lookup asked enter_of cont_of null_of cap_of on_bool on_row on_fed feed step next scan on_next on_end
ex_tree = refl
