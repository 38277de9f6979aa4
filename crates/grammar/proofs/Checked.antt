-- 01's table passes the test of the theory, each field by computation, and no line hides another: so every theorem of the theory holds of
-- it. fits: "an operand of strength s" is an expression of strength s or more, for every s. Assumes nothing.
use mathlib.Core.Bool.{true}
use mathlib.Core.List.{[], ◌++◌}
use mathlib.Core.Logic.{◌↔◌}
use mathlib.Core.Path.{◌≡◌, refl}
use Prim.Native.Nat.{ℕ}
use lib.Dec.{leb}
use Rattle.theory.specs.Trees.{Row, Tree, cap_of}
use Rattle.theory.specs.Derives.{Ok}
use Rattle.theory.specs.Table.{pick, both, on_row, mem, lookup, asked, enter_of, cont_of, null_of}
use Rattle.theory.proofs.Machine.{on_bool, on_fed, feed, step, next, run}
use Rattle.theory.proofs.Laws.{Laws}
use Rattle.theory.proofs.Tested.{notb, allb, kinds_of, listed, is_none, hiding, loose_b, follow_b, FollowOf, after_b, firsts_b, items_ok, is_done, least_ok, leaves_ok, Tight, Checked, laws}
use Rattle.theory.proofs.Fits.{fits}
use Rattle.grammar.specs.Classes.{Expr, Command, E, any}
use Rattle.grammar.specs.Rows.{but_column, exprs, select_items, values_items, lines, heads_of, tails_of, optional}
use Rattle.grammar.specs.Follow.{find, coming, follows, witnesses}
use Rattle.grammar.specs.Grammar.{sql, G}

none_hidden : hiding sql.heads ++ hiding sql.tails ≡ []
unfolding sql lines but_column exprs select_items values_items heads_of tails_of pick both allb mem lookup is_none hiding
none_hidden = refl

pub checked : Checked sql (any Command)
unfolding sql lines but_column exprs select_items values_items heads_of tails_of optional find coming follows witnesses pick both notb allb mem lookup asked kinds_of enter_of cont_of cap_of null_of listed loose_b follow_b after_b firsts_b items_ok is_done least_ok leaves_ok on_bool on_row on_fed feed step next run
checked = record { ends = refl; any = refl; leaves = refl; follows_h = refl; follows_t = refl; least_h = refl; least_t = refl }

pub tight : Tight sql
unfolding sql lines but_column exprs select_items values_items heads_of tails_of pick both allb
tight = refl

pub sql_laws : Laws G (FollowOf sql) (any Command)
sql_laws = laws sql (any Command) checked

-- "A left operand has its operator's strength or tighter, a right one is strictly tighter": what it means to ask for a strength
pub operand_fits : (s : ℕ) (r : Row) (x : Tree) → Ok G (E s) r x ↔ (Ok G (any Expr) r x × (leb s r.str ≡ true))
operand_fits s = fits sql tight Expr s
