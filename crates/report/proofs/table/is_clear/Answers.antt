-- `report::table::is_clear` meets its contract: where all numbers united have no bit, none has one.
-- Assumes nothing.
use Rattle.std.proofs.Common.{rules, bit_or, ◌∙◌, sym}
use Rattle.std.proofs.lemmas.Bool.{eqb-true}
use Rattle.std.proofs.lemmas.Iterator.{YieldsList-from_slice}
use Rattle.std.proofs.lemmas.Iterator.Consumers.{fold_from_yields_List}
use Rattle.report.proofs.TableSteps.{united_clear}
use Rattle.report.proofs.table.is_clear.Goals as goal

pub returns : goal.returns
returns c =
    λ e.
    let united = fold_from_yields_List _ bit_or _ _ c.fold.ensures.ran (YieldsList-from_slice c.args.nodes.now cc) (λ a x b q k. search rules) in
    let clear = united_clear 0 c.args.nodes.now (sym united ∙ eqb-true _ _ e) in clear.1
