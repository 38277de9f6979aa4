-- `report::table::digest` meets its contract: its fold is the digest.
-- Assumes nothing.
use Rattle.std.proofs.Common.{rules, ◌∙◌, take}
use Rattle.std.proofs.lemmas.Iterator.{YieldsList-from_slice, YieldsList-from_take}
use Rattle.std.proofs.lemmas.Iterator.Consumers.{fold_from_yields_List, YieldsList-at}
use Rattle.report.specs.Digests.{mixed_of}
use Rattle.report.proofs.DigestSteps.{digest_folds}
use Rattle.report.proofs.table.digest.Goals as goal

pub returns : goal.returns
returns c =
    fold_from_yields_List _ mixed_of _ _ c.fold.ensures.ran
    (YieldsList-from_take c.args.count (YieldsList-at c.take.ensures.source (YieldsList-from_slice c.args.nodes.now cc)) c.take.ensures.count) (λ a x b q k. search rules)
    ∙ digest_folds c.args.before (take c.args.count c.args.nodes.now)
