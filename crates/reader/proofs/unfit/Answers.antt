use Rattle.reader.proofs.Fitness.{FitAt, all_below, first_unfit}
use borrow.Author.Count.{below_more, below_none}
use mathlib.Core.Path.{sym, ◌∙◌}
use native.Mathlib.Omega.{arith}
use Rattle.reader.proofs.unfit.Goals as goal

pub loop-i-init : goal.loop-i-init
loop-i-init c = below_none (FitAt c.args.kinds.now c.args.texts.now)

pub returns-then-not-fit : goal.returns-then-not-fit
returns-then-not-fit c = (omega arith, λ n. first_unfit c.args.kinds.now c.args.texts.now c.loop-i.i (omega arith) (omega arith) c.loop-i.invariant (sym c.fit.ensures ∙ c.if-not-fit.true))

pub loop-i-preserved : goal.loop-i-preserved
loop-i-preserved c = below_more (FitAt c.args.kinds.now c.args.texts.now) c.loop-i.i c.loop-i.invariant (sym c.fit.ensures ∙ c.if-not-fit.false)

pub returns : goal.returns
returns c = (omega arith, λ n. absurd (n (all_below c.args.kinds.now c.args.texts.now (λ j l. c.loop-i.invariant j (omega arith)))))
