use Rattle.reader.proofs.Steps.{ended, got_in, one_on, passed_on}
use native.Mathlib.Omega.{arith}
use Rattle.reader.proofs.Laying.{laid, goes, halts, capped}
use Rattle.descent.proofs.Walk.{collate_w}
use mathlib.Core.Path.{refl}
use Rattle.reader.proofs.collate.Goals as goal

pub returns-in_default : goal.returns-in_default
unfolding collate_w
returns-in_default c = (passed_on c.name-r.ensures.0 c.in_default.is, λ pre b. halts _ _ c.name-r.ensures.2 c.in_default.is)

pub returns : goal.returns
unfolding collate_w
returns c = (ended c.got.ensures (omega (arith, got_in c.name-r.ensures.0 c.in-Got.is, one_on c.name-r.ensures.1 c.in-Got.is, c.requires, c.emit.ensures.0)), λ pre b. goes _ _ c.name-r.ensures.2 c.in-Got.is (λ rs F. laid c.got.ensures refl (capped _ pre b F c.emit.ensures.1)))
