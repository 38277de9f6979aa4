use Rattle.reader.proofs.Steps.{ended, got_in, passed_on, refused}
use native.Mathlib.Omega.{arith}
use Rattle.reader.proofs.Laying.{laid, took, left, goes, halts, misfit, capped, is, isn't}
use Rattle.reader.proofs.Laying.{◌then◌}
use Rattle.descent.proofs.Walk.{lent_w}
use mathlib.Core.Path.{refl}
use Rattle.reader.proofs.lent.Goals as goal

pub returns-then-rp-ne-RP : goal.returns-then-rp-ne-RP
unfolding lent_w
returns-then-rp-ne-RP c = (refused c.wrong.ensures.0 (omega arith), λ t rs b F. left _ _ _ (isn't c.peek-rp.ensures c.if-rp-ne-RP.true) (misfit c.peek-rp.ensures c.wrong.ensures.1))

pub returns-in_default : goal.returns-in_default
unfolding lent_w
returns-in_default c = (passed_on c.alias-a.ensures.0 c.in_default.is, λ t rs b F. took _ _ _ (is c.peek-rp.ensures c.if-rp-ne-RP.false) (halts _ _ c.alias-a.ensures.1 c.in_default.is))

pub returns : goal.returns
unfolding lent_w
returns c = (ended c.got.ensures (omega (arith, got_in c.alias-a.ensures.0 c.in-Got.is, c.requires, c.emit.ensures.0, c.if-rp-ne-RP.false, c.peek-rp.ensures)), λ t rs b F. took _ _ _ (is c.peek-rp.ensures c.if-rp-ne-RP.false) (goes _ _ c.alias-a.ensures.1 c.in-Got.is (λ qs G. laid c.got.ensures refl (capped _ 0 (omega (arith, b)) (F then G) c.emit.ensures.1))))
