use Rattle.reader.proofs.Steps.{ended, got_in, one_on, passed_on}
use native.Mathlib.Omega.{arith}
use Rattle.reader.proofs.Laying.{laid, took, left, goes, halts, is, isn't}
use Rattle.reader.proofs.Laying.{◌then◌}
use Rattle.descent.proofs.Walk.{dots_w}
use mathlib.Core.Path.{refl}
use Rattle.reader.proofs.dots.Goals as goal

pub returns-in_default : goal.returns-in_default
unfolding dots_w
returns-in_default c = (passed_on c.name-r.ensures.0 c.in_default.is, halts _ _ c.name-r.ensures.2 c.in_default.is)

pub returns-then-next-ne-DOT : goal.returns-then-next-ne-DOT
unfolding dots_w
returns-then-next-ne-DOT c = (ended c.got.ensures (omega (arith, got_in c.name-r.ensures.0 c.in-Got.is, one_on c.name-r.ensures.1 c.in-Got.is, c.requires, c.emit.ensures.0, c.if-next-ne-DOT.true, c.peek-next.ensures)), goes _ _ c.name-r.ensures.2 c.in-Got.is (λ rs F. left _ _ _ (isn't c.peek-next.ensures c.if-next-ne-DOT.true) (laid c.got.ensures refl (F then c.emit.ensures.1))))

pub returns-in_default-q : goal.returns-in_default-q
unfolding dots_w
returns-in_default-q c = (passed_on c.name-q.ensures.0 c.in_default-q.is, goes _ _ c.name-r.ensures.2 c.in-Got.is (λ rs F. took _ _ _ (is c.peek-next.ensures c.if-next-ne-DOT.false) (halts _ _ c.name-q.ensures.2 c.in_default-q.is)))

pub returns : goal.returns
unfolding dots_w
returns c = (ended c.got-2.ensures (omega (arith, got_in c.name-q.ensures.0 c.in-Got-q.is, one_on c.name-q.ensures.1 c.in-Got-q.is, got_in c.name-r.ensures.0 c.in-Got.is, one_on c.name-r.ensures.1 c.in-Got.is, c.requires, c.emit-2.ensures.0, c.if-next-ne-DOT.false, c.peek-next.ensures)), goes _ _ c.name-r.ensures.2 c.in-Got.is (λ rs F. took _ _ _ (is c.peek-next.ensures c.if-next-ne-DOT.false) (goes _ _ c.name-q.ensures.2 c.in-Got-q.is (λ qs G. laid c.got-2.ensures refl (F then G then c.emit-2.ensures.1)))))
