use Rattle.reader.proofs.Steps.{ended, got_in, passed_on}
use mathlib.Core.Path.{refl}
use native.Mathlib.Omega.{arith}
use Rattle.reader.proofs.Laying.{laid, goes, halts, topped}
use Rattle.reader.proofs.Laying.{◌then◌}
use Rattle.descent.proofs.Walk.{table_w}
use Rattle.reader.proofs.source_table.Goals as goal

pub returns-in_default : goal.returns-in_default
unfolding table_w
returns-in_default c = (passed_on c.qualified-t.ensures.0 c.in_default.is, halts _ _ c.qualified-t.ensures.1 c.in_default.is)

pub returns-in_default-a : goal.returns-in_default-a
unfolding table_w
returns-in_default-a c = (passed_on c.alias-a.ensures.0 c.in_default-a.is, goes _ _ c.qualified-t.ensures.1 c.in-Got.is (λ rs F. halts _ _ c.alias-a.ensures.1 c.in_default-a.is))

pub returns-in_default-x : goal.returns-in_default-x
unfolding table_w
returns-in_default-x c = (passed_on c.index-x.ensures.0 c.in_default-x.is, goes _ _ c.qualified-t.ensures.1 c.in-Got.is (λ rs F. goes _ _ c.alias-a.ensures.1 c.in-Got-a.is (λ qs G. halts _ _ c.index-x.ensures.1 c.in_default-x.is)))

pub returns : goal.returns
unfolding table_w
returns c = (ended c.got.ensures (omega (arith, got_in c.index-x.ensures.0 c.in-Got-x.is, got_in c.alias-a.ensures.0 c.in-Got-a.is, got_in c.qualified-t.ensures.0 c.in-Got.is, c.requires, c.emit.ensures.0)), goes _ _ c.qualified-t.ensures.1 c.in-Got.is (λ rs F. goes _ _ c.alias-a.ensures.1 c.in-Got-a.is (λ qs G. goes _ _ c.index-x.ensures.1 c.in-Got-x.is (λ ps H. laid c.got.ensures refl (topped (F then G then H) c.emit.ensures.1)))))
