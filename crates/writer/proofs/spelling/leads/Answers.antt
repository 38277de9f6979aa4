use Rattle.writer.proofs.Said.{leads_below, leads_above, leads_at, leads_within}
use mathlib.Core.Logic.{inl, inr}
use native.Mathlib.Omega.{arith}
use Rattle.writer.proofs.spelling.leads.Goals as goal

pub returns-in_default : goal.returns-in_default
returns-in_default c = leads_below _ (λ e. c.in_default.in_default-own.rest.1 (inl e)) (λ e. c.in_default.in_default-own.rest.1 (inr e)) (omega arith)

pub returns-in_default-2 : goal.returns-in_default-2
returns-in_default-2 c = leads_above _ (omega arith)

pub returns-in-7 : goal.returns-in-7
returns-in-7 c = leads_at _ c.in-7.in-7-own.keys1

pub returns-in-7-2 : goal.returns-in-7-2
returns-in-7-2 c = leads_within _ (omega arith) (omega arith)
