use Rattle.reader.proofs.Steps.{ended, further}
use mathlib.Core.Logic.{inl, inr}
use native.Mathlib.Omega.{arith}
use Rattle.reader.proofs.Laying.{laid, left, by_walk, is, isn't, by_kind, two_ways}
use Rattle.reader.proofs.KindTests.{bare_in, bare_out}
use Rattle.descent.proofs.Walk.{alias_w}
use Rattle.kinds.specs.Classes.{is_bare_alias}
use Rattle.kinds.specs.Kinds.{AS}
use Rattle.reader.specs.Laying.{absences}
use mathlib.Core.Path.{refl, sym, ap}
use lib.Dec.{eqb}
use Rattle.reader.proofs.alias.Goals as goal
use Rattle.reader.proofs.alias.Goals.{in-50-1, in_default+else-kind-lt1+then-kind-lt4}

pub returns-in_default : goal.returns-in_default
unfolding alias_w absences
returns-in_default c = (ended c.got.ensures (omega (arith, c.requires, c.absent.ensures.0, c.peek-kind.ensures)), left _ _ _ (isn't c.peek-kind.ensures c.in_default-1.rest.1) (left _ _ _ (by_kind is_bare_alias c.peek-kind.ensures (bare_out _ (λ h. omega (arith, h)))) (laid c.got.ensures refl c.absent.ensures.1)))

pub returns-in-50 : goal.returns-in-50
unfolding alias_w absences
returns-in-50 c = (further c.renamed.ensures.0 (omega arith), by_walk (two_ways _ _ _ _ _ _ (ap (λ z. eqb z AS) (sym c.peek-kind.ensures.is)) (elim c.in-50-1.branch [ in-50-1 w ↦ inl (is c.peek-kind.ensures w.in-50-1.keys1) | in_default+else-kind-lt1+then-kind-lt4 w ↦ inr (by_kind is_bare_alias c.peek-kind.ensures (bare_in _ (omega arith) (omega arith))) ])) (c.renamed.ensures.1 c.peek-kind.ensures))
