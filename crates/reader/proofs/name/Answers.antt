use Prim.Native.Nat.{◌<◌}
use Rattle.reader.proofs.Steps.{ended, one_on_got, one_on_refused, refused}
use Rattle.reader.proofs.Tables.{name_is}
use mathlib.Core.Path.{◌∙◌, refl, sym}
use native.Mathlib.Omega.{arith}
use Rattle.reader.proofs.Laying.{laid, took, left, misfit, by_kind}
use Rattle.descent.proofs.Walk.{name_w}
use Rattle.kinds.specs.Classes.{is_name}
use Rattle.reader.proofs.name.Goals as goal

pub returns-then-not-is_name : goal.returns-then-not-is_name
unfolding name_w
returns-then-not-is_name c = (refused c.wrong.ensures.0 (omega arith), one_on_refused c.wrong.ensures.0, left _ _ _ (by_kind is_name c.peek-kind.ensures (sym c.is_name.ensures ∙ c.if-not-is_name.true)) (misfit c.peek-kind.ensures c.wrong.ensures.1))

pub named-requires : goal.named-requires
named-requires c = let k : 0 < c.peek-kind.result = name_is _ (sym c.is_name.ensures ∙ c.if-not-is_name.false) in omega arith

pub returns : goal.returns
unfolding name_w
returns c = let k : 0 < c.peek-kind.result = name_is _ (sym c.is_name.ensures ∙ c.if-not-is_name.false) in (ended c.got.ensures (omega arith), one_on_got c.got.ensures refl, took _ _ _ (by_kind is_name c.peek-kind.ensures (sym c.is_name.ensures ∙ c.if-not-is_name.false)) (laid c.got.ensures refl (c.named.ensures.1 c.peek-kind.ensures.is)))
