use Rattle.reader.proofs.Steps.{got_in, passed_on, refused}
use native.Mathlib.Omega.{arith}
use Rattle.reader.proofs.Laying.{laid, took, left, goes, halts, misfit, so, is, isn't}
use Rattle.descent.proofs.Walk.{command_w}
use Rattle.grammar.specs.Limits.{outer}
use mathlib.Core.Path.{refl}
use Rattle.reader.proofs.command.Goals as goal

pub returns-in_default : goal.returns-in_default
unfolding command_w
returns-in_default c = (passed_on c.query-q.ensures.0 c.in_default.is, so (c.query-q.ensures.1.does outer c.outermost.ensures.0) (λ f h. halts _ _ h c.in_default.is))

pub returns-then-kind-eq0 : goal.returns-then-kind-eq0
unfolding command_w
returns-then-kind-eq0 c = (record { holds = got_in c.query-q.ensures.0 c.in-Got.is }, so (c.query-q.ensures.1.does outer c.outermost.ensures.0) (λ f h. goes _ _ h c.in-Got.is (λ rs F. took _ _ _ (is c.peek-kind.ensures c.if-kind-eq0.true) (laid refl refl F))))

pub returns-then-kind-ne-SEMI : goal.returns-then-kind-ne-SEMI
unfolding command_w
returns-then-kind-ne-SEMI c = (refused c.wrong.ensures.0 (omega (arith, got_in c.query-q.ensures.0 c.in-Got.is, c.requires, c.if-kind-ne-SEMI.true, c.if-kind-eq0.false, c.peek-kind.ensures)), so (c.query-q.ensures.1.does outer c.outermost.ensures.0) (λ f h. goes _ _ h c.in-Got.is (λ rs F. left _ _ _ (isn't c.peek-kind.ensures c.if-kind-eq0.false) (left _ _ _ (isn't c.peek-kind.ensures c.if-kind-ne-SEMI.true) (misfit c.peek-kind.ensures c.wrong.ensures.1)))))

pub returns-then-next-ne0 : goal.returns-then-next-ne0
unfolding command_w
returns-then-next-ne0 c = (refused c.wrong-then-next-ne0.ensures.0 (omega (arith, got_in c.query-q.ensures.0 c.in-Got.is, c.requires, c.if-next-ne0.true, c.peek-next.ensures, c.if-kind-ne-SEMI.false, c.if-kind-eq0.false, c.peek-kind.ensures)), so (c.query-q.ensures.1.does outer c.outermost.ensures.0) (λ f h. goes _ _ h c.in-Got.is (λ rs F. left _ _ _ (isn't c.peek-kind.ensures c.if-kind-eq0.false) (took _ _ _ (is c.peek-kind.ensures c.if-kind-ne-SEMI.false) (left _ _ _ (isn't c.peek-next.ensures c.if-next-ne0.true) (misfit c.peek-next.ensures c.wrong-then-next-ne0.ensures.1))))))

pub returns : goal.returns
unfolding command_w
returns c = (record { holds = got_in c.query-q.ensures.0 c.in-Got.is }, so (c.query-q.ensures.1.does outer c.outermost.ensures.0) (λ f h. goes _ _ h c.in-Got.is (λ rs F. left _ _ _ (isn't c.peek-kind.ensures c.if-kind-eq0.false) (took _ _ _ (is c.peek-kind.ensures c.if-kind-ne-SEMI.false) (took _ _ _ (is c.peek-next.ensures c.if-next-ne0.false) (laid refl refl F))))))
