use Prim.Native.Nat.{◌+◌}
use Rattle.reader.proofs.Steps.{further, got_in, one_on, passed_on, refused}
use Rattle.reader.specs.Bounds.{got_of}
use lib.ListN.{length}
use mathlib.Core.Path.{refl}
use native.Mathlib.Omega.{arith}
use Rattle.reader.proofs.Laying.{laid, took, left, goes, halts, by_walk, misfit, behind, next, at_once, whenever, so, loop_start, is, isn't, bind_onto}
use Rattle.descent.proofs.Walk.{names_w, using_w}
use Rattle.reader.proofs.using.Goals as goal

pub returns-then-lp-ne-LP : goal.returns-then-lp-ne-LP
unfolding using_w names_w
returns-then-lp-ne-LP c = (refused c.wrong.ensures.0 (omega arith), whenever (λ f. left _ _ _ (isn't c.peek-lp.ensures c.if-lp-ne-LP.true) (misfit c.peek-lp.ensures c.wrong.ensures.1)))

pub loop-d-init : goal.loop-d-init
unfolding using_w names_w
loop-d-init c = (omega arith, loop_start)

pub returns-in_default : goal.returns-in_default
unfolding using_w names_w
returns-in_default c = (passed_on c.name-r.ensures.0 c.in_default.is, so (c.loop-d.invariant.1.on _ c.args.table.now (at_once (λ f. halts _ _ c.name-r.ensures.2 c.in_default.is))) (λ f h. took _ _ _ (is c.peek-lp.ensures c.if-lp-ne-LP.false) (halts _ _ h c.in_default.is)))

pub loop-d-preserved : goal.loop-d-preserved
unfolding using_w names_w
loop-d-preserved c = (omega (arith, got_in c.name-r.ensures.0 c.in-Got.is, one_on c.name-r.ensures.1 c.in-Got.is, c.requires, c.if-kind-ne-COMMA.false, c.peek-kind.ensures, c.loop-d.invariant, c.if-lp-ne-LP.false, c.peek-lp.ensures), record { on = λ r N' l. c.loop-d.invariant.1.on r N' (next l (λ f h. goes _ _ c.name-r.ensures.2 c.in-Got.is (λ rs F. took _ _ _ (is c.peek-kind.ensures c.if-kind-ne-COMMA.false) (behind _ _ F h)))) })

pub returns : goal.returns
unfolding using_w names_w
returns c = (further c.close.ensures.0 (omega (arith, got_in c.name-r.ensures.0 c.in-Got.is, one_on c.name-r.ensures.1 c.in-Got.is, c.requires, c.if-kind-ne-COMMA.true, c.peek-kind.ensures, c.loop-d.invariant, c.if-lp-ne-LP.false, c.peek-lp.ensures)), so (c.loop-d.invariant.1.on (got_of 0 (c.loop-d.n + 1) _) _ (at_once (λ f. goes _ _ c.name-r.ensures.2 c.in-Got.is (λ rs F. left _ _ _ (isn't c.peek-kind.ensures c.if-kind-ne-COMMA.true) (laid refl refl F))))) (λ f h. took _ _ _ (is c.peek-lp.ensures c.if-lp-ne-LP.false) (goes _ _ h refl (λ rs F. by_walk (bind_onto rs _) (behind _ _ F (c.close.ensures.1 (length rs) F.filled.counted))))))
