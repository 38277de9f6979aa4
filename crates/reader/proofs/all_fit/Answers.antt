use Rattle.reader.proofs.TwoLists.{likes_few, or_none}
use Rattle.reader.proofs.Fitness.{FitAt, more, all_below, fit_at, none_or}
use Rattle.kinds.specs.Fit.{fits}
use borrow.Author.Tests.{eq-eqb, eqb-true}
use mathlib.Core.Path.{◌≡◌, refl, sym, ap₂, subst, ◌∙◌}
use Prim.Native.Nat.{ℕ, ◌≤◌}
use lib.ListN.{length, get_or}
use native.Mathlib.Omega.{arith}
use Rattle.std.proofs.lemmas.Slice.Zip.{zip_turn, zip_end}
use Rattle.reader.proofs.all_fit.Goals as goal

pub loop-kind-init : goal.loop-kind-init
loop-kind-init c = (λ z j l. absurd (omega arith), λ z j l. absurd (omega arith), λ a. refl)

pub loop-kind-preserved : goal.loop-kind-preserved
loop-kind-preserved c =
    let t = zip_turn c.args.kinds.now c.args.texts.now c.loop-kind.yielded _ c.loop-kind.kind-iterator c.next.new.self c.next.result (rw (c.into_iter-kind-iterator.ensures.into_iter_gives, c.zip-kind-items.ensures.first, c.iter.ensures.rest) refl) (rw c.into_iter-kind-iterator.ensures.into_iter_gives c.zip-kind-items.ensures.second.0) c.loop-kind.yielded_by (c.in-Some.kind, c.in-Some.text) c.in-Some.is c.next.ensures.steps in (
      λ z. more (λ j. get_or c.args.kinds.now j 0 ≡ 40 → get_or c.args.texts.now j 0 ≤ 3) _ _ (c.loop-kind.invariant.0 (or_none c.loop-kind.bad c.odd-bad.result z).0)
          (λ e. subst (λ (v : ℕ). v ≤ 3) (t.3 0) (c.odd-bad.ensures.0 (or_none c.loop-kind.bad c.odd-bad.result z).1 (t.2 0 ∙ e))),
      λ z. more (FitAt c.args.kinds.now c.args.texts.now) _ _ (c.loop-kind.invariant.1 (or_none c.loop-kind.bad c.odd-bad.result z).0)
          (sym (ap₂ fits (t.2 0) (t.3 0)) ∙ c.odd-bad.ensures.2 (or_none c.loop-kind.bad c.odd-bad.result z).1),
      λ a. none_or c.loop-kind.bad c.odd-bad.result (c.loop-kind.invariant.2 a)
          (c.odd-bad.ensures.1 (ap₂ fits (t.2 0) (t.3 0) ∙ fit_at c.args.kinds.now c.args.texts.now (length c.loop-kind.yielded) c.requires a t.0)),
    )

pub returns : goal.returns
returns c =
    let n = zip_end c.args.kinds.now c.args.texts.now c.loop-kind.yielded _ c.loop-kind.kind-iterator c.next.new.self c.next.result (rw (c.into_iter-kind-iterator.ensures.into_iter_gives, c.zip-kind-items.ensures.first, c.iter.ensures.rest) refl) (rw c.into_iter-kind-iterator.ensures.into_iter_gives c.zip-kind-items.ensures.second.0) c.loop-kind.yielded_by c.in-None.is c.next.ensures.steps in (
      λ e. likes_few c.args.kinds.now c.args.texts.now (λ i l. c.loop-kind.invariant.0 (eqb-true _ _ e) i (omega (arith, n, l))),
      λ e. all_below c.args.kinds.now c.args.texts.now (λ i l. c.loop-kind.invariant.1 (eqb-true _ _ e) i (omega (arith, n, l))),
      λ a. eq-eqb _ _ (c.loop-kind.invariant.2 a),
    )
