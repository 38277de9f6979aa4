use Prim.Native.Nat.{◌-◌, ◌≤◌, ◌+◌}
use Rattle.reader.proofs.Steps.{ended, refused}
use Rattle.reader.proofs.Tables.{united_small}
use Rattle.reader.specs.Bounds.{kinds_of, texts_of}
use native.Mathlib.Omega.{arith}
use Rattle.reader.proofs.Laying.{laid, halted, took, left, by_walk, misfit, is, isn't}
use Rattle.reader.proofs.KindTests.{join_wrong, join_full, join_word_lem, join_there}
use Rattle.reader.proofs.Laying.{none_came}
use Rattle.descent.proofs.Walk.{join_w, joined_w}
use Rattle.words.specs.Flags.{flags_of, united}
use mathlib.Core.Path.{refl, sym, ap, ◌∙◌}
use Rattle.reader.proofs.joined.Goals as goal

pub returns-then-first-eq-COMMA : goal.returns-then-first-eq-COMMA
unfolding joined_w
returns-then-first-eq-COMMA c = (ended c.got.ensures (omega arith), λ t. took _ _ _ (is c.requires.1 c.if-first-eq-COMMA.true) (laid c.got.ensures refl none_came))

pub loop-kind-init : goal.loop-kind-init
unfolding joined_w
loop-kind-init c = (omega arith, 3, omega arith, refl)

pub returns-then-kind-ne-JOIN_KW : goal.returns-then-kind-ne-JOIN_KW
unfolding joined_w
returns-then-kind-ne-JOIN_KW c = (refused c.wrong.ensures.0 (omega arith), λ t. left _ _ _ (isn't c.requires.1 c.if-first-eq-COMMA.false) (by_walk (c.loop-kind.invariant.3 ∙ join_wrong _ _ c.loop-kind.invariant.1 _ _ (isn't c.peek-kind.ensures c.if-kind-eq-JOIN.false) (isn't c.peek-kind.ensures c.if-kind-ne-JOIN_KW.true)) (misfit c.peek-kind.ensures c.wrong.ensures.1)))

pub returns-then-words-eq3 : goal.returns-then-words-eq3
unfolding joined_w
returns-then-words-eq3 c = (refused c.wrong-then-words-eq3.ensures.0 (omega arith), λ t. left _ _ _ (isn't c.requires.1 c.if-first-eq-COMMA.false) (by_walk (c.loop-kind.invariant.3 ∙ join_full _ _ c.loop-kind.invariant.1 _ _ (omega (arith, c.loop-kind.invariant.2, c.if-words-eq3.true)) (isn't c.peek-kind.ensures c.if-kind-eq-JOIN.false)) (misfit c.peek-kind.ensures c.wrong-then-words-eq3.ensures.1)))

pub loop-kind-preserved : goal.loop-kind-preserved
unfolding joined_w
loop-kind-preserved c = let u : c.united-flags.result ≤ 63 = rw (c.united-flags.ensures, c.flags.ensures) (united_small _ _ c.loop-kind.invariant.0.2) in (omega arith, c.loop-kind.invariant.1 - 1, omega (arith, c.loop-kind.invariant.2, c.loop-kind.invariant.0, c.if-words-eq3.false), c.loop-kind.invariant.3 ∙ join_word_lem (kinds_of c.args.lists.now) (texts_of c.args.lists.now) c.loop-kind.invariant.1 c.loop-kind.at c.loop-kind.flags (omega (arith, c.loop-kind.invariant.2, c.loop-kind.invariant.0, c.if-words-eq3.false)) (isn't c.peek-kind.ensures c.if-kind-eq-JOIN.false) (is c.peek-kind.ensures c.if-kind-ne-JOIN_KW.false) ∙ ap (λ z. join_w (kinds_of c.args.lists.now) (texts_of c.args.lists.now) (c.loop-kind.invariant.1 - 1) (c.loop-kind.at + 1) z) (sym (c.united-flags.ensures ∙ ap (united c.loop-kind.flags) (c.flags.ensures ∙ ap flags_of c.text.ensures))))

pub returns-then-not-legal : goal.returns-then-not-legal
unfolding joined_w
returns-then-not-legal c = (record { holds = omega arith }, λ t. left _ _ _ (isn't c.requires.1 c.if-first-eq-COMMA.false) (by_walk (c.loop-kind.invariant.3 ∙ join_there _ _ c.loop-kind.invariant.1 _ _ (is c.peek-kind.ensures c.if-kind-eq-JOIN.true)) (left _ _ _ (sym c.legal.ensures ∙ c.if-not-legal.true) (halted refl refl))))

pub returns : goal.returns
unfolding joined_w
returns c = (ended c.got-2.ensures (omega arith), λ t. left _ _ _ (isn't c.requires.1 c.if-first-eq-COMMA.false) (by_walk (c.loop-kind.invariant.3 ∙ join_there _ _ c.loop-kind.invariant.1 _ _ (is c.peek-kind.ensures c.if-kind-eq-JOIN.true)) (took _ _ _ (sym c.legal.ensures ∙ c.if-not-legal.false) (laid c.got-2.ensures refl none_came))))
