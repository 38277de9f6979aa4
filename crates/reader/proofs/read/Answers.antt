use Rattle.grammar.specs.Promise.{refusal_1, refusal_2}
use Rattle.theory.proofs.Cases.{0≢1}
use mathlib.Core.Path.{refl, sym, ◌∙◌}
use native.Mathlib.Omega.{arith}
use Rattle.reader.proofs.read.Goals as goal
use Rattle.reader.proofs.read.Goals.{then-kinds-texts-via-then-kinds-texts, then-kinds-texts-via-else-kinds-texts+then-kinds-gt-TOKENS}

pub returns-then-kinds-texts : goal.returns-then-kinds-texts
returns-then-kinds-texts c = (refusal_1 (elim c.then-kinds-texts.branch [ then-kinds-texts-via-then-kinds-texts w ↦ (λ l. w.if-kinds-texts.true l.equal) | then-kinds-texts-via-else-kinds-texts+then-kinds-gt-TOKENS w ↦ (λ l. omega (arith, l.short, w.if-kinds-gt-TOKENS.true)) ]) refl refl refl, omega arith, omega arith)

pub returns-then-not-all_fit : goal.returns-then-not-all_fit
returns-then-not-all_fit c = (refusal_2 (record { equal = c.if-kinds-texts.false; short = c.if-kinds-gt-TOKENS.false }) (c.unfit.ensures.1 (λ u. 0≢1 (sym c.if-not-all_fit.true ∙ c.all_fit.ensures.2 u))) refl refl, omega (arith, c.unfit.ensures.0), omega arith)

pub start-requires : goal.start-requires
start-requires c = (record { equal = c.if-kinds-texts.false; short = c.if-kinds-gt-TOKENS.false }, c.all_fit.ensures.0 c.if-not-all_fit.false, c.all_fit.ensures.1 c.if-not-all_fit.false, c.strengths-strengths.ensures)
