use Rattle.writer.specs.Pages.{Wrote}
use Rattle.scribe.proofs.Parts.{opens}
use mathlib.Core.List.{[]}
use Rattle.writer.proofs.spelling.Pen.opened.Given as goal

abbrev pub invariant-loop : goal.invariant-loop
invariant-loop l = Wrote l.pages l.initial.self l.self (opens l.counter [])
