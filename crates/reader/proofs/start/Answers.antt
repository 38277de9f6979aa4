use mathlib.Core.List.{List}
use mathlib.Core.Path.{refl, sym, subst⁻¹}
use Prim.Native.Nat.{ℕ}
use Rattle.grammar.specs.Promise.{Reads}
use Rattle.reader.proofs.Answering.{refused_so, refused_some, without_room, accepted_so, within_first, few_refused, few_got}
use native.Mathlib.Omega.{arith}
use Rattle.reader.proofs.start.Goals as goal

pub returns-then-need-nodes : goal.returns-then-need-nodes
returns-then-need-nodes c = (without_room c.requires.0 c.requires.2 c.command-first.ensures.1 c.in-Got.is refl refl (omega arith), few_got (within_first refl c.command-first.ensures.0) c.in-Got.is refl, omega arith)

pub returns-in-Refused : goal.returns-in-Refused
returns-in-Refused c = (refused_so c.requires.0 c.requires.2 c.command-first.ensures.1 c.in-Refused.is, few_refused (within_first refl c.command-first.ensures.0) c.in-Refused.is, refused_some c.requires.0 c.requires.2 c.command-first.ensures.1 c.in-Refused.is)

pub returns-else-need-nodes : goal.returns-else-need-nodes
returns-else-need-nodes c =
    let b = accepted_so c.requires.0 c.requires.2 c.command-first.ensures.1 c.in-Got.is refl c.command.ensures.1 refl refl refl (omega arith) in
    (subst⁻¹ (λ (z : List ℕ). Reads c.args.kinds.now c.args.texts.now c.args.nodes.now 0 c.command-first.new.table.made z) (c.nodes-1.given.1.1 (sym b.0)) b.1, few_got (within_first refl c.command-first.ensures.0) c.in-Got.is refl, tt)
