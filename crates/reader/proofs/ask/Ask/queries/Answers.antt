use Rattle.reader.specs.Asked.{queries_in}
use native.Mathlib.Omega.{arith}
use Rattle.reader.proofs.ask.Ask.queries.Goals as goal

pub returns : goal.returns
unfolding queries_in
returns c = omega arith
