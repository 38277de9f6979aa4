-- `reading::of_line` meets its contract: what it lends are the first numbers, and those of the table come back.
-- Assumes nothing.
use Prim.Native.Nat.{ℕ, min}
use mathlib.Core.Path.{◌≡◌, sym, ap, ◌∙◌}
use lib.ListN.{length}
use Rattle.reading.proofs.Passed.{read_as}
use Rattle.reading.proofs.Parts.{front, new_front, beyond}
use borrow.Author.Rules.{rules}
use Rattle.reading.proofs.of_line.Goals as goal

pub returns : goal.returns
returns c =
    let n : c.within-n.result ≡ min _ (length c.args.nodes.now) = c.within-n.ensures.value ∙ ap (λ (k : ℕ). min k (length c.args.nodes.now)) c.table.ensures in
    let same : length c.read.new.nodes ≡ c.within-n.result = search rules in
    record {
      read = read_as (sym (front _ _ _ c.within-k.ensures.value)) (sym (front _ _ _ c.within-t.ensures.value)) (sym (front _ _ _ n)) (new_front _ _ _ n _ same) c.read.ensures;
      beyond = beyond _ _ _ n c.read.new.nodes same;
    }
