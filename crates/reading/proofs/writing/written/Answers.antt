-- `reading::writing::written` meets its contract: what it lends are the first numbers, and those of the table and of the output come back.
-- Assumes nothing.
use Rattle.std.proofs.Common.{rules, ℕ, min, ◌≡◌, sym, ap, ◌∙◌, length}
use Rattle.reading.proofs.Passed.{writes_as}
use Rattle.reading.proofs.Parts.{front, new_front, beyond}
use Rattle.reading.proofs.writing.written.Goals as goal

pub returns : goal.returns
returns c =
    let n : c.within-n.result ≡ min _ (length c.args.nodes.now) = c.within-n.ensures.value ∙ ap (λ (k : ℕ). min k (length c.args.nodes.now)) c.table.ensures in
    let a : c.within-a.result ≡ min _ (length c.args.out_kinds.now) = c.within-a.ensures.value ∙ ap (λ (k : ℕ). min k (length c.args.out_kinds.now)) c.out_kinds.ensures in
    let b : c.within-b.result ≡ min _ (length c.args.out_texts.now) = c.within-b.ensures.value ∙ ap (λ (k : ℕ). min k (length c.args.out_texts.now)) c.out_texts.ensures in
    let table : length c.write-got.new.nodes ≡ c.within-n.result = search rules in
    let kinds : length c.write-got.new.out_kinds ≡ c.within-a.result = search rules in
    let texts : length c.write-got.new.out_texts ≡ c.within-b.result = search rules in
    record {
      got = c.write-got.result;
      writes =
          writes_as (sym (front _ _ _ c.within-k.ensures.value)) (sym (front _ _ _ c.within-t.ensures.value))
          (sym (front _ _ _ n)) (sym (front _ _ _ a)) (sym (front _ _ _ b))
          (new_front _ _ _ n _ table) (new_front _ _ _ a _ kinds) (new_front _ _ _ b _ texts) c.write-got.ensures.0;
      plain = c.write-got.ensures.1;
      table_beyond = beyond _ _ _ n c.write-got.new.nodes table;
      kinds_beyond = beyond _ _ _ a c.write-got.new.out_kinds kinds;
      texts_beyond = beyond _ _ _ b c.write-got.new.out_texts texts;
      left = c.left.ensures;
    }
