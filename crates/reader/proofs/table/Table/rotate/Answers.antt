use mathlib.Core.Path.{refl, subst, subst⁻¹}
use Prim.Native.Nat.{ℕ}
use mathlib.Core.List.{◌++◌}
use Rattle.descent.proofs.Fill.{Filled}
use Rattle.reader.proofs.Turning.{rotated, unrotated}
use Rattle.reader.proofs.table.Table.rotate.Goals as goal

pub returns-then-end-self : goal.returns-then-end-self
returns-then-end-self c =
    record {
      kept = refl;
      turns = λ t rs qs b e f.
          record {
            same = f.same;
            filled =
                subst⁻¹ (λ (z : ℕ). Filled t.nodes.now c.reverse-then-end-self-2.new.nodes z c.args.self.now.made (qs ++ rs)) b
                (rotated t.nodes.now c.args.self.now.nodes.now _ _ _ rs qs c.args.base c.args.mid c.args.self.now.made c.reverse.ensures c.reverse-then-end-self.ensures c.reverse-then-end-self-2.ensures e
                (subst (λ (z : ℕ). Filled t.nodes.now c.args.self.now.nodes.now z c.args.self.now.made (rs ++ qs)) b f.filled));
          };
    }

pub returns-else-end-self : goal.returns-else-end-self
returns-else-end-self c = record { kept = refl; turns = λ t rs qs b e f. record { same = f.same; filled = unrotated t.nodes.now c.args.self.now.nodes.now _ rs qs t.made c.args.self.now.made c.if-end-self.false f.filled } }
