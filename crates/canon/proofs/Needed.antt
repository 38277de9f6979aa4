-- levels_needed: demand 3 does not hold without its clause on levels. A command at level 64 is accepted, and its writing, which is no longer
-- than a list that may be lent, is not, for it stands at level 65. Assumes nothing.
use mathlib.Core.List.{List}
use mathlib.Core.Path.{refl, sym, subst}
use Prim.Native.Nat.{ℕ, ◌≤◌, ◌*◌}
use borrow.Author.Tests.{leb-false}
use lib.Dec.{leb}
use lib.ListN.{length, replicate, length-replicate}
use native.Mathlib.Omega.{arith}
use Rattle.theory.specs.Trees.{Tree}
use Rattle.theory.proofs.Cases.{by_bool, leb_le}
use Rattle.grammar.specs.Sizes.{TOKENS, WIDTH}
use Rattle.grammar.specs.Promise.{Accepted, records_of, writing_of, kinds_of, texts_of}
use Rattle.grammar.specs.Samples.{times}
use Rattle.grammar.specs.Examples.{deepest, deeper_still, depths}
use Rattle.grammar.proofs.SamplesHold.{PLACES}
use Rattle.grammar.proofs.ExamplesHold.{depths_hold}
use Rattle.canon.specs.Promise.{Canonical}
use Rattle.canon.proofs.Calls.{read_accepts}

-- `read` says 5, where it would say 0 or 9 of what is accepted
not_accepted : (x : Tree) → ¬ Accepted (kinds_of deeper_still) (texts_of deeper_still) x
unfolding depths
not_accepted x a =
    let N : List ℕ = replicate PLACES 0 in
    let r = depths_hold.1.0.0 N (length-replicate {A = ℕ} PLACES 0) in
    let n = WIDTH * length (records_of x) in
    by_bool (leb n (length N))
    (λ e. let z = (read_accepts a).roomy r (leb_le n (length N) e) in omega (arith, z.0))
    (λ e. let z = (read_accepts a).tight r (leb-false n (length N) e) in omega (arith, z.0))

pub levels_needed : (x : Tree) × Accepted (kinds_of deepest) (texts_of deepest) x × (length (writing_of x) ≤ TOKENS) × (¬ Canonical x)
unfolding depths times
levels_needed =
    let t = depths_hold.0.2 refl in (
      t.tree,
      t.accepted,
      subst (λ ts. length ts ≤ TOKENS) (sym t.writing) (leb_le (length deeper_still) TOKENS refl),
      λ c. not_accepted c.written.tree (subst (λ ts. Accepted (kinds_of ts) (texts_of ts) c.written.tree) t.writing c.accepted),
    )
