-- Values side by side: one node counts as one (single_count) and is there (single_there); the records of one node over a left operand and
-- what comes after it are the left operand's and then those that the walk makes (recs_over). Assumes nothing.
use mathlib.Core.Bool.{false}
use mathlib.Core.List.{List, [], ◌∷◌, ◌++◌, append_assoc}
use mathlib.Core.Path.{◌≡◌, refl, ap, ◌∙◌}
use Prim.Native.Nat.{ℕ, ◌+◌}
use lib.ListN.{length, length-append}
use native.Mathlib.Omega.{arith}
use Rattle.grammar.specs.Nodes.{Nodes, end, mk, count, beside, rec, records}
use Rattle.grammar.specs.Reading.{Val, side, one, is_end}
use Rattle.descent.proofs.Walk.{over}
use Rattle.descent.proofs.Grown.{recs}
use Rattle.descent.proofs.Growing.{side_cons, count_beside, recs_one}
use Rattle.descent.proofs.Means.{Single}

pub single_count : (ns : Nodes) → Single ns → count ns ≡ 1
unfolding count
single_count ns s = rw s.3

pub single_there : (ns : Nodes) → Single ns → is_end ns ≡ false
unfolding is_end
single_there ns s = rw s.3

pub beside_end : (ns : Nodes) → beside ns end ≡ ns
unfolding beside
beside_end end = refl
beside_end (mk c d ks ns) = ap (mk c d ks) (beside_end ns)

-- one node over values whose nodes are ns
pub recs_of : (c d n : ℕ) (vs : List Val) (ns : Nodes) → side vs ≡ ns → count ns ≡ n → recs (one c d vs) ≡ over c d n 0 (records ns)
recs_of c d n vs ns p e = recs_one c d vs ∙ rw (p, e) (ap (λ z. records ns ++ (rec c d n z ∷ [])) (omega arith))

-- one node over a left operand, of `pre` records, and values whose nodes are ns
pub recs_over : (c d n pre : ℕ) (l : Val) (vs : List Val) (ns : Nodes) → Single l.nodes → length (recs l) ≡ pre → side vs ≡ ns → count ns + 1 ≡ n
    → recs (one c d (l ∷ vs)) ≡ recs l ++ over c d n pre (records ns)
unfolding side
recs_over c d n pre l vs ns s p q e = recs_one c d (l ∷ vs) ∙ rw (count_beside l.nodes (side vs), side_cons l vs, q)
    (append_assoc (recs l) (records ns) _ ∙ ap (λ z. recs l ++ (records ns ++ (z ∷ []))) (numbers (count l.nodes + count ns) (length (recs l ++ records ns))
    (omega (arith, single_count l.nodes s, e)) (omega (arith, p, length-append (recs l) (records ns)))))
  where
    numbers : (i j : ℕ) → i ≡ n → j ≡ pre + length (records ns) → rec c d i (j + 1) ≡ rec c d n (pre + length (records ns) + 1)
    numbers i j a b = rw (a, b)

pub one_single : (c d : ℕ) (vs : List Val) → Single (one c d vs).nodes
one_single c d vs = (c, d, side vs, refl)
