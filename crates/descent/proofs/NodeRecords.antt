-- The records of values side by side and of one node over them, as a walk puts them together (`over`), and of parts that may be absent. Assumes nothing.
use mathlib.Core.List.{List, [], ◌∷◌, ◌++◌}
use mathlib.Core.Path.{◌≡◌, refl, sym, ap, ◌∙◌}
use Prim.Native.Nat.{ℕ, ◌+◌}
use lib.ListN.{length}
use native.Mathlib.Omega.{arith}
use Rattle.grammar.specs.Nodes.{end, count, beside, Rec, rec, records}
use Rattle.grammar.specs.Reading.{Val, empty, side, one, choose, is_end, opt}
use Rattle.descent.proofs.Walk.{missing, over}
use Rattle.descent.proofs.Grown.{recs_all, recs}
use Rattle.descent.proofs.Growing.{side_cons, count_beside}
use Rattle.descent.proofs.Means.{Single}
use Rattle.descent.proofs.Sides.{single_count, single_there, beside_end, one_single}
use Rattle.descent.proofs.Values.{opt_there, recs_missing, over_one}

-- what a part comes to that is there, with the nodes of v; and one with no nodes
pub there : (u v : Val) → u.nodes ≡ v.nodes → Single v.nodes → Single (opt u).nodes × (recs v ≡ recs (opt u))
there u v e s = let w : Single u.nodes = rw e s in rw (opt_there u (single_there u.nodes w)) (w, ap records (sym e))

pub not_there : (u : Val) → u.nodes ≡ end → Single (opt u).nodes × (missing ∷ [] ≡ recs (opt u))
unfolding opt choose is_end
not_there u e = rw e (one_single 0 0 [], sym recs_missing)

pub side_one : (v : Val) → side (v ∷ []) ≡ v.nodes
unfolding side
side_one v = beside_end v.nodes

-- ── values side by side: their records and their number ──
pub record Beside (vs : List Val) (rs : List Rec) (n : ℕ) : Type 0 where
  pub records : rs ≡ recs_all vs
  pub many : n ≡ count (side vs)

pub none_beside : Beside [] [] 0
unfolding side records count
none_beside = record { records = refl; many = refl }

pub one_beside : (v : Val) (vs : List Val) (rs : List Rec) (m n : ℕ) → count v.nodes ≡ m → Beside vs rs n → Beside (v ∷ vs) (recs v ++ rs) (m + n)
unfolding side
one_beside v vs rs m n e b = record {
  records = ap (λ z. recs v ++ z) b.records ∙ sym (side_cons v vs);
  many = omega (arith, e, b.many, count_beside v.nodes (side vs));
}

-- the last one
pub last_beside : (v : Val) (m : ℕ) → count v.nodes ≡ m → Beside (v ∷ []) (recs v) m
last_beside v m e = record { records = ap records (sym (side_one v)); many = sym e ∙ ap count (sym (side_one v)) }

pub beside_two : (u v : Val) → Single u.nodes → Single v.nodes → Beside (u ∷ v ∷ []) (recs u ++ recs v) 2
beside_two u v s t = one_beside u (v ∷ []) (recs v) 1 1 (single_count u.nodes s) (last_beside v 1 (single_count v.nodes t))

-- tokens and absent parts have no nodes
pub beside_empty : (vs : List Val) (rs : List Rec) (n : ℕ) → Beside vs rs n → Beside (empty ∷ vs) rs n
unfolding side beside
beside_empty vs rs n b = record { records = b.records; many = b.many }

pub beside_is : (vs : List Val) (rs rs' : List Rec) (n n' : ℕ) → Beside vs rs n → rs' ≡ rs → n' ≡ n → Beside vs rs' n'
beside_is vs rs rs' n n' b e f = rw (e, f) b

-- a node over them
pub over_beside : (c d n : ℕ) (vs : List Val) (rs : List Rec) → Beside vs rs n → over c d n 0 rs ≡ recs (one c d vs)
over_beside c d n vs rs b = over_one c d n vs rs b.records b.many

pub closed_beside : (c d n : ℕ) (vs : List Val) (rs : List Rec) → Beside vs rs n → rs ++ (rec c d n (length rs + 1) ∷ []) ≡ recs (one c d vs)
closed_beside c d n vs rs b = ap (λ z. rs ++ (rec c d n z ∷ [])) (omega arith) ∙ over_beside c d n vs rs b
