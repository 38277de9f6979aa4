-- Records stored one after the other. grown_one: after the records of some values, one record over them, with their number and the size so
-- far, makes the records of one node over these values. Assumes nothing.
use mathlib.Core.List.{List, [], ◌∷◌, ◌++◌, append_assoc}
use mathlib.Core.Path.{◌≡◌, refl, sym, ap, ◌∙◌}
use Prim.Native.Nat.{ℕ, ◌+◌, ◌-◌}
use lib.ListN.{length, length-append}
use native.Mathlib.Omega.{arith}
use Rattle.grammar.specs.Nodes.{Nodes, end, mk, count, beside, Rec, rec, records}
use Rattle.grammar.specs.Reading.{Val, side, one}
use Rattle.descent.proofs.Grown.{put, fill, Grown, recs_all, recs}

fill_append : (N : List ℕ) (m : ℕ) (rs ss : List Rec) → fill N m (rs ++ ss) ≡ fill (fill N m rs) (m + length rs) ss
unfolding fill
fill_append N m [] ss = ap (λ z. fill N z ss) (omega arith)
fill_append N m (r ∷ rs) ss = fill_append (put N m r) (m + 1) rs ss ∙ ap (λ z. fill (fill (put N m r) (m + 1) rs) z ss) (omega arith)

pub grown_none : (m : ℕ) (N : List ℕ) → Grown m N m N []
unfolding fill
grown_none m N = record { many = omega arith; table = refl }

module _ {m m1 m2 : ℕ} {N N1 N2 : List ℕ} where
  pub grown_append : {rs ss : List Rec} → Grown m N m1 N1 rs → Grown m1 N1 m2 N2 ss → Grown m N m2 N2 (rs ++ ss)
  grown_append {rs} {ss} g h = record {
    many = omega (arith, g.many, h.many, length-append rs ss);
    table = h.table ∙ ap (λ z. fill z m1 ss) g.table ∙ ap (λ z. fill (fill N m rs) z ss) g.many ∙ sym (fill_append N m rs ss);
  }

  -- one more record
  pub grown_put : {rs : List Rec} (r : Rec) → Grown m N m1 N1 rs → m2 ≡ m1 + 1 → N2 ≡ put N1 m1 r → Grown m N m2 N2 (rs ++ (r ∷ []))
  unfolding fill
  grown_put r g e t = grown_append g (record { many = omega (arith, e); table = t })

pub records_beside : (ns ms : Nodes) → records (beside ns ms) ≡ records ns ++ records ms
unfolding records beside
records_beside end ms = refl
records_beside (mk c d ks ns) ms = rw (records_beside ns ms) (simp append_assoc)

pub side_cons : (v : Val) (vs : List Val) → recs_all (v ∷ vs) ≡ recs v ++ recs_all vs
unfolding side
side_cons v vs = records_beside v.nodes (side vs)

pub side_append : (us vs : List Val) → recs_all (us ++ vs) ≡ recs_all us ++ recs_all vs
unfolding side records
side_append [] vs = refl
side_append (u ∷ us) vs = records_beside u.nodes (side (us ++ vs)) ∙ ap (λ z. recs u ++ z) (side_append us vs)
    ∙ sym (append_assoc (recs u) (recs_all us) (recs_all vs)) ∙ ap (λ z. z ++ recs_all vs) (sym (records_beside u.nodes (side us)))

pub count_beside : (ns ms : Nodes) → count (beside ns ms) ≡ count ns + count ms
unfolding count beside
count_beside end ms = omega arith
count_beside (mk c d ks ns) ms = omega (arith, count_beside ns ms)

pub recs_one : (c d : ℕ) (vs : List Val) → recs (one c d vs) ≡ recs_all vs ++ (rec c d (count (side vs)) (length (recs_all vs) + 1) ∷ [])
unfolding records
recs_one c d vs = refl

module _ {m m1 m2 : ℕ} {N N1 N2 : List ℕ} (c d : ℕ) (vs : List Val) where
  pub grown_one : (n s : ℕ) → Grown m N m1 N1 (recs_all vs) → n ≡ count (side vs) → s ≡ m1 - m + 1 → m2 ≡ m1 + 1 → N2 ≡ put N1 m1 (rec c d n s)
      → Grown m N m2 N2 (recs (one c d vs))
  grown_one n s g e f h t = rw (recs_one c d vs) (grown_put (rec c d (count (side vs)) (length (recs_all vs) + 1)) g h
      (t ∙ rw (e) (ap (λ z. put N1 m1 (rec c d (count (side vs)) z)) (omega (arith, f, g.many)))))
