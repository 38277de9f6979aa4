-- A walk over members parted by COMMA, and one that closes a parenthesis. Assumes nothing.
use mathlib.Core.List.{List, [], ◌∷◌, ◌++◌}
use mathlib.Core.Path.{◌≡◌, refl}
use Prim.Native.Nat.{ℕ, ◌+◌}
use lib.Dec.{eqb}
use native.Mathlib.Omega.{arith}
use Rattle.kinds.specs.Kinds.{RP, COMMA}
use Rattle.grammar.specs.Nodes.{Rec, rec}
use Rattle.grammar.specs.Reading.{choose}
use Rattle.descent.proofs.Walk.{Walked, done, bind, onto, κ, close_w}
use Rattle.shapes.specs.Shape.{Class, Shape, some_of}
use Rattle.shapes.proofs.Records.{Read, One, read_some, read_each, ◌&◌}
use Rattle.shapes.proofs.Gives.{Gives, gives_bind, gives_onto, gives_choose, gives_done, gives_stop}

-- m counts n before these
pub record Several (S : Shape) (n m : ℕ) (rs : List Rec) : Type 0 where
  pub more : ℕ
  pub counts : m ≡ n + more
  pub read : Read S more rs

pub several_one : {C : Class} {n : ℕ} {rs : List Rec} → One C rs → Several (some_of C) n (n + 1) rs
several_one r = record { more = 1; counts = refl; read = read_some r }

pub several_more : {C : Class} {n m : ℕ} {rs qs : List Rec} → One C rs → Several (some_of C) (n + 1) m qs → Several (some_of C) n m (rs ++ qs)
several_more r s = record { more = s.more + 1; counts = omega (arith, s.counts); read = r & read_each s.read }

module _ (K T : List ℕ) where
  -- a member, and after COMMA those after it
  pub gives_loop : {C : Class} (n : ℕ) (w : Walked) (further : ℕ → ℕ → Walked) → Gives w (λ a s m rs. One C rs) → ((a m : ℕ) → Gives (further a m) (λ b s i rs. Several (some_of C) (n + 1) i rs))
      → Gives (bind w (λ a x m rs. choose (eqb (κ K T a) COMMA) (onto rs (further a m)) (done a 0 (n + 1) rs))) (λ a s m rs. Several (some_of C) n m rs)
  gives_loop n w further h g = gives_bind w _ h
      (λ a x m rs r. gives_choose (eqb (κ K T a) COMMA) (onto rs (further a m)) (done a 0 (n + 1) rs)
      (λ z. gives_onto rs (further a m) (g a m) (λ b s i qs q. several_more r q))
      (λ z. gives_done a 0 (n + 1) rs (several_one r)))

  pub gives_close : (at code d n pre : ℕ) → Gives (close_w K T at code d n pre) (λ a s m rs. (s ≡ 12) × (rs ≡ rec code d n (pre + 1) ∷ []))
  unfolding close_w
  gives_close at code d n pre = gives_choose (eqb (κ K T at) RP) _ _ (λ z. gives_done (at + 1) 12 0 _ (refl, refl)) (λ z. gives_stop)
