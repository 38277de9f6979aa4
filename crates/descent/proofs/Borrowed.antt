-- Lists that are lent: one of several at its place, and one that is lent empty. Assumes nothing.
use mathlib.Core.List.{List, [], ◌∷◌, map}
use mathlib.Core.Path.{◌≡◌, refl}
use Prim.Native.Nat.{ℕ, zero, suc}
use lib.ListN.{length, get_or}
use native.Mathlib.Omega.{arith}
use denote.Ref.{Bor}

pub lent_at : (io : List (Bor (List ℕ))) (k : ℕ) (d : Bor (List ℕ)) → d.now ≡ [] → (get_or io k d).now ≡ get_or (map (λ x. x.now) io) k []
lent_at [] k d e = e
lent_at (x ∷ io) zero d e = refl
lent_at (x ∷ io) (suc k) d e = lent_at io k d e

-- a list that was lent empty is left empty
pub none_left : (l : List ℕ) → length l ≡ 0 → l ≡ []
none_left [] e = refl
none_left (x ∷ l) e = absurd (omega (arith, e))
