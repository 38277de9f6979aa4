-- A walk that is not spent, and does not go back (Ends), proved along the walk's own body: ends_bind, ends_onto, ends_choose. Assumes nothing.
use mathlib.Core.Bool.{true, false, Bool}
use mathlib.Core.List.{List}
use mathlib.Core.Path.{◌≡◌, refl}
use Prim.Native.Nat.{ℕ, ◌≤◌}
use native.Mathlib.Omega.{arith}
use Rattle.grammar.specs.Nodes.{Rec}
use Rattle.grammar.specs.Reading.{choose}
use Rattle.descent.proofs.Walk.{Walked, done, stop, spent, bind, onto}

abbrev pub EndsCase : ℕ → Walked → Type 0
EndsCase b (done a s n rs) = b ≤ a
EndsCase b (stop m p) = Unit {0}
EndsCase b spent = ⊥

-- the walk is done at b or after it, or it stops
pub record Ends (b : ℕ) (w : Walked) : Type 0 where
  pub it : EndsCase b w

pub ends_bind : {b d : ℕ} (w : Walked) (k : ℕ → ℕ → ℕ → List Rec → Walked) → Ends b w → ((a s n : ℕ) (rs : List Rec) → b ≤ a → Ends d (k a s n rs)) → Ends d (bind w k)
unfolding bind
ends_bind (done a s n rs) k h g = g a s n rs h.it
ends_bind (stop m p) k h g = record { it = tt }
ends_bind spent k h g = absurd h.it

pub ends_onto : {b : ℕ} (rs : List Rec) (w : Walked) → Ends b w → Ends b (onto rs w)
unfolding onto
ends_onto rs (done a s n qs) h = record { it = h.it }
ends_onto rs (stop m p) h = record { it = tt }
ends_onto rs spent h = absurd h.it

-- an earlier place
pub ends_from : {b d : ℕ} (w : Walked) → d ≤ b → Ends b w → Ends d w
ends_from {b} {d} (done a s n qs) e h = record { it = before h.it }
  where
    before : b ≤ a → d ≤ a
    before q = omega (arith, e, q)
ends_from (stop m p) e h = record { it = tt }
ends_from spent e h = absurd h.it

pub ends_choose : {d : ℕ} (b : Bool) (v w : Walked) → (b ≡ true → Ends d v) → (b ≡ false → Ends d w) → Ends d (choose b v w)
unfolding choose
ends_choose true v w x y = x refl
ends_choose false v w x y = y refl

pub ends_done : {b : ℕ} (a s n : ℕ) (rs : List Rec) → b ≤ a → Ends b (done a s n rs)
ends_done a s n rs h = record { it = h }

pub ends_stop : {b m p : ℕ} → Ends b (stop m p)
ends_stop = record { it = tt }
