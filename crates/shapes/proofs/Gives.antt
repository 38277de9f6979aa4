-- What a walk that is done gives (Gives), proved along the walk's own body: gives_bind, gives_onto, gives_choose. Assumes nothing.
use mathlib.Core.Bool.{true, false, Bool}
use mathlib.Core.List.{List, ◌++◌}
use mathlib.Core.Path.{◌≡◌, refl}
use Prim.Native.Nat.{ℕ}
use Rattle.grammar.specs.Nodes.{Rec}
use Rattle.grammar.specs.Reading.{choose}
use Rattle.descent.proofs.Walk.{Walked, done, stop, spent, bind, onto}

abbrev pub GivesCase : Walked → (ℕ → ℕ → ℕ → List Rec → Type 0) → Type 0
GivesCase (done a s n rs) P = P a s n rs
GivesCase (stop m p) P = Unit {0}
GivesCase spent P = Unit {0}

-- where the walk is done, P. (A record, so that P is inferred)
pub record Gives (w : Walked) (P : ℕ → ℕ → ℕ → List Rec → Type 0) : Type 0 where
  pub it : GivesCase w P

module _ {P P' : ℕ → ℕ → ℕ → List Rec → Type 0} where
  -- a walk, then what it is handed to
  pub gives_bind : (w : Walked) (k : ℕ → ℕ → ℕ → List Rec → Walked) → Gives w P → ((a s n : ℕ) (rs : List Rec) → P a s n rs → Gives (k a s n rs) P') → Gives (bind w k) P'
  unfolding bind
  gives_bind (done a s n rs) k h g = g a s n rs h.it
  gives_bind (stop m p) k h g = record { it = tt }
  gives_bind spent k h g = record { it = tt }

  -- a walk after records that stand before its own
  pub gives_onto : (rs : List Rec) (w : Walked) → Gives w P → ((a s n : ℕ) (qs : List Rec) → P a s n qs → P' a s n (rs ++ qs)) → Gives (onto rs w) P'
  unfolding onto
  gives_onto rs (done a s n qs) h g = record { it = g a s n qs h.it }
  gives_onto rs (stop m p) h g = record { it = tt }
  gives_onto rs spent h g = record { it = tt }

  -- the same walk, other words for it
  pub gives_map : (w : Walked) → Gives w P → ((a s n : ℕ) (qs : List Rec) → P a s n qs → P' a s n qs) → Gives w P'
  gives_map (done a s n qs) h g = record { it = g a s n qs h.it }
  gives_map (stop m p) h g = record { it = tt }
  gives_map spent h g = record { it = tt }

module _ {P : ℕ → ℕ → ℕ → List Rec → Type 0} where
  -- one walk or another, by a test
  pub gives_choose : (b : Bool) (v w : Walked) → (b ≡ true → Gives v P) → (b ≡ false → Gives w P) → Gives (choose b v w) P
  unfolding choose
  gives_choose true v w x y = x refl
  gives_choose false v w x y = y refl

  -- a walk that is done here; of one that stops, or has no fuel, nothing is said
  pub gives_done : (a s n : ℕ) (rs : List Rec) → P a s n rs → Gives (done a s n rs) P
  gives_done a s n rs p = record { it = p }

  pub gives_stop : {m p : ℕ} → Gives (stop m p) P
  gives_stop = record { it = tt }

  pub gives_spent : Gives spent P
  gives_spent = record { it = tt }
