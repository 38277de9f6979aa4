-- A code that is there is that number, and not 0; one that is not there is 0. Assumes nothing.
use mathlib.Core.Path.{◌≡◌, refl, sym, ap, ◌∙◌}
use mathlib.Core.Bool.{Bool, true, false, cond}
use Prim.Native.Nat.{ℕ, zero, suc, ◌<◌}
use native.Mathlib.Omega.{arith}
use lib.Dec.{eqb}
use Rattle.std.specs.Prelude.{Option, None, Some, unwrap_or}
use Rattle.kinds.specs.Classes.{code_there}

pub or_zero : (n : ℕ) → unwrap_or (code_there n) 0 ≡ n
or_zero n = grind arith

pub there : {n code : ℕ} {o : Option ℕ} → o ≡ code_there n → o ≡ Some code → (code ≡ n) × (0 < n)
there {n} {code} {o} e is = grind arith

pub not_there : {n : ℕ} {o : Option ℕ} → o ≡ code_there n → o ≡ None → n ≡ 0
not_there {n} {o} e is = grind arith
