-- A test, a row looked up, a choice: what holds in each case holds. These lemmas keep the equation of the case, and take a
-- recursive call in a function, so that a proof by cases is one application. Assumes nothing.
use mathlib.Core.Bool.{true, false, Bool}
use mathlib.Core.Option.{some, none, Option}
use mathlib.Core.Path.{◌≡◌, refl}
use Prim.Native.Nat.{ℕ, ◌≤◌}
use lib.Dec.{eqb, leb, eqb_refl, leb→le, le→leb, eqb→eq, T}
use native.Mathlib.Omega.{arith}
use Rattle.theory.specs.Trees.{Row}
use Rattle.theory.specs.Table.{pick, both, on_row}
use Rattle.theory.proofs.Machine.{on_bool}

pub on_bool_case : {X : Type 0} (P : X → Type 0) (b : Bool) (f : Unit {0} → X) (x : X) → (b ≡ true → P (f tt)) → P x → P (on_bool b f x)
unfolding on_bool
on_bool_case P true f x a c = a refl
on_bool_case P false f x a c = c

pub on_row_case : {X : Type 0} (P : X → Type 0) (o : Option Row) (f : Row → X) (g : Unit {0} → X)
    → ((r : Row) → o ≡ some r → P (f r)) → (o ≡ none → P (g tt)) → P (on_row o f g)
unfolding on_row
on_row_case P none f g a c = c refl
on_row_case P (some r) f g a c = a r refl

pub by_row : {Q : Type 0} (o : Option Row) → ((r : Row) → o ≡ some r → Q) → (o ≡ none → Q) → Q
by_row none a b = b refl
by_row (some r) a b = a r refl

pub by_bool : {Q : Type 0} (b : Bool) → (b ≡ true → Q) → (b ≡ false → Q) → Q
by_bool true a b = a refl
by_bool false a b = b refl

pub pick_case : {X : Type 0} (P : X → Type 0) (b : Bool) (x : X) (f : Unit {0} → X) → (b ≡ true → P x) → (b ≡ false → P (f tt)) → P (pick b x f)
unfolding pick
pick_case P true x f a c = a refl
pick_case P false x f a c = c refl

pub pick_inv : {X Q : Type 0} (b : Bool) (x : X) (f : Unit {0} → X) (y : X) → pick b x f ≡ y → (b ≡ true → x ≡ y → Q) → (b ≡ false → f tt ≡ y → Q) → Q
unfolding pick
pick_inv true x f y e a c = a refl e
pick_inv false x f y e a c = c refl e

pub 0≢1 : {X : Type 0} → ◌≡◌ {A = Bool} false true → X
0≢1 e = absurd (let z : ◌≡◌ {A = ℕ} 0 1 = cc in omega arith)

pub none≢some : {X : Type 0} {r : Row} → none ≡ some r → X
none≢some e = absurd (let z : ◌≡◌ {A = ℕ} 0 1 = cc in omega arith)

pub both_l : (a b : Bool) → both a b ≡ true → a ≡ true
unfolding both
both_l true b e = refl
both_l false b e = e

pub both_r : (a b : Bool) → both a b ≡ true → b ≡ true
unfolding both
both_r true b e = e
both_r false b e = 0≢1 e

pub both_i : (a b : Bool) → a ≡ true → b ≡ true → both a b ≡ true
unfolding both
both_i true b e f = f
both_i false b e f = e

pub eqb_eq : (m n : ℕ) → eqb m n ≡ true → m ≡ n
eqb_eq m n e = eqb→eq m n (rw e tt)

pub T_true : (b : Bool) → T b → b ≡ true
T_true true t = refl
T_true false t = absurd t

pub eqb-true : (m n : ℕ) → m ≡ n → eqb m n ≡ true
eqb-true m n e = rw e (T_true (eqb n n) (eqb_refl n))

pub leb_le : (m n : ℕ) → leb m n ≡ true → m ≤ n
leb_le m n e = leb→le m n (rw e tt)

pub le-leb : (m n : ℕ) → m ≤ n → leb m n ≡ true
le-leb m n h = T_true (leb m n) (le→leb m n h)
