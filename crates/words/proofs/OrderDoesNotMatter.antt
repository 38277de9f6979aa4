-- The united flags of a sequence of words do not depend on the words' order.
-- Assumes nothing.
use mathlib.Core.Path.{◌≡◌, refl, sym, ap, ap₂, ◌∙◌}
use mathlib.Core.List.{List, [], ◌∷◌, ◌++◌, Permᴰ}
use Prim.Native.Nat.{ℕ, ◌+◌, ◌*◌, ◌/◌, ◌%◌, max}
use native.Mathlib.Omega.{arith}
use lib.Arith.{bin_ind, digits_mod}
use lib.Bits.{bit_or, or_step, or_shr, or_comm}
use Rattle.words.specs.Flags.{flags_of, united}
use Rattle.words.specs.Sequences.{united_all}

or_odd : (a b : ℕ) → bit_or a b % 2 ≡ max (a % 2) (b % 2)
or_odd a b = ap (λ (x : ℕ). x % 2) (or_step a b) ∙ digits_mod (bit_or (a / 2) (b / 2)) (omega arith)

-- the digits of a union with a union
or_step_l : (a b c : ℕ) → bit_or (bit_or a b) c ≡ bit_or (bit_or (a / 2) (b / 2)) (c / 2) * 2 + max (max (a % 2) (b % 2)) (c % 2)
or_step_l a b c = or_step (bit_or a b) c ∙ ap₂ (λ (x y : ℕ). bit_or x (c / 2) * 2 + max y (c % 2)) (or_shr a b 1) (or_odd a b)

or_step_r : (a b c : ℕ) → bit_or a (bit_or b c) ≡ bit_or (a / 2) (bit_or (b / 2) (c / 2)) * 2 + max (a % 2) (max (b % 2) (c % 2))
or_step_r a b c = or_step a (bit_or b c) ∙ ap₂ (λ (x y : ℕ). bit_or (a / 2) x * 2 + max (a % 2) y) (or_shr b c 1) (or_odd b c)

max_assoc : (a b c : ℕ) → max (max a b) c ≡ max a (max b c)
max_assoc a b c = omega arith

pub united_comm : (a b : ℕ) → united a b ≡ united b a
united_comm = or_comm

pub united_assoc : (a b c : ℕ) → united (united a b) c ≡ united a (united b c)
united_assoc =
    bin_ind (λ (a : ℕ). (b c : ℕ) → bit_or (bit_or a b) c ≡ bit_or a (bit_or b c)) (λ b c. refl)
    (λ a ih b c. or_step_l a b c
    ∙ ap₂ (λ (x y : ℕ). x * 2 + y) (ih (b / 2) (c / 2)) (max_assoc (a % 2) (b % 2) (c % 2))
    ∙ sym (or_step_r a b c))

pub united_swap : (a b c : ℕ) → united a (united b c) ≡ united b (united a c)
united_swap a b c = sym (united_assoc a b c) ∙ ap (λ (x : ℕ). united x c) (united_comm a b) ∙ united_assoc b a c

pub order_does_not_matter : {a b : List ℕ} → Permᴰ a b → united_all a ≡ united_all b
order_does_not_matter Permᴰ.nil = refl
order_does_not_matter (Permᴰ.cons e p) = ap₂ united (ap flags_of e) (order_does_not_matter p)
order_does_not_matter (Permᴰ.swap {a = v} {b = w} {l = ws} e f) =
    united_swap (flags_of v) (flags_of w) (united_all ws) ∙ ap₂ (λ (x y : ℕ). united (flags_of x) (united (flags_of y) (united_all ws))) f e
order_does_not_matter (Permᴰ.trans p q) = order_does_not_matter p ∙ order_does_not_matter q

-- so the words may be united one by one as they come
pub one_by_one : (a b : List ℕ) → united_all (a ++ b) ≡ united (united_all a) (united_all b)
one_by_one [] b = refl
one_by_one (w ∷ ws) b =
    ap (λ (x : ℕ). united (flags_of w) x) (one_by_one ws b) ∙ sym (united_assoc (flags_of w) (united_all ws) (united_all b))
