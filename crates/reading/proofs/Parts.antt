-- The first k numbers of a list, as many as it has of them, are lent and come back as others: what is the front then, and what is beyond.
-- Assumes nothing.
use Prim.Native.Nat.{ℕ, ◌+◌, ◌-◌, min}
use mathlib.Core.Path.{◌≡◌, sym, ap, ◌∙◌}
use mathlib.Core.List.{List, [], ◌++◌, append-nil}
use mathlib.Core.Logic.{⊎_elim}
use native.Mathlib.Nat.{eq-zero-or-pos}
use native.Mathlib.Omega.{arith}
use lib.ListN.{length, take, drop}
use lib.Seq.{take-length, take_all, take-append-add, drop-append-add, drop-drop, drop-length}

module _ (k n : ℕ) (N : List ℕ) (e : n ≡ min k (length N)) where
  pub front : take n N ≡ take k N
  front =
      ⊎_elim (λ z. let s : n ≡ k = omega arith in ap (λ (j : ℕ). take j N) s)
      (λ more. let s : n ≡ length N = omega arith in ap (λ (j : ℕ). take j N) s ∙ (take-length N ∙ sym (take_all k N (omega arith))))
      (eq-zero-or-pos (k - n))

  none_between : take (k - n) (drop n N) ≡ []
  none_between =
      ⊎_elim (λ z. ap (λ (j : ℕ). take j (drop n N)) z)
      (λ more. let s : n ≡ length N = omega arith in
      ap (take (k - n)) (ap (λ (j : ℕ). drop j N) s ∙ drop-length N) ∙ take_all (k - n) [] (omega arith))
      (eq-zero-or-pos (k - n))

  module _ (p : List ℕ) (same : length p ≡ n) where
    whole : k ≡ length p + (k - n)
    whole = omega arith

    pub new_front : take k (p ++ drop n N) ≡ p
    new_front =
        ap (λ (j : ℕ). take j (p ++ drop n N)) whole
        ∙ (take-append-add p (drop n N) (k - n) ∙ (ap (λ (l : List ℕ). p ++ l) none_between ∙ append-nil p))

    pub beyond : drop k (p ++ drop n N) ≡ drop k N
    beyond =
        let back : n + (k - n) ≡ k = omega arith in
        ap (λ (j : ℕ). drop j (p ++ drop n N)) whole
        ∙ (drop-append-add p (drop n N) (k - n) ∙ (drop-drop (k - n) n N ∙ ap (λ (j : ℕ). drop j N) back))
