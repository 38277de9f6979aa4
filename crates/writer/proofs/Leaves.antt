-- What the reads of the table and the writing of one token come to. Assumes nothing.
use mathlib.Core.List.{List, [], ◌∷◌}
use mathlib.Core.Path.{◌≡◌, refl, sym, ap, ◌∙◌, subst⁻¹}
use Prim.Native.Nat.{ℕ, zero, suc, ◌+◌, ◌-◌, ◌*◌, ◌<◌, ◌≤◌}
use lib.ListN.{length, get_or, set}
use native.Mathlib.Omega.{arith}
use Rattle.grammar.specs.Sizes.{WIDTH}
use Rattle.grammar.specs.Reading.{choose}
use Rattle.grammar.specs.Nodes.{count}
use Rattle.grammar.specs.Writing.{toktext}
use Rattle.shapes.specs.Shape.{Class}
use Rattle.scribe.proofs.Standing.{lane_of, Puts}
use Rattle.scribe.proofs.Tokens.{one_put}
use Rattle.scribe.proofs.Whole.{Whole, before_of}
use Rattle.scribe.proofs.Kids.{known}
use Rattle.scribe.proofs.Clauses.{code_at, children_at}
use Rattle.scribe.proofs.Leading.{backs}
use Rattle.writer.specs.declared.lent.Pages.{Pages}
use Rattle.writer.specs.declared.lent.Numbers.{Numbers}
use Rattle.writer.specs.declared.lent.Numbers.TheVariants.{Kinds, Texts}
use Rattle.writer.specs.Pages.{nodes_of, lane_of_numbers, Field}

-- ── a number of a record ──
module _ {pages : Pages} {i r : ℕ} where
  pub code_at_lem : Field 0 pages i r → 0 < i → r ≡ code_at (nodes_of pages) i
  code_at_lem F h = F.is h ∙ ap (λ z. get_or (nodes_of pages) z 0) (let e : WIDTH * (i - 1) + 0 ≡ WIDTH * (i - 1) = omega arith in e)

  pub children_at_lem : Field 2 pages i r → 0 < i → r ≡ children_at (nodes_of pages) i
  children_at_lem F h = F.is h

  module _ {C : Class} (w : Whole C (nodes_of pages) i) where
    pub code_of : Field 0 pages i r → r ≡ w.code
    code_of F = code_at_lem F (known w).there ∙ (known w).code

    pub detail_of : Field 1 pages i r → r ≡ w.detail
    detail_of F = F.is (known w).there ∙ (known w).detail

    pub children_of : Field 2 pages i r → r ≡ count w.kids
    children_of F = F.is (known w).there ∙ (known w).children

-- ── nodes before ──
pub before_is : {pages : Pages} {i z : ℕ} → Field 3 pages i z → i - z ≡ before_of (nodes_of pages) i
unfolding before_of
before_is {pages} {i} {z} F = go i F
  where
    go : (i : ℕ) → Field 3 pages i z → i - z ≡ i - get_or (nodes_of pages) (WIDTH * (i - 1) + 3) 0
    go zero F = omega arith
    go (suc i) F = ap (λ n. suc i - n) (F.is (omega arith))

pub before_most : (N : List ℕ) (j : ℕ) → before_of N j ≤ j
unfolding before_of
before_most N j = omega arith

pub backs_most : (N : List ℕ) (n j : ℕ) → backs N n j ≤ j
unfolding backs
backs_most N zero j = omega arith
backs_most N (suc n) j = let a = backs_most N n (before_of N j) in let b = before_most N j in omega (arith, a, b)

-- .. stands below
pub before_below : (N : List ℕ) (j : ℕ) {i j' : ℕ} → j' ≡ before_of N j → j < i → j' < i
before_below N j e h = let m = before_most N j in omega (arith, e, h, m)

pub child_below : (N : List ℕ) (n i : ℕ) {j : ℕ} → 0 < i → j ≡ backs N n (i - 1) → j < i
child_below N n i h e = let m = backs_most N n (i - 1) in omega (arith, h, e, m)

-- what ends at a place, where the place is known otherwise
pub moved : (X : List ℕ → ℕ → Type 0) {N : List ℕ} {i j : ℕ} → i ≡ j → X N j → X N i
moved X {N} e x = subst⁻¹ (X N) e x

-- of the steps back that are left after k of n
pub backs_turn : (N : List ℕ) (n k j : ℕ) {j' : ℕ} → k < n → j' ≡ before_of N j → backs N (n - (k + 1)) j' ≡ backs N (n - k) j
unfolding backs
backs_turn N n k j h e = ap (backs N (n - (k + 1))) e ∙ ap (λ z. backs N z j) (let l : suc (n - (k + 1)) ≡ n - k = omega (arith, h) in l)

pub backs_all : (N : List ℕ) (n k j : ℕ) → n ≤ k → j ≡ backs N (n - k) j
unfolding backs
backs_all N n k j h = sym (ap (λ z. backs N z j) (let l : n - k ≡ 0 = omega (arith, h) in l))

-- ── one token ──
set_past : (A : List ℕ) (i x : ℕ) → length A ≤ i → set A i x ≡ A
set_past [] i x h = refl
set_past (a ∷ A) zero x h = absurd (omega (arith, h))
set_past (a ∷ A) (suc i) x h = ap (λ z. a ∷ z) (set_past A i x (omega (arith, h)))

pub kind_number : {x : Numbers} (kind text : ℕ) → x ≡ Kinds → kind ≡ lane_of (lane_of_numbers x) (toktext kind text)
unfolding choose
kind_number kind text e = rw e refl

pub text_number : {x : Numbers} (kind text : ℕ) → x ≡ Texts → text ≡ lane_of (lane_of_numbers x) (toktext kind text)
unfolding choose
text_number kind text e = rw e refl

pub put_one : {lane : ℕ} {A A' : List ℕ} {to : ℕ} (kind text : ℕ) {number : ℕ} → number ≡ lane_of lane (toktext kind text) → A' ≡ set A (to - 1) number → Puts lane A A' (to - 1) to (toktext kind text ∷ [])
put_one {A = A} {to = to} kind text n e = one_put (toktext kind text) (λ h. (refl, e ∙ ap (set A (to - 1)) n))

pub put_past : {lane : ℕ} {A : List ℕ} {to : ℕ} (kind text : ℕ) → length A ≤ to - 1 → Puts lane A A (to - 1) to (toktext kind text ∷ [])
put_past {lane} {A} {to} kind text h = one_put (toktext kind text) (λ z. (refl, sym (set_past A (to - 1) (lane_of lane (toktext kind text)) h)))
