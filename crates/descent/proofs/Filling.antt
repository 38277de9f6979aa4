-- Tables that are filled by parts. _then_: what two parts put is what both put. filled_laid: a table that is filled from its first number
-- on is the one that the promise names. numbers_on, length-numbers: the numbers of records. Assumes nothing.
use mathlib.Core.List.{List, [], ◌∷◌, ◌++◌, append_assoc}
use mathlib.Core.Path.{◌≡◌, refl, sym, ap, ◌∙◌}
use Prim.Native.Nat.{ℕ, suc, ◌+◌, ◌*◌, ◌≤◌, min}
use lib.ListN.{length, set, length-set, length-append, take, drop, take-append-drop, length-take}
use native.Mathlib.Omega.{arith}
use Rattle.grammar.specs.Sizes.{WIDTH}
use Rattle.grammar.specs.Nodes.{Rec, rec, numbers, laid}
use Rattle.descent.proofs.Fill.{put, fill, Filled}

-- ── numbers ──
pub numbers_on : (rs qs : List Rec) → numbers (rs ++ qs) ≡ numbers rs ++ numbers qs
unfolding numbers
numbers_on [] qs = refl
numbers_on (rec c d n s ∷ rs) qs = ap (λ (l : List ℕ). c ∷ d ∷ n ∷ s ∷ l) (numbers_on rs qs)

pub length_numbers : (rs : List Rec) → length (numbers rs) ≡ WIDTH * length rs
unfolding numbers
length_numbers [] = refl
length_numbers (rec c d n s ∷ rs) = let i = length_numbers rs in omega (arith, i)

-- ── parts ──
pub length_fill : (N : List ℕ) (m : ℕ) (rs : List Rec) → length (fill N m rs) ≡ length N
unfolding fill
length_fill N m [] = refl
length_fill N m (rec c d n s ∷ rs) = length_fill (put N m c d n s) (m + 1) rs ∙ simp length-set

fill_on : (N : List ℕ) (m : ℕ) (rs qs : List Rec) → fill (fill N m rs) (m + length rs) qs ≡ fill N m (rs ++ qs)
unfolding fill
fill_on N m [] qs = ap (λ z. fill N z qs) (omega arith)
fill_on N m (rec c d n s ∷ rs) qs =
    ap (λ z. fill (fill (put N m c d n s) (m + 1) rs) z qs) (omega arith) ∙ fill_on (put N m c d n s) (m + 1) rs qs

pub nothing : {N : List ℕ} {m : ℕ} → Filled N N m m []
unfolding fill
nothing = record { counted = omega arith; stand = λ r. refl }

infixr 5 ◌then◌
pub ◌then◌ : {N N₁ N₂ : List ℕ} {m m₁ m₂ : ℕ} {rs qs : List Rec} → Filled N N₁ m m₁ rs → Filled N₁ N₂ m₁ m₂ qs → Filled N N₂ m m₂ (rs ++ qs)
◌then◌ {N} {N₁} {N₂} {m} {m₁} {m₂} {rs} {qs} a b =
    let l : length (rs ++ qs) ≡ length rs + length qs = length-append rs qs in
    let c = a.counted in
    let d = b.counted in
    record {
      counted = omega (arith, c, d, l);
      stand = λ r.
          let e : N₁ ≡ fill N m rs = a.stand (omega (arith, c, d, r)) in
          let g : length N₁ ≡ length N = ap length e ∙ length_fill N m rs in
          b.stand (omega (arith, g, r)) ∙ ap (λ z. fill z m₁ qs) e ∙ ap (λ z. fill (fill N m rs) z qs) c ∙ fill_on N m rs qs;
    }

-- ── where the records stand ──
pub set_on : (hs : List ℕ) (i : ℕ) (bs : List ℕ) (y : ℕ) → set (hs ++ bs) (length hs + i) y ≡ hs ++ set bs i y
set_on [] i bs y = ap (λ z. set bs z y) (omega arith)
set_on (h ∷ hs) i bs y =
    let e : length (h ∷ hs) + i ≡ suc (length hs + i) = omega arith in
    ap (λ z. set (h ∷ (hs ++ bs)) z y) e ∙ ap (λ z. h ∷ z) (set_on hs i bs y)

-- after hs, which are the records before
put_on : (hs : List ℕ) (m : ℕ) (w x y z : ℕ) (bs : List ℕ) (c d n s : ℕ) → length hs ≡ m * WIDTH → put (hs ++ (w ∷ x ∷ y ∷ z ∷ bs)) m c d n s ≡ hs ++ (c ∷ d ∷ n ∷ s ∷ bs)
put_on hs m w x y z bs c d n s e =
    let p : m * WIDTH ≡ length hs + 0 = omega (arith, e) in
    let p₁ : m * WIDTH + 1 ≡ length hs + 1 = omega (arith, e) in
    let p₂ : m * WIDTH + 2 ≡ length hs + 2 = omega (arith, e) in
    let p₃ : m * WIDTH + 3 ≡ length hs + 3 = omega (arith, e) in
    ap (λ (l : List ℕ). set (set (set l (m * WIDTH + 1) d) (m * WIDTH + 2) n) (m * WIDTH + 3) s) (ap (λ k. set (hs ++ (w ∷ x ∷ y ∷ z ∷ bs)) k c) p ∙ set_on hs 0 (w ∷ x ∷ y ∷ z ∷ bs) c)
    ∙ ap (λ (l : List ℕ). set (set l (m * WIDTH + 2) n) (m * WIDTH + 3) s) (ap (λ k. set (hs ++ (c ∷ x ∷ y ∷ z ∷ bs)) k d) p₁ ∙ set_on hs 1 (c ∷ x ∷ y ∷ z ∷ bs) d)
    ∙ ap (λ (l : List ℕ). set l (m * WIDTH + 3) s) (ap (λ k. set (hs ++ (c ∷ d ∷ y ∷ z ∷ bs)) k n) p₂ ∙ set_on hs 2 (c ∷ d ∷ y ∷ z ∷ bs) n)
    ∙ (ap (λ k. set (hs ++ (c ∷ d ∷ n ∷ z ∷ bs)) k s) p₃ ∙ set_on hs 3 (c ∷ d ∷ n ∷ z ∷ bs) s)

-- bs, in the place of the records, gives way to them
pub fill_at : (rs : List Rec) (hs bs cs : List ℕ) (m : ℕ) → length hs ≡ m * WIDTH → length bs ≡ length rs * WIDTH → fill (hs ++ (bs ++ cs)) m rs ≡ hs ++ (numbers rs ++ cs)
unfolding fill numbers
fill_at [] hs [] cs m e l = refl
fill_at [] hs (b ∷ bs) cs m e l = absurd (omega (arith, l))
fill_at (rec c d n s ∷ rs) hs [] cs m e l = absurd (omega (arith, l))
fill_at (rec c d n s ∷ rs) hs (w ∷ []) cs m e l = absurd (omega (arith, l))
fill_at (rec c d n s ∷ rs) hs (w ∷ x ∷ []) cs m e l = absurd (omega (arith, l))
fill_at (rec c d n s ∷ rs) hs (w ∷ x ∷ y ∷ []) cs m e l = absurd (omega (arith, l))
fill_at (rec c d n s ∷ rs) hs (w ∷ x ∷ y ∷ z ∷ bs) cs m e l =
    let four : List ℕ = c ∷ d ∷ n ∷ s ∷ [] in
    let k : length (hs ++ four) ≡ length hs + length four = length-append hs four in
    ap (λ t. fill t (m + 1) rs) (put_on hs m w x y z (bs ++ cs) c d n s e ∙ sym (append_assoc hs four (bs ++ cs)))
    ∙ fill_at rs (hs ++ four) bs cs (m + 1) (omega (arith, k, e)) (omega (arith, l))
    ∙ append_assoc hs four (numbers rs ++ cs)

pub filled_laid : (N : List ℕ) (rs : List Rec) → WIDTH * length rs ≤ length N → fill N 0 rs ≡ laid N rs
unfolding laid
filled_laid N rs r =
    let k : ℕ = WIDTH * length rs in
    let l : length (take k N) ≡ min k (length N) = length-take k N in
    ap (λ t. fill t 0 rs) (sym (take-append-drop k N)) ∙ fill_at rs [] (take k N) (drop k N) 0 refl (omega (arith, l, r))
