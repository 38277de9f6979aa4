-- What a turn adds to a block: the bytes so far, gone on with those that are left, are all.
-- Assumes nothing.
use Prim.Native.Nat.{ℕ, ◌+◌, ◌≤◌, ◌<◌}
use mathlib.Core.Path.{◌≡◌, refl, sym, ap, ap₂, ◌∙◌}
use mathlib.Core.List.{List, [], ◌∷◌, ◌++◌, append_assoc}
use native.Mathlib.Numerals.{add-one}
use native.Mathlib.Omega.{arith}
use lib.ListN.{length, get_or, take, drop, set, take-append-drop}
use lib.Seq.{drop-cons, drop-length}
use borrow.Author.Tests.{lt-ltb}
use borrow.Rule.Slice.PartMut.{put_mid}
use Rattle.std.proofs.lemmas.List.{take_more_set, drop-drop, drop-set-lt, length-set}
use Rattle.report.specs.Blocks.{place_in, block_with, waiting_after, block_after, Shows}
use Rattle.io.specs.Digits.{last_digits, IsDigitCount}

-- what waits, and the block, once the bytes from i on are added: as once all of s are, to a block of their own
pub record GoesOn (block₀ : List ℕ) (waiting : ℕ) (s block : List ℕ) (now i : ℕ) : Type 0 where
  pub waits : waiting_after now (drop i s) ≡ waiting_after waiting s
  pub holds : block_after block now (drop i s) ≡ block_after block₀ waiting s

pub goes_on : {block₀ : List ℕ} {waiting : ℕ} {s block block' : List ℕ} {now i now' : ℕ} → i < length s
    → now' ≡ place_in now + 1 → block' ≡ block_with block now (get_or s i 0)
    → GoesOn block₀ waiting s block now i → GoesOn block₀ waiting s block' now' (i + 1)
goes_on {s = s} {block} {block'} {now} {i} {now'} below e f so_far =
    record {
      waits = rw (add-one, e) (sym (ap (waiting_after now) (drop-cons s i 0 below)) ∙ so_far.waits);
      holds = rw (add-one, e, f) (sym (ap (block_after block now) (drop-cons s i 0 below)) ∙ so_far.holds);
    }

pub gone : {block₀ : List ℕ} {waiting : ℕ} {s block : List ℕ} {now i : ℕ} → i ≤ length s → length s ≤ i
    → GoesOn block₀ waiting s block now i → (now ≡ waiting_after waiting s) × (block ≡ block_after block₀ waiting s)
gone {s = s} {block} {now} {i} below reached so_far =
    let none : drop i s ≡ [] =
    let here : i ≡ length s = omega arith in ap (λ (n : ℕ). drop n s) here ∙ drop-length s in
    (sym (ap (waiting_after now) none) ∙ so_far.waits, sym (ap (block_after block now) none) ∙ so_far.holds)

-- the bytes that a number has as text are its digits
pub shown : {block : List ℕ} {waiting n waiting' count : ℕ} {block' text : List ℕ} → IsDigitCount 10 1 n count → text ≡ last_digits 10 count n
    → waiting' ≡ waiting_after waiting text → block' ≡ block_after block waiting text → Shows block waiting n waiting' block'
shown {block} {waiting} {count = count} fewest e w b =
    record { count = count; fewest = fewest; waits = w ∙ ap (waiting_after waiting) e; holds = b ∙ ap (block_after block waiting) e }

-- ── a text that has room in the block is laid into it at once ──
in_room : (w : ℕ) → w < 65536 → place_in w ≡ w
in_room w below = rw (lt-ltb w 65536 below) refl

pub all_waits : (w : ℕ) (s : List ℕ) → w + length s ≤ 65536 → waiting_after w s ≡ w + length s
all_waits w [] room = omega arith
all_waits w (b ∷ bs) room =
    ap (λ (z : ℕ). waiting_after (z + 1) bs) (in_room w (omega arith)) ∙ (all_waits (w + 1) bs (omega arith) ∙ omega arith)

-- what of the block is before a text, the text, and what is beyond
abbrev pub laid : ℕ → List ℕ → List ℕ → List ℕ
laid w block s = take w block ++ (s ++ drop (w + length s) block)

pub all_laid : (w : ℕ) (block s : List ℕ) → w + length s ≤ 65536 → w + length s ≤ length block → block_after block w s ≡ laid w block s
all_laid w block [] room fits =
    let at : w + 0 ≡ w = omega arith in sym (ap (λ (k : ℕ). take w block ++ drop k block) at ∙ take-append-drop w block)
all_laid w block (b ∷ bs) room fits =
    let below : w < length block = omega arith in
    let here : place_in w ≡ w = in_room w (omega arith) in
    let more : w + 1 + length bs ≡ w + length (b ∷ bs) = omega arith in
    let kept : w + 1 + length bs ≤ length (set block w b) = omega (arith, length-set block w b) in
    ap (λ (z : ℕ). block_after (set block z b) (z + 1) bs) here
    ∙ (all_laid (w + 1) (set block w b) bs (omega arith) kept
    ∙ (ap₂ (λ (x y : List ℕ). x ++ (bs ++ y)) (take_more_set block w b below) (drop-set-lt (w + 1 + length bs) block w b (omega arith) ∙ ap (λ (k : ℕ). drop k block) more)
    ∙ append_assoc (take w block) (b ∷ []) (bs ++ drop (w + length (b ∷ bs)) block)))

-- the same, as a part that is copied comes back
pub all_put : (w n : ℕ) (block s part : List ℕ) → part ≡ s → n ≡ length s → w + length s ≤ 65536 → w + length s ≤ length block
    → put_mid w n block part ≡ block_after block w s
all_put w n block s part e count room fits =
    ap₂ (λ (x : List ℕ) (k : ℕ). take w block ++ (x ++ drop k (drop w block))) e count
    ∙ (ap (λ (x : List ℕ). take w block ++ (s ++ x)) (drop-drop (length s) w block) ∙ sym (all_laid w block s room fits))
