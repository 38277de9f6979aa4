-- A node's record in the table: its four numbers, its children, and what stands before it. Assumes nothing.
use mathlib.Core.List.{List, [], ◌∷◌, ◌++◌, append_assoc}
use mathlib.Core.Path.{◌≡◌, sym, ap, ◌∙◌}
use Prim.Native.Nat.{ℕ, ◌+◌, ◌-◌, ◌*◌, ◌≤◌, ◌<◌}
use lib.ListN.{length, get_or, length-append}
use lib.Seq.{get_or-append-add}
use native.Mathlib.Omega.{arith}
use Rattle.grammar.specs.Sizes.{WIDTH}
use Rattle.grammar.specs.Nodes.{Nodes, end, mk, count, beside, rec, records, numbers}
use Rattle.descent.proofs.Filling.{numbers_on, length_numbers}
use Rattle.descent.proofs.Growing.{records_beside}
use Rattle.scribe.proofs.Standing.{Stands}

-- nodes side by side, seen from their last
pub data Last : Nodes → Type 0 where
  none : Last end
  then_one : (ms : Nodes) (c d : ℕ) (ks : Nodes) → Last (beside ms (mk c d ks end))

pub last_of : (ns : Nodes) → Last ns
unfolding beside
last_of end = none
last_of (mk c d ks ns) = go c d ks ns (last_of ns)
  where
    go : (c d : ℕ) (ks ns : Nodes) → Last ns → Last (mk c d ks ns)
    go c d ks end none = then_one end c d ks
    go c d ks ns (then_one ms c' d' ks') = then_one (mk c d ks ms) c' d' ks'

-- the record's own numbers, after those of the nodes before it and of its children
pub record Found (N : List ℕ) (i c d : ℕ) (ks : Nodes) : Type 0 where
  pub there : 0 < i
  pub inside : WIDTH * i ≤ length N
  pub code : get_or N (WIDTH * (i - 1)) 0 ≡ c
  pub detail : get_or N (WIDTH * (i - 1) + 1) 0 ≡ d
  pub children : get_or N (WIDTH * (i - 1) + 2) 0 ≡ count ks
  pub extent : get_or N (WIDTH * (i - 1) + 3) 0 ≡ length (records ks) + 1
  pub enough : length (records ks) + 1 ≤ i

module _ {N : List ℕ} {i : ℕ} (ms : Nodes) (c d : ℕ) (ks : Nodes) (s : Stands N i (beside ms (mk c d ks end))) where
  laid_out : N ≡ s.fore ++ (numbers (records ms) ++ (numbers (records ks) ++ (c ∷ d ∷ count ks ∷ (length (records ks) + 1) ∷ s.aft)))
  unfolding records numbers
  laid_out =
      s.parted
      ∙ ap (λ z. s.fore ++ (numbers z ++ s.aft)) (records_beside ms (mk c d ks end))
      ∙ ap (λ z. s.fore ++ (z ++ s.aft)) (numbers_on (records ms) (records ks ++ (rec c d (count ks) (length (records ks) + 1) ∷ [])))
      ∙ ap (λ z. s.fore ++ z) (append_assoc (numbers (records ms)) (numbers (records ks ++ (rec c d (count ks) (length (records ks) + 1) ∷ []))) s.aft)
      ∙ ap (λ z. s.fore ++ (numbers (records ms) ++ (z ++ s.aft))) (numbers_on (records ks) (rec c d (count ks) (length (records ks) + 1) ∷ []))
      ∙ ap (λ z. s.fore ++ (numbers (records ms) ++ z)) (append_assoc (numbers (records ks)) (c ∷ d ∷ count ks ∷ (length (records ks) + 1) ∷ []) s.aft)

  long : length (records (beside ms (mk c d ks end))) ≡ length (records ms) + (length (records ks) + 1)
  unfolding records
  long = ap length (records_beside ms (mk c d ks end)) ∙ length-append (records ms) (records ks ++ (rec c d (count ks) (length (records ks) + 1) ∷ [])) ∙ ap (λ z. length (records ms) + z) (length-append (records ks) (rec c d (count ks) (length (records ks) + 1) ∷ []))

  pub stands_children : Stands N (i - 1) ks
  stands_children =
      record {
        fore = s.fore ++ numbers (records ms);
        aft = c ∷ d ∷ count ks ∷ (length (records ks) + 1) ∷ s.aft;
        parted = laid_out ∙ sym (append_assoc s.fore (numbers (records ms)) (numbers (records ks) ++ (c ∷ d ∷ count ks ∷ (length (records ks) + 1) ∷ s.aft)));
        upto = let a = length-append s.fore (numbers (records ms)) in let b = length_numbers (records ms) in let e = s.upto in omega (arith, a, b, e, long);
      }

  pub stands_before : Stands N (i - (length (records ks) + 1)) ms
  stands_before =
      record {
        fore = s.fore;
        aft = numbers (records ks) ++ (c ∷ d ∷ count ks ∷ (length (records ks) + 1) ∷ s.aft);
        parted = laid_out;
        upto = let e = s.upto in omega (arith, e, long);
      }

  entry : (j : ℕ) → get_or N (WIDTH * (i - 1) + j) 0 ≡ get_or (c ∷ d ∷ count ks ∷ (length (records ks) + 1) ∷ s.aft) j 0
  entry j =
      let a = length-append (s.fore ++ numbers (records ms)) (numbers (records ks)) in
      let b = length-append s.fore (numbers (records ms)) in
      let x = length_numbers (records ms) in
      let y = length_numbers (records ks) in
      let e = s.upto in
      let hs : List ℕ = (s.fore ++ numbers (records ms)) ++ numbers (records ks) in
      let at : WIDTH * (i - 1) + j ≡ length hs + j = omega (arith, a, b, x, y, e, long) in
      let same : N ≡ hs ++ (c ∷ d ∷ count ks ∷ (length (records ks) + 1) ∷ s.aft)
      = laid_out ∙ sym (append_assoc s.fore (numbers (records ms)) (numbers (records ks) ++ (c ∷ d ∷ count ks ∷ (length (records ks) + 1) ∷ s.aft)))
      ∙ sym (append_assoc (s.fore ++ numbers (records ms)) (numbers (records ks)) (c ∷ d ∷ count ks ∷ (length (records ks) + 1) ∷ s.aft)) in
      ap (λ z. get_or z (WIDTH * (i - 1) + j) 0) same ∙ ap (λ z. get_or (hs ++ (c ∷ d ∷ count ks ∷ (length (records ks) + 1) ∷ s.aft)) z 0) at ∙ get_or-append-add hs (c ∷ d ∷ count ks ∷ (length (records ks) + 1) ∷ s.aft) j 0

  pub found : Found N i c d ks
  found =
      let e = s.upto in
      let p = ap length s.parted in
      let q = length-append s.fore (numbers (records (beside ms (mk c d ks end))) ++ s.aft) in
      let r = length-append (numbers (records (beside ms (mk c d ks end)))) s.aft in
      let x = length_numbers (records (beside ms (mk c d ks end))) in
      record {
        there = omega (arith, e, long);
        inside = omega (arith, e, p, q, r, x);
        code = ap (λ z. get_or N z 0) (let k : WIDTH * (i - 1) ≡ WIDTH * (i - 1) + 0 = omega arith in k) ∙ entry 0;
        detail = entry 1;
        children = entry 2;
        extent = entry 3;
        enough = omega (arith, e, long);
      }
