-- Records turned round where they stand. turned_on: a turn of the loop of `reverse`. turned_whole: its end. rotated: three reversals bring
-- the second records before the first. Assumes nothing.
use mathlib.Core.List.{List, [], ◌∷◌, ◌++◌, append_assoc, reverse, reverse-cons, reverse-append, reverse-reverse}
use mathlib.Core.Path.{◌≡◌, refl, sym, ap, ◌∙◌}
use Prim.Native.Nat.{ℕ, ◌+◌, ◌*◌, ◌<◌, ◌≤◌, ◌-◌, min}
use lib.ListN.{length, set, get_or, length-set, length-append, length-reverse, take, drop, take-append-drop, length-take, length-drop, get_or-append}
use lib.Seq.{get_or-append-add, set-append_left}
use native.Mathlib.Omega.{arith}
use Rattle.grammar.specs.Sizes.{WIDTH}
use Rattle.grammar.specs.Nodes.{Rec, rec, numbers}
use Rattle.descent.proofs.Fill.{fill, Filled}
use Rattle.descent.proofs.Filling.{numbers_on, length_numbers, set_on, fill_at, length_fill}
use Rattle.reader.specs.Turning.{swapped_at, Turned}

-- ── one exchange ──
-- the numbers numbered i of P and of Q
swap_at : (hs P ms Q : List ℕ) (i a b : ℕ) → i < length P → a ≡ length hs + i → b ≡ length hs + (length P + (length ms + i)) → swapped_at (hs ++ (P ++ (ms ++ Q))) a b ≡ hs ++ (set P i (get_or Q i 0) ++ (ms ++ set Q i (get_or P i 0)))
unfolding swapped_at
swap_at hs P ms Q i a b h e f =
    let x : ℕ = get_or P i 0 in
    let y : ℕ = get_or Q i 0 in
    let P' : List ℕ = set P i y in
    let l : length P' ≡ length P = length-set P i y in
    let f' : b ≡ length hs + (length P' + (length ms + i)) = omega (arith, f, l) in
    let at_b : get_or (hs ++ (P ++ (ms ++ Q))) b 0 ≡ y =
    ap (λ k. get_or (hs ++ (P ++ (ms ++ Q))) k 0) f
    ∙ get_or-append-add hs (P ++ (ms ++ Q)) (length P + (length ms + i)) 0
    ∙ get_or-append-add P (ms ++ Q) (length ms + i) 0
    ∙ get_or-append-add ms Q i 0 in
    let atA : get_or (hs ++ (P ++ (ms ++ Q))) a 0 ≡ x =
    ap (λ k. get_or (hs ++ (P ++ (ms ++ Q))) k 0) e
    ∙ get_or-append-add hs (P ++ (ms ++ Q)) i 0
    ∙ get_or-append P (ms ++ Q) 0 i h in
    let one : set (hs ++ (P ++ (ms ++ Q))) a y ≡ hs ++ (P' ++ (ms ++ Q)) =
    ap (λ k. set (hs ++ (P ++ (ms ++ Q))) k y) e
    ∙ set_on hs i (P ++ (ms ++ Q)) y
    ∙ ap (λ (t : List ℕ). hs ++ t) (set-append_left P (ms ++ Q) i y h) in
    let two : set (hs ++ (P' ++ (ms ++ Q))) b x ≡ hs ++ (P' ++ (ms ++ set Q i x)) =
    ap (λ k. set (hs ++ (P' ++ (ms ++ Q))) k x) f'
    ∙ set_on hs (length P' + (length ms + i)) (P' ++ (ms ++ Q)) x
    ∙ ap (λ (t : List ℕ). hs ++ t) (set_on P' (length ms + i) (ms ++ Q) x ∙ ap (λ (t : List ℕ). P' ++ t) (set_on ms i Q x)) in
    ap (λ z. set (set (hs ++ (P ++ (ms ++ Q))) a z) b (get_or (hs ++ (P ++ (ms ++ Q))) a 0)) at_b
    ∙ ap (λ z. set (set (hs ++ (P ++ (ms ++ Q))) a y) b z) atA
    ∙ ap (λ (t : List ℕ). set t b x) one
    ∙ two

-- four numbers, as the code exchanges them
abbrev exchanged : List ℕ → ℕ → ℕ → List ℕ
exchanged N a b = swapped_at (swapped_at (swapped_at (swapped_at N a b) (a + 1) (b + 1)) (a + 2) (b + 2)) (a + 3) (b + 3)

exchange : (hs ms cs : List ℕ) (c d n s c' d' n' s' : ℕ) (a b : ℕ) → length hs ≡ a → b ≡ a + 4 + length ms → exchanged (hs ++ (c ∷ d ∷ n ∷ s ∷ (ms ++ (c' ∷ d' ∷ n' ∷ s' ∷ cs)))) a b ≡ hs ++ (c' ∷ d' ∷ n' ∷ s' ∷ (ms ++ (c ∷ d ∷ n ∷ s ∷ cs)))
exchange hs ms cs c d n s c' d' n' s' a b e f =
    ap (λ (t : List ℕ). swapped_at (swapped_at (swapped_at t (a + 1) (b + 1)) (a + 2) (b + 2)) (a + 3) (b + 3)) (swap_at hs (c ∷ d ∷ n ∷ s ∷ []) ms (c' ∷ d' ∷ n' ∷ s' ∷ cs) 0 a b (omega arith) (omega arith) (omega arith))
    ∙ ap (λ (t : List ℕ). swapped_at (swapped_at t (a + 2) (b + 2)) (a + 3) (b + 3)) (swap_at hs (c' ∷ d ∷ n ∷ s ∷ []) ms (c ∷ d' ∷ n' ∷ s' ∷ cs) 1 (a + 1) (b + 1) (omega arith) (omega arith) (omega arith))
    ∙ ap (λ (t : List ℕ). swapped_at t (a + 3) (b + 3)) (swap_at hs (c' ∷ d' ∷ n ∷ s ∷ []) ms (c ∷ d ∷ n' ∷ s' ∷ cs) 2 (a + 2) (b + 2) (omega arith) (omega arith) (omega arith))
    ∙ swap_at hs (c' ∷ d' ∷ n' ∷ s ∷ []) ms (c ∷ d ∷ n ∷ s' ∷ cs) 3 (a + 3) (b + 3) (omega arith) (omega arith) (omega arith)

-- ── the loop ──
-- the first and the last of records, among their numbers
end_numbers : (c d n s : ℕ) (ms : List Rec) (c' d' n' s' : ℕ) (cs : List ℕ) → numbers (rec c d n s ∷ (ms ++ (rec c' d' n' s' ∷ []))) ++ cs ≡ c ∷ d ∷ n ∷ s ∷ (numbers ms ++ (c' ∷ d' ∷ n' ∷ s' ∷ cs))
unfolding numbers
end_numbers c d n s ms c' d' n' s' cs =
    ap (λ (t : List ℕ). c ∷ d ∷ n ∷ s ∷ t) (ap (λ (t : List ℕ). t ++ cs) (numbers_on ms (rec c' d' n' s' ∷ [])) ∙ append_assoc (numbers ms) (c' ∷ d' ∷ n' ∷ s' ∷ []) cs)

turned_ends : (r q : Rec) (ms : List Rec) → reverse (r ∷ (ms ++ (q ∷ []))) ≡ q ∷ (reverse ms ++ (r ∷ []))
turned_ends r q ms = reverse-cons r (ms ++ (q ∷ [])) ∙ ap (λ (t : List Rec). t ++ (r ∷ [])) (reverse-append ms (q ∷ []))

on_ends : (hs : List ℕ) (r q : Rec) (ms : List Rec) (cs N E : List ℕ) (a b : ℕ) → N ≡ hs ++ (numbers (r ∷ (ms ++ (q ∷ []))) ++ cs) → length hs ≡ a → b ≡ a + 4 + length ms * WIDTH → E ≡ hs ++ (numbers (reverse (r ∷ (ms ++ (q ∷ [])))) ++ cs) → Turned (exchanged N a b) (a + 4) b E
on_ends hs (rec c d n s) (rec c' d' n' s') ms cs N E a b e l m g =
    let four : List ℕ = c' ∷ d' ∷ n' ∷ s' ∷ [] in
    let k : length (numbers ms) ≡ WIDTH * length ms = length_numbers ms in
    let f : length (hs ++ four) ≡ length hs + length four = length-append hs four in
    record {
      fore = hs ++ four;
      turning = ms;
      aft = c ∷ d ∷ n ∷ s ∷ cs;
      now_is = ap (λ (t : List ℕ). exchanged t a b) (e ∙ ap (λ (t : List ℕ). hs ++ t) (end_numbers c d n s ms c' d' n' s' cs))
          ∙ exchange hs (numbers ms) cs c d n s c' d' n' s' a b l (omega (arith, m, k))
          ∙ sym (append_assoc hs four (numbers ms ++ (c ∷ d ∷ n ∷ s ∷ cs)));
      fore_long = omega (arith, f, l);
      turning_long = omega (arith, m);
      then_is = g
          ∙ ap (λ (t : List Rec). hs ++ (numbers t ++ cs)) (turned_ends (rec c d n s) (rec c' d' n' s') ms)
          ∙ ap (λ (t : List ℕ). hs ++ t) (end_numbers c' d' n' s' (reverse ms) c d n s cs)
          ∙ sym (append_assoc hs four (numbers (reverse ms) ++ (c ∷ d ∷ n ∷ s ∷ cs)));
    }

last_of : (r : Rec) (rs : List Rec) → (ms : List Rec) × (q : Rec) × (r ∷ rs ≡ ms ++ (q ∷ []))
last_of r [] = ([], r, refl)
last_of r (p ∷ rs) = let v = last_of p rs in (r ∷ v.0, v.1, ap (λ (t : List Rec). r ∷ t) v.2)

on_recs : (hs : List ℕ) (rs : List Rec) (cs N E : List ℕ) (a b : ℕ) → a < b → N ≡ hs ++ (numbers rs ++ cs) → length hs ≡ a → b + 4 ≡ a + length rs * WIDTH → E ≡ hs ++ (numbers (reverse rs) ++ cs) → Turned (exchanged N a b) (a + 4) b E
on_recs hs [] cs N E a b h e l m g = absurd (omega arith)
on_recs hs (r ∷ []) cs N E a b h e l m g = absurd (omega arith)
on_recs hs (r ∷ p ∷ rs) cs N E a b h e l m g =
    let v = last_of p rs in
    let ms : List Rec = v.0 in
    let q : Rec = v.1 in
    let w : p ∷ rs ≡ ms ++ (q ∷ []) = v.2 in
    let k : length (p ∷ rs) ≡ length ms + length (q ∷ []) = ap length w ∙ length-append ms (q ∷ []) in
    on_ends hs r q ms cs N E a b
    (e ∙ ap (λ (t : List Rec). hs ++ (numbers (r ∷ t) ++ cs)) w)
    l
    (omega (arith, m, k))
    (g ∙ ap (λ (t : List Rec). hs ++ (numbers (reverse (r ∷ t)) ++ cs)) w)

-- one turn of the loop, by its four exchanges; it has b' where it had b
pub turned_on : (N N₁ N₂ N₃ N₄ E : List ℕ) (a b b' : ℕ) → b ≡ b' + 4 → a < b' → N₁ ≡ swapped_at N a b' → N₂ ≡ swapped_at N₁ (a + 1) (b' + 1) → N₃ ≡ swapped_at N₂ (a + 2) (b' + 2) → N₄ ≡ swapped_at N₃ (a + 3) (b' + 3) → Turned N a b E → Turned N₄ (a + 4) b' E
turned_on N N₁ N₂ N₃ N₄ E a b b' p h e₁ e₂ e₃ e₄ t =
    let m : b ≡ a + length t.turning * WIDTH = t.turning_long in
    let all : N₄ ≡ exchanged N a b' = e₄ ∙ ap (λ (z : List ℕ). swapped_at z (a + 3) (b' + 3)) (e₃ ∙ ap (λ (z : List ℕ). swapped_at z (a + 2) (b' + 2)) (e₂ ∙ ap (λ (z : List ℕ). swapped_at z (a + 1) (b' + 1)) e₁)) in
    rw all (on_recs t.fore t.turning t.aft N E a b' h t.now_is t.fore_long (omega (arith, p, m)) t.then_is)

turned_short : (hs : List ℕ) (rs : List Rec) (cs : List ℕ) → length rs ≤ 1 → hs ++ (numbers rs ++ cs) ≡ hs ++ (numbers (reverse rs) ++ cs)
turned_short hs [] cs h = refl
turned_short hs (r ∷ []) cs h = refl
turned_short hs (r ∷ p ∷ rs) cs h = absurd (omega arith)

-- fewer than two are left
pub turned_whole : (N E : List ℕ) (a b : ℕ) → b ≤ a + 4 → Turned N a b E → N ≡ E
turned_whole N E a b h t =
    let m : b ≡ a + length t.turning * WIDTH = t.turning_long in
    t.now_is ∙ turned_short t.fore t.turning t.aft (omega (arith, m)) ∙ sym t.then_is

-- ── three reversals ──
-- one reversal of the records ms, between hs and cs
turn_one : (N N' hs : List ℕ) (ms : List Rec) (cs : List ℕ) (m k : ℕ) → ((E : List ℕ) → Turned N (m * WIDTH) (k * WIDTH) E → N' ≡ E) → N ≡ hs ++ (numbers ms ++ cs) → length hs ≡ m * WIDTH → k ≡ m + length ms → N' ≡ hs ++ (numbers (reverse ms) ++ cs)
turn_one N N' hs ms cs m k f e l h =
    f (hs ++ (numbers (reverse ms) ++ cs)) record { fore = hs; turning = ms; aft = cs; now_is = e; fore_long = l; turning_long = omega (arith, h); then_is = refl }

side_by_side : (hs cs : List ℕ) (rs qs : List Rec) → hs ++ (numbers (rs ++ qs) ++ cs) ≡ hs ++ (numbers rs ++ (numbers qs ++ cs))
side_by_side hs cs rs qs = ap (λ (t : List ℕ). hs ++ t) (ap (λ (t : List ℕ). t ++ cs) (numbers_on rs qs) ∙ append_assoc (numbers rs) (numbers qs) cs)

turned_both : (rs qs : List Rec) → reverse (reverse rs ++ reverse qs) ≡ qs ++ rs
turned_both rs qs = reverse-append (reverse rs) (reverse qs) ∙ ap (λ (t : List Rec). t ++ reverse (reverse rs)) (reverse-reverse qs) ∙ ap (λ (t : List Rec). qs ++ t) (reverse-reverse rs)

thrice : (T T₁ T₂ T₃ hs cs : List ℕ) (rs qs : List Rec) (m k e : ℕ) → ((E : List ℕ) → Turned T (m * WIDTH) (k * WIDTH) E → T₁ ≡ E) → ((E : List ℕ) → Turned T₁ (k * WIDTH) (e * WIDTH) E → T₂ ≡ E) → ((E : List ℕ) → Turned T₂ (m * WIDTH) (e * WIDTH) E → T₃ ≡ E) → T ≡ hs ++ (numbers (rs ++ qs) ++ cs) → length hs ≡ m * WIDTH → k ≡ m + length rs → e ≡ k + length qs → T₃ ≡ hs ++ (numbers (qs ++ rs) ++ cs)
thrice T T₁ T₂ T₃ hs cs rs qs m k e f₁ f₂ f₃ t l p q =
    let rs' : List Rec = reverse rs in
    let qs' : List Rec = reverse qs in
    let lr : length rs' ≡ length rs = length-reverse rs in
    let lq : length qs' ≡ length qs = length-reverse qs in
    let ln : length (numbers rs') ≡ WIDTH * length rs' = length_numbers rs' in
    let lh : length (hs ++ numbers rs') ≡ length hs + length (numbers rs') = length-append hs (numbers rs') in
    let lb : length (rs' ++ qs') ≡ length rs' + length qs' = length-append rs' qs' in
    let t₁ : T₁ ≡ hs ++ (numbers rs' ++ (numbers qs ++ cs)) = turn_one T T₁ hs rs (numbers qs ++ cs) m k f₁ (t ∙ side_by_side hs cs rs qs) l p in
    let t₂ : T₂ ≡ hs ++ numbers rs' ++ (numbers qs' ++ cs) =
    turn_one T₁ T₂ (hs ++ numbers rs') qs cs k e f₂ (t₁ ∙ sym (append_assoc hs (numbers rs') (numbers qs ++ cs))) (omega arith) q in
    let t₃ : T₃ ≡ hs ++ (numbers (reverse (rs' ++ qs')) ++ cs) =
    turn_one T₂ T₃ hs (rs' ++ qs') cs m e f₃ (t₂ ∙ append_assoc hs (numbers rs') (numbers qs' ++ cs) ∙ sym (side_by_side hs cs rs' qs')) l (omega arith) in
    t₃ ∙ ap (λ (z : List Rec). hs ++ (numbers z ++ cs)) (turned_both rs qs)

-- a table that is filled by records, in three parts
filled_parts : (N : List ℕ) (m k : ℕ) (ms : List Rec) → k ≡ m + length ms → k * WIDTH ≤ length N → fill N m ms ≡ take (m * WIDTH) N ++ (numbers ms ++ drop (length ms * WIDTH) (drop (m * WIDTH) N))
filled_parts N m k ms h r =
    let i : ℕ = m * WIDTH in
    let j : ℕ = length ms * WIDTH in
    let rest : List ℕ = drop i N in
    let l : length (take i N) ≡ min i (length N) = length-take i N in
    let d : length rest ≡ length N - i = length-drop i N in
    let l' : length (take j rest) ≡ min j (length rest) = length-take j rest in
    ap (λ (t : List ℕ). fill t m ms) (sym (take-append-drop i N) ∙ ap (λ (t : List ℕ). take i N ++ t) (sym (take-append-drop j rest)))
    ∙ fill_at ms (take i N) (take j rest) (drop j rest) m (omega (arith, l, r, h)) (omega (arith, l', d, r, h))

pub rotated : (N T T₁ T₂ T₃ : List ℕ) (rs qs : List Rec) (m k e : ℕ) → ((E : List ℕ) → Turned T (m * WIDTH) (k * WIDTH) E → T₁ ≡ E) → ((E : List ℕ) → Turned T₁ (k * WIDTH) (e * WIDTH) E → T₂ ≡ E) → ((E : List ℕ) → Turned T₂ (m * WIDTH) (e * WIDTH) E → T₃ ≡ E) → k ≡ m + length rs → Filled N T m e (rs ++ qs) → Filled N T₃ m e (qs ++ rs)
rotated N T T₁ T₂ T₃ rs qs m k e f₁ f₂ f₃ p a =
    let h : e ≡ m + length (rs ++ qs) = a.counted in
    let l : length (rs ++ qs) ≡ length rs + length qs = length-append rs qs in
    let l' : length (qs ++ rs) ≡ length qs + length rs = length-append qs rs in
    let h' : e ≡ m + length (qs ++ rs) = omega (arith, h, l, l') in
    let same : length (rs ++ qs) ≡ length (qs ++ rs) = omega (arith, l, l') in
    record {
      counted = h';
      stand = λ r.
          let i : ℕ = m * WIDTH in
          let lt : length (take i N) ≡ min i (length N) = length-take i N in
          thrice T T₁ T₂ T₃ (take i N) (drop (length (rs ++ qs) * WIDTH) (drop i N)) rs qs m k e f₁ f₂ f₃
          (a.stand r ∙ filled_parts N m e (rs ++ qs) h r)
          (omega (arith, lt, r, h))
          p
          (omega (arith, p, h, l))
          ∙ ap (λ z. take i N ++ (numbers (qs ++ rs) ++ drop (z * WIDTH) (drop i N))) same
          ∙ sym (filled_parts N m e (qs ++ rs) h' r);
    }

-- where the table has no room for them nothing is told
pub unrotated : (N T T' : List ℕ) (rs qs : List Rec) (m e : ℕ) → length T < e * WIDTH → Filled N T m e (rs ++ qs) → Filled N T' m e (qs ++ rs)
unrotated N T T' rs qs m e h a =
    let c = a.counted in
    let l : length (rs ++ qs) ≡ length rs + length qs = length-append rs qs in
    let l' : length (qs ++ rs) ≡ length qs + length rs = length-append qs rs in
    record {
      counted = omega (arith, c, l, l');
      stand = λ r.
          let g : length T ≡ length N = ap length (a.stand r) ∙ length_fill N m (rs ++ qs) in
          absurd (omega (arith, g, h, r));
    }
