-- The turns of the writer's loops: what is yet to be written before a turn and after it, and all of it written at the end. Along first operands
-- (along_turn, bare_goes, bare_ends), parted lists (parted_more, ..), VALUES' rows (rows_more, ..), FROM's parts (joined_more, ..), CASE (case_more, ..).
-- Assumes nothing.
use mathlib.Core.Bool.{false}
use mathlib.Core.List.{List, [], ◌∷◌, ◌++◌, append_assoc, append-nil}
use mathlib.Core.Logic.{◌⊎◌, inl, inr}
use mathlib.Core.Path.{◌≡◌, refl, sym, ap, ◌∙◌, subst}
use Prim.Native.Nat.{ℕ, zero, suc, ◌+◌, ◌-◌, ◌≤◌, ◌<◌}
use lib.Dec.{ltb}
use native.Mathlib.Omega.{arith}
use borrow.Author.Tests.{ltb-true, ltb-false}
use Rattle.theory.specs.Trees.{Tok}
use Rattle.theory.proofs.Cases.{by_bool}
use Rattle.kinds.specs.Kinds.{LP, RP, COMMA, WHEN, THEN}
use Rattle.grammar.specs.NodeNames.{node_parens, node_values, node_case}
use Rattle.grammar.specs.Nodes.{Nodes, end, count}
use Rattle.grammar.specs.Reading.{choose}
use Rattle.grammar.specs.Writing.{Piece, at, after as put_after, within, joined, parted, rows, node_str, tok}
use Rattle.canon.proofs.Folds.{P, P_end}
use Rattle.shapes.specs.Shape.{Class, a_from, a_source, a_join, an_expr, list_of, ◌▸◌, many_of, Shaped, shaped_more}
use Rattle.scribe.proofs.Standing.{Stands, Puts}
use Rattle.scribe.proofs.Tokens.{nothing_put, ◌after◌, puts_as}
use Rattle.scribe.proofs.Spelling.{at_fits, at_looser}
use Rattle.scribe.proofs.Whole.{Whole, piece_at, before_of}
use Rattle.scribe.proofs.Kids.{known, kids_stand, Maybe, may_piece, may, Kids1, Youngest, list_view_last, AfterFirst, only_first, last_after, after_first, WhenPairs, CasePair, case_base_only, case_last_pair}
use Rattle.scribe.proofs.Spelt.{str_at, after_here, from_is, from_shape, values_shape}
use Rattle.scribe.proofs.Lists.{P_none, parted_none, parted_first, parted_last, rows_first, rows_last, joined_last, joined_first, case_toks, case_kids, case_paired, case_based}
use Rattle.scribe.proofs.Clauses.{children_at}
use Rattle.scribe.proofs.Leading.{backs}
use Rattle.scribe.proofs.Parts.{Coded, Term, leads_of, Operand, operand_toks, Row, Part, part_toks, whens_toks, Tailed, opens, Yet, Many, Along}

-- ── LP so many times ──
pub opens_on : (n : ℕ) (ts : List Tok) → opens n ts ≡ opens n [] ++ ts
unfolding opens
opens_on zero ts = refl
opens_on (suc n) ts = ap (λ z. tok LP ∷ z) (opens_on n ts)

pub opens_more : (n : ℕ) (ts : List Tok) → opens n (tok LP ∷ ts) ≡ opens (n + 1) ts
unfolding opens
opens_more zero ts = refl
opens_more (suc n) ts = ap (λ z. tok LP ∷ z) (opens_more n ts) ∙ ap (λ z. opens z ts) (let e : suc (n + 1) ≡ suc n + 1 = omega arith in e)

-- ── along first operands ──
pub along_start : {N : List ℕ} {lane : ℕ} {A : List ℕ} {i s to : ℕ} (t : Term N i) → Along N lane A A i s 0 to to (at s (piece_at t.whole))
unfolding opens
along_start {s = s} t = record { it = t; done = []; puts = nothing_put; same = sym (append-nil (at s (piece_at t.whole))) }

-- a term in no parentheses of one member, yet to be written, after so many LP
pub record Bare (N : List ℕ) (lane : ℕ) (A A' : List ℕ) (i pairs r to : ℕ) (ts : List Tok) : Type 0 where
  pub it : Term N i
  pub bare : it.whole.code ≡ node_parens → 1 < count it.whole.kids
  pub done : List Tok
  pub puts : Puts lane A A' r to done
  pub same : ts ≡ opens pairs ((piece_at it.whole).toks ++ done)

-- RP and one more LP where the term is looser than its place allows
pub along_turn : {N : List ℕ} {lane : ℕ} {A A' : List ℕ} {i s pairs r to : ℕ} {ts : List Tok} (a : Along N lane A A' i s pairs r to ts) {i' : ℕ}
    → ((t : Term N i) → (v : Term N i') × (piece_at t.whole ≡ piece_at v.whole) × (v.whole.code ≡ node_parens → 1 < count v.whole.kids))
    → {k : ℕ} → ((t : Term N i') → k ≡ node_str t.whole.code t.whole.detail)
    → {A₂ : List ℕ} {r₂ pairs₂ : ℕ} → Puts lane A' A₂ r₂ r (choose (ltb k s) (tok RP ∷ []) []) → pairs₂ ≡ choose (ltb k s) (pairs + 1) pairs → Bare N lane A A₂ i' pairs₂ r₂ to ts
unfolding choose
along_turn {N} {lane} {A} {A'} {i} {s} {pairs} {r} {to} {ts} a {i'} f {k} g {A₂} {r₂} {pairs₂} p e =
    record { it = v; bare = b; done = choose (ltb k s) (tok RP ∷ []) [] ++ a.done; puts = p after a.puts; same = a.same ∙ ap (λ z. opens pairs (at s z ++ a.done)) q ∙ turned ∙ ap (λ z. opens z ((piece_at v.whole).toks ++ (choose (ltb k s) (tok RP ∷ []) [] ++ a.done))) (sym e) }
  where
    v : Term N i'
    v = (f a.it).0

    q : piece_at a.it.whole ≡ piece_at v.whole
    q = (f a.it).1

    b : v.whole.code ≡ node_parens → 1 < count v.whole.kids
    b = (f a.it).2

    us : List Tok
    us = (piece_at v.whole).toks

    strong : (piece_at v.whole).str ≡ k
    strong = str_at v.whole b ∙ sym (g v)

    turned : opens pairs (at s (piece_at v.whole) ++ a.done) ≡ opens (choose (ltb k s) (pairs + 1) pairs) (us ++ (choose (ltb k s) (tok RP ∷ []) [] ++ a.done))
    turned =
        by_bool (ltb k s)
        (λ c. let l = ltb-true k s c in
        ap (λ z. opens pairs (z ++ a.done)) (at_looser s (piece_at v.whole) (omega (arith, l, strong)))
        ∙ opens_more pairs ((us ++ (tok RP ∷ [])) ++ a.done)
        ∙ ap (opens (pairs + 1)) (append_assoc us (tok RP ∷ []) a.done)
        ∙ ap (λ z. opens (choose z (pairs + 1) pairs) (us ++ (choose z (tok RP ∷ []) [] ++ a.done))) (sym c))
        (λ c. let l = ltb-false k s c in
        ap (λ z. opens pairs (z ++ a.done)) (at_fits s (piece_at v.whole) (omega (arith, l, strong)))
        ∙ ap (λ z. opens (choose z (pairs + 1) pairs) (us ++ (choose z (tok RP ∷ []) [] ++ a.done))) (sym c))

module _ {N : List ℕ} {lane : ℕ} {A A' : List ℕ} {i pairs r to : ℕ} {ts : List Tok} (b : Bare N lane A A' i pairs r to ts) where
  abbrev pub bare_operand : leads_of b.it.whole.code ≡ false → Operand N i
  bare_operand h = record { it = b.it; first = h; bare = b.bare }

  -- the first of all, and the LP before it
  pub bare_ends : {A₂ A₃ : List ℕ} {r₂ r₃ : ℕ} → ((t : Operand N i) → Puts lane A' A₂ r₂ r (operand_toks N i t)) → leads_of b.it.whole.code ≡ false → Puts lane A₂ A₃ r₃ r₂ (opens pairs []) → Puts lane A A₃ r₃ to ts
  bare_ends f h p = puts_as (b.same ∙ opens_on pairs ((piece_at b.it.whole).toks ++ b.done)) (p after (f (bare_operand h) after b.puts))

  -- all but its first child
  pub bare_goes : {A₂ : List ℕ} {r₂ i' k : ℕ} → Tailed b.it.whole lane A' A₂ r₂ r → k ≡ node_str b.it.whole.code b.it.whole.detail → i' ≡ backs N (children_at N i - 1) (i - 1) → Along N lane A A₂ i' k pairs r₂ to ts
  bare_goes {A₂} {r₂} {i'} {k} t e q =
      subst (λ z. Along N lane A A₂ z k pairs r₂ to ts) (t.led.placed ∙ ap (λ z. backs N (z - 1) (i - 1)) (sym (known b.it.whole).children) ∙ sym q)
      (subst (λ z. Along N lane A A₂ t.led.place z pairs r₂ to ts) (str_at b.it.whole b.bare ∙ sym e)
      (record {
        it = record { class = an_expr; term = refl; whole = t.led.first };
        done = t.ts ++ b.done;
        puts = t.puts after b.puts;
        same = b.same ∙ ap (λ z. opens pairs (z ++ b.done)) t.led.toks ∙ ap (opens pairs) (append_assoc (at (piece_at b.it.whole).str (piece_at t.led.first)) t.ts b.done);
      }))

-- ── any loop ──
-- before the first turn
starts : {spell : List Piece → List Tok} {Q : ℕ → Nodes → Type 0} {lane to j n : ℕ} {A : List ℕ} (ks : Nodes) → Q j ks → count ks ≡ n → Yet spell Q lane A A j n to to (spell (P ks))
starts {spell} ks h e = record { rest = ks; there = h; counted = e; done = []; puts = nothing_put; same = sym (append-nil (spell (P ks))) }

-- a turn: these are left, and those tokens were written
turn : {spell : List Piece → List Tok} {Q : ℕ → Nodes → Type 0} {lane j n r to j' n' r' : ℕ} {A A' A'' : List ℕ} {ts us : List Tok} (y : Yet spell Q lane A A' j n r to ts) (ks : Nodes)
    → Q j' ks → count ks ≡ n' → Puts lane A' A'' r' r us → spell (P y.rest) ≡ spell (P ks) ++ us → Yet spell Q lane A A'' j' n' r' to ts
turn {spell} {us = us} y ks h e p q = record { rest = ks; there = h; counted = e; done = us ++ y.done; puts = p after y.puts; same = y.same ∙ ap (λ z. z ++ y.done) q ∙ append_assoc (spell (P ks)) us y.done }

-- after the last: these tokens, and all is written
ends : {spell : List Piece → List Tok} {Q : ℕ → Nodes → Type 0} {lane j n r to r' : ℕ} {A A' A'' : List ℕ} {ts us : List Tok} (y : Yet spell Q lane A A' j n r to ts) → Puts lane A' A'' r' r us → spell (P y.rest) ≡ us → Puts lane A A'' r' to ts
ends y p q = puts_as (y.same ∙ ap (λ z. z ++ y.done) q) (p after y.puts)

module _ {spell : List Piece → List Tok} {C : Class} {N : List ℕ} {lane j n r to : ℕ} {A A' : List ℕ} {ts : List Tok} (y : Yet spell (Many C N) lane A A' j n r to ts) where
  last_of_many : 0 < n → Youngest C (many_of C) N j y.rest
  last_of_many h = let c = y.counted in list_view_last y.there.1 y.there.0 (omega (arith, h, c))

  pub many_last : 0 < n → Whole C N j
  many_last h = (last_of_many h).last

  -- those before the last
  before_last : {A₂ : List ℕ} {r₂ j' n' : ℕ} {us : List Tok} (k : Youngest C (many_of C) N j y.rest) → Puts lane A' A₂ r₂ r us → j' ≡ before_of N j → n' ≡ n - 1 → spell (P y.rest) ≡ spell (P k.elder) ++ us → Yet spell (Many C N) lane A A₂ j' n' r₂ to ts
  before_last k p e q s = turn y k.elder (subst (λ z. Stands N z k.elder) (sym e) k.stand, k.are) (let a = k.counted in let c = y.counted in omega (arith, a, c, q)) p s

-- ── parted lists ──
pub row_yet : {C : Class} {N : List ℕ} {i : ℕ} (t : Tok) (w : Row C N i) {n j lane to : ℕ} {A : List ℕ} → n ≡ children_at N i → j ≡ i - 1 → Yet (parted t) (Many C N) lane A A j n to to (parted t (P w.kids))
row_yet {N = N} t w e q = starts w.kids (subst (λ z. Stands N z w.kids) (sym q) w.stands, w.shaped) (sym w.counted ∙ sym e)

module _ {t : Tok} {C : Class} {N : List ℕ} {lane j n r to : ℕ} {A A' : List ℕ} {ts : List Tok} (y : Yet (parted t) (Many C N) lane A A' j n r to ts) where
  pub parted_more : {A₂ A₃ : List ℕ} {r₂ r₃ j' n' : ℕ} → ((w : Whole C N j) → Puts lane A' A₂ r₂ r (piece_at w).toks) → Puts lane A₂ A₃ r₃ r₂ (t ∷ []) → j' ≡ before_of N j → n' ≡ n - 1 → 0 < n' → Yet (parted t) (Many C N) lane A A₃ j' n' r₃ to ts
  parted_more f p e q h =
      let k = last_of_many y (omega (arith, q, h)) in
      let a = k.counted in
      let c = y.counted in
      before_last y k (p after f k.last) e q (parted_last k t (omega (arith, a, c, q, h)))

module _ (t : Tok) {C : Class} {N : List ℕ} {lane j n r to : ℕ} {A A' : List ℕ} {ts : List Tok} (y : Yet (parted t) (Many C N) lane A A' j n r to ts) where
  pub parted_final : {A₂ : List ℕ} {r₂ j' n' : ℕ} → ((w : Whole C N j) → Puts lane A' A₂ r₂ r (piece_at w).toks) → j' ≡ before_of N j → n' ≡ n - 1 → 0 < n → n' ≤ 0 → Yet (parted t) (Many C N) lane A A₂ j' n' r₂ to ts
  parted_final f e q h few =
      let k = last_of_many y h in
      let a = k.counted in
      let c = y.counted in
      let none : count k.elder ≡ 0 = omega (arith, a, c, q, h, few) in
      before_last y k (f k.last) e q (parted_first k t none ∙ ap (λ z. z ++ (piece_at k.last).toks) (sym (parted_none t k.elder none)))

  pub parted_done : n ≤ 0 → Puts lane A A' r to ts
  parted_done few = let c = y.counted in ends y nothing_put (parted_none t y.rest (omega (arith, c, few)))

-- ── VALUES' rows ──
pub rows_yet : {N : List ℕ} {i : ℕ} (w : Coded node_values N i) {n j lane to : ℕ} {A : List ℕ} → n ≡ children_at N i → j ≡ i - 1 → Yet rows (Many (list_of an_expr) N) lane A A j n to to (rows (P w.whole.kids))
rows_yet {N} w e q = starts w.whole.kids (subst (λ z. Stands N z w.whole.kids) (sym q) (kids_stand w.whole), shaped_more (values_shape w.whole w.is)) (sym (known w.whole).children ∙ sym e)

module _ {N : List ℕ} {lane j n r to : ℕ} {A A' : List ℕ} {ts : List Tok} (y : Yet rows (Many (list_of an_expr) N) lane A A' j n r to ts) where
  pub rows_more : {A₂ A₃ : List ℕ} {r₂ r₃ j' n' : ℕ} → ((w : Whole (list_of an_expr) N j) → Puts lane A' A₂ r₂ r (within (piece_at w).toks)) → Puts lane A₂ A₃ r₃ r₂ (tok COMMA ∷ []) → j' ≡ before_of N j → n' ≡ n - 1 → 0 < n' → Yet rows (Many (list_of an_expr) N) lane A A₃ j' n' r₃ to ts
  rows_more f p e q h =
      let k = last_of_many y (omega (arith, q, h)) in
      let a = k.counted in
      let c = y.counted in
      before_last y k (p after f k.last) e q (rows_last k (omega (arith, a, c, q, h)))

  pub rows_final : {A₂ : List ℕ} {r₂ j' n' : ℕ} → ((w : Whole (list_of an_expr) N j) → Puts lane A' A₂ r₂ r (within (piece_at w).toks)) → j' ≡ before_of N j → n' ≡ n - 1 → 0 < n → n' ≤ 0 → Yet rows (Many (list_of an_expr) N) lane A A₂ j' n' r₂ to ts
  unfolding rows
  rows_final f e q h few =
      let k = last_of_many y h in
      let a = k.counted in
      let c = y.counted in
      let none : count k.elder ≡ 0 = omega (arith, a, c, q, h, few) in
      before_last y k (f k.last) e q (rows_first k none ∙ ap (λ z. rows z ++ within (piece_at k.last).toks) (sym (P_none k.elder none)))

  pub rows_done : n ≤ 0 → Puts lane A A' r to ts
  unfolding rows
  rows_done few = let c = y.counted in ends y nothing_put (ap rows (P_none y.rest (omega (arith, c, few))))

-- ── FROM's parts ──
abbrev pub FromRest : List ℕ → ℕ → Nodes → Type 0
FromRest N j ks = (count ks ≡ 0) ⊎ (Stands N j ks × Shaped (a_source ▸ many_of a_join) ks)

pub from_yet : {N : List ℕ} {i : ℕ} (w : Whole a_from N i) {n j lane to : ℕ} {A : List ℕ} → n ≡ children_at N i → j ≡ i - 1 → Yet joined (FromRest N) lane A A j n to to (joined (P w.kids))
from_yet {N} w e q = starts w.kids (inr (subst (λ z. Stands N z w.kids) (sym q) (kids_stand w), from_shape w (from_is w))) (sym (known w).children ∙ sym e)

module _ {N : List ℕ} {lane j n r to : ℕ} {A A' : List ℕ} {ts : List Tok} (y : Yet joined (FromRest N) lane A A' j n r to ts) where
  last_part : 0 < n → AfterFirst a_source a_join N j y.rest
  last_part h = go y.there
    where
      go : FromRest N j y.rest → AfterFirst a_source a_join N j y.rest
      go (inl e) = absurd (let c = y.counted in omega (arith, c, e, h))
      go (inr g) = after_first g.1 g.0

  pub from_part : 0 < n → Part N j
  from_part h = go (last_part h)
    where
      go : AfterFirst a_source a_join N j y.rest → Part N j
      go (only_first k) = inl k.first
      go (last_after k) = inr k.last

  pub joined_more : {A₂ : List ℕ} {r₂ j' n' : ℕ} → 0 < n → ((p : Part N j) → Puts lane A' A₂ r₂ r (part_toks N j p)) → j' ≡ before_of N j → n' ≡ n - 1 → Yet joined (FromRest N) lane A A₂ j' n' r₂ to ts
  unfolding joined count
  joined_more {A₂} {r₂} {j'} {n'} h f e q = go (last_part h)
    where
      go : AfterFirst a_source a_join N j y.rest → Yet joined (FromRest N) lane A A₂ j' n' r₂ to ts
      go (only_first k) = turn y end (inl refl) (let a = k.counted in let c = y.counted in omega (arith, a, c, q)) (f (inl k.first)) (joined_first k ∙ ap (λ z. joined z ++ (piece_at k.first).toks) (sym P_end))
      go (last_after k) = turn y k.elder (inr (subst (λ z. Stands N z k.elder) (sym e) k.stand, k.are)) (let a = k.counted in let c = y.counted in omega (arith, a, c, q)) (f (inr k.last)) (joined_last k)

  pub joined_done : n ≤ 0 → Puts lane A A' r to ts
  unfolding joined
  joined_done few = let c = y.counted in ends y nothing_put (ap joined (P_none y.rest (omega (arith, c, few))))

-- ── CASE: its pairs from the last, and the base ──
abbrev pub CaseRest : List ℕ → ℕ → Nodes → Type 0
CaseRest N j ks = Stands N j ks × WhenPairs ks

pub case_yet : {N : List ℕ} {i : ℕ} (w : Coded node_case N i) {n j lane to : ℕ} {A : List ℕ} → n ≡ children_at N i → j ≡ backs N 1 (i - 1) → Yet case_toks (CaseRest N) lane A A j (n - 1) to to (whens_toks N i w)
unfolding backs
case_yet {N} w {n} e q =
    let k = case_kids w.whole w.is in
    let a = k.counted in
    let c = (known w.whole).children in
    starts k.pairs (subst (λ z. Stands N z k.pairs) (sym q) k.stand, k.paired) (omega (arith, a, c, e))

module _ {N : List ℕ} {lane j n r to : ℕ} {A A' : List ℕ} {ts : List Tok} (y : Yet case_toks (CaseRest N) lane A A' j (n - 1) r to ts) where
  last_pair : 3 < n → CasePair N j y.rest
  last_pair h = let c = y.counted in case_last_pair y.there.1 y.there.0 (omega (arith, h, c))

  base : n ≤ 3 → Kids1 (may an_expr) N j y.rest
  base few = let c = y.counted in case_base_only y.there.1 y.there.0 (omega (arith, few, c))

  pub case_result : 3 < n → Maybe an_expr N j
  case_result h = inl (last_pair h).result

  pub case_condition : 3 < n → Maybe an_expr N (before_of N j)
  case_condition h = inl (last_pair h).condition

  pub case_more : {A₂ A₃ : List ℕ} {r₂ r₃ j' n' : ℕ} → 3 < n → ((m : Maybe an_expr N j) → Puts lane A' A₂ r₂ r (put_after (tok THEN ∷ []) (may_piece m))) → ((m : Maybe an_expr N (before_of N j)) → Puts lane A₂ A₃ r₃ r₂ (put_after (tok WHEN ∷ []) (may_piece m)))
      → j' ≡ before_of N (before_of N j) → n' ≡ n - 2 → Yet case_toks (CaseRest N) lane A A₃ j' (n' - 1) r₃ to ts
  case_more h f g e q =
      let k = last_pair h in
      let a = k.counted in
      let c = y.counted in
      turn y k.elder (subst (λ z. Stands N z k.elder) (sym e) k.stand, k.paired) (omega (arith, a, c, q, h))
      (puts_as (sym (after_here (tok WHEN ∷ []) refl k.condition)) (g (inl k.condition)) after puts_as (sym (after_here (tok THEN ∷ []) refl k.result)) (f (inl k.result)))
      (case_paired k)

  pub case_base_at : n ≤ 3 → Maybe an_expr N j
  case_base_at few = (base few).first

  pub case_done : {A₂ : List ℕ} {r₂ : ℕ} → n ≤ 3 → ((m : Maybe an_expr N j) → Puts lane A' A₂ r₂ r (may_piece m).toks) → Puts lane A A₂ r₂ to ts
  case_done few f = ends y (f (base few).first) (case_based (base few))
