-- No writing is long. toks_few: a node that ends at record i of the table is written with at most 12 tokens a record up to i: a node has at
-- most 9 of its own, and 3 for each child, as a row's parentheses and comma. Assumes nothing.
use mathlib.Core.Bool.{Bool, true, false}
use mathlib.Core.List.{List, [], ◌∷◌, ◌++◌}
use mathlib.Core.Path.{sym, ap, subst}
use Prim.Native.Nat.{ℕ, ◌+◌, ◌-◌, ◌*◌, ◌%◌, ◌/◌, ◌≤◌}
use lib.Dec.{eqb, leb}
use lib.ListN.{length, length-append}
use native.Mathlib.Omega.{arith}
use Rattle.theory.specs.Trees.{Tok}
use Rattle.theory.specs.Table.{both, pick}
use Rattle.theory.proofs.Cases.{by_bool}
use Rattle.kinds.specs.Kinds.{RP, ELSE}
use Rattle.words.specs.Words.{NO_WORD}
use Rattle.words.specs.Fewest.{fewest_of, present, words_of}
use Rattle.grammar.specs.NodeNames.{node_absent, node_parens}
use Rattle.grammar.specs.Nodes.{Nodes, end, mk, count, rec, records}
use Rattle.grammar.specs.Reading.{choose}
use Rattle.grammar.specs.Meaning.{meaning, is_one, plain_detail}
use Rattle.grammar.specs.Writing.{tok, Piece, Form, piece, formed, forms, ◌!◌, but_first, at, after, within, joined, each, parted, rows, grouped, join_words, join_of, whens, binary_toks}
use Rattle.canon.proofs.Folds.{P, P_end}
use Rattle.canon.proofs.Places.{◌also◌}
use Rattle.shapes.specs.Shape.{Class}
use Rattle.scribe.proofs.Spelling.{piece_of, P_node}
use Rattle.scribe.proofs.Whole.{Whole, piece_at}
use Rattle.scribe.proofs.Kids.{known}

-- pieces and what a parent may write beside each
unfoldable total : List Piece → ℕ
total [] = 0
total (p ∷ ps) = length p.toks + 3 + total ps

-- ── tokens that are at most so many ──
record Most (ts : List Tok) (n : ℕ) : Type 0 where
  most : length ts ≤ n

none : Most [] 0
none = record { most = omega arith }

all_of : (ts : List Tok) → Most ts (length ts)
all_of ts = record { most = omega arith }

infixr 5 ◌then◌
◌then◌ : {ts us : List Tok} {m n : ℕ} → Most ts m → Most us n → Most (ts ++ us) (m + n)
◌then◌ {ts} {us} a b = record { most = let l = length-append ts us in let x = a.most in let y = b.most in omega (arith, l, x, y) }

one : {t : Tok} {ts : List Tok} {n : ℕ} → Most ts n → Most (t ∷ ts) (n + 1)
one a = record { most = let x = a.most in omega (arith, x) }

inside : {ts : List Tok} {n : ℕ} → Most ts n → Most (within ts) (n + 2)
inside {ts} a = record { most = let l = length-append ts (tok RP ∷ []) in let x = a.most in omega (arith, l, x) }

either : (b : Bool) {ts us : List Tok} {n : ℕ} → Most ts n → Most us n → Most (choose b ts us) n
unfolding choose
either true x y = x
either false x y = y

more : {ts : List Tok} {m n : ℕ} → Most ts m → m ≤ n → Most ts n
more a h = record { most = let x = a.most in omega (arith, x, h) }

-- ── one piece ──
its : (p : Piece) → Most p.toks (length p.toks)
its p = all_of p.toks

placed : (s : ℕ) (p : Piece) → Most (at s p) (length p.toks + 2)
unfolding at
placed s p = either (leb s p.str) (more (its p) (omega arith)) (inside (its p))

behind : (ws : List Tok) (p : Piece) → Most (after ws p) (length ws + length p.toks)
unfolding after
behind ws p = either (eqb p.code node_absent) (more none (omega arith)) (all_of ws then its p)

grouping : (p : Piece) → Most (grouped p) (length p.toks + 2)
unfolding grouped
grouping p = go p.code p.str p.toks
  where
    go : (c s : ℕ) (ts : List Tok) → Most (grouped (record { code = c; str = s; toks = ts })) (length ts + 2)
    go c s [] = record { most = omega arith }
    go c s (t ∷ ts) = record { most = omega arith }

-- ── pieces one after the other ──
joining : (ps : List Piece) → Most (joined ps) (total ps)
unfolding joined total
joining [] = none
joining (p ∷ ps) = more (its p then joining ps) (omega arith)

eaches : (t : Tok) (ps : List Piece) → Most (each t ps) (total ps)
unfolding each total
eaches t [] = none
eaches t (p ∷ ps) = more (one (its p then eaches t ps)) (omega arith)

parts : (t : Tok) (ps : List Piece) → Most (parted t ps) (total ps)
unfolding parted total
parts t [] = none
parts t (p ∷ ps) = more (its p then eaches t ps) (omega arith)

row_list : (ps : List Piece) → Most (rows ps) (total ps)
unfolding rows total
row_list [] = none
row_list (p ∷ []) = more (inside (its p)) (omega arith)
row_list (p ∷ (q ∷ ps)) = more (inside (its p) then one (row_list (q ∷ ps))) (omega arith)

pairs : (ps : List Piece) → Most (whens ps) (total ps)
unfolding whens total
pairs [] = none
pairs (e ∷ []) = more (behind (tok ELSE ∷ []) e) (omega arith)
pairs (a ∷ (b ∷ ps)) = more (one (its a then one (its b then pairs ps))) (omega arith)

-- ── join words ──
word_few : (w : ℕ) → length (present w) ≤ 1
word_few w = by_bool (eqb w NO_WORD) (λ e. rw e (omega arith)) (λ e. rw e (omega arith))

words_few : (ws : List ℕ) → Most (join_words ws) (length ws)
unfolding join_words
words_few [] = none
words_few (w ∷ ws) = more (one (words_few ws)) (omega arith)

join_few : (d : ℕ) → Most (join_of d) 3
unfolding join_of
join_few d =
    let w = fewest_of (d - 64) in
    let a = word_few w.first in
    let b = word_few w.second in
    let l = length-append (present w.first) (present w.second) in
    either (eqb d 0) (more (one none) (omega arith)) (more (words_few (words_of w) then one none) (omega (arith, a, b, l)))

operator_few : (d : ℕ) → Most (binary_toks d) 2
unfolding binary_toks pick
operator_few d =
    by_bool (leb 300 d) (λ a. rw a (one (one none)))
    (λ a. rw a (by_bool (leb 200 d) (λ b. rw b (more (one none) (omega arith)))
    (λ b. rw b (by_bool (eqb d 137) (λ e. rw e (one (one none))) (λ e. rw e (more (one none) (omega arith)))))))

-- ── the table of forms ──
-- the first five children, those that are there
firsts : (k : List Piece) → length (k ! 0).toks + length (k ! 1).toks + length (k ! 2).toks + length (k ! 3).toks + length (k ! 4).toks ≤ total k
unfolding ◌!◌ total
firsts [] = omega arith
firsts (a ∷ []) = omega arith
firsts (a ∷ (b ∷ [])) = omega arith
firsts (a ∷ (b ∷ (c ∷ []))) = omega arith
firsts (a ∷ (b ∷ (c ∷ (d ∷ [])))) = omega arith
firsts (a ∷ (b ∷ (c ∷ (d ∷ (e ∷ ps))))) = omega arith

cases : (k : List Piece) → length (k ! 0).toks + total (but_first k) ≤ total k
unfolding ◌!◌ but_first total
cases [] = omega arith
cases (p ∷ ps) = omega arith

-- a word that may stand there
word : (b : Bool) (t : Tok) → Most (choose b (t ∷ []) []) 1
word b t = either b (one none) (more none (omega arith))

abbrev Brief : Form → Type 0
Brief f = (d : ℕ) (k : List Piece) → Most (f.make d k) (total k + 9)

abbrev AllBrief : List Form → Type 0
AllBrief [] = Unit {0}
AllBrief (f ∷ fs) = Brief f × AllBrief fs

-- a name or a literal: one token
one_token : {t : Tok} (k : List Piece) → Most (t ∷ []) (total k + 9)
one_token k = more (one none) (omega arith)

all_brief : AllBrief forms
unfolding forms
all_brief =
    (λ d k. more (its (k ! 0) then behind _ (k ! 1) then behind _ (k ! 2) then behind _ (k ! 3)) (omega (arith, firsts k)))
    also (λ d k. more (one (word (eqb d 1) _ then its (k ! 0) then its (k ! 1) then behind _ (k ! 2) then grouping (k ! 3) then behind _ (k ! 4))) (omega (arith, firsts k)))
    also (λ d k. more (one (row_list k)) (omega arith))
    also (λ d k. more (parts _ k) (omega arith))
    also (λ d k. one_token k)
    also (λ d k. more (its (k ! 0) then one (one none)) (omega (arith, firsts k)))
    also (λ d k. more (its (k ! 0) then behind _ (k ! 1)) (omega (arith, firsts k)))
    also (λ d k. more (one (joining k)) (omega arith))
    also (λ d k. more (join_few d then its (k ! 0) then its (k ! 1)) (omega (arith, firsts k)))
    also (λ d k. more (one (its (k ! 0))) (omega (arith, firsts k)))
    also (λ d k. more (one (inside (parts _ k))) (omega arith))
    also (λ d k. more (its (k ! 0) then either _ (more none (omega arith)) (one none) then its (k ! 1) then behind _ (k ! 2) then either (eqb (d / 4) 2) (more (one (one none)) (omega arith)) (behind _ (k ! 3))) (omega (arith, firsts k)))
    also (λ d k. more (inside (its (k ! 0)) then behind _ (k ! 1)) (omega (arith, firsts k)))
    also (λ d k. more (its (k ! 0) then word (eqb (d % 4) 2) _ then either (eqb (d / 4) 1) (one (one none)) (either (eqb (d / 4) 2) (one (one none)) (more none (omega arith)))) (omega (arith, firsts k)))
    also (λ d k. one_token k)
    also (λ d k. one_token k)
    also (λ d k. one_token k)
    also (λ d k. one_token k)
    also (λ d k. one_token k)
    also (λ d k. one_token k)
    also (λ d k. one_token k)
    also (λ d k. one_token k)
    also (λ d k. one_token k)
    also (λ d k. one_token k)
    also (λ d k. one_token k)
    also (λ d k. more (parts _ k) (omega arith))
    also (λ d k. more (its (k ! 0) then inside (either (eqb d 2) (more (one none) (omega arith)) (word (eqb d 1) _ then its (k ! 1)))) (omega (arith, firsts k)))
    also (λ d k. more (inside (parts _ k)) (omega arith))
    also (λ d k. more (inside (its (k ! 0))) (omega (arith, firsts k)))
    also (λ d k. more (one (inside (its (k ! 0)))) (omega (arith, firsts k)))
    also (λ d k. more (one (its (k ! 0) then pairs (but_first k) then one none)) (omega (arith, cases k)))
    also (λ d k. more (one (inside (its (k ! 0) then one (its (k ! 1))))) (omega (arith, firsts k)))
    also (λ d k. more (one (placed _ (k ! 0))) (omega (arith, firsts k)))
    also (λ d k. more (placed _ (k ! 0) then operator_few d then placed _ (k ! 1)) (omega (arith, firsts k)))
    also (λ d k. more (placed _ (k ! 0) then one none) (omega (arith, firsts k)))
    also (λ d k. more (placed _ (k ! 0) then word (eqb d 1) _ then one (inside (its (k ! 1)))) (omega (arith, firsts k)))
    also (λ d k. more (placed _ (k ! 0) then word (eqb d 1) _ then one (inside (its (k ! 1)))) (omega (arith, firsts k)))
    also (λ d k. more (placed _ (k ! 0) then word (eqb d 1) _ then one (placed _ (k ! 1) then one (placed _ (k ! 2)))) (omega (arith, firsts k)))
    also (λ d k. more (placed _ (k ! 0) then one (its (k ! 1))) (omega (arith, firsts k)))
    also tt

formed_brief : (c : ℕ) (fs : List Form) → AllBrief fs → (d : ℕ) (k : List Piece) → Most (formed c fs d k) (total k + 9)
unfolding formed pick
formed_brief c [] h d k = more none (omega arith)
formed_brief c (f ∷ fs) h d k = by_bool (eqb c f.of) (λ e. rw e (h.0 d k)) (λ e. rw e (formed_brief c fs h.1 d k))

-- ── nodes ──
piece_brief : (c d : ℕ) (ks : Nodes) → Most (piece_of c d ks).toks (total (P ks) + 9)
unfolding piece_of piece choose
piece_brief c d ks = go (both (eqb c node_parens) (is_one (meaning ks)))
  where
    go : (b : Bool) → Most (choose b (P ks ! 0) (piece c (plain_detail c d) (P ks))).toks (total (P ks) + 9)
    go true = more (its (P ks ! 0)) (let h = firsts (P ks) in omega (arith, h))
    go false = formed_brief c forms all_brief (plain_detail c d) (P ks)

total_few : (ns : Nodes) → total (P ns) ≤ 12 * length (records ns)
unfolding total records
total_few end = subst (λ z. total z ≤ 0) (sym P_end) (omega arith)
total_few (mk c d ks ns) =
    let h = (piece_brief c d ks).most in
    let a = total_few ks in
    let b = total_few ns in
    let l = length-append (records ks) (rec c d (count ks) (length (records ks) + 1) ∷ records ns) in
    let e = ap total (P_node c d ks ns) in
    omega (arith, h, a, b, l, e)

pub toks_few : {C : Class} {N : List ℕ} {i : ℕ} (w : Whole C N i) → length (piece_at w).toks ≤ 12 * i
toks_few w =
    let h = (piece_brief w.code w.detail w.kids).most in
    let a = total_few w.kids in
    let e = (known w).enough in
    omega (arith, h, a, e)
