-- What is written for lists, VALUES' rows, FROM's joins and CASE, from the right end: by the last child and what is written for those before it.
-- Assumes nothing.
use mathlib.Core.Bool.{false}
use mathlib.Core.List.{List, [], ◌∷◌, ◌++◌, append_assoc, append-nil}
use mathlib.Core.Path.{◌≡◌, refl, sym, ap, ◌∙◌, subst}
use Prim.Native.Nat.{ℕ, ◌-◌, ◌<◌}
use lib.Dec.{eqb}
use native.Mathlib.Omega.{arith}
use Rattle.theory.specs.Trees.{Tok}
use Rattle.theory.specs.Table.{both, pick}
use Rattle.theory.proofs.Cases.{0≢1, eqb-true}
use Rattle.kinds.specs.Kinds.{COMMA, CASE, WHEN, THEN, ELSE, END}
use Rattle.grammar.specs.NodeNames.{node_case}
use Rattle.grammar.specs.Nodes.{Nodes, end, mk, count, beside}
use Rattle.grammar.specs.Meaning.{plain_detail}
use Rattle.grammar.specs.Writing.{Piece, formed, forms, node_str, ◌!◌, but_first, after, within, joined, each, parted, rows, whens, tok}
use Rattle.canon.proofs.Folds.{P, P_end, P_beside}
use Rattle.shapes.specs.Shape.{Class, an_expr, Shape, fin, ◌▸◌, ◌▸?◌, when_thens, Shaped, shaped_end, shaped_next, shaped_gone, shaped_here}
use Rattle.shapes.proofs.ByCode.{code_says, if_so, at_code}
use Rattle.scribe.proofs.Spelling.{piece_of, P_node}
use Rattle.scribe.proofs.Whole.{Whole, piece_at}
use Rattle.scribe.proofs.Kids.{must, may, may_piece, kids_stand, Kids1, Youngest, WhenPairs, base_only, pair_last, CaseEnd, CasePair, case_end}
use Rattle.scribe.proofs.Spelt.{Spelt, as_shape, spelt_at}

-- ── none, and some ──
pub P_none : (ns : Nodes) → count ns ≡ 0 → P ns ≡ []
unfolding count
P_none end e = P_end
P_none (mk c d ks ns) e = absurd (omega (arith, e))

pub record Some (ps : List Piece) : Type 0 where
  pub head : Piece
  pub more : List Piece
  pub same : ps ≡ head ∷ more

pub P_some : (ns : Nodes) → 0 < count ns → Some (P ns)
unfolding count
P_some end h = absurd (omega (arith, h))
P_some (mk c d ks ns) h = record { head = piece_of c d ks; more = P ns; same = P_node c d ks ns }

-- ── a list of pieces with one more ──
each_on : (t : Tok) (ps : List Piece) (p : Piece) → each t (ps ++ (p ∷ [])) ≡ each t ps ++ (t ∷ p.toks)
unfolding each
each_on t [] p = ap (λ z. t ∷ z) (append-nil p.toks)
each_on t (q ∷ ps) p = ap (λ z. t ∷ (q.toks ++ z)) (each_on t ps p) ∙ ap (λ z. t ∷ z) (sym (append_assoc q.toks (each t ps) (t ∷ p.toks)))

parted_on : (t : Tok) (q : Piece) (ps : List Piece) (p : Piece) → parted t (q ∷ (ps ++ (p ∷ []))) ≡ parted t (q ∷ ps) ++ (t ∷ p.toks)
unfolding parted
parted_on t q ps p = ap (λ z. q.toks ++ z) (each_on t ps p) ∙ sym (append_assoc q.toks (each t ps) (t ∷ p.toks))

parted_only : (t : Tok) (p : Piece) → parted t (p ∷ []) ≡ p.toks
unfolding parted each
parted_only t p = append-nil p.toks

rows_on : (q : Piece) (ps : List Piece) (p : Piece) → rows (q ∷ (ps ++ (p ∷ []))) ≡ rows (q ∷ ps) ++ (tok COMMA ∷ within p.toks)
unfolding rows
rows_on q [] p = refl
rows_on q (r ∷ ps) p = ap (λ z. within q.toks ++ (tok COMMA ∷ z)) (rows_on r ps p) ∙ sym (append_assoc (within q.toks) (tok COMMA ∷ rows (r ∷ ps)) (tok COMMA ∷ within p.toks))

joined_on : (ps : List Piece) (p : Piece) → joined (ps ++ (p ∷ [])) ≡ joined ps ++ p.toks
unfolding joined
joined_on [] p = append-nil p.toks
joined_on (q ∷ ps) p = ap (λ z. q.toks ++ z) (joined_on ps p) ∙ sym (append_assoc q.toks (joined ps) p.toks)

pub parted_none : (t : Tok) (ks : Nodes) → count ks ≡ 0 → parted t (P ks) ≡ []
unfolding parted
parted_none t ks e = ap (parted t) (P_none ks e)

not_none : (n : ℕ) → eqb n 0 ≡ false → 0 < n
not_none n e = let k : n ≡ 0 → ⊥ = λ q. 0≢1 (sym e ∙ eqb-true n 0 q) in omega (arith, k)

-- ── by the last child ──
module _ {C : Class} {R : Shape} {N : List ℕ} {j : ℕ} {ks : Nodes} (y : Youngest C R N j ks) where
  alone : count y.elder ≡ 0 → P ks ≡ piece_at y.last ∷ []
  alone e = y.written ∙ ap (λ z. z ++ (piece_at y.last ∷ [])) (P_none y.elder e)

  some : 0 < count y.elder → Some (P y.elder)
  some h = P_some y.elder h

  pub parted_first : (t : Tok) → count y.elder ≡ 0 → parted t (P ks) ≡ (piece_at y.last).toks
  parted_first t e = ap (parted t) (alone e) ∙ parted_only t (piece_at y.last)

  pub parted_last : (t : Tok) → 0 < count y.elder → parted t (P ks) ≡ parted t (P y.elder) ++ (t ∷ (piece_at y.last).toks)
  parted_last t h =
      let s = some h in
      ap (parted t) (y.written ∙ ap (λ z. z ++ (piece_at y.last ∷ [])) s.same) ∙ parted_on t s.head s.more (piece_at y.last) ∙ ap (λ z. parted t z ++ (t ∷ (piece_at y.last).toks)) (sym s.same)

  pub rows_first : count y.elder ≡ 0 → rows (P ks) ≡ within (piece_at y.last).toks
  unfolding rows
  rows_first e = ap rows (alone e)

  pub rows_last : 0 < count y.elder → rows (P ks) ≡ rows (P y.elder) ++ (tok COMMA ∷ within (piece_at y.last).toks)
  rows_last h =
      let s = some h in
      ap rows (y.written ∙ ap (λ z. z ++ (piece_at y.last ∷ [])) s.same) ∙ rows_on s.head s.more (piece_at y.last) ∙ ap (λ z. rows z ++ (tok COMMA ∷ within (piece_at y.last).toks)) (sym s.same)

  pub joined_last : joined (P ks) ≡ joined (P y.elder) ++ (piece_at y.last).toks
  joined_last = ap joined y.written ∙ joined_on (P y.elder) (piece_at y.last)

pub joined_first : {C : Class} {N : List ℕ} {j : ℕ} {ks : Nodes} (k : Kids1 (must C) N j ks) → joined (P ks) ≡ (piece_at k.first).toks
unfolding joined
joined_first k = ap joined k.written ∙ append-nil (piece_at k.first).toks

-- ── CASE ──
-- the base, the pairs and ELSE: all between CASE and END
unfoldable pub case_toks : List Piece → List Tok
case_toks ps = (ps ! 0).toks ++ whens (but_first ps)

pub case_shape : {C : Class} {N : List ℕ} {i : ℕ} (w : Whole C N i) → w.code ≡ node_case → Shaped (an_expr ▸? an_expr ▸ an_expr ▸ when_thens) w.kids
unfolding code_says if_so both
case_shape w e = as_shape w (at_code node_case w.node e).1

pub case_kids : {C : Class} {N : List ℕ} {i : ℕ} (w : Whole C N i) → w.code ≡ node_case → CaseEnd N (i - 1) w.kids
case_kids w e = case_end (case_shape w e) (kids_stand w)

pub case_spelt : {C : Class} {N : List ℕ} {i : ℕ} (w : Whole C N i) → w.code ≡ node_case → Spelt (piece_at w) 12 (tok CASE ∷ (case_toks (P w.kids) ++ (tok END ∷ [])))
unfolding formed forms pick both plain_detail node_str case_toks
case_spelt w e =
    let h = spelt_at w node_case refl e refl in
    record { str = h.str; toks = h.toks ∙ ap (λ z. tok CASE ∷ z) (sym (append_assoc (P w.kids ! 0).toks (whens (but_first (P w.kids))) (tok END ∷ []))) }

-- pieces in twos
data Twos : List Piece → Type 0 where
  no_twos : Twos []
  two_more : {ps : List Piece} (a b : Piece) → Twos ps → Twos (a ∷ (b ∷ ps))

whens_on : {ps : List Piece} (qs : List Piece) → Twos ps → whens (ps ++ qs) ≡ whens ps ++ whens qs
unfolding whens
whens_on qs no_twos = refl
whens_on qs (two_more {ps = ps} a b t) =
    ap (λ z. tok WHEN ∷ (a.toks ++ (tok THEN ∷ (b.toks ++ z)))) (whens_on qs t)
    ∙ ap (λ z. tok WHEN ∷ (a.toks ++ (tok THEN ∷ z))) (sym (append_assoc b.toks (whens ps) (whens qs)))
    ∙ ap (λ z. tok WHEN ∷ z) (sym (append_assoc a.toks (tok THEN ∷ (b.toks ++ whens ps)) (whens qs)))

twos_on : {ps : List Piece} (a b : Piece) → Twos ps → Twos (ps ++ (a ∷ (b ∷ [])))
twos_on a b no_twos = two_more a b no_twos
twos_on a b (two_more c d t) = two_more c d (twos_on a b t)

-- a base, and pieces in twos after it
record Based (qs : List Piece) : Type 0 where
  base : Piece
  ps : List Piece
  twos : Twos ps
  same : qs ≡ base ∷ ps

one_based : {C : Class} {ns : Nodes} → Shaped (C ▸ fin) ns → Based (P ns)
one_based (shaped_next {c = c} {d = d} {ks = x} n s shaped_end) = record { base = piece_of c d x; ps = []; twos = no_twos; same = P_node c d x end ∙ ap (λ z. piece_of c d x ∷ z) P_end }

may_based : {C : Class} {ns : Nodes} → Shaped (C ▸? fin) ns → Based (P ns)
may_based (shaped_gone s) = one_based s
may_based (shaped_here s) = one_based s

based_on : (ms : Nodes) {two : Nodes} → Based (P ms) → Shaped (an_expr ▸ an_expr ▸ fin) two → Based (P (beside ms two))
based_on ms b (shaped_next {c = c} {d = d} {ks = x} n s (shaped_next {c = c'} {d = d'} {ks = x'} n' s' shaped_end)) =
    record {
      base = b.base;
      ps = b.ps ++ (piece_of c d x ∷ (piece_of c' d' x' ∷ []));
      twos = twos_on (piece_of c d x) (piece_of c' d' x') b.twos;
      same = P_beside ms (mk c d x (mk c' d' x' end)) ∙ ap (λ z. P ms ++ z) (P_node c d x (mk c' d' x' end) ∙ ap (λ z. piece_of c d x ∷ z) (P_node c' d' x' end ∙ ap (λ z. piece_of c' d' x' ∷ z) P_end)) ∙ ap (λ z. z ++ (piece_of c d x ∷ (piece_of c' d' x' ∷ []))) b.same;
    }

paired_based : {ns : Nodes} → WhenPairs ns → Based (P ns)
paired_based (base_only h) = may_based h
paired_based (pair_last ms two p h same) = subst (λ z. Based (P z)) (sym same) (based_on ms (paired_based p) h)

case_toks_on : {qs : List Piece} (rs : List Piece) → Based qs → case_toks (qs ++ rs) ≡ case_toks qs ++ whens rs
unfolding case_toks ◌!◌ but_first
case_toks_on rs b =
    ap (λ z. case_toks (z ++ rs)) b.same ∙ ap (λ z. b.base.toks ++ z) (whens_on rs b.twos) ∙ sym (append_assoc b.base.toks (whens b.ps) (whens rs))
    ∙ ap (λ z. case_toks z ++ whens rs) (sym b.same)

-- ELSE; a pair; the base
pub case_ended : {N : List ℕ} {j : ℕ} {ks : Nodes} (c : CaseEnd N j ks) → case_toks (P ks) ≡ case_toks (P c.pairs) ++ after (tok ELSE ∷ []) (may_piece c.otherwise)
unfolding whens
case_ended c = ap case_toks c.written ∙ case_toks_on (may_piece c.otherwise ∷ []) (paired_based c.paired)

pub case_paired : {N : List ℕ} {j : ℕ} {ns : Nodes} (c : CasePair N j ns) → case_toks (P ns) ≡ case_toks (P c.elder) ++ (tok WHEN ∷ ((piece_at c.condition).toks ++ (tok THEN ∷ (piece_at c.result).toks)))
unfolding whens
case_paired c =
    ap case_toks c.written ∙ case_toks_on (piece_at c.condition ∷ (piece_at c.result ∷ [])) (paired_based c.paired)
    ∙ ap (λ z. case_toks (P c.elder) ++ (tok WHEN ∷ ((piece_at c.condition).toks ++ (tok THEN ∷ z)))) (append-nil (piece_at c.result).toks)

pub case_based : {N : List ℕ} {j : ℕ} {ns : Nodes} (k : Kids1 (may an_expr) N j ns) → case_toks (P ns) ≡ (may_piece k.first).toks
unfolding case_toks ◌!◌ but_first whens
case_based k = ap case_toks k.written ∙ append-nil (may_piece k.first).toks
