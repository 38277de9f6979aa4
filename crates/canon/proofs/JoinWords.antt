-- Join words before JOIN: written by the fewest that have the same flags, which are legal too. Assumes nothing.
use mathlib.Core.Bool.{true, false, Bool, ◌&&◌}
use mathlib.Core.List.{List, [], ◌∷◌, ◌++◌, append_assoc, append-nil}
use mathlib.Core.Option.{some}
use mathlib.Core.Path.{◌≡◌, refl, sym, ap, ◌∙◌, subst}
use Prim.Native.Nat.{ℕ, ◌+◌, ◌-◌}
use borrow.Author.Tests.{ne_eqb}
use lib.Bits.{or_zero_l}
use lib.Dec.{leb}
use lib.ListN.{length}
use native.Mathlib.Omega.{arith}
use Rattle.words.specs.Flags.{flags_of, united, legal}
use Rattle.words.specs.Sequences.{united_all}
use Rattle.theory.specs.Trees.{Tok, Nt, lit, nt, Row, Tree, nil, add, leaf, node, toks}
use Rattle.theory.specs.Table.{Line, pick, both, mem, lookup, null_of}
use Rattle.theory.specs.Derives.{begin, token, absent, whole}
use Rattle.theory.specs.Judged.{faults_in, faults_kids, AllZero}
use Rattle.theory.proofs.Cases.{0≢1, both_l, both_r, both_i, leb_le, le-leb}
use Rattle.kinds.specs.Kinds.{JOIN_KW, JOIN}
use Rattle.kinds.specs.Fit.{fit_text, fits}
use Rattle.grammar.specs.Classes.{Source, Joins?, Word2?, Word3?, On?, any}
use Rattle.grammar.specs.RowNames.{row_join, row_word_join, row_word}
use Rattle.grammar.specs.NodeNames.{node_join}
use Rattle.grammar.specs.Nodes.{Nodes, end, mk, beside}
use Rattle.grammar.specs.Rows.{part, but_column, exprs, select_items, values_items, lines, heads_of, tails_of, optional}
use Rattle.grammar.specs.Grammar.{sql, G}
use Rattle.grammar.specs.Limits.{Around, further_flags, is_kind, begun, judge}
use Rattle.grammar.specs.Reading.{Val, says, choose, opt, ◌#◌, rules, ruled, value_of, value, values}
use Rattle.grammar.specs.Writing.{tok, toktext, at, joined, join_words, join_of}
use Rattle.grammar.specs.Promise.{AllFit}
use Rattle.grammar.proofs.LevelsHold.{all_left, all_right}
use Rattle.canon.proofs.Counted.{below, under, all_app}
use Rattle.canon.proofs.Says.{Run, all_words}
use Rattle.canon.proofs.Forms.{Clean, Stands, gone, here, Pack, Result, left_out, KidsOf, grow, ws}
use Rattle.canon.proofs.Places.{by_mem, only, open_all, open_flat}
use Rattle.canon.proofs.Place.{fit_app, place}
use Rattle.canon.proofs.Rebuild.{stands_part, unheard, silent, clean_any}
use Rattle.canon.proofs.Lines.{Finds}
use Rattle.canon.proofs.Steps.{Fit, HeadStep, TailStep, HeadSays, plainly, head_opens, head_step, calm_begun, list_opens, only_class, left_pack, open_tests}
use Rattle.canon.proofs.Sources.{join_of_lem}
use Rattle.canon.proofs.FewWords.{is_word, written_words, Short, none_written, one_written, two_written, few_words}
use Rattle.canon.proofs.Vanish.{found_one}

abbrev word_row3 : Row
word_row3 = part row_word []

abbrev word_row2 : Row
word_row2 = part row_word (nt (any Word3?) ∷ [])

abbrev word_join : Row
word_join = part row_word_join (nt (any Word2?) ∷ lit JOIN ∷ nt (any Source) ∷ nt (any On?) ∷ [])

abbrev join_row : Row
join_row = part row_join (nt (any Source) ∷ nt (any On?) ∷ [])

-- ── further words, as they stand ──
and_parts : (a b : Bool) → a && b ≡ true → both a b ≡ true
unfolding both
and_parts true b e = e
and_parts false b e = e

fit_word : (x : ℕ) → fits JOIN_KW x ≡ true → is_word x ≡ true
unfolding fits fit_text
fit_word x e = and_parts (leb 1 x) (leb x 7) e

word_fit : (x : ℕ) → is_word x ≡ true → fits JOIN_KW x ≡ true
unfolding fits fit_text both
word_fit x e = rw (both_l (leb 1 x) (leb x 7) e, both_r (leb 1 x) (leb x 7) e)

word_ok : (t : Tok) → mem t.kind (JOIN_KW ∷ []) ≡ true → Fit t → is_word t.text ≡ true
word_ok t n h = fit_word t.text (subst (λ k. fits k t.text ≡ true) (only t.kind JOIN_KW n) h)

word3_says : HeadSays (JOIN_KW ∷ []) word_row3 Word3?
unfolding open_all all_words
word3_says t n h S = (t, n, h, record { words = t.text ∷ []; few = refl; fit = both_i (is_word t.text) true (word_ok t n h) refl; flags = refl })

word2_says : HeadSays (JOIN_KW ∷ []) word_row2 Word2?
unfolding open_all all_words
word2_says t n h S = let W = S.3 in (
  t,
  n,
  h,
  record {
    words = t.text ∷ W.words;
    few = le-leb (length (t.text ∷ W.words)) 2 (let i = leb_le (length W.words) 1 W.few in omega arith);
    fit = both_i (is_word t.text) (all_words W.words) (word_ok t n h) W.fit;
    flags = ap (λ z. united (flags_of t.text) z) W.flags;
  },
)

abbrev word3_line : Line
word3_line = record { of = Word3? ∷ []; at = JOIN_KW ∷ []; row = word_row3 }

abbrev word2_line : Line
word2_line = record { of = Word2? ∷ []; at = JOIN_KW ∷ []; row = word_row2 }

pub word3_step : HeadStep word3_line
unfolding open_tests grow value values value_of ruled rules ◌#◌ further_flags
word3_step = head_step word3_line refl ((refl, λ c t u ks m f. refl, word3_says, λ t f. tt), tt)

pub word2_step : HeadStep word2_line
unfolding open_tests grow value values value_of ruled rules ◌#◌ further_flags
word2_step = head_step word2_line refl ((refl, λ c t u ks m f. ap (λ z. united (flags_of t.text) z) (or_zero_l (further_flags ks.0) ∙ (place (any Word3?) (below word_row2 c) ks.1).more), word2_says, λ t f. tt), tt)

-- ── a second word written, or none ──
record Second (ws : List ℕ) (c : Around) : Type 0 where
  z : Tree
  stands : Stands (any Word2?) z
  clean : Clean z c
  fit : AllFit (toks z)
  writes : toks z ≡ join_words ws
  further : further_flags z ≡ united_all ws
  num : (value z).num ≡ united_all ws

null_word : (C : ℕ) → mem C (Word2? ∷ Word3? ∷ []) ≡ true → G.nullable (any C) ≡ true
unfolding null_of sql both optional mem pick
null_word C m = by_mem (λ C. G.nullable (any C) ≡ true) (Word2? ∷ Word3? ∷ []) (refl, (refl, tt)) C m

no_second : (c : Around) → Second [] c
unfolding toks join_words further_flags value faults_in mem pick
no_second c = record { z = nil; stands = gone (null_word Word2? refl); clean = tt; fit = tt; writes = refl; further = refl; num = refl }

word2_found : Finds word2_line sql.heads
unfolding sql lines but_column exprs select_items values_items heads_of tails_of pick both mem lookup
word2_found = found_one Word2? (JOIN_KW ∷ []) word_row2 sql.heads (refl, tt)

second : (w : ℕ) (c : Around) → is_word w ≡ true → Second (w ∷ []) c
unfolding toks join_words further_flags value values value_of ruled rules ◌#◌ faults_in faults_kids judge begun open_tests
second w c h = record {
  z = node word_row2 nil (toktext JOIN_KW w) (add nil nil);
  stands = here (whole (head_opens word2_line Word2? (toktext JOIN_KW w) word2_found refl refl) (absent begin (null_word Word3? refl)));
  clean = (refl, tt);
  fit = (word_fit w h, tt);
  writes = refl;
  further = refl;
  num = refl;
}

-- ── the word on JOIN ──
abbrev word_at : ℕ → ℕ
word_at f = pick (legal f) 0 (λ w. 7)

judged : (c : Around) (l : Tree) (t : Tok) (x : Tree) (u : Tok) → u.kind ≡ JOIN → judge c word_join l t (add (add nil x) (leaf u)) ≡ word_at (united (flags_of t.text) (further_flags x))
unfolding judge is_kind open_tests further_flags
judged c l t x u h = rw h (ap (λ z. word_at (united (flags_of t.text) z)) (or_zero_l (further_flags x)))

legal_old : (c : Around) (l : Tree) (t : Tok) (x : Tree) (u : Tok) (s o : Tree) → u.kind ≡ JOIN → Clean (node word_join l t (add (add (add (add nil x) (leaf u)) s) o)) c → legal (united (flags_of t.text) (further_flags x)) ≡ true
unfolding faults_in faults_kids
legal_old c l t x u s o h z =
    let f1 : Tree = add nil x in let f2 : Tree = add f1 (leaf u) in let f3 : Tree = add f2 s in
    let a = (all_right (faults_in Around under judge l c 0) (judge c word_join l t nil ∷ faults_kids Around under judge (add f3 o) c word_join l t) z).1 in
    let b = all_left (faults_kids Around under judge f3 c word_join l t) (faults_in Around under judge o (below word_join c) (judge c word_join l t (add f3 o))) a in
    let d = all_left (faults_kids Around under judge f2 c word_join l t) (faults_in Around under judge s (below word_join c) (judge c word_join l t f3)) b in
    let e = (all_right (faults_kids Around under judge f1 c word_join l t) (judge c word_join l t f2 ∷ []) d).0 in
    unheard (legal (united (flags_of t.text) (further_flags x))) 6 (sym (judged c l t x u h) ∙ e)

clean_new : (c : Around) (l : Tree) (t : Tok) (x : Tree) (u : Tok) (s o : Tree) {A B D : Nt} → u.kind ≡ JOIN → Clean l c → begun c word_join l ≡ 0 → legal (united (flags_of t.text) (further_flags x)) ≡ true
    → Stands D x → Clean x (below word_join c) → Stands A s → Clean s (below word_join c) → Stands B o → Clean o (below word_join c)
    → Clean (node word_join l t (add (add (add (add nil x) (leaf u)) s) o)) c
unfolding faults_in faults_kids judge
clean_new c l t x u s o h z b g sx cx ss cs so co =
    let f1 : Tree = add nil x in let f2 : Tree = add f1 (leaf u) in let f3 : Tree = add f2 s in let f4 : Tree = add f3 o in
    let k1 : AllZero (faults_kids Around under judge f1 c word_join l t) = clean_any (below word_join c) (judge c word_join l t f1) sx cx in
    let k2 = all_app (faults_kids Around under judge f1 c word_join l t) (judge c word_join l t f2 ∷ []) k1 (judged c l t x u h ∙ silent (legal (united (flags_of t.text) (further_flags x))) 7 g, tt) in
    let k3 = all_app (faults_kids Around under judge f2 c word_join l t) (faults_in Around under judge s (below word_join c) (judge c word_join l t f3)) k2 (clean_any (below word_join c) (judge c word_join l t f3) ss cs) in
    let k4 = all_app (faults_kids Around under judge f3 c word_join l t) (faults_in Around under judge o (below word_join c) (judge c word_join l t f4)) k3 (clean_any (below word_join c) (judge c word_join l t f4) so co) in
    all_app (faults_in Around under judge l c 0) (judge c word_join l t nil ∷ faults_kids Around under judge f4 c word_join l t) z (b, k4)

-- ── the join rewritten ──
join_detail : (f : ℕ) → join_of (64 + f) ≡ join_words (written_words f) ++ (tok JOIN ∷ [])
unfolding join_of choose
join_detail f = let e : (64 + f) - 64 ≡ f = omega arith in let n : 64 + f ≡ 0 → ⊥ = λ h. omega arith in rw (ne_eqb (64 + f) 0 n, e)

join_found : (lookup Joins? JOIN sql.heads ≡ some join_row) × (lookup Joins? JOIN sql.tails ≡ some join_row)
unfolding sql lines but_column exprs select_items values_items heads_of tails_of pick both mem lookup
join_found = (refl, refl)

word_join_found : (lookup Joins? JOIN_KW sql.heads ≡ some word_join) × (lookup Joins? JOIN_KW sql.tails ≡ some word_join)
unfolding sql lines but_column exprs select_items values_items heads_of tails_of pick both mem lookup
word_join_found = (refl, refl)

-- the node of a join of detail d
abbrev join_nodes : ℕ → Val → Val → Val → Nodes
join_nodes d v v1 v2 = beside v.nodes (mk node_join d (beside v1.nodes (beside (opt v2).nodes end)) end)

run_with : (d d1 d2 a b a' b' : ℕ) (v w v1 w1 v2 w2 : Val) (ts : List Tok) → d1 ≡ d → d2 ≡ d
    → Run joined (record { row = a; num = b; nodes = join_nodes d v v1 v2 }) (record { row = a'; num = b'; nodes = join_nodes d w w1 w2 }) ts
    → Run joined (record { row = a; num = b; nodes = join_nodes d1 v v1 v2 }) (record { row = a'; num = b'; nodes = join_nodes d2 w w1 w2 }) ts
run_with d d1 d2 a b a' b' v w v1 w1 v2 w2 ts e f X = rw (e, f) X

module _ (c : Around) (l : Tree) (L : Pack (any Joins?) c l) (t : Tok) (x2 s o : Tree) (u : Tok) (S : Pack (any Source) (below word_join c) s) (O : Pack (any On?) (below word_join c) o) (f : ℕ)
    (flags : united (flags_of t.text) (value x2).num ≡ f) where
  abbrev old_join : Tree
  old_join = node word_join l t (add (add (add (add nil x2) (leaf u)) s) o)

  -- no word is left
  bare_join : 0 ≡ f → [] ≡ written_words f → Pack (any Joins?) c old_join
  unfolding open_flat open_tests value values toks faults_in faults_kids judge below join_words
  bare_join e ws = record {
    y = node join_row L.y (tok JOIN) (add (add nil S.y) O.y);
    stands = here (whole (list_opens Joins? join_row (tok JOIN) join_found.0 join_found.1 refl L.stands)
        (stands_part O.stands (stands_part S.stands begin)));
    clean = all_app (faults_in Around under judge L.y c 0) _ L.clean (
      calm_begun c join_row L.y refl,
      all_app (faults_in Around under judge S.y c 0) (faults_in Around under judge O.y c 0) S.clean O.clean,
    );
    caps = λ a b. 0≢1 a;
    fit = fit_app (toks L.y) _ L.fit (refl, fit_app (toks S.y) (toks O.y) S.fit O.fit);
    says = subst (λ z. Run joined (value old_join) (value (node join_row L.y (tok JOIN) (add (add nil S.y) O.y))) z) (simp append-nil)
        (run_with (64 + f) (64 + united (flags_of t.text) (value x2).num) 64 _ _ _ _ (value l) (value L.y) (value s) (value S.y) (value o) (value O.y) _ (ap (λ z. 64 + z) flags) (ap (λ z. 64 + z) e)
        (join_of_lem (64 + f) (tok JOIN ∷ []) (join_detail f ∙ ap (λ z. join_words z ++ (tok JOIN ∷ [])) (sym ws)) L.says S.says O.says _ _ _ _));
    more = tt;
  }

  -- one word, and perhaps a second
  word_join_lem : (w : ℕ) (ws : List ℕ) → is_word w ≡ true → Second ws (below word_join c) → united_all (w ∷ ws) ≡ f → w ∷ ws ≡ written_words f → legal f ≡ true → Pack (any Joins?) c old_join
  unfolding open_flat open_tests value values toks join_words
  word_join_lem w ws h Z e g i =
      let y : Tree = node word_join L.y (toktext JOIN_KW w) (add (add (add (add nil Z.z) (leaf (tok JOIN))) S.y) O.y) in
      record {
        y = y;
        stands = here (whole (list_opens Joins? word_join (toktext JOIN_KW w) word_join_found.0 word_join_found.1 refl L.stands)
            (stands_part O.stands (stands_part S.stands (token (stands_part Z.stands begin) refl))));
        clean = clean_new c L.y (toktext JOIN_KW w) Z.z (tok JOIN) S.y O.y refl L.clean (calm_begun c word_join L.y refl)
            (rw (Z.further, e) i) Z.stands Z.clean S.stands S.clean O.stands O.clean;
        caps = λ a b. 0≢1 a;
        fit = fit_app (toks L.y) _ L.fit (word_fit w h, fit_app ((toks Z.z ++ (tok JOIN ∷ [])) ++ toks S.y) (toks O.y) (fit_app (toks Z.z ++ (tok JOIN ∷ [])) (toks S.y) (fit_app (toks Z.z) (tok JOIN ∷ []) Z.fit (refl, tt)) S.fit) O.fit);
        says = subst (λ z. Run joined (value old_join) (value y) z) (simp (Z.writes, append_assoc, append-nil) (ap (λ z. toks L.y ++ (toktext JOIN_KW w ∷ z)) (append_assoc (join_words ws) (tok JOIN ∷ []) (toks S.y ++ toks O.y))))
            (run_with (64 + f) (64 + united (flags_of t.text) (value x2).num) (64 + united (flags_of w) (value Z.z).num) _ _ _ _ (value l) (value L.y) (value s) (value S.y) (value o) (value O.y) _
            (ap (λ z. 64 + z) flags) (ap (λ z. 64 + united (flags_of w) z) Z.num ∙ ap (λ z. 64 + z) e)
            (join_of_lem (64 + f) (join_words (w ∷ ws) ++ (tok JOIN ∷ [])) (join_detail f ∙ ap (λ z. join_words z ++ (tok JOIN ∷ [])) (sym g)) L.says S.says O.says _ _ _ _));
        more = tt;
      }

  rejoined : {ws : List ℕ} → Short ws → ws ≡ written_words f → united_all ws ≡ f → all_words ws ≡ true → legal f ≡ true → Pack (any Joins?) c old_join
  unfolding all_words
  rejoined none_written g e h i = bare_join e g
  rejoined (one_written w) g e h i = word_join_lem w [] (both_l (is_word w) true h) (no_second (below word_join c)) e g i
  rejoined (two_written w w') g e h i = word_join_lem w (w' ∷ []) (both_l (is_word w) _ h) (second w' (below word_join c) (both_l (is_word w') true (both_r (is_word w) _ h))) e g i

word_pack : (c : Around) (l : Tree) → Pack (any Joins?) c l → (t : Tok) → mem t.kind (JOIN_KW ∷ []) ≡ true → Fit t → (k : KidsOf word_join.items (below word_join c))
    → Clean (node word_join l t (grow (below word_join c) word_join.items k nil)) c → Pack (any Joins?) c (node word_join l t (grow (below word_join c) word_join.items k nil))
unfolding grow
word_pack c l L t n h k z =
    let W = place (any Word2?) (below word_join c) k.1 in let U = W.says in
    let f : ℕ = united_all (t.text ∷ U.words) in
    let further : further_flags k.0 ≡ united_all U.words = W.more ∙ U.flags in
    let g : legal f ≡ true = rw further at (legal_old c l t k.0 k.2.0 k.2.2.0 k.2.2.2.0 (sym k.2.1) z) in
    let F = few_words t.text U.words (word_ok t n h) U.fit U.few g in
    rejoined c l L t k.0 k.2.2.0 k.2.2.2.0 k.2.0 (place (any Source) (below word_join c) k.2.2.1) (place (any On?) (below word_join c) k.2.2.2.1) f
    (ap (λ z. united (flags_of t.text) z) U.flags) F.brief refl F.same F.fit g

null_joins : G.nullable (any Joins?) ≡ true
unfolding null_of sql both optional mem pick
null_joins = refl

pub word_head : HeadStep (record { of = Joins? ∷ []; at = JOIN_KW ∷ []; row = word_join })
word_head D m f c t n h k z = subst (λ X. Result X word_join c (node word_join nil t (grow (below word_join c) word_join.items k nil))) (only_class Joins? D m)
    (plainly Joins? word_join c (node word_join nil t (grow (below word_join c) word_join.items k nil)) refl tt
    (word_pack c nil (place (any Joins?) c (left_out null_joins)) t n h k z))

pub word_tail : TailStep (record { of = Joins? ∷ []; at = JOIN_KW ∷ []; row = word_join })
unfolding mem pick exprs
word_tail D m f c q l x a b d i zl t n h k z =
    let i = only_class Joins? D m in
    subst (λ X. Result X word_join c (node word_join l t (grow (below word_join c) word_join.items k nil))) i
    (plainly Joins? word_join c (node word_join l t (grow (below word_join c) word_join.items k nil)) refl tt
    (word_pack c l (left_pack Joins? q c l refl (subst (λ X. Result X q c l) (sym i) x)) t n h k z))
