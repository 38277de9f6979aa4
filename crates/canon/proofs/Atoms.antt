-- What literals, EXISTS, CASE and CAST say. Assumes nothing.
use mathlib.Core.Bool.{true, false}
use mathlib.Core.List.{List, [], ◌∷◌, ◌++◌, append_assoc, append-nil}
use mathlib.Core.Path.{◌≡◌, refl, sym}
use Prim.Native.Nat.{ℕ}
use lib.Dec.{eqb}
use Rattle.theory.specs.Trees.{Tok, lit, nt, toks}
use Rattle.theory.specs.Table.{mem}
use Rattle.kinds.specs.Kinds.{STRING, INTEGER, FLOAT, BLOB, VARIABLE, CTIME_KW, NULL, LP, RP, CASE, WHEN, THEN, ELSE, END, CAST, AS, EXISTS}
use Rattle.kinds.specs.Fit.{fit_text, fits}
use Rattle.kinds.specs.Classes.{literals, literal_code}
use Rattle.grammar.specs.Classes.{Name, Query, Base?, Whens?, Else?, E, any}
use Rattle.grammar.specs.RowNames.{row_literal, row_exists, row_case, row_next_when, row_else, row_cast}
use Rattle.grammar.specs.NodeNames.{node_absent, node_null, node_exists, node_case, node_cast}
use Rattle.grammar.specs.Nodes.{end, mk}
use Rattle.grammar.specs.Rows.{part, strong}
use Rattle.grammar.specs.Reading.{empty, value_of}
use Rattle.grammar.specs.Writing.{Piece, tok, toktext, after, whens, node_str, forms, formed, piece}
use Rattle.canon.proofs.Folds.{meaning_beside, P, P_beside}
use Rattle.canon.proofs.Says.{pairs, Even, no_pair, pair, Cored}
use Rattle.canon.proofs.Places.{◌also◌, AllOf, by_mem, open_rules, open_all, opt_of, led}
use Rattle.canon.proofs.Steps.{Fit, HeadSays, ListSays, CoreHead}

-- "24 to 30 | INTEGER, FLOAT, STRING, BLOB, VARIABLE, CTIME_KW (text number), NULL"
abbrev Literal : ℕ → Type 0
Literal k = (x : ℕ) → fits k x ≡ true
    → (u : Tok) × (mem u.kind literals ≡ true) × Fit u × Cored 12 (value_of row_literal empty (toktext k x) []) (value_of row_literal empty u []) (u ∷ [])

-- a literal by its code: what is computed of it
texts : (k c : ℕ) → literal_code k ≡ c → mem k literals ≡ true → eqb k NULL ≡ false → ((d : ℕ) → (P (mk c d end end) ≡ piece c d [] ∷ []) × (node_str c d ≡ 12) × (formed c forms d [] ≡ toktext k d ∷ []))
    → eqb c node_absent ≡ false → Literal k
unfolding open_all
texts k c e m n f z x h = (
  toktext k x,
  m,
  h,
  record {
    p = piece c x [];
    single = simp (e, n, (f x).0);
    solid = z;
    str = (f x).1;
    vnum = refl;
    wnum = refl;
    same = refl;
    toks = sym (f x).2;
  },
)

all_literals : AllOf Literal literals
unfolding open_all literal_code fits fit_text
all_literals =
    (λ x h. (tok NULL, refl, refl, record { p = piece node_null 0 []; single = refl; solid = refl; str = refl; vnum = refl; wnum = refl; same = refl; toks = refl }))
    also texts STRING 26 refl refl refl (λ d. (refl, refl, refl)) refl
    also texts INTEGER 24 refl refl refl (λ d. (refl, refl, refl)) refl
    also texts FLOAT 25 refl refl refl (λ d. (refl, refl, refl)) refl
    also texts BLOB 27 refl refl refl (λ d. (refl, refl, refl)) refl
    also texts VARIABLE 28 refl refl refl (λ d. (refl, refl, refl)) refl
    also texts CTIME_KW 29 refl refl refl (λ d. (refl, refl, refl)) refl
    also tt

pub literal_says : CoreHead literals (strong 12 row_literal [])
literal_says t n h S = by_mem Literal literals all_literals t.kind n t.text h

pub exists_says : CoreHead (EXISTS ∷ []) (strong 12 row_exists (lit LP ∷ nt (any Query) ∷ lit RP ∷ []))
unfolding open_all fits fit_text
exists_says t n h S =
    let X = S.3 in (
      tok EXISTS,
      refl,
      refl,
      record {
        p = piece node_exists 0 (X.p ∷ []);
        single = simp (P_beside, X.single);
        solid = refl;
        str = refl;
        vnum = refl;
        wnum = refl;
        same = simp (meaning_beside, X.same);
        toks = simp X.toks;
      },
    )

pub cast_says : CoreHead (CAST ∷ []) (strong 12 row_cast (lit LP ∷ nt (E 1) ∷ lit AS ∷ nt (any Name) ∷ lit RP ∷ []))
unfolding open_all fits fit_text
cast_says t n h S =
    let X = S.3 in let Y = S.4.3 in (
      tok CAST,
      refl,
      refl,
      record {
        p = piece node_cast 0 (X.p ∷ Y.p ∷ []);
        single = simp (P_beside, X.single, Y.single);
        solid = refl;
        str = refl;
        vnum = refl;
        wnum = refl;
        same = simp (meaning_beside, X.same, Y.same);
        toks = simp (X.toks, X.tight, Y.toks, append_assoc);
      },
    )

-- ── CASE ──
whens_pairs : {ps : List Piece} → Even ps → (e : Piece) → whens (ps ++ (e ∷ [])) ≡ pairs ps ++ after (tok ELSE ∷ []) e
unfolding whens pairs
whens_pairs no_pair e = refl
whens_pairs (pair {a = a} {b = b} {ps = ps} x) e = simp (whens_pairs x e, append_assoc)

even_more : {ps : List Piece} → Even ps → (a b : Piece) → Even (ps ++ (a ∷ b ∷ []))
even_more no_pair a b = pair no_pair
even_more (pair x) a b = pair (even_more x a b)

pairs_more : {ps : List Piece} → Even ps → (a b : Piece) → pairs (ps ++ (a ∷ b ∷ [])) ≡ pairs ps ++ (tok WHEN ∷ (a.toks ++ (tok THEN ∷ b.toks)))
unfolding pairs
pairs_more no_pair a b = simp append-nil
pairs_more (pair {a = c} {b = d} x) a b = simp (pairs_more x a b, append_assoc)

pub case_says : CoreHead (CASE ∷ []) (strong 12 row_case (nt (any Base?) ∷ lit WHEN ∷ nt (E 1) ∷ lit THEN ∷ nt (E 1) ∷ nt (any Whens?) ∷ nt (any Else?) ∷ lit END ∷ []))
unfolding open_rules fits fit_text
case_says t n h S =
    let B = S.3 in let S1 = S.4 in let X = S1.3 in let S2 = S1.4 in let Y = S2.3 in let S3 = S2.4 in let W = S3.3 in let S4 = S3.4 in let Z = S4.3 in (
      tok CASE,
      refl,
      refl,
      record {
        p = piece node_case 0 (B.o ∷ X.p ∷ Y.p ∷ (P S3.0.nodes ++ (Z.o ∷ [])));
        single = simp (P_beside, B.opted, X.single, Y.single, Z.opted);
        solid = refl;
        str = refl;
        vnum = refl;
        wnum = refl;
        same = simp (meaning_beside, opt_of B, X.same, Y.same, W.same, opt_of Z);
        toks = simp (B.toks, X.toks, X.tight, Y.toks, Y.tight, W.toks, Z.toks, whens_pairs W.even Z.o, append_assoc);
      },
    )

pub next_when_says : ListSays (WHEN ∷ []) (part row_next_when (nt (E 1) ∷ lit THEN ∷ nt (E 1) ∷ [])) Whens?
unfolding open_all fits fit_text
next_when_says v w ts L t n h S =
    let X = S.3 in let Y = S.4.3 in
    let e : P (value_of row_next_when v t (S.0 ∷ empty ∷ S.4.0 ∷ [])).nodes ≡ P v.nodes ++ (X.p ∷ Y.p ∷ []) = simp (P_beside, X.single, Y.single) in (
      tok WHEN,
      refl,
      refl,
      record {
        even = rw e (even_more L.even X.p Y.p);
        same = simp (meaning_beside, L.same, X.same, Y.same);
        toks = rw e (simp (L.toks, X.toks, X.tight, Y.toks, Y.tight, pairs_more L.even X.p Y.p, append-nil));
      },
    )

pub else_says : HeadSays (ELSE ∷ []) (part row_else (nt (E 1) ∷ [])) Else?
unfolding open_all fits fit_text
else_says t n h S = (tok ELSE, refl, refl, led ELSE S.0 S.1 S.2 _ _ _ _ S.3)
