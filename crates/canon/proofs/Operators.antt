-- What an operator says of its operands: each line of the table from OR to the prefixes, NOT after an operand apart. Assumes nothing.
use mathlib.Core.Bool.{true, false, Bool, ◌&&◌}
use mathlib.Core.List.{List, [], ◌∷◌, ◌++◌, append-nil}
use mathlib.Core.Path.{◌≡◌, refl, sym, ap, ◌∙◌}
use Prim.Native.Nat.{ℕ, ◌+◌, ◌≤◌, min}
use borrow.Author.Tests.{lt-leb}
use lib.Dec.{leb}
use native.Mathlib.Omega.{arith}
use Rattle.theory.specs.Trees.{Tok, lit, nt, toks}
use Rattle.theory.specs.Table.{pick, mem}
use Rattle.theory.proofs.Cases.{0≢1, leb_le, le-leb}
use Rattle.kinds.specs.Kinds.{LP, RP, AND, NOT, IS, IN, BETWEEN, LIKE_KW, ISNULL, NOTNULL, COLLATE}
use Rattle.kinds.specs.Fit.{fit_text, fits}
use Rattle.kinds.specs.Strength.{strength_of, prefix_of}
use Rattle.grammar.specs.Classes.{Name, Inside?, IsRight, E, any, after_is}
use Rattle.grammar.specs.RowNames.{row_prefix, row_is, row_is_not, row_like, row_in, row_between, row_null_test, row_collate}
use Rattle.grammar.specs.NodeNames.{node_list, node_prefix, node_binary, node_null_test, node_in_list, node_in_query, node_between, node_collate}
use Rattle.grammar.specs.Rows.{strong, binary, running}
use Rattle.grammar.specs.Limits.{is_query}
use Rattle.grammar.specs.Reading.{Val, empty, choose, value_of}
use Rattle.grammar.specs.Writing.{tok, toktext, at, binary_toks, binary_str, piece}
use Rattle.canon.proofs.Folds.{meaning_beside, P, P_beside}
use Rattle.canon.proofs.Says.{Operand, IsRights, only_is, is_not, Inner, Cored}
use Rattle.canon.proofs.Places.{AllOf, by_mem, only, open_all}
use Rattle.canon.proofs.Steps.{HeadSays, CoreHead, CoreTail}

-- binary operators that are one token
abbrev pub Binary : ℕ → ℕ → Type 0
Binary s k = (binary_str k ≡ s) × (binary_toks k ≡ tok k ∷ []) × (fits k 0 ≡ true)

pub binary_says : (s : ℕ) (ks : List ℕ) → s ≡ min s 99 → AllOf (Binary s) ks → CoreTail ks (binary s)
unfolding open_all
binary_says s ks m all v w ts L t n h S =
    let b = by_mem (Binary s) ks all t.kind n in
    let X = S.3 in (
      tok t.kind,
      n,
      b.2,
      record {
        p = piece node_binary t.kind (L.p ∷ X.p ∷ []);
        single = simp (P_beside, L.single, X.single);
        solid = refl;
        str = b.0 ∙ m;
        vnum = refl;
        wnum = refl;
        same = simp (meaning_beside, L.same, X.same);
        toks = simp (append-nil, L.toks, X.toks, b.0, b.1);
      },
    )

abbrev pub Prefix : ℕ → ℕ → Type 0
Prefix s k = (prefix_of k ≡ s) × (fits k 0 ≡ true)

pub prefix_says : (a l c s : ℕ) (ks : List ℕ) → s ≡ min a c → AllOf (Prefix s) ks → CoreHead ks (record { code = row_prefix; str = a; left = l; cap = c; items = nt (E s) ∷ [] })
unfolding open_all
prefix_says a l c s ks m all t n h S =
    let b = by_mem (Prefix s) ks all t.kind n in
    let X = S.3 in (
      tok t.kind,
      n,
      b.1,
      record {
        p = piece node_prefix t.kind (X.p ∷ []);
        single = simp (P_beside, X.single);
        solid = refl;
        str = b.0 ∙ m;
        vnum = refl;
        wnum = refl;
        same = simp (meaning_beside, X.same);
        toks = simp (append-nil, X.toks, b.0);
      },
    )

-- IS, IS NOT
is_told : (v w : Val) (ts : List Tok) → Operand 4 v w ts → (t : Tok) → t.kind ≡ IS → (v1 w1 : Val) (ts1 : List Tok) → IsRights v1 w1 ts1
    → Cored 4 (value_of row_is v t (v1 ∷ [])) (value_of row_is w (tok IS) (w1 ∷ [])) (ts ++ (tok IS ∷ (ts1 ++ [])))
unfolding open_all strength_of
is_told v w ts L t k v1 w1 ts1 (only_is a b X) = record {
  p = piece node_binary 37 (L.p ∷ X.p ∷ []);
  single = simp (k, a, P_beside, L.single, X.single);
  solid = refl;
  str = refl;
  vnum = refl;
  wnum = refl;
  same = simp (k, a, b, meaning_beside, L.same, X.same);
  toks = simp (append-nil, L.toks, X.toks);
}
is_told v w ts L t k v1 w1 ts1 (is_not a b X) = record {
  p = piece node_binary 137 (L.p ∷ X.p ∷ []);
  single = simp (k, a, P_beside, L.single, X.single);
  solid = refl;
  str = refl;
  vnum = refl;
  wnum = refl;
  same = simp (k, a, b, meaning_beside, L.same, X.same);
  toks = simp (append-nil, L.toks, X.toks);
}

pub is_says : CoreTail (IS ∷ []) (strong 4 row_is (nt after_is ∷ []))
unfolding mem pick fits fit_text
is_says v w ts L t n h S = (tok IS, refl, refl, is_told v w ts L t (only t.kind IS n) S.0 S.1 S.2 S.3)

pub is_not_says : HeadSays (NOT ∷ []) (running 5 4 row_is_not (nt (E 5) ∷ [])) IsRight
unfolding open_all fits fit_text
is_not_says t n h S = let X = S.3 in
    (tok NOT, refl, refl, is_not refl refl (record { p = X.p; single = simp (P_beside, X.single); solid = X.solid; same = simp (meaning_beside, X.same); toks = simp (append-nil, X.toks) }))

and_r : (a b : Bool) → a && b ≡ true → b ≡ true
and_r true b e = e
and_r false b e = 0≢1 e

-- LIKE_KW: its text number is 1, 2 or 3
fit_like : (x : ℕ) → fits LIKE_KW x ≡ true → x ≤ 3
unfolding fits fit_text
fit_like x e = leb_le x 3 (and_r (leb 1 x) (leb x 3) e)

like_toks : (x : ℕ) → x ≤ 3 → binary_toks (200 + x) ≡ toktext LIKE_KW x ∷ []
unfolding binary_toks pick
like_toks x l = rw (lt-leb 300 (200 + x) (omega arith), le-leb 200 (200 + x) (omega arith)) (ap (λ z. toktext LIKE_KW z ∷ []) (omega arith))

pub like_str : (d : ℕ) → 100 ≤ d → binary_str d ≡ 4
unfolding binary_str choose
like_str d l = rw (le-leb 100 d l)

pub not_like_toks : (x : ℕ) → binary_toks (300 + x) ≡ tok NOT ∷ toktext LIKE_KW x ∷ []
unfolding binary_toks pick
not_like_toks x = rw (le-leb 300 (300 + x) (omega arith)) (ap (λ z. tok NOT ∷ toktext LIKE_KW z ∷ []) (omega arith))

pub like_says : CoreTail (LIKE_KW ∷ []) (strong 4 row_like (nt (E 5) ∷ []))
unfolding open_all
like_says v w ts L t n h S =
    let X = S.3 in
    let k = only t.kind LIKE_KW n in
    let h' : fits LIKE_KW t.text ≡ true = rw k at h in
    let s : binary_str (200 + t.text) ≡ 4 = like_str (200 + t.text) (omega arith) in (
      toktext LIKE_KW t.text,
      refl,
      h',
      record {
        p = piece node_binary (200 + t.text) (L.p ∷ X.p ∷ []);
        single = simp (P_beside, L.single, X.single);
        solid = refl;
        str = s;
        vnum = refl;
        wnum = refl;
        same = simp (meaning_beside, L.same, X.same);
        toks = simp (append-nil, L.toks, X.toks, s, like_toks t.text (fit_like t.text h'));
      },
    )

-- BETWEEN, ISNULL, NOTNULL, COLLATE
pub between_says : CoreTail (BETWEEN ∷ []) (strong 4 row_between (nt (E 5) ∷ lit AND ∷ nt (E 5) ∷ []))
unfolding open_all fits fit_text
between_says v w ts L t n h S =
    let X = S.3 in let Y = S.4.3 in (
      tok BETWEEN,
      refl,
      refl,
      record {
        p = piece node_between 0 (L.p ∷ X.p ∷ Y.p ∷ []);
        single = simp (P_beside, L.single, X.single, Y.single);
        solid = refl;
        str = refl;
        vnum = refl;
        wnum = refl;
        same = simp (meaning_beside, L.same, X.same, Y.same);
        toks = simp (append-nil, L.toks, X.toks, Y.toks);
      },
    )

pub null_test_says : CoreTail (ISNULL ∷ NOTNULL ∷ []) (strong 4 row_null_test [])
unfolding open_all fits fit_text
null_test_says v w ts L t n h S = (
  tok t.kind,
  n,
  by_mem (λ k. fits k 0 ≡ true) (ISNULL ∷ NOTNULL ∷ []) (refl, (refl, tt)) t.kind n,
  record {
    p = piece node_null_test t.kind (L.p ∷ []);
    single = simp (P_beside, L.single);
    solid = refl;
    str = refl;
    vnum = refl;
    wnum = refl;
    same = simp (meaning_beside, L.same);
    toks = simp L.toks;
  },
)

pub collate_says : CoreTail (COLLATE ∷ []) (strong 10 row_collate (nt (any Name) ∷ []))
unfolding open_all fits fit_text
collate_says v w ts L t n h S =
    let X = S.3 in (
      tok COLLATE,
      refl,
      refl,
      record {
        p = piece node_collate 0 (L.p ∷ X.p ∷ []);
        single = simp (P_beside, L.single, X.single);
        solid = refl;
        str = refl;
        vnum = refl;
        wnum = refl;
        same = simp (meaning_beside, L.same, X.same);
        toks = simp (append-nil, L.toks, X.toks);
      },
    )

-- IN ( )
in_told : (v w : Val) (ts : List Tok) → Operand 4 v w ts → (t : Tok) (v1 w1 : Val) (ts1 : List Tok) (X : Inner v1 w1 ts1) (b : Bool) → is_query v1.row ≡ b
    → Cored 4 (value_of row_in v t (empty ∷ v1 ∷ empty ∷ [])) (value_of row_in w (tok IN) (empty ∷ w1 ∷ empty ∷ [])) (ts ++ (tok IN ∷ (tok LP ∷ (ts1 ++ (tok RP ∷ [])))))
unfolding open_all
in_told v w ts L t v1 w1 ts1 X true e = let y = X.one_query e in let e' = sym X.query ∙ e in record {
  p = piece node_in_query 0 (L.p ∷ y.0 ∷ []);
  single = simp (e, P_beside, L.single, y.1);
  solid = refl;
  str = refl;
  vnum = refl;
  wnum = refl;
  same = simp (e, e', meaning_beside, L.same, X.same);
  toks = simp (append-nil, L.toks, X.toks, y.1);
}
in_told v w ts L t v1 w1 ts1 X false e = let e' = sym X.query ∙ e in record {
  p = piece node_in_list 0 (L.p ∷ piece node_list 0 (P v1.nodes) ∷ []);
  single = simp (e, P_beside, L.single, append-nil);
  solid = refl;
  str = refl;
  vnum = refl;
  wnum = refl;
  same = simp (e, e', meaning_beside, L.same, X.same);
  toks = simp (L.toks, X.toks);
}

pub in_says : CoreTail (IN ∷ []) (strong 4 row_in (lit LP ∷ nt (any Inside?) ∷ lit RP ∷ []))
unfolding mem pick fits fit_text
in_says v w ts L t n h S = (tok IN, refl, refl, in_told v w ts L t S.0 S.1 S.2 S.3 (is_query S.0.row) refl)
