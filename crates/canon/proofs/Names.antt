-- What names say: a name, names joined by DOT, name DOT STAR, calls. KWID is written as ID. Assumes nothing.
use mathlib.Core.Bool.{true, false}
use mathlib.Core.List.{List, [], ◌∷◌, ◌++◌, append-nil}
use mathlib.Core.Path.{◌≡◌, refl, sym, ap, ◌∙◌}
use Prim.Native.Nat.{ℕ}
use lib.Dec.{eqb}
use Rattle.theory.specs.Trees.{Tok, lit, nt}
use Rattle.theory.specs.Table.{pick, mem}
use Rattle.theory.proofs.Cases.{pick_case, 0≢1}
use Rattle.kinds.specs.Kinds.{ID, KWID, STRING, INDEXED, JOIN_KW, LP, RP, COMMA, DOT, STAR, DISTINCT}
use Rattle.kinds.specs.Fit.{fit_text, fits}
use Rattle.kinds.specs.Classes.{names, name_code}
use Rattle.grammar.specs.Classes.{Name, StarOrName, SecondName, Exprs?, ColRest?, Dot?, Args?, NameRest?, E, any}
use Rattle.grammar.specs.RowNames.{row_name, row_names, row_dot, row_dot_star, row_second_name, row_dot_name, row_call, row_star_args, row_distinct_args}
use Rattle.grammar.specs.NodeNames.{node_absent, node_list, node_name_star, node_id, node_string_name, node_indexed_name, node_join_name, node_names, node_call}
use Rattle.grammar.specs.Nodes.{Nodes, end, mk, beside}
use Rattle.grammar.specs.Rows.{part, ending}
use Rattle.grammar.specs.Reading.{Val, empty, choose, ◌#◌, NAME_STAR, column, value_of}
use Rattle.grammar.specs.Meaning.{meaning}
use Rattle.grammar.specs.Writing.{Piece, tok, toktext, at, each, parted, forms, formed, piece, pieces}
use Rattle.canon.proofs.Folds.{beside_end, meaning_beside, P, P_beside, mean, flat}
use Rattle.canon.proofs.Says.{Columned, Argued, star_args, distinct_args, plain_args, Rests, more_names, called, dot_star, Stars, second_name, only_star, Dotted, no_dot, dot_name, Cored}
use Rattle.canon.proofs.Places.{◌also◌, AllOf, by_mem, not_first, open_all, open_flat}
use Rattle.canon.proofs.Steps.{Fit, HeadSays}

-- "KWID counts as ID everywhere"; "names of code 20 as ID"
unfoldable pub plain_kind : ℕ → ℕ
plain_kind k = choose (eqb k KWID) ID k

abbrev pub plain_tok : Tok → Tok
plain_tok t = toktext (plain_kind t.kind) t.text

-- a name, with whatever stands after it
pub record Named (k x : ℕ) : Type 0 where
  pub q : Piece
  pub first : (ns : Nodes) → P (mk (name_code k) x end ns) ≡ q ∷ P ns
  pub first_means : (ns : Nodes) → meaning (mk (name_code k) x end ns) ≡ mk (name_code k) x end (meaning ns)
  pub solid : eqb q.code node_absent ≡ false
  pub toks : q.toks ≡ toktext (plain_kind k) x ∷ []
  pub code : name_code (plain_kind k) ≡ name_code k
  pub fit : fits (plain_kind k) x ≡ true

abbrev NamedOf : ℕ → Type 0
NamedOf k = (x : ℕ) → fits k x ≡ true → Named k x

-- a name by its code: what is computed of it
named_as : (k c : ℕ) → name_code k ≡ c → name_code (plain_kind k) ≡ c → eqb c node_absent ≡ false → ((x : ℕ) (ns : Nodes) → meaning (mk c x end ns) ≡ mk c x end (meaning ns)) → ((x : ℕ) → formed c forms x [] ≡ toktext (plain_kind k) x ∷ [])
    → ((x : ℕ) → fits k x ≡ true → fits (plain_kind k) x ≡ true) → NamedOf k
unfolding pieces piece
named_as k c e e' s m f h x g = record {
  q = piece c x [];
  first = λ ns. rw e (ap pieces (m x ns));
  first_means = λ ns. rw e (m x ns);
  solid = s;
  toks = f x;
  code = e' ∙ sym e;
  fit = h x g;
}

all_names : AllOf NamedOf names
unfolding open_all name_code plain_kind fits fit_text
all_names =
    named_as ID node_id refl refl refl (λ x ns. refl) (λ x. refl) (λ x h. refl)
    also named_as KWID node_id refl refl refl (λ x ns. refl) (λ x. refl) (λ x h. refl)
    also named_as STRING node_string_name refl refl refl (λ x ns. refl) (λ x. refl) (λ x h. refl)
    also named_as INDEXED node_indexed_name refl refl refl (λ x ns. refl) (λ x. refl) (λ x h. refl)
    also named_as JOIN_KW node_join_name refl refl refl (λ x ns. refl) (λ x. refl) (λ x h. h)
    also tt

pub named : (t : Tok) → mem t.kind names ≡ true → Fit t → Named t.kind t.text
named t m h = by_mem NamedOf names all_names t.kind m t.text h

pub plain_among : (ks : List ℕ) → AllOf (λ k. mem (plain_kind k) ks ≡ true) ks → (k : ℕ) → mem k ks ≡ true → mem (plain_kind k) ks ≡ true
plain_among ks all k m = by_mem (λ k. mem (plain_kind k) ks ≡ true) ks all k m

pub names_among : AllOf (λ k. mem (plain_kind k) names ≡ true) names
unfolding plain_kind choose mem pick
names_among = (refl, (refl, (refl, (refl, (refl, tt)))))

pub name_says : HeadSays names (part row_name []) Name
unfolding open_all
name_says t n h S =
    let N = named t n h in (
      plain_tok t,
      plain_among names names_among t.kind n,
      N.fit,
      record {
        p = N.q;
        single = N.first end;
        solid = N.solid;
        same = rw N.code;
        toks = sym N.toks;
      },
    )

-- DOT name
pub dot_says : HeadSays (DOT ∷ []) (part row_dot_name (nt (any Name) ∷ [])) Dot?
unfolding open_all fits fit_text
dot_says t n h S =
    let X = S.3 in
    (tok DOT, refl, refl, dot_name X.p X.solid (simp (P_beside, X.single)) (simp (meaning_beside, X.same)) (simp (X.toks, append-nil)))

pub dotted_same : {v w : Val} {ts : List Tok} → Dotted v w ts → meaning v.nodes ≡ meaning w.nodes
dotted_same (no_dot a b d) = b
dotted_same (dot_name p s a b d) = b

pub dotted_each : {v w : Val} {ts : List Tok} → Dotted v w ts → ts ≡ each (tok DOT) (P v.nodes)
unfolding each
dotted_each (no_dot a b d) = rw a d
dotted_each (dot_name p s a b d) = rw a (simp (d, append-nil))

-- name DOT name [DOT name], name DOT STAR: after the DOT
pub second_says : HeadSays names (part row_second_name (nt (any Dot?) ∷ [])) StarOrName
unfolding open_all
second_says t n h S =
    let N = named t n h in let D = S.3 in
    let e : P (value_of row_second_name empty t (S.0 ∷ [])).nodes ≡ N.q ∷ P S.0.nodes = N.first (beside S.0.nodes end) ∙ ap (λ z. N.q ∷ P z) (beside_end S.0.nodes) in (
      plain_tok t,
      plain_among names names_among t.kind n,
      N.fit,
      second_name refl refl (record {
        same = simp (N.code, meaning_beside, dotted_same D);
        toks = rw e (simp (N.toks, dotted_each D, append-nil));
      }) N.q (P S.0.nodes) e,
    )

pub second_name_says : HeadSays names (part row_second_name (nt (any Dot?) ∷ [])) SecondName
unfolding open_all
second_name_says t n h S = let a = second_says t n h S in (a.0, a.1, a.2, record { stars = a.3; no_star = refl })

pub star_says : HeadSays (STAR ∷ []) (ending row_dot_star []) StarOrName
unfolding open_all fits fit_text
star_says t n h S = (tok STAR, refl, refl, only_star refl refl refl)

pub col_dots : {v w : Val} {ts : List Tok} (t u : Tok) → Stars v w ts → Rests (value_of row_dot empty t (v ∷ [])) (value_of row_dot empty u (w ∷ [])) (tok DOT ∷ (ts ++ []))
unfolding open_all
col_dots t u (second_name a b r p ps e) = more_names refl refl a b (record { same = r.same; toks = simp (r.toks, e, append-nil) })
col_dots t u (only_star a b e) = dot_star refl refl a b (simp (e, append-nil))

-- DOT name [DOT name]
pub dots_says : HeadSays (DOT ∷ []) (part row_dot (nt (any SecondName) ∷ [])) NameRest?
unfolding open_all fits fit_text
dots_says t n h S = (tok DOT, refl, refl, record { rests = col_dots t (tok DOT) S.3.stars; no_star = S.3.no_star })

-- ── calls ──
plain_call : (c : ℕ) → mem c (row_star_args ∷ row_distinct_args ∷ []) ≡ false → ◌≡◌ {A = ℕ} (pick (eqb c row_star_args) 2 (λ w. pick (eqb c row_distinct_args) 1 (λ w. 0))) 0
unfolding pick
plain_call c e = let a = not_first c row_star_args (row_distinct_args ∷ []) e in rw (a.0, (not_first c row_distinct_args [] a.1).0)

call_of : {v w : Val} {ts : List Tok} (t u : Tok) → Argued v w ts → Rests (value_of row_call empty t (v ∷ empty ∷ [])) (value_of row_call empty u (w ∷ empty ∷ [])) (tok LP ∷ (ts ++ (tok RP ∷ [])))
unfolding open_all
call_of {v} {w} {ts} t u (star_args a b d e f) = called 2 (tok STAR ∷ []) refl refl refl (rw a) (rw b) (simp (d, e)) refl (simp f)
call_of {v} {w} {ts} t u (distinct_args a b d e) = called 1 (tok DISTINCT ∷ parted (tok COMMA) (P v.nodes)) refl refl refl (rw a) (rw b) (simp (meaning_beside, d)) (simp (P_beside, append-nil)) (simp e)
call_of {v} {w} {ts} t u (plain_args a b d e) =
    called 0 (parted (tok COMMA) (P v.nodes)) refl refl refl (plain_call v.row a) (plain_call w.row b) (simp (meaning_beside, d)) (simp (P_beside, append-nil)) (simp e)

pub col_call_says : HeadSays (LP ∷ []) (part row_call (nt (any Args?) ∷ lit RP ∷ [])) ColRest?
unfolding open_all fits fit_text
col_call_says t n h S = (tok LP, refl, refl, call_of t (tok LP) S.3)

-- a call's number is no STAR's
pub call_num : (t : Tok) (k : List Val) → eqb (value_of row_call empty t k).num NAME_STAR ≡ false
unfolding open_all
call_num t k = pick_case (λ (z : ℕ). eqb z NAME_STAR ≡ false) (eqb (k # 0).row row_star_args) 2 _ (λ e. refl) (λ e. pick_case (λ (z : ℕ). eqb z NAME_STAR ≡ false) (eqb (k # 0).row row_distinct_args) 1 _ (λ g. refl) (λ g. refl))

pub call_says : HeadSays (LP ∷ []) (part row_call (nt (any Args?) ∷ lit RP ∷ [])) NameRest?
unfolding open_all fits fit_text
call_says t n h S = (tok LP, refl, refl, record { rests = call_of t (tok LP) S.3; no_star = call_num t (S.0 ∷ empty ∷ []) })

pub star_args_says : HeadSays (STAR ∷ []) (part row_star_args []) Args?
unfolding open_all fits fit_text
star_args_says t n h S = (tok STAR, refl, refl, star_args refl refl refl refl refl)

pub distinct_args_says : HeadSays (DISTINCT ∷ []) (part row_distinct_args (nt (E 1) ∷ nt (any Exprs?) ∷ [])) Args?
unfolding open_all fits fit_text
distinct_args_says t n h S =
    let X = S.3 in let Y = S.4.3 in
    (tok DISTINCT, refl, refl, distinct_args refl refl (simp (meaning_beside, X.same, Y.same)) (simp (P_beside, X.single, X.toks, X.tight, Y.toks, append-nil)))

-- ── names as an expression, or a column ──
pub names_told : {v w : Val} {ts : List Tok} (t : Tok) → Named t.kind t.text → Rests v w ts → eqb v.num NAME_STAR ≡ false
    → Cored 12 (value_of row_names empty t (v ∷ [])) (value_of row_names empty (plain_tok t) (w ∷ [])) (plain_tok t ∷ (ts ++ []))
unfolding open_flat
names_told {v} t N (more_names a b d e r) z = record {
  p = piece node_names 0 (N.q ∷ P v.nodes);
  single = simp (a, d, flat, N.first, append-nil);
  solid = refl;
  str = refl;
  vnum = rw (a, d);
  wnum = rw (b, e);
  same = simp (a, b, d, e, N.code, mean, N.first_means, r.same);
  toks = simp (N.toks, r.toks, append-nil);
}
names_told {v} t N (called d us s a b e f g h i) z = record {
  p = piece node_call d (N.q ∷ piece node_list 0 (P v.nodes) ∷ []);
  single = simp (a, e, flat, N.first, append-nil);
  solid = refl;
  str = refl;
  vnum = rw a;
  wnum = rw b;
  same = simp (a, b, e, f, N.code, mean, N.first_means, g);
  toks = simp (N.toks, h, i, append-nil);
}
names_told {v} t N (dot_star a b d e f) z = 0≢1 (sym (rw d at z))

pub name_star_told : {v w : Val} {ts : List Tok} (t : Tok) → Named t.kind t.text → Rests v w ts → eqb v.num NAME_STAR ≡ true
    → Columned (value_of row_names empty t (v ∷ [])) (value_of row_names empty (plain_tok t) (w ∷ [])) (plain_tok t ∷ (ts ++ []))
unfolding open_flat column
name_star_told {v} t N (more_names a b d e r) z = 0≢1 (rw d at z)
name_star_told {v} t N (called d us s a b e f g h i) z = 0≢1 (sym s ∙ (rw e at z))
name_star_told {v} t N (dot_star a b d e f) z = record {
  p = piece node_name_star 0 (N.q ∷ []);
  single = simp (a, d, flat, N.first);
  same = simp (a, b, d, e, N.code, mean, N.first_means);
  toks = simp (N.toks, f, append-nil);
}
