-- Parentheses: around one expression they vanish, and what stood in them may stand one level less deep; else they stay. Assumes nothing.
use mathlib.Core.Bool.{true, false}
use mathlib.Core.List.{List, [], ◌∷◌, ◌++◌, append-nil}
use mathlib.Core.Logic.{◌⊎◌, inl, inr}
use mathlib.Core.Path.{◌≡◌, refl, sym, ap, ◌∙◌, subst}
use Prim.Native.Nat.{ℕ}
use borrow.Author.Tests.{ltb-false}
use lib.Dec.{ltb, leb}
use native.Mathlib.Omega.{arith}
use Rattle.theory.specs.Trees.{Tok, Row, Tree, nil, add, leaf, node, toks}
use Rattle.theory.specs.Table.{pick, both, mem, null_of}
use Rattle.theory.proofs.Cases.{by_bool, 0≢1, le-leb}
use Rattle.kinds.specs.Kinds.{LP, RP}
use Rattle.grammar.specs.Classes.{Paren, any}
use Rattle.grammar.specs.RowNames.{row_parens}
use Rattle.grammar.specs.NodeNames.{node_parens, node_subquery}
use Rattle.grammar.specs.Nodes.{Nodes, end, mk}
use Rattle.grammar.specs.Rows.{exprs, optional}
use Rattle.grammar.specs.Grammar.{sql, G}
use Rattle.grammar.specs.Sizes.{LEVELS}
use Rattle.grammar.specs.Limits.{Around, is_query, begun}
use Rattle.grammar.specs.Reading.{Val, empty, choose, is_end, rules, ruled, value_of, value, values}
use Rattle.grammar.specs.Meaning.{is_one, meaning}
use Rattle.grammar.specs.Writing.{Piece, tok, at, forms, piece, pieces}
use Rattle.canon.proofs.Counted.{below, deeper, deeper_more, five}
use Rattle.canon.proofs.Folds.{beside_end, P, mean, flat}
use Rattle.canon.proofs.Says.{Inner, Cored}
use Rattle.canon.proofs.Forms.{in_pair, Form, reach, Core, core, plain, Kid, left_out, there, grow, fits_at}
use Rattle.canon.proofs.Places.{open_rules, open_all, open_flat}
use Rattle.canon.proofs.Place.{form_less, paren_expr, parens_row, parens_value, place}
use Rattle.canon.proofs.Rebuild.{said}
use Rattle.canon.proofs.Lines.{Finds}
use Rattle.canon.proofs.Steps.{HeadStep, begins_zero, reach_expr, core_here, open_tests}

-- ── one expression in parentheses ──
less_deep : (D : ℕ) (c : Around) (n : Nodes) (p : Piece) → Form D (deeper c) n p → Form D c n p
less_deep D c n p f = form_less D (deeper c) c n p (deeper_more c.level) refl f

parens_level : (c : Around) → begun c parens_row nil ≡ 0 → leb c.level LEVELS ≡ true
unfolding begun pick both is_query
parens_level c z = by_bool (ltb LEVELS c.level) (λ e. five (rw e at z)) (λ e. le-leb c.level LEVELS (ltb-false LEVELS c.level e))

from_paren : (D : ℕ) → mem D exprs ≡ true → reach Paren D ≡ true
unfolding reach choose
from_paren D d = d

one_core : (C : ℕ) (q : Row) (c : Around) (x : Tree) (t u : Tok) → begun c parens_row nil ≡ 0 → Core Paren q (deeper c) x → Core C parens_row c (node parens_row nil t (add (add nil x) (leaf u)))
unfolding value values value_of ruled rules pick mem
one_core C q c x t u z k =
    let e : meaning (value x).nodes ≡ meaning (value (node parens_row nil t (add (add nil x) (leaf u)))).nodes = parens_value (value x) (meaning (value x).nodes) t u k.p refl k.single k.untold in
    let deeply : (D : ℕ) → mem D exprs ≡ true → fits_at D k.p.str ≡ true → Form D (deeper c) (meaning (value (node parens_row nil t (add (add nil x) (leaf u)))).nodes) k.p
    = λ D d w. subst (λ n. Form D (deeper c) n k.p) e (k.forms D (from_paren D d) w) in
    record {
      p = k.p;
      single = ap pieces (sym e) ∙ k.single;
      solid = k.solid;
      tight = k.tight;
      num = refl;
      untold = refl;
      forms = λ D d w. less_deep D c _ k.p (deeply D (reach_expr C D d) w);
      deep = in_pair (parens_level c z) (deeply Paren paren_expr refl);
    }

-- ── a query in parentheses, or more expressions ──
many_one : (n : Nodes) (p q : Piece) (ps : List Piece) → pieces n ≡ p ∷ q ∷ ps → is_one n ≡ false
unfolding pieces is_one is_end
many_one end p q ps e = refl
many_one (mk c d ks end) p q ps e = absurd (let z : ◌≡◌ {A = List Piece} [] (q ∷ ps) = cc in let z : ◌≡◌ {A = ℕ} 0 1 = cc in omega arith)
many_one (mk c d ks (mk c' d' ks' ns)) p q ps e = refl

wide_value : (w : Val) (n : Nodes) (t : Tok) → n ≡ meaning w.nodes → is_query w.row ≡ false → is_one n ≡ false
    → mk node_parens 0 n end ≡ meaning (value_of row_parens empty t (w ∷ empty ∷ [])).nodes
unfolding open_all
wide_value w n t e m s = simp (m, beside_end, sym e, s)

many_told : (v w : Val) (ts : List Tok) (t : Tok) (X : Inner v w ts) → is_query v.row ≡ false → (p q : Piece) (ps : List Piece) → P v.nodes ≡ p ∷ q ∷ ps
    → Cored 12 (value_of row_parens empty t (v ∷ empty ∷ [])) (value_of row_parens empty (tok LP) (w ∷ empty ∷ [])) (tok LP ∷ (ts ++ (tok RP ∷ [])))
unfolding open_rules
many_told v w ts t X e p q ps h =
    let s = many_one (meaning v.nodes) p q ps h in
    let a = wide_value v (meaning v.nodes) t refl e s in
    let b = wide_value w (meaning v.nodes) (tok LP) X.same (sym X.query ∙ e) s in
    record {
      p = piece node_parens 0 (P v.nodes);
      single = ap pieces (sym a);
      solid = refl;
      str = refl;
      vnum = refl;
      wnum = refl;
      same = sym a ∙ b;
      toks = simp X.toks;
    }

query_told : (v w : Val) (ts : List Tok) (t : Tok) (X : Inner v w ts) → is_query v.row ≡ true
    → Cored 12 (value_of row_parens empty t (v ∷ empty ∷ [])) (value_of row_parens empty (tok LP) (w ∷ empty ∷ [])) (tok LP ∷ (ts ++ (tok RP ∷ [])))
unfolding open_flat
query_told v w ts t X e =
    let y = X.one_query e in let e' = sym X.query ∙ e in
    record {
      p = piece node_subquery 0 (y.0 ∷ []);
      single = simp (e, flat, y.1);
      solid = refl;
      str = refl;
      vnum = refl;
      wnum = refl;
      same = simp (e, e', mean, X.same);
      toks = simp (X.toks, y.1, append-nil);
    }

wide_told : (v w : Val) (ts : List Tok) (t : Tok) (X : Inner v w ts) → (is_query v.row ≡ true) ⊎ ((p : Piece) × (q : Piece) × (ps : List Piece) × (P v.nodes ≡ p ∷ q ∷ ps))
    → Cored 12 (value_of row_parens empty t (v ∷ empty ∷ [])) (value_of row_parens empty (tok LP) (w ∷ empty ∷ [])) (tok LP ∷ (ts ++ (tok RP ∷ [])))
wide_told v w ts t X (inl e) = query_told v w ts t X e
wide_told v w ts t X (inr h) = by_bool (is_query v.row) (λ e. query_told v w ts t X e) (λ e. many_told v w ts t X e h.0 h.1 h.2 h.3)

-- ── the line ──
no_absent : G.nullable (any Paren) ≡ true → ⊥
unfolding null_of sql both optional mem pick
no_absent n = 0≢1 n

parens_kid : (C : ℕ) → mem C exprs ≡ true → Finds (record { of = exprs; at = LP ∷ []; row = parens_row }) sql.heads → (c : Around) (t : Tok) {x : Tree} (k : Kid (any Paren) (below parens_row c) x) (u : Tok) (e : RP ≡ u.kind)
    → begun c parens_row nil ≡ 0 → Core C parens_row c (node parens_row nil t (grow (below parens_row c) parens_row.items (x, k, (u, e, tt)) nil))
unfolding grow said below is_query pick open_tests
parens_kid C m f c t (left_out n) u e z = absurd (no_absent n)
parens_kid C m f c t (there {q = q} {x = x} pr le tw sp (core i k)) u e z = one_core C q c x t u z k
parens_kid C m f c t (there {q = q} {x = x} pr le tw sp (plain b wd g)) u e z =
    let kid = there {q = q} {x = x} pr le tw sp (plain b wd g) in
    let p = place (any Paren) (below parens_row c) kid in
    core_here exprs (LP ∷ []) parens_row refl (λ D m w. m) C m f c t (x, kid, (u, e, tt)) z (tok LP) refl refl
    (wide_told (value x) (value p.y) (toks p.y) t p.says wd)

pub parens_step : HeadStep (record { of = exprs; at = LP ∷ []; row = parens_row })
parens_step C m f c t n h k z = core m (parens_kid C m f c t k.1 k.2.0 k.2.1 (begins_zero c parens_row t _ z))
