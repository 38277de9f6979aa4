-- What FROM says: sources, aliases, indexes, ON and USING, joins without words before JOIN. Assumes nothing.
use mathlib.Core.List.{List, [], ◌∷◌, ◌++◌, append_assoc, append-nil}
use mathlib.Core.Path.{◌≡◌, refl, sym, ◌∙◌}
use Prim.Native.Nat.{ℕ, ◌+◌, ◌*◌, ◌/◌}
use lib.Dec.{eqb, T}
use Rattle.theory.specs.Trees.{Tok, lit, nt}
use Rattle.theory.specs.Table.{pick}
use Rattle.words.specs.Words.{words}
use Rattle.words.specs.Flags.{flags_of}
use Rattle.words.specs.Fewest.{endings, ending_of, fewest_of}
use Rattle.kinds.specs.Kinds.{INDEXED, LP, RP, COMMA, NOT, AS, FROM, JOIN, ON, USING, BY}
use Rattle.kinds.specs.Fit.{fit_text, fits}
use Rattle.kinds.specs.Classes.{names}
use Rattle.grammar.specs.Classes.{Name, Query, Source, Names?, From?, Joins?, On?, Dot?, Alias?, Index?, E, any}
use Rattle.grammar.specs.RowNames.{row_from, row_comma_join, row_join, row_on, row_using, row_table, row_query_source, row_source_as, row_indexed_by, row_not_indexed}
use Rattle.grammar.specs.NodeNames.{node_from, node_join, node_on, node_using, node_table, node_query_source}
use Rattle.grammar.specs.Nodes.{end, mk, beside}
use Rattle.grammar.specs.Rows.{part}
use Rattle.grammar.specs.Reading.{Val, empty, choose, opt, value_of}
use Rattle.grammar.specs.Meaning.{plain_detail, meaning}
use Rattle.grammar.specs.Writing.{Piece, tok, nothing, after, joined, join_words, join_of, piece}
use Rattle.canon.proofs.Folds.{P, mean, flat}
use Rattle.canon.proofs.Says.{Single, written, Run, Maybe, Aliases, no_alias, as_alias, bare_alias, Indexes, no_index, indexed_by, not_indexed, Dotted, no_dot, dot_name}
use Rattle.canon.proofs.Places.{open_all, open_flat, is_there, is_gone, present, end_same, opt_of}
use Rattle.canon.proofs.Steps.{HeadSays, ListSays}
use Rattle.canon.proofs.Names.{plain_tok, Named, named, plain_among, names_among}

-- ── aliases and indexes ──
pub source_as_says : HeadSays (AS ∷ []) (part row_source_as (nt (any Name) ∷ [])) Alias?
unfolding open_flat fits fit_text
source_as_says t n h S =
    let X = S.3 in
    (tok AS, refl, refl, as_alias refl refl (present (after (tok AS ∷ [])) _ _ _ X.p (simp (flat, X.single)) (simp (mean, X.same)) (simp (X.toks, X.solid, append-nil))))

pub indexed_by_says : HeadSays (INDEXED ∷ []) (part row_indexed_by (lit BY ∷ nt (any Name) ∷ [])) Index?
unfolding open_flat fits fit_text
indexed_by_says t n h S =
    let X = S.3 in
    (tok INDEXED, refl, refl, indexed_by refl refl (present (after (tok INDEXED ∷ tok BY ∷ [])) _ _ _ X.p (simp (flat, X.single)) (simp (mean, X.same)) (simp (X.toks, X.solid, append-nil))))

pub not_indexed_says : HeadSays (NOT ∷ []) (part row_not_indexed (lit INDEXED ∷ [])) Index?
unfolding open_all fits fit_text
not_indexed_says t n h S = (tok NOT, refl, refl, not_indexed refl refl (record { o = nothing; opted = refl; same = refl; toks = refl }))

-- a detail f m that tells the alias mode m, and beside it the number x
pub record Aliased (c : ℕ) (f : ℕ → ℕ) (x : ℕ) (v w : Val) (ts : List Tok) : Type 0 where
  pub d : ℕ
  pub old_d : plain_detail c (f v.num) ≡ d
  pub new_d : plain_detail c (f w.num) ≡ d
  pub quarter : d / 4 ≡ x
  pub a : Piece
  pub opted : P (opt v).nodes ≡ a ∷ []
  pub same : meaning (opt v).nodes ≡ meaning (opt w).nodes
  pub toks : ts ≡ after (tok AS ∷ []) a

aliased : (c : ℕ) (f : ℕ → ℕ) (x d e : ℕ) → plain_detail c (f 0) ≡ d → plain_detail c (f 1) ≡ e → plain_detail c (f 2) ≡ e → d / 4 ≡ x → e / 4 ≡ x
    → {v w : Val} {ts : List Tok} → Aliases v w ts → Aliased c f x v w ts
aliased c f x d e i j k q r (no_alias a b m) = record { d = d; old_d = rw a i; new_d = rw b i; quarter = q; a = m.o; opted = m.opted; same = opt_of m; toks = m.toks }
aliased c f x d e i j k q r (as_alias a b m) = record { d = e; old_d = rw a j; new_d = rw b j; quarter = r; a = m.o; opted = m.opted; same = opt_of m; toks = m.toks }
aliased c f x d e i j k q r (bare_alias a b m) = record { d = e; old_d = rw a k; new_d = rw b j; quarter = r; a = m.o; opted = m.opted; same = opt_of m; toks = m.toks }

-- "alias mode + 4 × (0, 1 INDEXED BY, 2 NOT INDEXED)"
pub record Tabled (v w : Val) (ts : List Tok) (v' w' : Val) (ts' : List Tok) : Type 0 where
  pub n : ℕ
  pub old_n : v'.num ≡ n
  pub new_n : w'.num ≡ n
  pub alias : Aliased node_table (λ m. m + 4 * n) n v w ts
  pub i : Piece
  pub opted : P (opt v').nodes ≡ i ∷ []
  pub same : meaning (opt v').nodes ≡ meaning (opt w').nodes
  pub toks : choose (eqb n 2) (tok NOT ∷ tok INDEXED ∷ []) (after (tok INDEXED ∷ tok BY ∷ []) i) ≡ ts'

tabled : {v w v' w' : Val} {ts ts' : List Tok} → Aliases v w ts → Indexes v' w' ts' → Tabled v w ts v' w' ts'
unfolding plain_detail pick choose
tabled a (no_index x y m) = record { n = 0; old_n = x; new_n = y; alias = aliased node_table (λ m. m + 4 * 0) 0 0 1 refl refl refl refl refl a; i = m.o; opted = m.opted; same = opt_of m; toks = sym m.toks }
tabled a (indexed_by x y m) = record { n = 1; old_n = x; new_n = y; alias = aliased node_table (λ m. m + 4 * 1) 1 4 5 refl refl refl refl refl a; i = m.o; opted = m.opted; same = opt_of m; toks = sym m.toks }
tabled a (not_indexed x y m) = record { n = 2; old_n = x; new_n = y; alias = aliased node_table (λ m. m + 4 * 2) 2 8 9 refl refl refl refl refl a; i = m.o; opted = m.opted; same = opt_of m; toks = sym m.toks }

-- ── sources ──
table_of : {v w v1 w1 v2 w2 : Val} {ts ts1 ts2 : List Tok} (t : Tok) → Named t.kind t.text → Dotted v w ts → Tabled v1 w1 ts1 v2 w2 ts2
    → Single written (value_of row_table empty t (v ∷ v1 ∷ v2 ∷ [])) (value_of row_table empty (plain_tok t) (w ∷ w1 ∷ w2 ∷ [])) (plain_tok t ∷ (ts ++ (ts1 ++ (ts2 ++ []))))
unfolding open_flat
table_of {v} {w} t N (no_dot a b e) T = let A = T.alias in record {
  p = piece node_table A.d (nothing ∷ N.q ∷ A.a ∷ T.i ∷ []);
  single = simp (is_gone v a, flat, N.first, T.old_n, A.old_d, A.opted, T.opted);
  solid = refl;
  same = simp (is_gone v a, end_same v w b ∙ is_gone v a, N.code, mean, N.first_means, T.old_n, T.new_n, A.old_d, A.new_d, A.same, T.same);
  toks = simp (e, A.toks, A.quarter, T.toks, N.toks, append-nil);
}
table_of {v} {w} t N (dot_name p s a b e) T = let A = T.alias in record {
  p = piece node_table A.d (N.q ∷ p ∷ A.a ∷ T.i ∷ []);
  single = simp (is_there v p [] a, flat, N.first, a, T.old_n, A.old_d, A.opted, T.opted);
  solid = refl;
  same = simp (is_there v p [] a, end_same v w b ∙ is_there v p [] a, N.code, mean, N.first_means, b, T.old_n, T.new_n, A.old_d, A.new_d, A.same, T.same);
  toks = simp (e, A.toks, A.quarter, T.toks, N.toks, N.solid, append-nil);
}

pub table_says : HeadSays names (part row_table (nt (any Dot?) ∷ nt (any Alias?) ∷ nt (any Index?) ∷ [])) Source
table_says t n h S = let N = named t n h in
    (plain_tok t, plain_among names names_among t.kind n, N.fit, table_of t N S.3 (tabled S.4.3 S.4.4.3))

pub query_source_says : HeadSays (LP ∷ []) (part row_query_source (nt (any Query) ∷ lit RP ∷ nt (any Alias?) ∷ [])) Source
unfolding open_flat fits fit_text
query_source_says t n h S =
    let X = S.3 in let A = aliased node_query_source (λ m. m) 0 0 1 refl refl refl refl refl S.4.3 in (
      tok LP,
      refl,
      refl,
      record {
        p = piece node_query_source A.d (X.p ∷ A.a ∷ []);
        single = simp (flat, X.single, A.old_d, A.opted);
        solid = refl;
        same = simp (mean, X.same, A.old_d, A.new_d, A.same);
        toks = simp (X.toks, A.toks, append-nil, append_assoc);
      },
    )

-- ── FROM, joins, ON, USING ──
joined_more : (ps : List Piece) (p : Piece) → joined (ps ++ (p ∷ [])) ≡ joined ps ++ p.toks
unfolding joined
joined_more [] p = append-nil p.toks
joined_more (q ∷ ps) p = simp (joined_more ps p, append_assoc)

pub from_says : HeadSays (FROM ∷ []) (part row_from (nt (any Source) ∷ nt (any Joins?) ∷ [])) From?
unfolding open_flat fits fit_text
from_says t n h S =
    let X = S.3 in let Y = S.4.3 in
    (tok FROM, refl, refl, present written _ _ _ (piece node_from 0 (X.p ∷ P S.4.0.nodes)) (simp (flat, X.single, append-nil)) (simp (mean, X.same, Y.same)) (simp (X.toks, Y.toks, append-nil)))

-- a join by a word of its own: what its detail is written as
pub join_of_lem : (d : ℕ) (us : List Tok) → join_of d ≡ us → {v w : Val} {ts : List Tok} → Run joined v w ts → {v1 w1 v2 w2 : Val} {ts1 ts2 : List Tok} → Single written v1 w1 ts1 → Maybe written v2 w2 ts2 → (a b a' b' : ℕ)
    → Run joined (record { row = a; num = b; nodes = beside v.nodes (mk node_join d (beside v1.nodes (beside (opt v2).nodes end)) end) })
    (record { row = a'; num = b'; nodes = beside w.nodes (mk node_join d (beside w1.nodes (beside (opt w2).nodes end)) end) }) (ts ++ (us ++ (ts1 ++ (ts2 ++ []))))
unfolding open_flat
join_of_lem d us e L X Y a b a' b' = record {
  same = simp (mean, L.same, X.same, opt_of Y);
  toks = simp (flat, X.single, Y.opted, joined_more, L.toks, X.toks, Y.toks, e, append-nil, append_assoc);
}

pub comma_join_says : ListSays (COMMA ∷ []) (part row_comma_join (nt (any Source) ∷ nt (any On?) ∷ [])) Joins?
unfolding open_flat fits fit_text join_of
comma_join_says v w ts L t n h S = (tok COMMA, refl, refl, join_of_lem 0 (tok COMMA ∷ []) refl L S.3 S.4.3 _ _ _ _)

pub join_says : ListSays (JOIN ∷ []) (part row_join (nt (any Source) ∷ nt (any On?) ∷ [])) Joins?
unfolding open_flat fits fit_text join_of join_words fewest_of ending_of endings flags_of words
join_says v w ts L t n h S = (tok JOIN, refl, refl, join_of_lem 64 (tok JOIN ∷ []) refl L S.3 S.4.3 _ _ _ _)

pub on_says : HeadSays (ON ∷ []) (part row_on (nt (E 1) ∷ [])) On?
unfolding open_flat fits fit_text
on_says t n h S =
    let X = S.3 in
    (tok ON, refl, refl, present written _ _ _ (piece node_on 0 (X.p ∷ [])) (simp (flat, X.single)) (simp (mean, X.same)) (simp (X.toks, X.tight, append-nil)))

pub using_says : HeadSays (USING ∷ []) (part row_using (lit LP ∷ nt (any Name) ∷ nt (any Names?) ∷ lit RP ∷ [])) On?
unfolding open_flat fits fit_text
using_says t n h S =
    let X = S.3 in let Y = S.4.3 in
    (tok USING, refl, refl, present written _ _ _ (piece node_using 0 (X.p ∷ P S.4.0.nodes)) (simp (flat, X.single, append-nil)) (simp (mean, X.same, Y.same)) (simp (X.toks, Y.toks, append_assoc)))
