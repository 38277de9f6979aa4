-- "Canonical writing": the tokens of a meaning, one rule for each code of 01's table. AS stands always; ALL, ASC and SEMI never; LIMIT
-- with OFFSET; NOTNULL; join words by fewest. "One-member parentheses exactly where the operand is looser than its place allows": `at`.
-- Definitions only.
use Rattle.std.specs.Prelude.{List, [], ◌∷◌, ◌++◌, ℕ, ◌+◌, zero, suc, ◌-◌, ◌%◌, ◌/◌, eqb, leb}
use Rattle.theory.specs.Trees.{Tok}
use Rattle.theory.specs.Table.{pick, both}
use Rattle.kinds.specs.Kinds.{ID, STRING, INDEXED, JOIN_KW, INTEGER, FLOAT, BLOB, VARIABLE, CTIME_KW, NULL, LP, RP, COMMA, DOT, STAR, AND, NOT, IS, IN, BETWEEN, LIKE_KW, COLLATE, CASE, WHEN, THEN, ELSE, END, CAST, AS, EXISTS, SELECT, VALUES, DISTINCT, FROM, JOIN, ON, USING, WHERE, GROUP, BY, HAVING, ORDER, DESC, NULLS, FIRST, LAST, LIMIT, OFFSET}
use Rattle.kinds.specs.Strength.{strength_of, prefix_of}
use Rattle.words.specs.Fewest.{fewest_of, words_of}
use Rattle.grammar.specs.NodeNames.{node_absent, node_query, node_select, node_values, node_list, node_star, node_name_star, node_column, node_from, node_join, node_on, node_using, node_table, node_query_source, node_sort, node_id, node_string_name, node_indexed_name, node_join_name, node_integer, node_float, node_string, node_blob, node_variable, node_ctime, node_null, node_names, node_call, node_parens, node_subquery, node_exists, node_case, node_cast, node_prefix, node_binary, node_null_test, node_in_list, node_in_query, node_between, node_collate}
use Rattle.grammar.specs.Nodes.{Nodes, end, mk}
use Rattle.grammar.specs.Reading.{choose}
use Rattle.grammar.specs.Meaning.{meaning}

-- a node's writing: its code, how tightly it holds, its tokens
pub record Piece : Type 0 where
  pub code : ℕ
  pub str : ℕ
  pub toks : List Tok

-- "Text number 0 where none is read."
abbrev pub tok : ℕ → Tok
tok k = record { kind = k; text = 0 }

abbrev pub toktext : ℕ → ℕ → Tok
toktext k x = record { kind = k; text = x }

abbrev pub nothing : Piece
nothing = record { code = node_absent; str = 0; toks = [] }

infixl 90 ◌!◌
-- the child at a place, from 0
unfoldable pub ◌!◌ : List Piece → ℕ → Piece
[] ! i = nothing
(p ∷ ps) ! zero = p
(p ∷ ps) ! suc i = ps ! i

unfoldable pub but_first : List Piece → List Piece
but_first [] = []
but_first (p ∷ ps) = ps

-- in parentheses
abbrev pub within : List Tok → List Tok
within ts = tok LP ∷ (ts ++ (tok RP ∷ []))

-- at a place that asks for strength s
unfoldable pub at : ℕ → Piece → List Tok
at s p = choose (leb s p.str) p.toks (within p.toks)

-- what is there: its tokens after these words, or nothing
unfoldable pub after : List Tok → Piece → List Tok
after ws p = choose (eqb p.code node_absent) [] (ws ++ p.toks)

-- one after the other; each after a separator; parted by one
unfoldable pub joined : List Piece → List Tok
joined [] = []
joined (p ∷ ps) = p.toks ++ joined ps

unfoldable pub each : Tok → List Piece → List Tok
each t [] = []
each t (p ∷ ps) = t ∷ (p.toks ++ each t ps)

unfoldable pub parted : Tok → List Piece → List Tok
parted t [] = []
parted t (p ∷ ps) = p.toks ++ each t ps

-- rows of VALUES, each in parentheses
unfoldable pub rows : List Piece → List Tok
rows [] = []
rows (p ∷ []) = within p.toks
rows (p ∷ (q ∷ ps)) = within p.toks ++ (tok COMMA ∷ rows (q ∷ ps))

-- the group list: none where it has no members (HAVING alone)
unfoldable pub grouped : Piece → List Tok
grouped p = somewhat p.toks
  where
    somewhat : List Tok → List Tok
    somewhat [] = []
    somewhat (t ∷ ts) = tok GROUP ∷ tok BY ∷ t ∷ ts

-- the words of a join before JOIN
unfoldable pub join_words : List ℕ → List Tok
join_words [] = []
join_words (w ∷ ws) = toktext JOIN_KW w ∷ join_words ws

unfoldable pub join_of : ℕ → List Tok
join_of d = choose (eqb d 0) (tok COMMA ∷ []) (join_words (words_of (fewest_of (d - 64))) ++ (tok JOIN ∷ []))

-- WHEN a THEN b for each pair; after the last pair ELSE, if there is one
unfoldable pub whens : List Piece → List Tok
whens [] = []
whens (e ∷ []) = after (tok ELSE ∷ []) e
whens (a ∷ (b ∷ ps)) = tok WHEN ∷ (a.toks ++ (tok THEN ∷ (b.toks ++ whens ps)))

-- "39 | binary kind, IS NOT 137, LIKE_KW 200 + text, NOT LIKE_KW 300 + text"
unfoldable pub binary_toks : ℕ → List Tok
binary_toks d =
    pick (leb 300 d) (tok NOT ∷ toktext LIKE_KW (d - 300) ∷ [])
    (λ w. pick (leb 200 d) (toktext LIKE_KW (d - 200) ∷ [])
    (λ w. pick (eqb d 137) (tok IS ∷ tok NOT ∷ []) (λ w. tok d ∷ [])))

unfoldable pub binary_str : ℕ → ℕ
binary_str d = choose (leb 100 d) 4 (strength_of d)

-- "1 if NOT"
abbrev pub not_if : ℕ → List Tok
not_if d = choose (eqb d 1) (tok NOT ∷ []) []

-- the strength of an expression's node; 0 for what is none
unfoldable pub node_str : ℕ → ℕ → ℕ
node_str c d =
    pick (eqb c node_prefix) (prefix_of d)
    (λ w. pick (eqb c node_binary) (binary_str d)
    (λ w. pick (both (leb node_null_test c) (leb c node_between)) 4
    (λ w. pick (eqb c node_collate) 10
    (λ w. pick (both (leb node_integer c) (leb c node_cast)) 12 (λ w. 0)))))

pub record Form : Type 0 where
  pub of : ℕ
  pub make : ℕ → List Piece → List Tok

abbrev pub form : ℕ → (ℕ → List Piece → List Tok) → Form
form c f = record { of = c; make = f }

-- the code; detail, children → tokens
unfoldable pub forms : List Form
forms =
    form node_query (λ d k. (k ! 0).toks ++ (after (tok ORDER ∷ tok BY ∷ []) (k ! 1) ++ (after (tok LIMIT ∷ []) (k ! 2) ++ after (tok OFFSET ∷ []) (k ! 3))))
    ∷ form node_select (λ d k. tok SELECT ∷ (choose (eqb d 1) (tok DISTINCT ∷ []) [] ++ ((k ! 0).toks ++ ((k ! 1).toks ++ (after (tok WHERE ∷ []) (k ! 2) ++ (grouped (k ! 3) ++ after (tok HAVING ∷ []) (k ! 4)))))))
    ∷ form node_values (λ d k. tok VALUES ∷ rows k)
    ∷ form node_list (λ d k. parted (tok COMMA) k)
    ∷ form node_star (λ d k. tok STAR ∷ [])
    ∷ form node_name_star (λ d k. (k ! 0).toks ++ (tok DOT ∷ tok STAR ∷ []))
    ∷ form node_column (λ d k. (k ! 0).toks ++ after (tok AS ∷ []) (k ! 1))
    ∷ form node_from (λ d k. tok FROM ∷ joined k)
    ∷ form node_join (λ d k. join_of d ++ ((k ! 0).toks ++ (k ! 1).toks))
    ∷ form node_on (λ d k. tok ON ∷ (k ! 0).toks)
    ∷ form node_using (λ d k. tok USING ∷ within (parted (tok COMMA) k))
    ∷ form node_table (λ d k. (k ! 0).toks ++ (choose (eqb (k ! 0).code node_absent) [] (tok DOT ∷ []) ++ ((k ! 1).toks ++ (after (tok AS ∷ []) (k ! 2)
    ++ choose (eqb (d / 4) 2) (tok NOT ∷ tok INDEXED ∷ []) (after (tok INDEXED ∷ tok BY ∷ []) (k ! 3))))))
    ∷ form node_query_source (λ d k. within (k ! 0).toks ++ after (tok AS ∷ []) (k ! 1))
    ∷ form node_sort (λ d k. (k ! 0).toks ++ (choose (eqb (d % 4) 2) (tok DESC ∷ []) []
    ++ choose (eqb (d / 4) 1) (tok NULLS ∷ tok FIRST ∷ []) (choose (eqb (d / 4) 2) (tok NULLS ∷ tok LAST ∷ []) [])))
    ∷ form node_id (λ d k. toktext ID d ∷ [])
    ∷ form node_string_name (λ d k. toktext STRING d ∷ [])
    ∷ form node_indexed_name (λ d k. toktext INDEXED d ∷ [])
    ∷ form node_join_name (λ d k. toktext JOIN_KW d ∷ [])
    ∷ form node_integer (λ d k. toktext INTEGER d ∷ [])
    ∷ form node_float (λ d k. toktext FLOAT d ∷ [])
    ∷ form node_string (λ d k. toktext STRING d ∷ [])
    ∷ form node_blob (λ d k. toktext BLOB d ∷ [])
    ∷ form node_variable (λ d k. toktext VARIABLE d ∷ [])
    ∷ form node_ctime (λ d k. toktext CTIME_KW d ∷ [])
    ∷ form node_null (λ d k. tok NULL ∷ [])
    ∷ form node_names (λ d k. parted (tok DOT) k)
    ∷ form node_call (λ d k. (k ! 0).toks ++ within (choose (eqb d 2) (tok STAR ∷ []) (choose (eqb d 1) (tok DISTINCT ∷ []) [] ++ (k ! 1).toks)))
    ∷ form node_parens (λ d k. within (parted (tok COMMA) k))
    ∷ form node_subquery (λ d k. within (k ! 0).toks)
    ∷ form node_exists (λ d k. tok EXISTS ∷ within (k ! 0).toks)
    ∷ form node_case (λ d k. tok CASE ∷ ((k ! 0).toks ++ (whens (but_first k) ++ (tok END ∷ []))))
    ∷ form node_cast (λ d k. tok CAST ∷ within ((k ! 0).toks ++ (tok AS ∷ (k ! 1).toks)))
    ∷ form node_prefix (λ d k. tok d ∷ at (prefix_of d) (k ! 0))
    ∷ form node_binary (λ d k. at (binary_str d) (k ! 0) ++ (binary_toks d ++ at (binary_str d + 1) (k ! 1)))
    ∷ form node_null_test (λ d k. at 4 (k ! 0) ++ (tok d ∷ []))
    ∷ form node_in_list (λ d k. at 4 (k ! 0) ++ (not_if d ++ (tok IN ∷ within (k ! 1).toks)))
    ∷ form node_in_query (λ d k. at 4 (k ! 0) ++ (not_if d ++ (tok IN ∷ within (k ! 1).toks)))
    ∷ form node_between (λ d k. at 4 (k ! 0) ++ (not_if d ++ (tok BETWEEN ∷ (at 5 (k ! 1) ++ (tok AND ∷ at 5 (k ! 2))))))
    ∷ form node_collate (λ d k. at 10 (k ! 0) ++ (tok COLLATE ∷ (k ! 1).toks))
    ∷ []

unfoldable pub formed : ℕ → List Form → ℕ → List Piece → List Tok
formed c [] d k = []
formed c (f ∷ fs) d k = pick (eqb c f.of) (f.make d k) (λ w. formed c fs d k)

unfoldable pub piece : ℕ → ℕ → List Piece → Piece
piece c d k = record { code = c; str = node_str c d; toks = formed c forms d k }

-- nodes side by side, each written without a place
unfoldable pub pieces : Nodes → List Piece
pieces end = []
pieces (mk c d ks ns) = piece c d (pieces ks) ∷ pieces ns

-- the canonical writing of a reading
unfoldable pub writing : Nodes → List Tok
writing ns = joined (pieces (meaning ns))
