-- What the canonical form of a part says, class by class: v is the value of the part, w of its canonical form, ts that form's tokens.
-- Said: the same of all children of a row. Definitions only.
use mathlib.Core.Bool.{true, false, Bool}
use mathlib.Core.List.{List, [], ◌∷◌, ◌++◌}
use mathlib.Core.Path.{◌≡◌}
use Prim.Native.Nat.{ℕ, ◌+◌}
use lib.Dec.{eqb, leb}
use lib.ListN.{length}
use Rattle.theory.specs.Trees.{Tok, Nt}
use Rattle.theory.specs.Table.{both, mem}
use Rattle.words.specs.Sequences.{united_all}
use Rattle.kinds.specs.Kinds.{INDEXED, COMMA, DOT, STAR, AND, NOT, IN, BETWEEN, LIKE_KW, WHEN, THEN, ELSE, AS, DISTINCT, WHERE, BY, HAVING, ORDER, DESC, NULLS, FIRST, LAST, LIMIT, OFFSET}
use Rattle.grammar.specs.Classes.{Expr, Command, Name, Query, Paren, FirstLast, Rows, Column, StarOrName, Source, SecondName, Not, Semi?, Names?, Exprs?, Inside?, Order?, Terms?, Way?, Nulls?, Limit?, Offset?, Distinct?, Columns?, From?, Where?, Group?, Having?, ColRest?, ColDots?, Joins?, Word2?, Word3?, On?, Dot?, Alias?, Index?, Base?, Args?, IsRight, NameRest?, Dots?, Whens?, Else?}
use Rattle.grammar.specs.RowNames.{row_comma_offset, row_not_like, row_not_in, row_not_between, row_not_null, row_call, row_star_args, row_distinct_args}
use Rattle.grammar.specs.NodeNames.{node_absent, node_in_list, node_in_query}
use Rattle.grammar.specs.Nodes.{end}
use Rattle.grammar.specs.Limits.{is_query}
use Rattle.grammar.specs.Reading.{Val, choose, opt, NAME_STAR, column, limit_and_offset}
use Rattle.grammar.specs.Meaning.{meaning}
use Rattle.grammar.specs.Writing.{Piece, tok, toktext, within, at, after, joined, each, parted, rows, grouped}
use Rattle.canon.proofs.Folds.{P}

-- one node, written by F
pub record Single (F : Piece → List Tok) (v w : Val) (ts : List Tok) : Type 0 where
  pub p : Piece
  pub single : P v.nodes ≡ p ∷ []
  pub solid : eqb p.code node_absent ≡ false
  pub same : meaning v.nodes ≡ meaning w.nodes
  pub toks : ts ≡ F p

-- it has a token
abbrev pub Full : Piece → Type 0
Full p = (u : Tok) × (us : List Tok) × (p.toks ≡ u ∷ us)

-- an expression at a place that asks for strength s
pub record Operand (s : ℕ) (v w : Val) (ts : List Tok) : Type 0 where
  pub p : Piece
  pub single : P v.nodes ≡ p ∷ []
  pub solid : eqb p.code node_absent ≡ false
  pub tight : leb 1 p.str ≡ true
  pub full : Full p
  pub same : meaning v.nodes ≡ meaning w.nodes
  pub toks : ts ≡ at s p

abbrev pub written : Piece → List Tok
written p = p.toks

-- nodes side by side, written by F
pub record Run (F : List Piece → List Tok) (v w : Val) (ts : List Tok) : Type 0 where
  pub same : meaning v.nodes ≡ meaning w.nodes
  pub toks : ts ≡ F (P v.nodes)

-- one node, or absent: then code 0 stands for it
pub record Maybe (F : Piece → List Tok) (v w : Val) (ts : List Tok) : Type 0 where
  pub o : Piece
  pub opted : P (opt v).nodes ≡ o ∷ []
  pub same : meaning v.nodes ≡ meaning w.nodes
  pub toks : ts ≡ F o

-- what is not read
pub record Unread (v w : Val) (ts : List Tok) : Type 0 where
  pub toks : ts ≡ []

-- "optional DISTINCT or ALL": no ALL is written
pub data Distincts (v w : Val) : List Tok → Type 0 where
  no_word : v.num ≡ 0 → w.num ≡ 0 → Distincts v w []
  all_word : v.num ≡ 2 → w.num ≡ 0 → Distincts v w []
  distinct_word : v.num ≡ 1 → w.num ≡ 1 → Distincts v w (tok DISTINCT ∷ [])

pub data Ways (v w : Val) : List Tok → Type 0 where
  no_way : v.num ≡ 0 → w.num ≡ 0 → Ways v w []
  asc_way : v.num ≡ 1 → w.num ≡ 0 → Ways v w []
  desc_way : v.num ≡ 2 → w.num ≡ 2 → Ways v w (tok DESC ∷ [])

pub data FirstLasts (v w : Val) : List Tok → Type 0 where
  is_first : v.num ≡ 1 → w.num ≡ 1 → FirstLasts v w (tok FIRST ∷ [])
  is_last : v.num ≡ 2 → w.num ≡ 2 → FirstLasts v w (tok LAST ∷ [])

pub data NullsSays (v w : Val) : List Tok → Type 0 where
  no_nulls : v.num ≡ 0 → w.num ≡ 0 → NullsSays v w []
  nulls_first : v.num ≡ 1 → w.num ≡ 1 → NullsSays v w (tok NULLS ∷ tok FIRST ∷ [])
  nulls_last : v.num ≡ 2 → w.num ≡ 2 → NullsSays v w (tok NULLS ∷ tok LAST ∷ [])

-- after IS: its operand, or NOT and the operand of IS NOT
pub data IsRights (v w : Val) (ts : List Tok) : Type 0 where
  only_is : v.num ≡ 0 → w.num ≡ 0 → Operand 5 v w ts → IsRights v w ts
  is_not : v.num ≡ 100 → w.num ≡ 100 → Single (λ p. tok NOT ∷ at 5 p) v w ts → IsRights v w ts

-- an alias: none, or by AS, as which a bare one is written
pub data Aliases (v w : Val) (ts : List Tok) : Type 0 where
  no_alias : v.num ≡ 0 → w.num ≡ 0 → Maybe (after (tok AS ∷ [])) v w ts → Aliases v w ts
  as_alias : v.num ≡ 1 → w.num ≡ 1 → Maybe (after (tok AS ∷ [])) v w ts → Aliases v w ts
  bare_alias : v.num ≡ 2 → w.num ≡ 1 → Maybe (after (tok AS ∷ [])) v w ts → Aliases v w ts

pub data Indexes (v w : Val) (ts : List Tok) : Type 0 where
  no_index : v.num ≡ 0 → w.num ≡ 0 → Maybe (after (tok INDEXED ∷ tok BY ∷ [])) v w ts → Indexes v w ts
  indexed_by : v.num ≡ 1 → w.num ≡ 1 → Maybe (after (tok INDEXED ∷ tok BY ∷ [])) v w ts → Indexes v w ts
  not_indexed : v.num ≡ 2 → w.num ≡ 2 → Maybe (λ o. tok NOT ∷ tok INDEXED ∷ []) v w ts → Indexes v w ts

-- limit and offset
pub record Limited (v w : Val) (ts : List Tok) : Type 0 where
  pub a : Piece
  pub b : Piece
  pub two : P (limit_and_offset v).nodes ≡ a ∷ b ∷ []
  pub same : meaning v.nodes ≡ meaning w.nodes
  pub toks : ts ≡ after (tok LIMIT ∷ []) a ++ after (tok OFFSET ∷ []) b

-- OFFSET b; , b is told from it
pub record Offsets (v w : Val) (ts : List Tok) : Type 0 where
  pub may : Maybe (after (tok OFFSET ∷ [])) v w ts
  pub row : eqb w.row row_comma_offset ≡ false

-- rows of VALUES, one at least
pub record Rowed (v w : Val) (ts : List Tok) : Type 0 where
  pub p : Piece
  pub ps : List Piece
  pub some_rows : P v.nodes ≡ p ∷ ps
  pub same : meaning v.nodes ≡ meaning w.nodes
  pub toks : ts ≡ rows (p ∷ ps)

-- a member of the column list
pub record Columned (v w : Val) (ts : List Tok) : Type 0 where
  pub p : Piece
  pub single : P (column v).nodes ≡ p ∷ []
  pub same : meaning (column v).nodes ≡ meaning (column w).nodes
  pub toks : ts ≡ p.toks

-- what stands in ( ): a query, or expressions
pub record Inner (v w : Val) (ts : List Tok) : Type 0 where
  pub query : is_query v.row ≡ is_query w.row
  pub same : meaning v.nodes ≡ meaning w.nodes
  pub toks : ts ≡ parted (tok COMMA) (P v.nodes)
  pub one_query : is_query v.row ≡ true → (p : Piece) × (P v.nodes ≡ p ∷ []) × (eqb p.code node_absent ≡ false)

-- the arguments of a call
pub data Argued (v w : Val) (ts : List Tok) : Type 0 where
  star_args : v.row ≡ row_star_args → w.row ≡ row_star_args → v.nodes ≡ end → w.nodes ≡ end → ts ≡ tok STAR ∷ [] → Argued v w ts
  distinct_args : v.row ≡ row_distinct_args → w.row ≡ row_distinct_args → meaning v.nodes ≡ meaning w.nodes → ts ≡ tok DISTINCT ∷ parted (tok COMMA) (P v.nodes) → Argued v w ts
  plain_args : mem v.row (row_star_args ∷ row_distinct_args ∷ []) ≡ false → mem w.row (row_star_args ∷ row_distinct_args ∷ []) ≡ false
      → meaning v.nodes ≡ meaning w.nodes → ts ≡ parted (tok COMMA) (P v.nodes) → Argued v w ts

-- what may follow the first name: further names, a call, DOT STAR
pub data Rests (v w : Val) (ts : List Tok) : Type 0 where
  more_names : eqb v.row row_call ≡ false → eqb w.row row_call ≡ false → v.num ≡ 0 → w.num ≡ 0 → Run (each (tok DOT)) v w ts → Rests v w ts
  called : (d : ℕ) (us : List Tok) → eqb d NAME_STAR ≡ false → v.row ≡ row_call → w.row ≡ row_call → v.num ≡ d → w.num ≡ d → meaning v.nodes ≡ meaning w.nodes
      → choose (eqb d 2) (tok STAR ∷ []) (choose (eqb d 1) (tok DISTINCT ∷ []) [] ++ parted (tok COMMA) (P v.nodes)) ≡ us → ts ≡ within us → Rests v w ts
  dot_star : eqb v.row row_call ≡ false → eqb w.row row_call ≡ false → v.num ≡ NAME_STAR → w.num ≡ NAME_STAR → ts ≡ tok DOT ∷ tok STAR ∷ [] → Rests v w ts

-- in an expression no STAR follows
pub record NameRests (v w : Val) (ts : List Tok) : Type 0 where
  pub rests : Rests v w ts
  pub no_star : eqb v.num NAME_STAR ≡ false

-- after name DOT: a name, perhaps another; or STAR
pub data Stars (v w : Val) (ts : List Tok) : Type 0 where
  second_name : v.num ≡ 0 → w.num ≡ 0 → Run (parted (tok DOT)) v w ts → (p : Piece) (ps : List Piece) → P v.nodes ≡ p ∷ ps → Stars v w ts
  only_star : v.num ≡ NAME_STAR → w.num ≡ NAME_STAR → ts ≡ tok STAR ∷ [] → Stars v w ts

-- in an expression no STAR stands there
pub record Seconds (v w : Val) (ts : List Tok) : Type 0 where
  pub stars : Stars v w ts
  pub no_star : eqb v.num NAME_STAR ≡ false

-- DOT name, or nothing
pub data Dotted (v w : Val) (ts : List Tok) : Type 0 where
  no_dot : P v.nodes ≡ [] → meaning v.nodes ≡ meaning w.nodes → ts ≡ [] → Dotted v w ts
  dot_name : (p : Piece) → eqb p.code node_absent ≡ false → P v.nodes ≡ p ∷ [] → meaning v.nodes ≡ meaning w.nodes → ts ≡ tok DOT ∷ p.toks → Dotted v w ts

-- after NOT
pub data Nots (v w : Val) (ts : List Tok) : Type 0 where
  like_after : (x : ℕ) → v.row ≡ row_not_like → w.row ≡ row_not_like → v.num ≡ 300 + x → w.num ≡ 300 + x → Single (λ p. toktext LIKE_KW x ∷ at 5 p) v w ts → Nots v w ts
  query_after : v.row ≡ row_not_in → w.row ≡ row_not_in → v.num ≡ node_in_query → w.num ≡ node_in_query → Single (λ p. tok IN ∷ within p.toks) v w ts → Nots v w ts
  list_after : v.row ≡ row_not_in → w.row ≡ row_not_in → v.num ≡ node_in_list → w.num ≡ node_in_list → Single (λ p. tok IN ∷ within p.toks) v w ts → Nots v w ts
  between_after : v.row ≡ row_not_between → w.row ≡ row_not_between → (p q : Piece) → P v.nodes ≡ p ∷ q ∷ [] → meaning v.nodes ≡ meaning w.nodes
      → ts ≡ tok BETWEEN ∷ (at 5 p ++ (tok AND ∷ at 5 q)) → Nots v w ts
  null_after : v.row ≡ row_not_null → w.row ≡ row_not_null → Nots v w ts

-- WHEN THEN pairs
unfoldable pub pairs : List Piece → List Tok
pairs [] = []
pairs (a ∷ []) = []
pairs (a ∷ (b ∷ ps)) = tok WHEN ∷ (a.toks ++ (tok THEN ∷ (b.toks ++ pairs ps)))

pub data Even : List Piece → Type 0 where
  no_pair : Even []
  pair : {a b : Piece} {ps : List Piece} → Even ps → Even (a ∷ b ∷ ps)

pub record Paired (v w : Val) (ts : List Tok) : Type 0 where
  pub even : Even (P v.nodes)
  pub same : meaning v.nodes ≡ meaning w.nodes
  pub toks : ts ≡ pairs (P v.nodes)

-- every one is a join word's number
unfoldable pub all_words : List ℕ → Bool
all_words [] = true
all_words (w ∷ ws) = both (both (leb 1 w) (leb w 7)) (all_words ws)

-- further join words: n at most; their flags
pub record Worded (n : ℕ) (v w : Val) (ts : List Tok) : Type 0 where
  pub words : List ℕ
  pub few : leb (length words) n ≡ true
  pub fit : all_words words ≡ true
  pub flags : v.num ≡ united_all words

-- an expression of strength s, by itself
pub record Cored (s : ℕ) (v w : Val) (ts : List Tok) : Type 0 where
  pub p : Piece
  pub single : P v.nodes ≡ p ∷ []
  pub solid : eqb p.code node_absent ≡ false
  pub str : p.str ≡ s
  pub vnum : v.num ≡ 0
  pub wnum : w.num ≡ 0
  pub same : meaning v.nodes ≡ meaning w.nodes
  pub toks : ts ≡ p.toks

-- ── which of them a class says ──
abbrev pub Pred : Type 1
Pred = Val → Val → List Tok → Type 0

abbrev pub pick₁ : Bool → Pred → (Unit {0} → Pred) → Pred
pick₁ true p f = p
pick₁ false p f = f tt

abbrev pub SaysOf : ℕ → ℕ → Pred
SaysOf C s =
    pick₁ (eqb C Expr) (Operand s)
    (λ z. pick₁ (eqb C Command) (Single written)
    (λ z. pick₁ (eqb C Name) (Single written)
    (λ z. pick₁ (eqb C Query) (Single written)
    (λ z. pick₁ (eqb C Source) (Single written)
    (λ z. pick₁ (eqb C Names?) (Run (each (tok COMMA)))
    (λ z. pick₁ (eqb C Exprs?) (Run (each (tok COMMA)))
    (λ z. pick₁ (eqb C Terms?) (Run (each (tok COMMA)))
    (λ z. pick₁ (eqb C Columns?) (Run (each (tok COMMA)))
    (λ z. pick₁ (eqb C Semi?) Unread
    (λ z. pick₁ (eqb C Paren) Inner
    (λ z. pick₁ (eqb C Inside?) Inner
    (λ z. pick₁ (eqb C Args?) Argued
    (λ z. pick₁ (eqb C Order?) (Maybe (after (tok ORDER ∷ tok BY ∷ [])))
    (λ z. pick₁ (eqb C Way?) Ways
    (λ z. pick₁ (eqb C Nulls?) NullsSays
    (λ z. pick₁ (eqb C FirstLast) FirstLasts
    (λ z. pick₁ (eqb C Limit?) Limited
    (λ z. pick₁ (eqb C Offset?) Offsets
    (λ z. pick₁ (eqb C Rows) Rowed
    (λ z. pick₁ (eqb C Distinct?) Distincts
    (λ z. pick₁ (eqb C From?) (Maybe written)
    (λ z. pick₁ (eqb C On?) (Maybe written)
    (λ z. pick₁ (eqb C Base?) (Maybe written)
    (λ z. pick₁ (eqb C Where?) (Maybe (after (tok WHERE ∷ [])))
    (λ z. pick₁ (eqb C Group?) (Maybe grouped)
    (λ z. pick₁ (eqb C Having?) (Maybe (after (tok HAVING ∷ [])))
    (λ z. pick₁ (eqb C Column) Columned
    (λ z. pick₁ (eqb C ColRest?) Rests
    (λ z. pick₁ (eqb C ColDots?) Rests
    (λ z. pick₁ (eqb C NameRest?) NameRests
    (λ z. pick₁ (eqb C Dots?) NameRests
    (λ z. pick₁ (eqb C SecondName) Seconds
    (λ z. pick₁ (eqb C StarOrName) Stars
    (λ z. pick₁ (eqb C Joins?) (Run joined)
    (λ z. pick₁ (eqb C Word2?) (Worded 2)
    (λ z. pick₁ (eqb C Word3?) (Worded 1)
    (λ z. pick₁ (eqb C Dot?) Dotted
    (λ z. pick₁ (eqb C Alias?) Aliases
    (λ z. pick₁ (eqb C Index?) Indexes
    (λ z. pick₁ (eqb C IsRight) IsRights
    (λ z. pick₁ (eqb C Not) Nots
    (λ z. pick₁ (eqb C Whens?) Paired
    (λ z. pick₁ (eqb C Else?) (Maybe (after (tok ELSE ∷ []))) (λ z v w ts. ⊥))))))))))))))))))))))))))))))))))))))))))))

abbrev pub Says : Nt → Pred
Says A = SaysOf A.of A.least
