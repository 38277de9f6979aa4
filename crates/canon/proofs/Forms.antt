-- What the proof finds for each derived tree x, seen around as c. Pack: a canonical tree y for it, at its place. Core: for an expression, a
-- canonical tree in every class where one may stand, without parentheses. KidsOf: for all children of a row. Definitions only.
use mathlib.Core.Bool.{true, false, Bool}
use mathlib.Core.List.{List, [], ◌∷◌, ◌++◌}
use mathlib.Core.Logic.{◌⊎◌}
use mathlib.Core.Path.{◌≡◌}
use Prim.Native.Nat.{ℕ}
use lib.Dec.{eqb, leb}
use Rattle.theory.specs.Trees.{Tok, Nt, Item, lit, nt, Row, Tree, nil, add, leaf, toks, cap_of}
use Rattle.theory.specs.Table.{mem}
use Rattle.theory.specs.Derives.{Ok}
use Rattle.theory.specs.Judged.{faults_in, AllZero}
use Rattle.grammar.specs.Classes.{Expr, Name, Paren, Rows, Column, StarOrName, SecondName, Not, Exprs?, Offset?, ColRest?, ColDots?, Word2?, Word3?, Dot?, NameRest?, Dots?, IsRight, E, any}
use Rattle.grammar.specs.RowNames.{row_select, row_values, row_name, row_comma_offset, row_star, row_as, row_bare, row_star_args, row_distinct_args}
use Rattle.grammar.specs.NodeNames.{node_absent}
use Rattle.grammar.specs.Nodes.{Nodes}
use Rattle.grammar.specs.Rows.{part, exprs}
use Rattle.grammar.specs.Grammar.{bare, G}
use Rattle.grammar.specs.Sizes.{LEVELS}
use Rattle.grammar.specs.Limits.{Around, is_query, is_expression, further_flags, members, width_of, judge}
use Rattle.grammar.specs.Reading.{Val, empty, choose, NAME_STAR, value}
use Rattle.grammar.specs.Meaning.{meaning}
use Rattle.grammar.specs.Writing.{Piece}
use Rattle.grammar.specs.Promise.{AllFit}
use Rattle.canon.proofs.Counted.{under, deeper}
use Rattle.canon.proofs.Folds.{P}
use Rattle.canon.proofs.Says.{Operand, Rests, Says}

-- the limits have no word on y, seen around as c
abbrev pub Clean : Tree → Around → Type 0
Clean y c = AllZero (faults_in Around under judge y c 0)

pub data Stands (A : Nt) : Tree → Type 0 where
  gone : G.nullable A ≡ true → Stands A nil
  here : {q : Row} {y : Tree} → Ok G A q y → Stands A y

-- the classes at whose end a left operand may end; those that may end in name DOT STAR
abbrev pub capped : List ℕ
capped = Expr ∷ IsRight ∷ Name ∷ SecondName ∷ Not ∷ NameRest? ∷ Dots? ∷ Dot? ∷ ColRest? ∷ ColDots? ∷ StarOrName ∷ []

abbrev pub starry : List ℕ
starry = ColRest? ∷ ColDots? ∷ StarOrName ∷ []

abbrev pub either : {X : Type 0} → Bool → X → X → X
either true a b = a
either false a b = b

-- the least that the end of what stands there leaves
abbrev pub floor_of : Nt → ℕ
floor_of B = either (eqb B.of Expr) B.least (either (eqb B.of Not) 4 (either (eqb B.of IsRight) 4 99))

abbrev pub Caps : Nt → Val → Tree → Type 0
Caps A v y = mem A.of capped ≡ true → (mem A.of starry ≡ true → eqb v.num NAME_STAR ≡ false) → leb (floor_of A) (cap_of y) ≡ true

-- after IS stands what holds 5 or tighter
abbrev pub fits_at : ℕ → ℕ → Bool
fits_at D s = either (eqb D IsRight) (leb 5 s) true

-- what some classes say of the trees themselves. , b: the expression in it
abbrev pub CommaTree : Around → Tree → Type 0
CommaTree c x = (z : Tree) × Stands (E 1) z × Clean z c × AllFit (toks z) × Operand 1 (value x) (value z) (toks z)

abbrev pub pick_t : Bool → Type 0 → (Unit {0} → Type 0) → Type 0
pick_t true p f = p
pick_t false p f = f tt

-- names after the first, as a column has them
abbrev pub ColForm : ℕ → Around → Tree → Type 0
ColForm C c x = (z : Tree) × Stands (any C) z × Clean z c × (leb 99 (cap_of z) ≡ true) × AllFit (toks z) × Rests (value x) (value z) (toks z)

abbrev pub name_row : Row
name_row = part row_name []

abbrev pub More : ℕ → Around → Tree → Tree → Type 0
More C c x y =
    pick_t (eqb C SecondName) (Stands (any StarOrName) y)
    (λ z. pick_t (eqb C NameRest?) (ColForm ColRest? c x)
    (λ z. pick_t (eqb C Dots?) (ColForm ColDots? c x)
    (λ z. pick_t (eqb C ColRest?) (eqb (value x).num NAME_STAR ≡ true → cap_of x ≡ 0)
    (λ z. pick_t (eqb C ColDots?) (eqb (value x).num NAME_STAR ≡ true → cap_of x ≡ 0)
    (λ z. pick_t (eqb C StarOrName) (eqb (value x).num NAME_STAR ≡ true → cap_of x ≡ 0)
    (λ z. pick_t (eqb C Exprs?) (members y ≡ members x)
    (λ z. pick_t (eqb C Rows) (width_of y ≡ width_of x)
    (λ z. pick_t (eqb C Word2?) (further_flags x ≡ (value x).num)
    (λ z. pick_t (eqb C Word3?) (further_flags x ≡ (value x).num)
    (λ z. pick_t (eqb C Offset?) ((eqb (value x).row row_comma_offset ≡ false) ⊎ CommaTree c x) (λ z. Unit {0})))))))))))

pub record Pack (A : Nt) (c : Around) (x : Tree) : Type 0 where
  pub y : Tree
  pub stands : Stands A y
  pub clean : Clean y c
  pub caps : Caps A (value x) y
  pub fit : AllFit (toks y)
  pub says : Says A (value x) (value y) (toks y)
  pub more : More A.of c x y

-- the rows of expressions, by their code: none that a rule tells from them
abbrev pub told : List ℕ
told = row_select ∷ row_values ∷ row_star ∷ row_as ∷ row_bare ∷ row_star_args ∷ row_distinct_args ∷ []

pub record Form (D : ℕ) (c : Around) (n : Nodes) (p : Piece) : Type 0 where
  pub y : Tree
  pub q : Row
  pub ok : Ok G (any D) q y
  pub strong : leb p.str q.str ≡ true
  pub writes : toks y ≡ p.toks
  pub same : n ≡ meaning (value y).nodes
  pub untold : mem (value y).row told ≡ false
  pub num : (value y).num ≡ 0
  pub clean : Clean y c
  pub cap : leb p.str (cap_of y) ≡ true
  pub fit : AllFit (toks y)

-- a column's names have rows of their own: what was read as a column is needed only as one
unfoldable pub reach : ℕ → ℕ → Bool
reach C D = choose (eqb C Column) (eqb D Column) (mem D exprs)

-- how it stands where more than its strength is asked. as_tight, spared: nowhere, for no more is asked than what was read holds, and it holds as
-- tightly; or, where levels count, than what was read leaves (Spare), and it holds that. in_pair: in parentheses
pub data Deep (r : Row) (c : Around) (x : Tree) (p : Piece) : Type 0 where
  as_tight : leb r.str p.str ≡ true → Deep r c x p
  in_pair : leb c.level LEVELS ≡ true → Form Paren (deeper c) (meaning (value x).nodes) p → Deep r c x p
  spared : leb 1 c.level ≡ true → is_expression r ≡ true → leb (cap_of x) r.cap ≡ true → leb r.cap p.str ≡ true → Deep r c x p

-- where levels count, an expression is asked for no more than its row leaves: it is no NOT to the right
abbrev pub Spare : ℕ → Row → Around → Type 0
Spare s r c = leb 1 c.level ≡ true → is_expression r ≡ true → leb s r.cap ≡ true

pub record Core (C : ℕ) (r : Row) (c : Around) (x : Tree) : Type 0 where
  pub p : Piece
  pub single : P (value x).nodes ≡ p ∷ []
  pub solid : eqb p.code node_absent ≡ false
  pub tight : leb 1 p.str ≡ true
  pub num : (value x).num ≡ 0
  pub untold : mem (value x).row told ≡ false
  pub forms : (D : ℕ) → reach C D ≡ true → fits_at D p.str ≡ true → Form D c (meaning (value x).nodes) p
  pub deep : Deep r c x p

-- what stands in ( ) and is no expression: a query, or two expressions at least
abbrev pub Wide : ℕ → Tree → Type 0
Wide C x = pick_t (eqb C Paren) ((is_query (value x).row ≡ true) ⊎ ((p : Piece) × (q : Piece) × (ps : List Piece) × (P (value x).nodes ≡ p ∷ q ∷ ps))) (λ z. Unit {0})

pub data Result (C : ℕ) (r : Row) (c : Around) (x : Tree) : Type 0 where
  core : mem C exprs ≡ true → Core C r c x → Result C r c x
  plain : (leb 1 r.str ≡ false) ⊎ ((cap_of x ≡ 0) ⊎ ((C ≡ IsRight) × (leb 5 (cap_of x) ≡ false))) → Wide C x → ((s : ℕ) → leb s r.str ≡ true → Pack (record { of = C; least = s }) c x) → Result C r c x

-- a strength is asked of expressions only, and 5 after IS
unfoldable pub proper : Nt → Bool
proper B = choose (eqb B.of Expr) true (choose (eqb B.of IsRight) (eqb B.least 5) (eqb B.least 0))

pub data Kid (B : Nt) (c : Around) : Tree → Type 0 where
  left_out : G.nullable B ≡ true → Kid B c nil
  there : {q : Row} {x : Tree} → proper B ≡ true → leb B.least q.str ≡ true → leb q.str 12 ≡ true → Spare B.least q c → Result B.of q c x → Kid B c x

-- the children of a row, along its items
abbrev pub KidsOf : List Item → Around → Type 0
KidsOf [] c = Unit {0}
KidsOf (lit k ∷ is) c = (u : Tok) × (k ≡ u.kind) × KidsOf is c
KidsOf (nt B ∷ is) c = (x : Tree) × Kid B c x × KidsOf is c

unfoldable pub grow : (c : Around) (is : List Item) → KidsOf is c → Tree → Tree
grow c [] ks f = f
grow c (lit k ∷ is) ks f = grow c is ks.2 (add f (leaf ks.0))
grow c (nt B ∷ is) ks f = grow c is ks.2 (add f ks.0)

-- what they say
abbrev pub Said : List Item → Type 0
Said [] = Unit {0}
Said (lit k ∷ is) = Said is
Said (nt B ∷ is) = (v : Val) × (w : Val) × (ts : List Tok) × Says B v w ts × Said is

abbrev pub vs : (is : List Item) → Said is → List Val
vs [] s = []
vs (lit k ∷ is) s = empty ∷ vs is s
vs (nt B ∷ is) s = s.0 ∷ vs is s.4

abbrev pub ws : (is : List Item) → Said is → List Val
ws [] s = []
ws (lit k ∷ is) s = empty ∷ ws is s
ws (nt B ∷ is) s = s.1 ∷ ws is s.4

abbrev pub tk : (is : List Item) → Said is → List Tok
tk [] s = []
tk (lit k ∷ is) s = bare k ∷ tk is s
tk (nt B ∷ is) s = s.2 ++ tk is s.4
