-- What may follow each class, by the strength that it asks of the class's end, and a shortest list of kinds of each class that must stand. No
-- promise rests on them: they only help the table's test, which decides whether they are right. tools/follow makes the first from Rows.antt.
-- Definitions only.
use Rattle.std.specs.Prelude.{List, [], ◌∷◌, ℕ, eqb}
use Rattle.theory.specs.Table.{Come, pick}
use Rattle.kinds.specs.Kinds.{ID, KWID, STRING, INDEXED, JOIN_KW, INTEGER, FLOAT, BLOB, VARIABLE, CTIME_KW, NULL, LP, RP, COMMA, SEMI, STAR, PLUS, MINUS, SLASH, REM, CONCAT, BITAND, BITOR, LSHIFT, RSHIFT, BITNOT, EQ, NE, LT, LE, GT, GE, AND, OR, NOT, IS, IN, BETWEEN, LIKE_KW, ISNULL, NOTNULL, COLLATE, CASE, WHEN, THEN, ELSE, END, CAST, AS, EXISTS, SELECT, FROM, JOIN, ON, USING, WHERE, GROUP, HAVING, ORDER, ASC, DESC, NULLS, FIRST, LIMIT, OFFSET}
use Rattle.grammar.specs.Classes.{eof, Expr, Command, Name, Query, Paren, FirstLast, Rows, Column, StarOrName, Source, SecondName, Not, IsRight, Semi?, Names?, Exprs?, Inside?, Order?, Terms?, Way?, Nulls?, Limit?, Offset?, Distinct?, Columns?, From?, Where?, Group?, Having?, ColRest?, ColDots?, Joins?, Word2?, Word3?, On?, Dot?, Alias?, Index?, Base?, Args?, NameRest?, Dots?, Whens?, Else?}

pub record Of : Type 0 where
  pub of : ℕ
  pub ks : List ℕ

unfoldable pub find : ℕ → List Of → List ℕ
find A [] = []
find A (f ∷ fs) = pick (eqb A f.of) f.ks (λ w. find A fs)

pub record After : Type 0 where
  pub of : ℕ
  pub come : List Come

abbrev pub come : ℕ → List ℕ → Come
come s ks = record { asks = s; at = ks }

unfoldable pub coming : ℕ → List After → List Come
coming A [] = []
coming A (f ∷ fs) = pick (eqb A f.of) f.come (λ w. coming A fs)

unfoldable pub follows : List After
follows =
    record { of = Command; come = come 0 (eof ∷ []) ∷ [] }
    ∷ record { of = Semi?; come = come 0 (eof ∷ []) ∷ [] }
    ∷ record { of = Name; come = come 0 (eof ∷ ID ∷ KWID ∷ STRING ∷ INDEXED ∷ JOIN_KW ∷ RP ∷ COMMA ∷ SEMI ∷ STAR ∷ PLUS ∷ MINUS ∷ SLASH ∷ REM ∷ CONCAT ∷ BITAND ∷ BITOR ∷ LSHIFT ∷ RSHIFT ∷ EQ ∷ NE ∷ LT ∷ LE ∷ GT ∷ GE ∷ AND ∷ OR ∷ NOT ∷ IS ∷ IN ∷ BETWEEN ∷ LIKE_KW ∷ ISNULL ∷ NOTNULL ∷ COLLATE ∷ WHEN ∷ THEN ∷ ELSE ∷ END ∷ AS ∷ FROM ∷ JOIN ∷ ON ∷ USING ∷ WHERE ∷ GROUP ∷ HAVING ∷ ORDER ∷ ASC ∷ DESC ∷ NULLS ∷ LIMIT ∷ OFFSET ∷ []) ∷ [] }
    ∷ record { of = Names?; come = come 0 (RP ∷ []) ∷ [] }
    ∷ record { of = Exprs?; come = come 0 (eof ∷ RP ∷ SEMI ∷ HAVING ∷ ORDER ∷ LIMIT ∷ []) ∷ [] }
    ∷ record { of = Query; come = come 0 (RP ∷ []) ∷ [] }
    ∷ record { of = Paren; come = come 0 (RP ∷ []) ∷ [] }
    ∷ record { of = Inside?; come = come 0 (RP ∷ []) ∷ [] }
    ∷ record { of = Order?; come = come 0 (eof ∷ RP ∷ SEMI ∷ LIMIT ∷ []) ∷ [] }
    ∷ record { of = Terms?; come = come 0 (eof ∷ RP ∷ SEMI ∷ LIMIT ∷ []) ∷ [] }
    ∷ record { of = Way?; come = come 0 (eof ∷ RP ∷ COMMA ∷ SEMI ∷ NULLS ∷ LIMIT ∷ []) ∷ [] }
    ∷ record { of = Nulls?; come = come 0 (eof ∷ RP ∷ COMMA ∷ SEMI ∷ LIMIT ∷ []) ∷ [] }
    ∷ record { of = FirstLast; come = come 0 (eof ∷ RP ∷ COMMA ∷ SEMI ∷ LIMIT ∷ []) ∷ [] }
    ∷ record { of = Limit?; come = come 0 (eof ∷ RP ∷ SEMI ∷ []) ∷ [] }
    ∷ record { of = Offset?; come = come 0 (eof ∷ RP ∷ SEMI ∷ []) ∷ [] }
    ∷ record { of = Rows; come = come 0 (eof ∷ RP ∷ SEMI ∷ ORDER ∷ LIMIT ∷ []) ∷ [] }
    ∷ record { of = Distinct?; come = come 0 (ID ∷ KWID ∷ STRING ∷ INDEXED ∷ JOIN_KW ∷ INTEGER ∷ FLOAT ∷ BLOB ∷ VARIABLE ∷ CTIME_KW ∷ NULL ∷ LP ∷ STAR ∷ PLUS ∷ MINUS ∷ BITNOT ∷ NOT ∷ CASE ∷ CAST ∷ EXISTS ∷ []) ∷ [] }
    ∷ record { of = Columns?; come = come 0 (eof ∷ RP ∷ SEMI ∷ FROM ∷ WHERE ∷ GROUP ∷ HAVING ∷ ORDER ∷ LIMIT ∷ []) ∷ [] }
    ∷ record { of = From?; come = come 0 (eof ∷ RP ∷ SEMI ∷ WHERE ∷ GROUP ∷ HAVING ∷ ORDER ∷ LIMIT ∷ []) ∷ [] }
    ∷ record { of = Where?; come = come 0 (eof ∷ RP ∷ SEMI ∷ GROUP ∷ HAVING ∷ ORDER ∷ LIMIT ∷ []) ∷ [] }
    ∷ record { of = Group?; come = come 0 (eof ∷ RP ∷ SEMI ∷ HAVING ∷ ORDER ∷ LIMIT ∷ []) ∷ [] }
    ∷ record { of = Having?; come = come 0 (eof ∷ RP ∷ SEMI ∷ ORDER ∷ LIMIT ∷ []) ∷ [] }
    ∷ record { of = Column; come = come 0 (eof ∷ RP ∷ COMMA ∷ SEMI ∷ FROM ∷ WHERE ∷ GROUP ∷ HAVING ∷ ORDER ∷ LIMIT ∷ []) ∷ [] }
    ∷ record { of = ColRest?; come = come 0 (eof ∷ ID ∷ KWID ∷ STRING ∷ RP ∷ COMMA ∷ SEMI ∷ STAR ∷ PLUS ∷ MINUS ∷ SLASH ∷ REM ∷ CONCAT ∷ BITAND ∷ BITOR ∷ LSHIFT ∷ RSHIFT ∷ EQ ∷ NE ∷ LT ∷ LE ∷ GT ∷ GE ∷ AND ∷ OR ∷ NOT ∷ IS ∷ IN ∷ BETWEEN ∷ LIKE_KW ∷ ISNULL ∷ NOTNULL ∷ COLLATE ∷ AS ∷ FROM ∷ WHERE ∷ GROUP ∷ HAVING ∷ ORDER ∷ LIMIT ∷ []) ∷ [] }
    ∷ record { of = ColDots?; come = come 0 (eof ∷ ID ∷ KWID ∷ STRING ∷ RP ∷ COMMA ∷ SEMI ∷ STAR ∷ PLUS ∷ MINUS ∷ SLASH ∷ REM ∷ CONCAT ∷ BITAND ∷ BITOR ∷ LSHIFT ∷ RSHIFT ∷ EQ ∷ NE ∷ LT ∷ LE ∷ GT ∷ GE ∷ AND ∷ OR ∷ NOT ∷ IS ∷ IN ∷ BETWEEN ∷ LIKE_KW ∷ ISNULL ∷ NOTNULL ∷ COLLATE ∷ AS ∷ FROM ∷ WHERE ∷ GROUP ∷ HAVING ∷ ORDER ∷ LIMIT ∷ []) ∷ [] }
    ∷ record { of = StarOrName; come = come 0 (eof ∷ ID ∷ KWID ∷ STRING ∷ RP ∷ COMMA ∷ SEMI ∷ STAR ∷ PLUS ∷ MINUS ∷ SLASH ∷ REM ∷ CONCAT ∷ BITAND ∷ BITOR ∷ LSHIFT ∷ RSHIFT ∷ EQ ∷ NE ∷ LT ∷ LE ∷ GT ∷ GE ∷ AND ∷ OR ∷ NOT ∷ IS ∷ IN ∷ BETWEEN ∷ LIKE_KW ∷ ISNULL ∷ NOTNULL ∷ COLLATE ∷ AS ∷ FROM ∷ WHERE ∷ GROUP ∷ HAVING ∷ ORDER ∷ LIMIT ∷ []) ∷ [] }
    ∷ record { of = SecondName; come = come 0 (eof ∷ ID ∷ KWID ∷ STRING ∷ JOIN_KW ∷ RP ∷ COMMA ∷ SEMI ∷ STAR ∷ PLUS ∷ MINUS ∷ SLASH ∷ REM ∷ CONCAT ∷ BITAND ∷ BITOR ∷ LSHIFT ∷ RSHIFT ∷ EQ ∷ NE ∷ LT ∷ LE ∷ GT ∷ GE ∷ AND ∷ OR ∷ NOT ∷ IS ∷ IN ∷ BETWEEN ∷ LIKE_KW ∷ ISNULL ∷ NOTNULL ∷ COLLATE ∷ WHEN ∷ THEN ∷ ELSE ∷ END ∷ AS ∷ FROM ∷ JOIN ∷ WHERE ∷ GROUP ∷ HAVING ∷ ORDER ∷ ASC ∷ DESC ∷ NULLS ∷ LIMIT ∷ OFFSET ∷ []) ∷ [] }
    ∷ record { of = Joins?; come = come 0 (eof ∷ RP ∷ SEMI ∷ WHERE ∷ GROUP ∷ HAVING ∷ ORDER ∷ LIMIT ∷ []) ∷ [] }
    ∷ record { of = Word2?; come = come 0 (JOIN ∷ []) ∷ [] }
    ∷ record { of = Word3?; come = come 0 (JOIN ∷ []) ∷ [] }
    ∷ record { of = On?; come = come 0 (eof ∷ JOIN_KW ∷ RP ∷ COMMA ∷ SEMI ∷ JOIN ∷ WHERE ∷ GROUP ∷ HAVING ∷ ORDER ∷ LIMIT ∷ []) ∷ [] }
    ∷ record { of = Source; come = come 0 (eof ∷ JOIN_KW ∷ RP ∷ COMMA ∷ SEMI ∷ JOIN ∷ ON ∷ USING ∷ WHERE ∷ GROUP ∷ HAVING ∷ ORDER ∷ LIMIT ∷ []) ∷ [] }
    ∷ record { of = Dot?; come = come 0 (eof ∷ ID ∷ KWID ∷ STRING ∷ INDEXED ∷ JOIN_KW ∷ RP ∷ COMMA ∷ SEMI ∷ STAR ∷ PLUS ∷ MINUS ∷ SLASH ∷ REM ∷ CONCAT ∷ BITAND ∷ BITOR ∷ LSHIFT ∷ RSHIFT ∷ EQ ∷ NE ∷ LT ∷ LE ∷ GT ∷ GE ∷ AND ∷ OR ∷ NOT ∷ IS ∷ IN ∷ BETWEEN ∷ LIKE_KW ∷ ISNULL ∷ NOTNULL ∷ COLLATE ∷ WHEN ∷ THEN ∷ ELSE ∷ END ∷ AS ∷ FROM ∷ JOIN ∷ ON ∷ USING ∷ WHERE ∷ GROUP ∷ HAVING ∷ ORDER ∷ ASC ∷ DESC ∷ NULLS ∷ LIMIT ∷ OFFSET ∷ []) ∷ [] }
    ∷ record { of = Alias?; come = come 0 (eof ∷ INDEXED ∷ JOIN_KW ∷ RP ∷ COMMA ∷ SEMI ∷ NOT ∷ JOIN ∷ ON ∷ USING ∷ WHERE ∷ GROUP ∷ HAVING ∷ ORDER ∷ LIMIT ∷ []) ∷ [] }
    ∷ record { of = Index?; come = come 0 (eof ∷ JOIN_KW ∷ RP ∷ COMMA ∷ SEMI ∷ JOIN ∷ ON ∷ USING ∷ WHERE ∷ GROUP ∷ HAVING ∷ ORDER ∷ LIMIT ∷ []) ∷ [] }
    ∷ record { of = Expr; come = come 0 (eof ∷ JOIN_KW ∷ RP ∷ COMMA ∷ SEMI ∷ AND ∷ WHEN ∷ THEN ∷ ELSE ∷ END ∷ AS ∷ FROM ∷ JOIN ∷ WHERE ∷ GROUP ∷ HAVING ∷ ORDER ∷ ASC ∷ DESC ∷ NULLS ∷ LIMIT ∷ OFFSET ∷ []) ∷ come 1 (ID ∷ KWID ∷ STRING ∷ OR ∷ []) ∷ come 4 (EQ ∷ NE ∷ NOT ∷ IS ∷ IN ∷ BETWEEN ∷ LIKE_KW ∷ ISNULL ∷ NOTNULL ∷ []) ∷ come 5 (LT ∷ LE ∷ GT ∷ GE ∷ []) ∷ come 6 (BITAND ∷ BITOR ∷ LSHIFT ∷ RSHIFT ∷ []) ∷ come 7 (PLUS ∷ MINUS ∷ []) ∷ come 8 (STAR ∷ SLASH ∷ REM ∷ []) ∷ come 9 (CONCAT ∷ []) ∷ come 10 (COLLATE ∷ []) ∷ [] }
    ∷ record { of = Base?; come = come 0 (WHEN ∷ []) ∷ [] }
    ∷ record { of = Args?; come = come 0 (RP ∷ []) ∷ [] }
    ∷ record { of = IsRight; come = come 0 (eof ∷ JOIN_KW ∷ RP ∷ COMMA ∷ SEMI ∷ AND ∷ WHEN ∷ THEN ∷ ELSE ∷ END ∷ AS ∷ FROM ∷ JOIN ∷ WHERE ∷ GROUP ∷ HAVING ∷ ORDER ∷ ASC ∷ DESC ∷ NULLS ∷ LIMIT ∷ OFFSET ∷ []) ∷ come 1 (ID ∷ KWID ∷ STRING ∷ OR ∷ []) ∷ come 4 (EQ ∷ NE ∷ NOT ∷ IS ∷ IN ∷ BETWEEN ∷ LIKE_KW ∷ ISNULL ∷ NOTNULL ∷ []) ∷ [] }
    ∷ record { of = Not; come = come 0 (eof ∷ JOIN_KW ∷ RP ∷ COMMA ∷ SEMI ∷ AND ∷ WHEN ∷ THEN ∷ ELSE ∷ END ∷ AS ∷ FROM ∷ JOIN ∷ WHERE ∷ GROUP ∷ HAVING ∷ ORDER ∷ ASC ∷ DESC ∷ NULLS ∷ LIMIT ∷ OFFSET ∷ []) ∷ come 1 (ID ∷ KWID ∷ STRING ∷ OR ∷ []) ∷ come 4 (EQ ∷ NE ∷ NOT ∷ IS ∷ IN ∷ BETWEEN ∷ LIKE_KW ∷ ISNULL ∷ NOTNULL ∷ []) ∷ [] }
    ∷ record { of = NameRest?; come = come 0 (eof ∷ ID ∷ KWID ∷ STRING ∷ JOIN_KW ∷ RP ∷ COMMA ∷ SEMI ∷ STAR ∷ PLUS ∷ MINUS ∷ SLASH ∷ REM ∷ CONCAT ∷ BITAND ∷ BITOR ∷ LSHIFT ∷ RSHIFT ∷ EQ ∷ NE ∷ LT ∷ LE ∷ GT ∷ GE ∷ AND ∷ OR ∷ NOT ∷ IS ∷ IN ∷ BETWEEN ∷ LIKE_KW ∷ ISNULL ∷ NOTNULL ∷ COLLATE ∷ WHEN ∷ THEN ∷ ELSE ∷ END ∷ AS ∷ FROM ∷ JOIN ∷ WHERE ∷ GROUP ∷ HAVING ∷ ORDER ∷ ASC ∷ DESC ∷ NULLS ∷ LIMIT ∷ OFFSET ∷ []) ∷ [] }
    ∷ record { of = Dots?; come = come 0 (eof ∷ ID ∷ KWID ∷ STRING ∷ JOIN_KW ∷ RP ∷ COMMA ∷ SEMI ∷ STAR ∷ PLUS ∷ MINUS ∷ SLASH ∷ REM ∷ CONCAT ∷ BITAND ∷ BITOR ∷ LSHIFT ∷ RSHIFT ∷ EQ ∷ NE ∷ LT ∷ LE ∷ GT ∷ GE ∷ AND ∷ OR ∷ NOT ∷ IS ∷ IN ∷ BETWEEN ∷ LIKE_KW ∷ ISNULL ∷ NOTNULL ∷ COLLATE ∷ WHEN ∷ THEN ∷ ELSE ∷ END ∷ AS ∷ FROM ∷ JOIN ∷ WHERE ∷ GROUP ∷ HAVING ∷ ORDER ∷ ASC ∷ DESC ∷ NULLS ∷ LIMIT ∷ OFFSET ∷ []) ∷ [] }
    ∷ record { of = Whens?; come = come 0 (ELSE ∷ END ∷ []) ∷ [] }
    ∷ record { of = Else?; come = come 0 (END ∷ []) ∷ [] }
    ∷ []

unfoldable pub witnesses : List Of
witnesses =
    record { of = Command; ks = SELECT ∷ STAR ∷ [] }
    ∷ record { of = Name; ks = ID ∷ [] }
    ∷ record { of = Query; ks = SELECT ∷ STAR ∷ [] }
    ∷ record { of = Paren; ks = NULL ∷ [] }
    ∷ record { of = FirstLast; ks = FIRST ∷ [] }
    ∷ record { of = Rows; ks = LP ∷ NULL ∷ RP ∷ [] }
    ∷ record { of = Column; ks = STAR ∷ [] }
    ∷ record { of = StarOrName; ks = STAR ∷ [] }
    ∷ record { of = Source; ks = ID ∷ [] }
    ∷ record { of = SecondName; ks = ID ∷ [] }
    ∷ record { of = Expr; ks = NULL ∷ [] }
    ∷ record { of = IsRight; ks = NULL ∷ [] }
    ∷ record { of = Not; ks = NULL ∷ [] }
    ∷ []
