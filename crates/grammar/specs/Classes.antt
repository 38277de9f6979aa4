-- The parts of a command by name: the classes of the grammar. Definitions only.
use Rattle.std.specs.Prelude.{ℕ}
use Rattle.theory.specs.Trees.{Nt}

-- the end of the list, as a token
abbrev pub eof : ℕ
eof = 0

-- the class of expressions
abbrev pub Expr : ℕ
Expr = 1

-- the other parts of a query; a ? marks one that may be absent
abbrev pub Command : ℕ
Command = 20

abbrev pub Name : ℕ
Name = 21

abbrev pub Query : ℕ
Query = 22

abbrev pub Paren : ℕ
Paren = 23

abbrev pub FirstLast : ℕ
FirstLast = 24

abbrev pub Rows : ℕ
Rows = 25

abbrev pub Column : ℕ
Column = 26

abbrev pub StarOrName : ℕ
StarOrName = 27

abbrev pub Source : ℕ
Source = 28

abbrev pub SecondName : ℕ
SecondName = 30

abbrev pub Not : ℕ
Not = 29

abbrev pub IsRight : ℕ
IsRight = 31

abbrev pub Semi? : ℕ
Semi? = 40

abbrev pub Names? : ℕ
Names? = 41

abbrev pub Exprs? : ℕ
Exprs? = 42

abbrev pub Inside? : ℕ
Inside? = 43

abbrev pub Order? : ℕ
Order? = 44

abbrev pub Terms? : ℕ
Terms? = 45

abbrev pub Way? : ℕ
Way? = 46

abbrev pub Nulls? : ℕ
Nulls? = 47

abbrev pub Limit? : ℕ
Limit? = 48

abbrev pub Offset? : ℕ
Offset? = 49

abbrev pub Distinct? : ℕ
Distinct? = 50

abbrev pub Columns? : ℕ
Columns? = 51

abbrev pub From? : ℕ
From? = 52

abbrev pub Where? : ℕ
Where? = 53

abbrev pub Group? : ℕ
Group? = 54

abbrev pub Having? : ℕ
Having? = 55

abbrev pub ColRest? : ℕ
ColRest? = 56

abbrev pub ColDots? : ℕ
ColDots? = 57

abbrev pub Joins? : ℕ
Joins? = 58

abbrev pub Word2? : ℕ
Word2? = 59

abbrev pub Word3? : ℕ
Word3? = 60

abbrev pub On? : ℕ
On? = 61

abbrev pub Dot? : ℕ
Dot? = 62

abbrev pub Alias? : ℕ
Alias? = 63

abbrev pub Index? : ℕ
Index? = 64

abbrev pub Base? : ℕ
Base? = 65

abbrev pub Args? : ℕ
Args? = 66

abbrev pub NameRest? : ℕ
NameRest? = 68

abbrev pub Dots? : ℕ
Dots? = 69

abbrev pub Whens? : ℕ
Whens? = 70

abbrev pub Else? : ℕ
Else? = 71

-- an expression of strength s or tighter; a class, at any strength
abbrev pub E : ℕ → Nt
E s = record { of = Expr; least = s }

abbrev pub any : ℕ → Nt
any C = record { of = C; least = 0 }

-- what follows IS
abbrev pub after_is : Nt
after_is = record { of = IsRight; least = 5 }
