-- The kinds of tokens by 01's names and numbers. A later kind is added here, and `KINDS` moved.
use Rattle.std.specs.Prelude.{ℕ}

-- "1 ID, 2 KWID (a keyword outside this table that falls back to ID), 3 STRING, .. 71 OFFSET."
abbrev pub ID : ℕ
ID = 1

abbrev pub KWID : ℕ
KWID = 2

abbrev pub STRING : ℕ
STRING = 3

abbrev pub INDEXED : ℕ
INDEXED = 4

abbrev pub JOIN_KW : ℕ
JOIN_KW = 5

abbrev pub INTEGER : ℕ
INTEGER = 6

abbrev pub FLOAT : ℕ
FLOAT = 7

abbrev pub BLOB : ℕ
BLOB = 8

abbrev pub VARIABLE : ℕ
VARIABLE = 9

abbrev pub CTIME_KW : ℕ
CTIME_KW = 10

abbrev pub NULL : ℕ
NULL = 11

abbrev pub LP : ℕ
LP = 12

abbrev pub RP : ℕ
RP = 13

abbrev pub COMMA : ℕ
COMMA = 14

abbrev pub DOT : ℕ
DOT = 15

abbrev pub SEMI : ℕ
SEMI = 16

abbrev pub STAR : ℕ
STAR = 17

abbrev pub PLUS : ℕ
PLUS = 18

abbrev pub MINUS : ℕ
MINUS = 19

abbrev pub SLASH : ℕ
SLASH = 20

abbrev pub REM : ℕ
REM = 21

abbrev pub CONCAT : ℕ
CONCAT = 22

abbrev pub BITAND : ℕ
BITAND = 23

abbrev pub BITOR : ℕ
BITOR = 24

abbrev pub LSHIFT : ℕ
LSHIFT = 25

abbrev pub RSHIFT : ℕ
RSHIFT = 26

abbrev pub BITNOT : ℕ
BITNOT = 27

abbrev pub EQ : ℕ
EQ = 28

abbrev pub NE : ℕ
NE = 29

abbrev pub LT : ℕ
LT = 30

abbrev pub LE : ℕ
LE = 31

abbrev pub GT : ℕ
GT = 32

abbrev pub GE : ℕ
GE = 33

abbrev pub AND : ℕ
AND = 34

abbrev pub OR : ℕ
OR = 35

abbrev pub NOT : ℕ
NOT = 36

abbrev pub IS : ℕ
IS = 37

abbrev pub IN : ℕ
IN = 38

abbrev pub BETWEEN : ℕ
BETWEEN = 39

abbrev pub LIKE_KW : ℕ
LIKE_KW = 40

abbrev pub ISNULL : ℕ
ISNULL = 41

abbrev pub NOTNULL : ℕ
NOTNULL = 42

abbrev pub COLLATE : ℕ
COLLATE = 43

abbrev pub CASE : ℕ
CASE = 44

abbrev pub WHEN : ℕ
WHEN = 45

abbrev pub THEN : ℕ
THEN = 46

abbrev pub ELSE : ℕ
ELSE = 47

abbrev pub END : ℕ
END = 48

abbrev pub CAST : ℕ
CAST = 49

abbrev pub AS : ℕ
AS = 50

abbrev pub EXISTS : ℕ
EXISTS = 51

abbrev pub SELECT : ℕ
SELECT = 52

abbrev pub VALUES : ℕ
VALUES = 53

abbrev pub DISTINCT : ℕ
DISTINCT = 54

abbrev pub ALL : ℕ
ALL = 55

abbrev pub FROM : ℕ
FROM = 56

abbrev pub JOIN : ℕ
JOIN = 57

abbrev pub ON : ℕ
ON = 58

abbrev pub USING : ℕ
USING = 59

abbrev pub WHERE : ℕ
WHERE = 60

abbrev pub GROUP : ℕ
GROUP = 61

abbrev pub BY : ℕ
BY = 62

abbrev pub HAVING : ℕ
HAVING = 63

abbrev pub ORDER : ℕ
ORDER = 64

abbrev pub ASC : ℕ
ASC = 65

abbrev pub DESC : ℕ
DESC = 66

abbrev pub NULLS : ℕ
NULLS = 67

abbrev pub FIRST : ℕ
FIRST = 68

abbrev pub LAST : ℕ
LAST = 69

abbrev pub LIMIT : ℕ
LIMIT = 70

abbrev pub OFFSET : ℕ
OFFSET = 71

-- "kind 0 or over 71": the kinds are numbered from 1 to this
abbrev pub KINDS : ℕ
KINDS = 71
