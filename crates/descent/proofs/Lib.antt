-- What the laws speak of: places in a list, rows that are open, the reader's walk, and records in a table:
pub mod Places
pub mod Named
pub mod Grown
pub mod Walk
pub mod Fill
pub mod Borrowed
-- The table and its rows, as recursive descent meets them:
pub mod Equations
pub mod SameRow
pub mod TableFacts
pub mod Steps
pub mod Growing
pub mod ClassFacts
pub mod Rules
-- What each part of the walk means, and what the proofs share:
pub mod Means
pub mod Common
pub mod NoTails
pub mod Sides
pub mod Strong
pub mod PlainClasses
pub mod Heads
pub mod NameRead
pub mod Tails
pub mod Values
pub mod ListLaw
pub mod ExprIn
pub mod OperandRow
pub mod NodeRecords
pub mod Loops
-- Expressions:
pub mod Names
pub mod NamesOfColumn
pub mod Exprs
pub mod Hosts
pub mod Parens
pub mod Clauses
pub mod Whens
pub mod CaseExpr
pub mod CastExpr
pub mod Calls
pub mod Prefixes
pub mod Compounds
pub mod Leaves
pub mod Expression
pub mod GoingOn
pub mod GoesOnOrNot
pub mod Made
pub mod Binary
pub mod Inside
pub mod Negated
pub mod Operators
-- Queries:
pub mod Columns
pub mod Alias
pub mod TableSource
pub mod OneSource
pub mod OnUsing
pub mod JoinWords
pub mod Joins
pub mod FromClause
pub mod SelectClauses
pub mod Select
pub mod RowsOfValues
pub mod Sorting
pub mod Limiting
pub mod Query
-- Tables that the walk fills:
pub mod Filling
-- The whole:
pub mod Everything
pub mod Whole
-- What the reader will rest on:
pub mod Answers
