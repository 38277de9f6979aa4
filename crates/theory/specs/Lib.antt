-- What a reader must believe: trees, what a grammar derives, a grammar as a table, a judge's words on a tree, the outcome of a list of tokens.
pub mod Trees
pub mod Derives
pub mod Table
pub mod Judged
pub mod Outcome
-- An example, which tests the theory.
pub mod Small
