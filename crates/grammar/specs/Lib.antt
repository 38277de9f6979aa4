-- Document 01 in its own order. The grammar as a table:
pub mod Classes
pub mod RowNames
pub mod Rows
pub mod Follow
pub mod Grammar
-- Levels, open queries, join flags, row lengths:
pub mod Sizes
pub mod Limits
pub mod Levels
-- The reading:
pub mod NodeNames
pub mod Nodes
pub mod Reading
-- Meaning and canonical writing:
pub mod Meaning
pub mod Writing
-- What the two calls promise:
pub mod Promise
-- The sample commands, and others:
pub mod Samples
pub mod Examples
