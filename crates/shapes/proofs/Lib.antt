-- The records of nodes determine them:
pub mod Decode
-- Records of nodes of a shape, walks that give them, and the kinds by which a walk goes:
pub mod Records
pub mod Gives
pub mod KindCodes
-- What calls nothing of the cycle:
pub mod Loops
pub mod NameParts
pub mod SourceParts
pub mod SortParts
-- What each part of the walk gives:
pub mod Statements
pub mod Operators
pub mod Operands
pub mod Froms
pub mod Queries
pub mod Everything
-- The walk ends: with fuel for its tokens it is not spent:
pub mod Ends
pub mod EndParts
pub mod Ending
pub mod EndExprs
pub mod EndQueries
pub mod Ended
-- The whole:
pub mod Whole
pub mod ByCode
