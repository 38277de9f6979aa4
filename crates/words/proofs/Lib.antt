pub mod Every
pub mod Equal
pub mod Spells
pub mod OrderDoesNotMatter
pub mod OfAllSequences
pub mod NoneLeftOut
pub mod FewestWords
