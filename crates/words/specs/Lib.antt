pub mod Letters
pub mod Words
pub mod Flags
pub mod Sequences
pub mod Fewest
