pub mod Codes
pub mod Lookup
pub mod StrengthTable
pub mod Small
