pub mod Classes
pub mod Fit
pub mod Kinds
pub mod Lists
pub mod Strength
