pub mod Checked
pub mod Promised
pub mod SamplesHold
pub mod Computes
pub mod ExamplesHold
pub mod Expressions
pub mod LevelsHold
