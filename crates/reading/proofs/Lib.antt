pub mod Parts
pub mod Passed
mod OneAnswer
