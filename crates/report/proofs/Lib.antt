pub mod TableSteps
pub mod DigestSteps
pub mod BlockSteps
pub mod OneShowing
pub mod Written
