pub mod Asked
pub mod Likes
pub mod Refusals
pub mod Bounds
pub mod Laying
pub mod Turning
pub mod Answers
