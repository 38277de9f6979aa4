mod Operators
mod KindTests
mod Laying
mod Steps
mod TwoLists
mod Tables
mod Turning
mod Fitness
mod Answering
pub mod Reasons
