pub mod Numbers
pub mod Bytes
pub mod States
pub mod Forms
pub mod Commands
pub mod Vectors
