pub mod Blocks
pub mod Digests
pub mod Tables
