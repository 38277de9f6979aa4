pub mod ToTheRight
pub mod Promise
pub mod Calls
