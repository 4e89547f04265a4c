pub mod Decided
pub mod Finding
pub mod Passed
