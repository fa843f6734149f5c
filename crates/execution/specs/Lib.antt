pub mod State
pub mod Truth
pub mod Active
pub mod Gathered
pub mod Reading
pub mod Execution
pub mod Executed
