pub mod Chunks
pub mod Prefixes
pub mod Printing
pub mod Unique
pub mod Rejoining
pub mod Unfinished
pub mod Feeding
