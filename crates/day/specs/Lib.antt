pub mod Bytes
pub mod Calls
pub mod Text
pub mod Opening
pub mod Turning
pub mod Sessions
