pub mod Runs
pub mod Days
pub mod Tried
pub mod Decided
pub mod RouteEnds
pub mod Walking
pub mod Checks
