pub mod Ascending
pub mod Listing
pub mod Exchange
pub mod Deepening
pub mod Joined
pub mod Bridge
pub mod WalkFirst
