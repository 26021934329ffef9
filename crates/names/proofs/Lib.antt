pub mod Ids
pub mod Buckets
pub mod Entries
pub mod Tables
pub mod Searching
