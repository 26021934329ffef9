mod Listing
mod LeafLaws
mod RoomLaws
pub mod LookLaws
pub mod Visits
pub mod Cones
pub mod OperandCounts
