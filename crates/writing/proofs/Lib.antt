pub mod Putting
pub mod PlanBytes
