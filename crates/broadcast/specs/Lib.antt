pub mod Slots
pub mod Events
pub mod Counts
pub mod Claims
pub mod Theorems
