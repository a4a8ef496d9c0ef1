pub mod Tests
pub mod Digits
pub mod Sets
pub mod Rests
pub mod Members
pub mod Counts
pub mod Lists
