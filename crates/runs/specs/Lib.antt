pub mod Values
pub mod Calls
pub mod Readings
pub mod Promise
pub mod Laws
pub mod Theorems
pub mod Words
