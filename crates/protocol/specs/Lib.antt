pub mod Kinds
pub mod Hearing
pub mod Fresh
pub mod Words
