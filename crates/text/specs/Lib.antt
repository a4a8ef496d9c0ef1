pub mod Bytes
pub mod Records
pub mod Lines
pub mod Reading
pub mod Drafts
pub mod Outcomes
