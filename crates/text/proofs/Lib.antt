pub mod Cutting
pub mod Faults
pub mod Records
pub mod Keeping
pub mod Finishing
pub mod Walking
