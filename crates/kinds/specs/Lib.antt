pub mod Issues
pub mod Withdrawals
