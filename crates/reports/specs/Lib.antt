pub mod Written
pub mod Reporting
pub mod Guilds
pub mod Judgements
