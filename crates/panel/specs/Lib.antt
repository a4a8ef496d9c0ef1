pub mod Views
pub mod Playing
pub mod Broadcasts
pub mod Boards
