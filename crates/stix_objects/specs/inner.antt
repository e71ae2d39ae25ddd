pub mod Adding
pub mod InTurn
pub mod Names
pub mod Views
