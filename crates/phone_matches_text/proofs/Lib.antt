pub mod Ends
pub mod Labels
pub mod PieceOnes
pub mod Pieced
pub mod Shorter
pub mod Steps
