pub mod Copies
pub mod EditLeaves
pub mod Grounds
pub mod HeaderFacts
pub mod NotesHold
pub mod OwnCells
pub mod Standing
pub mod Actors
