pub mod BatchAgain
pub mod Cuts
pub mod Exact
pub mod Fronts
pub mod NoteAgain
pub mod Records
