pub mod PlaceLaws
pub mod KeptTables
pub mod Lifts
pub mod Entries
pub mod ColumnAnswers
pub mod Sections
pub mod Signs
pub mod Unique
