pub mod ByteLists
pub mod FrameLaws
pub mod HeaderLaws
pub mod FieldLaws
pub mod EpoidLaws
pub mod Rows
pub mod Numerals
