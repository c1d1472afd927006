-- What the functions inside ask and promise, and the laws that their proofs cite.
pub mod NameRead
pub mod NameLaws
pub mod NumberRead
pub mod Coordinate
pub mod NumberLaws
pub mod Line
pub mod LineLaws
pub mod Taken
pub mod PlanLaws
pub mod Entering
pub mod CallLaws
pub mod Reading
pub mod SheetParts
pub mod Composing
pub mod Filling
