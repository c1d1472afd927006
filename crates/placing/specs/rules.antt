-- The rules for placing labels: what a reader is asked to believe, definitions alone, in document 01's order, with what L1 and L2 of
-- document 02 add to its pages; then L3's page.
pub mod Units
pub mod Corner
pub mod Label
pub mod Crowd
pub mod Choice
pub mod Answer
pub mod Growth
