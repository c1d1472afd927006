-- What the functions ask and promise, in terms of the arrays that they hold.
pub mod Sites
pub mod Labels
pub mod Filled
pub mod Reach
pub mod Pairs
pub mod Crowding
pub mod Steps
pub mod Asks
pub mod Carry
pub mod CarryTwice
pub mod Marks
pub mod CarryOn
pub mod Fresh
pub mod Walking
pub mod Chosen
pub mod Placed
pub mod Bisect
