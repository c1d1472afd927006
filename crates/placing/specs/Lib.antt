-- The rules for placing labels, what decides them, what placing asks and hands back, what follows, and what the code says of
-- its arrays. Each folder uses only those above it.
pub mod rules
pub mod deciding
pub mod calls
pub mod theorems
pub mod search
pub mod code
