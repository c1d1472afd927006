-- What placing asks of its caller, and the record that it hands back.
pub mod Placing
