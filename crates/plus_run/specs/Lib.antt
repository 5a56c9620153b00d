-- What the program does with a block of orders.
pub mod Blocks
