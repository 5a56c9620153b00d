-- Laws of a block of orders.
pub mod Serving
