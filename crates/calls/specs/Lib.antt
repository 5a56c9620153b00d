-- What an order does and prints.
pub mod Orders
-- for the code's own parts only, cited by no public promise
pub mod Parts
