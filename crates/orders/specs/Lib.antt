-- What an order of a scene asks for.
pub mod Letters
