-- What other crates may cite of this one.
pub mod Laws
