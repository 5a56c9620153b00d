-- Laws of mending: one word, the two passes, the answers, mending again, and the report read back.
pub mod Word
pub mod Measuring
pub mod Writing
pub mod Answers
pub mod Again
pub mod Told
