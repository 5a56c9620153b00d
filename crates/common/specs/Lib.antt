-- What all crates share: choice by a test, lists from functions, bytes stored in a buffer, the answer numbers, the lengths of buffers.
pub mod Choice
pub mod Lists
pub mod Storing
pub mod Answers
pub mod Sizes
pub mod Refusals
