-- The chip's calls but those of the register page, section by section of document 01.
pub mod State
pub mod Promises
pub mod Editors
pub mod Reset
pub mod Ports
pub mod Channels
pub mod Interrupts
pub mod Mute
pub mod Step
