-- A take played from reset: what each record does, what the whole take comes to, and the same calls made by hand.
pub mod Replay
pub mod Contract
pub mod ByHand
-- for the code's own parts only, cited by no public promise
pub mod Parts
