pub mod ByDigit
pub mod EventBits
pub mod EventByEvent
pub mod UntilMissing
pub mod DigitPairs
