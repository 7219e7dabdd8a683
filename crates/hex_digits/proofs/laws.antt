pub mod DigitLaws
pub mod NumberLaws
pub mod DigitsFromFront
pub mod DigitsFromBack
