mod Conversions
mod DayTexts
mod Days
pub mod DigitTexts
pub mod Digits
mod Doubling
mod Hexes
pub mod OrderLaws
mod Ranges
mod ReadValues
mod Reading
mod RoundTrip
mod Rounding
mod Texts
