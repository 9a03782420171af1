pub mod Forecast
pub mod Answers
pub mod Inner
