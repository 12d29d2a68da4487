-- The table of starred cases, and the theorem that it holds.
pub mod Cases
