-- Laws of shares that fit.
pub mod Laws
