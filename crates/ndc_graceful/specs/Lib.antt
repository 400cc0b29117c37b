pub mod Begin
pub mod Ready
