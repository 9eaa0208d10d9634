pub mod Ground
pub mod Ready
pub mod Needed
pub mod Laws
pub mod Results
