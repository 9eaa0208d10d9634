pub mod Table
pub mod Spelling
pub mod Instructions
pub mod Reading
pub mod Decoding
pub mod Text
