pub mod Sizes
pub mod Chains
pub mod Texts
pub mod Ends
pub mod StatementTexts
pub mod StatementSizes
