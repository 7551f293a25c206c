pub mod Parsing
pub mod PrintedTokens
pub mod ReadBack
