pub use Rattle.wc_query.specs.Words
pub use Rattle.wc_query.specs.declared.error.QueryError as QueryError
pub mod Given
pub mod Further
pub mod Texts
pub mod Files
pub mod Replies
pub mod Dry
pub mod Submits
pub mod Settings
pub mod Counts
pub mod Naming
pub mod Expand
pub mod Plans
