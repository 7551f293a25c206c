pub use Rattle.wc_world.specs.Trees
pub mod TreeLaws
pub mod Environments
