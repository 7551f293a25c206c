pub use Rattle.wc_keys.proofs.FoundRecords
pub use Rattle.wc_keys.proofs.Definitions
pub mod Snapshot
pub mod SnapshotForm
pub mod SnapshotLists
pub mod SnapshotMade
pub mod SnapshotSets
pub mod ReachedLists
pub mod ReachedGrown
pub mod ReachedSound
pub mod ReachedSources
pub mod ReachedCounted
pub mod ReachedKept
pub mod ReachedWorlds
pub mod LabelledValues
pub mod RecordedEnvironments
pub mod RecordedTrees
pub mod Slotted
pub mod Ascents
mod Needs
mod Applies
mod Making
mod Awaiting
mod LinkCorrect
mod ChangedDigests
pub mod After
pub mod Leading
pub mod Outcomes
pub mod Telling
pub mod Taken
pub mod Unsettled
pub mod OneRule
pub mod OneAnswer
