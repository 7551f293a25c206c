-- What was read can be written.
use Rattle.std.proofs.Common.{List}
use Rattle.wc_state.specs.declared.record.Part.{Part}
use Rattle.wc_state.specs.declared.record.Part.TheVariants as part
use Rattle.wc_world.specs.declared.change.Change.{Change}
use Rattle.wc_world.specs.declared.change.Change.TheVariants as change
use Rattle.wc_record.specs.Written.{IsPart, IsChange, IsWritten, FailsFit, IsWritable, AreWritable}

fails_fit : (p : Part) → IsPart p → FailsFit p
fails_fit part.Fresh h = tt
fails_fit (part.Chain c) h = tt
fails_fit (part.Job j) h = h.fails
fails_fit part.Over h = tt

one_writable : (c : Change) → IsChange c → IsWritable c
one_writable (change.Library l names) h = h.ascend
one_writable (change.Data v) h = tt
one_writable (change.Process n) h = tt
one_writable (change.Link l) h = tt
one_writable (change.Set s) h = fails_fit s.part h.part
one_writable (change.Count n) h = tt
one_writable (change.Kept k) h = tt

pub written_is_writable : (cs : List Change) → IsWritten cs → AreWritable cs
written_is_writable cs h = λ k d lt. one_writable _ (h.each k d lt)
