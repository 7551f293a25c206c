-- Where every work chain begins.
use Rattle.std.specs.Prelude.{[], ◌∷◌}
use Rattle.wc_state.specs.declared.record.Checkpoint.{Checkpoint}

-- one frame, at the head of the outline, and all else empty
abbrev pub first : Checkpoint
first = record { frames = record { block = 0; next = 0 } ∷ []; ctx = []; awaiting = []; calls = 0; outputs = [] }
