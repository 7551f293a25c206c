-- What a batch carries.
use Rattle.std.specs.Prelude.{ℕ, List}
use Rattle.wc_journal.specs.declared.batch.Batch.{Batch}
use Rattle.wc_journal.specs.Frame.{payload_in}

-- What a batch carries
abbrev pub payload_of : Batch → List ℕ
payload_of batch = payload_in batch.version batch.bytes.items
