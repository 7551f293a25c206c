use Rattle.std.proofs.Common.{◌∙◌}
use Rattle.wc_store.proofs.Accepts.{accepted_writable, accepted_readable}
use Rattle.wc_store.proofs.batches.batch_of.Goals as goal

pub write_changes-requires : goal.write_changes-requires
write_changes-requires c = accepted_writable c.args.world.now.world c.args.changes.now c.requires.accepted

pub returns-in-Ok-clause-batch : goal.returns-in-Ok-clause-batch
returns-in-Ok-clause-batch c = record {
  version_is = c.in-Ok.ensures.version ∙ c.version-version.ensures.value;
  snapshot_is = c.in-Ok.ensures.snapshot;
  payload = c.in-Ok.ensures.payload ∙ (c.bytes.ensures.value ∙ c.in_ok-payload.ensures.spelled);
  written = c.in_ok-payload.ensures.written (accepted_readable c.args.world.now.world c.args.changes.now c.requires.accepted);
}
