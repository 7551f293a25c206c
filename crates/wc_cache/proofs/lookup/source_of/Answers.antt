use Rattle.std.proofs.Common.{ap, sym, ◌∙◌}
use Rattle.std.specs.Option.{option_copied}
use Rattle.wc_cache.proofs.Keyed.{has_definition, is_there}
use Rattle.wc_cache.proofs.lookup.source_of.Goals as goal

pub key_of_process-requires : goal.key_of_process-requires
key_of_process-requires c =
    let w = c.args.world.now.world in
    let r = c.unwrap-process.result.now in
    let found = sym c.record_of.ensures ∙ ap option_copied c.unwrap-process.ensures in
    record {
      there = is_there w c.args.pid r found;
      defined = has_definition w c.args.pid r (c.reached_worlds_are_consistent.ensures w c.graph.ensures.reached) found;
    }
