use Rattle.std.proofs.Common.{ap, ◌∙◌}
use Rattle.std.specs.Prelude.{option_map}
use Rattle.wc_value.specs.declared.process.JobResult.{JobResult}
use Rattle.wc_archive.proofs.archived.archived_process.Goals as goal

pub returns : goal.returns
returns c =
    let p = c.args.process.now in
    let code = c.code_of.ensures ∙ ap (option_map (λ (x : JobResult). x.code)) c.in_ok-given.ensures in
    λ i. record {
      kind = p.kind;
      definition = c.in_ok-definition.ensures i;
      depth = p.depth;
      label = c.in_ok-label.ensures i;
      state = p.state;
      fuel = p.fuel;
      code = code i;
    }
