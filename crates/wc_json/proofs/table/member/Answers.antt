use Rattle.std.proofs.Common.{ap, ◌∙◌}
use Rattle.std.specs.Option.{option_map}
use Rattle.serde_json.proofs.Views.{view-lookup, view_of_ref}
use Rattle.serde_json.specs.View.{view}
use Rattle.wc_json.proofs.table.member.Goals as goal

pub returns : goal.returns
returns c = view_of_ref c.get.result ∙ ap (λ o. option_map view o) c.get.ensures.value ∙ view-lookup c.args.key.now c.args.members.now.entries
