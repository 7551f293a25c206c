use Rattle.std.proofs.Common.{◌∙◌, ap}
use Rattle.std.specs.Map.{lookup}
use Rattle.std.specs.Str.{bytes_eq}
use Rattle.wc_state.proofs.Pairs.{found_at_is}
use Rattle.wc_state.proofs.name_map.NameMap.find.Goals as goal

pub returns : goal.returns
returns g c = rw (← c.self.view_is) (c.get.ensures.value ∙ ap (λ k. lookup (bytes_eq k) c.self.inside.map.entries) c.as_str.ensures ∙ found_at_is c.self.inside.map.entries c.args.key.now)
