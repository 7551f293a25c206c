use Rattle.std.proofs.Common.{ap, ◌∙◌}
use Rattle.wc_value.specs.Ascending.{put}
use Rattle.wc_value.specs.declared.value.Value.TheVariants as value
use Rattle.wc_cache.proofs.Keyed.{entries_made}
use Rattle.wc_cache.proofs.keys.dictionary_of.Goals as goal

pub returns : goal.returns
returns c =
    entries_made c.args.text c.args.inputs c.in_ok-of_str.field-0 c.in_ok-of_str-2.field-0 c.set.new.self c.set-2.new.self c.in_ok-of_str.ensures c.in_ok-of_str-2.ensures
    (c.in_ok-set.ensures.ok ∙ ap (put c.in_ok-of_str.field-0 (value.Text c.args.text)) c.new-fields.ensures) c.in_ok-set-2.ensures.ok
