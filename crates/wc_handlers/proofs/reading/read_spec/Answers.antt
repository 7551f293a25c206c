use Rattle.std.proofs.Common.{◌≡◌, sym, ap, ◌∙◌, None, IsUtf8, inr, rules}
use Rattle.toml.specs.Parse.{parse_document}
use Rattle.toml.specs.View.{table_view}
use Rattle.wc_handlers.specs.Seen.{seen}
use Rattle.wc_handlers.proofs.Read.{not_toml, refused_so, read_so, kept_so}
use Rattle.wc_handlers.proofs.reading.read_spec.Goals as goal

pub returns-in-Err-2-clause-refused : goal.returns-in-Err-2-clause-refused
returns-in-Err-2-clause-refused c =
    let absent : IsUtf8 c.args.bytes.now → parse_document c.args.bytes.now ≡ None = search rules in inr (not_toml c.args.bytes.now absent)

pub returns-in-Some-clause-refused : goal.returns-in-Some-clause-refused
returns-in-Some-clause-refused c =
    let read = c.in-Ok.ensures.ok in
    inr (refused_so c.args.bytes.now (table_view c.in-Ok.table) (c.in-Some.refused.kind, c.in-Some.refused.path) c.told.result read.0 read.1
    (sym c.in_ok-refused.ensures ∙ ap seen c.in-Some.is) c.told.ensures)

pub returns-clause-ok : goal.returns-clause-ok
returns-clause-ok c =
    let read = c.in-Ok.ensures.ok in
    read_so c.args.bytes.now (table_view c.in-Ok.table) c.in_ok-spec_of-in-None.field-0 read.0 read.1 (sym c.in_ok-refused.ensures ∙ ap seen c.in-None.is)
    c.in_ok-spec_of-in-None.ensures

pub returns-clause-within : goal.returns-clause-within
returns-clause-within c =
    kept_so (table_view c.in-Ok.table) c.in_ok-spec_of-in-None.field-0 (sym c.in_ok-refused.ensures ∙ ap seen c.in-None.is) c.in_ok-spec_of-in-None.ensures
