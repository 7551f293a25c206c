use Rattle.std.proofs.Common.{◌≡◌}
use Rattle.toml.specs.View.{members_view}
use Rattle.wc_handlers.specs.Refusals.{member_refusals, least_after}
use Rattle.wc_handlers.specs.Seen.{seen}
use Rattle.wc_handlers.proofs.refusals.with_members.Given as goal

abbrev pub invariant-loop-key : goal.invariant-loop-key
invariant-loop-key l =
    least_after (seen l.fn.best) (member_refusals l.place (members_view l.table.entries)) ≡ least_after (seen l.least) (member_refusals l.place (members_view l.key-iterator))
