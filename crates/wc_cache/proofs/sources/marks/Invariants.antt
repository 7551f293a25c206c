use Rattle.std.proofs.Common.{◌≡◌, drop, pos}
use Rattle.std.specs.Prelude.{◌&&◌}
use Rattle.std.specs.Ordering.{int_eq}
use Rattle.std.specs.List.{list_any}
use Rattle.wc_syntax.specs.declared.definition.ExitCode.{ExitCode}
use Rattle.wc_cache.proofs.sources.marks.Given as goal

abbrev pub invariant-loop-code : goal.invariant-loop-code
invariant-loop-code l =
    list_any (λ (c : ExitCode). c.invalidates && int_eq c.status.value (pos l.status)) (drop l.code-index l.code-items)
    ≡ list_any (λ (c : ExitCode). c.invalidates && int_eq c.status.value (pos l.status)) l.code-items
