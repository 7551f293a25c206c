use Rattle.std.proofs.Common.{◌≡◌, vec_capacity}
use Rattle.std.specs.Prelude.{not}
use Rattle.std.proofs.lemmas.List.Filters.{FiltersInPlace}
use Rattle.wc_keys.specs.declared.entries.Sealed.{Sealed}
use Rattle.wc_keys.specs.Order.{is_in}
use Rattle.wc_keys.proofs.lists.drop_known.Given as goal

abbrev pub invariant-loop-at : goal.invariant-loop-at
invariant-loop-at l = record {
  filters : FiltersInPlace (λ (s : Sealed). not (is_in s.digest s.pid l.long)) l.fn.short.items l.short.items l.kept l.at;
  capacity : vec_capacity l.short ≡ vec_capacity l.fn.short;
}
