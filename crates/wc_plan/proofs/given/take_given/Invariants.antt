use Rattle.std.proofs.Common.{◌≡◌, drop}
use Rattle.std.specs.Option.{option_copied}
use Rattle.wc_meaning.specs.Inputs.{least_after}
use Rattle.wc_plan.specs.Given.{fields_of, unread}
use Rattle.wc_plan.proofs.given.take_given.Given as goal

abbrev pub invariant-loop-one : goal.invariant-loop-one
invariant-loop-one l = record {
  fields : fields_of l.ports (drop l.one-index l.given) l.fields ≡ fields_of l.ports l.given l.fn.file;
  bad : least_after (option_copied l.bad) (unread l.ports (drop l.one-index l.given)) ≡ least_after (option_copied l.fn.bad) (unread l.ports l.given);
}
