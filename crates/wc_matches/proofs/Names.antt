-- The words of queries are those of other texts.
use Rattle.std.proofs.Common.{◌≡◌, true, refl}
use Rattle.wc_graph.specs.declared.link.LinkType.TheVariants as link
use Rattle.wc_query.specs.Names.{is_kind, is_state, link_type_of}
use Rattle.wc_report.specs.Lists.{process_kind_text}
use Rattle.wc_report.specs.Names.{kind_text}
use Rattle.wc_state.specs.declared.record.ProcessKind.{ProcessKind}
use Rattle.wc_state.specs.declared.record.ProcessKind.TheVariants as process
use Rattle.wc_value.specs.declared.process.ProcessState.TheVariants as state
use Rattle.wc_value.specs.declared.value.Kind.{Kind}
use Rattle.wc_value.specs.declared.value.Kind.TheVariants as kind
use Rattle.wc_matches.specs.Names.{TypesAreRead, KindsAreRead, StatesAreRead}

pub types_are_read : TypesAreRead
unfolding link_type_of
types_are_read link.InputCalc = refl
types_are_read link.InputWork = refl
types_are_read link.Create = refl
types_are_read link.Return = refl
types_are_read link.CallCalc = refl
types_are_read link.CallWork = refl

of_values : (k : Kind) → is_kind (kind_text k) ≡ true
unfolding is_kind
of_values kind.Int = refl
of_values kind.Bool = refl
of_values kind.Text = refl
of_values kind.List = refl
of_values kind.Dict = refl
of_values kind.Folder = refl

of_processes : (k : ProcessKind) → is_kind (process_kind_text k) ≡ true
unfolding is_kind
of_processes process.Function = refl
of_processes process.Job = refl
of_processes process.Chain = refl

pub kinds_are_read : KindsAreRead
kinds_are_read = (of_values, of_processes)

pub states_are_read : StatesAreRead
unfolding is_state
states_are_read state.Created = (refl, refl)
states_are_read state.Running = (refl, refl)
states_are_read state.Waiting = (refl, refl)
states_are_read (state.Finished n) = (refl, refl)
states_are_read (state.Excepted r) = (refl, refl)
states_are_read state.Killed = (refl, refl)
