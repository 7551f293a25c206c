use Rattle.serde_json.specs.Data.{no_members}
use Rattle.std.proofs.Common.{refl}
use Rattle.wc_archive_file.specs.Archives.{process_object}
use Rattle.wc_archive_file.specs.Reads.{IsUncoded}
use Rattle.wc_archive_file.proofs.Processes.{done, no_definition, no_depth, no_fuel, no_kind, no_label, no_state, not_done}
use Rattle.wc_archive_file.proofs.Steps.{passed}
use Rattle.wc_archive_file.proofs.nodes.uncoded_in.Goals as goal

pub returns-in_err-definition : goal.returns-in_err-definition
returns-in_err-definition c = passed process_object IsUncoded _ c.from_residual.result _ c.from_residual.ensures (no_definition _ no_members _ c.in_err-definition.ensures)

pub returns-in_err-depth : goal.returns-in_err-depth
returns-in_err-depth c = passed process_object IsUncoded _ c.from_residual-in_err-depth.result _ c.from_residual-in_err-depth.ensures (no_depth _ _ _ c.in_ok-definition.ensures.0 no_members _ c.in_err-depth.ensures)

pub returns-in_err-fuel : goal.returns-in_err-fuel
returns-in_err-fuel c = passed process_object IsUncoded _ c.from_residual-in_err-fuel.result _ c.from_residual-in_err-fuel.ensures (no_fuel _ _ _ c.in_ok-definition.ensures.0 _ _ c.in_ok-depth.ensures.0 no_members _ c.in_err-fuel.ensures)

pub returns-in_err-kind : goal.returns-in_err-kind
returns-in_err-kind c = passed process_object IsUncoded _ c.from_residual-in_err-kind.result _ c.from_residual-in_err-kind.ensures (no_kind _ _ _ c.in_ok-definition.ensures.0 _ _ c.in_ok-depth.ensures.0 _ _ c.in_ok-fuel.ensures.0 no_members _ c.in_err-kind.ensures)

pub returns-in_err-label : goal.returns-in_err-label
returns-in_err-label c = passed process_object IsUncoded _ c.from_residual-in_err-label.result _ c.from_residual-in_err-label.ensures (no_label _ _ _ c.in_ok-definition.ensures.0 _ _ c.in_ok-depth.ensures.0 _ _ c.in_ok-fuel.ensures.0 _ _ c.in_ok-kind.ensures.0 no_members _ c.in_err-label.ensures)

pub returns-in_err-state : goal.returns-in_err-state
returns-in_err-state c = passed process_object IsUncoded _ c.from_residual-in_err-state.result _ c.from_residual-in_err-state.ensures (no_state _ _ _ c.in_ok-definition.ensures.0 _ _ c.in_ok-depth.ensures.0 _ _ c.in_ok-fuel.ensures.0 _ _ c.in_ok-kind.ensures.0 _ _ c.in_ok-label.ensures.0 no_members _ c.in_err-state.ensures)

pub returns-then-is_done : goal.returns-then-is_done
returns-then-is_done c = (
  done _ _ _ c.in_ok-definition.ensures.0 _ _ c.in_ok-depth.ensures.0 _ _ c.in_ok-fuel.ensures.0 _ _ c.in_ok-kind.ensures.0 _ _ c.in_ok-label.ensures.0 _ _ c.in_ok-state.ensures.0 (c.is_done.ensures.0 c.if-is_done.true),
  (record { depth = c.in_ok-depth.ensures.1; fuel = c.in_ok-fuel.ensures.1; state = c.in_ok-state.ensures.1; code = tt }, refl),
)

pub returns-else-is_done : goal.returns-else-is_done
returns-else-is_done c =
    not_done _ _ _ c.in_ok-definition.ensures.0 _ _ c.in_ok-depth.ensures.0 _ _ c.in_ok-fuel.ensures.0 _ _ c.in_ok-kind.ensures.0 _ _ c.in_ok-label.ensures.0 _ _ c.in_ok-state.ensures.0
    (λ e. let yes = c.is_done.ensures.1 e in let no = c.if-is_done.false in cc)
