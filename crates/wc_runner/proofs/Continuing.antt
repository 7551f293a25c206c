-- A world continues itself, and what it continues continues.
use Rattle.std.proofs.Common.{◌≡◌, true, List, [], ◌++◌, get_or, Some, refl, sym, ap, subst, ◌∙◌, append_assoc, append-nil, arith}
use Rattle.std.specs.Prelude.{All}
use Rattle.wc_state.specs.declared.record.ProcessRecord.{ProcessRecord}
use Rattle.wc_world.specs.World.{World}
use Rattle.wc_world.specs.Records.{find_record, has_ended}
use Rattle.wc_world.specs.Trees.{recorded_tree}
use Rattle.wc_world.proofs.FoundRecords.{found_holds}
use Rattle.wc_world.proofs.ReachedLists.{unique}
use Rattle.wc_world.proofs.ReachedWorlds.{reached_is_consistent}
use Rattle.wc_machine.specs.Continues.{Begins, Carries}
use Rattle.wc_machine.specs.Recorded.{recorded_inputs}
use Rattle.wc_machine.proofs.ContinuedEnds.{carried_itself}
use Rattle.wc_runner.specs.Laws.{WorldsContinueThemselves, ContinuingGoesOn}

begins_itself : {T : Type 0} (xs : List T) → Begins xs xs
begins_itself xs = ([], sym (append-nil xs))

begins_on : {T : Type 0} (xs ys zs : List T) → Begins xs ys → Begins ys zs → Begins xs zs
begins_on xs ys zs a b = (a.0 ++ b.0, b.1 ∙ ap (λ (l : List _). l ++ b.0) a.1 ∙ append_assoc xs a.0 b.0)

carries_on : (r s t : ProcessRecord) → Carries r s → Carries s t → Carries r t
carries_on r s t a b = record {
  node = b.node ∙ a.node;
  kind = b.kind ∙ a.kind;
  definition = b.definition ∙ a.definition;
  library = b.library ∙ a.library;
  depth = b.depth ∙ a.depth;
  label = b.label ∙ a.label;
  caching = b.caching ∙ a.caching;
  started = λ some.
      let first = a.started some in
      let second = b.started (λ none. some (sym first.0 ∙ none)) in
      (second.0 ∙ first.0, second.1 ∙ first.1);
  ended = λ over.
      let same : s ≡ r = a.ended over in
      let still : has_ended s.state ≡ true = ap (λ (x : ProcessRecord). has_ended x.state) same ∙ over in
      b.ended still ∙ same;
}

pub continues_itself : WorldsContinueThemselves
continues_itself w reached = record {
  libraries = begins_itself w.libraries;
  nodes = begins_itself w.nodes;
  links = begins_itself w.links;
  batches = omega arith;
  records = λ i d lt.
      let r = get_or w.records i d in
      (r, unique 1 w.nodes w.records (reached_is_consistent w reached).numbered i d lt, carried_itself r);
  inputs = λ i d lt. refl;
  trees = λ i d lt over. refl;
}

-- a process of the first world stands in the last
abbrev StandsIn : World → ProcessRecord → Type 0
StandsIn w r = (s : ProcessRecord) × (find_record r.node w.records ≡ Some s) × Carries r s

stands_on : (v w : World) → All (StandsIn w) v.records → (r : ProcessRecord) → StandsIn v r → StandsIn w r
stands_on v w all r h =
    let next : StandsIn w h.0 = found_holds (StandsIn w) r.node v.records h.0 all h.1 in
    (next.0, subst (λ (n : _). find_record n w.records ≡ Some next.0) h.2.node next.1, carries_on r h.0 next.0 h.2 next.2)

-- a process that stands in the middle world has the same inputs in the last one
inputs_on : (v w : World) → All (λ r. recorded_inputs w r.node ≡ recorded_inputs v r.node) v.records → (r : ProcessRecord) → StandsIn v r
    → recorded_inputs w r.node ≡ recorded_inputs v r.node
inputs_on v w all r h =
    let next : recorded_inputs w h.0.node ≡ recorded_inputs v h.0.node
    = found_holds (λ s. recorded_inputs w s.node ≡ recorded_inputs v s.node) r.node v.records h.0 all h.1 in
    subst (λ (n : _). recorded_inputs w n ≡ recorded_inputs v n) h.2.node next

-- and, where it has ended, the same tree
tree_on : (v w : World) → All (λ r. has_ended r.state ≡ true → recorded_tree w r.node ≡ recorded_tree v r.node) v.records → (r : ProcessRecord) → StandsIn v r
    → has_ended r.state ≡ true → recorded_tree w r.node ≡ recorded_tree v r.node
tree_on v w all r h over =
    let still : has_ended h.0.state ≡ true = ap (λ (x : ProcessRecord). has_ended x.state) (h.2.ended over) ∙ over in
    let next : recorded_tree w h.0.node ≡ recorded_tree v h.0.node
    = found_holds (λ s. has_ended s.state ≡ true → recorded_tree w s.node ≡ recorded_tree v s.node) r.node v.records h.0 all h.1 still in
    subst (λ (n : _). recorded_tree w n ≡ recorded_tree v n) h.2.node next

pub continues_on : ContinuingGoesOn
continues_on u v w a b = record {
  libraries = begins_on u.libraries v.libraries w.libraries a.libraries b.libraries;
  nodes = begins_on u.nodes v.nodes w.nodes a.nodes b.nodes;
  links = begins_on u.links v.links w.links a.links b.links;
  batches = omega (arith, a.batches, b.batches);
  records = λ i d lt. stands_on v w b.records (get_or u.records i d) (a.records i d lt);
  inputs = λ i d lt. inputs_on v w b.inputs (get_or u.records i d) (a.records i d lt) ∙ a.inputs i d lt;
  trees = λ i d lt over. tree_on v w b.trees (get_or u.records i d) (a.records i d lt) over ∙ a.trees i d lt over;
}
