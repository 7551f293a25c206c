-- A world accepts a submission for which there is room.
use Rattle.std.proofs.Common.{◌≡◌, ℕ, suc, ◌+◌, ◌<◌, ◌≤◌, Bool, true, false, Some, None, List, [], ◌∷◌, ◌++◌, length, map, get_or, refl, sym, ap, ◌∙◌, subst, arith, add-one}
use Rattle.std.specs.Prelude.{All, ◌==◌, ◌&&◌, not, slice_get}
use Rattle.std.proofs.lemmas.Bool.{cond-true, eq-eqb}
use Rattle.std.proofs.lemmas.List.{append_assoc, length-append}
use Rattle.std.proofs.lemmas.List.Elements.{All-head, All-tail, All-weaker, All-push}
use Rattle.wc_value.specs.Spelling.{depth}
use Rattle.wc_syntax.specs.Findings.{definition_named}
use Rattle.wc_syntax.specs.declared.definition.Definition.{Definition}
use Rattle.wc_graph.specs.Rules.{node_of}
use Rattle.wc_graph.specs.declared.node.NodeKind.{NodeKind}
use Rattle.wc_graph.specs.declared.link.Link.{Link}
use Rattle.wc_semantics.specs.Rules.{Values}
use Rattle.wc_state.specs.declared.record.ProcessKind.{ProcessKind}
use Rattle.wc_state.specs.declared.record.ProcessKind.TheVariants as kind
use Rattle.wc_state.specs.declared.record.ProcessRecord.{ProcessRecord}
use Rattle.wc_world.specs.declared.change.Change.{Change}
use Rattle.wc_world.specs.declared.change.Change.TheVariants as change
use Rattle.wc_world.specs.World.{World}
use Rattle.wc_world.specs.Accepted.{Setting, setting, Apply, IsAccepted}
use Rattle.wc_world.specs.Applied.{after_change, changed, begun}
use Rattle.wc_world.specs.Consistent.{IsConsistent}
use Rattle.wc_world.specs.Fits.{names_ascend, is_of_kind, new_fits, calls_from, has_output, is_settled, unsettled}
use Rattle.wc_world.specs.Records.{kind_of_definition, same_kind, process_node}
use Rattle.wc_world.proofs.ReachedWorlds.{reached_is_consistent}
use Rattle.wc_machine.specs.Laws.{HasPlaces, SubmissionsAreAccepted}
use Rattle.wc_machine.specs.Submissions.{AreInputs, data_change, input_link, links_from, submitted_number, submission}
use Rattle.wc_machine.proofs.Frames.{NoOutput, NoCallFrom, no_call_from, no_output_beyond, no_call_beyond, none_target_beyond, output_before, calls_before, settled_stays}
use Rattle.wc_machine.proofs.Submitted.{data_node, with_nodes, new_process, new_record, new_nodes, new_links, with_library, with_process, submitted_world, data_added, process_added, number_is, submission_gives, new_definition, at_length}
use Rattle.wc_machine.proofs.SubmittedLinks.{AreData, are_data, AreDistinct, distinct, LacksLabels, input_allowed, labels_left, calls_nothing, linked_no_output, linked_no_calls}

-- ---- changes one after another

pub apply_append : (s : Setting) (w : World) (xs ys : List Change) → Apply s w xs → Apply s (changed s.batch w xs) ys → Apply s w (xs ++ ys)
apply_append s w [] ys a b = b
apply_append s w (x ∷ xs) ys a b = (a.0, apply_append s (after_change s.batch w x) xs ys a.1 b)

pub data_apply : (s : Setting) (w : World) (is : Values) → length w.nodes + length is ≤ 8000000 → All (λ i. depth i.1 ≤ 32) is → Apply s w (map data_change is)
data_apply s w [] few shallow = tt
data_apply s w (i ∷ is) few shallow = (
  (omega arith, All-head (λ j. depth j.1 ≤ 32) i is shallow),
  data_apply s (after_change s.batch w (data_change i)) is (omega (arith, length-append w.nodes (data_node i ∷ []))) (All-tail (λ j. depth j.1 ≤ 32) i is shallow),
)

pub links_apply : (k : ProcessKind) (s : Setting) (w : World) (source pid : ℕ) (is : Values) → AreData w.nodes source is
    → node_of w.nodes pid ≡ Some (process_node k) → AreDistinct is → All (LacksLabels pid is) w.links → Apply s w (links_from (input_link k) source pid is)
links_apply k s w source pid [] values process differ free = tt
links_apply k s w source pid (i ∷ is) values process differ free =
    let l : Link = record { source = source; target = pid; link = input_link k; label = i.0 } in (
      (input_allowed k w.nodes w.links source pid i is values.0 process free, λ c. absurd (calls_nothing k c)),
      links_apply k s (after_change s.batch w (change.Link l)) (suc source) pid is values.1 process differ.1 (labels_left w.links l pid i is refl differ.0 free),
    )

-- ---- the process

same_kinds : (k : ProcessKind) → same_kind k k ≡ true
same_kinds kind.Function = refl
same_kinds kind.Job = refl
same_kinds kind.Chain = refl

all_settled : (links : List Link) (rs : List ProcessRecord) → All (λ r. is_settled links r ≡ true) rs → unsettled links rs ≡ None
all_settled links [] h = refl
all_settled links (r ∷ rs) h =
    cond-true (is_settled links r) (unsettled links rs) (Some r.node) (All-head (λ x. is_settled links x ≡ true) r rs h)
    ∙ all_settled links rs (All-tail (λ x. is_settled links x ≡ true) r rs h)

false_is_not : (t : Bool) → t ≡ false → t ≡ true → ⊥
false_is_not t p q = absurd (cc)

module _ (w : World) (h : IsConsistent w) (library : List Definition) (caching : List (List ℕ)) (name : List ℕ) (inputs : Values) (d : Definition)
    (there : definition_named name library ≡ Some d) where
  beyond : length w.nodes < submitted_number w inputs
  beyond = omega arith

  process_fits : new_fits (w.libraries ++ (library, caching) ∷ []) (new_process w library caching name inputs d) ≡ true
  process_fits =
      ap (is_of_kind (kind_of_definition d)) (new_definition w library caching name inputs d ∙ there) ∙ same_kinds (kind_of_definition d)

  pub process_is : node_of (w.nodes ++ new_nodes w library caching name inputs d) (submitted_number w inputs) ≡ Some (process_node (kind_of_definition d))
  process_is =
      let front : List NodeKind = w.nodes ++ map data_node inputs in
      let number : submitted_number w inputs ≡ suc (length front) = sym (number_is w library caching name inputs d) ∙ add-one (length front) in
      ap (λ (n : ℕ). node_of (w.nodes ++ new_nodes w library caching name inputs d) n) number
      ∙ ap (λ (ns : List NodeKind). slice_get ns (length front)) (sym (append_assoc w.nodes (map data_node inputs) (process_node (kind_of_definition d) ∷ [])))
      ∙ at_length front (process_node (kind_of_definition d)) []

  pub inputs_are : AreData (w.nodes ++ new_nodes w library caching name inputs d) (length w.nodes + 1) inputs
  inputs_are =
      subst (λ (n : ℕ). AreData (w.nodes ++ new_nodes w library caching name inputs d) n inputs) (sym (add-one (length w.nodes)))
      (are_data w.nodes inputs (process_node (kind_of_definition d) ∷ []))

  labels_free : All (LacksLabels (submitted_number w inputs) inputs) w.links
  labels_free =
      All-weaker (λ l. (l.target == submitted_number w inputs) ≡ false) (LacksLabels (submitted_number w inputs) inputs)
      (λ l ne e. absurd (false_is_not _ ne (eq-eqb l.target (submitted_number w inputs) e)))
      w.links (none_target_beyond w.nodes (submitted_number w inputs) w.links beyond h.links.ends)

  each_applies : (s : Setting) → s.batch ≡ w.batches + 1 → names_ascend caching ≡ true → AreInputs inputs → HasPlaces w (submitted_number w inputs)
      → Apply s (begun w) (submission w library caching name inputs d)
  each_applies s b ascend are places =
      let few : submitted_number w inputs ≤ 8000000 = places.nodes in
      let k = kind_of_definition d in
      let new = change.Process (new_process w library caching name inputs d) in
      let links : List Change = links_from (input_link k) (length w.nodes + 1) (submitted_number w inputs) inputs in
      let v = with_library w library caching name inputs d in
      let u = with_nodes v (map data_node inputs) in
      let at_links : Apply s (with_process w library caching name inputs d) links
      = links_apply k s (with_process w library caching name inputs d) (length w.nodes + 1) (submitted_number w inputs) inputs inputs_are process_is
      (distinct inputs are.ascend) labels_free in
      let room : length u.nodes < 8000000 = omega (arith, number_is w library caching name inputs d) in
      let at_process : Apply s u (new ∷ links)
      = ((room, process_fits), subst (λ (x : World). Apply s x links) (sym (process_added w library caching name inputs d s.batch)) at_links) in (
        ascend,
        apply_append s v (map data_change inputs) (new ∷ links) (data_apply s v inputs (omega arith) are.shallow)
            (subst (λ (x : World). Apply s x (new ∷ links)) (sym (data_added s.batch v inputs)) at_process),
      )

  new_is_settled : is_settled w.links (new_record w library caching name inputs d) ≡ true
  new_is_settled =
      let pid = submitted_number w inputs in
      let output : has_output pid w.links ≡ false = output_before pid [] w.links (no_output_beyond w.nodes pid w.links beyond h.links.ends) in
      let called : calls_from pid w.links ≡ 0 = calls_before pid [] w.links (no_call_beyond w.nodes pid w.links beyond h.links.ends) in
      λ i. not (output i) && (called i == 0)

  nothing_left : unsettled (submitted_world w library caching name inputs d).links (submitted_world w library caching name inputs d).records ≡ None
  nothing_left =
      let k = kind_of_definition d in
      let new : List Link = new_links w library caching name inputs d in
      let r : ProcessRecord = new_record w library caching name inputs d in
      let outputs : (pid : ℕ) → NoOutput pid new = λ pid. linked_no_output k (length w.nodes + 1) (submitted_number w inputs) pid inputs in
      let called : (pid : ℕ) → NoCallFrom pid new
      = λ pid. no_call_from pid new (linked_no_calls k (length w.nodes + 1) (submitted_number w inputs) inputs) in
      let stays : (q : ProcessRecord) → is_settled (w.links ++ new) q ≡ is_settled w.links q = λ q. settled_stays w.links new q (outputs q.node) (called q.node) in
      all_settled (w.links ++ new) (w.records ++ r ∷ [])
      (All-push (λ q. is_settled (w.links ++ new) q ≡ true) w.records r (λ i e lt. stays (get_or w.records i e) ∙ (h.records i e lt).settled) (stays r ∙ new_is_settled))

  accepted : names_ascend caching ≡ true → AreInputs inputs → HasPlaces w (submitted_number w inputs)
      → IsAccepted w (submission w library caching name inputs d)
  accepted ascend are places =
      let cs = submission w library caching name inputs d in
      record {
        batch = places.batches;
        each = each_applies (setting w cs) refl ascend are places;
        settled =
            subst (λ (v : World). unsettled v.links v.records ≡ None) (sym (submission_gives w library caching name inputs d)) nothing_left;
      }

pub submissions_are_accepted : SubmissionsAreAccepted
submissions_are_accepted w library caching name inputs cs reached s places =
    subst (λ (x : List Change). IsAccepted w x) (sym s.changes)
    (accepted w (reached_is_consistent w reached) library caching name inputs s.definition s.is_there s.names s.values places)
