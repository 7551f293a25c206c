-- A consistent world accepts a submission for which there is room; the world after it continues the one before, and touches no process of it.
use Rattle.std.proofs.Common.{◌≡◌, ℕ, suc, ◌+◌, ◌<◌, ◌≤◌, Bool, true, false, Some, None, List, [], ◌∷◌, ◌++◌, length, map, get_or, refl, sym, ap, ◌∙◌, subst, arith, inl, inr}
use Rattle.std.specs.Prelude.{All, ◌==◌, ◌&&◌, not}
use Rattle.std.proofs.lemmas.Bool.{cond-true, eq-eqb}
use Rattle.std.proofs.lemmas.List.Elements.{All-head, All-tail, All-weaker, All-push, All-nil, All-cons}
use Rattle.wc_syntax.specs.Findings.{definition_named}
use Rattle.wc_syntax.specs.declared.definition.Definition.{Definition}
use Rattle.wc_graph.specs.declared.node.NodeKind.{NodeKind}
use Rattle.wc_graph.specs.declared.link.Link.{Link}
use Rattle.wc_semantics.specs.Rules.{Values}
use Rattle.wc_state.specs.declared.record.ProcessKind.{ProcessKind}
use Rattle.wc_state.specs.declared.record.ProcessKind.TheVariants as kind
use Rattle.wc_state.specs.declared.record.ProcessRecord.{ProcessRecord}
use Rattle.wc_world.specs.declared.change.Change.{Change}
use Rattle.wc_world.specs.declared.change.Change.TheVariants as change
use Rattle.wc_world.specs.World.{World}
use Rattle.wc_world.specs.Accepted.{Setting, setting, Apply, IsAccepted}
use Rattle.wc_world.specs.Applied.{begun, applied}
use Rattle.wc_world.specs.Consistent.{IsConsistent}
use Rattle.wc_world.specs.Fits.{names_ascend, is_of_kind, new_fits, calls_from, has_output, is_settled, unsettled}
use Rattle.wc_world.specs.Records.{kind_of_definition, same_kind, find_record, takes_input}
use Rattle.wc_machine.specs.Laws.{HasPlaces}
use Rattle.wc_machine.specs.Submissions.{AreInputs, data_change, input_link, links_from, submitted_number, submission, Submits}
use Rattle.wc_machine.proofs.Frames.{NoOutput, NoCallFrom, no_call_from, no_output_beyond, no_call_beyond, none_target_beyond, output_before, calls_before, settled_stays, records_below}
use Rattle.wc_machine.proofs.Submitted.{data_node, with_nodes, new_process, new_record, new_links, with_library, with_process, submitted_world, data_added, process_added, number_is, submission_gives, new_definition, linked}
use Rattle.wc_machine.proofs.SubmittedLinks.{distinct, LacksLabels, linked_no_output, linked_no_calls}
use Rattle.wc_world.proofs.ReachedLists.{unique, AreUnique, found_node, found_has}
use Rattle.wc_machine.specs.Continues.{Continues}
use Rattle.wc_machine.proofs.ContinuedEnds.{carried_itself}
use Rattle.wc_machine.proofs.OneMore.{grown, found_again, inputs_kept, number_within, recorded_tree_kept, found_stays}
use Rattle.wc_machine.proofs.SubmittedAddition.{addition}
use Rattle.wc_soundness.specs.Touches.{AddsFor, Touches}
use Rattle.wc_machine.proofs.SubmittedAccepted.{apply_append, data_apply, inputs_are, links_apply, process_is}

-- ---- the process

same_kinds : (k : ProcessKind) → same_kind k k ≡ true
same_kinds kind.Function = refl
same_kinds kind.Job = refl
same_kinds kind.Chain = refl

all_settled : (links : List Link) (rs : List ProcessRecord) → All (λ r. is_settled links r ≡ true) rs → unsettled links rs ≡ None
all_settled links [] h = refl
all_settled links (r ∷ rs) h =
    cond-true (is_settled links r) (unsettled links rs) (Some r.node) (All-head (λ x. is_settled links x ≡ true) r rs h)
    ∙ all_settled links rs (All-tail (λ x. is_settled links x ≡ true) r rs h)

false_is_not : (t : Bool) → t ≡ false → t ≡ true → ⊥
false_is_not t p q = absurd (cc)

module _ (w : World) (h : IsConsistent w) (library : List Definition) (caching : List (List ℕ)) (name : List ℕ) (inputs : Values) (d : Definition)
    (there : definition_named name library ≡ Some d) where
  beyond : length w.nodes < submitted_number w inputs
  beyond = omega arith

  process_fits : new_fits (w.libraries ++ (library, caching) ∷ []) (new_process w library caching name inputs d) ≡ true
  process_fits =
      ap (is_of_kind (kind_of_definition d)) (new_definition w library caching name inputs d ∙ there) ∙ same_kinds (kind_of_definition d)

  labels_free : All (LacksLabels (submitted_number w inputs) inputs) w.links
  labels_free =
      All-weaker (λ l. (l.target == submitted_number w inputs) ≡ false) (LacksLabels (submitted_number w inputs) inputs)
      (λ l ne e. absurd (false_is_not _ ne (eq-eqb l.target (submitted_number w inputs) e)))
      w.links (none_target_beyond w.nodes (submitted_number w inputs) w.links beyond h.links.ends)

  each_applies : (s : Setting) → s.batch ≡ w.batches + 1 → names_ascend caching ≡ true → AreInputs inputs → HasPlaces w (submitted_number w inputs)
      → Apply s (begun w) (submission w library caching name inputs d)
  each_applies s b ascend are places =
      let few : submitted_number w inputs ≤ 8000000 = places.nodes in
      let k = kind_of_definition d in
      let new = change.Process (new_process w library caching name inputs d) in
      let links : List Change = links_from (input_link k) (length w.nodes + 1) (submitted_number w inputs) inputs in
      let v = with_library w library caching name inputs d in
      let u = with_nodes v (map data_node inputs) in
      let at_links : Apply s (with_process w library caching name inputs d) links
      = links_apply k s (with_process w library caching name inputs d) (length w.nodes + 1) (submitted_number w inputs) inputs (inputs_are w h library caching name inputs d there) (process_is w h library caching name inputs d there)
      (distinct inputs are.ascend) labels_free in
      let room : length u.nodes < 8000000 = omega (arith, number_is w library caching name inputs d) in
      let at_process : Apply s u (new ∷ links)
      = ((room, process_fits), subst (λ (x : World). Apply s x links) (sym (process_added w library caching name inputs d s.batch)) at_links) in (
        ascend,
        apply_append s v (map data_change inputs) (new ∷ links) (data_apply s v inputs (omega arith) are.shallow)
            (subst (λ (x : World). Apply s x (new ∷ links)) (sym (data_added s.batch v inputs)) at_process),
      )

  new_is_settled : is_settled w.links (new_record w library caching name inputs d) ≡ true
  new_is_settled =
      let pid = submitted_number w inputs in
      let output : has_output pid w.links ≡ false = output_before pid [] w.links (no_output_beyond w.nodes pid w.links beyond h.links.ends) in
      let called : calls_from pid w.links ≡ 0 = calls_before pid [] w.links (no_call_beyond w.nodes pid w.links beyond h.links.ends) in
      λ i. not (output i) && (called i == 0)

  nothing_left : unsettled (submitted_world w library caching name inputs d).links (submitted_world w library caching name inputs d).records ≡ None
  nothing_left =
      let k = kind_of_definition d in
      let new : List Link = new_links w library caching name inputs d in
      let r : ProcessRecord = new_record w library caching name inputs d in
      let outputs : (pid : ℕ) → NoOutput pid new = λ pid. linked_no_output k (length w.nodes + 1) (submitted_number w inputs) pid inputs in
      let called : (pid : ℕ) → NoCallFrom pid new
      = λ pid. no_call_from pid new (linked_no_calls k (length w.nodes + 1) (submitted_number w inputs) inputs) in
      let stays : (q : ProcessRecord) → is_settled (w.links ++ new) q ≡ is_settled w.links q = λ q. settled_stays w.links new q (outputs q.node) (called q.node) in
      all_settled (w.links ++ new) (w.records ++ r ∷ [])
      (All-push (λ q. is_settled (w.links ++ new) q ≡ true) w.records r (λ i e lt. stays (get_or w.records i e) ∙ (h.records i e lt).settled) (stays r ∙ new_is_settled))

  submission_fits : names_ascend caching ≡ true → AreInputs inputs → HasPlaces w (submitted_number w inputs)
      → IsAccepted w (submission w library caching name inputs d)
  submission_fits ascend are places =
      let cs = submission w library caching name inputs d in
      record {
        batch = places.batches;
        each = each_applies (setting w cs) refl ascend are places;
        settled =
            subst (λ (v : World). unsettled v.links v.records ≡ None) (sym (submission_gives w library caching name inputs d)) nothing_left;
      }

world_continues : (w : World) (library : List Definition) (caching : List (List ℕ)) (name : List ℕ) (inputs : Values) (d : Definition) → IsConsistent w
    → Continues w (grown w (addition w library caching name inputs d))
world_continues w library caching name inputs d h =
    let add = addition w library caching name inputs d in
    let there : AreUnique w.records = unique 1 w.nodes w.records h.numbered in
    record {
      libraries = ((library, caching) ∷ [], refl);
      nodes = (add.nodes, refl);
      links = (add.links, refl);
      batches = omega arith;
      records = λ i e lt.
          let r = get_or w.records i e in
          (r, found_again w h add r.node r (there i e lt), carried_itself r);
      inputs = λ i e lt.
          let r = get_or w.records i e in
          inputs_kept w h add r.node (number_within w h add r.node r (there i e lt));
      trees = λ i e lt over.
          let r = get_or w.records i e in
          recorded_tree_kept w h add r.node (number_within w h add r.node r (there i e lt));
    }

-- ---- what it touches

takes : (k : ProcessKind) → takes_input (input_link k) ≡ true
takes kind.Function = refl
takes kind.Job = refl
takes kind.Chain = refl

linked_adds : (nodes : List NodeKind) (by pid : ℕ) (k : ProcessKind) → length nodes < pid → (source : ℕ) (is : Values) → All (AddsFor nodes by) (linked (input_link k) source pid is)
linked_adds nodes by pid k lt source [] = All-nil (AddsFor nodes by)
linked_adds nodes by pid k lt source (i ∷ is) =
    All-cons (AddsFor nodes by) (record { source = source; target = pid; link = input_link k; label = i.0 }) (linked (input_link k) (suc source) pid is)
    (inr (inr (inl (takes k, lt)))) (linked_adds nodes by pid k lt (suc source) is)

beyond_records : (w : World) → IsConsistent w → (pid : ℕ) → length w.nodes < pid → (r : ProcessRecord) → find_record pid w.records ≡ Some r → ⊥
beyond_records w c pid lt r found =
    let low : r.node < suc (length w.nodes) = found_has (λ x. x.node < suc (length w.nodes)) pid w.records r found (records_below w.nodes w.records c.numbered) in
    let same : r.node ≡ pid = found_node pid w.records r found in
    omega arith

grown_touches : (w : World) (library : List Definition) (caching : List (List ℕ)) (name : List ℕ) (inputs : Values) (d : Definition) → IsConsistent w
    → Touches w (grown w (addition w library caching name inputs d)) (submitted_number w inputs)
grown_touches w library caching name inputs d c =
    let add = addition w library caching name inputs d in
    let lt : length w.nodes < submitted_number w inputs = omega arith in
    record {
      libraries = ((library, caching) ∷ [], refl);
      nodes = (add.nodes, refl);
      new = add.links;
      links = refl;
      added = linked_adds w.nodes (submitted_number w inputs) (submitted_number w inputs) (kind_of_definition d) lt (length w.nodes + 1) inputs;
      records = λ q ne le. found_stays w c add q le;
      carried = λ r found. absurd (beyond_records w c (submitted_number w inputs) lt r found);
      batches = omega arith;
    }

-- ---- submissions

pub submission_accepted : (w : World) (library : List Definition) (caching : List (List ℕ)) (name : List ℕ) (inputs : Values) (cs : List Change) → IsConsistent w
    → Submits w library caching name inputs cs → HasPlaces w (submitted_number w inputs) → IsAccepted w cs
submission_accepted w library caching name inputs cs h s places =
    subst (λ (x : List Change). IsAccepted w x) (sym s.changes)
    (submission_fits w h library caching name inputs s.definition s.is_there s.names s.values places)

pub submission_continues : (w : World) (library : List Definition) (caching : List (List ℕ)) (name : List ℕ) (inputs : Values) (cs : List Change) → IsConsistent w
    → Submits w library caching name inputs cs → Continues w (applied w cs)
submission_continues w library caching name inputs cs h s =
    subst (λ v. Continues w v) (sym (ap (applied w) s.changes ∙ submission_gives w library caching name inputs s.definition))
    (world_continues w library caching name inputs s.definition h)

pub submission_touches : (w : World) (library : List Definition) (caching : List (List ℕ)) (name : List ℕ) (inputs : Values) (cs : List Change) → IsConsistent w
    → Submits w library caching name inputs cs → Touches w (applied w cs) (submitted_number w inputs)
submission_touches w library caching name inputs cs h s =
    subst (λ (v : World). Touches w v (submitted_number w inputs)) (sym (ap (applied w) s.changes ∙ submission_gives w library caching name inputs s.definition))
    (grown_touches w library caching name inputs s.definition h)
