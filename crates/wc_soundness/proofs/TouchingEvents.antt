-- Events that touch one process: a submission, and the end of a calculation.
use Rattle.std.proofs.Common.{◌≡◌, ◌≢◌, ℕ, ℤ, suc, ◌+◌, ◌<◌, true, false, Option, Some, None, List, [], ◌∷◌, length, inl, inr, refl, sym, ap, subst, ◌∙◌, arith}
use Rattle.std.specs.Prelude.{All, ◌==◌, option_map}
use Rattle.std.proofs.lemmas.Bool.{cond-false, eq-eqb, ne_eqb}
use Rattle.std.proofs.lemmas.List.{append-nil}
use Rattle.std.proofs.lemmas.List.Elements.{All-nil, All-cons}
use Rattle.wc_syntax.specs.declared.definition.Definition.{Definition}
use Rattle.wc_graph.specs.declared.link.LinkType.TheVariants.{Create}
use Rattle.wc_graph.specs.declared.node.NodeKind.{NodeKind}
use Rattle.wc_semantics.specs.Rules.{Values}
use Rattle.wc_semantics.specs.declared.outcomes.Parsed.{Parsed}
use Rattle.wc_state.specs.declared.record.ProcessKind.{ProcessKind}
use Rattle.wc_state.specs.declared.record.ProcessKind.TheVariants as kind
use Rattle.wc_state.specs.declared.record.ProcessRecord.{ProcessRecord}
use Rattle.wc_world.specs.World.{World}
use Rattle.wc_world.specs.Applied.{applied}
use Rattle.wc_world.specs.Consistent.{IsConsistent}
use Rattle.wc_world.specs.Records.{find_record, has_ended, kind_of_definition, takes_input}
use Rattle.wc_world.proofs.ReachedLists.{find_mapped, found_node, found_has, at_one, at_one_keeps}
use Rattle.wc_world.proofs.ReachedWorlds.{reached_is_consistent}
use Rattle.wc_machine.specs.Submissions.{input_link, submitted_number}
use Rattle.wc_machine.proofs.ContinuedEnds.{after_end, found_after, carried}
use Rattle.wc_machine.proofs.Endings.{data_nodes, creates, end_record, ended_world, applied_ends}
use Rattle.wc_machine.proofs.Frames.{records_below}
use Rattle.wc_machine.proofs.OneMore.{grown, found_stays}
use Rattle.wc_machine.proofs.Submitted.{linked, submission_gives}
use Rattle.wc_machine.proofs.SubmittedAddition.{addition}
use Rattle.wc_soundness.specs.FramingLaws.{SubmissionsTouch, EndsTouch}
use Rattle.wc_soundness.specs.Touches.{AddsFor, Touches}

-- ---- submissions

takes : (k : ProcessKind) → takes_input (input_link k) ≡ true
takes kind.Function = refl
takes kind.Job = refl
takes kind.Chain = refl

linked_adds : (nodes : List NodeKind) (by pid : ℕ) (k : ProcessKind) → length nodes < pid → (source : ℕ) (is : Values) → All (AddsFor nodes by) (linked (input_link k) source pid is)
linked_adds nodes by pid k lt source [] = All-nil (AddsFor nodes by)
linked_adds nodes by pid k lt source (i ∷ is) =
    All-cons (AddsFor nodes by) (record { source = source; target = pid; link = input_link k; label = i.0 }) (linked (input_link k) (suc source) pid is)
    (inr (inr (inl (takes k, lt)))) (linked_adds nodes by pid k lt (suc source) is)

beyond_records : (w : World) → IsConsistent w → (pid : ℕ) → length w.nodes < pid → (r : ProcessRecord) → find_record pid w.records ≡ Some r → ⊥
beyond_records w c pid lt r found =
    let low : r.node < suc (length w.nodes) = found_has (λ x. x.node < suc (length w.nodes)) pid w.records r found (records_below w.nodes w.records c.numbered) in
    let same : r.node ≡ pid = found_node pid w.records r found in
    omega arith

grown_touches : (w : World) (library : List Definition) (caching : List (List ℕ)) (name : List ℕ) (inputs : Values) (d : Definition) → IsConsistent w
    → Touches w (grown w (addition w library caching name inputs d)) (submitted_number w inputs)
grown_touches w library caching name inputs d c =
    let add = addition w library caching name inputs d in
    let lt : length w.nodes < submitted_number w inputs = omega arith in
    record {
      libraries = ((library, caching) ∷ [], refl);
      nodes = (add.nodes, refl);
      new = add.links;
      links = refl;
      added = linked_adds w.nodes (submitted_number w inputs) (submitted_number w inputs) (kind_of_definition d) lt (length w.nodes + 1) inputs;
      records = λ q ne le. found_stays w c add q le;
      carried = λ r found. absurd (beyond_records w c (submitted_number w inputs) lt r found);
      batches = omega arith;
    }

pub submissions_touch : SubmissionsTouch
submissions_touch w library caching name inputs cs reached s =
    subst (λ (v : World). Touches w v (submitted_number w inputs)) (sym (ap (applied w) s.changes ∙ submission_gives w library caching name inputs s.definition))
    (grown_touches w library caching name inputs s.definition (reached_is_consistent w reached))

-- ---- ends

pub creates_adds : (nodes : List NodeKind) (pid next : ℕ) (os : Values) → All (AddsFor nodes pid) (creates next pid os)
creates_adds nodes pid next [] = All-nil (AddsFor nodes pid)
creates_adds nodes pid next (o ∷ os) =
    All-cons (AddsFor nodes pid) (record { source = pid; target = next; link = Create; label = o.0 }) (creates (suc next) pid os)
    (inl (eq-eqb pid pid refl)) (creates_adds nodes pid (suc next) os)

module _ (w : World) (r : ProcessRecord) (p : Parsed) (source : Option ℕ) (code : Option ℤ) where
  pub found_other : (q : ℕ) → r.node ≢ q → (o : Option ProcessRecord) → find_record q w.records ≡ o
      → find_record q (ended_world w r p source code).records ≡ find_record q w.records
  found_other q ne None is =
      find_mapped (at_one r.node (end_record w r p source code)) (at_one_keeps (λ (x : ProcessRecord). x.node) (end_record w r p source code) (λ x. refl) r.node) q w.records
      ∙ ap (option_map (at_one r.node (end_record w r p source code))) is ∙ sym is
  found_other q ne (Some x) is =
      let apart : x.node ≢ r.node = λ e. ne (sym e ∙ found_node q w.records x is) in
      found_after w r p source code q x is
      ∙ ap (λ (y : ProcessRecord). Some y) (cond-false (x.node == r.node) (end_record w r p source code x) x (ne_eqb x.node r.node apart)) ∙ sym is

  same_record : (q : ProcessRecord) → find_record r.node w.records ≡ Some r → find_record r.node w.records ≡ Some q → r ≡ q
  same_record q found h = let e : Some r ≡ Some q = sym found ∙ h in cc

  ended_touches : find_record r.node w.records ≡ Some r → has_ended r.state ≡ false → r.started ≡ 0 → Touches w (ended_world w r p source code) r.node
  ended_touches found live unstarted = record {
    libraries = ([], sym (append-nil w.libraries));
    nodes = (data_nodes p.outputs, refl);
    new = creates (length w.nodes + 1) r.node p.outputs;
    links = refl;
    added = creates_adds w.nodes r.node (length w.nodes + 1) p.outputs;
    records = λ q ne le. found_other q ne (find_record q w.records) refl;
    carried = λ q h.
        let same : r ≡ q = same_record q found h in
        let itself : find_record q.node w.records ≡ Some q = ap (λ (x : ProcessRecord). find_record x.node w.records) (sym same) ∙ h in
        (after_end w r p source code q, found_after w r p source code r.node q h, carried w r p source code found live unstarted q itself);
    batches = omega arith;
  }

pub ends_touch : EndsTouch
ends_touch w r p source code found live unstarted =
    subst (λ (v : World). Touches w v r.node) (sym (applied_ends w r p source code)) (ended_touches w r p source code found live unstarted)
