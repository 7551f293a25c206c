-- Each called process is as a sound world asks.
use Rattle.std.proofs.Common.{◌≡◌, ℕ, suc, ◌+◌, ◌<◌, ◌≤◌, Bool, true, false, Some, None, List, [], ◌∷◌, ◌++◌, length, refl, sym, ap, subst, ◌∙◌, arith}
use Rattle.std.specs.Prelude.{◌==◌, ◌&&◌, ◌||◌}
use Rattle.std.specs.List.{list_any}
use Rattle.std.proofs.lemmas.Bool.{eq-eqb, or_left}
use Rattle.std.proofs.lemmas.List.Elements.{All-weaker}
use Rattle.std.proofs.lemmas.List.Folds.{list_any-append}
use Rattle.wc_syntax.specs.Findings.{head_of}
use Rattle.wc_syntax.specs.declared.definition.Definition.{Definition}
use Rattle.wc_graph.specs.declared.link.Link.{Link}
use Rattle.wc_machine.specs.Inputs.{bad_input}
use Rattle.wc_state.specs.declared.record.Checkpoint.{Checkpoint}
use Rattle.wc_state.specs.declared.record.ProcessRecord.{ProcessRecord}
use Rattle.wc_world.specs.Consistent.{IsConsistent, Stands}
use Rattle.wc_world.specs.Fits.{has_output}
use Rattle.wc_world.specs.Records.{definition_in, find_record, has_called, is_call_from}
use Rattle.wc_world.specs.World.{World}
use Rattle.wc_world.proofs.FoundRecords.{found_holds}
use Rattle.wc_machine.specs.Calls.{called_number, kind_of_callee}
use Rattle.wc_machine.specs.Paths as paths
use Rattle.wc_machine.specs.Recorded.{recorded_inputs}
use Rattle.wc_machine.specs.Sound.{AreNumbered, CallsAreKept, IsFitting, IsPlaced, TakesItsInputs}
use Rattle.wc_machine.specs.Steps.{Call, values_in}
use Rattle.wc_machine.specs.Submissions.{input_link}
use Rattle.wc_machine.proofs.Frames.{NoCallFrom, any_before, filter_before, no_call_beyond, no_output_beyond, output_before}
use Rattle.wc_machine.proofs.OneMoreMeaning.{fresh_on_track}
use Rattle.wc_soundness.specs.Touches.{IsSoundRecord}
use Rattle.wc_soundness.specs.Submitted.{call_links, calls_links, child_record, EachCall, first_free, input_links, its_call_link, now_waits, submitted}
use Rattle.wc_soundness.proofs.Links.{its_link_calls, no_calls_of, no_outputs}
use Rattle.wc_soundness.proofs.Records.{each_beyond, each_both, each_by, found_now, within}

pub any_behind : (p : Link → Bool) (xs ys : List Link) → list_any p ys ≡ true → list_any p (xs ++ ys) ≡ true
any_behind p [] ys h = h
any_behind p (x ∷ xs) ys h = by (p x) (any_behind p xs ys h)
  where
    by : (b : Bool) → list_any p (xs ++ ys) ≡ true → b || list_any p (xs ++ ys) ≡ true
    by true e = refl
    by false e = e

any_front : (p : Link → Bool) (xs ys : List Link) → list_any p xs ≡ true → list_any p (xs ++ ys) ≡ true
any_front p xs ys h = list_any-append p xs ys ∙ or_left (list_any p xs) (list_any p ys) h

-- the callee's definition is there, with ports that take the arguments
pub record IsCallable (w : World) (r : ProcessRecord) (c : Call) : Type 0 where
  pub definition : Definition
  pub is_there : definition_in w.libraries r.library c.definition ≡ Some definition
  pub takes : bad_input (head_of definition).inputs (values_in c.args) ≡ None

module _ (w : World) (r : ProcessRecord) where
  abbrev Leads : ℕ → Link → Bool
  Leads q l = is_call_from r.node l && (l.target == q)

  -- the chain has called each
  pub children_called : (next : ℕ) (calls : List Call) → EachCall w r (λ n c. has_called (calls_links w r next calls) r.node (called_number w r n c) ≡ true) next calls
  children_called next [] = tt
  children_called next (c ∷ cs) =
      let number : ℕ = called_number w r next c in
      let l : Link = its_call_link w r next c in
      let inputs : List Link = input_links (input_link (kind_of_callee w r c)) next number c.args in
      let rest : List Link = calls_links w r (suc number) cs in
      let leads : Leads number l ≡ true = (λ i. its_link_calls w r next c i && (number == number)) ∙ eq-eqb number number refl in (
        any_front (Leads number) (call_links w r next c) rest (any_behind (Leads number) inputs (l ∷ []) (ap (λ (b : Bool). b || false) leads)),
        each_by w r (λ n x. has_called rest r.node (called_number w r n x) ≡ true)
            (λ n x. has_called (call_links w r next c ++ rest) r.node (called_number w r n x) ≡ true)
            (λ n x. any_behind (Leads (called_number w r n x)) (call_links w r next c) rest) (suc number) cs (children_called (suc number) cs),
      )

  module _ (consistent : IsConsistent w) (found : find_record r.node w.records ≡ Some r) (d : Checkpoint) (calls : List Call) where
    abbrev v : World
    v = submitted w r d calls

    abbrev new : List Link
    new = calls_links w r (first_free w r) calls

    its_stand : Stands w r
    its_stand = found_holds (Stands w) r.node w.records r consistent.records found

    low : r.node ≤ length w.nodes
    low = within w r consistent found d calls r.node r found

    -- a new process has neither calls nor outputs
    module _ (q : ℕ) (beyond : length w.nodes < q) where
      pub old_calls : NoCallFrom q w.links
      old_calls = no_call_beyond w.nodes q w.links beyond consistent.links.ends

      pub new_calls : NoCallFrom q new
      new_calls = no_calls_of w r q (first_free w r) calls (λ e. absurd (omega (arith, low)))

      none_linked : paths.call_links v q ≡ []
      none_linked = filter_before (is_call_from q) w.links new new_calls ∙ filter_before (is_call_from q) [] w.links old_calls

      calls_nothing : (p : ℕ) → has_called v.links q p ≡ false
      calls_nothing p =
          let none : (l : Link) → is_call_from q l ≡ false → is_call_from q l && (l.target == p) ≡ false = λ l e. ap (λ (b : Bool). b && (l.target == p)) e in
          any_before (λ l. is_call_from q l && (l.target == p)) w.links new
          (All-weaker (λ l. is_call_from q l ≡ false) (λ l. is_call_from q l && (l.target == p) ≡ false) none new new_calls)
          ∙ any_before (λ l. is_call_from q l && (l.target == p)) [] w.links
          (All-weaker (λ l. is_call_from q l ≡ false) (λ l. is_call_from q l && (l.target == p) ≡ false) none w.links old_calls)

      pub gives_nothing : has_output q v.links ≡ false
      gives_nothing =
          output_before q w.links new (no_outputs w r q (first_free w r) calls)
          ∙ output_before q [] w.links (no_output_beyond w.nodes q w.links beyond consistent.links.ends)

    module _ (n : ℕ) (c : Call) (beyond : length w.nodes < n) (callable : IsCallable w r c) (inputs : recorded_inputs v (called_number w r n c) ≡ values_in c.args)
        (called : has_called new r.node (called_number w r n c) ≡ true) where
      abbrev child : ProcessRecord
      child = child_record w r n c

      is_new : length w.nodes < called_number w r n c
      is_new = omega arith

      child_fits : IsFitting v child
      child_fits = record {
        inputs = subst (TakesItsInputs v child) (sym callable.is_there) (ap (bad_input (head_of callable.definition).inputs) inputs ∙ callable.takes);
        request = λ e. absurd (cc);
        code = λ e. refl;
        source = λ e. refl;
        started = λ e. refl;
        awaiting = tt;
        outputs = tt;
      }

      child_placed : IsPlaced v child
      child_placed = record {
        root = λ e.
            let one : suc r.depth ≡ 1 = e in
            let positive : 1 ≤ r.depth = its_stand.not_below in
            absurd (omega arith);
        called = λ ne. (now_waits w r d calls, (found_now w r consistent found d calls, any_behind (Leads (called_number w r n c)) w.links new called, refl, refl));
        numbered = subst (AreNumbered 1) (sym (none_linked (called_number w r n c) is_new)) tt;
      }

      child_calls : CallsAreKept v child
      child_calls q there h = let none : has_called v.links child.node q.node ≡ false = calls_nothing (called_number w r n c) is_new q.node in absurd (cc (none, h))

      pub child_sound : IsSoundRecord v child
      child_sound = record {
        fits = child_fits;
        placed = child_placed;
        calls = child_calls;
        awaits = tt;
        names = tt;
        rule = ((λ calculates on started. absurd (started refl)), (λ off. refl), (λ never. refl), (λ other. refl));
        bare = λ calculates alive. gives_nothing (called_number w r n c) is_new;
        given = λ calculates over. absurd (cc);
        live = λ alive. fresh_on_track v child refl refl refl;
        ended = λ over. absurd (cc);
        few = λ over. absurd (cc);
      }

    -- So where each call has a callee that takes its arguments, and these are recorded, its process is sound.
    pub children_sound : EachCall w r (λ n c. IsCallable w r c) (first_free w r) calls
        → EachCall w r (λ n c. recorded_inputs v (called_number w r n c) ≡ values_in c.args) (first_free w r) calls
        → EachCall w r (λ n c. IsSoundRecord v (child_record w r n c)) (first_free w r) calls
    children_sound callable inputs =
        let first : ℕ = first_free w r in
        each_by w r
        (λ n c. (length w.nodes + 1 ≤ n) × (IsCallable w r c × ((recorded_inputs v (called_number w r n c) ≡ values_in c.args) × (has_called new r.node (called_number w r n c) ≡ true))))
        (λ n c. IsSoundRecord v (child_record w r n c)) (λ n c h. child_sound n c (omega (arith, h.0)) h.1.0 h.1.1.0 h.1.1.1) first calls
        (each_both w r (λ n c. length w.nodes + 1 ≤ n) (λ n c. IsCallable w r c × ((recorded_inputs v (called_number w r n c) ≡ values_in c.args) × (has_called new r.node (called_number w r n c) ≡ true)))
        first calls (each_beyond w r first first calls (omega arith))
        (each_both w r (λ n c. IsCallable w r c) (λ n c. (recorded_inputs v (called_number w r n c) ≡ values_in c.args) × (has_called new r.node (called_number w r n c) ≡ true))
        first calls callable
        (each_both w r (λ n c. recorded_inputs v (called_number w r n c) ≡ values_in c.args) (λ n c. has_called new r.node (called_number w r n c) ≡ true)
        first calls inputs (children_called first calls))))
