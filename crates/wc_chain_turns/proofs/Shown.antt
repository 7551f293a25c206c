-- What is said of calls as they are answered is what the machine says of them.
use Rattle.std.proofs.Common.{◌≡◌, ℕ, suc, ◌+◌, List, [], ◌∷◌, ◌++◌, Bool, Some, length, map, refl, sym, ap, ◌∙◌}
use Rattle.std.specs.Prelude.{◌||◌, option_and_then}
use Rattle.std.specs.List.{list_any}
use Rattle.std.proofs.lemmas.List.{length-map}
use Rattle.wc_value.specs.declared.process.ProcessState.TheVariants as state
use Rattle.wc_syntax.specs.Findings.{definition_named, is_among}
use Rattle.wc_syntax.specs.declared.definition.Chain.{Chain}
use Rattle.wc_syntax.specs.declared.definition.Definition.TheVariants as definition
use Rattle.wc_syntax.specs.declared.definition.Port.{Port}
use Rattle.wc_graph.specs.declared.link.LinkType.{LinkType}
use Rattle.wc_state.specs.declared.record.Await.{Await}
use Rattle.wc_state.specs.declared.record.Part.TheVariants as part
use Rattle.wc_state.specs.declared.record.ProcessRecord.{ProcessRecord}
use Rattle.wc_world.specs.World.{World}
use Rattle.wc_world.specs.Records.{library_at}
use Rattle.wc_world.specs.declared.change.Change.{Change}
use Rattle.wc_world.specs.declared.change.Change.TheVariants as change
use Rattle.wc_machine.specs.Advances.{Advanced, goes, loops, submits, ends}
use Rattle.wc_machine.specs.Calls as calling
use Rattle.wc_machine.specs.Calls.{Arguments, kind_named, call_link, caching_in, plain_data, argument_links, kind_of_callee, called_number, call_changes, calls_changes, awaits, returns, advanced}
use Rattle.wc_machine.specs.Steps.{node, plain, Call}
use Rattle.wc_machine.specs.Submissions.{input_link}
use Rattle.wc_changes.specs.Shown.{shown_arguments, shown_call, shown}
use Rattle.wc_changes.specs.declared.children.Caller.{Caller}
use Rattle.wc_changes.specs.Called.{data_of, links_of, number_at, waited, kind_at, one_call, all_calls}
use Rattle.wc_changes.specs.Advances.{Outs, is_now, is_missing, lacks, status, return_link, comes_to}

-- ---- arguments

pub data_shown : (args : Arguments) → data_of (shown_arguments args) ≡ plain_data args
data_shown [] = refl
data_shown ((port, node n) ∷ rest) = data_shown rest
data_shown ((port, plain v) ∷ rest) = ap (λ (l : List Change). change.Data v ∷ l) (data_shown rest)

links_shown : (t : LinkType) (next pid : ℕ) (args : Arguments) → links_of t next pid (shown_arguments args) ≡ argument_links t next pid args
links_shown t next pid [] = refl
links_shown t next pid ((port, node n) ∷ rest) =
    ap (λ (l : List Change). change.Link (record { source = n.node; target = pid; link = t; label = port }) ∷ l) (links_shown t next pid rest)
links_shown t next pid ((port, plain v) ∷ rest) =
    ap (λ (l : List Change). change.Link (record { source = next; target = pid; link = t; label = port }) ∷ l) (links_shown t (suc next) pid rest)

-- ---- ends

missing_is : (w : World) (r : ProcessRecord) (outputs : Outs) (ports : List Port) → list_any (is_missing outputs) ports ≡ calling.lacks w r ports outputs
missing_is w r outputs [] = refl
missing_is w r outputs (p ∷ ps) = ap (λ (b : Bool). is_missing outputs p || b) (missing_is w r outputs ps)

returns_are : (w : World) (r : ProcessRecord) (outputs : Outs) → map (return_link r.node) outputs ≡ returns w r outputs
returns_are w r [] = refl
returns_are w r (o ∷ os) = ap (λ (l : List Change). return_link r.node o ∷ l) (returns_are w r os)

-- ---- calls

module _ (w : World) (x : Caller) (is_there : library_at w.libraries x.process.now.library ≡ Some x.library.now)
    (named : caching_in w.libraries x.process.now.library ≡ x.caching.now) where
  abbrev r : ProcessRecord
  r = x.process.now

  kind_shown : (c : Call) → kind_at x (shown_call c) ≡ kind_of_callee w r c
  kind_shown c = sym (ap (λ o. kind_named (option_and_then (definition_named c.definition) o)) is_there)

  number_shown : (next : ℕ) (c : Call) → number_at next (shown_call c) ≡ called_number w r next c
  number_shown next c = ap (λ (l : List Change). next + length l) (data_shown c.args)

  inputs_shown : (next : ℕ) (c : Call)
      → links_of (input_link (kind_at x (shown_call c))) next (number_at next (shown_call c)) (shown_arguments c.args)
      ≡ argument_links (input_link (kind_of_callee w r c)) next (called_number w r next c) c.args
  inputs_shown next c =
      (λ i. links_of (input_link (kind_shown c i)) next (number_shown next c i) (shown_arguments c.args))
      ∙ links_shown (input_link (kind_of_callee w r c)) next (called_number w r next c) c.args

  one_shown : (next : ℕ) (c : Call) → one_call x next (shown_call c) ≡ call_changes w r next c
  one_shown next c = λ i.
      data_shown c.args i
      ++ change.Process (record {
        kind = kind_shown c i;
        definition = c.definition;
        library = r.library;
        depth = suc r.depth;
        label = c.label;
        caching = is_among c.definition (sym named i);
      })
      ∷ (inputs_shown next c i
      ++ change.Link (record { source = r.node; target = number_shown next c i; link = call_link (kind_shown c i); label = c.label }) ∷ [])

  all_shown : (next : ℕ) (cs : List Call) → all_calls x next (map shown_call cs) ≡ calls_changes w r next cs
  all_shown next [] = refl
  all_shown next (c ∷ cs) =
      (λ i. one_shown next c i ++ all_calls x (suc (number_shown next c i)) (map shown_call cs))
      ∙ ap (λ (l : List Change). call_changes w r next c ++ l) (all_shown (suc (called_number w r next c)) cs)

  waited_shown : (next : ℕ) (cs : List Call) → waited next (map shown_call cs) ≡ awaits w r next cs
  waited_shown next [] = refl
  waited_shown next (c ∷ cs) =
      (λ i. record { key = c.key; append = c.append; pid = number_shown next c i } ∷ waited (suc (number_shown next c i)) (map shown_call cs))
      ∙ ap (λ (l : List Await). record { key = c.key; append = c.append; pid = called_number w r next c } ∷ l) (waited_shown (suc (called_number w r next c)) cs)

  -- ---- all

  module _ (k : Chain) (runs : definition_named r.definition x.library.now ≡ Some (definition.Chain k)) where
    missing : (outputs : Outs) → lacks outputs (definition_named r.definition x.library.now) ≡ calling.lacks w r k.head.outputs outputs
    missing outputs = ap (lacks outputs) runs ∙ missing_is w r outputs k.head.outputs

    pub comes_shown : (a : Advanced) → comes_to x (length w.nodes + 1) (shown a) ≡ advanced w r k.head.outputs a
    comes_shown (goes c) = refl
    comes_shown (loops c) = refl
    comes_shown (submits c calls) = λ i.
        all_shown (length w.nodes + 1) calls i
        ++ is_now r state.Waiting r.fuel (part.Chain (record {
          frames = c.frames;
          ctx = c.ctx;
          awaiting = waited_shown (length w.nodes + 1) calls i;
          calls = c.calls + length-map calls shown_call i;
          outputs = c.outputs;
        }))
        ∷ []
    comes_shown (ends state.Created outputs) = refl
    comes_shown (ends state.Running outputs) = refl
    comes_shown (ends state.Waiting outputs) = refl
    comes_shown (ends (state.Finished n) outputs) = λ i.
        returns_are w r outputs i ++ is_now r (state.Finished (status (missing outputs i) n)) r.fuel part.Over ∷ []
    comes_shown (ends (state.Excepted e) outputs) = refl
    comes_shown (ends state.Killed outputs) = refl
