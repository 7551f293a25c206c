-- A submission adds one process, to which its links lead.
use Rattle.std.proofs.Common.{ℕ, ◌+◌, List, [], ◌∷◌, length, arith}
use Rattle.wc_syntax.specs.declared.definition.Definition.{Definition}
use Rattle.wc_semantics.specs.Rules.{Values}
use Rattle.wc_state.specs.declared.record.ProcessKind.{ProcessKind}
use Rattle.wc_world.specs.World.{World}
use Rattle.wc_world.specs.Records.{kind_of_definition}
use Rattle.wc_machine.specs.Submissions.{input_link, submitted_number}
use Rattle.wc_machine.proofs.OneMore.{Addition}
use Rattle.wc_machine.proofs.Submitted.{new_process, new_nodes, new_links}
use Rattle.wc_machine.proofs.SubmittedLinks.{linked_no_output, linked_no_calls, linked_no_input}

module _ (w : World) (library : List Definition) (caching : List (List ℕ)) (name : List ℕ) (inputs : Values) (d : Definition) where
  abbrev pub addition : Addition w
  addition =
      let k : ProcessKind = kind_of_definition d in
      let number : ℕ = submitted_number w inputs in
      record {
        nodes = new_nodes w library caching name inputs d;
        links = new_links w library caching name inputs d;
        number = number;
        process = new_process w library caching name inputs d;
        libraries = (library, caching) ∷ [];
        batches = w.batches + 1;
        beyond = omega arith;
        outputs = λ q. linked_no_output k (length w.nodes + 1) number q inputs;
        calls = linked_no_calls k (length w.nodes + 1) number inputs;
        inputs = λ q ne. linked_no_input (input_link k) (length w.nodes + 1) number q inputs ne;
      }
