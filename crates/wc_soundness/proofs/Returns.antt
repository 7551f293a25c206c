-- The links with which a chain returns its outputs, and the world in which it has ended.
use Rattle.std.proofs.Common.{◌≡◌, ◌≢◌, ℕ, ◌+◌, false, List, [], ◌∷◌, ◌++◌, inl, refl, sym, ◌∙◌}
use Rattle.std.specs.Prelude.{All}
use Rattle.std.proofs.lemmas.Bool.{eq-eqb, ne_eqb}
use Rattle.std.proofs.lemmas.List.{append_assoc, append-nil}
use Rattle.std.proofs.lemmas.List.Elements.{All-nil, All-cons}
use Rattle.wc_value.specs.declared.process.ProcessState.{ProcessState}
use Rattle.wc_value.specs.declared.process.ProcessState.TheVariants as state
use Rattle.wc_graph.specs.declared.link.Link.{Link}
use Rattle.wc_graph.specs.declared.link.LinkType.TheVariants as link
use Rattle.wc_graph.specs.declared.node.NodeKind.{NodeKind}
use Rattle.wc_state.specs.declared.record.Part.TheVariants as part
use Rattle.wc_state.specs.declared.record.ProcessRecord.{ProcessRecord}
use Rattle.wc_semantics.specs.Tables.{Label}
use Rattle.wc_world.specs.declared.change.Change.{Change}
use Rattle.wc_world.specs.World.{World}
use Rattle.wc_world.specs.Applied.{set, changed, begun, applied}
use Rattle.wc_world.specs.Records.{at_process, calls, is_output_of}
use Rattle.wc_machine.specs.Calls.{chain_set, kept_outputs, returns}
use Rattle.wc_machine.specs.Sound.{GoesUp}
use Rattle.wc_machine.proofs.Frames.{NoCalls, NoOutput}
use Rattle.wc_soundness.specs.Touches.{AddsFor}
use Rattle.wc_soundness.specs.Replaced.{set_to}

-- what an end leaves of the outputs: those of a chain that finished
abbrev pub kept_of : ProcessState → List (Label × ℕ) → List (Label × ℕ)
kept_of (state.Finished n) os = os
kept_of s os = []

pub kept_is : (w : World) (r : ProcessRecord) (s : ProcessState) (os : List (Label × ℕ)) → kept_outputs w r s os ≡ returns w r (kept_of s os)
kept_is w r state.Created os = refl
kept_is w r state.Running os = refl
kept_is w r state.Waiting os = refl
kept_is w r (state.Finished n) os = refl
kept_is w r (state.Excepted reason) os = refl
kept_is w r state.Killed os = refl

-- ---- the links

abbrev pub return_link : ℕ → Label × ℕ → Link
return_link pid o = record { source = pid; target = o.1; link = link.Return; label = o.0 }

abbrev pub return_links : ℕ → List (Label × ℕ) → List Link
return_links pid [] = []
return_links pid (o ∷ os) = return_link pid o ∷ return_links pid os

pub returns_no_call : (pid : ℕ) (os : List (Label × ℕ)) → NoCalls (return_links pid os)
returns_no_call pid [] = All-nil (λ l. calls l.link ≡ false)
returns_no_call pid (o ∷ os) = All-cons (λ l. calls l.link ≡ false) (return_link pid o) (return_links pid os) refl (returns_no_call pid os)

pub returns_no_output : (q pid : ℕ) (os : List (Label × ℕ)) → pid ≢ q → NoOutput q (return_links pid os)
returns_no_output q pid [] ne = All-nil (λ l. is_output_of q l ≡ false)
returns_no_output q pid (o ∷ os) ne =
    All-cons (λ l. is_output_of q l ≡ false) (return_link pid o) (return_links pid os) (ne_eqb pid q ne) (returns_no_output q pid os ne)

pub returns_up : (pid : ℕ) (os : List (Label × ℕ)) → All GoesUp (return_links pid os)
returns_up pid [] = All-nil GoesUp
returns_up pid (o ∷ os) = All-cons GoesUp (return_link pid o) (return_links pid os) (λ is. absurd (cc is)) (returns_up pid os)

pub returns_add : (nodes : List NodeKind) (pid : ℕ) (os : List (Label × ℕ)) → All (AddsFor nodes pid) (return_links pid os)
returns_add nodes pid [] = All-nil (AddsFor nodes pid)
returns_add nodes pid (o ∷ os) =
    All-cons (AddsFor nodes pid) (return_link pid o) (return_links pid os) (inl (eq-eqb pid pid refl)) (returns_add nodes pid os)

-- ---- the world

-- the world with these links of a process
abbrev pub with_returns : World → ℕ → List (Label × ℕ) → World
with_returns v pid os = record { nodes = v.nodes; links = v.links ++ return_links pid os; records = v.records; libraries = v.libraries; batches = v.batches }

returned_changed : (batch : ℕ) (w v : World) (r : ProcessRecord) (os : List (Label × ℕ)) (rest : List Change)
    → changed batch v (returns w r os ++ rest) ≡ changed batch (with_returns v r.node os) rest
returned_changed batch w v r [] rest =
    λ i. changed batch (record { nodes = v.nodes; links = sym (append-nil v.links) i; records = v.records; libraries = v.libraries; batches = v.batches }) rest
returned_changed batch w v r (o ∷ os) rest =
    returned_changed batch w (with_returns v r.node (o ∷ [])) r os rest
    ∙ (λ i. changed batch (record {
      nodes = v.nodes;
      links = append_assoc v.links (return_link r.node o ∷ []) (return_links r.node os) i;
      records = v.records;
      libraries = v.libraries;
      batches = v.batches;
    }) rest)

-- the world in which a chain has ended in a state, with these outputs
abbrev pub ended_to : World → ProcessRecord → ProcessState → List (Label × ℕ) → World
ended_to w r s os = record {
  nodes = w.nodes;
  links = w.links ++ return_links r.node os;
  records = at_process r.node (set (w.batches + 1) (set_to r s r.fuel part.Over)) w.records;
  libraries = w.libraries;
  batches = w.batches + 1;
}

-- the changes that make it
abbrev pub ending : World → ProcessRecord → ProcessState → List (Label × ℕ) → List Change
ending w r s os = returns w r os ++ chain_set w r s r.fuel part.Over ∷ []

pub applied_ending : (w : World) (r : ProcessRecord) (s : ProcessState) (os : List (Label × ℕ)) → applied w (ending w r s os) ≡ ended_to w r s os
applied_ending w r s os = returned_changed (w.batches + 1) w (begun w) r os (chain_set w r s r.fuel part.Over ∷ [])
