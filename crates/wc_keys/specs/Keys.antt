-- The keys of calculations, and the digests of those that have finished.
use Rattle.std.specs.Prelude.{◌≡◌, ℕ, Bool, true, false, ◌&&◌, if◌then◌else◌, List, [], All, Option, None, is_some, option_map, option_and_then}
use Rattle.std.specs.List.{filter_map}
use Rattle.sha2.specs.Sha256.{sha256}
use Rattle.wc_value.specs.Spelling.{spelling}
use Rattle.wc_value.specs.declared.value.Value.{Value}
use Rattle.wc_value.specs.declared.process.ProcessState.{ProcessState}
use Rattle.wc_value.specs.declared.process.ProcessState.TheVariants as state
use Rattle.wc_syntax.specs.declared.definition.Definition.{Definition}
use Rattle.wc_syntax.specs.Printing.{printed_definition}
use Rattle.wc_graph.specs.declared.node.NodeKind.{NodeKind}
use Rattle.wc_graph.specs.declared.link.Link.{Link}
use Rattle.wc_state.specs.declared.record.ProcessRecord.{ProcessRecord}
use Rattle.wc_keys.specs.declared.entries.Sealed.{Sealed}
use Rattle.wc_keys.specs.SealKeys.{key_value}
use Rattle.wc_fits.specs.World.{World, Known}
use Rattle.wc_fits.specs.Records.{find_record, definition_in, is_calculation}
use Rattle.wc_fits.specs.Values.{inputs_after, inputs_of, values_alone}

-- the definition that a process runs
abbrev pub its_definition : World → ProcessRecord → Option Definition
its_definition w r = definition_in w.libraries r.library r.definition

-- the values of its inputs, by port
abbrev pub recorded_inputs : World → ℕ → List (List ℕ × Value)
recorded_inputs w pid = values_alone (inputs_of w pid)

-- the state is that of a process that has finished
abbrev pub has_finished : ProcessState → Bool
has_finished state.Created = false
has_finished state.Running = false
has_finished state.Waiting = false
has_finished (state.Finished n) = true
has_finished (state.Excepted r) = false
has_finished state.Killed = false

-- a calculation that has finished
abbrev pub is_finished_calculation : ProcessRecord → Bool
is_finished_calculation r = is_calculation r.kind && has_finished r.state

-- the key of a process by its definition and the links as they stand: the canonical bytes of its definition's printed text and its inputs
abbrev pub key_by : List NodeKind → List Link → List Known → ProcessRecord → Option (List ℕ)
key_by nodes links libraries r =
    option_map (λ d. spelling (key_value (printed_definition d) (values_alone (inputs_after nodes r.node links [])))) (definition_in libraries r.library r.definition)

-- the digest of the key of a calculation that has finished
abbrev pub digest_by : List NodeKind → List Link → List Known → ProcessRecord → Option (List ℕ)
digest_by nodes links libraries r = if is_finished_calculation r then option_map sha256 (key_by nodes links libraries r) else None

-- the digest of the process with this number
abbrev pub digest_from : List NodeKind → List Link → List Known → List ProcessRecord → ℕ → Option (List ℕ)
digest_from nodes links libraries records pid = option_and_then (digest_by nodes links libraries) (find_record pid records)

-- the entry of a process with a digest, where there is one
abbrev pub entry_of : ℕ → Option (List ℕ) → Option Sealed
entry_of pid digest = option_map (λ d. record { digest = d; pid = pid }) digest

-- the entries of all calculations that have finished, in order of their numbers
abbrev pub entries_in : List NodeKind → List Link → List Known → List ProcessRecord → List Sealed
entries_in nodes links libraries records = filter_map (λ r. entry_of r.node (digest_by nodes links libraries r)) records

-- ---- in a world

-- the key of a process of the world
abbrev pub key_in : World → ProcessRecord → Option (List ℕ)
key_in w r = key_by w.nodes w.links w.libraries r

-- the digest of its key, where it has finished as a calculation
abbrev pub digest_in : World → ProcessRecord → Option (List ℕ)
digest_in w r = digest_by w.nodes w.links w.libraries r

-- the digest of the process with this number
abbrev pub digest_at : World → ℕ → Option (List ℕ)
digest_at w = digest_from w.nodes w.links w.libraries w.records

-- The definition of each process is there.
abbrev pub AreDefined : World → Type 0
AreDefined w = All (λ r. is_some (its_definition w r) ≡ true) w.records
