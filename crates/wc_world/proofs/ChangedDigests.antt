-- The digests of calculations under each change.
use Rattle.std.proofs.Common.{◌≡◌, ℕ, Bool, true, false, Option, Some, None, List, [], ◌∷◌, ◌++◌, refl, sym, ap, ◌∙◌}
use Rattle.std.specs.Prelude.{All, if◌then◌else◌, ◌==◌, is_some, option_map, option_and_then}
use Rattle.std.proofs.lemmas.Bool.{eq-eqb, ne_eqb, cond-false, and_right}
use Rattle.std.proofs.lemmas.List.Elements.{All-head, All-tail, All-weaker}
use Rattle.sha2.specs.Sha256.{sha256}
use Rattle.wc_value.specs.Spelling.{spelling}
use Rattle.wc_value.specs.declared.value.Value.{Value}
use Rattle.wc_value.specs.declared.process.ProcessState.{ProcessState}
use Rattle.wc_value.specs.declared.process.ProcessState.TheVariants as state
use Rattle.wc_syntax.specs.declared.definition.Definition.{Definition}
use Rattle.wc_syntax.specs.Printing.{printed_definition}
use Rattle.wc_graph.specs.Rules.{node_of, HasRightEnds, Leaves, IsLinkCorrect}
use Rattle.wc_graph.specs.declared.node.NodeKind.{NodeKind}
use Rattle.wc_graph.specs.declared.link.Link.{Link}
use Rattle.wc_state.specs.declared.record.ProcessRecord.{ProcessRecord}
use Rattle.wc_records.specs.declared.change.NewProcess.{NewProcess}
use Rattle.wc_records.specs.declared.change.SetProcess.{SetProcess}
use Rattle.wc_records.specs.declared.change.Kept.{Kept}
use Rattle.wc_records.specs.Readiness.{is_over, ended_at}
use Rattle.wc_keys.specs.SealKeys.{key_value}
use Rattle.wc_keys.specs.Order.{without}
use Rattle.wc_world.specs.World.{Known}
use Rattle.wc_world.specs.Records.{find_record, at_process, has_ended, is_calculation, is_input_of, takes_input, definition_in}
use Rattle.wc_world.specs.Applied.{made, set, keep}
use Rattle.wc_world.specs.Trees.{NamedValues, data_of, value_of, with_value, inputs_after, values_alone}
use Rattle.wc_world.specs.Keys.{has_finished, is_finished_calculation, digest_by, digest_from}
use Rattle.wc_world.proofs.ReachedLists.{some_and, node_grown, find_grown, found_node, found_has, find_mapped, at_one, at_one_keeps, definition_grown}

-- ---- inputs where nodes and links are added

value_grown : (nodes more : List NodeKind) (id : ℕ) (k : NodeKind) → node_of nodes id ≡ Some k → value_of (nodes ++ more) id ≡ value_of nodes id
value_grown nodes more id k is = ap (option_and_then data_of) (node_grown nodes more id k is ∙ sym is)

-- the node that a link leads from is there
abbrev HasSource : List NodeKind → Link → Type 0
HasSource nodes l = (k : NodeKind) × (node_of nodes l.source ≡ Some k)

has_source : (nodes : List NodeKind) (l : Link) → HasRightEnds nodes l → HasSource nodes l
has_source nodes l ends = let found = some_and (Leaves l.link) (node_of nodes l.source) ends.0 in (found.0, found.1)

inputs_grown : (nodes more : List NodeKind) (pid : ℕ) (ls : List Link) (es : NamedValues) → All (HasSource nodes) ls → inputs_after (nodes ++ more) pid ls es ≡ inputs_after nodes pid ls es
inputs_grown nodes more pid [] es all = refl
inputs_grown nodes more pid (l ∷ ls) es all =
    let there = All-head (HasSource nodes) l ls all in
    ap (λ (o : Option Value). inputs_after (nodes ++ more) pid ls (if is_input_of pid l then with_value l.label l.source o es else es)) (value_grown nodes more l.source there.0 there.1)
    ∙ inputs_grown nodes more pid ls (if is_input_of pid l then with_value l.label l.source (value_of nodes l.source) es else es) (All-tail (HasSource nodes) l ls all)

-- a link that is no input of the process adds none
inputs_beside : (nodes : List NodeKind) (pid : ℕ) (l : Link) → is_input_of pid l ≡ false → (ls : List Link) (es : NamedValues)
    → inputs_after nodes pid (ls ++ l ∷ []) es ≡ inputs_after nodes pid ls es
inputs_beside nodes pid l other [] es = ap (λ (b : Bool). if b then with_value l.label l.source (value_of nodes l.source) es else es) other
inputs_beside nodes pid l other (m ∷ ls) es = inputs_beside nodes pid l other ls (if is_input_of pid m then with_value m.label m.source (value_of nodes m.source) es else es)

not_into : (pid : ℕ) (l : Link) → (l.target ≡ pid → ⊥) → is_input_of pid l ≡ false
not_into pid l ne = and_right (takes_input l.link) (l.target == pid) (ne_eqb l.target pid ne)

-- ---- the digest of one process

-- the digest by what is recorded as inputs, and by the definition
abbrev digest_as : NamedValues → Option Definition → ProcessRecord → Option (List ℕ)
digest_as inputs definition r =
    if is_finished_calculation r then option_map sha256 (option_map (λ d. spelling (key_value (printed_definition d) (values_alone inputs))) definition) else None

by_nodes : (nodes more : List NodeKind) (links : List Link) (libraries : List Known) (r : ProcessRecord) → IsLinkCorrect nodes links
    → digest_by nodes links libraries r ≡ digest_by (nodes ++ more) links libraries r
by_nodes nodes more links libraries r correct =
    ap (λ (es : NamedValues). digest_as es (definition_in libraries r.library r.definition) r)
    (sym (inputs_grown nodes more r.node links [] (All-weaker (HasRightEnds nodes) (HasSource nodes) (has_source nodes) links correct.ends)))

by_links : (nodes : List NodeKind) (links : List Link) (l : Link) (libraries : List Known) (r : ProcessRecord) → (l.target ≡ r.node → ⊥)
    → digest_by nodes links libraries r ≡ digest_by nodes (links ++ l ∷ []) libraries r
by_links nodes links l libraries r ne =
    ap (λ (es : NamedValues). digest_as es (definition_in libraries r.library r.definition) r) (sym (inputs_beside nodes r.node l (not_into r.node l ne) links []))

by_libraries : (nodes : List NodeKind) (links : List Link) (libraries more : List Known) (r : ProcessRecord) → is_some (definition_in libraries r.library r.definition) ≡ true
    → digest_by nodes links libraries r ≡ digest_by nodes links (libraries ++ more) r
by_libraries nodes links libraries more r there = ap (λ (o : Option Definition). digest_as (inputs_after nodes r.node links []) o r) (told (definition_in libraries r.library r.definition) refl there)
  where
    told : (o : Option Definition) → definition_in libraries r.library r.definition ≡ o → is_some o ≡ true
        → definition_in libraries r.library r.definition ≡ definition_in (libraries ++ more) r.library r.definition
    told None is h = absurd (cc)
    told (Some d) is h = is ∙ sym (definition_grown libraries more r.library r.definition d is)

-- what hasn't finished has no digest
by_state : (nodes : List NodeKind) (links : List Link) (libraries : List Known) (r : ProcessRecord) → has_finished r.state ≡ false → digest_by nodes links libraries r ≡ None
by_state nodes links libraries r isnt =
    ap (λ (b : Bool). if b then option_map sha256 (option_map (λ d. spelling (key_value (printed_definition d) (values_alone (inputs_after nodes r.node links [])))) (definition_in libraries r.library r.definition)) else None)
    (and_right (is_calculation r.kind) (has_finished r.state) isnt)

-- ---- the digests of all processes

find_last : (n : ℕ) (rs : List ProcessRecord) (last : ProcessRecord) → find_record n rs ≡ None → find_record n (rs ++ last ∷ []) ≡ (if last.node == n then Some last else None)
find_last n [] last none = refl
find_last n (r ∷ rs) last none = told (r.node == n) none (λ h. find_last n rs last h)
  where
    told : (b : Bool) → (if b then Some r else find_record n rs) ≡ None → (find_record n rs ≡ None → find_record n (rs ++ last ∷ []) ≡ (if last.node == n then Some last else None))
        → (if b then Some r else find_record n (rs ++ last ∷ [])) ≡ (if last.node == n then Some last else None)
    told true h rest = absurd (cc)
    told false h rest = rest h

-- what is the same of each record that is found
same_found : {X : Type 0} (f g : ProcessRecord → Option X) (o : Option ProcessRecord) → ((r : ProcessRecord) → o ≡ Some r → f r ≡ g r) → option_and_then f o ≡ option_and_then g o
same_found f g None same = refl
same_found f g (Some r) same = same r refl

abbrev Digests : Type 0
Digests = ℕ → Option (List ℕ)

module _ (nodes : List NodeKind) (links : List Link) (libraries : List Known) (records : List ProcessRecord) where
  pub with_library : (known : Known) → All (λ r. is_some (definition_in libraries r.library r.definition) ≡ true) records
      → (n : ℕ) → digest_from nodes links libraries records n ≡ digest_from nodes links (libraries ++ known ∷ []) records n
  with_library known defined n =
      same_found (digest_by nodes links libraries) (digest_by nodes links (libraries ++ known ∷ [])) (find_record n records)
      (λ r is. by_libraries nodes links libraries (known ∷ []) r (found_has (λ x. is_some (definition_in libraries x.library x.definition) ≡ true) n records r is defined))

  pub with_node : (k : NodeKind) → IsLinkCorrect nodes links → (n : ℕ) → digest_from nodes links libraries records n ≡ digest_from (nodes ++ k ∷ []) links libraries records n
  with_node k correct n =
      same_found (digest_by nodes links libraries) (digest_by (nodes ++ k ∷ []) links libraries) (find_record n records) (λ r _. by_nodes nodes (k ∷ []) links libraries r correct)

  -- a new process has no digest
  pub with_process : (number : ℕ) (p : NewProcess) → (n : ℕ) → digest_from nodes links libraries records n ≡ digest_from nodes links libraries (records ++ made number p ∷ []) n
  with_process number p n = told (find_record n records) refl
    where
      alone : (b : Bool) → ◌≡◌ {A = Option (List ℕ)} None (option_and_then (digest_by nodes links libraries) (if b then Some (made number p) else None))
      alone true = sym (by_state nodes links libraries (made number p) refl)
      alone false = refl

      told : (o : Option ProcessRecord) → find_record n records ≡ o → digest_from nodes links libraries records n ≡ digest_from nodes links libraries (records ++ made number p ∷ []) n
      told (Some r) is = ap (option_and_then (digest_by nodes links libraries)) (is ∙ sym (find_grown n records (made number p ∷ []) r is))
      told None is =
          ap (option_and_then (digest_by nodes links libraries)) is
          ∙ alone (number == n)
          ∙ ap (option_and_then (digest_by nodes links libraries)) (sym (find_last n records (made number p) is))

  -- the digest of the process that a link enters alone may be another
  pub with_link : (l : Link) (n : ℕ) → without l.target (digest_from nodes links libraries records) n ≡ without l.target (digest_from nodes (links ++ l ∷ []) libraries records) n
  with_link l n = told (n == l.target) refl
    where
      different : n ≡ l.target → (n == l.target) ≡ false → ⊥
      different e is = let same : (n == l.target) ≡ true = eq-eqb n l.target e in cc

      told : (b : Bool) → (n == l.target) ≡ b
          → (if b then None else digest_from nodes links libraries records n) ≡ (if b then None else digest_from nodes (links ++ l ∷ []) libraries records n)
      told true is = refl
      told false is =
          same_found (digest_by nodes links libraries) (digest_by nodes (links ++ l ∷ []) libraries) (find_record n records)
          (λ r found. by_links nodes links l libraries r (λ e. let m : r.node ≡ n = found_node n records r found in different (sym m ∙ sym e) is))

  -- so may that of the process that is set
  pub with_set : (pid batch : ℕ) (s : SetProcess) (n : ℕ)
      → without pid (digest_from nodes links libraries records) n ≡ without pid (digest_from nodes links libraries (at_process pid (set batch s) records)) n
  with_set pid batch s n = told (n == pid) refl
    where
      told : (b : Bool) → (n == pid) ≡ b
          → (if b then None else digest_from nodes links libraries records n) ≡ (if b then None else digest_from nodes links libraries (at_process pid (set batch s) records) n)
      told true is = refl
      told false is =
          other (find_record n records) refl
          ∙ ap (option_and_then (digest_by nodes links libraries)) (sym (find_mapped (at_one pid (set batch s)) (at_one_keeps (λ (x : ProcessRecord). x.node) (set batch s) (λ x. refl) pid) n records))
        where
          other : (o : Option ProcessRecord) → find_record n records ≡ o
              → option_and_then (digest_by nodes links libraries) (find_record n records)
              ≡ option_and_then (digest_by nodes links libraries) (option_map (at_one pid (set batch s)) (find_record n records))
          other None found = ap (option_and_then (digest_by nodes links libraries)) found ∙ sym (ap (λ (o : Option ProcessRecord). option_and_then (digest_by nodes links libraries) (option_map (at_one pid (set batch s)) o)) found)
          other (Some r) found =
              let apart : (r.node == pid) ≡ false = ap (λ (m : ℕ). m == pid) (found_node n records r found) ∙ is in
              ap (option_and_then (digest_by nodes links libraries)) found
              ∙ ap (digest_by nodes links libraries) (sym (cond-false (r.node == pid) (set batch s r) r apart))
              ∙ sym (ap (λ (o : Option ProcessRecord). option_and_then (digest_by nodes links libraries) (option_map (at_one pid (set batch s)) o)) found)

  -- when a process started and ended plays no part
  pub with_kept : (k : Kept) (n : ℕ) → digest_from nodes links libraries records n ≡ digest_from nodes links libraries (at_process k.pid (keep k) records) n
  with_kept k n =
      kept_each (find_record n records)
      ∙ ap (option_and_then (digest_by nodes links libraries)) (sym (find_mapped (at_one k.pid (keep k)) (at_one_keeps (λ (x : ProcessRecord). x.node) (keep k) (λ x. refl) k.pid) n records))
    where
      kept_one : (b : Bool) (r : ProcessRecord) → digest_by nodes links libraries r ≡ digest_by nodes links libraries (if b then keep k r else r)
      kept_one true r = refl
      kept_one false r = refl

      kept_each : (o : Option ProcessRecord) → option_and_then (digest_by nodes links libraries) o ≡ option_and_then (digest_by nodes links libraries) (option_map (at_one k.pid (keep k)) o)
      kept_each None = refl
      kept_each (Some r) = kept_one (r.node == k.pid) r

  -- a process that hasn't ended has no digest
  pub live_has_none : (pid : ℕ) → ended_at records pid ≡ false → digest_from nodes links libraries records pid ≡ None
  live_has_none pid live = told (find_record pid records) live
    where
      not_finished : (s : ProcessState) → has_ended s ≡ false → has_finished s ≡ false
      not_finished state.Created h = refl
      not_finished state.Running h = refl
      not_finished state.Waiting h = refl
      not_finished (state.Finished m) h = absurd (cc)
      not_finished (state.Excepted r) h = refl
      not_finished state.Killed h = refl

      told : (o : Option ProcessRecord) → is_over o ≡ false → option_and_then (digest_by nodes links libraries) o ≡ None
      told None h = refl
      told (Some r) h = by_state nodes links libraries r (not_finished r.state h)
