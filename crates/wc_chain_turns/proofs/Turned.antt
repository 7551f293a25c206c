-- The turn of a work chain of a consistent world.
use Rattle.std.proofs.Common.{◌≡◌, ℕ, zero, suc, ◌+◌, ◌≤◌, Bool, true, false, List, [], ◌∷◌, Option, Some, None, length, refl, sym, ap, subst, ◌∙◌, arith}
use Rattle.std.specs.Prelude.{not, ◌&&◌, ◌||◌, ◌==◌, Result, Ok, Err, IsSome, IfOk, IfErr, OnOk, option_map, option_and_then}
use Rattle.std.proofs.lemmas.Bool.{and_parts, eqb-true}
use Rattle.wc_value.specs.declared.process.ProcessState.{ProcessState}
use Rattle.wc_value.specs.declared.process.ProcessState.TheVariants as state
use Rattle.wc_syntax.specs.Findings.{definition_named}
use Rattle.wc_syntax.specs.Mentions.{Mention}
use Rattle.wc_syntax.specs.declared.definition.Chain.{Chain}
use Rattle.wc_syntax.specs.declared.definition.Definition.{Definition}
use Rattle.wc_syntax.specs.declared.definition.Definition.TheVariants as definition
use Rattle.wc_state.specs.Checkpoint.{first}
use Rattle.wc_state.specs.Context.{Pairs}
use Rattle.wc_state.specs.declared.environment.Env.{Env}
use Rattle.wc_state.specs.declared.record.Checkpoint.{Checkpoint}
use Rattle.wc_state.specs.declared.record.Part.{Part}
use Rattle.wc_state.specs.declared.record.Part.TheVariants as part
use Rattle.wc_state.specs.declared.record.ProcessKind.{ProcessKind}
use Rattle.wc_state.specs.declared.record.ProcessKind.TheVariants as kind
use Rattle.wc_state.specs.declared.record.ProcessRecord.{ProcessRecord}
use Rattle.wc_world.specs.Consistent.{Stands}
use Rattle.wc_world.specs.Fits.{is_of_kind, part_fits, calls_from, counted_calls, has_output}
use Rattle.wc_world.specs.Records.{has_ended, library_at}
use Rattle.wc_world.specs.Trees.{environment_at, context_of, inputs_of, items_of}
use Rattle.wc_world.specs.World.{World, Known}
use Rattle.wc_world.specs.declared.change.Change.{Change}
use Rattle.wc_world.proofs.FoundRecords.{found_holds}
use Rattle.wc_world.proofs.RecordedEnvironments.{no_context}
use Rattle.wc_world.specs.Applied.{applied}
use Rattle.wc_machine.specs.declared.answer.TaskAnswer.TheVariants as answer
use Rattle.wc_machine.specs.Advances as machine
use Rattle.wc_machine.specs.Advances.{advance, goes, loops, submits, ends}
use Rattle.wc_machine.specs.Calls.{caching_of, caching_in, bound, fuel_of, advanced}
use Rattle.wc_machine.specs.Recorded.{its_definition}
use Rattle.wc_machine.specs.Tasks.{saturated}
use Rattle.wc_machine.specs.Turns.{TurnGives, StandsAt, advances, binds}
use Rattle.wc_changes.specs.Advanced.{Advanced}
use Rattle.wc_changes.specs.Agreement.{Agree}
use Rattle.wc_changes.specs.Environments.{environment_in}
use Rattle.wc_changes.specs.Places.{chain_of}
use Rattle.wc_changes.specs.Reads.{next_mentions, IsRead}
use Rattle.wc_changes.specs.Shown.{shown}
use Rattle.wc_machine.specs.Refusals.{FullOf, HasRoom, NoneHolds}
use Rattle.wc_machine.specs.declared.error.TurnError.{TurnError}
use Rattle.wc_machine.specs.declared.error.TurnError.TheVariants as error
use Rattle.wc_machine.proofs.Rooms.{none_full}
use Rattle.wc_changes.specs.TurnLaws.{OneListOfChanges}
use Rattle.wc_changes.specs.declared.children.Caller.{Caller}
use Rattle.wc_changes.specs.Known.{known_at}
use Rattle.wc_changes.specs.Advances.{is_now, comes_to, CallsFew}
use Rattle.wc_chain_turns.specs.Turned.{Gives, HasChain, HasCheckpoint}
use Rattle.wc_chain_turns.proofs.Shown.{comes_shown}
use Rattle.wc_chain_turns.proofs.Kept.{KeepsCount, advance_keeps}
use Rattle.wc_chain_turns.proofs.Few.{few_calls}
use Rattle.wc_chain_turns.proofs.ReadItems.{Items, kept, items_kept, found_kept, agree_on}

-- ---- libraries

library_is : (libraries : List Known) (n : ℕ) → library_at libraries n ≡ option_map (λ (k : Known). k.0) (known_at libraries n)
library_is libraries zero = refl
library_is libraries (suc n) = refl

caching_is : (libraries : List Known) (n : ℕ) → caching_in libraries n ≡ caching_of (known_at libraries n)
caching_is libraries zero = refl
caching_is libraries (suc n) = refl

-- ---- answers

pub if_ok : {A E : Type 0} (P Q : A → Type 0) (result : Result A E) → ((x : A) → P x → Q x) → IfOk result P → IfOk result Q
if_ok P Q (Ok x) so h = so x h
if_ok P Q (Err e) so h = h

pub if_err : {A E : Type 0} (P Q : E → Type 0) (result : Result A E) → ((e : E) → P e → Q e) → IfErr result P → IfErr result Q
if_err P Q (Ok x) so h = h
if_err P Q (Err e) so h = so e h

-- what is refused of some changes is refused of those that hold of them
pub full_as : (P Q : List Change → Type 0) (most : ℕ) (w : World) → ((cs : List Change) → P cs → Q cs) → (e : TurnError) → FullOf P most w e → FullOf Q most w e
full_as P Q most w so error.NotReady h = h
full_as P Q most w so (error.Full what count limit) h = (h.0, so h.0 h.1, h.2)
full_as P Q most w so error.UnknownProcess h = h
full_as P Q most w so (error.Ended s) h = h
full_as P Q most w so error.UnknownName h = h
full_as P Q most w so (error.BadInputs port) h = h
full_as P Q most w so error.OutOfMemory h = h

-- ---- where a chain stands

pub created_stands : (p : Part) → part_fits kind.Chain state.Created p ≡ true → StandsAt state.Created p first
created_stands part.Fresh h = refl
created_stands (part.Chain c) h = absurd (cc)
created_stands (part.Job j) h = absurd (cc)
created_stands part.Over h = absurd (cc)

pub running_begun : (p : Part) → part_fits kind.Chain state.Running p ≡ true → HasCheckpoint p
running_begun part.Fresh h = absurd (cc)
running_begun (part.Chain c) h = (c, refl)
running_begun (part.Job j) h = absurd (cc)
running_begun part.Over h = absurd (cc)

pub waiting_begun : (p : Part) → part_fits kind.Chain state.Waiting p ≡ true → HasCheckpoint p
waiting_begun part.Fresh h = absurd (cc)
waiting_begun (part.Chain c) h = (c, refl)
waiting_begun (part.Job j) h = absurd (cc)
waiting_begun part.Over h = absurd (cc)

-- a chain has the context of its checkpoint
context_at : (s : ProcessState) (p : Part) (c : Checkpoint) → StandsAt s p c → c.ctx ≡ context_of p
context_at state.Created part.Fresh c h = ap (λ (x : Checkpoint). x.ctx) h
context_at state.Created (part.Chain d) c h = absurd h
context_at state.Created (part.Job j) c h = absurd h
context_at state.Created part.Over c h = absurd h
context_at state.Running part.Fresh c h = absurd h
context_at state.Running (part.Chain d) c h = ap (λ (x : Checkpoint). x.ctx) h
context_at state.Running (part.Job j) c h = absurd h
context_at state.Running part.Over c h = absurd h
context_at state.Waiting p c h = absurd h
context_at (state.Finished n) p c h = absurd h
context_at (state.Excepted e) p c h = absurd h
context_at state.Killed p c h = absurd h

-- what isn't missing is there
abbrev pub IsThere : Option Items → Type 0
IsThere o = (items : Items) × (o ≡ Some items)

is_there : (o : Option Items) → (None ≡ o → ⊥) → IsThere o
is_there None h = absurd (h refl)
is_there (Some items) h = (items, refl)

-- a chain has as many calls as its checkpoint counts
counted_at : (s : ProcessState) (p : Part) (c : Checkpoint) → StandsAt s p c → counted_calls p ≡ c.calls
counted_at state.Created part.Fresh c h = sym (ap (λ (x : Checkpoint). x.calls) h)
counted_at state.Created (part.Chain d) c h = absurd h
counted_at state.Created (part.Job j) c h = absurd h
counted_at state.Created part.Over c h = absurd h
counted_at state.Running part.Fresh c h = absurd h
counted_at state.Running (part.Chain d) c h = sym (ap (λ (x : Checkpoint). x.calls) h)
counted_at state.Running (part.Job j) c h = absurd h
counted_at state.Running part.Over c h = absurd h
counted_at state.Waiting p c h = absurd h
counted_at (state.Finished n) p c h = absurd h
counted_at (state.Excepted e) p c h = absurd h
counted_at state.Killed p c h = absurd h

lives_at : (s : ProcessState) (p : Part) (c : Checkpoint) → StandsAt s p c → has_ended s ≡ false
lives_at state.Created p c h = refl
lives_at state.Running p c h = refl
lives_at state.Waiting p c h = absurd h
lives_at (state.Finished n) p c h = absurd h
lives_at (state.Excepted e) p c h = absurd h
lives_at state.Killed p c h = absurd h

-- ---- definitions

abbrev IsChain : Option Definition → Type 0
IsChain o = (k : Chain) × (o ≡ Some (definition.Chain k))

is_chain : (o : Option Definition) → is_of_kind kind.Chain o ≡ true → IsChain o
is_chain None h = absurd (cc)
is_chain (Some (definition.Function f)) h = absurd (cc)
is_chain (Some (definition.Job j)) h = absurd (cc)
is_chain (Some (definition.Chain k)) h = (k, refl)

-- ---- what an advance answers

few_after : (n : ℕ) (x : machine.Advanced) → KeepsCount n x → n ≤ 8000001 → CallsFew (shown x)
few_after n (goes d) h few = tt
few_after n (loops d) h few = tt
few_after n (submits d calls) h few = let same : d.calls ≡ n = h in omega arith
few_after n (ends s outputs) h few = tt

module _ (w : World) (r : ProcessRecord) (h : HasChain w r) where
  pub stands : Stands w r
  stands = found_holds (Stands w) r.node w.records r h.consistent.records h.found

  pub depth_low : r.depth ≤ 16
  depth_low = stands.not_above

  pub part_is : part_fits kind.Chain r.state r.part ≡ true
  part_is = ap (λ (k : ProcessKind). part_fits k r.state r.part) (sym h.chain) ∙ stands.part

  pub stands_first : (x : Checkpoint) → r.state ≡ state.Created → x ≡ first → StandsAt r.state r.part x
  stands_first x created is =
      let fits : part_fits kind.Chain state.Created r.part ≡ true = ap (λ (s : ProcessState). part_fits kind.Chain s r.part) (sym created) ∙ part_is in
      subst (λ (s : ProcessState). StandsAt s r.part x) (sym created) (subst (StandsAt state.Created r.part) (sym is) (created_stands r.part fits))

  pub begun_running : r.state ≡ state.Running → HasCheckpoint r.part
  begun_running runs = running_begun r.part (ap (λ (s : ProcessState). part_fits kind.Chain s r.part) (sym runs) ∙ part_is)

  pub begun_waiting : r.state ≡ state.Waiting → HasCheckpoint r.part
  begun_waiting waits = waiting_begun r.part (ap (λ (s : ProcessState). part_fits kind.Chain s r.part) (sym waits) ∙ part_is)

  -- what has changes with room isn't refused, since it has no others
  pub none_after : OneListOfChanges → (most : ℕ) (result : Result (List Change) TurnError) → IfOk result (Gives w r) → IfOk result (λ cs. HasRoom most (applied w cs))
      → OnOk result ((poll now : ℕ) → NoneHolds (FullOf (TurnGives poll now w r answer.Nothing) most w))
  none_after one most (Ok cs) gives room = λ poll now.
      none_full (TurnGives poll now w r answer.Nothing) most w cs (λ ds t. one poll now w r answer.Nothing ds cs h.consistent h.found t (gives poll now)) room
  none_after one most (Err e) gives room = tt

  pub runs_chain : IsChain (its_definition w r)
  runs_chain = is_chain (its_definition w r) (ap (λ (k : ProcessKind). is_of_kind k (its_definition w r)) (sym h.chain) ∙ stands.defined)

  pub is_known : known_at w.libraries r.library ≡ None → ⊥
  is_known none =
      let is : its_definition w r ≡ None = ap (option_and_then (definition_named r.definition)) (library_is w.libraries r.library ∙ ap (option_map (λ (k : Known). k.0)) none) in
      let some : its_definition w r ≡ Some (definition.Chain runs_chain.0) = runs_chain.1 in
      absurd (cc)

  module _ (l : Known) (known : known_at w.libraries r.library ≡ Some l) where
    pub library_there : library_at w.libraries r.library ≡ Some l.0
    library_there = library_is w.libraries r.library ∙ ap (option_map (λ (k : Known). k.0)) known

    pub caching_there : caching_in w.libraries r.library ≡ l.1
    caching_there = caching_is w.libraries r.library ∙ ap caching_of known

    pub named : definition_named r.definition l.0 ≡ Some (definition.Chain runs_chain.0)
    named = sym (ap (option_and_then (definition_named r.definition)) library_there) ∙ runs_chain.1

    pub chain_there : chain_of (definition_named r.definition l.0) ≡ Some runs_chain.0
    chain_there = ap chain_of named

    pub may_advance : IsSome (chain_of (definition_named r.definition l.0))
    may_advance = subst (λ (o : Option Chain). IsSome o) (sym chain_there) refl

    -- the environment of the chain, and what is read of it
    module _ (c : Checkpoint) (at : StandsAt r.state r.part c) where
      pub its_items : IsThere (items_of w (context_of r.part))
      its_items = is_there (items_of w (context_of r.part)) (no_context w r.node r h.consistent (sym h.found))

      abbrev with_items : Items → Env
      with_items items = record { inputs = inputs_of w r.node; ctx = items }

      abbrev pub its_environment : Env
      its_environment = with_items its_items.0

      pub environment_there : environment_at w r.node ≡ Some its_environment
      environment_there =
          ap (option_and_then (λ (p : ProcessRecord). option_map with_items (items_of w (context_of p.part)))) h.found
          ∙ ap (option_map with_items) its_items.1

      module _ (read : Pairs) (x : IsRead l.0 r.definition c read) where
        abbrev named_keys : List Mention
        named_keys = next_mentions x.chain c

        items_read : items_of w read ≡ Some (kept named_keys its_items.0)
        items_read = ap (items_of w) x.is ∙ items_kept named_keys w c.ctx its_items.0 (ap (items_of w) (context_at r.state r.part c at) ∙ its_items.1)

        read_there : environment_in w r.node read ≡ Some (with_items (kept named_keys its_items.0))
        read_there = ap (option_map with_items) items_read

        pub may_read : IsSome (environment_in w r.node read)
        may_read = subst (λ (o : Option Env). IsSome o) (sym read_there) refl

        -- an advance in the environment of what is read is one in the chain's whole environment
        pub advance_read : (env : Env) → environment_in w r.node read ≡ Some env → (a : Advanced)
            → option_map (λ k. shown (advance l.0 k r.depth env c)) (chain_of (definition_named r.definition l.0)) ≡ Some a
            → option_map (λ k. shown (advance l.0 k r.depth its_environment c)) (chain_of (definition_named r.definition l.0)) ≡ Some a
        advance_read env is a exact =
            let both : Some (with_items (kept named_keys its_items.0)) ≡ Some env = sym read_there ∙ is in
            let same : with_items (kept named_keys its_items.0) ≡ env = cc in
            let agree : Agree env its_environment named_keys
            = subst (λ (e : Env). Agree e its_environment named_keys) same
            (agree_on (with_items (kept named_keys its_items.0)) its_environment refl named_keys (λ key p. found_kept named_keys key p its_items.0)) in
            ap (option_map (λ k. shown (advance l.0 k r.depth its_environment c))) x.named
            ∙ ap (λ y. Some (shown y)) (sym (x.enough r.depth env its_environment agree))
            ∙ sym (ap (option_map (λ k. shown (advance l.0 k r.depth env c))) x.named) ∙ exact

    module _ (c : Checkpoint) (at : StandsAt r.state r.part c) (env : Env) (a : Advanced)
        (exact : option_map (λ k. shown (advance l.0 k r.depth env c)) (chain_of (definition_named r.definition l.0)) ≡ Some a) where
      its_advance : shown (advance l.0 runs_chain.0 r.depth env c) ≡ a
      its_advance =
          let both : Some (shown (advance l.0 runs_chain.0 r.depth env c)) ≡ Some a = sym (ap (option_map (λ k. shown (advance l.0 k r.depth env c))) chain_there) ∙ exact in
          cc

      few_before : c.calls ≤ 8000001
      few_before =
          let settled : (not (has_output r.node w.links) && (calls_from r.node w.links == counted_calls r.part)) ≡ true
          = ap (λ (b : Bool). b || (not (has_output r.node w.links) && (calls_from r.node w.links == counted_calls r.part))) (sym (lives_at r.state r.part c at)) ∙ stands.settled in
          let number : calls_from r.node w.links ≡ counted_calls r.part
          = eqb-true (calls_from r.node w.links) (counted_calls r.part) (and_parts (not (has_output r.node w.links)) (calls_from r.node w.links == counted_calls r.part) settled).1 in
          let same : counted_calls r.part ≡ c.calls = counted_at r.state r.part c at in
          let few : calls_from r.node w.links ≤ 8000001 = few_calls r.node w h.consistent in
          omega arith

      pub calls_few : CallsFew a
      calls_few = subst CallsFew its_advance (few_after c.calls (advance l.0 runs_chain.0 r.depth env c) (advance_keeps l.0 runs_chain.0 r.depth env c) few_before)

      pub gives_advance : environment_at w r.node ≡ Some env → (x : Caller) → x.process.now ≡ r → x.library.now ≡ l.0 → x.caching.now ≡ l.1
          → (cs : List Change) → cs ≡ comes_to x (length w.nodes + 1) a → Gives w r cs
      gives_advance here x process library caching cs is poll now =
          let k = runs_chain.0 in
          let there : library_at w.libraries x.process.now.library ≡ Some x.library.now
          = ap (λ (p : ProcessRecord). library_at w.libraries p.library) process ∙ library_there ∙ ap Some (sym library) in
          let cached : caching_in w.libraries x.process.now.library ≡ x.caching.now
          = ap (λ (p : ProcessRecord). caching_in w.libraries p.library) process ∙ caching_there ∙ sym caching in
          let runs : definition_named x.process.now.definition x.library.now ≡ Some (definition.Chain k)
          = (λ i. definition_named (process i).definition (library i)) ∙ named in
          let same : cs ≡ advanced w r k.head.outputs (advance l.0 k r.depth env c)
          = is ∙ ap (comes_to x (length w.nodes + 1)) (sym its_advance) ∙ comes_shown w x there cached k runs (advance l.0 k r.depth env c)
          ∙ ap (λ (p : ProcessRecord). advanced w p k.head.outputs (advance l.0 k r.depth env c)) process in
          subst (TurnGives poll now w r _) (sym same) (advances k l.0 c env runs_chain.1 library_there at here)

  pub gives_bound : (c : Checkpoint) → r.state ≡ state.Waiting → r.part ≡ part.Chain c
      → (cs : List Change) → cs ≡ is_now r state.Running (saturated (r.fuel + fuel_of w.records c.awaiting)) (part.Chain (bound c)) ∷ [] → Gives w r cs
  gives_bound c waits at cs is poll now = subst (TurnGives poll now w r _) (sym is) (binds runs_chain.0 c runs_chain.1 waits at)
