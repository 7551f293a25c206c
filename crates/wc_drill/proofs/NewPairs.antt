-- What the submissions of generated chains make: as many created processes, each of which has two numbers below 100 and has called nothing.
use Rattle.std.proofs.Common.{◌≡◌, ◌<◌, ◌+◌, ℕ, zero, suc, List, [], ◌∷◌, ◌++◌, Some, length, refl, sym, ap, subst, ◌∙◌, arith}
use Rattle.std.specs.Prelude.{All, false, get_or, option_map, slice_get}
use Rattle.std.proofs.lemmas.List.{length-append}
use Rattle.std.proofs.lemmas.List.Elements.{All-append, All-nil, All-push}
use Rattle.wc_syntax.specs.declared.definition.Definition.{Definition}
use Rattle.wc_syntax.specs.declared.definition.Definition.TheVariants as definition
use Rattle.wc_graph.specs.declared.link.Link.{Link}
use Rattle.wc_state.specs.declared.record.ProcessKind.TheVariants as kind
use Rattle.wc_state.specs.declared.record.ProcessRecord.{ProcessRecord}
use Rattle.wc_records.specs.declared.change.NewProcess.{NewProcess}
use Rattle.wc_world.specs.declared.change.Change.{Change}
use Rattle.wc_world.specs.World.{Known, World, empty}
use Rattle.wc_world.specs.Accepted.{IsReached, nothing}
use Rattle.wc_world.specs.Applied.{applied, made}
use Rattle.wc_world.specs.Consistent.{IsConsistent}
use Rattle.wc_world.specs.Records.{calls, library_at}
use Rattle.wc_world.proofs.ReachedWorlds.{reached_is_consistent}
use Rattle.wc_machine.specs.Continues.{Begins, Continues}
use Rattle.wc_machine.specs.Machine.{Event, Leads}
use Rattle.wc_machine.specs.Machine as machine
use Rattle.wc_machine.specs.Recorded.{recorded_inputs}
use Rattle.wc_machine.specs.Sound.{IsSound}
use Rattle.wc_machine.specs.Submissions.{Submits, submitted_number}
use Rattle.wc_machine.proofs.EmptyWorld.{empty_is_sound}
use Rattle.wc_machine.proofs.Frames.{NoCalls}
use Rattle.wc_machine.proofs.Submitted.{at_length, new_links, new_nodes, new_record, submission_gives, submitted_world}
use Rattle.wc_machine.proofs.SubmittedAccepted.{inputs_are}
use Rattle.wc_machine.proofs.SubmittedInputs.{inputs_gathered}
use Rattle.wc_machine.proofs.SubmittedLinks.{linked_no_calls}
use Rattle.wc_drill.specs.Draws.{first_number, second_number}
use Rattle.wc_drill.specs.Drilled.{Submitted, none, one_more, submits_chain, usual_limits}
use Rattle.wc_drill.specs.Library.{chain_inputs, chain_name, library, pair}
use Rattle.wc_drill.proofs.Given.{named}
use Rattle.wc_drill.proofs.Keeping.{chain_sound, chains_sound}

-- the process of a chain, of the library with this number
abbrev pub chain_process : ℕ → NewProcess
chain_process at = record { kind = kind.Chain; definition = chain_name; library = at; depth = 1; label = []; caching = false }

-- A created chain of the library, which nothing called, with two numbers below 100.
pub record IsNewPair (w : World) (r : ProcessRecord) : Type 0 where
  pub number : ℕ
  pub at : ℕ
  pub is : r ≡ made number (chain_process at)
  pub library_is : library_at w.libraries at ≡ Some library
  pub first : ℕ
  pub second : ℕ
  pub small : first < 100
  pub small_too : second < 100
  pub inputs : recorded_inputs w number ≡ chain_inputs first second

-- The world has as many processes, each of which is a new chain, and no call.
pub record HasNewPairs (count : ℕ) (w : World) : Type 0 where
  pub pairs : All (IsNewPair w) w.records
  pub number : length w.records ≡ count
  pub no_calls : NoCalls w.links

-- ---- one submission

-- what is said of an event that is a submission
abbrev SubmitsThen : World → Event → List Change → Type 0
SubmitsThen w (machine.submit known caching name inputs) cs = Submits w known caching name inputs cs
SubmitsThen w (machine.turn pid a now) cs = Unit {0}
SubmitsThen w (machine.pause pid) cs = Unit {0}
SubmitsThen w (machine.play pid) cs = Unit {0}
SubmitsThen w (machine.kill pid) cs = Unit {0}

led_by : (poll : ℕ) (w : World) (e : Event) (cs : List Change) → Leads poll w e cs → SubmitsThen w e cs
led_by poll w e cs (machine.submits known caching name inputs ds s) = s
led_by poll w e cs (machine.turns r a now ds found ready gives) = tt
led_by poll w e cs (machine.pauses r live) = tt
led_by poll w e cs (machine.plays r live) = tt
led_by poll w e cs (machine.kills r live) = tt

-- a library that is there stays at its place
place_kept : (ks more : List Known) (place : ℕ) (l : List Definition) → option_map (λ k. k.0) (slice_get ks place) ≡ Some l
    → option_map (λ k. k.0) (slice_get (ks ++ more) place) ≡ Some l
place_kept [] more place l h = absurd (cc)
place_kept (k ∷ ks) more zero l h = h
place_kept (k ∷ ks) more (suc place) l h = place_kept ks more place l h

library_stays : (old new : List Known) (at : ℕ) → Begins old new → library_at old at ≡ Some library → library_at new at ≡ Some library
library_stays old new zero begins h = absurd (cc)
library_stays old new (suc place) begins h = ap (λ (ks : List Known). library_at ks (suc place)) begins.1 ∙ place_kept old begins.0 place library h

module _ (w : World) (c : IsConsistent w) (a b : ℕ) (cs : List Change) (s : Submits w library [] chain_name (chain_inputs a b) cs) where
  -- the definition is that of chains
  is_pair : s.definition ≡ definition.Chain pair
  is_pair = let both : Some s.definition ≡ Some (definition.Chain pair) = sym s.is_there ∙ named in cc

  abbrev after : World
  after = submitted_world w library [] chain_name (chain_inputs a b) (definition.Chain pair)

  abbrev new : ProcessRecord
  new = new_record w library [] chain_name (chain_inputs a b) (definition.Chain pair)

  gives : applied w cs ≡ after
  gives =
      ap (applied w) s.changes ∙ submission_gives w library [] chain_name (chain_inputs a b) s.definition
      ∙ ap (λ (d : Definition). submitted_world w library [] chain_name (chain_inputs a b) d) is_pair

  new_inputs : recorded_inputs after (submitted_number w (chain_inputs a b)) ≡ chain_inputs a b
  new_inputs =
      inputs_gathered kind.Chain w.nodes (new_nodes w library [] chain_name (chain_inputs a b) (definition.Chain pair)) w.links (length w.nodes + 1)
      (submitted_number w (chain_inputs a b)) (chain_inputs a b) (omega arith) c.links.ends (inputs_are w c library [] chain_name (chain_inputs a b) (definition.Chain pair) named) s.values.ascend

  new_pair : a < 100 → b < 100 → IsNewPair after new
  new_pair small small_too = record {
    number = submitted_number w (chain_inputs a b);
    at = suc (length w.libraries);
    is = refl;
    library_is = ap (option_map (λ (k : Known). k.0)) (at_length w.libraries (library, []) []);
    first = a;
    second = b;
    small = small;
    small_too = small_too;
    inputs = new_inputs;
  }

  -- those that were there are as before
  pair_stays : (v : World) → Continues w v → (r : ProcessRecord) → recorded_inputs v r.node ≡ recorded_inputs w r.node → IsNewPair w r → IsNewPair v r
  pair_stays v on r same p = record {
    number = p.number;
    at = p.at;
    is = p.is;
    library_is = library_stays w.libraries v.libraries p.at on.libraries p.library_is;
    first = p.first;
    second = p.second;
    small = p.small;
    small_too = p.small_too;
    inputs = ap (λ (r : ProcessRecord). recorded_inputs v r.node) (sym p.is) ∙ same ∙ ap (λ (r : ProcessRecord). recorded_inputs w r.node) p.is ∙ p.inputs;
  }

  one_pair_more : (n : ℕ) → a < 100 → b < 100 → Continues w (applied w cs) → HasNewPairs n w → HasNewPairs (suc n) (applied w cs)
  one_pair_more n small small_too on h =
      let on_after : Continues w after = subst (Continues w) gives on in
      let number : length (w.records ++ new ∷ []) ≡ suc n = omega (arith, length-append w.records (new ∷ []), h.number) in
      subst (HasNewPairs (suc n)) (sym gives) (record {
        pairs = All-push (IsNewPair after) w.records new (λ i d lt. pair_stays after on_after (get_or w.records i d) (on_after.inputs i d lt) (h.pairs i d lt)) (new_pair small small_too);
        number = number;
        no_calls = All-append (λ (l : Link). calls l.link ≡ false) w.links (new_links w library [] chain_name (chain_inputs a b) (definition.Chain pair)) h.no_calls
            (linked_no_calls kind.Chain (length w.nodes + 1) (submitted_number w (chain_inputs a b)) (chain_inputs a b));
      })

-- ---- all of them

pub chains_are_new : (seed n : ℕ) (w v : World) → w ≡ empty → Submitted seed n w v → HasNewPairs n v
chains_are_new seed n w v bare (none x) = subst (HasNewPairs 0) (sym bare) (record {
  pairs = All-nil (IsNewPair empty);
  number = refl;
  no_calls = All-nil (λ (l : Link). calls l.link ≡ false);
})
chains_are_new seed n w v bare (one_more k x y z before more) =
    let b = chains_sound seed k x y (subst IsReached (sym bare) nothing) (subst IsSound (sym bare) empty_is_sound) before in
    let last = chain_sound (first_number k seed) (second_number k seed) y z b.reached b.sound more in
    subst (HasNewPairs (suc k)) (sym more.after)
    (one_pair_more y (reached_is_consistent y b.reached) (first_number k seed) (second_number k seed) more.changes
    (led_by usual_limits.poll_ms y (submits_chain (first_number k seed) (second_number k seed)) more.changes more.leads) k (omega arith) (omega arith)
    (subst (Continues y) more.after last.continues) (chains_are_new seed k x y bare before))
