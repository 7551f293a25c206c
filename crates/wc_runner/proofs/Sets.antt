-- What the changes of a turn set, and what they leave of each process.
use Rattle.std.proofs.Common.{◌≡◌, ℕ, ℤ, suc, ◌+◌, Bool, true, false, List, [], ◌∷◌, ◌++◌, map, length, Option, Some, None, refl, sym, subst}
use Rattle.std.specs.Prelude.{◌==◌, if◌then◌else◌, option_map}
use Rattle.std.specs.List.{AllByRecursion}
use Rattle.wc_value.specs.declared.process.ProcessState.{ProcessState}
use Rattle.wc_value.specs.declared.process.ProcessState.TheVariants as state
use Rattle.wc_syntax.specs.declared.definition.Port.{Port}
use Rattle.wc_graph.specs.declared.link.LinkType.{LinkType}
use Rattle.wc_semantics.specs.Rules.{Values}
use Rattle.wc_semantics.specs.declared.outcomes.Parsed.{Parsed}
use Rattle.wc_semantics.specs.Tables.{Label}
use Rattle.wc_state.specs.declared.record.Checkpoint.{Checkpoint}
use Rattle.wc_state.specs.declared.record.Part.TheVariants as part
use Rattle.wc_state.specs.declared.record.ProcessRecord.{ProcessRecord}
use Rattle.wc_records.specs.declared.change.Kept.{Kept}
use Rattle.wc_records.specs.declared.change.NewProcess.{NewProcess}
use Rattle.wc_records.specs.declared.change.SetProcess.{SetProcess}
use Rattle.wc_world.specs.declared.change.Change.{Change}
use Rattle.wc_world.specs.declared.change.Change.TheVariants as change
use Rattle.wc_world.specs.World.{World}
use Rattle.wc_world.specs.Applied.{after_change, changed, keep, made, next_number, set}
use Rattle.wc_world.specs.Records.{find_record}
use Rattle.wc_world.proofs.ReachedLists.{at_one, at_one_keeps, find_mapped}
use Rattle.wc_machine.specs.Advances.{Advanced, goes, loops, submits, ends}
use Rattle.wc_machine.specs.Calls.{Arguments, advanced, argument_links, called_number, calls_changes, call_changes, chain_set, kept_outputs, plain_data, returns}
use Rattle.wc_machine.specs.Ends as ending
use Rattle.wc_machine.specs.Ends.{creations}
use Rattle.wc_machine.specs.Machine.{Event, Leads, submit, turn, pause, play, kill, turns, pauses, plays, kills}
use Rattle.wc_machine.specs.Machine as machine
use Rattle.wc_machine.specs.Steps.{Call, node, plain}
use Rattle.wc_machine.specs.Turns.{TurnGives}

-- ---- what is set

module _ (P : SetProcess → Type 0) where
  -- a change that sets a process sets what has P
  abbrev pub Suits : Change → Type 0
  Suits (change.Library l names) = Unit {0}
  Suits (change.Data v) = Unit {0}
  Suits (change.Process n) = Unit {0}
  Suits (change.Link l) = Unit {0}
  Suits (change.Set s) = P s
  Suits (change.Count n) = Unit {0}
  Suits (change.Kept k) = Unit {0}

  abbrev pub AllSuit : List Change → Type 0
  AllSuit = AllByRecursion Suits

  both : (xs ys : List Change) → AllSuit xs → AllSuit ys → AllSuit (xs ++ ys)
  both [] ys h g = g
  both (x ∷ xs) ys h g = (h.0, both xs ys h.1 g)

  creations_suit : (next pid : ℕ) (os : Values) → AllSuit (creations next pid os)
  creations_suit next pid [] = tt
  creations_suit next pid (o ∷ os) = (tt, (tt, creations_suit (suc next) pid os))

  data_suit : (args : Arguments) → AllSuit (plain_data args)
  data_suit [] = tt
  data_suit ((port, node n) ∷ rest) = data_suit rest
  data_suit ((port, plain v) ∷ rest) = (tt, data_suit rest)

  arguments_suit : (type : LinkType) (next pid : ℕ) (args : Arguments) → AllSuit (argument_links type next pid args)
  arguments_suit type next pid [] = tt
  arguments_suit type next pid ((port, node n) ∷ rest) = (tt, arguments_suit type next pid rest)
  arguments_suit type next pid ((port, plain v) ∷ rest) = (tt, arguments_suit type (suc next) pid rest)

  module _ (w : World) (r : ProcessRecord) where
    -- the end of a calculation
    pub ends_suit : (p : Parsed) (source : Option ℕ) (code : Option ℤ) → Suits (ending.end_of r p source code) → AllSuit (ending.ends w r p source code)
    ends_suit p source code h =
        both (creations (length w.nodes + 1) r.node p.outputs) (ending.end_of r p source code ∷ []) (creations_suit (length w.nodes + 1) r.node p.outputs) (h, tt)

    call_suit : (next : ℕ) (c : Call) → AllSuit (call_changes w r next c)
    call_suit next c = both (plain_data c.args) _ (data_suit c.args) (tt, both (argument_links _ next (called_number w r next c) c.args) _ (arguments_suit _ next (called_number w r next c) c.args) (tt, tt))

    calls_suit : (next : ℕ) (cs : List Call) → AllSuit (calls_changes w r next cs)
    calls_suit next [] = tt
    calls_suit next (c ∷ cs) =
        let further : ℕ = suc (called_number w r next c) in
        both (call_changes w r next c) (calls_changes w r further cs) (call_suit next c) (calls_suit further cs)

    returns_suit : (os : List (Label × ℕ)) → AllSuit (returns w r os)
    returns_suit [] = tt
    returns_suit (o ∷ os) = (tt, returns_suit os)

    kept_suit : (s : ProcessState) (os : List (Label × ℕ)) → AllSuit (kept_outputs w r s os)
    kept_suit state.Created os = tt
    kept_suit state.Running os = tt
    kept_suit state.Waiting os = tt
    kept_suit (state.Finished n) os = returns_suit os
    kept_suit (state.Excepted reason) os = tt
    kept_suit state.Killed os = tt

    -- a chain that goes on, or ends
    pub advanced_suits : ((s : ProcessState) (fuel : ℕ) (c : Checkpoint) → Suits (chain_set w r s fuel (part.Chain c))) → ((s : ProcessState) (fuel : ℕ) → Suits (chain_set w r s fuel part.Over))
        → (ports : List Port) (x : Advanced) → AllSuit (advanced w r ports x)
    advanced_suits on over ports (goes d) = (on _ _ _, tt)
    advanced_suits on over ports (loops d) = (on _ _ _, tt)
    advanced_suits on over ports (submits d calls) = both (calls_changes w r (length w.nodes + 1) calls) _ (calls_suit (length w.nodes + 1) calls) (on _ _ _, tt)
    advanced_suits on over ports (ends s outputs) = both (kept_outputs w r s outputs) _ (kept_suit s outputs) (over _ _, tt)

-- ---- what is left of each process

-- a relation of processes that goes on, and holds of what is new, of what is set, and of what is kept
module _ (P : SetProcess → Type 0) (R : Option ProcessRecord → Option ProcessRecord → Type 0) (itself : (o : Option ProcessRecord) → R o o)
    (on : (a b c : Option ProcessRecord) → R a b → R b c → R a c) (born : (number : ℕ) (n : NewProcess) → R None (Some (made number n)))
    (sets : (b : ℕ) (s : SetProcess) → P s → (r : ProcessRecord) → R (Some r) (Some (set b s r))) (keeps : (k : Kept) (r : ProcessRecord) → R (Some r) (Some (keep k r))) where
  pushed : (m : ProcessRecord) → R None (Some m) → (pid : ℕ) (rs : List ProcessRecord) → R (find_record pid rs) (find_record pid (rs ++ m ∷ []))
  pushed m new pid [] = at (m.node == pid)
    where
      at : (b : Bool) → R None (if b then Some m else None)
      at true = new
      at false = itself None
  pushed m new pid (r ∷ rs) = at (r.node == pid) (pushed m new pid rs)
    where
      at : (b : Bool) → R (find_record pid rs) (find_record pid (rs ++ m ∷ []))
          → R (if b then Some r else find_record pid rs) (if b then Some r else find_record pid (rs ++ m ∷ []))
      at true rest = itself (Some r)
      at false rest = rest

  put : (at : ℕ) (f : ProcessRecord → ProcessRecord) → ((r : ProcessRecord) → (f r).node ≡ r.node) → ((r : ProcessRecord) → R (Some r) (Some (f r)))
      → (pid : ℕ) (rs : List ProcessRecord) → R (find_record pid rs) (find_record pid (map (at_one at f) rs))
  put at f same ok pid rs =
      subst (R (find_record pid rs)) (sym (find_mapped (at_one at f) (at_one_keeps (λ (x : ProcessRecord). x.node) f same at) pid rs)) (here (find_record pid rs))
    where
      one : (b : Bool) (r : ProcessRecord) → R (Some r) (Some (if b then f r else r))
      one true r = ok r
      one false r = itself (Some r)

      here : (o : Option ProcessRecord) → R o (option_map (at_one at f) o)
      here None = itself None
      here (Some r) = one (r.node == at) r

  change_leaves : (b : ℕ) (w : World) (c : Change) → Suits P c → (pid : ℕ) → R (find_record pid w.records) (find_record pid (after_change b w c).records)
  change_leaves b w (change.Library l names) h pid = itself (find_record pid w.records)
  change_leaves b w (change.Data v) h pid = itself (find_record pid w.records)
  change_leaves b w (change.Process n) h pid = pushed (made (next_number w) n) (born (next_number w) n) pid w.records
  change_leaves b w (change.Link l) h pid = itself (find_record pid w.records)
  change_leaves b w (change.Set s) h pid = put s.pid (set b s) (λ r. refl) (sets b s h) pid w.records
  change_leaves b w (change.Count n) h pid = itself (find_record pid w.records)
  change_leaves b w (change.Kept k) h pid = put k.pid (keep k) (λ r. refl) (keeps k) pid w.records

  pub changes_leave : (b : ℕ) (w : World) (cs : List Change) → AllSuit P cs → (pid : ℕ) → R (find_record pid w.records) (find_record pid (changed b w cs).records)
  changes_leave b w [] h pid = itself (find_record pid w.records)
  changes_leave b w (c ∷ cs) h pid =
      on (find_record pid w.records) (find_record pid (after_change b w c).records) (find_record pid (changed b (after_change b w c) cs).records)
      (change_leaves b w c h.0 pid) (changes_leave b (after_change b w c) cs h.1 pid)

-- ---- the turn of a process

-- the process with this number is found, and its turn gives these changes
abbrev pub GivesTurn : ℕ → World → Event → List Change → Type 0
GivesTurn poll w (submit library caching name inputs) cs = Unit {0}
GivesTurn poll w (turn pid a now) cs = (r : ProcessRecord) × (find_record pid w.records ≡ Some r) × TurnGives poll now w r a cs
GivesTurn poll w (pause pid) cs = Unit {0}
GivesTurn poll w (play pid) cs = Unit {0}
GivesTurn poll w (kill pid) cs = Unit {0}

pub gives_turn : (poll : ℕ) (w : World) (e : Event) (cs : List Change) → Leads poll w e cs → GivesTurn poll w e cs
gives_turn poll w e cs (machine.submits library caching name inputs ds s) = tt
gives_turn poll w e cs (turns r a now ds found ready gives) = (r, found, gives)
gives_turn poll w e cs (pauses r live) = tt
gives_turn poll w e cs (plays r live) = tt
gives_turn poll w e cs (kills r live) = tt
