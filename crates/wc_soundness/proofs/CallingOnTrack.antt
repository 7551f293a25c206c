-- A chain that waits for the calls that it submitted is on track.
use Rattle.std.proofs.Common.{◌≡◌, ℕ, ◌+◌, ◌≤◌, Bool, true, false, List, [], ◌∷◌, ◌++◌, Option, Some, None, length, map, get_or, refl, sym, ap, subst, ◌∙◌, arith}
use Rattle.std.specs.Prelude.{◌&&◌, not, if◌then◌else◌, option_and_then}
use Rattle.std.specs.List.{list_any}
use Rattle.std.specs.Str.{bytes_eq}
use Rattle.std.proofs.lemmas.Bool.{or_left}
use Rattle.std.proofs.lemmas.List.Folds.{list_any-append, list_any_at}
use Rattle.std.proofs.lemmas.Slice.Eq.{bytes_eq-Decides}
use Rattle.wc_value.specs.declared.process.Tree.{Tree}
use Rattle.wc_syntax.specs.declared.definition.Chain.{Chain}
use Rattle.wc_syntax.specs.declared.definition.Definition.{Definition}
use Rattle.wc_graph.specs.declared.link.Link.{Link}
use Rattle.wc_semantics.specs.declared.progress.Answer.{Answer}
use Rattle.wc_semantics.specs.Tables.{Label, Path, Table, Kills}
use Rattle.wc_state.specs.Checkpoint.{first}
use Rattle.wc_state.specs.declared.record.Checkpoint.{Checkpoint}
use Rattle.wc_state.specs.declared.record.Part.TheVariants as part
use Rattle.wc_state.specs.declared.record.ProcessRecord.{ProcessRecord}
use Rattle.wc_world.specs.World.{World}
use Rattle.wc_world.specs.Records.{find_record, has_ended, is_call_from}
use Rattle.wc_world.proofs.FoundRecords.{found_holds, left, right}
use Rattle.wc_machine.specs.Agreement.{Agrees}
use Rattle.wc_machine.specs.Paths.{called_under, cut_after, follow, kills}
use Rattle.wc_machine.specs.Rest.{FitKills, GivesTree, IsOnTrack, as_call, bound_trees, has_bound, is_awaited, meant, part_rest, rest, with_stop}
use Rattle.wc_machine.specs.Steps.{Call}
use Rattle.wc_machine.proofs.EndedTrees.{call_is_called}
use Rattle.wc_turn_laws.proofs.CalledLabels.{calls_under_labels}
use Rattle.wc_soundness.proofs.Standing.{any_gives, called_there}
use Rattle.wc_soundness.proofs.Touched.{kill_kept, meant_kept, tables_narrow, within as number_within}
use Rattle.wc_soundness.proofs.Beginning.{from_meant, into_meant}
use Rattle.wc_soundness.proofs.Rests as before
use Rattle.wc_soundness.proofs.Rests.{IsSeenAt, finishes}
use Rattle.wc_soundness.proofs.SeenWorlds.{items_there, values_there}
use Rattle.wc_soundness.proofs.ChainStanding.{Standing, begins, runs, awaits_none, keys_here, outputs_data}
use Rattle.wc_soundness.proofs.Calling.{IsCalling, live, may, over_called, rest_is, rest_none, s, touched, waits}
use Rattle.wc_soundness.proofs.NewCalls.{none_before}

no_tree : (t : Tree) → GivesTree None t → ⊥
no_tree t g = absurd (cc (g.2))

-- what is called under a label stays so, where links are added
called_grown : (ls new : List Link) (pid : ℕ) (label : Label) (q : ℕ) → called_under ls pid label ≡ Some q → called_under (ls ++ new) pid label ≡ Some q
called_grown [] new pid label q h = absurd (cc h)
called_grown (l ∷ ls) new pid label q h = at (is_call_from pid l && bytes_eq l.label label) (called_grown ls new pid label q) h
  where
    at : (b : Bool) → (called_under ls pid label ≡ Some q → called_under (ls ++ new) pid label ≡ Some q)
        → (if b then Some l.target else called_under ls pid label) ≡ Some q → (if b then Some l.target else called_under (ls ++ new) pid label) ≡ Some q
    at true later e = e
    at false later e = later e

module _ (w v : World) (r : ProcessRecord) (k : Chain) (library : List Definition) (c d : Checkpoint) (calls : List Call) (on : IsCalling w v r k library c d calls) where
  abbrev now : ProcessRecord
  now = s w v r k library c d calls on

  track : IsOnTrack w r
  track = found_holds (λ x. has_ended x.state ≡ false → IsOnTrack w x) r.node w.records r on.sound.live on.found (live w v r k library c d calls on)

  -- ---- what remained before

  seen_before : r.part ≡ part.Chain c → IsSeenAt w w r k library c
  seen_before p = record {
    found = on.found;
    definition = on.definition;
    library_there = on.library_there;
    part_there = p;
    awaits = awaits_none w on.sound r on.found c on.stands;
    given = refl;
    keys = items_there w w c.ctx (keys_here w on.sound r on.found c on.stands);
    outputs = values_there w w c.outputs (outputs_data w on.sound r on.found c on.stands);
  }

  into_by : (c' : Checkpoint) → Standing r c' → c' ≡ c → (table : Table) (cuts : Kills) → cuts [] ≡ None → (stop : Option ℕ) (n : ℕ) (t : Tree) (trees : List (Label × Tree)) → bound_trees w r c' ≡ Some trees
      → GivesTree (Some (finishes w r k library (map as_call trees) table cuts stop c' n)) t → GivesTree (rest w table cuts stop n r) t
  into_by c' (begins a b) e table cuts alive stop n t trees h g =
      let none : trees ≡ [] = let z : Some [] ≡ Some trees = h in cc in
      subst (λ (x : Option Answer). GivesTree x t) (sym (ap (part_rest w table cuts stop n r) b))
      (into_meant w r k library on.definition on.library_there table cuts alive stop n t
      (subst (λ (ts : List (Label × Tree)). GivesTree (Some (finishes w r k library (map as_call ts) table cuts stop first n)) t) none g))
  into_by c' (runs x a b) e table cuts alive stop n t trees h g =
      subst (λ (x : Option Answer). GivesTree x t) (sym (before.rest_is w w r k library c (seen_before (b ∙ ap part.Chain e)) table cuts stop n trees (ap (bound_trees w r) (sym e) ∙ h)))
      (subst (λ (y : Checkpoint). GivesTree (Some (finishes w r k library (map as_call trees) table cuts stop y n)) t) e g)

  back_by : (c' : Checkpoint) → Standing r c' → c' ≡ c → (table : Table) (cuts : Kills) → cuts [] ≡ None → (n : ℕ) (t : Tree) → GivesTree (rest w table cuts None n r) t
      → (trees : List (Label × Tree)) × (bound_trees w r c' ≡ Some trees) × GivesTree (Some (finishes w r k library (map as_call trees) table cuts None c' n)) t
  back_by c' (begins a b) e table cuts alive n t g =
      ([], refl, from_meant w r k library on.definition on.library_there table cuts alive n t (subst (λ (x : Option Answer). GivesTree x t) (ap (part_rest w table cuts None n r) b) g))
  back_by c' (runs x a b) e table cuts alive n t g = by (bound_trees w r c) refl
    where
      by : (o : Option (List (Label × Tree))) → bound_trees w r c ≡ o
          → (trees : List (Label × Tree)) × (bound_trees w r c' ≡ Some trees) × GivesTree (Some (finishes w r k library (map as_call trees) table cuts None c' n)) t
      by None h = absurd (no_tree t (subst (λ (x : Option Answer). GivesTree x t) (before.rest_none w w r k library c (seen_before (b ∙ ap part.Chain e)) table cuts None n h) g))
      by (Some trees) h = (
        trees,
        ap (bound_trees w r) e ∙ h,
        subst (λ (y : Checkpoint). GivesTree (Some (finishes w r k library (map as_call trees) table cuts None y n)) t) (sym e)
            (subst (λ (x : Option Answer). GivesTree x t) (before.rest_is w w r k library c (seen_before (b ∙ ap part.Chain e)) table cuts None n trees h) g),
      )

  -- ---- kills that fit

  -- an earlier call isn't awaited
  still_bound : (label : Label) → has_bound w r label ≡ true → has_bound v now label ≡ true
  still_bound label h =
      ap (list_any (λ l. (is_call_from r.node l && bytes_eq l.label label) && not (is_awaited now.part l.target))) (touched w v r k library c d calls on).links
      ∙ list_any-append (λ l. (is_call_from r.node l && bytes_eq l.label label) && not (is_awaited now.part l.target)) w.links (touched w v r k library c d calls on).new
      ∙ or_left (list_any (λ l. (is_call_from r.node l && bytes_eq l.label label) && not (is_awaited now.part l.target)) w.links) _ among
    where
      among : list_any (λ l. (is_call_from r.node l && bytes_eq l.label label) && not (is_awaited now.part l.target)) w.links ≡ true
      among = any_gives (λ l. (is_call_from r.node l && bytes_eq l.label label) && not (is_awaited r.part l.target)) w.links h
          (λ i b lt e.
          let l : Link = get_or w.links i b in
          let both : is_call_from r.node l && bytes_eq l.label label ≡ true = left (is_call_from r.node l && bytes_eq l.label label) (not (is_awaited r.part l.target)) e in
          let called : is_call_from r.node l ≡ true = left (is_call_from r.node l) (bytes_eq l.label label) both in
          let x = called_there w v r.node on.sound (touched w v r k library c d calls on) (may w v r k library c d calls on) r on.found l.target (call_is_called w r.node i b lt called) in
          let low : l.target ≤ length w.nodes = number_within w v r.node on.sound (touched w v r k library c d calls on) (may w v r k library c d calls on) l.target x.0 x.1 in
          let free : is_awaited now.part l.target ≡ false = none_before w r l.target (length w.nodes + 1) calls (omega (arith, low)) in
          list_any_at (λ l. (is_call_from r.node l && bytes_eq l.label label) && not (is_awaited now.part l.target)) w.links i b lt (λ j. both j && not (free j)))

  -- the kills below an earlier call stay
  kills_stay : (label : Label) (path : Path) → has_bound w r label ≡ true → kills v r.node (label ∷ path) ≡ kills w r.node (label ∷ path)
  kills_stay label path h = any_gives (λ l. (is_call_from r.node l && bytes_eq l.label label) && not (is_awaited r.part l.target)) w.links h
      (λ i b lt e.
      let l : Link = get_or w.links i b in
      let both : is_call_from r.node l && bytes_eq l.label label ≡ true = left (is_call_from r.node l && bytes_eq l.label label) (not (is_awaited r.part l.target)) e in
      let called : is_call_from r.node l ≡ true = left (is_call_from r.node l) (bytes_eq l.label label) both in
      let same : l.label ≡ label = (bytes_eq-Decides l.label label).0 (right (is_call_from r.node l) (bytes_eq l.label label) both) in
      let leads : called_under w.links r.node label ≡ Some l.target = ap (called_under w.links r.node) (sym same) ∙ (calls_under_labels w on.sound r on.found i b lt called).leads in
      let still : called_under v.links r.node label ≡ Some l.target
      = ap (λ (ls : List Link). called_under ls r.node label) (touched w v r k library c d calls on).links
      ∙ called_grown w.links (touched w v r k library c d calls on).new r.node label l.target leads in
      ap (λ (o : Option ℕ). option_and_then (λ q. option_and_then (cut_after v) (find_record q v.records)) (option_and_then (λ q. follow v.links q path) o)) still
      ∙ kill_kept w v r.node on.sound (touched w v r k library c d calls on) (may w v r k library c d calls on) l.target
      (over_called w v r k library c d calls on l.target (call_is_called w r.node i b lt called)) path
      ∙ sym (ap (λ (o : Option ℕ). option_and_then (λ q. option_and_then (cut_after w) (find_record q w.records)) (option_and_then (λ q. follow w.links q path) o)) leads))

  fits : (cuts : Kills) → FitKills cuts v now → FitKills cuts w r
  fits cuts f = record {
    alive = f.alive;
    bound = λ label path b. f.bound label path (still_bound label b) ∙ kills_stay label path b;
  }

  agreed : (table : Table) → Agrees table v r.node → Agrees table w r.node
  agreed table agrees = tables_narrow w v r.node on.sound (touched w v r k library c d calls on) (may w v r k library c d calls on) r on.found table agrees

  meant_same : (table : Table) (cuts : Kills) (n : ℕ) → meant v now table cuts n ≡ meant w r table cuts n
  meant_same table cuts n = meant_kept w v r.node on.sound (touched w v r k library c d calls on) (may w v r k library c d calls on) r on.found table cuts n

  -- ---- on track

  onward : (table : Table) (cuts : Kills) → Agrees table v now.node → FitKills cuts v now → (n : ℕ) (stop : Option ℕ) (t : Tree)
      → GivesTree (rest v table cuts stop n now) t → GivesTree (meant v now table (with_stop cuts stop) (n + now.fuel)) t
  onward table cuts agrees f n stop t g = by (bound_trees w r c) refl
    where
      by : (o : Option (List (Label × Tree))) → bound_trees w r c ≡ o → GivesTree (meant v now table (with_stop cuts stop) (n + now.fuel)) t
      by None h = absurd (no_tree t (subst (λ (x : Option Answer). GivesTree x t) (rest_none w v r k library c d calls on table cuts stop n h) g))
      by (Some trees) h =
          let after : GivesTree (Some (waits w v r k library c d calls on (map as_call trees) table cuts stop n)) t
          = subst (λ (x : Option Answer). GivesTree x t) (rest_is w v r k library c d calls on table cuts stop n trees h) g in
          let here : GivesTree (rest w table cuts stop n r) t
          = into_by c on.stands refl table cuts f.alive stop n t trees h (subst (λ (x : Answer). GivesTree (Some x) t) (sym (on.exact (map as_call trees) table cuts stop n)) after) in
          subst (λ (x : Option Answer). GivesTree x t) (sym (meant_same table (with_stop cuts stop) (n + r.fuel)))
          (track.onward table cuts (agreed table agrees) (fits cuts f) n stop t here)

  comes : (table : Table) (cuts : Kills) → Agrees table v now.node → FitKills cuts v now → (n : ℕ) (t : Tree)
      → GivesTree (meant v now table cuts n) t → (m : ℕ) × GivesTree (rest v table cuts None m now) t
  comes table cuts agrees f n t g =
      let here = track.comes table cuts (agreed table agrees) (fits cuts f) n t (subst (λ (x : Option Answer). GivesTree x t) (meant_same table cuts n) g) in
      let run = back_by c on.stands refl table cuts f.alive here.0 t here.1 in
      let after : GivesTree (Some (waits w v r k library c d calls on (map as_call run.0) table cuts None here.0)) t
      = subst (λ (x : Answer). GivesTree (Some x) t) (on.exact (map as_call run.0) table cuts None here.0) run.2 in
      (here.0, subst (λ (x : Option Answer). GivesTree x t) (sym (rest_is w v r k library c d calls on table cuts None here.0 run.0 run.1)) after)

  pub waits_on_track : IsOnTrack v now
  waits_on_track = record { onward = onward; comes = comes; cut = λ table agrees running x is lt. absurd (cc running) }
