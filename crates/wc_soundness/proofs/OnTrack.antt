-- A chain that has bound its children is on track.
use Rattle.std.proofs.Common.{◌≡◌, ℕ, suc, ◌+◌, ◌-◌, Bool, true, false, List, [], ◌∷◌, ◌++◌, Option, Some, None, length, map, take, drop, refl, sym, ap, subst, ◌∙◌, arith}
use Rattle.std.specs.Prelude.{All, ◌&&◌, ◌||◌, not, if◌then◌else◌, option_map, option_and_then}
use Rattle.std.specs.List.{list_any}
use Rattle.std.specs.Str.{bytes_eq}
use Rattle.std.proofs.lemmas.List.{length-map, map-append, take_all, take-append-drop}
use Rattle.std.proofs.lemmas.List.Elements.{All-filter, All-weaker, filter_passes}
use Rattle.wc_value.specs.declared.process.ProcessState.TheVariants as state
use Rattle.wc_value.specs.declared.process.Tree.{Tree, Tree-F, out-Tree, out-roll-Tree}
use Rattle.wc_syntax.specs.declared.definition.Chain.{Chain}
use Rattle.wc_syntax.specs.declared.definition.Definition.{Definition}
use Rattle.wc_syntax.specs.declared.definition.Port.{Port}
use Rattle.wc_syntax.specs.declared.outline.Instr.{Instr}
use Rattle.wc_graph.specs.declared.link.Link.{Link}
use Rattle.wc_semantics.specs.declared.progress.Answer.{Answer}
use Rattle.wc_semantics.specs.declared.progress.Answer.TheVariants.{Gave, TooLittle, Without, Astray}
use Rattle.wc_semantics.specs.declared.progress.Planned.{Planned}
use Rattle.wc_semantics.specs.declared.progress.Progress.{Progress}
use Rattle.wc_semantics.specs.declared.progress.Replayed.{Replayed}
use Rattle.wc_semantics.specs.Meaning.{around, chain_tree, ended, is_killed, its_tree, within}
use Rattle.wc_semantics.specs.Run.{Around, run}
use Rattle.wc_semantics.specs.Tables.{Label, Path, Table, Kills, under}
use Rattle.wc_semantics.proofs.Keeps.{meaning_more}
use Rattle.wc_semantics.proofs.More.{MoreCall}
use Rattle.wc_state.specs.declared.environment.Env.{Env}
use Rattle.wc_state.specs.declared.environment.Item.{Item}
use Rattle.wc_state.specs.declared.record.Await.{Await}
use Rattle.wc_state.specs.declared.record.Checkpoint.{Checkpoint}
use Rattle.wc_state.specs.declared.record.Part.{Part}
use Rattle.wc_state.specs.declared.record.Part.TheVariants as part
use Rattle.wc_state.specs.declared.record.ProcessRecord.{ProcessRecord}
use Rattle.wc_world.specs.World.{World}
use Rattle.wc_world.specs.Fits.{calls_from}
use Rattle.wc_world.specs.Records.{find_record, has_ended, is_call_from, library_at}
use Rattle.wc_world.specs.Trees.{Branch, branches, environment_at, inputs_of, items_of, context_of, recorded_tree}
use Rattle.wc_world.proofs.FoundRecords.{found_holds}
use Rattle.wc_machine.specs.Agreement.{Agrees}
use Rattle.wc_machine.specs.Calls.{bound, bound_in, fuel_of}
use Rattle.wc_machine.specs.Outlines.{blocks, left}
use Rattle.wc_machine.specs.Paths.{call_links, called_under, cut_after, kills}
use Rattle.wc_machine.specs.Rest.{FitKills, GivesTree, IsOnTrack, and_planned, as_call, awaited, bound_calls, bound_trees, chain_rest, env_alone, gone_on, levels_of, meant, part_rest, planned_of, progress_of, progress_with, rest, with_stop}
use Rattle.wc_machine.specs.Sound.{IsSound}
use Rattle.wc_machine.proofs.Frames.{branches_by}
use Rattle.wc_turn_laws.specs.Instead.{GiveOneTree}
use Rattle.wc_turn_laws.proofs.Blind.{equal_trees_end_alike}
use Rattle.wc_soundness.proofs.Touched.{called_link}
use Rattle.wc_soundness.specs.Replaced.{IsSet}
use Rattle.wc_soundness.proofs.Replaced.{after, now, found_now, narrows}
use Rattle.wc_soundness.proofs.KillChildren.{IsOver}
use Rattle.wc_soundness.proofs.OthersOnTrack.{bound_call, items_same, kills_below, kills_under, over_same}
use Rattle.wc_soundness.specs.Binding.{Waits}
use Rattle.wc_soundness.proofs.KnownChildren.{AreTaken, FitCalls, taken_all}
use Rattle.wc_soundness.proofs.KilledStanding.{IsStanding, alive, branches_append, branches_filtered, branches_many, calls_over, is_standing, its_library, many_calls, names_bound, one_level, progress_is, ready, some_awaited, standing_at}
use Rattle.wc_soundness.proofs.KillTaken.{back, bound_now, bound_run, cost, forth, killed_then, plans, waiting_run}

-- ---- answers that give one tree

one_given : (a b : Answer) (x : Replayed) (m : ℕ) → GiveOneTree a b → a ≡ Gave x m → (y : Replayed) × (b ≡ Gave y m) × (y.tree ≡ x.tree)
one_given (Gave r n) (Gave s j) x m h e =
    let same : r ≡ x = cc in
    let left : n ≡ m = cc in
    (s, ap (Gave s) (sym h.0 ∙ left), sym h.1 ∙ ap (λ (z : Replayed). z.tree) same)
one_given (Gave r n) TooLittle x m h e = absurd h
one_given (Gave r n) (Without q) x m h e = absurd h
one_given (Gave r n) Astray x m h e = absurd h
one_given TooLittle b x m h e = absurd (cc e)
one_given (Without q) b x m h e = absurd (cc e)
one_given Astray b x m h e = absurd (cc e)

pub trees_again : (ts : List (Label × Tree)) → map its_tree (map as_call ts) ≡ ts
trees_again [] = refl
trees_again (t ∷ ts) = ap (λ (l : List (Label × Tree)). t ∷ l) (trees_again ts)

-- what is called under a label is bound, where nothing is awaited
called_is_bound : (ls : List Link) (pid : ℕ) (label : Label) (c : ℕ) → called_under ls pid label ≡ Some c
    → list_any (λ l. (is_call_from pid l && bytes_eq l.label label) && not false) ls ≡ true
called_is_bound [] pid label c h = absurd (cc h)
called_is_bound (l ∷ ls) pid label c h = at (is_call_from pid l && bytes_eq l.label label) h (called_is_bound ls pid label c)
  where
    at : (b : Bool) → (if b then Some l.target else called_under ls pid label) ≡ Some c
        → (called_under ls pid label ≡ Some c → list_any (λ l. (is_call_from pid l && bytes_eq l.label label) && not false) ls ≡ true)
        → ((b && not false) || list_any (λ l. (is_call_from pid l && bytes_eq l.label label) && not false) ls) ≡ true
    at true h later = refl
    at false h later = later h

pub awaited_none : (w : World) (as' : List Await) → awaited w as' ≡ Some [] → as' ≡ []
awaited_none w [] h = refl
awaited_none w (a ∷ as') h = absurd (at (planned_of w a (find_record a.pid w.records)) (awaited w as') h)
  where
    at : (o : Option Planned) (m : Option (List Planned)) → and_planned o m ≡ Some [] → ⊥
    at None m h = cc h
    at (Some p) None h = cc h
    at (Some p) (Some ps) h = cc h

-- ---- a waiting chain whose children have ended, and its record once they are bound

module _ (w : World) (sound : IsSound w) (r : ProcessRecord) (k : Chain) (c : Checkpoint) (h : Waits w r k c)
    (batch F : ℕ) (i : IsSet w batch r state.Running) (fuel : F ≡ r.fuel + fuel_of w.records c.awaiting) where
  abbrev then_at : Part
  then_at = part.Chain (bound c)

  abbrev v : World
  v = after w batch r state.Running F then_at

  abbrev new : ProcessRecord
  new = now w batch r state.Running F then_at

  over : All (λ l. is_call_from r.node l ≡ true → IsOver w l.target) w.links
  over = calls_over w sound r k c h

  stood : IsStanding w sound r k c h
  stood = is_standing w sound r k c h

  abbrev b : ℕ
  b = bound_calls c

  abbrev e : Progress
  e = standing_at w sound r k c h stood

  abbrev links : List Link
  links = call_links w r.node

  abbrev library : List Definition
  library = (its_library w sound r k c h).0

  at_library : library_at w.libraries r.library ≡ Some library
  at_library = (its_library w sound r k c h).1

  abbrev is : List Instr
  is = left (blocks k.outline) c.frames

  abbrev ports : List Port
  ports = k.head.outputs

  abbrev level : ℕ
  level = 16 - suc r.depth

  number : length e.calls + 1 ≡ suc b
  number = let many = stood.many in omega (arith, length-map stood.trees as_call)

  module _ (table : Table) (agrees : Agrees table w r.node) (cuts : Kills) (fits : FitCalls cuts w r.node) where
    abbrev about : Around
    about = around (suc level) library table cuts

    taken : AreTaken w r about.call (drop b links) c.awaiting c.ctx e
    taken =
        taken_all w r library at_library table agrees cuts fits (suc b) (drop b links) c.awaiting c.ctx stood.items e (ready w sound r k c h) number stood.is_items refl

    more : MoreCall about.call
    more l n m j name inputs p = meaning_more level library (under l table) (under l cuts) n m j name inputs p

    some : plans taken.ks ≡ [] → ⊥
    some none = some_awaited w sound r k c h (awaited_none w c.awaiting (taken.planned ∙ ap (λ (ps : List Planned). Some ps) none))

    abbrev waiting : Option ℕ → ℕ → Answer
    waiting = waiting_run r.definition ports is about e taken.ks

    abbrev bound_then : Option ℕ → ℕ → Answer
    bound_then = bound_run r.definition ports is about e taken.ks

    rest_waits : (s : Option ℕ) (n : ℕ) → rest w table cuts s n r ≡ Some (waiting s n)
    rest_waits s n =
        ap (part_rest w table cuts s n r) h.part
        ∙ (λ j. chain_rest w table cuts s n r c (h.definition j) (taken.planned j) (progress_is w sound r k c h stood j))
        ∙ ap (option_map (λ library. gone_on s r k c (within ports s (around (levels_of r) library table cuts)) n (plans taken.ks) e)) at_library
        ∙ ap (λ (levels : ℕ). Some (gone_on s r k c (within ports s (around levels library table cuts)) n (plans taken.ks) e)) (one_level w sound r k c h)

    -- the trees of all its calls
    abbrev trees : List Branch
    trees = stood.trees ++ map its_tree taken.more

    trees_before : branches (recorded_tree w) r.node links ≡ Some trees
    trees_before =
        ap (branches (recorded_tree w) r.node) (sym (take-append-drop b links))
        ∙ branches_append (recorded_tree w) r.node (take b links) (drop b links) stood.trees (map its_tree taken.more) stood.is_trees taken.trees

    same_trees : branches (recorded_tree v) r.node links ≡ branches (recorded_tree w) r.node links
    same_trees =
        branches_by (recorded_tree v) (recorded_tree w) r.node links
        (All-weaker (λ l. is_call_from r.node l ≡ true → IsOver w l.target) (λ l. is_call_from r.node l ≡ true → recorded_tree v l.target ≡ recorded_tree w l.target)
        (λ l o called. (over_same w batch r state.Running F then_at i sound l.target (o called)).tree) links
        (All-filter (is_call_from r.node) (λ l. is_call_from r.node l ≡ true → IsOver w l.target) w.links over))

    all_trees : branches (recorded_tree v) r.node w.links ≡ Some trees
    all_trees = sym (branches_filtered (recorded_tree v) r.node w.links) ∙ same_trees ∙ trees_before

    -- what it sees then
    abbrev seen : Progress
    seen = record { env = env_alone (record { inputs = inputs_of w r.node; ctx = taken.items }); outputs = stood.values; calls = map as_call trees }

    abbrev env_with : List (List ℕ × Item) → Env
    env_with ctx = record { inputs = inputs_of w r.node; ctx = ctx }

    env_now : environment_at v r.node ≡ Some (env_with taken.items)
    env_now =
        ap (option_and_then (λ (x : ProcessRecord). option_map env_with (items_of v (context_of x.part)))) (found_now w batch r state.Running F then_at h.found)
        ∙ ap (option_map env_with) (items_same w batch r state.Running F then_at i sound r (bound_in c.ctx c.awaiting) (names_bound w sound r k c h) ∙ taken.seen)

    trees_now : bound_trees v new (bound c) ≡ Some trees
    trees_now =
        ap (branches (recorded_tree v) r.node) (take_all (bound_calls (bound c)) links (let e = many_calls w sound r k c h in omega arith))
        ∙ same_trees ∙ trees_before

    progress_now : progress_of v new (bound c) ≡ Some seen
    progress_now = λ j. progress_with (option_map env_alone (env_now j)) (stood.is_values j) (trees_now j)

    abbrev running : Option ℕ → ℕ → Answer
    running s n = ended s r.definition ports (run is (within ports s about) n seen)

    rest_runs : (s : Option ℕ) (n : ℕ) → rest v table cuts s n new ≡ Some (running s n)
    rest_runs s n =
        (λ j. chain_rest v table cuts s n new (bound c) (h.definition j) (Some []) (progress_now j))
        ∙ ap (option_map (λ library. gone_on s new k (bound c) (within ports s (around (levels_of r) library table cuts)) n [] seen)) at_library
        ∙ ap (λ (levels : ℕ). Some (gone_on s new k (bound c) (within ports s (around levels library table cuts)) n [] seen)) (one_level w sound r k c h)

    all_calls : map its_tree (bound_now taken.ks e).calls ≡ trees
    all_calls =
        ap (map its_tree) taken.calls ∙ map-append its_tree e.calls taken.more ∙ ap (λ (l : List Branch). l ++ map its_tree taken.more) (trees_again stood.trees)

    one_tree : (s : Option ℕ) (n : ℕ) → GiveOneTree (running s n) (bound_then s n)
    one_tree s n =
        equal_trees_end_alike [] is (within ports s about) n seen (bound_now taken.ks e) s r.definition ports (sym taken.env) (sym taken.outputs) (trees_again trees ∙ sym all_calls)

    same_tree : (s : Option ℕ) (n : ℕ) → GiveOneTree (bound_then s n) (running s n)
    same_tree s n =
        equal_trees_end_alike [] is (within ports s about) n (bound_now taken.ks e) seen s r.definition ports taken.env taken.outputs (all_calls ∙ sym (trees_again trees))

    -- what it gives then it gave before, with so much more fuel
    gave_before : (s : Option ℕ) (n : ℕ) (t : Tree) → GivesTree (rest v table cuts s n new) t → GivesTree (rest w table cuts s (n + cost taken.ks) r) t
    gave_before s n t g =
        let some_run : Some (running s n) ≡ Some (Gave g.0 g.1) = sym (rest_runs s n) ∙ g.2 in
        let gave : running s n ≡ Gave g.0 g.1 = cc in
        let y = one_given (running s n) (bound_then s n) g.0 g.1 (one_tree s n) gave in
        let z = forth r.definition ports is about more e taken.ks some taken.known s n y.0 (g.1, y.1) in
        (y.0, z.0, rest_waits s (n + cost taken.ks) ∙ ap (λ (x : Answer). Some x) z.1, y.2 ∙ g.3)

    -- and what it gave it gives
    gives_after : (n : ℕ) (t : Tree) → GivesTree (rest w table cuts None n r) t → (m : ℕ) × GivesTree (rest v table cuts None m new) t
    gives_after n t g =
        let some_run : Some (waiting None n) ≡ Some (Gave g.0 g.1) = sym (rest_waits None n) ∙ g.2 in
        let gave : waiting None n ≡ Gave g.0 g.1 = cc in
        let z = back r.definition ports is about more e taken.ks some taken.known n g.0 (g.1, gave) in
        let y = one_given (bound_then None z.0) (running None z.0) g.0 z.1.0 (same_tree None z.0) z.1.1 in
        (z.0, (y.0, z.1.0, rest_runs None z.0 ∙ ap (λ (x : Answer). Some x) y.1, y.2 ∙ g.3))

    -- killed once all are taken, it has their trees
    abbrev killed_tree : Replayed
    killed_tree = chain_tree r.definition state.Killed (bound_now taken.ks e)

    gave_killed : GivesTree (rest w table cuts (Some c.calls) (cost taken.ks) r) killed_tree.tree
    gave_killed =
        let as_many : length trees ≡ c.calls =
        branches_many (recorded_tree w) r.node links trees (filter_passes (is_call_from r.node) w.links) trees_before ∙ many_calls w sound r k c h in
        let z = killed_then r.definition ports is about more e taken.ks some taken.known c.calls
        (sym as_many ∙ ap (λ (l : List Branch). length l) (sym all_calls) ∙ length-map (bound_now taken.ks e).calls its_tree) in
        (killed_tree, z.0, rest_waits (Some c.calls) (cost taken.ks) ∙ ap (λ (x : Answer). Some x) z.1, refl)

    killed_state : (out-Tree killed_tree.tree).state ≡ state.Killed
    killed_state = ap (λ (g : Tree-F Tree). g.state) (out-roll-Tree (record { definition = r.definition; state = state.Killed; outputs = []; calls = map its_tree (bound_now taken.ks e).calls }))

    killed_calls : (out-Tree killed_tree.tree).calls ≡ trees
    killed_calls =
        ap (λ (g : Tree-F Tree). g.calls) (out-roll-Tree (record { definition = r.definition; state = state.Killed; outputs = []; calls = map its_tree (bound_now taken.ks e).calls })) ∙ all_calls

  -- ---- kills

  module _ (cuts : Kills) (f : FitKills cuts v new) where
    fits_calls : FitCalls cuts w r.node
    fits_calls l path x p =
        f.bound l path (called_is_bound w.links r.node l x p)
        ∙ kills_under w batch r state.Running F then_at i sound r.node l x p (called_link (IsOver w) w.links r.node l x over p) path

    fits_before : FitKills cuts w r
    fits_before = record {
      alive = f.alive;
      bound = λ label path bound. let x = bound_call w sound r h.found label bound in fits_calls label path x.0 x.1;
    }

  no_kill : kills w r.node [] ≡ None
  no_kill = ap (option_and_then (cut_after w)) h.found ∙ (λ j. if is_killed (h.state j) then Some (calls_from r.node w.links) else None)

  own : FitKills (kills w r.node) w r
  own = record { alive = no_kill; bound = λ label path bound. refl }

  kills_same : (path : Path) → kills v r.node path ≡ kills w r.node path
  kills_same [] = ap (option_and_then (cut_after v)) (found_now w batch r state.Running F then_at h.found) ∙ sym no_kill
  kills_same (label ∷ path) = kills_below w batch r state.Running F then_at i sound r.node over label path

  track : IsOnTrack w r
  track = found_holds (λ q. has_ended q.state ≡ false → IsOnTrack w q) r.node w.records r sound.live h.found (alive w sound r k c h)

  pub bound_on_track : IsOnTrack v new
  bound_on_track = record {
    onward = λ table cuts agrees f n s t g.
        let before = narrows w batch r state.Running F then_at i sound r h.found table agrees in
        let fits = fits_calls cuts f in
        let t' = taken table before cuts fits in
        let m = track.onward table cuts before (fits_before cuts f) (n + cost t'.ks) s t (gave_before table before cuts fits s n t g) in
        let costs : cost t'.ks ≡ fuel_of w.records c.awaiting = t'.costs in
        let sum : (n + cost t'.ks) + r.fuel ≡ n + F = omega arith in
        subst (λ (z : ℕ). GivesTree (meant w r table (with_stop cuts s) z) t) sum m;
    comes = λ table cuts agrees f n t g.
        let before = narrows w batch r state.Running F then_at i sound r h.found table agrees in
        let m = track.comes table cuts before (fits_before cuts f) n t g in
        gives_after table before cuts (fits_calls cuts f) m.0 t m.1;
    cut = λ table agrees running d is_d calls.
        let before = narrows w batch r state.Running F then_at i sound r h.found table agrees in
        let cuts = kills w r.node in
        let fits : FitCalls cuts w r.node = λ l path x p. refl in
        let t' = taken table before cuts fits in
        let at : bound c ≡ d = cc in
        let many : c.calls ≡ d.calls = ap (λ (y : Checkpoint). y.calls) at in
        let tree : Tree = (killed_tree table before cuts fits).tree in
        let m = track.onward table cuts before own (cost t'.ks) (Some c.calls) tree (gave_killed table before cuts fits) in
        let costs : cost t'.ks ≡ fuel_of w.records c.awaiting = t'.costs in
        let sum : cost t'.ks + r.fuel ≡ F = omega arith in (
          trees table before cuts fits,
          all_trees table before cuts fits,
          (
            tree,
            subst (λ (x : Option Answer). GivesTree x tree) (λ j. meant w r table (with_stop (λ path. sym (kills_same path) j) (Some (many j))) (sum j)) m,
            killed_state table before cuts fits,
            killed_calls table before cuts fits,
          ),
        );
  }
