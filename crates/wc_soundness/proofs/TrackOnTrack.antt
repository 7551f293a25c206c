-- A chain that goes on is on track.
use Rattle.std.proofs.Common.{◌≡◌, ℕ, ◌+◌, ◌-◌, ◌<◌, true, false, List, [], ◌∷◌, Option, Some, None, length, map, take, refl, sym, ap, subst, ◌∙◌, arith}
use Rattle.std.specs.Prelude.{◌==◌, ◌&&◌, not, All, option_map}
use Rattle.std.specs.List.{list_any}
use Rattle.std.specs.Str.{bytes_eq}
use Rattle.std.proofs.lemmas.List.Elements.{All-take, All-filter}
use Rattle.wc_value.specs.declared.process.ProcessState.TheVariants as state
use Rattle.wc_value.specs.declared.process.Tree.{Tree, out-Tree}
use Rattle.wc_syntax.specs.declared.definition.Chain.{Chain}
use Rattle.wc_syntax.specs.declared.definition.Definition.{Definition}
use Rattle.wc_syntax.specs.declared.definition.Definition.TheVariants as definition
use Rattle.wc_state.specs.Checkpoint.{first}
use Rattle.wc_state.specs.declared.record.Await.{Await}
use Rattle.wc_state.specs.declared.record.Checkpoint.{Checkpoint}
use Rattle.wc_state.specs.declared.record.Part.TheVariants as part
use Rattle.wc_state.specs.declared.record.ProcessRecord.{ProcessRecord}
use Rattle.wc_semantics.specs.declared.progress.Answer.{Answer}
use Rattle.wc_semantics.specs.declared.progress.Answer.TheVariants.{Gave, TooLittle, Without, Astray}
use Rattle.wc_semantics.specs.Laws.{MoreAnswer}
use Rattle.wc_semantics.specs.Meaning as meaning
use Rattle.wc_semantics.specs.Tables.{Label, Table, Kills}
use Rattle.wc_semantics.proofs.Keeps.{meaning_more}
use Rattle.wc_turn_laws.specs.Instead.{MadeCalls}
use Rattle.wc_world.specs.Records.{find_record, library_at, has_ended, is_call_from}
use Rattle.wc_world.specs.Trees.{branches, recorded_tree}
use Rattle.wc_world.specs.World.{World}
use Rattle.wc_world.proofs.FoundRecords.{found_holds}
use Rattle.wc_machine.specs.Agreement.{Agrees}
use Rattle.wc_machine.specs.Paths.{call_links, kills}
use Rattle.wc_machine.specs.Recorded.{its_definition, recorded_inputs}
use Rattle.wc_machine.specs.Rest.{with_stop, levels_of, meant, bound_calls, as_call, bound_trees, rest, part_rest, is_awaited, has_bound, FitKills, GivesTree, IsOnTrack}
use Rattle.wc_machine.specs.Sound.{IsSound}
use Rattle.wc_machine.proofs.Frames.{branches_by}
use Rattle.wc_soundness.proofs.Touched.{tables_narrow}
use Rattle.wc_turn_laws.specs.OutlineLaws.{KeepsCalls}
use Rattle.wc_soundness.proofs.Beginning.{into_meant, from_meant}
use Rattle.wc_soundness.proofs.OneSet.{went, now_runs, found_now, goes_touch, may_go, kills_same}
use Rattle.wc_soundness.proofs.Rests.{finishes, IsSeenAt, rest_is, rest_none}
use Rattle.wc_soundness.proofs.SeenWorlds.{IsThere, IsData, items_there, values_there}
use Rattle.wc_soundness.proofs.ChainStanding.{Standing, begins, runs, is_live, its_fit, awaits_none, none_awaited, outputs_data, keys_here, trees_stay}

no_tree : (t : Tree) → GivesTree None t → ⊥
no_tree t g = absurd (cc (g.2))

-- the chain, what its advance leaves, and the fuel that it took
pub record GoesOn (w : World) (r : ProcessRecord) (k : Chain) (library : List Definition) (c d : Checkpoint) (more : ℕ) : Type 0 where
  pub sound : IsSound w
  pub found : find_record r.node w.records ≡ Some r
  pub definition : its_definition w r ≡ Some (definition.Chain k)
  pub library_there : library_at w.libraries r.library ≡ Some library
  pub stands : Standing r c
  pub counts : KeepsCalls c d
  pub exact : (earlier : MadeCalls) (table : Table) (cuts : Kills) (stop : Option ℕ) (n : ℕ)
      → finishes w r k library earlier table cuts stop c (n + more) ≡ finishes w r k library earlier table cuts stop d n
  pub lower : (earlier : MadeCalls) (table : Table) (cuts : Kills) (n : ℕ) (t : Tree) → GivesTree (Some (finishes w r k library earlier table cuts None c n)) t
      → (m : ℕ) × GivesTree (Some (finishes w r k library earlier table cuts None d m)) t

module _ (w : World) (r : ProcessRecord) (k : Chain) (library : List Definition) (c d : Checkpoint) (more : ℕ) (on : GoesOn w r k library c d more)
    (fuel : ℕ) (fuel_is : fuel ≡ r.fuel + more)
    (keys : All (λ e. IsThere (went w r fuel d) w e.1) d.ctx) (values : All (λ o. IsData (went w r fuel d) w o.1) d.outputs) where
  abbrev v : World
  v = went w r fuel d

  abbrev s : ProcessRecord
  s = now_runs w r fuel d

  live : has_ended r.state ≡ false
  live = is_live r c on.stands

  track : IsOnTrack w r
  track = found_holds (λ x. has_ended x.state ≡ false → IsOnTrack w x) r.node w.records r on.sound.live on.found live

  -- ---- what is seen

  now_awaits : d.awaiting ≡ []
  now_awaits = on.counts.1 ∙ awaits_none w on.sound r on.found c on.stands

  seen_now : IsSeenAt v w s k library d
  seen_now = record {
    found = found_now w r on.found live (its_fit w on.sound r on.found) fuel d;
    definition = on.definition;
    library_there = on.library_there;
    part_there = refl;
    awaits = now_awaits;
    given = refl;
    keys = items_there v w d.ctx keys;
    outputs = values_there v w d.outputs values;
  }

  seen_before : r.part ≡ part.Chain c → IsSeenAt w w r k library c
  seen_before p = record {
    found = on.found;
    definition = on.definition;
    library_there = on.library_there;
    part_there = p;
    awaits = awaits_none w on.sound r on.found c on.stands;
    given = refl;
    keys = items_there w w c.ctx (keys_here w on.sound r on.found c on.stands);
    outputs = values_there w w c.outputs (outputs_data w on.sound r on.found c on.stands);
  }

  same_count : bound_calls d ≡ bound_calls c
  same_count = λ i. on.counts.0 i - length (on.counts.1 i)

  stay : All (λ l. is_call_from r.node l ≡ true → recorded_tree v l.target ≡ recorded_tree w l.target) w.links
  stay = trees_stay w on.sound r on.found live fuel d c on.stands

  same_trees : bound_trees v s d ≡ bound_trees w r c
  same_trees = ap (λ (n : ℕ). branches (recorded_tree v) r.node (take n (call_links w r.node))) same_count
      ∙ branches_by (recorded_tree v) (recorded_tree w) r.node (take (bound_calls c) (call_links w r.node))
      (All-take (λ l. is_call_from r.node l ≡ true → recorded_tree v l.target ≡ recorded_tree w l.target) (bound_calls c) (call_links w r.node)
      (All-filter (is_call_from r.node) (λ l. is_call_from r.node l ≡ true → recorded_tree v l.target ≡ recorded_tree w l.target) w.links stay))

  -- ---- what remained before

  into_by : (c' : Checkpoint) → Standing r c' → c' ≡ c → (table : Table) (cuts : Kills) → cuts [] ≡ None → (stop : Option ℕ) (n : ℕ) (t : Tree) (trees : List (Label × Tree)) → bound_trees w r c' ≡ Some trees
      → GivesTree (Some (finishes w r k library (map as_call trees) table cuts stop c' n)) t → GivesTree (rest w table cuts stop n r) t
  into_by c' (begins a b) e table cuts alive stop n t trees h g =
      let none : trees ≡ [] = let z : Some [] ≡ Some trees = h in cc in
      subst (λ (x : Option Answer). GivesTree x t) (sym (ap (part_rest w table cuts stop n r) b))
      (into_meant w r k library on.definition on.library_there table cuts alive stop n t
      (subst (λ (ts : List (Label × Tree)). GivesTree (Some (finishes w r k library (map as_call ts) table cuts stop first n)) t) none g))
  into_by c' (runs x a b) e table cuts alive stop n t trees h g =
      subst (λ (x : Option Answer). GivesTree x t) (sym (rest_is w w r k library c (seen_before (b ∙ ap part.Chain e)) table cuts stop n trees (ap (bound_trees w r) (sym e) ∙ h)))
      (subst (λ (y : Checkpoint). GivesTree (Some (finishes w r k library (map as_call trees) table cuts stop y n)) t) e g)

  back_by : (c' : Checkpoint) → Standing r c' → c' ≡ c → (table : Table) (cuts : Kills) → cuts [] ≡ None → (n : ℕ) (t : Tree) → GivesTree (rest w table cuts None n r) t
      → (trees : List (Label × Tree)) × (bound_trees w r c' ≡ Some trees) × GivesTree (Some (finishes w r k library (map as_call trees) table cuts None c' n)) t
  back_by c' (begins a b) e table cuts alive n t g =
      ([], refl, from_meant w r k library on.definition on.library_there table cuts alive n t (subst (λ (x : Option Answer). GivesTree x t) (ap (part_rest w table cuts None n r) b) g))
  back_by c' (runs x a b) e table cuts alive n t g = by (bound_trees w r c) refl
    where
      by : (o : Option (List (Label × Tree))) → bound_trees w r c ≡ o
          → (trees : List (Label × Tree)) × (bound_trees w r c' ≡ Some trees) × GivesTree (Some (finishes w r k library (map as_call trees) table cuts None c' n)) t
      by None h = absurd (no_tree t (subst (λ (x : Option Answer). GivesTree x t) (rest_none w w r k library c (seen_before (b ∙ ap part.Chain e)) table cuts None n h) g))
      by (Some trees) h = (
        trees,
        ap (bound_trees w r) e ∙ h,
        subst (λ (y : Checkpoint). GivesTree (Some (finishes w r k library (map as_call trees) table cuts None y n)) t) (sym e)
            (subst (λ (x : Option Answer). GivesTree x t) (rest_is w w r k library c (seen_before (b ∙ ap part.Chain e)) table cuts None n trees h) g),
      )

  -- ---- kills that fit

  none_waits : (q : ℕ) → is_awaited r.part q ≡ false
  none_waits q = none_awaited w on.sound r on.found c on.stands q

  same_bound : (label : Label) → has_bound v s label ≡ has_bound w r label
  same_bound label = λ i. list_any (λ l. (is_call_from r.node l && bytes_eq l.label label) && not ((ap (λ (xs : List Await). list_any (λ a. a.pid == l.target) xs) now_awaits ∙ sym (none_waits l.target)) i)) w.links

  fits : (cuts : Kills) → FitKills cuts v s → FitKills cuts w r
  fits cuts f = record {
    alive = f.alive;
    bound = λ label path b. f.bound label path (same_bound label ∙ b) ∙ kills_same w r on.found live (its_fit w on.sound r on.found) fuel d r.node (label ∷ path);
  }

  agreed : (table : Table) → Agrees table v r.node → Agrees table w r.node
  agreed table agrees = tables_narrow w v r.node on.sound (goes_touch w r on.found live (its_fit w on.sound r on.found) fuel d)
      (may_go w r on.found live (its_fit w on.sound r on.found) fuel d) r on.found table agrees

  -- ---- on track

  onward : (table : Table) (cuts : Kills) → Agrees table v s.node → FitKills cuts v s → (n : ℕ) (stop : Option ℕ) (t : Tree)
      → GivesTree (rest v table cuts stop n s) t → GivesTree (meant v s table (with_stop cuts stop) (n + s.fuel)) t
  onward table cuts agrees f n stop t g = by (bound_trees w r c) refl
    where
      by : (o : Option (List (Label × Tree))) → bound_trees w r c ≡ o → GivesTree (meant v s table (with_stop cuts stop) (n + s.fuel)) t
      by None h = absurd (no_tree t (subst (λ (x : Option Answer). GivesTree x t) (rest_none v w s k library d seen_now table cuts stop n (same_trees ∙ h)) g))
      by (Some trees) h =
          let after : GivesTree (Some (finishes w r k library (map as_call trees) table cuts stop d n)) t
          = subst (λ (x : Option Answer). GivesTree x t) (rest_is v w s k library d seen_now table cuts stop n trees (same_trees ∙ h)) g in
          let before : GivesTree (rest w table cuts stop (n + more) r) t
          = into_by c on.stands refl table cuts f.alive stop (n + more) t trees h
          (subst (λ (x : Answer). GivesTree (Some x) t) (sym (on.exact (map as_call trees) table cuts stop n)) after) in
          let sum : n + more + r.fuel ≡ n + fuel = omega (arith, fuel_is) in
          subst (λ (m : ℕ). GivesTree (meant w r table (with_stop cuts stop) m) t) sum
          (track.onward table cuts (agreed table agrees) (fits cuts f) (n + more) stop t before)

  comes : (table : Table) (cuts : Kills) → Agrees table v s.node → FitKills cuts v s → (n : ℕ) (t : Tree)
      → GivesTree (meant v s table cuts n) t → (m : ℕ) × GivesTree (rest v table cuts None m s) t
  comes table cuts agrees f n t g =
      let before = track.comes table cuts (agreed table agrees) (fits cuts f) n t g in
      let run = back_by c on.stands refl table cuts f.alive before.0 t before.1 in
      let after = on.lower (map as_call run.0) table cuts before.0 t run.2 in
      (after.0, subst (λ (x : Option Answer). GivesTree x t) (sym (rest_is v w s k library d seen_now table cuts None after.0 run.0 (same_trees ∙ run.1))) after.1)

  -- ---- killed now

  more_tree : (a b : Answer) → MoreAnswer more a b → (t : Tree) → GivesTree (Some a) t → GivesTree (Some b) t
  more_tree (Gave x m) b h t g =
      let one : Some (Gave x m) ≡ Some (Gave g.0 g.1) = g.2 in
      let same : x ≡ g.0 = cc in
      (x, m + more, ap (λ (z : Answer). Some z) h, ap (λ z. z.tree) same ∙ g.3)
  more_tree TooLittle b h t g = absurd (let e : Some TooLittle ≡ Some (Gave g.0 g.1) = g.2 in cc)
  more_tree (Without q) b h t g = absurd (let e : Some (Without q) ≡ Some (Gave g.0 g.1) = g.2 in cc)
  more_tree Astray b h t g = absurd (let e : Some Astray ≡ Some (Gave g.0 g.1) = g.2 in cc)

  meant_more : (table : Table) (cuts : Kills) (t : Tree) → GivesTree (meant w r table cuts r.fuel) t → GivesTree (meant w r table cuts fuel) t
  meant_more table cuts t g =
      let is : (n : ℕ) → meant w r table cuts n ≡ Some (meaning.meaning (levels_of r) library table cuts n r.definition (recorded_inputs w r.node))
      = λ n. ap (option_map (λ (l : List Definition). meaning.meaning (levels_of r) l table cuts n r.definition (recorded_inputs w r.node))) on.library_there in
      subst (λ (x : Option Answer). GivesTree x t) (sym (is fuel))
      (more_tree _ _ (meaning_more (levels_of r) library table cuts r.fuel fuel more r.definition (recorded_inputs w r.node) fuel_is) t
      (subst (λ (x : Option Answer). GivesTree x t) (is r.fuel) g))

  abbrev IsCut : Table → Checkpoint → Type 0
  IsCut table x = (calls : List (Label × Tree)) × (branches (recorded_tree v) s.node v.links ≡ Some calls)
      × ((t : Tree) × GivesTree (meant v s table (with_stop (kills v s.node) (Some x.calls)) s.fuel) t
      × ((out-Tree t).state ≡ state.Killed) × ((out-Tree t).calls ≡ calls))

  same_kills : kills v r.node ≡ kills w r.node
  same_kills = λ i path. kills_same w r on.found live (its_fit w on.sound r on.found) fuel d r.node path i

  cut_by : (c' : Checkpoint) → Standing r c' → c' ≡ c → (table : Table) → Agrees table v s.node → 0 < d.calls → IsCut table d
  cut_by c' (begins a b) e table agrees lt = absurd (let none : 0 ≡ d.calls = ap (λ (x : Checkpoint). x.calls) e ∙ sym on.counts.0 in omega (arith, lt, none))
  cut_by c' (runs x a b) e table agrees lt =
      let some : 0 < c.calls = subst (λ (n : ℕ). 0 < n) on.counts.0 lt in
      let was = track.cut table (agreed table agrees) a c (b ∙ ap part.Chain e) some in (
        was.0,
        branches_by (recorded_tree v) (recorded_tree w) r.node w.links stay ∙ was.1,
        (
          was.2.0,
          meant_more table (with_stop (kills v s.node) (Some d.calls)) was.2.0
              (subst (λ (cuts : Kills). GivesTree (meant w r table cuts r.fuel) was.2.0)
              (λ i. with_stop (sym same_kills i) (Some (sym on.counts.0 i))) was.2.1),
          was.2.2,
          was.2.3,
        ),
      )

  pub stays_on_track : IsOnTrack v s
  stays_on_track = record {
    onward = onward;
    comes = comes;
    cut = λ table agrees running x is lt.
        let same : d ≡ x = let e : part.Chain d ≡ part.Chain x = is in cc in
        subst (IsCut table) same (cut_by c on.stands refl table agrees (subst (λ (y : Checkpoint). 0 < y.calls) (sym same) lt));
  }
