-- The parts of a kill, one after another.
use Rattle.std.proofs.Common.{◌≡◌, ◌⊎◌, ⊎_elim, ℕ, zero, suc, ◌+◌, ◌-◌, ◌<◌, ◌≤◌, ◌^◌, ◌==◌, ◌&&◌, Bool, true, false, List, [], ◌∷◌, ◌++◌, drop, length, Option, Some, None, Result, Ok, Err, refl, sym, ap, ◌∙◌, arith, append_assoc}
use Rattle.std.specs.Prelude.{if◌then◌else◌, flat_map, slice_get, option_to_list, OnOk}
use Rattle.std.specs.Option.{option_map}
use Rattle.std.proofs.Math.Nat.{min-eq_left}
use Rattle.std.proofs.lemmas.Bool.{cond-false}
use Rattle.std.proofs.lemmas.List.{append-nil, drop_all}
use Rattle.wc_graph.specs.declared.link.Link.{Link}
use Rattle.wc_graph.specs.Index.{source_of}
use Rattle.wc_state.specs.declared.record.Await.{Await}
use Rattle.wc_state.specs.declared.record.JobPart.{JobPart}
use Rattle.wc_state.specs.declared.record.Part.{Part}
use Rattle.wc_state.specs.declared.record.Part.TheVariants as part
use Rattle.wc_state.specs.declared.record.ProcessRecord.{ProcessRecord}
use Rattle.wc_world.specs.declared.change.Change.{Change}
use Rattle.wc_world.specs.World.{World}
use Rattle.wc_world.specs.Records.{calls, find_record, has_ended, is_call_from}
use Rattle.wc_world.specs.Linked.{upwards, of_node, call_in}
use Rattle.wc_trees.proofs.Linking.{upwards_more}
use Rattle.wc_machine.specs.Kills.{awaited_fuel, awaits_of, ends_killed, fuel_after, kill_below}
use Rattle.wc_machine.specs.Tasks.{saturated}

-- the fuel of the process with a number after a kill
abbrev pub fuel_by : ℕ → World → ℕ → ℕ
fuel_by levels w pid = fuel_after levels w (find_record pid w.records)

-- the kill of what a link calls, if it is a call of the process
abbrev pub kill_over : ℕ → World → ℕ → Link → List Change
kill_over levels w pid l = if is_call_from pid l then kill_below levels w (find_record l.target w.records) else []

-- ---- fuel

-- the fuel of a process that awaits these, where it lives and may call
pub fuel_with : (levels : ℕ) (w : World) (r : ProcessRecord) (awaiting : List Await) → (levels ≡ 0 → ⊥) → has_ended r.state ≡ false → awaits_of r.part ≡ awaiting
    → fuel_after levels w (Some r) ≡ saturated (r.fuel + awaited_fuel (fuel_by (levels - 1) w) awaiting)
fuel_with zero w r awaiting some live are = absurd (some refl)
fuel_with (suc levels) w r awaiting some live are =
    let less : suc levels - 1 ≡ levels = omega arith in
    cond-false (has_ended r.state) r.fuel (saturated (r.fuel + awaited_fuel (fuel_by levels w) (awaits_of r.part))) live
    ∙ (λ i. saturated (r.fuel + awaited_fuel (fuel_by (sym less i) w) (are i)))

-- the fuel of a live process that awaits none
pub fuel_alone : (levels : ℕ) (w : World) (r : ProcessRecord) → (levels ≡ 0 → ⊥) → has_ended r.state ≡ false → awaits_of r.part ≡ [] → r.fuel < 2 ^ 64
    → fuel_after levels w (Some r) ≡ r.fuel
fuel_alone levels w r some live none fits =
    let alone : r.fuel + 0 ≡ r.fuel = omega arith in
    fuel_with levels w r [] some live none ∙ ap saturated alone ∙ min-eq_left (omega arith)

-- a part that is no checkpoint awaits none
pub none_awaited : (p : Part) → (p ≡ part.Fresh) ⊎ (((j : JobPart) × (p ≡ part.Job j)) ⊎ (p ≡ part.Over)) → awaits_of p ≡ []
none_awaited p is = ⊎_elim (λ e. ap awaits_of e) (λ more. ⊎_elim (λ j. ap awaits_of j.1) (λ e. ap awaits_of e) more) is

-- the sum once each awaited process was counted
pub sum_done : (levels : ℕ) (w : World) (awaiting : List Await) (i sum goal : ℕ) → length awaiting ≤ i → sum < 2 ^ 64
    → saturated (sum + awaited_fuel (fuel_by levels w) (drop i awaiting)) ≡ goal → sum ≡ goal
sum_done levels w awaiting i sum goal all fits rest =
    let none : drop i awaiting ≡ [] = drop_all i awaiting all in
    let alone : sum + 0 ≡ sum = omega arith in
    sym (min-eq_left (omega arith)) ∙ ap saturated (sym alone) ∙ ap (λ (l : List Await). saturated (sum + awaited_fuel (fuel_by levels w) l)) (sym none) ∙ rest

-- ---- calls by their places

and_false : (a b : Bool) → b ≡ false → (a && b) ≡ false
and_false true b p = p
and_false false b p = refl

same_some : (n m : ℕ) → ◌≡◌ {A = Option ℕ} (Some n) (Some m) → n ≡ m
same_some n m p = cc

-- the number of the process that a link calls, if it is a call of the process
abbrev called : ℕ → Option Link → Option ℕ
called pid o = option_map (λ l. l.target) (call_in pid o)

module _ (levels : ℕ) (w : World) (pid : ℕ) where
  abbrev below : ℕ → List Change
  below n = kill_below levels w (find_record n w.records)

  abbrev over : List Link → List Change
  over links = flat_map (kill_over levels w pid) links

  over_case : (l : Link) (ls ms : List Link) (b : Bool) → (l.source == pid) ≡ b → over ms ≡ over ls → over (if b then l ∷ ms else ms) ≡ over (l ∷ ls)
  over_case l ls ms true is rest = ap (λ (cs : List Change). kill_over levels w pid l ++ cs) rest
  over_case l ls ms false is rest =
      rest ∙ sym (ap (λ (cs : List Change). cs ++ over ls) (cond-false (is_call_from pid l) (below l.target) [] (and_false (calls l.link) (l.source == pid) is)))

  over_alone : (ls : List Link) → over (of_node source_of pid ls) ≡ over ls
  over_alone [] = refl
  over_alone (l ∷ ls) = over_case l ls (of_node source_of pid ls) (l.source == pid) refl (over_alone ls)

  -- the links that leave the process make all of its kill
  pub kills_begin : (xs links : List Link) → of_node source_of pid xs ≡ of_node source_of pid links
      → flat_map (kill_over levels w pid) xs ≡ flat_map (kill_over levels w pid) links
  kills_begin xs links same = sym (over_alone xs) ∙ ap over same ∙ over_alone links

  by_test : (b : Bool) (l : Link) (n : ℕ) → Some n ≡ option_map (λ (m : Link). m.target) (if b then Some l else None) → (if b then below l.target else []) ≡ below n
  by_test true l n h = ap below (same_some l.target n (sym h))
  by_test false l n h = absurd (cc)

  by_none : (b : Bool) (l : Link) → None ≡ option_map (λ (m : Link). m.target) (if b then Some l else None) → (if b then below l.target else []) ≡ []
  by_none true l h = absurd (cc)
  by_none false l h = refl

  taken : (o : Option Link) (rest : List Link) (n : ℕ) → Some n ≡ called pid o → over (option_to_list o ++ rest) ≡ below n ++ over rest
  taken None rest n h = absurd (cc)
  taken (Some l) rest n h = ap (λ (cs : List Change). cs ++ over rest) (by_test (is_call_from pid l) l n h)

  passed : (o : Option Link) (rest : List Link) → None ≡ called pid o → over (option_to_list o ++ rest) ≡ over rest
  passed None rest h = refl
  passed (Some l) rest h = ap (λ (cs : List Change). cs ++ over rest) (by_none (is_call_from pid l) l h)

  module _ (links : List Link) (old items : List ℕ) (p : ℕ) (is : old ≡ items ++ p ∷ []) (kept : List Change) where
    left_are : over (upwards links old []) ≡ over (option_to_list (slice_get links p) ++ upwards links items [])
    left_are = ap (λ (ps : List ℕ). over (upwards links ps [])) is ∙ ap over (upwards_more links items p [])

    -- the kill of a called process comes next
    pub kill_taken : (more : List Change) (n : ℕ) → Some n ≡ option_map (λ l. l.target) (call_in pid (slice_get links p))
        → more ≡ kept ++ kill_below levels w (find_record n w.records)
        → more ++ flat_map (kill_over levels w pid) (upwards links items []) ≡ kept ++ flat_map (kill_over levels w pid) (upwards links old [])
    kill_taken more n call put =
        ap (λ (cs : List Change). cs ++ over (upwards links items [])) put ∙ append_assoc kept (below n) (over (upwards links items []))
        ∙ ap (λ (cs : List Change). kept ++ cs) (sym (taken (slice_get links p) (upwards links items []) n call) ∙ sym left_are)

    pub kill_passed : None ≡ option_map (λ l. l.target) (call_in pid (slice_get links p))
        → kept ++ flat_map (kill_over levels w pid) (upwards links items []) ≡ kept ++ flat_map (kill_over levels w pid) (upwards links old [])
    kill_passed none = ap (λ (cs : List Change). kept ++ cs) (sym (passed (slice_get links p) (upwards links items []) none) ∙ sym left_are)

none_left : (ps : List ℕ) → length ps ≡ 0 → ps ≡ []
none_left [] h = refl
none_left (p ∷ ps) h = absurd (omega (arith, h))

all_killed : (levels : ℕ) (w : World) (r : ProcessRecord) (items : List ℕ) (start kept more : List Change) → (levels ≡ 0 → ⊥) → items ≡ []
    → kept ++ flat_map (kill_over (levels - 1) w r.node) (upwards w.links items []) ≡ start ++ flat_map (kill_over (levels - 1) w r.node) w.links
    → more ≡ kept ++ ends_killed w r → more ≡ start ++ kill_below levels w (Some r)
all_killed zero w r items start kept more some none rest put = absurd (some refl)
all_killed (suc levels) w r items start kept more some none rest put =
    let less : suc levels - 1 ≡ levels = omega arith in
    let all : kept ≡ start ++ flat_map (kill_over levels w r.node) w.links
    = sym (append-nil kept) ∙ ap (λ (ps : List ℕ). kept ++ flat_map (kill_over (suc levels - 1) w r.node) (upwards w.links ps [])) (sym none) ∙ rest
    ∙ ap (λ (n : ℕ). start ++ flat_map (kill_over n w r.node) w.links) less in
    put ∙ ap (λ (cs : List Change). cs ++ ends_killed w r) all ∙ append_assoc start (flat_map (kill_over levels w r.node) w.links) (ends_killed w r)

-- once each called process was killed, the process itself ends
pub kill_done : {A E : Type 0} (result : Result A E) (levels : ℕ) (w : World) (r : ProcessRecord) (items : List ℕ) (start kept more : List Change) → (levels ≡ 0 → ⊥) → length items ≡ 0
    → kept ++ flat_map (kill_over (levels - 1) w r.node) (upwards w.links items []) ≡ start ++ flat_map (kill_over (levels - 1) w r.node) w.links
    → OnOk result (more ≡ kept ++ ends_killed w r) → OnOk result (more ≡ start ++ kill_below levels w (Some r))
kill_done (Ok x) levels w r items start kept more some none rest put = all_killed levels w r items start kept more some (none_left items none) rest put
kill_done (Err e) levels w r items start kept more some none rest put = put
