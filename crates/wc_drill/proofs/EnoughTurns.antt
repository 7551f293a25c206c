-- A run of the chains that were submitted to a new store is given enough turns: 17 for each.
use Rattle.std.proofs.Common.{◌≡◌, ◌≤◌, ◌+◌, ◌*◌, ℕ, Bool, false, cond, List, [], ◌∷◌, Option, Some, None, count_by, length, refl, sym, ap, subst, ◌∙◌, arith}
use Rattle.std.specs.Prelude.{All, IsSome, option_and_then, option_map}
use Rattle.std.proofs.lemmas.List.Elements.{All-head, All-tail, All-weaker}
use Rattle.std.proofs.lemmas.List.Sums.{sum_by-cons}
use Rattle.wc_io.specs.declared.pacer.Pacer as pacer
use Rattle.wc_value.specs.declared.process.JobResult.{JobResult}
use Rattle.wc_value.specs.declared.process.Request.{Request}
use Rattle.wc_value.specs.declared.process.Tree.{Tree}
use Rattle.wc_syntax.specs.declared.definition.Definition.{Definition}
use Rattle.wc_semantics.specs.Meaning.{meaning}
use Rattle.wc_semantics.specs.Rules.{Values}
use Rattle.wc_semantics.specs.Tables.{plain}
use Rattle.wc_state.specs.declared.record.ProcessRecord.{ProcessRecord}
use Rattle.wc_records.specs.Readiness.{waits_later}
use Rattle.wc_transport.specs.Obliging.{Told}
use Rattle.wc_transport.specs.declared.transport.Transport as transport
use Rattle.wc_world.specs.Accepted.{IsReached, nothing}
use Rattle.wc_world.specs.Applied.{made}
use Rattle.wc_world.specs.Consistent.{IsConsistent}
use Rattle.wc_world.specs.Records.{find_record, has_ended}
use Rattle.wc_world.specs.World.{World, empty}
use Rattle.wc_world.proofs.FoundRecords.{found_holds}
use Rattle.wc_world.proofs.ReachedLists.{unique}
use Rattle.wc_machine.specs.Agreement.{AgreesWithWorld}
use Rattle.wc_machine.specs.Paths.{cut_after, follow, kills}
use Rattle.wc_machine.specs.Recorded.{HasResult, cached, own, recorded_inputs}
use Rattle.wc_machine.specs.Rest.{GivesTree, meant}
use Rattle.wc_machine.proofs.EmptyWorld.{empty_is_sound}
use Rattle.wc_machine.proofs.Frames.{called_before, no_call_from}
use Rattle.wc_ends.specs.Costs.Cost.{Prices}
use Rattle.wc_ends.specs.Costs.Laws.{RootsMean}
use Rattle.wc_ends.specs.Costs.Left.{AllOwe, FreshOwes, PartOwes, by_request}
use Rattle.wc_ends.proofs.Costs.OneLeft.{part_one}
use Rattle.wc_ends.specs.Enough.{DirectoriesStand, HasEnough, ProcessStands}
use Rattle.wc_drill.specs.Drilled.{Submitted, turns_of}
use Rattle.wc_drill.specs.Library.{chain_name, library}
use Rattle.wc_drill.specs.Squares.{square_rows}
use Rattle.wc_drill.proofs.Keeping.{chains_sound}
use Rattle.wc_drill.proofs.NewPairs.{HasNewPairs, IsNewPair, chain_process, chains_are_new}
use Rattle.wc_drill.proofs.PairRuns.{LivesOn, pair_costs, pair_means, results, squares}

-- what is placed, as far as it is told, is nothing
abbrev pub PlacesNothing : Option (ℕ → Option Request) → Type 0
PlacesNothing = Told (λ placed. (dir : ℕ) → placed dir ≡ None)

module _ (count : ℕ) (w : World) (c : IsConsistent w) (new : HasNewPairs count w) where
  -- none has a result
  no_result : (pid : ℕ) (x : JobResult) → HasResult w pid x → ⊥
  no_result pid x (own r code files found job has got) =
      let p : IsNewPair w r = found_holds (IsNewPair w) r.node w.records r new.pairs found in
      let bare : r.code ≡ None = ap (λ (r : ProcessRecord). r.code) p.is in
      absurd (cc (bare, has))
  no_result pid x (cached r source result found job alive from has) =
      let p : IsNewPair w r = found_holds (IsNewPair w) r.node w.records r new.pairs found in
      let bare : r.cached_from ≡ None = ap (λ (r : ProcessRecord). r.cached_from) p.is in
      absurd (cc (bare, from))

  agrees : AgreesWithWorld (plain (square_rows 100)) w
  agrees = ((λ path q. refl), λ r found path s q x led there asks has. absurd (no_result s.node x has))

  plays : All (λ r. has_ended r.state ≡ false → r.paused ≡ false) w.records
  plays = All-weaker (IsNewPair w) (λ r. has_ended r.state ≡ false → r.paused ≡ false) (λ r p live. ap (λ (r : ProcessRecord). r.paused) p.is) w.records new.pairs

  stands : (placed : ℕ → Option Request) (finished : ℕ → Type 0) → ((dir : ℕ) → placed dir ≡ None) → (r : ProcessRecord) → IsNewPair w r → ProcessStands placed finished w r
  stands placed finished none r p =
      subst (ProcessStands placed finished w) (sym p.is) (λ live q asks held there. absurd (cc (none p.number, there)))

  directories : (placed : Option (ℕ → Option Request)) (finished : ℕ → Type 0) → PlacesNothing placed → DirectoriesStand placed finished w
  directories None finished h = absurd h
  directories (Some placed) finished none = (
    (λ dir some. absurd (cc (some, none dir))),
    All-weaker (IsNewPair w) (ProcessStands placed finished w) (stands placed finished none) w.records new.pairs,
  )

  -- ---- one chain

  module _ (r : ProcessRecord) (found : find_record r.node w.records ≡ Some r) (p : IsNewPair w r) where
    abbrev pair_record : ProcessRecord
    pair_record = made p.number (chain_process p.at)

    there : find_record p.number w.records ≡ Some pair_record
    there = subst (λ (x : ProcessRecord). find_record x.node w.records ≡ Some x) p.is found

    lives : LivesOn (kills w p.number)
    lives = record {
      chain = ap (option_and_then (cut_after w)) there;
      called = λ label. ap (λ (o : Option ℕ). option_and_then (λ q. option_and_then (cut_after w) (find_record q w.records)) (option_and_then (λ q. follow w.links q []) o))
          (called_before [] w.links p.number label (no_call_from p.number w.links new.no_calls));
    }

    means : (n : ℕ) × (t : Tree) × GivesTree (meant w r (by_request results) (kills w r.node) n) t
    means =
        let m = pair_means (kills w p.number) lives p.first p.second p.small p.small_too in
        subst (λ (x : ProcessRecord). (n : ℕ) × (t : Tree) × GivesTree (meant w x (by_request results) (kills w x.node) n) t) (sym p.is) (
          3,
          m.0.tree,
          (
            m.0,
            m.1,
            ap (option_map (λ (l : List Definition). meaning 15 l squares (kills w p.number) 3 chain_name (recorded_inputs w p.number))) p.library_is
                ∙ ap (λ (vs : Values). Some (meaning 15 library squares (kills w p.number) 3 chain_name vs)) p.inputs ∙ ap Some m.2,
            refl,
          ),
        )

    -- it owes 17 turns at most
    owes : (k : ℕ) × PartOwes results w r r.part k × (k ≤ 17)
    owes =
        let m = pair_costs (kills w p.number) lives p.first p.second p.small p.small_too in
        subst (λ (x : ProcessRecord). (k : ℕ) × PartOwes results w x x.part k × (k ≤ 17)) (sym p.is) (
          m.0,
          subst (λ (l : Option (List Definition)). FreshOwes results w pair_record l m.0) (sym p.library_is)
              (subst (λ (vs : Values). Prices 15 library squares (kills w p.number) chain_name vs m.0) (sym p.inputs) m.1),
          m.2,
        )

    owes_few : (n : ℕ) → PartOwes results w r r.part n → n ≤ 17
    owes_few n h = omega (arith, part_one results w r r.part n owes.0 h owes.1, owes.2)

    waits_not : waits_later r ≡ false
    waits_not = ap waits_later p.is

  -- ---- all of them

  abbrev IsThere : ProcessRecord → Type 0
  IsThere r = (find_record r.node w.records ≡ Some r) × IsNewPair w r

  all_there : All IsThere w.records
  all_there i d lt = (unique 1 w.nodes w.records c.numbered i d lt, new.pairs i d lt)

  roots_mean : RootsMean results w
  roots_mean r found live root = means r found (found_holds (IsNewPair w) r.node w.records r new.pairs found)

  owe_few : (rs : List ProcessRecord) → All IsThere rs → (n : ℕ) → AllOwe results w rs n → n ≤ 17 * length rs
  owe_few [] h n is = omega (arith, is)
  owe_few (r ∷ rs) h n (a, b, one, others, is) =
      let here = All-head IsThere r rs h in
      omega (arith, is, owes_few r here.0 here.1 a one, owe_few rs (All-tail IsThere r rs h) b others)

  none_waits : (rs : List ProcessRecord) → All IsThere rs → count_by waits_later rs ≡ 0
  none_waits [] h = refl
  none_waits (r ∷ rs) h =
      let here = All-head IsThere r rs h in
      let is : ◌≡◌ {A = ℕ} (cond (waits_later r) 1 0) 0 = ap (λ (b : Bool). cond b 1 0) (waits_not r here.0 here.1) in
      omega (arith, sum_by-cons (λ x. cond (waits_later x) 1 0) r rs, is, none_waits rs (All-tail IsThere r rs h))

  enough : (turns : ℕ) → turns ≡ turns_of count → (left : ℕ) → AllOwe results w w.records left → left + count_by waits_later w.records ≤ turns
  enough turns given left owed = omega (arith, given, owe_few w.records all_there left owed, none_waits w.records all_there, new.number)

-- The submitted world is what accepted changes made.
pub submitted_is_reached : (seed count : ℕ) (w : World) → Submitted seed count empty w → IsReached w
submitted_is_reached seed count w submitted = (chains_sound seed count empty w nothing empty_is_sound submitted).reached

-- With a transport that knows the squares, is obliging and holds nothing yet, and a steady clock, 17 turns for each chain are enough.
pub submitted_has_enough : {T P : Type 0} (h : transport.Ghosts T) (k : pacer.Ghosts P) (a : T) (p : P) (seed count turns : ℕ) (w : World) → Submitted seed count empty w → turns ≡ turns_of count
    → h.table a ≡ Some (square_rows 100) → PlacesNothing (h.placed a) → h.obliging a → IsSome (k.least p) → HasEnough h k a p w turns
submitted_has_enough h k a p seed count turns w submitted given table nothing_placed obliging steady =
    let sound = chains_sound seed count empty w nothing empty_is_sound submitted in
    let new : HasNewPairs count w = chains_are_new seed count empty w refl submitted in
    let c : IsConsistent w = sound.sound.consistent in
    record {
      sound = sound.sound;
      plays = plays count w c new;
      rows = square_rows 100;
      table = table;
      agrees = agrees count w c new;
      means = roots_mean count w c new;
      directories = directories count w c new (h.placed a) (h.finished a) nothing_placed;
      obliging = obliging;
      steady = steady;
      enough = enough count w c new turns given;
    }
