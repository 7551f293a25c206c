-- A part and the whole tell the same.
use Rattle.std.proofs.Common.{◌≡◌, ℕ, Option, Some, None, refl, sym, ap, subst, ◌∙◌, ◌-◌}
use Rattle.std.specs.Prelude.{option_map}
use Rattle.wc_value.specs.declared.process.Tree.{Tree}
use Rattle.wc_state.specs.declared.record.ProcessRecord.{ProcessRecord}
use Rattle.wc_semantics.specs.Meaning.{meaning}
use Rattle.wc_semantics.specs.Tables.{Kills, Path, Table}
use Rattle.wc_semantics.specs.declared.progress.Answer.{Answer}
use Rattle.wc_world.specs.World.{World}
use Rattle.wc_world.specs.Consistent.{IsConsistent}
use Rattle.wc_world.specs.Records.{find_record}
use Rattle.wc_world.specs.Trees.{recorded_tree}
use Rattle.wc_machine.specs.Agreement.{Agrees}
use Rattle.wc_machine.specs.Paths.{call_links, follow, kills}
use Rattle.wc_machine.specs.Recorded.{recorded_inputs, recorded_outputs, recorded_request, HasResult}
use Rattle.wc_machine.specs.Rest.{GivesTree, meant}
use Rattle.wc_machine.specs.Sound.{IsMeant}
use Rattle.wc_subworlds.specs.Laws.{PartsTellTheSame}
use Rattle.wc_subworlds.specs.Parts.{IsPart, IsSameProcess, TellTheSame}
use Rattle.wc_subworlds.proofs.Parts.{its_number, kills_placed, path_process, paths_placed, stands}
use Rattle.wc_subworlds.proofs.Recorded.{calls_placed, definition_same, inputs_placed, outputs_placed, request_placed, tree_placed}

placed_from : (place : ℕ → ℕ) (o : Option ℕ) (n : ℕ) → option_map place o ≡ Some n → (m : ℕ) × (o ≡ Some m) × (place m ≡ n)
placed_from place None n h = absurd (cc h)
placed_from place (Some m) n h = (m, refl, cc h)

module _ (place : ℕ → ℕ) (u w : World) (consistent : IsConsistent u) (part : IsPart place u w) where
  -- a process and its record in the whole
  pub same_records : (r s : ProcessRecord) → find_record r.node u.records ≡ Some r → find_record (place r.node) w.records ≡ Some s → IsSameProcess u w r s
  same_records r s e f =
      let p = stands u consistent place w part r.node (r, e) in
      let h : Some p.there ≡ Some s = sym p.found ∙ f in
      let same : p.there ≡ s = cc h in
      subst (IsSameProcess u w r) same p.same

  -- ---- tables

  module _ (table : Table) (r : ProcessRecord) (e : find_record r.node u.records ≡ Some r) where
    pub agrees_whole : Agrees table u r.node → Agrees table w (place r.node)
    agrees_whole a path s q x at_end found asks has =
        let way = placed_from place (follow u.links r.node path) s.node (sym (paths_placed u consistent place w part path r.node (r, e)) ∙ at_end) in
        let p = path_process u consistent path r.node way.0 (r, e) way.1 in
        let number : p.0.node ≡ way.0 = its_number way.0 u.records p.0 p.1 in
        let itself : find_record p.0.node u.records ≡ Some p.0 = ap (λ (n : ℕ). find_record n u.records) number ∙ p.1 in
        let to : place p.0.node ≡ s.node = ap place number ∙ way.2 in
        let there : find_record (place p.0.node) w.records ≡ Some s = ap (λ (n : ℕ). find_record n w.records) to ∙ found in
        let request : recorded_request w s ≡ recorded_request u p.0 = request_placed u consistent place w part p.0 s (same_records p.0 s itself there) (p.0, itself) (sym to) in
        let stand = stands u consistent place w part p.0.node (p.0, itself) in
        a path p.0 q x (way.1 ∙ ap (λ (n : ℕ). Some n) (sym number)) itself (sym request ∙ asks)
        ((stand.results x).1 (subst (λ (n : ℕ). HasResult w n x) (sym to) has))

    pub agrees_part : Agrees table w (place r.node) → Agrees table u r.node
    agrees_part a path t q x at_end found asks has =
        let stand = stands u consistent place w part t.node (t, found) in
        let number : stand.there.node ≡ place t.node = its_number (place t.node) w.records stand.there stand.found in
        let itself : find_record stand.there.node w.records ≡ Some stand.there = ap (λ (n : ℕ). find_record n w.records) number ∙ stand.found in
        let request : recorded_request w stand.there ≡ recorded_request u t = request_placed u consistent place w part t stand.there stand.same (t, found) number in
        a path stand.there q x
        (paths_placed u consistent place w part path r.node (r, e) ∙ ap (option_map place) at_end ∙ ap (λ (n : ℕ). Some n) (sym number)) itself (request ∙ asks)
        (subst (λ (n : ℕ). HasResult w n x) (sym number) ((stand.results x).0 has))

  -- ---- meanings

  pub meant_same : (r s : ProcessRecord) (table : Table) (cuts cuts' : Kills) → IsSameProcess u w r s → recorded_inputs w s.node ≡ recorded_inputs u r.node
      → cuts' ≡ cuts → meant w s table cuts' s.fuel ≡ meant u r table cuts r.fuel
  meant_same r s table cuts cuts' same inputs k =
      λ i. option_map (λ library. meaning (16 - same.depth i) library table (k i) (same.fuel i) (same.definition i) (inputs i)) (same.library i)

  module _ (r s : ProcessRecord) (e : find_record r.node u.records ≡ Some r) (f : find_record (place r.node) w.records ≡ Some s) where
    number : s.node ≡ place r.node
    number = its_number (place r.node) w.records s f

    same : IsSameProcess u w r s
    same = same_records r s e f

    inputs : recorded_inputs w s.node ≡ recorded_inputs u r.node
    inputs = ap (recorded_inputs w) number ∙ inputs_placed u consistent place w part r.node (r, e)

    kills_at : (path : Path) → kills w s.node path ≡ kills u r.node path
    kills_at path = ap (λ (n : ℕ). kills w n path) number ∙ kills_placed u consistent place w part path r.node (r, e)

    kills_are : kills w s.node ≡ kills u r.node
    kills_are = λ i path. kills_at path i

    tree : recorded_tree w s.node ≡ recorded_tree u r.node
    tree = ap (recorded_tree w) number ∙ tree_placed u consistent place w part 16 r.node (r, e)

    means : (table : Table) → meant w s table (kills w s.node) s.fuel ≡ meant u r table (kills u r.node) r.fuel
    means table = meant_same r s table (kills u r.node) (kills w s.node) same inputs kills_are

    abbrev Means : World → ProcessRecord → Table → Type 0
    Means v x table = (t : Tree) × (recorded_tree v x.node ≡ Some t) × GivesTree (meant v x table (kills v x.node) x.fuel) t

    to_whole : IsMeant u r → IsMeant w s
    to_whole m table a =
        let given : Means u r table = m table (agrees_part table r e (subst (Agrees table w) number a)) in
        (given.0, tree ∙ given.1, subst (λ (o : Option Answer). GivesTree o given.0) (sym (means table)) given.2)

    to_part : IsMeant w s → IsMeant u r
    to_part m table a =
        let given : Means w s table = m table (subst (Agrees table w) (sym number) (agrees_whole table r e a)) in
        (given.0, sym tree ∙ given.1, subst (λ (o : Option Answer). GivesTree o given.0) (means table) given.2)

    pub tell : TellTheSame place u w r s
    tell = record {
      number = number;
      definition = definition_same u w r s same;
      inputs = inputs;
      outputs = ap (recorded_outputs w) number ∙ outputs_placed u consistent place w part r.node (r, e);
      request = request_placed u consistent place w part r s same (r, e) number;
      calls = ap (call_links w) number ∙ calls_placed u consistent place w part r.node (r, e);
      paths = λ path. ap (λ (n : ℕ). follow w.links n path) number ∙ paths_placed u consistent place w part path r.node (r, e);
      kills = kills_at;
      tree = tree;
      agrees = λ table. (λ a. subst (Agrees table w) (sym number) (agrees_whole table r e a), λ a. agrees_part table r e (subst (Agrees table w) number a));
      meant = (to_whole, to_part);
    }

pub parts_tell_the_same : PartsTellTheSame
parts_tell_the_same place u w consistent part r s e f = tell place u w consistent part r s e f
