-- The processes that a kill ends, in order: each after those that it called, and none twice.
use Rattle.std.proofs.Common.{◌≡◌, ℕ, zero, suc, ◌+◌, Bool, true, false, List, [], ◌∷◌, ◌++◌, Option, Some, None, map, get_or, refl, sym, ap, subst, ◌∙◌, arith}
use Rattle.std.specs.Prelude.{◌==◌, ◌&&◌, if◌then◌else◌, flat_map}
use Rattle.std.proofs.lemmas.Bool.{eqb-true}
use Rattle.std.proofs.lemmas.List.{map-append}
use Rattle.wc_graph.specs.declared.link.Link.{Link}
use Rattle.wc_state.specs.declared.record.ProcessRecord.{ProcessRecord}
use Rattle.wc_world.specs.declared.change.Change.{Change}
use Rattle.wc_world.specs.World.{World}
use Rattle.wc_world.specs.Records.{find_record, has_called, has_ended, is_call_from}
use Rattle.wc_world.proofs.FoundRecords.{IsDeeper, call_is_deeper, left, right}
use Rattle.wc_machine.specs.Kills.{ends_killed, fuel_after, kill_below, killed}
use Rattle.wc_machine.specs.Sound.{IsSound}
use Rattle.wc_soundness.proofs.OthersOnTrack.{any_gives}
use Rattle.wc_soundness.proofs.Replaced.{one_record}
use Rattle.wc_soundness.proofs.Binding.{same_caller}

-- ---- what stands below a process

module _ (w : World) where
  -- one process called the other
  abbrev pub CallsOne : ProcessRecord → ProcessRecord → Type 0
  CallsOne y x = (find_record y.node w.records ≡ Some y) × (find_record x.node w.records ≡ Some x) × (has_called w.links y.node x.node ≡ true)

  -- from a process down to one that it called, through so many calls
  abbrev pub UnderBy : ℕ → ProcessRecord → ProcessRecord → Type 0
  UnderBy zero r x = x ≡ r
  UnderBy (suc n) r x = (y : ProcessRecord) × UnderBy n r y × CallsOne y x

  module _ (sound : IsSound w) where
    pub call_deeper : (y x : ProcessRecord) → CallsOne y x → x.depth ≡ suc y.depth
    call_deeper y x c =
        any_gives (x.depth ≡ suc y.depth) (λ l. is_call_from y.node l && (l.target == x.node)) w.links c.2
        (λ i d lt pass.
        let l : Link = get_or w.links i d in
        let target : l.target ≡ x.node = eqb-true l.target x.node (right (is_call_from y.node l) (l.target == x.node) pass) in
        let deeper : IsDeeper y (find_record l.target w.records) =
        call_is_deeper w.records l y.node y c.0 (left (is_call_from y.node l) (l.target == x.node) pass) (sound.consistent.calls i d lt) in
        let same : deeper.0 ≡ x = one_record (find_record x.node w.records) deeper.0 x (ap (λ (n : ℕ). find_record n w.records) (sym target) ∙ deeper.1) c.1 in
        ap (λ (z : ProcessRecord). z.depth) (sym same) ∙ deeper.2)

    pub under_depth : (n : ℕ) (r x : ProcessRecord) → UnderBy n r x → x.depth ≡ r.depth + n
    under_depth zero r x h = let e : x.depth ≡ r.depth = ap (λ (z : ProcessRecord). z.depth) h in omega arith
    under_depth (suc n) r x h =
        let before : h.0.depth ≡ r.depth + n = under_depth n r h.0 h.1 in
        let one : x.depth ≡ suc h.0.depth = call_deeper h.0 x h.2 in
        omega arith

    one_top : (n : ℕ) (a b x : ProcessRecord) → UnderBy n a x → UnderBy n b x → a ≡ b
    one_top zero a b x h g = sym h ∙ g
    one_top (suc n) a b x h g =
        let same : h.0.node ≡ g.0.node = same_caller w sound h.0.node g.0.node x.node h.2.2 g.2.2 in
        let one : h.0 ≡ g.0 = one_record (find_record h.0.node w.records) h.0 g.0 h.2.0 (ap (λ (m : ℕ). find_record m w.records) same ∙ g.2.0) in
        one_top n a b h.0 h.1 (subst (UnderBy n b) (sym one) g.1)

    -- what stands below two processes of one depth stands below one
    pub tops_equal : (n m : ℕ) (a b x : ProcessRecord) → a.depth ≡ b.depth → UnderBy n a x → UnderBy m b x → a ≡ b
    tops_equal n m a b x level h g =
        let one : x.depth ≡ a.depth + n = under_depth n a x h in
        let two : x.depth ≡ b.depth + m = under_depth m b x g in
        let same : m ≡ n = omega arith in
        one_top n a b x h (subst (λ (k : ℕ). UnderBy k b x) same g)

    pub under_child : (n : ℕ) (r c x : ProcessRecord) → CallsOne r c → UnderBy n c x → UnderBy (suc n) r x
    under_child zero r c x called h = (r, refl, subst (CallsOne r) (sym h) called)
    under_child (suc n) r c x called h = (h.0, under_child n r c h.0 called h.1, h.2)

  -- ---- the list

  abbrev pub fuel_then : ProcessRecord → ℕ
  fuel_then x = fuel_after 16 w (Some x)

  abbrev pub change_of : ProcessRecord → Change
  change_of x = killed x (fuel_then x)

  abbrev pub its_own : ProcessRecord → List ProcessRecord
  its_own x = if has_ended x.state then [] else x ∷ []

  abbrev pub add : Option ProcessRecord → List ProcessRecord → List ProcessRecord
  add None cs = cs
  add (Some c) cs = c ∷ cs

  -- the called processes, in order of the links
  abbrev pub kids : ℕ → List Link → List ProcessRecord
  kids pid [] = []
  kids pid (l ∷ ls) = if is_call_from pid l then add (find_record l.target w.records) (kids pid ls) else kids pid ls

  -- the processes that a kill ends, each after those that it called
  abbrev pub all_below : ℕ → ProcessRecord → List ProcessRecord
  all_below zero x = its_own x
  all_below (suc levels) x = flat_map (all_below levels) (kids x.node w.links) ++ its_own x

  nothing_there : (levels : ℕ) → kill_below levels w None ≡ []
  nothing_there zero = refl
  nothing_there (suc levels) = refl

  own_is : (x : ProcessRecord) → ends_killed w x ≡ map change_of (its_own x)
  own_is x = at (has_ended x.state)
    where
      at : (b : Bool) → (if b then [] else change_of x ∷ []) ≡ map change_of (if b then [] else x ∷ [])
      at true = refl
      at false = refl

  kids_are : (levels pid : ℕ) → ((x : ProcessRecord) → kill_below levels w (Some x) ≡ map change_of (all_below levels x)) → (ls : List Link)
      → flat_map (λ l. if is_call_from pid l then kill_below levels w (find_record l.target w.records) else []) ls ≡ map change_of (flat_map (all_below levels) (kids pid ls))
  kids_are levels pid each [] = refl
  kids_are levels pid each (l ∷ ls) = at (is_call_from pid l) (find_record l.target w.records) (kids_are levels pid each ls)
    where
      at : (b : Bool) (o : Option ProcessRecord)
          → flat_map (λ l. if is_call_from pid l then kill_below levels w (find_record l.target w.records) else []) ls ≡ map change_of (flat_map (all_below levels) (kids pid ls))
          → (if b then kill_below levels w o else []) ++ flat_map (λ l. if is_call_from pid l then kill_below levels w (find_record l.target w.records) else []) ls
          ≡ map change_of (flat_map (all_below levels) (if b then add o (kids pid ls) else kids pid ls))
      at true None rest = λ i. nothing_there levels i ++ rest i
      at true (Some c) rest = (λ i. each c i ++ rest i) ∙ sym (map-append change_of (all_below levels c) (flat_map (all_below levels) (kids pid ls)))
      at false o rest = rest

  -- the changes of a kill are those of this list
  pub changes_are : (levels : ℕ) (x : ProcessRecord) → kill_below levels w (Some x) ≡ map change_of (all_below levels x)
  changes_are zero x = own_is x
  changes_are (suc levels) x =
      (λ i. kids_are levels x.node (changes_are levels) w.links i ++ own_is x i)
      ∙ sym (map-append change_of (flat_map (all_below levels) (kids x.node w.links)) (its_own x))
