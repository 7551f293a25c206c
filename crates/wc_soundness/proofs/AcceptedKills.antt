-- A world accepts the kill of a live process: each live process at and below it is set once.
use Rattle.std.proofs.Common.{inl, inr, ◌≡◌, ℕ, zero, suc, ◌+◌, ◌<◌, Bool, true, false, List, [], ◌∷◌, ◌++◌, Option, Some, None, map, get_or, refl, sym, ap, subst, ◌∙◌, arith}
use Rattle.std.specs.Prelude.{All, ◌==◌, ◌&&◌, not, filter, flat_map, if◌then◌else◌, slice_get}
use Rattle.std.specs.List.{AllByRecursion, IsDistinct}
use Rattle.std.proofs.lemmas.Bool.{and_from, cases_eq, eqb-false, eqb-true}
use Rattle.std.proofs.lemmas.List.Elements.{All-head, All-tail}
use Rattle.std.proofs.lemmas.Option.{slice_get-get_or}
use Rattle.wc_value.specs.declared.process.ProcessState.TheVariants as state
use Rattle.wc_graph.specs.Rules.{IsCall}
use Rattle.wc_graph.specs.declared.link.Link.{Link}
use Rattle.wc_graph.specs.declared.link.LinkType.{LinkType}
use Rattle.wc_graph.specs.declared.link.LinkType.TheVariants as link
use Rattle.wc_state.specs.declared.record.Part.TheVariants as part
use Rattle.wc_state.specs.declared.record.ProcessRecord.{ProcessRecord}
use Rattle.wc_records.specs.declared.change.SetProcess.{SetProcess}
use Rattle.wc_world.specs.World.{World}
use Rattle.wc_world.specs.Accepted.{Apply, IsAccepted, Setting, setting}
use Rattle.wc_world.specs.Applied.{after_change, begun, changed, set}
use Rattle.wc_world.specs.Consistent.{IsConsistent}
use Rattle.wc_world.specs.Fits.{is_settled, unsettled}
use Rattle.wc_world.specs.Records.{at_process, calls, find_record, has_called, has_ended, is_call_from}
use Rattle.wc_world.proofs.FoundRecords.{IsDeeper, call_is_deeper, left, right}
use Rattle.wc_world.proofs.ReachedLists.{all_at_apart, found_node}
use Rattle.wc_machine.specs.Kills.{kill_changes}
use Rattle.wc_machine.specs.Machine.{IsLive}
use Rattle.wc_machine.proofs.AcceptedEnds.{settled_all}
use Rattle.wc_machine.proofs.EndedTrees.{call_is_called}
use Rattle.wc_turn_laws.proofs.CalledLabels.{distinct, targets}
use Rattle.wc_soundness.proofs.AtOne.{found_other}
use Rattle.wc_soundness.proofs.KillOrder.{CallsOne, UnderBy, add, all_below, change_of, changes_are, fuel_then, its_own, kids}
use Rattle.wc_soundness.proofs.OthersOnTrack.{any_gives}
use Rattle.wc_soundness.proofs.Replaced.{one_record}

-- ---- lists

weaker : {A : Type 0} (P Q : A → Type 0) → ((x : A) → P x → Q x) → (xs : List A) → AllByRecursion P xs → AllByRecursion Q xs
weaker P Q f [] h = tt
weaker P Q f (x ∷ xs) h = (f x h.0, weaker P Q f xs h.1)

both : {A : Type 0} (P : A → Type 0) (xs ys : List A) → AllByRecursion P xs → AllByRecursion P ys → AllByRecursion P (xs ++ ys)
both P [] ys h g = g
both P (x ∷ xs) ys h g = (h.0, both P xs ys h.1 g)

abbrev Differs : ProcessRecord → ProcessRecord → Type 0
Differs x y = x.node ≡ y.node → ⊥

-- no process stands twice
abbrev AreApart : List ProcessRecord → Type 0
AreApart [] = Unit {0}
AreApart (x ∷ xs) = AllByRecursion (Differs x) xs × AreApart xs

apart_both : (xs ys : List ProcessRecord) → AreApart xs → AreApart ys → AllByRecursion (λ x. AllByRecursion (Differs x) ys) xs → AreApart (xs ++ ys)
apart_both [] ys h g d = g
apart_both (x ∷ xs) ys h g d = (both (Differs x) xs ys h.0 d.0, apart_both xs ys h.1 g d.1)

call_is : (t : LinkType) → calls t ≡ true → IsCall t
call_is link.InputCalc h = absurd (cc)
call_is link.InputWork h = absurd (cc)
call_is link.Create h = absurd (cc)
call_is link.Return h = absurd (cc)
call_is link.CallCalc h = tt
call_is link.CallWork h = tt

module _ (w : World) (c : IsConsistent w) where
  -- ---- what stands below a process

  same_caller : (a b pid : ℕ) → has_called w.links a pid ≡ true → has_called w.links b pid ≡ true → a ≡ b
  same_caller a b pid h g =
      any_gives (a ≡ b) (λ l. is_call_from a l && (l.target == pid)) w.links h
      (λ i d lt pass.
      any_gives (a ≡ b) (λ l. is_call_from b l && (l.target == pid)) w.links g
      (λ j e low also.
      let l : Link = get_or w.links i d in
      let m : Link = get_or w.links j e in
      let from_l : is_call_from a l ≡ true = left (is_call_from a l) (l.target == pid) pass in
      let from_m : is_call_from b m ≡ true = left (is_call_from b m) (m.target == pid) also in
      let one : l.source ≡ a = eqb-true l.source a (right (calls l.link) (l.source == a) from_l) in
      let two : m.source ≡ b = eqb-true m.source b (right (calls m.link) (m.source == b) from_m) in
      let same : l.target ≡ m.target = eqb-true l.target pid (right (is_call_from a l) (l.target == pid) pass) ∙ sym (eqb-true m.target pid (right (is_call_from b m) (m.target == pid) also)) in
      let at_l : slice_get w.links i ≡ Some l = slice_get-get_or w.links i d lt in
      let at_m : slice_get w.links j ≡ Some m = slice_get-get_or w.links j e low in
      elim (cases_eq i j) [
        | inl is ↦
            let again : Some l ≡ Some m = sym at_l ∙ ap (slice_get w.links) is ∙ at_m in
            let it : l ≡ m = cc in
            sym one ∙ ap (λ (x : Link). x.source) it ∙ two
        | inr ne ↦ absurd ((c.links.apart i j l m ne at_l at_m).callers
            (call_is l.link (left (calls l.link) (l.source == a) from_l), call_is m.link (left (calls m.link) (m.source == b) from_m), same))
      ]))

  call_deeper : (y x : ProcessRecord) → CallsOne w y x → x.depth ≡ suc y.depth
  call_deeper y x h =
      any_gives (x.depth ≡ suc y.depth) (λ l. is_call_from y.node l && (l.target == x.node)) w.links h.2
      (λ i d lt pass.
      let l : Link = get_or w.links i d in
      let target : l.target ≡ x.node = eqb-true l.target x.node (right (is_call_from y.node l) (l.target == x.node) pass) in
      let deeper : IsDeeper y (find_record l.target w.records) =
      call_is_deeper w.records l y.node y h.0 (left (is_call_from y.node l) (l.target == x.node) pass) (c.calls i d lt) in
      let same : deeper.0 ≡ x = one_record (find_record x.node w.records) deeper.0 x (ap (λ (n : ℕ). find_record n w.records) (sym target) ∙ deeper.1) h.1 in
      ap (λ (z : ProcessRecord). z.depth) (sym same) ∙ deeper.2)

  under_depth : (n : ℕ) (r x : ProcessRecord) → UnderBy w n r x → x.depth ≡ r.depth + n
  under_depth zero r x h = let e : x.depth ≡ r.depth = ap (λ (z : ProcessRecord). z.depth) h in omega arith
  under_depth (suc n) r x h =
      let before : h.0.depth ≡ r.depth + n = under_depth n r h.0 h.1 in
      let one : x.depth ≡ suc h.0.depth = call_deeper h.0 x h.2 in
      omega arith

  one_top : (n : ℕ) (a b x : ProcessRecord) → UnderBy w n a x → UnderBy w n b x → a ≡ b
  one_top zero a b x h g = sym h ∙ g
  one_top (suc n) a b x h g =
      let same : h.0.node ≡ g.0.node = same_caller h.0.node g.0.node x.node h.2.2 g.2.2 in
      let one : h.0 ≡ g.0 = one_record (find_record h.0.node w.records) h.0 g.0 h.2.0 (ap (λ (m : ℕ). find_record m w.records) same ∙ g.2.0) in
      one_top n a b h.0 h.1 (subst (UnderBy w n b) (sym one) g.1)

  -- what stands below two processes of one depth stands below one
  tops_equal : (n m : ℕ) (a b x : ProcessRecord) → a.depth ≡ b.depth → UnderBy w n a x → UnderBy w m b x → a ≡ b
  tops_equal n m a b x level h g =
      let one : x.depth ≡ a.depth + n = under_depth n a x h in
      let two : x.depth ≡ b.depth + m = under_depth m b x g in
      let same : m ≡ n = omega arith in
      one_top n a b x h (subst (λ (k : ℕ). UnderBy w k b x) same g)

  under_child : (n : ℕ) (r k x : ProcessRecord) → CallsOne w r k → UnderBy w n k x → UnderBy w (suc n) r x
  under_child zero r k x called h = (r, refl, subst (CallsOne w r) (sym h) called)
  under_child (suc n) r k x called h = (h.0, under_child n r k h.0 called h.1, h.2)

  -- ---- the called processes

  -- the process to which a call leads
  abbrev OfCall : ProcessRecord → Link → Type 0
  OfCall x l = is_call_from x.node l ≡ true → (k : ProcessRecord) × (find_record l.target w.records ≡ Some k) × (k.node ≡ l.target) × CallsOne w x k

  of_calls : (x : ProcessRecord) → find_record x.node w.records ≡ Some x → All (OfCall x) w.links
  of_calls x found = λ i d lt from.
      let l : Link = get_or w.links i d in
      let deeper : IsDeeper x (find_record l.target w.records) = call_is_deeper w.records l x.node x found from (c.calls i d lt) in
      let number : deeper.0.node ≡ l.target = found_node l.target w.records deeper.0 deeper.1 in (
        deeper.0,
        deeper.1,
        number,
        (found, ap (λ (n : ℕ). find_record n w.records) number ∙ deeper.1, ap (has_called w.links x.node) number ∙ call_is_called w x.node i d lt from),
      )

  module _ (x : ProcessRecord) where
    kids_called : (ls : List Link) → All (OfCall x) ls → AllByRecursion (CallsOne w x) (kids w x.node ls)
    kids_called [] h = tt
    kids_called (l ∷ ls) h = at (is_call_from x.node l) (All-head (OfCall x) l ls h) (kids_called ls (All-tail (OfCall x) l ls h))
      where
        at : (b : Bool) → (b ≡ true → (k : ProcessRecord) × (find_record l.target w.records ≡ Some k) × (k.node ≡ l.target) × CallsOne w x k)
            → AllByRecursion (CallsOne w x) (kids w x.node ls)
            → AllByRecursion (CallsOne w x) (if b then add w (find_record l.target w.records) (kids w x.node ls) else kids w x.node ls)
        at true one rest = let k = one refl in subst (λ (o : Option ProcessRecord). AllByRecursion (CallsOne w x) (add w o (kids w x.node ls))) (sym k.1) (k.3, rest)
        at false one rest = rest

    kids_differ : (y : ProcessRecord) (ls : List Link) → AllByRecursion (λ n. (y.node == n) ≡ false) (targets x.node ls) → All (OfCall x) ls
        → AllByRecursion (Differs y) (kids w x.node ls)
    kids_differ y [] d h = tt
    kids_differ y (l ∷ ls) d h = at (is_call_from x.node l) d (All-head (OfCall x) l ls h) (λ e. kids_differ y ls e (All-tail (OfCall x) l ls h))
      where
        at : (b : Bool) → AllByRecursion (λ n. (y.node == n) ≡ false) (map (λ l. l.target) (if b then l ∷ filter (is_call_from x.node) ls else filter (is_call_from x.node) ls))
            → (b ≡ true → (k : ProcessRecord) × (find_record l.target w.records ≡ Some k) × (k.node ≡ l.target) × CallsOne w x k)
            → (AllByRecursion (λ n. (y.node == n) ≡ false) (targets x.node ls) → AllByRecursion (Differs y) (kids w x.node ls))
            → AllByRecursion (Differs y) (if b then add w (find_record l.target w.records) (kids w x.node ls) else kids w x.node ls)
        at true d one rest =
            let k = one refl in
            subst (λ (o : Option ProcessRecord). AllByRecursion (Differs y) (add w o (kids w x.node ls))) (sym k.1)
            ((λ e. eqb-false y.node l.target d.0 (e ∙ k.2)), rest d.1)
        at false d one rest = rest d

    kids_apart : (ls : List Link) → IsDistinct (λ a b. a == b) (targets x.node ls) → All (OfCall x) ls → AreApart (kids w x.node ls)
    unfolding IsDistinct
    kids_apart [] d h = tt
    kids_apart (l ∷ ls) d h = at (is_call_from x.node l) d (All-head (OfCall x) l ls h) (λ e. kids_apart ls e (All-tail (OfCall x) l ls h))
      where
        at : (b : Bool) → IsDistinct (λ a b. a == b) (map (λ l. l.target) (if b then l ∷ filter (is_call_from x.node) ls else filter (is_call_from x.node) ls))
            → (b ≡ true → (k : ProcessRecord) × (find_record l.target w.records ≡ Some k) × (k.node ≡ l.target) × CallsOne w x k)
            → (IsDistinct (λ a b. a == b) (targets x.node ls) → AreApart (kids w x.node ls))
            → AreApart (if b then add w (find_record l.target w.records) (kids w x.node ls) else kids w x.node ls)
        at true d one rest =
            let k = one refl in
            subst (λ (o : Option ProcessRecord). AreApart (add w o (kids w x.node ls))) (sym k.1)
            (kids_differ k.0 ls (subst (λ (n : ℕ). AllByRecursion (λ m. (n == m) ≡ false) (targets x.node ls)) (sym k.2) d.0) (All-tail (OfCall x) l ls h), rest d.1)
        at false d one rest = rest d

  -- ---- the processes that are killed

  -- a live process that stands below
  abbrev IsUnder : ProcessRecord → ProcessRecord → Type 0
  IsUnder x y = (find_record y.node w.records ≡ Some y) × (has_ended y.state ≡ false) × ((n : ℕ) × UnderBy w n x y)

  abbrev IsElsewhere : ProcessRecord → ProcessRecord → Type 0
  IsElsewhere x z = (find_record z.node w.records ≡ Some z) × ((n : ℕ) → UnderBy w n x z → ⊥)

  abbrev Below : ℕ → Type 0
  Below levels = (x : ProcessRecord) → find_record x.node w.records ≡ Some x → AreApart (all_below w levels x) × AllByRecursion (IsUnder x) (all_below w levels x)

  differ_all : (x : ProcessRecord) (ys zs : List ProcessRecord) → AllByRecursion (IsUnder x) ys → AllByRecursion (IsElsewhere x) zs → AllByRecursion (λ y. AllByRecursion (Differs y) zs) ys
  differ_all x [] zs h g = tt
  differ_all x (y ∷ ys) zs h g = (
    weaker (IsElsewhere x) (Differs y)
        (λ z e same.
        let it : y ≡ z = one_record (find_record y.node w.records) y z h.0.0 (ap (λ (n : ℕ). find_record n w.records) same ∙ e.0) in
        e.1 h.0.2.0 (subst (UnderBy w h.0.2.0 x) it h.0.2.1)) zs g,
    differ_all x ys zs h.1 g,
  )

  module _ (levels : ℕ) (below : Below levels) (x : ProcessRecord) where
    elsewhere : (k : ProcessRecord) → CallsOne w x k → (es : List ProcessRecord) → AllByRecursion (CallsOne w x) es → AllByRecursion (Differs k) es
        → AllByRecursion (IsElsewhere k) (flat_map (all_below w levels) es)
    elsewhere k called [] h d = tt
    elsewhere k called (e ∷ es) h d =
        both (IsElsewhere k) (all_below w levels e) (flat_map (all_below w levels) es)
        (weaker (IsUnder e) (IsElsewhere k)
        (λ z u. (
          u.0,
          λ n under.
              let level : k.depth ≡ e.depth = call_deeper x k called ∙ sym (call_deeper x e h.0) in
              d.0 (ap (λ (y : ProcessRecord). y.node) (tops_equal n u.2.0 k e z level under u.2.1)),
        )) (all_below w levels e) (below e h.0.1).1) (elsewhere k called es h.1 d.1)

    many : (es : List ProcessRecord) → AllByRecursion (CallsOne w x) es → AreApart es → AreApart (flat_map (all_below w levels) es)
    many [] h d = tt
    many (e ∷ es) h d =
        let own = below e h.0.1 in
        apart_both (all_below w levels e) (flat_map (all_below w levels) es) own.0 (many es h.1 d.1)
        (differ_all e (all_below w levels e) (flat_map (all_below w levels) es) own.1 (elsewhere e h.0 es h.1 d.0))

    -- a live process that stands below, through a call
    abbrev IsDeep : ProcessRecord → Type 0
    IsDeep y = (find_record y.node w.records ≡ Some y) × (has_ended y.state ≡ false) × ((n : ℕ) × UnderBy w (suc n) x y)

    all_deep : (es : List ProcessRecord) → AllByRecursion (CallsOne w x) es → AllByRecursion IsDeep (flat_map (all_below w levels) es)
    all_deep [] h = tt
    all_deep (e ∷ es) h =
        both IsDeep (all_below w levels e) (flat_map (all_below w levels) es)
        (weaker (IsUnder e) IsDeep (λ y u. (u.0, u.1, (u.2.0, under_child u.2.0 x e y h.0 u.2.1))) (all_below w levels e) (below e h.0.1).1) (all_deep es h.1)

  own_apart : (x : ProcessRecord) → AreApart (its_own w x)
  own_apart x = by (has_ended x.state)
    where
      by : (b : Bool) → AreApart (if b then [] else x ∷ [])
      by true = tt
      by false = (tt, tt)

  own_under : (x : ProcessRecord) → find_record x.node w.records ≡ Some x → AllByRecursion (IsUnder x) (its_own w x)
  own_under x found = by (has_ended x.state) refl
    where
      by : (b : Bool) → has_ended x.state ≡ b → AllByRecursion (IsUnder x) (if b then [] else x ∷ [])
      by true is = tt
      by false is = ((found, is, (0, refl)), tt)

  own_differs : (x y : ProcessRecord) → (x.node ≡ y.node → ⊥) → AllByRecursion (Differs y) (its_own w x)
  own_differs x y ne = by (has_ended x.state)
    where
      by : (b : Bool) → AllByRecursion (Differs y) (if b then [] else x ∷ [])
      by true = tt
      by false = ((λ e. ne (sym e)), tt)

  all_apart : (levels : ℕ) → Below levels
  all_apart zero x found = (own_apart x, own_under x found)
  all_apart (suc levels) x found =
      let below : Below levels = all_apart levels in
      let es : List ProcessRecord = kids w x.node w.links in
      let called : AllByRecursion (CallsOne w x) es = kids_called x w.links (of_calls x found) in
      let apart : AreApart es
      = kids_apart x w.links (distinct x.node w.links (λ i j a b ne p q. (c.links.apart i j a b ne p q).callers)) (of_calls x found) in
      let deep = all_deep levels below x es called in
      let ys : List ProcessRecord = flat_map (all_below w levels) es in (
        apart_both ys (its_own w x) (many levels below x es called apart) (own_apart x)
            (weaker (IsDeep levels below x) (λ y. AllByRecursion (Differs y) (its_own w x))
            (λ y u. own_differs x y
            (λ same.
            let it : x ≡ y = one_record (find_record x.node w.records) x y found (ap (λ (n : ℕ). find_record n w.records) same ∙ u.0) in
            let far : y.depth ≡ x.depth + suc u.2.0 = under_depth (suc u.2.0) x y u.2.1 in
            let near : x.depth ≡ y.depth = ap (λ (z : ProcessRecord). z.depth) it in
            absurd (omega (arith, far, near)))) ys deep),
        both (IsUnder x) ys (its_own w x) (weaker (IsDeep levels below x) (IsUnder x) (λ y u. (u.0, u.1, (suc u.2.0, u.2.1))) ys deep) (own_under x found),
      )

  -- ---- each Set applies

  abbrev kill_of : ProcessRecord → SetProcess
  kill_of x = record { pid = x.node; state = state.Killed; paused = false; cached_from = 0; fuel = fuel_then w x; code = None; part = part.Over }

  abbrev IsThere : List ProcessRecord → ProcessRecord → Type 0
  IsThere rs x = (find_record x.node rs ≡ Some x) × (has_ended x.state ≡ false)

  still_there : (batch : ℕ) (s : SetProcess) (rs : List ProcessRecord) (x : ProcessRecord) → s.pid ≡ x.node → (ys : List ProcessRecord) → AllByRecursion (Differs x) ys
      → AllByRecursion (IsThere rs) ys → AllByRecursion (IsThere (at_process s.pid (set batch s) rs)) ys
  still_there batch s rs x is [] d h = tt
  still_there batch s rs x is (y ∷ ys) d h =
      ((found_other s.pid (set batch s) (λ r. refl) rs y.node (λ e. d.0 (sym is ∙ e)) ∙ h.0.0, h.0.1), still_there batch s rs x is ys d.1 h.1)

  apply_list : (s : Setting) (u : World) (xs : List ProcessRecord) → AreApart xs → AllByRecursion (IsThere u.records) xs → Apply s u (map (change_of w) xs)
  apply_list s u [] d h = tt
  apply_list s u (x ∷ xs) d h = (
    (x, h.0.0, and_from (not (has_ended x.state)) true (ap not h.0.1) refl, refl),
    apply_list s (after_change s.batch u (change_of w x)) xs d.1 (still_there s.batch (kill_of x) u.records x refl xs d.0 h.1),
  )

  settled_list : (batch : ℕ) (u : World) (xs : List ProcessRecord) → All (λ x. is_settled u.links x ≡ true) u.records
      → unsettled (changed batch u (map (change_of w) xs)).links (changed batch u (map (change_of w) xs)).records ≡ None
  settled_list batch u [] h = settled_all u.links u.records h
  settled_list batch u (x ∷ xs) h =
      settled_list batch (after_change batch u (change_of w x)) xs
      (all_at_apart (λ x. is_settled u.links x ≡ true) x.node (set batch (kill_of x)) u.records (λ i d lt ne. h i d lt) (λ i d lt e. refl))

  -- A kill is accepted where there is room for a batch.
  pub kill_accepted : (r : ProcessRecord) → IsLive w r → w.batches < 4000000000 → IsAccepted w (kill_changes w r)
  kill_accepted r live room =
      let xs : List ProcessRecord = all_below w 16 r in
      let t = all_apart 16 r live.found in
      subst (IsAccepted w) (sym (changes_are w 16 r))
      (record {
        batch = room;
        each = apply_list (setting w (map (change_of w) xs)) (begun w) xs t.0 (weaker (IsUnder r) (IsThere w.records) (λ y u. (u.0, u.1)) xs t.1);
        settled = settled_list (w.batches + 1) (begun w) xs (λ i d lt. (c.records i d lt).settled);
      })
