-- What a kill leaves: the process is killed, and all at and below it have ended.
use Rattle.std.proofs.Common.{◌≡◌, ◌⊎◌, inl, inr, ℕ, zero, suc, ◌+◌, ◌≤◌, Bool, true, false, List, [], ◌∷◌, ◌++◌, map, get_or, Option, Some, None, refl, sym, ap, subst, ◌∙◌, arith}
use Rattle.std.specs.Prelude.{◌==◌, ◌&&◌, ◌||◌, if◌then◌else◌, flat_map, option_map}
use Rattle.std.proofs.lemmas.Bool.{cond-true, eq-eqb, eqb-true}
use Rattle.wc_value.specs.declared.process.ProcessState.TheVariants as state
use Rattle.wc_graph.specs.declared.link.Link.{Link}
use Rattle.wc_state.specs.declared.record.Part.TheVariants as part
use Rattle.wc_state.specs.declared.record.ProcessRecord.{ProcessRecord}
use Rattle.wc_world.specs.World.{World}
use Rattle.wc_world.specs.Applied.{after_change, begun, changed, set}
use Rattle.wc_world.specs.Consistent.{IsConsistent, Stands}
use Rattle.wc_world.specs.Records.{find_record, has_called, has_ended, is_call_from}
use Rattle.wc_world.proofs.After.{find_at}
use Rattle.wc_world.proofs.FoundRecords.{IsDeeper, call_is_deeper, found_holds, left, right}
use Rattle.wc_world.proofs.ReachedLists.{found_node}
use Rattle.wc_drill.specs.Soundness.Replaced.{set_to}
use Rattle.wc_drill.proofs.Soundness.KillOrder.{CallsOne, add, all_below, change_of, fuel_then, its_own, kids}
use Rattle.wc_drill.proofs.Soundness.OthersOnTrack.{any_gives}
use Rattle.wc_drill.specs.Soundness.Killed.{IsAtOrBelow, itself, called}
use Rattle.wc_act.specs.Acknowledged.{IsKilled}
use Rattle.wc_act.proofs.Asking.{some_process}

-- ---- what stands in lists

abbrev IsIn : {A : Type 0} → A → List A → Type 0
IsIn x [] = ⊥
IsIn x (y ∷ ys) = (y ≡ x) ⊎ IsIn x ys

in_front : {A : Type 0} (x : A) (xs ys : List A) → IsIn x xs → IsIn x (xs ++ ys)
in_front x [] ys h = absurd h
in_front x (y ∷ xs) ys (inl same) = inl same
in_front x (y ∷ xs) ys (inr h) = inr (in_front x xs ys h)

in_back : {A : Type 0} (x : A) (xs ys : List A) → IsIn x ys → IsIn x (xs ++ ys)
in_back x [] ys h = h
in_back x (y ∷ xs) ys h = inr (in_back x xs ys h)

in_flat : {A B : Type 0} (f : A → List B) (xs : List A) (x : A) (y : B) → IsIn x xs → IsIn y (f x) → IsIn y (flat_map f xs)
in_flat f [] x y h k = absurd h
in_flat f (z ∷ zs) x y (inl same) k = in_front y (f z) (flat_map f zs) (subst (λ a. IsIn y (f a)) (sym same) k)
in_flat f (z ∷ zs) x y (inr h) k = in_back y (f z) (flat_map f zs) (in_flat f zs x y h k)

-- ---- kills one after another

module _ (w : World) (batch : ℕ) where
  -- the record that the kill of a process leaves
  abbrev gone : ProcessRecord → ProcessRecord → ProcessRecord
  gone x = set batch (set_to x state.Killed (fuel_then w x) part.Over)

  abbrev after_kill : World → ProcessRecord → World
  after_kill v x = after_change batch v (change_of w x)

  abbrev after_kills : World → List ProcessRecord → World
  after_kills v xs = changed batch v (map (change_of w) xs)

  after_one : (v : World) (x : ProcessRecord) (n : ℕ)
      → find_record n (after_kill v x).records ≡ (if x.node == n then option_map (gone x) (find_record n v.records) else find_record n v.records)
  after_one v x n = find_at x.node n (gone x) v.records (λ z. refl)

  -- what kills keep of a record
  abbrev IsKept : (Option ProcessRecord → Type 0) → Type 0
  IsKept Q = (x : ProcessRecord) (o : Option ProcessRecord) → Q o → Q (option_map (gone x) o)

  kept_one : (Q : Option ProcessRecord → Type 0) → IsKept Q → (v : World) (x : ProcessRecord) (n : ℕ) → Q (find_record n v.records) → Q (find_record n (after_kill v x).records)
  kept_one Q keeps v x n h = subst Q (sym (after_one v x n)) (at (x.node == n))
    where
      at : (b : Bool) → Q (if b then option_map (gone x) (find_record n v.records) else find_record n v.records)
      at true = keeps x (find_record n v.records) h
      at false = h

  kept : (Q : Option ProcessRecord → Type 0) → IsKept Q → (v : World) (xs : List ProcessRecord) (n : ℕ) → Q (find_record n v.records) → Q (find_record n (after_kills v xs).records)
  kept Q keeps v [] n h = h
  kept Q keeps v (x ∷ xs) n h = kept Q keeps (after_kill v x) xs n (kept_one Q keeps v x n h)

  -- what the kill of a process makes of its record
  made : (P Q : Option ProcessRecord → Type 0) → IsKept P → IsKept Q → ((x : ProcessRecord) (o : Option ProcessRecord) → P o → Q (option_map (gone x) o))
      → (v : World) (xs : List ProcessRecord) (x : ProcessRecord) → IsIn x xs → P (find_record x.node v.records) → Q (find_record x.node (after_kills v xs).records)
  made P Q keeps keeps_too makes v [] x h p = absurd h
  made P Q keeps keeps_too makes v (y ∷ ys) x (inl same) p =
      kept Q keeps_too (after_kill v y) ys x.node
      (subst Q
      (sym (after_one v y x.node ∙ cond-true (y.node == x.node) (option_map (gone y) (find_record x.node v.records)) (find_record x.node v.records)
      (eq-eqb y.node x.node (ap (λ (z : ProcessRecord). z.node) same))))
      (makes y (find_record x.node v.records) p))
  made P Q keeps keeps_too makes v (y ∷ ys) x (inr h) p = made P Q keeps keeps_too makes (after_kill v y) ys x h (kept_one P keeps v y x.node p)

  -- there is a record; it is that of a killed process; what there is has ended; there is none
  abbrev IsThere : Option ProcessRecord → Type 0
  IsThere o = (z : ProcessRecord) × (o ≡ Some z)

  abbrev IsDead : Option ProcessRecord → Type 0
  IsDead o = (z : ProcessRecord) × (o ≡ Some z) × (z.state ≡ state.Killed)

  abbrev IsOver : Option ProcessRecord → Type 0
  IsOver o = (z : ProcessRecord) → o ≡ Some z → has_ended z.state ≡ true

  abbrev IsNone : Option ProcessRecord → Type 0
  IsNone o = o ≡ None

  there_kept : IsKept IsThere
  there_kept x o h = (gone x h.0, ap (option_map (gone x)) h.1)

  dead_made : (x : ProcessRecord) (o : Option ProcessRecord) → IsThere o → IsDead (option_map (gone x) o)
  dead_made x o h = (gone x h.0, ap (option_map (gone x)) h.1, refl)

  dead_kept : IsKept IsDead
  dead_kept x o h = dead_made x o (h.0, h.1)

  over_made : (x : ProcessRecord) (o : Option ProcessRecord) → Unit {0} → IsOver (option_map (gone x) o)
  over_made x None u z is = absurd (cc)
  over_made x (Some y) u z is =
      let same : gone x y ≡ z = cc in
      ap (λ (q : ProcessRecord). has_ended q.state) (sym same)

  over_kept : IsKept IsOver
  over_kept x o h = over_made x o tt

  none_kept : IsKept IsNone
  none_kept x o h = ap (option_map (gone x)) h

  same_links : (v : World) (xs : List ProcessRecord) → (after_kills v xs).links ≡ v.links
  same_links v [] = refl
  same_links v (x ∷ xs) = same_links (after_kill v x) xs

  -- what is there after kills was there before
  was_there : (v : World) (xs : List ProcessRecord) (n : ℕ) (z : ProcessRecord) → find_record n (after_kills v xs).records ≡ Some z → IsThere (find_record n v.records)
  was_there v xs n z found = at (find_record n v.records) refl
    where
      at : (o : Option ProcessRecord) → find_record n v.records ≡ o → IsThere o
      at None is = let none = kept IsNone none_kept v xs n is in absurd (cc (none, found))
      at (Some y) is = (y, refl)

-- ---- what stands below a process

module _ (w : World) (c : IsConsistent w) where
  abbrev DownBy : ℕ → ProcessRecord → ProcessRecord → Type 0
  DownBy zero r x = x ≡ r
  DownBy (suc n) r x = (y : ProcessRecord) × CallsOne w r y × DownBy n y x

  down_more : (n : ℕ) (r x y : ProcessRecord) → DownBy n r x → CallsOne w x y → DownBy (suc n) r y
  down_more zero r x y h k = (y, subst (λ (z : ProcessRecord). CallsOne w z y) h k, refl)
  down_more (suc n) r x y h k = (h.0, h.1, down_more n h.0 x y h.2 k)

  low : (x : ProcessRecord) → find_record x.node w.records ≡ Some x → x.depth ≤ 16
  low x found = let s : Stands w x = found_holds (Stands w) x.node w.records x c.records found in s.not_above

  deeper : (y x : ProcessRecord) → CallsOne w y x → x.depth ≡ suc y.depth
  deeper y x k =
      any_gives (x.depth ≡ suc y.depth) (λ l. is_call_from y.node l && (l.target == x.node)) w.links k.2
      (λ i d lt pass.
      let l : Link = get_or w.links i d in
      let target : l.target ≡ x.node = eqb-true l.target x.node (right (is_call_from y.node l) (l.target == x.node) pass) in
      let one : IsDeeper y (find_record l.target w.records) =
      call_is_deeper w.records l y.node y k.0 (left (is_call_from y.node l) (l.target == x.node) pass) (c.calls i d lt) in
      let same : one.0 ≡ x = some_process (find_record x.node w.records) one.0 x (ap (λ (n : ℕ). find_record n w.records) (sym target) ∙ one.1) k.1 in
      ap (λ (z : ProcessRecord). z.depth) (sym same) ∙ one.2)

  -- a called process is among the called ones
  kid_in : (x y : ProcessRecord) → find_record y.node w.records ≡ Some y → (ls : List Link) → has_called ls x.node y.node ≡ true → IsIn y (kids w x.node ls)
  kid_in x y found [] h = absurd (cc)
  kid_in x y found (l ∷ ls) h = at (is_call_from x.node l) (l.target == y.node) refl h (kid_in x y found ls)
    where
      at : (b t : Bool) → (l.target == y.node) ≡ t → (b && t) || has_called ls x.node y.node ≡ true → (has_called ls x.node y.node ≡ true → IsIn y (kids w x.node ls))
          → IsIn y (if b then add w (find_record l.target w.records) (kids w x.node ls) else kids w x.node ls)
      at true true is e rest =
          subst (λ (o : Option ProcessRecord). IsIn y (add w o (kids w x.node ls))) (sym (ap (λ (n : ℕ). find_record n w.records) (eqb-true l.target y.node is) ∙ found)) (inl refl)
      at true false is e rest = by (find_record l.target w.records)
        where
          by : (o : Option ProcessRecord) → IsIn y (add w o (kids w x.node ls))
          by None = rest e
          by (Some z) = inr (rest e)
      at false t is e rest = rest e

  -- a live process below is in the list of those that a kill ends
  below_in : (n levels : ℕ) (r x : ProcessRecord) → 17 ≤ levels + r.depth → find_record r.node w.records ≡ Some r → has_ended x.state ≡ false → DownBy n r x
      → IsIn x (all_below w levels r)
  below_in zero zero r x enough there live h = let d = low r there in absurd (omega (arith, d, enough))
  below_in zero (suc levels) r x enough there live h =
      in_back x (flat_map (all_below w levels) (kids w r.node w.links)) (its_own w r)
      (subst (λ (z : ProcessRecord). IsIn x (its_own w z)) h (subst (λ (b : Bool). IsIn x (if b then [] else x ∷ [])) (sym live) (inl refl)))
  below_in (suc n) zero r x enough there live h = let d = low r there in absurd (omega (arith, d, enough))
  below_in (suc n) (suc levels) r x enough there live h =
      let y : ProcessRecord = h.0 in
      let more : y.depth ≡ suc r.depth = deeper r y h.1 in
      let still : 17 ≤ levels + y.depth = omega (arith, more, enough) in
      in_front x (flat_map (all_below w levels) (kids w r.node w.links)) (its_own w r)
      (in_flat (all_below w levels) (kids w r.node w.links) y x (kid_in r y h.1.1 w.links h.1.2) (below_in n levels y x still h.1.1 live h.2))

  -- ---- the kill

  module _ (r : ProcessRecord) (there : find_record r.node w.records ≡ Some r) (live : has_ended r.state ≡ false) where
    abbrev after : World
    after = after_kills w (w.batches + 1) (begun w) (all_below w 16 r)

    -- a process after the kill, which was below this one before it
    pub record WasBelow (x : ProcessRecord) : Type 0 where
      pub now : find_record x.node after.records ≡ Some x
      pub before : ProcessRecord
      pub number : before.node ≡ x.node
      pub found : find_record before.node w.records ≡ Some before
      pub levels : ℕ
      pub down : DownBy levels r before

    was_below : (p : ProcessRecord) → p.node ≡ r.node → find_record p.node after.records ≡ Some p → (x : ProcessRecord) → IsAtOrBelow after p x → WasBelow x
    was_below p number found x itself = record { now = found; before = r; number = sym number; found = there; levels = 0; down = refl }
    was_below p number found y (called x y' b is link) =
        let h = was_below p number found x b in
        let was = was_there w (w.batches + 1) (begun w) (all_below w 16 r) y'.node y' is in
        let same : was.0.node ≡ y'.node = found_node y'.node w.records was.0 was.1 in
        let here : find_record was.0.node w.records ≡ Some was.0 = ap (λ (n : ℕ). find_record n w.records) same ∙ was.1 in
        let calls : has_called w.links h.before.node was.0.node ≡ true
        = (λ i. has_called (sym (same_links w (w.batches + 1) (begun w) (all_below w 16 r)) i) (h.number i) (same i)) ∙ link in
        record {
          now = is;
          before = was.0;
          number = same;
          found = here;
          levels = suc h.levels;
          down = down_more h.levels r h.before was.0 h.down (h.found, here, calls);
        }

    enough : 17 ≤ 16 + r.depth
    enough = let s : Stands w r = found_holds (Stands w) r.node w.records r c.records there in let deep : 1 ≤ r.depth = s.not_below in omega (arith, deep)

    has_ended_then : (x : ProcessRecord) → WasBelow x → has_ended x.state ≡ true
    has_ended_then x h = at (has_ended h.before.state) refl
      where
        over_before : has_ended h.before.state ≡ true → IsOver w (w.batches + 1) (find_record h.before.node w.records)
        over_before over z is = ap (λ (q : ProcessRecord). has_ended q.state) (some_process (find_record h.before.node w.records) z h.before is h.found) ∙ over

        now : IsOver w (w.batches + 1) (find_record h.before.node after.records) → has_ended x.state ≡ true
        now over = over x (ap (λ (n : ℕ). find_record n after.records) h.number ∙ h.now)

        at : (b : Bool) → has_ended h.before.state ≡ b → has_ended x.state ≡ true
        at true is = now (kept w (w.batches + 1) (IsOver w (w.batches + 1)) (over_kept w (w.batches + 1)) (begun w) (all_below w 16 r) h.before.node (over_before is))
        at false is =
            now (made w (w.batches + 1) (λ o. Unit {0}) (IsOver w (w.batches + 1)) (λ y o u. tt) (over_kept w (w.batches + 1)) (over_made w (w.batches + 1)) (begun w) (all_below w 16 r) h.before
            (below_in h.levels 16 r h.before enough there is h.down) tt)

    pub is_killed : (pid : ℕ) → r.node ≡ pid → IsKilled after pid
    is_killed pid number =
        let batch : ℕ = w.batches + 1 in
        let own : IsIn r (all_below w 16 r) = below_in 0 16 r r enough there live refl in
        let dead = made w batch (IsThere w batch) (IsDead w batch) (there_kept w batch) (dead_kept w batch) (dead_made w batch) (begun w) (all_below w 16 r) r own (r, there) in
        let named : dead.0.node ≡ r.node = found_node r.node after.records dead.0 dead.1 in
        record {
          process = dead.0;
          found = ap (λ (n : ℕ). find_record n after.records) (sym number) ∙ dead.1;
          killed = dead.2;
          below = λ x b. has_ended_then x (was_below dead.0 named (ap (λ (n : ℕ). find_record n after.records) named ∙ dead.1) x b);
        }
