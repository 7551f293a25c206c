-- A kill sets each live process at and below one, called ones first.
use Rattle.std.proofs.Common.{◌≡◌, ℕ, zero, suc, ◌+◌, ◌<◌, ◌≤◌, Bool, true, false, List, [], ◌∷◌, ◌++◌, Option, Some, None, refl, sym, ap, subst, ◌∙◌, arith}
use Rattle.std.specs.Prelude.{All, ◌==◌, ◌&&◌, ◌||◌, if◌then◌else◌, flat_map, option_map, slice_get}
use Rattle.std.specs.List.{AllByRecursion}
use Rattle.std.proofs.lemmas.Bool.{cond-true, eq-eqb, eqb-true}
use Rattle.std.proofs.lemmas.List.Elements.{All-head, All-tail}
use Rattle.wc_value.specs.declared.process.ProcessState.TheVariants as state
use Rattle.wc_graph.specs.declared.link.Link.{Link}
use Rattle.wc_state.specs.declared.record.Part.TheVariants as part
use Rattle.wc_state.specs.declared.record.ProcessRecord.{ProcessRecord}
use Rattle.wc_world.specs.World.{World}
use Rattle.wc_world.specs.Applied.{set}
use Rattle.wc_world.specs.Consistent.{Stands}
use Rattle.wc_world.specs.Records.{find_record, has_called, has_ended, is_call_from}
use Rattle.wc_world.proofs.After.{find_at}
use Rattle.wc_world.proofs.FoundRecords.{found_holds}
use Rattle.wc_world.proofs.ReachedLists.{found_node}
use Rattle.wc_machine.specs.Machine.{IsLive}
use Rattle.wc_machine.specs.Sound.{IsSound}
use Rattle.wc_machine.proofs.EndedTrees.{call_is_called}
use Rattle.wc_soundness.specs.Replaced.{set_to}
use Rattle.wc_soundness.proofs.KillLists.{AreNext, kill_next, without}
use Rattle.wc_soundness.proofs.KillOrder.{CallsOne, add, all_below, call_deeper, changes_are, fuel_then, its_own, kids}
use Rattle.wc_soundness.specs.Killed.{IsAtOrBelow, itself, called, KillsEach}
use Rattle.wc_soundness.specs.ListLaws.{KillsSetEachOnce}

-- ---- places in lists

same_some : {A : Type 0} (a b : A) → Some a ≡ Some b → a ≡ b
same_some a b e = cc

-- it stands somewhere in the list
abbrev StandsIn : {A : Type 0} → List A → A → Type 0
StandsIn xs x = (i : ℕ) × (slice_get xs i ≡ Some x)

in_rest : {A : Type 0} (y : A) (xs : List A) (x : A) → StandsIn xs x → StandsIn (y ∷ xs) x
in_rest y xs x h = (suc h.0, h.1)

in_front : {A : Type 0} (xs ys : List A) (x : A) → StandsIn xs x → StandsIn (xs ++ ys) x
in_front [] ys x h = absurd (let e = h.1 in cc e)
in_front (y ∷ xs) ys x h = at h.0 h.1 (in_front xs ys x)
  where
    at : (i : ℕ) → slice_get (y ∷ xs) i ≡ Some x → (StandsIn xs x → StandsIn (xs ++ ys) x) → StandsIn (y ∷ (xs ++ ys)) x
    at zero e later = (0, e)
    at (suc i) e later = in_rest y (xs ++ ys) x (later (i, e))

in_back : {A : Type 0} (xs ys : List A) (x : A) → StandsIn ys x → StandsIn (xs ++ ys) x
in_back [] ys x h = h
in_back (y ∷ xs) ys x h = in_rest y (xs ++ ys) x (in_back xs ys x h)

in_flat : {A B : Type 0} (f : A → List B) (xs : List A) (x : A) (y : B) → StandsIn xs x → StandsIn (f x) y → StandsIn (flat_map f xs) y
in_flat f [] x y h k = absurd (let e = h.1 in cc e)
in_flat f (z ∷ xs) x y h k = at h.0 h.1 (λ i e. in_flat f xs x y (i, e) k)
  where
    at : (i : ℕ) → slice_get (z ∷ xs) i ≡ Some x → ((j : ℕ) → slice_get xs j ≡ Some x → StandsIn (flat_map f xs) y) → StandsIn (f z ++ flat_map f xs) y
    at zero e later = in_front (f z) (flat_map f xs) y (subst (λ a. StandsIn (f a) y) (sym (same_some z x e)) k)
    at (suc i) e later = in_back (f z) (flat_map f xs) y (later i e)

-- what holds of each element of two lists holds of each of both
each_append : {A : Type 0} (P : A → Type 0) (xs ys : List A) → AllByRecursion P xs → AllByRecursion P ys → AllByRecursion P (xs ++ ys)
each_append P [] ys h k = k
each_append P (x ∷ xs) ys h k = (h.0, each_append P xs ys h.1 k)

each_flat : {A B : Type 0} (P : A → Type 0) (Q : B → Type 0) (f : A → List B) → ((x : A) → P x → AllByRecursion Q (f x)) → (xs : List A) → AllByRecursion P xs → AllByRecursion Q (flat_map f xs)
each_flat P Q f one [] h = tt
each_flat P Q f one (x ∷ xs) h = each_append Q (f x) (flat_map f xs) (one x h.0) (each_flat P Q f one xs h.1)

each_at : {A : Type 0} (P : A → Type 0) (xs : List A) → AllByRecursion P xs → (i : ℕ) (x : A) → slice_get xs i ≡ Some x → P x
each_at P [] h i x e = absurd (cc)
each_at P (y ∷ ys) h zero x e = subst P (same_some y x e) h.0
each_at P (y ∷ ys) h (suc i) x e = each_at P ys h.1 i x e

-- ---- what stands below

module _ (w : World) (sound : IsSound w) where
  -- from a process down to one below it, through so many calls
  abbrev DownBy : ℕ → ProcessRecord → ProcessRecord → Type 0
  DownBy zero r x = x ≡ r
  DownBy (suc n) r x = (c : ProcessRecord) × CallsOne w r c × DownBy n c x

  down_more : (n : ℕ) (r x y : ProcessRecord) → DownBy n r x → CallsOne w x y → DownBy (suc n) r y
  down_more zero r x y h c = (y, subst (λ (z : ProcessRecord). CallsOne w z y) h c, refl)
  down_more (suc n) r x y h c = (h.0, h.1, down_more n h.0 x y h.2 c)

  pub record IsDown (r x : ProcessRecord) : Type 0 where
    pub found : find_record x.node w.records ≡ Some x
    pub levels : ℕ
    pub down : DownBy levels r x

  goes_down : (r : ProcessRecord) → find_record r.node w.records ≡ Some r → (x : ProcessRecord) → IsAtOrBelow w r x → IsDown r x
  goes_down r there x itself = record { found = there; levels = 0; down = refl }
  goes_down r there y (called x y' b found link) =
      let h = goes_down r there x b in
      record { found = found; levels = suc h.levels; down = down_more h.levels r x y' h.down (h.found, found, link) }

  low : (x : ProcessRecord) → find_record x.node w.records ≡ Some x → x.depth ≤ 16
  low x found = let s : Stands w x = found_holds (Stands w) x.node w.records x sound.consistent.records found in s.not_above

  -- a called process is among the called ones
  kid_in : (x c : ProcessRecord) → find_record c.node w.records ≡ Some c → (ls : List Link) → has_called ls x.node c.node ≡ true → StandsIn (kids w x.node ls) c
  kid_in x c found [] h = absurd (cc)
  kid_in x c found (l ∷ ls) h = at (is_call_from x.node l) (l.target == c.node) refl h (kid_in x c found ls)
    where
      at : (b t : Bool) → (l.target == c.node) ≡ t → (b && t) || has_called ls x.node c.node ≡ true → (has_called ls x.node c.node ≡ true → StandsIn (kids w x.node ls) c)
          → StandsIn (if b then add w (find_record l.target w.records) (kids w x.node ls) else kids w x.node ls) c
      at true true is e rest =
          subst (λ (o : Option ProcessRecord). StandsIn (add w o (kids w x.node ls)) c) (sym (ap (λ (n : ℕ). find_record n w.records) (eqb-true l.target c.node is) ∙ found)) (0, refl)
      at true false is e rest = by (find_record l.target w.records)
        where
          by : (o : Option ProcessRecord) → StandsIn (add w o (kids w x.node ls)) c
          by None = rest e
          by (Some y) = in_rest y (kids w x.node ls) c (rest e)
      at false t is e rest = rest e

  -- a live process below is in the list
  below_in : (n levels : ℕ) (r x : ProcessRecord) → 17 ≤ levels + r.depth → find_record r.node w.records ≡ Some r → has_ended x.state ≡ false → DownBy n r x
      → StandsIn (all_below w levels r) x
  below_in zero zero r x enough there live h = let d = low r there in absurd (omega (arith, d, enough))
  below_in zero (suc levels) r x enough there live h =
      in_back (flat_map (all_below w levels) (kids w r.node w.links)) (its_own w r) x
      (subst (λ (z : ProcessRecord). StandsIn (its_own w z) x) h (subst (λ (b : Bool). StandsIn (if b then [] else x ∷ []) x) (sym live) (0, refl)))
  below_in (suc n) zero r x enough there live h = let d = low r there in absurd (omega (arith, d, enough))
  below_in (suc n) (suc levels) r x enough there live h =
      let c : ProcessRecord = h.0 in
      let deeper : c.depth ≡ suc r.depth = call_deeper w sound r c h.1 in
      let still : 17 ≤ levels + c.depth = omega (arith, deeper, enough) in
      in_front (flat_map (all_below w levels) (kids w r.node w.links)) (its_own w r) x
      (in_flat (all_below w levels) (kids w r.node w.links) c x (kid_in r c h.1.1 w.links h.1.2) (below_in n levels c x still h.1.1 live h.2))

  -- ---- what is in the list

  kids_called : (x : ProcessRecord) → find_record x.node w.records ≡ Some x → (ls : List Link) → All (λ l. is_call_from x.node l ≡ true → has_called w.links x.node l.target ≡ true) ls
      → AllByRecursion (CallsOne w x) (kids w x.node ls)
  kids_called x there [] h = tt
  kids_called x there (l ∷ ls) h =
      at (is_call_from x.node l) (All-head (λ l. is_call_from x.node l ≡ true → has_called w.links x.node l.target ≡ true) l ls h)
      (kids_called x there ls (All-tail (λ l. is_call_from x.node l ≡ true → has_called w.links x.node l.target ≡ true) l ls h))
    where
      by : (o : Option ProcessRecord) → find_record l.target w.records ≡ o → has_called w.links x.node l.target ≡ true → AllByRecursion (CallsOne w x) (kids w x.node ls)
          → AllByRecursion (CallsOne w x) (add w o (kids w x.node ls))
      by None is link rest = rest
      by (Some c) is link rest =
          let number : c.node ≡ l.target = found_node l.target w.records c is in
          ((there, ap (λ (n : ℕ). find_record n w.records) number ∙ is, ap (has_called w.links x.node) number ∙ link), rest)

      at : (b : Bool) → (b ≡ true → has_called w.links x.node l.target ≡ true) → AllByRecursion (CallsOne w x) (kids w x.node ls)
          → AllByRecursion (CallsOne w x) (if b then add w (find_record l.target w.records) (kids w x.node ls) else kids w x.node ls)
      at true link rest = by (find_record l.target w.records) refl (link refl) rest
      at false link rest = rest

  module _ (r : ProcessRecord) where
    abbrev Good : ProcessRecord → Type 0
    Good x = IsLive w x × IsAtOrBelow w r x

    own_good : (x : ProcessRecord) → find_record x.node w.records ≡ Some x → IsAtOrBelow w r x → AllByRecursion Good (its_own w x)
    own_good x there b = at (has_ended x.state) refl
      where
        at : (o : Bool) → has_ended x.state ≡ o → AllByRecursion Good (if o then [] else x ∷ [])
        at true is = tt
        at false is = ((record { found = there; live = is }, b), tt)

    all_good : (levels : ℕ) (x : ProcessRecord) → find_record x.node w.records ≡ Some x → IsAtOrBelow w r x → AllByRecursion Good (all_below w levels x)
    all_good zero x there b = own_good x there b
    all_good (suc levels) x there b =
        each_append Good (flat_map (all_below w levels) (kids w x.node w.links)) (its_own w x)
        (each_flat (CallsOne w x) Good (all_below w levels) (λ c h. all_good levels c h.1 (called x c b h.1 h.2)) (kids w x.node w.links)
        (kids_called x there w.links (call_is_called w x.node)))
        (own_good x there b)

  -- ---- none twice, and the called ones first

  module _ (batch : ℕ) (first : 0 < batch) (few : batch ≤ 4000000000) where
    abbrev gone : List ProcessRecord → ProcessRecord → List ProcessRecord
    gone = without w sound batch first few

    -- no live process has this number
    abbrev NotLive : List ProcessRecord → ℕ → Type 0
    NotLive rs n = (z : ProcessRecord) → find_record n rs ≡ Some z → has_ended z.state ≡ true

    after_set : (rs : List ProcessRecord) (x : ProcessRecord) (n : ℕ)
        → find_record n (gone rs x) ≡ (if x.node == n then option_map (set batch (set_to x state.Killed (fuel_then w x) part.Over)) (find_record n rs) else find_record n rs)
    after_set rs x n = find_at x.node n (set batch (set_to x state.Killed (fuel_then w x) part.Over)) rs (λ z. refl)

    killed_over : (x : ProcessRecord) (o : Option ProcessRecord) (z : ProcessRecord) → option_map (set batch (set_to x state.Killed (fuel_then w x) part.Over)) o ≡ Some z → has_ended z.state ≡ true
    killed_over x None z h = absurd (cc h)
    killed_over x (Some y) z h =
        let same : set batch (set_to x state.Killed (fuel_then w x) part.Over) y ≡ z = cc in
        ap (λ (q : ProcessRecord). has_ended q.state) (sym same)

    now_over : (rs : List ProcessRecord) (x : ProcessRecord) → NotLive (gone rs x) x.node
    now_over rs x z h =
        killed_over x (find_record x.node rs) z
        (sym (after_set rs x x.node ∙ cond-true (x.node == x.node) _ (find_record x.node rs) (eq-eqb x.node x.node refl)) ∙ h)

    stays_over : (rs : List ProcessRecord) (x : ProcessRecord) (n : ℕ) → NotLive rs n → NotLive (gone rs x) n
    stays_over rs x n none z h = at (x.node == n) (sym (after_set rs x n) ∙ h)
      where
        at : (b : Bool) → (if b then option_map (set batch (set_to x state.Killed (fuel_then w x) part.Over)) (find_record n rs) else find_record n rs) ≡ Some z → has_ended z.state ≡ true
        at true e = killed_over x (find_record n rs) z e
        at false e = none z e

    abbrev Next : List ProcessRecord → List ProcessRecord → Type 0
    Next = AreNext w sound batch first few

    -- what isn't live isn't killed
    not_next : (xs rs : List ProcessRecord) (n : ℕ) → NotLive rs n → Next rs xs → (j : ℕ) (y : ProcessRecord) → slice_get xs j ≡ Some y → y.node ≡ n → ⊥
    not_next [] rs n none h j y e is = cc e
    not_next (x ∷ xs) rs n none h zero y e is =
        let same : x ≡ y = same_some x y e in
        let number : x.node ≡ n = ap (λ (z : ProcessRecord). z.node) same ∙ is in
        let over : has_ended x.state ≡ true = none x (ap (λ (m : ℕ). find_record m rs) (sym number) ∙ h.0.found) in
        let live : has_ended x.state ≡ false = h.0.live in
        cc (over, live)
    not_next (x ∷ xs) rs n none h (suc j) y e is = not_next xs (gone rs x) n (stays_over rs x n none) h.1 j y e is

    once : (xs rs : List ProcessRecord) → Next rs xs → (i j : ℕ) (x y : ProcessRecord) → slice_get xs i ≡ Some x → slice_get xs j ≡ Some y → x.node ≡ y.node → i ≡ j
    once [] rs h i j x y p q e = absurd (cc p)
    once (z ∷ zs) rs h zero zero x y p q e = refl
    once (z ∷ zs) rs h zero (suc j) x y p q e =
        absurd (not_next zs (gone rs z) z.node (now_over rs z) h.1 j y q (sym e ∙ ap (λ (u : ProcessRecord). u.node) (sym (same_some z x p))))
    once (z ∷ zs) rs h (suc i) zero x y p q e =
        absurd (not_next zs (gone rs z) z.node (now_over rs z) h.1 i x p (e ∙ ap (λ (u : ProcessRecord). u.node) (sym (same_some z y q))))
    once (z ∷ zs) rs h (suc i) (suc j) x y p q e = ap suc (once zs (gone rs z) h.1 i j x y p q e)

    order : (xs rs : List ProcessRecord) → Next rs xs → (i j : ℕ) (x y : ProcessRecord) → slice_get xs i ≡ Some x → slice_get xs j ≡ Some y
        → has_called w.links x.node y.node ≡ true → j < i
    order [] rs h i j x y p q link = absurd (cc p)
    order (z ∷ zs) rs h zero j x y p q link =
        let same : z ≡ x = same_some z x p in
        absurd
        (not_next (z ∷ zs) rs y.node
        (λ u there.
        let number : u.node ≡ y.node = found_node y.node rs u there in
        h.0.calls u (ap (λ (n : ℕ). find_record n rs) number ∙ there) ((λ i. has_called w.links (same i).node (number i)) ∙ link))
        h j y q refl)
    order (z ∷ zs) rs h (suc i) zero x y p q link = omega arith
    order (z ∷ zs) rs h (suc i) (suc j) x y p q link = let lt : j < i = order zs (gone rs z) h.1 i j x y p q link in omega (arith, lt)

  -- ---- the kill of a live process

  kills_each : (r : ProcessRecord) → IsLive w r → KillsEach w r (all_below w 16 r)
  kills_each r l =
      let first : 0 < 1 = omega arith in
      let few : 1 ≤ 4000000000 = omega arith in
      let next = (kill_next w sound 1 first few r l.found).next in
      record {
        changes = changes_are w 16 r;
        live = each_at (Good r) (all_below w 16 r) (all_good r 16 r l.found itself);
        each = λ x live b.
            let d = goes_down r l.found x b in
            let s : Stands w r = found_holds (Stands w) r.node w.records r sound.consistent.records l.found in
            let deep : 1 ≤ r.depth = s.not_below in
            below_in d.levels 16 r x (omega (arith, deep)) l.found live.live d.down;
        once = once 1 first few (all_below w 16 r) w.records next;
        order = order 1 first few (all_below w 16 r) w.records next;
      }

pub kills_set_each_once : KillsSetEachOnce
kills_set_each_once w r sound l = (all_below w 16 r, kills_each w sound r l)
