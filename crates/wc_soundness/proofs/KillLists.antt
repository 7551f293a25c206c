-- A kill is a list of single kills in one batch, so it keeps a sound world sound.
use Rattle.std.proofs.Common.{◌≡◌, ℕ, zero, suc, ◌+◌, ◌<◌, ◌≤◌, Bool, true, false, List, [], ◌∷◌, ◌++◌, Option, Some, None, map, get_or, refl, sym, ap, subst, ◌∙◌, arith}
use Rattle.std.specs.Prelude.{All, ◌==◌, ◌&&◌, ◌||◌, if◌then◌else◌, filter, flat_map}
use Rattle.std.specs.List.{AllByRecursion, IsDistinct}
use Rattle.std.proofs.lemmas.Bool.{cond-false, cond-true, eq-eqb, eqb-true, eqb-false}
use Rattle.std.proofs.lemmas.List.{append-nil}
use Rattle.std.proofs.lemmas.List.Elements.{All-cons, All-head, All-nil, All-tail}
use Rattle.wc_value.specs.declared.process.ProcessState.TheVariants as state
use Rattle.wc_graph.specs.declared.link.Link.{Link}
use Rattle.wc_state.specs.declared.record.Await.{Await}
use Rattle.wc_state.specs.declared.record.Part.{Part}
use Rattle.wc_state.specs.declared.record.Part.TheVariants as part
use Rattle.wc_state.specs.declared.record.ProcessRecord.{ProcessRecord}
use Rattle.wc_world.specs.World.{World}
use Rattle.wc_world.specs.Applied.{set}
use Rattle.wc_world.specs.Consistent.{Stands}
use Rattle.wc_world.specs.Records.{at_process, find_record, has_called, has_ended, is_call_from}
use Rattle.wc_world.proofs.FoundRecords.{IsDeeper, call_is_deeper, found_holds, left, right}
use Rattle.wc_world.proofs.ReachedLists.{found_node}
use Rattle.wc_machine.specs.Calls.{fuel_at, fuel_of}
use Rattle.wc_machine.specs.Kills.{awaited_fuel, awaits_of, fuel_after}
use Rattle.wc_machine.specs.Rest.{is_awaited}
use Rattle.wc_machine.specs.Sound.{IsSound}
use Rattle.wc_machine.specs.Tasks.{saturated}
use Rattle.wc_machine.proofs.EndedTrees.{call_is_called}
use Rattle.wc_turn_laws.proofs.CalledLabels.{targets, distinct}
use Rattle.wc_soundness.specs.Replaced.{record_to, set_to}
use Rattle.wc_soundness.proofs.OthersOnTrack.{any_gives}
use Rattle.wc_soundness.proofs.Replaced.{found_now, found_other, one_record}
use Rattle.wc_soundness.proofs.Binding.{awaited_is_called}
use Rattle.wc_soundness.proofs.Sums.{is_one_of}
use Rattle.wc_soundness.specs.KillLaws.{HasEndedCalls, killed_fuel}
use Rattle.wc_soundness.proofs.KillOrder.{CallsOne, UnderBy, add, all_below, call_deeper, fuel_then, kids, tops_equal, under_child, under_depth}

module _ (w : World) (sound : IsSound w) where
  -- a process that another one called
  pub record IsKid (x : ProcessRecord) (pid : ℕ) : Type 0 where
    pub child : ProcessRecord
    pub is : find_record pid w.records ≡ Some child
    pub number : child.node ≡ pid
    pub deeper : child.depth ≡ suc x.depth

  pub kid_of : (x : ProcessRecord) → find_record x.node w.records ≡ Some x → (pid : ℕ) → has_called w.links x.node pid ≡ true → IsKid x pid
  kid_of x found pid called =
      any_gives (IsKid x pid) (λ l. is_call_from x.node l && (l.target == pid)) w.links called
      (λ i d lt pass.
      let l : Link = get_or w.links i d in
      let target : l.target ≡ pid = eqb-true l.target pid (right (is_call_from x.node l) (l.target == pid) pass) in
      let deeper : IsDeeper x (find_record l.target w.records) =
      call_is_deeper w.records l x.node x found (left (is_call_from x.node l) (l.target == pid) pass) (sound.consistent.calls i d lt) in
      let is : find_record pid w.records ≡ Some deeper.0 = ap (λ (n : ℕ). find_record n w.records) (sym target) ∙ deeper.1 in
      record { child = deeper.0; is = is; number = found_node pid w.records deeper.0 is; deeper = deeper.2 })

  pub low : (x : ProcessRecord) → find_record x.node w.records ≡ Some x → (1 ≤ x.depth) × (x.depth ≤ 16)
  low x found = let s : Stands w x = found_holds (Stands w) x.node w.records x sound.consistent.records found in (s.not_below, s.not_above)

  awaited_called : (x : ProcessRecord) → find_record x.node w.records ≡ Some x → (as' : List Await) → ((pid : ℕ) → is_one_of as' pid ≡ true → is_awaited x.part pid ≡ true)
      → All (λ a. has_called w.links x.node a.pid ≡ true) as'
  awaited_called x found [] among = All-nil (λ a. has_called w.links x.node a.pid ≡ true)
  awaited_called x found (a ∷ as') among =
      All-cons (λ a. has_called w.links x.node a.pid ≡ true) a as'
      (awaited_is_called w sound x x.part (found_holds (Stands w) x.node w.records x sound.consistent.records found).standing a.pid
      (among a.pid (ap (λ (b : Bool). b || is_one_of as' a.pid) (eq-eqb a.pid a.pid refl))))
      (awaited_called x found as' (λ pid h. among pid (or_true (a.pid == pid) (is_one_of as' pid) h)))
    where
      or_true : (x y : Bool) → y ≡ true → (x || y) ≡ true
      or_true true y h = refl
      or_true false y h = h

  pub its_awaited : (x : ProcessRecord) → find_record x.node w.records ≡ Some x → All (λ a. has_called w.links x.node a.pid ≡ true) (awaits_of x.part)
  its_awaited x found = awaited_called x found (awaits_of x.part) (λ pid h. at x.part pid h)
    where
      at : (p : Part) (pid : ℕ) → is_one_of (awaits_of p) pid ≡ true → is_awaited p pid ≡ true
      at part.Fresh pid h = h
      at (part.Chain c) pid h = h
      at (part.Job j) pid h = h
      at part.Over pid h = h

  same_awaited : (f g : ℕ → ℕ) (as' : List Await) → All (λ a. f a.pid ≡ g a.pid) as' → awaited_fuel f as' ≡ awaited_fuel g as'
  same_awaited f g [] h = refl
  same_awaited f g (a ∷ as') h = λ i. suc (All-head (λ a. f a.pid ≡ g a.pid) a as' h i) + same_awaited f g as' (All-tail (λ a. f a.pid ≡ g a.pid) a as' h) i

  -- so many levels are enough for the fuel of a process of its depth
  pub fuel_enough : (levels : ℕ) (x : ProcessRecord) → find_record x.node w.records ≡ Some x → 17 ≤ levels + x.depth → fuel_after levels w (Some x) ≡ fuel_after (suc levels) w (Some x)
  fuel_enough zero x found enough = let d = (low x found).1 in absurd (omega arith)
  fuel_enough (suc levels) x found enough =
      ap (λ (n : ℕ). if has_ended x.state then x.fuel else saturated (x.fuel + n))
      (same_awaited (λ pid. fuel_after levels w (find_record pid w.records)) (λ pid. fuel_after (suc levels) w (find_record pid w.records)) (awaits_of x.part)
      (λ j d lt.
      let a : Await = get_or (awaits_of x.part) j d in
      let k : IsKid x a.pid = kid_of x found a.pid (its_awaited x found j d lt) in
      let deep : k.child.depth ≡ suc x.depth = k.deeper in
      ap (fuel_after levels w) k.is
      ∙ fuel_enough levels k.child (ap (λ (n : ℕ). find_record n w.records) k.number ∙ k.is) (omega arith)
      ∙ ap (fuel_after (suc levels) w) (sym k.is)))

  module _ (batch : ℕ) (first : 0 < batch) (few : batch ≤ 4000000000) where
    -- the world with these records, which tells of so many batches
    abbrev pub told : ℕ → List ProcessRecord → World
    told b rs = record { nodes = w.nodes; links = w.links; records = rs; libraries = w.libraries; batches = b }

    abbrev pub without : List ProcessRecord → ProcessRecord → List ProcessRecord
    without rs x = at_process x.node (set batch (set_to x state.Killed (fuel_then w x) part.Over)) rs

    abbrev pub rs_after : List ProcessRecord → List ProcessRecord → List ProcessRecord
    rs_after rs [] = rs
    rs_after rs (x ∷ xs) = rs_after (without rs x) xs

    -- a live process, whose calls have ended, may be killed next
    pub record IsNext (rs : List ProcessRecord) (x : ProcessRecord) : Type 0 where
      pub found : find_record x.node rs ≡ Some x
      pub live : has_ended x.state ≡ false
      pub calls : HasEndedCalls (told batch rs) x
      pub fuel : killed_fuel (told batch rs) x ≡ fuel_then w x

    abbrev pub AreNext : List ProcessRecord → List ProcessRecord → Type 0
    AreNext rs [] = Unit {0}
    AreNext rs (x ∷ xs) = IsNext rs x × AreNext (without rs x) xs

    next_append : (rs xs ys : List ProcessRecord) → AreNext rs xs → AreNext (rs_after rs xs) ys → AreNext rs (xs ++ ys)
    next_append rs [] ys h g = g
    next_append rs (x ∷ xs) ys h g = (h.0, next_append (without rs x) xs ys h.1 g)

    after_append : (rs xs ys : List ProcessRecord) → rs_after rs (xs ++ ys) ≡ rs_after (rs_after rs xs) ys
    after_append rs [] ys = refl
    after_append rs (x ∷ xs) ys = after_append (without rs x) xs ys

    -- ---- what is below a process is done

    abbrev IsFresh : List ProcessRecord → ProcessRecord → Type 0
    IsFresh rs x = (n : ℕ) (y : ProcessRecord) → UnderBy w n x y → find_record y.node w.records ≡ Some y → find_record y.node rs ≡ Some y

    abbrev pub IsOverAt : List ProcessRecord → ProcessRecord → Type 0
    IsOverAt rs x = (z : ProcessRecord) × (find_record x.node rs ≡ Some z) × (has_ended z.state ≡ true) × (z.fuel ≡ fuel_then w x)

    abbrev pub NotUnder : ProcessRecord → ProcessRecord → Type 0
    NotUnder y x = (n : ℕ) → UnderBy w n x y → ⊥

    pub record IsDone (rs : List ProcessRecord) (x : ProcessRecord) (xs : List ProcessRecord) : Type 0 where
      pub next : AreNext rs xs
      pub others : (y : ProcessRecord) → find_record y.node w.records ≡ Some y → NotUnder y x → find_record y.node (rs_after rs xs) ≡ find_record y.node rs
      pub over : IsOverAt (rs_after rs xs) x

    record AreDone (rs : List ProcessRecord) (cs : List ProcessRecord) (xs : List ProcessRecord) : Type 0 where
      pub next : AreNext rs xs
      pub others : (y : ProcessRecord) → find_record y.node w.records ≡ Some y → AllByRecursion (NotUnder y) cs → find_record y.node (rs_after rs xs) ≡ find_record y.node rs
      over : AllByRecursion (IsOverAt (rs_after rs xs)) cs

    -- processes of one depth, of which none stands twice
    abbrev AreApart : List ProcessRecord → Type 0
    AreApart [] = Unit {0}
    AreApart (c ∷ cs) = AllByRecursion (λ e. (c.node ≡ e.node → ⊥) × (c.depth ≡ e.depth)) cs × AreApart cs

    abbrev MayStart : ℕ → List ProcessRecord → ProcessRecord → Type 0
    MayStart levels rs c = (find_record c.node w.records ≡ Some c) × (17 ≤ levels + c.depth) × IsFresh rs c

    abbrev Below : ℕ → Type 0
    Below levels = (x : ProcessRecord) (rs : List ProcessRecord) → MayStart levels rs x → IsDone rs x (all_below w levels x)

    -- what stands below one of them doesn't stand below another
    not_both : (c e y : ProcessRecord) (n : ℕ) → (c.node ≡ e.node → ⊥) × (c.depth ≡ e.depth) → UnderBy w n e y → NotUnder y c
    not_both c e y n apart h m g = apart.0 (ap (λ (z : ProcessRecord). z.node) (tops_equal w sound m n c e y apart.1 g h))

    fresh_on : (levels : ℕ) (rs xs : List ProcessRecord) (c : ProcessRecord) (cs : List ProcessRecord) → IsDone rs c xs
        → AllByRecursion (λ e. (c.node ≡ e.node → ⊥) × (c.depth ≡ e.depth)) cs → AllByRecursion (MayStart levels rs) cs → AllByRecursion (MayStart levels (rs_after rs xs)) cs
    fresh_on levels rs xs c [] d apart may = tt
    fresh_on levels rs xs c (e ∷ cs) d apart may =
        ((may.0.0, may.0.1, λ n y under found. d.others y found (not_both c e y n apart.0 under) ∙ may.0.2 n y under found), fresh_on levels rs xs c cs d apart.1 may.1)

    stays_apart : (c : ProcessRecord) (cs : List ProcessRecord) → AllByRecursion (λ e. (c.node ≡ e.node → ⊥) × (c.depth ≡ e.depth)) cs → AllByRecursion (NotUnder c) cs
    stays_apart c [] apart = tt
    stays_apart c (e ∷ cs) apart = ((λ n under. not_both c e c n apart.0 under 0 refl), stays_apart c cs apart.1)

    many : (levels : ℕ) → Below levels → (cs rs : List ProcessRecord) → AreApart cs → AllByRecursion (MayStart levels rs) cs → AreDone rs cs (flat_map (all_below w levels) cs)
    many levels below [] rs apart may = record { next = tt; others = λ y found under. refl; over = tt }
    many levels below (c ∷ cs) rs apart may =
        let xs : List ProcessRecord = all_below w levels c in
        let ys : List ProcessRecord = flat_map (all_below w levels) cs in
        let d : IsDone rs c xs = below c rs may.0 in
        let rest : AreDone (rs_after rs xs) cs ys = many levels below cs (rs_after rs xs) apart.1 (fresh_on levels rs xs c cs d apart.0 may.1) in
        let same : rs_after rs (xs ++ ys) ≡ rs_after (rs_after rs xs) ys = after_append rs xs ys in
        record {
          next = next_append rs xs ys d.next rest.next;
          others = λ y found under. ap (find_record y.node) same ∙ rest.others y found under.1 ∙ d.others y found under.0;
          over = subst (λ (q : List ProcessRecord). AllByRecursion (IsOverAt q) (c ∷ cs)) (sym same)
              ((d.over.0, rest.others c may.0.0 (stays_apart c cs apart.0) ∙ d.over.1, d.over.2, d.over.3), rest.over);
        }

    -- ---- the called processes

    kids_all : (P : ProcessRecord → Type 0) (pid : ℕ) (ls : List Link) → All (λ l. is_call_from pid l ≡ true → (c : ProcessRecord) × (find_record l.target w.records ≡ Some c) × P c) ls
        → AllByRecursion P (kids w pid ls)
    kids_all P pid [] h = tt
    kids_all P pid (l ∷ ls) h =
        at (is_call_from pid l) (All-head (λ l. is_call_from pid l ≡ true → (c : ProcessRecord) × (find_record l.target w.records ≡ Some c) × P c) l ls h)
        (kids_all P pid ls (All-tail (λ l. is_call_from pid l ≡ true → (c : ProcessRecord) × (find_record l.target w.records ≡ Some c) × P c) l ls h))
      where
        at : (b : Bool) → (b ≡ true → (c : ProcessRecord) × (find_record l.target w.records ≡ Some c) × P c) → AllByRecursion P (kids w pid ls)
            → AllByRecursion P (if b then add w (find_record l.target w.records) (kids w pid ls) else kids w pid ls)
        at true one rest = let c = one refl in subst (λ (o : Option ProcessRecord). AllByRecursion P (add w o (kids w pid ls))) (sym c.1) (c.2, rest)
        at false one rest = rest

    kids_back : (P : ProcessRecord → Type 0) (pid : ℕ) (ls : List Link) → AllByRecursion P (kids w pid ls)
        → All (λ l. is_call_from pid l ≡ true → (c : ProcessRecord) → find_record l.target w.records ≡ Some c → P c) ls
    kids_back P pid [] h = All-nil (λ l. is_call_from pid l ≡ true → (c : ProcessRecord) → find_record l.target w.records ≡ Some c → P c)
    kids_back P pid (l ∷ ls) h =
        let parts = at (is_call_from pid l) h in
        All-cons (λ l. is_call_from pid l ≡ true → (c : ProcessRecord) → find_record l.target w.records ≡ Some c → P c) l ls parts.0 (kids_back P pid ls parts.1)
      where
        at : (b : Bool) → AllByRecursion P (if b then add w (find_record l.target w.records) (kids w pid ls) else kids w pid ls)
            → (b ≡ true → (c : ProcessRecord) → find_record l.target w.records ≡ Some c → P c) × AllByRecursion P (kids w pid ls)
        at true h = by (find_record l.target w.records) h
          where
            by : (o : Option ProcessRecord) → AllByRecursion P (add w o (kids w pid ls)) → (true ≡ true → (c : ProcessRecord) → o ≡ Some c → P c) × AllByRecursion P (kids w pid ls)
            by None h = (λ t c e. absurd (cc e), h)
            by (Some x) h = (λ t c e. (let same : x ≡ c = cc in subst P same h.0), h.1)
        at false h = (λ e. absurd (cc e), h)

    module _ (x : ProcessRecord) (found : find_record x.node w.records ≡ Some x) where
      called_link : All (λ l. is_call_from x.node l ≡ true → has_called w.links x.node l.target ≡ true) w.links
      called_link = call_is_called w x.node

      calls_kid : (pid : ℕ) (called : has_called w.links x.node pid ≡ true) → CallsOne w x (kid_of x found pid called).child
      calls_kid pid called =
          let k = kid_of x found pid called in
          (found, ap (λ (n : ℕ). find_record n w.records) k.number ∙ k.is, ap (has_called w.links x.node) k.number ∙ called)

      each_kid : (P : ProcessRecord → Type 0) → ((c : ProcessRecord) → CallsOne w x c → P c) → AllByRecursion P (kids w x.node w.links)
      each_kid P one =
          kids_all P x.node w.links
          (λ i d lt called.
          let l : Link = get_or w.links i d in
          let reached : has_called w.links x.node l.target ≡ true = called_link i d lt called in
          let k = kid_of x found l.target reached in
          (k.child, k.is, one k.child (calls_kid l.target reached)))

      kids_apart : (ls : List Link) → IsDistinct (λ a b. a == b) (targets x.node ls)
          → All (λ l. is_call_from x.node l ≡ true → has_called w.links x.node l.target ≡ true) ls → AreApart (kids w x.node ls)
      unfolding IsDistinct
      kids_apart [] h all = tt
      kids_apart (l ∷ ls) h all =
          at (is_call_from x.node l) h (All-head (λ l. is_call_from x.node l ≡ true → has_called w.links x.node l.target ≡ true) l ls all)
          (λ g. kids_apart ls g (All-tail (λ l. is_call_from x.node l ≡ true → has_called w.links x.node l.target ≡ true) l ls all))
        where
          tail : All (λ l. is_call_from x.node l ≡ true → has_called w.links x.node l.target ≡ true) ls
          tail = All-tail (λ l. is_call_from x.node l ≡ true → has_called w.links x.node l.target ≡ true) l ls all

          other : (c : ProcessRecord) → c.node ≡ l.target → c.depth ≡ suc x.depth → (ms : List Link) → AllByRecursion (λ y. (l.target == y) ≡ false) (targets x.node ms)
              → All (λ l. is_call_from x.node l ≡ true → has_called w.links x.node l.target ≡ true) ms
              → AllByRecursion (λ e. (c.node ≡ e.node → ⊥) × (c.depth ≡ e.depth)) (kids w x.node ms)
          other c number deep [] h all = tt
          other c number deep (m ∷ ms) h all =
              by (is_call_from x.node m) h (All-head (λ l. is_call_from x.node l ≡ true → has_called w.links x.node l.target ≡ true) m ms all)
              (λ g. other c number deep ms g (All-tail (λ l. is_call_from x.node l ≡ true → has_called w.links x.node l.target ≡ true) m ms all))
            where
              by : (b : Bool) → AllByRecursion (λ y. (l.target == y) ≡ false) (map (λ l. l.target) (if b then m ∷ filter (is_call_from x.node) ms else filter (is_call_from x.node) ms))
                  → (b ≡ true → has_called w.links x.node m.target ≡ true)
                  → (AllByRecursion (λ y. (l.target == y) ≡ false) (targets x.node ms) → AllByRecursion (λ e. (c.node ≡ e.node → ⊥) × (c.depth ≡ e.depth)) (kids w x.node ms))
                  → AllByRecursion (λ e. (c.node ≡ e.node → ⊥) × (c.depth ≡ e.depth)) (if b then add w (find_record m.target w.records) (kids w x.node ms) else kids w x.node ms)
              by true h called rest =
                  let k = kid_of x found m.target (called refl) in
                  subst (λ (o : Option ProcessRecord). AllByRecursion (λ e. (c.node ≡ e.node → ⊥) × (c.depth ≡ e.depth)) (add w o (kids w x.node ms))) (sym k.is)
                  (((λ e. eqb-false l.target m.target h.0 (sym number ∙ e ∙ k.number)), deep ∙ sym k.deeper), rest h.1)
              by false h called rest = rest h

          at : (b : Bool) → IsDistinct (λ a b. a == b) (map (λ l. l.target) (if b then l ∷ filter (is_call_from x.node) ls else filter (is_call_from x.node) ls))
              → (b ≡ true → has_called w.links x.node l.target ≡ true) → (IsDistinct (λ a b. a == b) (targets x.node ls) → AreApart (kids w x.node ls))
              → AreApart (if b then add w (find_record l.target w.records) (kids w x.node ls) else kids w x.node ls)
          at true h called rest =
              let k = kid_of x found l.target (called refl) in
              subst (λ (o : Option ProcessRecord). AreApart (add w o (kids w x.node ls))) (sym k.is)
              (other k.child k.number k.deeper ls h.0 tail, rest h.1)
          at false h called rest = rest h

      -- ---- what is done at a process

      module _ (levels : ℕ) (enough : 17 ≤ suc levels + x.depth) (below : Below levels) (rs : List ProcessRecord) (fresh : IsFresh rs x) where
        abbrev L : List ProcessRecord
        L = flat_map (all_below w levels) (kids w x.node w.links)

        starts : AllByRecursion (MayStart levels rs) (kids w x.node w.links)
        starts =
            each_kid (MayStart levels rs)
            (λ c called.
            let deep : c.depth ≡ suc x.depth = call_deeper w sound x c called in
            (called.1, omega arith, λ n y under there. fresh (suc n) y (under_child w sound n x c y called under) there))

        done : AreDone rs (kids w x.node w.links) L
        done =
            many levels below (kids w x.node w.links) rs
            (kids_apart w.links (distinct x.node w.links (λ i j a b ne p q. (sound.links.apart i j a b ne p q).callers)) called_link) starts

        abbrev rs1 : List ProcessRecord
        rs1 = rs_after rs L

        here : find_record x.node rs1 ≡ Some x
        here =
            done.others x found
            (each_kid (NotUnder x)
            (λ c called n under.
            let deep : c.depth ≡ suc x.depth = call_deeper w sound x c called in
            let far : x.depth ≡ c.depth + n = under_depth w sound n c x under in
            absurd (omega arith)))
            ∙ fresh zero x refl found

        not_kids : (y : ProcessRecord) → NotUnder y x → AllByRecursion (NotUnder y) (kids w x.node w.links)
        not_kids y none = each_kid (NotUnder y) (λ c called n under. none (suc n) (under_child w sound n x c y called under))

        kid_over : (pid : ℕ) (called : has_called w.links x.node pid ≡ true) → IsOverAt rs1 (kid_of x found pid called).child
        kid_over pid called =
            let k = kid_of x found pid called in
            any_gives (IsOverAt rs1 k.child) (λ l. is_call_from x.node l && (l.target == pid)) w.links called
            (λ i d lt pass.
            let l : Link = get_or w.links i d in
            let target : l.target ≡ pid = eqb-true l.target pid (right (is_call_from x.node l) (l.target == pid) pass) in
            kids_back (IsOverAt rs1) x.node w.links done.over i d lt (left (is_call_from x.node l) (l.target == pid) pass) k.child
            (ap (λ (n : ℕ). find_record n w.records) target ∙ k.is))

        calls_ended : HasEndedCalls (told batch rs1) x
        calls_ended q there called =
            let k = kid_of x found q.node called in
            let z = kid_over q.node called in
            let same : q ≡ z.0 = one_record (find_record q.node rs1) q z.0 there (ap (λ (n : ℕ). find_record n rs1) (sym k.number) ∙ z.1) in
            ap (λ (y : ProcessRecord). has_ended y.state) same ∙ z.2

        awaited_same : (as' : List Await) → All (λ a. has_called w.links x.node a.pid ≡ true) as' → fuel_of rs1 as' ≡ awaited_fuel (λ pid. fuel_after 15 w (find_record pid w.records)) as'
        awaited_same [] h = refl
        awaited_same (a ∷ as') h =
            let called : has_called w.links x.node a.pid ≡ true = All-head (λ a. has_called w.links x.node a.pid ≡ true) a as' h in
            let k = kid_of x found a.pid called in
            let z = kid_over a.pid called in
            let deep : k.child.depth ≡ suc x.depth = k.deeper in
            let some : 1 ≤ x.depth = (low x found).0 in
            let one : fuel_at (find_record a.pid rs1) ≡ fuel_after 15 w (find_record a.pid w.records) =
            ap (λ (n : ℕ). fuel_at (find_record n rs1)) (sym k.number) ∙ ap fuel_at z.1 ∙ z.3
            ∙ sym (fuel_enough 15 k.child (ap (λ (n : ℕ). find_record n w.records) k.number ∙ k.is) (omega arith)) ∙ ap (fuel_after 15 w) (sym k.is) in
            let rest = awaited_same as' (All-tail (λ a. has_called w.links x.node a.pid ≡ true) a as' h) in
            λ i. suc (one i) + rest i

        is_next : has_ended x.state ≡ false → IsNext rs1 x
        is_next live = record {
          found = here;
          live = live;
          calls = calls_ended;
          fuel = ap (λ (n : ℕ). saturated (x.fuel + n)) (awaited_same (awaits_of x.part) (its_awaited x found))
              ∙ sym (cond-false (has_ended x.state) x.fuel (saturated (x.fuel + awaited_fuel (λ pid. fuel_after 15 w (find_record pid w.records)) (awaits_of x.part))) live);
        }

        at_last : (b : Bool) → has_ended x.state ≡ b → IsDone rs x (L ++ (if b then [] else x ∷ []))
        at_last true ended =
            subst (IsDone rs x) (sym (append-nil L))
            (record {
              next = done.next;
              others = λ y there none. done.others y there (not_kids y none);
              over = (
                x,
                here,
                ended,
                sym (cond-true (has_ended x.state) x.fuel (saturated (x.fuel + awaited_fuel (λ pid. fuel_after 15 w (find_record pid w.records)) (awaits_of x.part))) ended),
              );
            })
        at_last false live =
            let same : rs_after rs (L ++ x ∷ []) ≡ without rs1 x = after_append rs L (x ∷ []) in
            record {
              next = next_append rs L (x ∷ []) done.next (is_next live, tt);
              others = λ y there none.
                  let ne : x.node ≡ y.node → ⊥ = λ e. none zero (one_record (find_record y.node w.records) y x there (ap (λ (n : ℕ). find_record n w.records) (sym e) ∙ found)) in
                  ap (find_record y.node) same ∙ found_other (told batch rs1) batch x state.Killed (fuel_then w x) part.Over y.node ne ∙ done.others y there (not_kids y none);
              over = (record_to batch x state.Killed (fuel_then w x) part.Over, ap (find_record x.node) same ∙ found_now (told batch rs1) batch x state.Killed (fuel_then w x) part.Over here, refl, refl);
            }

    one : (levels : ℕ) → Below levels
    one zero x rs may = let d = (low x may.0).1 in let e : 17 ≤ 0 + x.depth = may.1 in absurd (omega arith)
    one (suc levels) x rs may = at_last x may.0 levels may.1 (one levels) rs may.2 (has_ended x.state) refl

    -- the processes of a kill, in order, may each be killed next
    pub kill_next : (r : ProcessRecord) → find_record r.node w.records ≡ Some r → IsDone w.records r (all_below w 16 r)
    kill_next r found = let d = (low r found).0 in one 16 r w.records (found, omega arith, λ n y under there. there)
