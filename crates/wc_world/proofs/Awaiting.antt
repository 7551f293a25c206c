-- Processes await only those that they called, whatever changes a world takes.
use Rattle.std.proofs.Common.{◌≡◌, ℕ, Bool, true, false, List, [], ◌∷◌, ◌++◌, get_or, map, Option, Some, refl, sym, ap, ◌∙◌}
use Rattle.std.specs.Prelude.{if◌then◌else◌, All, ◌==◌, ◌&&◌, ◌||◌, not}
use Rattle.std.specs.List.{list_all, list_any}
use Rattle.std.proofs.lemmas.Bool.{eqb-true, not-true}
use Rattle.std.proofs.lemmas.List.Elements.{All-nil, All-cons, All-head, All-tail}
use Rattle.wc_graph.specs.declared.link.Link.{Link}
use Rattle.wc_state.specs.declared.record.Await.{Await}
use Rattle.wc_state.specs.declared.record.Part.{Part}
use Rattle.wc_state.specs.declared.record.Part.TheVariants as part
use Rattle.wc_state.specs.declared.record.ProcessRecord.{ProcessRecord}
use Rattle.wc_records.specs.declared.change.SetProcess.{SetProcess}
use Rattle.wc_records.specs.Readiness.{is_over, ended_at, awaits_of, IsAwaitedBy}
use Rattle.wc_world.specs.declared.change.Change.{Change}
use Rattle.wc_world.specs.declared.change.Change.TheVariants as change
use Rattle.wc_world.specs.World.{World}
use Rattle.wc_world.specs.Records.{find_record, has_ended, has_called, is_call_from}
use Rattle.wc_world.specs.Applied.{next_number, made, set, keep, after_change, changed, begun}
use Rattle.wc_world.specs.Fits.{part_fits, fails_fit, standing_fits}
use Rattle.wc_world.specs.Accepted.{Setting, setting, Fits, Apply, IsReached, nothing, then_changes}
use Rattle.wc_world.specs.Called.{awaits_called, AwaitsCalled, SetFits, SetsFitting}
use Rattle.wc_world.proofs.FoundRecords.{left, right}

-- ---- lists

any_more : {T : Type 0} (test : T → Bool) (xs ys : List T) → list_any test xs ≡ true → list_any test (xs ++ ys) ≡ true
any_more test [] ys h = absurd (cc)
any_more test (x ∷ xs) ys h = by_test (test x) h (any_more test xs ys)
  where
    by_test : (b : Bool) → (b || list_any test xs) ≡ true → (list_any test xs ≡ true → list_any test (xs ++ ys) ≡ true) → (b || list_any test (xs ++ ys)) ≡ true
    by_test true e more = refl
    by_test false e more = more e

all_weaker : {T : Type 0} (p q : T → Bool) → ((x : T) → p x ≡ true → q x ≡ true) → (xs : List T) → list_all p xs ≡ true → list_all q xs ≡ true
all_weaker p q h [] a = refl
all_weaker p q h (x ∷ xs) a =
    ap (λ (b : Bool). b && list_all q xs) (h x (left (p x) (list_all p xs) a)) ∙ all_weaker p q h xs (right (p x) (list_all p xs) a)

All-map : (P Q : ProcessRecord → Type 0) (g : ProcessRecord → ProcessRecord) → ((r : ProcessRecord) → P r → Q (g r)) → (rs : List ProcessRecord) → All P rs → All Q (map g rs)
All-map P Q g h [] a = All-nil Q
All-map P Q g h (r ∷ rs) a = All-cons Q (g r) (map g rs) (h r (All-head P r rs a)) (All-map P Q g h rs (All-tail P r rs a))

All-weaker : (P Q : ProcessRecord → Type 0) → ((r : ProcessRecord) → P r → Q r) → (rs : List ProcessRecord) → All P rs → All Q rs
All-weaker P Q h rs a k d lt = h (get_or rs k d) (a k d lt)

All-push : (P : ProcessRecord → Type 0) (rs : List ProcessRecord) (r : ProcessRecord) → All P rs → P r → All P (rs ++ r ∷ [])
All-push P [] r a h = All-cons P r [] h (All-nil P)
All-push P (q ∷ qs) r a h = All-cons P q (qs ++ r ∷ []) (All-head P q qs a) (All-push P qs r (All-tail P q qs a) h)

-- ---- one process set

found_named : (pid : ℕ) (rs : List ProcessRecord) (r : ProcessRecord) → find_record pid rs ≡ Some r → r.node ≡ pid
found_named pid [] r e = absurd (cc)
found_named pid (q ∷ qs) r e = by_test (q.node == pid) refl e (found_named pid qs r)
  where
    by_test : (b : Bool) → (q.node == pid) ≡ b → (if b then Some q else find_record pid qs) ≡ Some r → (find_record pid qs ≡ Some r → r.node ≡ pid) → r.node ≡ pid
    by_test true is f rest = let same : q ≡ r = cc in ap (λ (x : ProcessRecord). x.node) (sym same) ∙ eqb-true q.node pid is
    by_test false is f rest = rest f

-- what a fitting checkpoint awaits was called
standing_called : (w : World) (r : ProcessRecord) (p : Part) → standing_fits w r p ≡ true → list_all (λ (a : Await). has_called w.links r.node a.pid) (awaits_of p) ≡ true
standing_called w r part.Fresh h = refl
standing_called w r (part.Chain c) h = left _ _ (right _ _ (right _ _ h))
standing_called w r (part.Job j) h = refl
standing_called w r part.Over h = refl

set_called : (w : World) (c : SetProcess) → SetFits w c → list_all (λ (a : Await). has_called w.links c.pid a.pid) (awaits_of c.part) ≡ true
set_called w c fits =
    let standing = right (fails_fit c.part c.paused) (standing_fits w fits.0 c.part)
    (right (part_fits fits.0.kind c.state c.part) (fails_fit c.part c.paused && standing_fits w fits.0 c.part)
    (right (not (has_ended fits.0.state)) (part_fits fits.0.kind c.state c.part && (fails_fit c.part c.paused && standing_fits w fits.0 c.part)) fits.2)) in
    ap (λ (n : ℕ). list_all (λ (a : Await). has_called w.links n a.pid) (awaits_of c.part)) (sym (found_named c.pid w.records fits.0 fits.1))
    ∙ standing_called w fits.0 c.part standing

pub set_live : (w : World) (c : SetProcess) → SetFits w c → ended_at w.records c.pid ≡ false
set_live w c fits =
    ap is_over fits.1
    ∙ not-true (has_ended fits.0.state) (left (not (has_ended fits.0.state)) (part_fits fits.0.kind c.state c.part && (fails_fit c.part c.paused && standing_fits w fits.0 c.part)) fits.2)

-- ---- changes

set_awaits : (batch : ℕ) (w : World) (c : SetProcess) → SetFits w c → AwaitsCalled w → AwaitsCalled (after_change batch w (change.Set c))
set_awaits batch w c fits h =
    All-map (λ r. awaits_called w.links r ≡ true) (λ r. awaits_called w.links r ≡ true) (λ r. if r.node == c.pid then set batch c r else r) (λ r a. by_test r (r.node == c.pid) refl a) w.records h
  where
    by_test : (r : ProcessRecord) (b : Bool) → (r.node == c.pid) ≡ b → awaits_called w.links r ≡ true → awaits_called w.links (if b then set batch c r else r) ≡ true
    by_test r true is a = ap (λ (n : ℕ). list_all (λ (x : Await). has_called w.links n x.pid) (awaits_of c.part)) (eqb-true r.node c.pid is) ∙ set_called w c fits
    by_test r false is a = a

pub change_awaits : (batch : ℕ) (w : World) (c : Change) → SetsFitting w c → AwaitsCalled w → AwaitsCalled (after_change batch w c)
change_awaits batch w (change.Library l names) fits h = h
change_awaits batch w (change.Data v) fits h = h
change_awaits batch w (change.Process n) fits h = All-push (λ r. awaits_called w.links r ≡ true) w.records (made (next_number w) n) h refl
change_awaits batch w (change.Link l) fits h =
    All-weaker (λ r. awaits_called w.links r ≡ true) (λ r. awaits_called (w.links ++ l ∷ []) r ≡ true)
    (λ r a. all_weaker (λ (x : Await). has_called w.links r.node x.pid) (λ (x : Await). has_called (w.links ++ l ∷ []) r.node x.pid)
    (λ x. any_more (λ (m : Link). is_call_from r.node m && (m.target == x.pid)) w.links (l ∷ [])) (awaits_of r.part) a) w.records h
change_awaits batch w (change.Set c) fits h = set_awaits batch w c fits h
change_awaits batch w (change.Count n) fits h = h
change_awaits batch w (change.Kept k) fits h =
    All-map (λ r. awaits_called w.links r ≡ true) (λ r. awaits_called w.links r ≡ true) (λ r. if r.node == k.pid then keep k r else r) (λ r a. by_test r (r.node == k.pid) a) w.records h
  where
    by_test : (r : ProcessRecord) (b : Bool) → awaits_called w.links r ≡ true → awaits_called w.links (if b then keep k r else r) ≡ true
    by_test r true a = a
    by_test r false a = a

pub fits_sets : (s : Setting) (w : World) (c : Change) → Fits s w c → SetsFitting w c
fits_sets s w (change.Library l names) h = tt
fits_sets s w (change.Data v) h = tt
fits_sets s w (change.Process n) h = tt
fits_sets s w (change.Link l) h = tt
fits_sets s w (change.Set c) h = (h.0, h.1, h.2)
fits_sets s w (change.Count n) h = tt
fits_sets s w (change.Kept k) h = tt

changed_awaits : (s : Setting) (w : World) (cs : List Change) → Apply s w cs → AwaitsCalled w → AwaitsCalled (changed s.batch w cs)
changed_awaits s w [] each h = h
changed_awaits s w (c ∷ cs) each h = changed_awaits s (after_change s.batch w c) cs each.1 (change_awaits s.batch w c (fits_sets s w c each.0) h)

pub reached_awaits : (w : World) → IsReached w → AwaitsCalled w
reached_awaits _ nothing = All-nil (λ r. awaits_called [] r ≡ true)
reached_awaits _ (then_changes w cs reached accepted) = changed_awaits (setting w cs) (begun w) cs accepted.each (reached_awaits w reached)

-- ---- the caller alone awaits a process

all_any : (pid : ℕ) (links : List Link) (n : ℕ) (pids : List Await) → list_all (λ (a : Await). has_called links n a.pid) pids ≡ true
    → list_any (λ (a : Await). a.pid == pid) pids ≡ true → has_called links n pid ≡ true
all_any pid links n [] all any = absurd (cc)
all_any pid links n (a ∷ pids) all any = by_test (a.pid == pid) refl any (all_any pid links n pids (right (has_called links n a.pid) (list_all (λ (x : Await). has_called links n x.pid) pids) all))
  where
    by_test : (b : Bool) → (a.pid == pid) ≡ b → (b || list_any (λ (x : Await). x.pid == pid) pids) ≡ true
        → (list_any (λ (x : Await). x.pid == pid) pids ≡ true → has_called links n pid ≡ true) → has_called links n pid ≡ true
    by_test true is e rest =
        ap (has_called links n) (sym (eqb-true a.pid pid is)) ∙ left (has_called links n a.pid) (list_all (λ (x : Await). has_called links n x.pid) pids) all
    by_test false is e rest = rest e

pub awaited_by_caller : (caller : Option ℕ) (pid : ℕ) (links : List Link) (rs : List ProcessRecord) → All (λ r. awaits_called links r ≡ true) rs
    → ((n : ℕ) → has_called links n pid ≡ true → caller ≡ Some n) → IsAwaitedBy caller pid rs
awaited_by_caller caller pid links rs h alone k d lt is =
    alone (get_or rs k d).node (all_any pid links (get_or rs k d).node (awaits_of (get_or rs k d).part) (h k d lt) is)
