-- Which processes are unsettled after changes.
use Rattle.std.proofs.Common.{◌≡◌, ℕ, suc, ◌+◌, ◌<◌, ◌≤◌, Bool, true, false, not, cond, List, [], ◌∷◌, ◌++◌, map, Option, Some, None, refl, sym, ap, subst, ◌∙◌, arith, ⊎_elim}
use Rattle.std.specs.Prelude.{if◌then◌else◌, ◌&&◌, ◌||◌, ◌==◌, nat_lt}
use Rattle.std.proofs.lemmas.List.{append-nil}
use Rattle.std.specs.List.Sorted.{IsPermutation}
use Rattle.std.proofs.lemmas.List.Sorted.{list_any-IsPermutation}
use Rattle.std.proofs.lemmas.Bool.{false≢true, cases_Bool, eq-eqb, ne_eqb, eqb-true, ltb-true, ltb-false}
use Rattle.wc_graph.specs.declared.link.Link.{Link}
use Rattle.wc_state.specs.declared.record.ProcessRecord.{ProcessRecord}
use Rattle.wc_world.specs.declared.change.Change.{Change}
use Rattle.wc_world.specs.declared.change.Change.TheVariants as change
use Rattle.wc_world.specs.World.{World}
use Rattle.wc_world.specs.Records.{find_record, calls, gives_output, is_call_from, is_output_of, has_ended}
use Rattle.wc_world.specs.Applied.{next_number, made, set, keep, after_change}
use Rattle.wc_world.specs.Applying.{Ascend}
use Rattle.wc_world.specs.Fits.{has_output, calls_from, is_settled, unsettled, counted_calls}
use Rattle.wc_world.specs.Accepted.{is_among}
use Rattle.wc_world.specs.Drafts.{touched_by, AreSettledBut, is_open, is_unsettled, lesser, least_from}

-- ---- tests

neither : (a b : Bool) → a || b ≡ false → (a ≡ false) × (b ≡ false)
neither true b h = absurd (false≢true (sym h))
neither false b h = (refl, h)

and_false : (a b : Bool) → b ≡ false → a && b ≡ false
and_false true b h = h
and_false false b h = refl

or_false : (a : Bool) → a || false ≡ a
or_false true = refl
or_false false = refl

opposite : (b : Bool) → not b ≡ true → b ≡ false
opposite true h = absurd (false≢true h)
opposite false h = refl

-- ---- one more number

among_more : (n : ℕ) (ts : List ℕ) (m : ℕ) → is_among n (ts ++ m ∷ []) ≡ is_among n ts || (m == n)
among_more n [] m = or_false (m == n)
among_more n (t ∷ ts) m = by_test (t == n) (among_more n ts m)
  where
    by_test : (b : Bool) → is_among n (ts ++ m ∷ []) ≡ is_among n ts || (m == n) → b || is_among n (ts ++ m ∷ []) ≡ (b || is_among n ts) || (m == n)
    by_test true h = refl
    by_test false h = h

not_among : (n : ℕ) (ts : List ℕ) (m : ℕ) → is_among n (ts ++ m ∷ []) ≡ false → (is_among n ts ≡ false) × ((m == n) ≡ false)
not_among n ts m h = neither (is_among n ts) (m == n) (sym (among_more n ts m) ∙ h)

last_among : (n : ℕ) (ts : List ℕ) → is_among n (ts ++ n ∷ []) ≡ true
last_among n ts = among_more n ts n ∙ ap (λ (b : Bool). is_among n ts || b) (eq-eqb n n refl) ∙ or_true (is_among n ts)
  where
    or_true : (a : Bool) → a || true ≡ true
    or_true true = refl
    or_true false = refl

-- ---- one more link

has_output_append : (pid : ℕ) (xs ys : List Link) → has_output pid (xs ++ ys) ≡ has_output pid xs || has_output pid ys
has_output_append pid [] ys = refl
has_output_append pid (x ∷ xs) ys = by_test (is_output_of pid x) (has_output_append pid xs ys)
  where
    by_test : (t : Bool) → has_output pid (xs ++ ys) ≡ has_output pid xs || has_output pid ys → t || has_output pid (xs ++ ys) ≡ (t || has_output pid xs) || has_output pid ys
    by_test true h = refl
    by_test false h = h

calls_append : (pid : ℕ) (xs ys : List Link) → calls_from pid (xs ++ ys) ≡ calls_from pid xs + calls_from pid ys
calls_append pid [] ys = omega arith
calls_append pid (x ∷ xs) ys = by_test (is_call_from pid x) (calls_append pid xs ys)
  where
    by_test : (t : Bool) → calls_from pid (xs ++ ys) ≡ calls_from pid xs + calls_from pid ys
        → (if t then suc (calls_from pid (xs ++ ys)) else calls_from pid (xs ++ ys)) ≡ (if t then suc (calls_from pid xs) else calls_from pid xs) + calls_from pid ys
    by_test true h = omega (arith, h)
    by_test false h = h

-- a link from another process changes nothing for this one
settled_push : (links : List Link) (l : Link) (r : ProcessRecord) → (l.source == r.node) ≡ false → is_settled (links ++ l ∷ []) r ≡ is_settled links r
settled_push links l r other =
    let out : has_output r.node (links ++ l ∷ []) ≡ has_output r.node links
    = has_output_append r.node links (l ∷ []) ∙ ap (λ (b : Bool). has_output r.node links || (b || false)) (and_false (gives_output l.link) (l.source == r.node) other) ∙ or_false (has_output r.node links) in
    let none : calls_from r.node (l ∷ []) ≡ 0 = ap (λ (b : Bool). if b then 1 else 0) (and_false (calls l.link) (l.source == r.node) other) in
    let called : calls_from r.node (links ++ l ∷ []) ≡ calls_from r.node links = omega (arith, calls_append r.node links (l ∷ []), none) in
    λ i. has_ended r.state || (not (out i) && (called i == counted_calls r.part))

-- ---- a change

-- what is settled before the first change
cond_none : {X : Type 0} (b : Bool) (o : Option X) (x : X) → cond b o (Some x) ≡ None → (b ≡ true) × (o ≡ None)
cond_none true o x h = (refl, h)
cond_none false o x h = absurd (cc)

pub settled_first : (links : List Link) (rs : List ProcessRecord) → unsettled links rs ≡ None → AreSettledBut [] links rs
settled_first links [] h = tt
settled_first links (r ∷ rs) h = let p = cond_none (is_settled links r) (unsettled links rs) r.node h in (λ none. p.0, settled_first links rs p.1)

settled_as : (t t' : List ℕ) (links links' : List Link)
    → ((r : ProcessRecord) → is_among r.node t' ≡ false → (is_among r.node t ≡ false) × (is_settled links' r ≡ is_settled links r))
    → (rs : List ProcessRecord) → AreSettledBut t links rs → AreSettledBut t' links' rs
settled_as t t' links links' like [] h = tt
settled_as t t' links links' like (r ∷ rs) h = (λ out. (like r out).1 ∙ h.0 (like r out).0, settled_as t t' links links' like rs h.1)

settled_mapped : (t t' : List ℕ) (links : List Link) (f : ProcessRecord → ProcessRecord)
    → ((r : ProcessRecord) → is_among (f r).node t' ≡ false → (is_among r.node t ≡ false) × (is_settled links (f r) ≡ is_settled links r))
    → (rs : List ProcessRecord) → AreSettledBut t links rs → AreSettledBut t' links (map f rs)
settled_mapped t t' links f like [] h = tt
settled_mapped t t' links f like (r ∷ rs) h = (λ out. (like r out).1 ∙ h.0 (like r out).0, settled_mapped t t' links f like rs h.1)

settled_made : (t : List ℕ) (links : List Link) (r : ProcessRecord) → is_among r.node t ≡ true → (rs : List ProcessRecord) → AreSettledBut t links rs → AreSettledBut t links (rs ++ r ∷ [])
settled_made t links r among [] h = (λ out. absurd (false≢true (sym out ∙ among)), tt)
settled_made t links r among (q ∷ qs) h = (h.0, settled_made t links r among qs h.1)

set_apart : (b : ℕ) (t : List ℕ) (links : List Link) (pid : ℕ) (f : ProcessRecord → ProcessRecord) (r : ProcessRecord) (is : Bool) → ((r : ProcessRecord) → (f r).node ≡ r.node)
    → r.node == pid ≡ is → is_among (if is then f r else r).node (t ++ pid ∷ []) ≡ false → (is_among r.node t ≡ false) × (is_settled links (if is then f r else r) ≡ is_settled links r)
set_apart b t links pid f r true keeps is out =
    let same : (f r).node ≡ pid = keeps r ∙ eqb-true r.node pid is in
    absurd (false≢true (sym out ∙ ap (λ (n : ℕ). is_among n (t ++ pid ∷ [])) same ∙ last_among pid t))
set_apart b t links pid f r false keeps is out = ((not_among r.node t pid out).0, refl)

keep_same : (t : List ℕ) (links : List Link) (f : ProcessRecord → ProcessRecord) (r : ProcessRecord) (is : Bool) → (f r).node ≡ r.node → is_settled links (f r) ≡ is_settled links r
    → is_among (if is then f r else r).node t ≡ false → (is_among r.node t ≡ false) × (is_settled links (if is then f r else r) ≡ is_settled links r)
keep_same t links f r true node same out = (ap (λ (n : ℕ). is_among n t) (sym node) ∙ out, same)
keep_same t links f r false node same out = (out, refl)

as_they_were : (t : List ℕ) (links : List Link) (rs : List ProcessRecord) → AreSettledBut t links rs → AreSettledBut (t ++ []) links rs
as_they_were t links rs h = subst (λ (ts : List ℕ). AreSettledBut ts links rs) (sym (append-nil t)) h

-- a change leaves settled each process that it doesn't touch
pub settled_change : (b : ℕ) (t : List ℕ) (w : World) (c : Change) → AreSettledBut t w.links w.records
    → AreSettledBut (t ++ touched_by w c) (after_change b w c).links (after_change b w c).records
settled_change b t w (change.Library l names) h = as_they_were t w.links w.records h
settled_change b t w (change.Data v) h = as_they_were t w.links w.records h
settled_change b t w (change.Process n) h =
    settled_made (t ++ next_number w ∷ []) w.links (made (next_number w) n) (last_among (next_number w) t) w.records
    (settled_as t (t ++ next_number w ∷ []) w.links w.links (λ r out. ((not_among r.node t (next_number w) out).0, refl)) w.records h)
settled_change b t w (change.Link l) h =
    settled_as t (t ++ l.source ∷ []) w.links (w.links ++ l ∷ [])
    (λ r out. let p = not_among r.node t l.source out in (p.0, settled_push w.links l r p.1)) w.records h
settled_change b t w (change.Set s) h =
    settled_mapped t (t ++ s.pid ∷ []) w.links (λ r. if r.node == s.pid then set b s r else r)
    (λ r out. set_apart b t w.links s.pid (set b s) r (r.node == s.pid) (λ q. refl) refl out) w.records h
settled_change b t w (change.Count n) h = as_they_were t w.links w.records h
settled_change b t w (change.Kept k) h =
    as_they_were t w.links _
    (settled_mapped t t w.links (λ r. if r.node == k.pid then keep k r else r)
    (λ r out. keep_same t w.links (keep k) r (r.node == k.pid) refl refl out) w.records h)

-- ---- the least of those that were touched

-- there is a number, and it isn't above this one
abbrev pub IsAtMost : Option ℕ → ℕ → Type 0
IsAtMost None n = ⊥
IsAtMost (Some least) n = least ≤ n

lesser_at_most : (o : Option ℕ) (m n : ℕ) → IsAtMost o n → IsAtMost (lesser o m) n
lesser_at_most None m n h = absurd h
lesser_at_most (Some p) m n h = by_test (nat_lt p m) refl
  where
    by_test : (t : Bool) → nat_lt p m ≡ t → IsAtMost (if t then Some p else Some m) n
    by_test true is = h
    by_test false is = omega (arith, ltb-false p m is, h)

lesser_here : (o : Option ℕ) (m : ℕ) → IsAtMost (lesser o m) m
lesser_here None m = omega arith
lesser_here (Some p) m = by_test (nat_lt p m) refl
  where
    by_test : (t : Bool) → nat_lt p m ≡ t → IsAtMost (if t then Some p else Some m) m
    by_test true is = omega (arith, ltb-true p m is)
    by_test false is = omega arith

module _ (links : List Link) (rs : List ProcessRecord) where
  stays_at_most : (o : Option ℕ) (ts : List ℕ) (n : ℕ) → IsAtMost o n → IsAtMost (least_from links rs o ts) n
  stays_at_most o [] n h = h
  stays_at_most o (t ∷ ts) n h = stays_at_most (if is_unsettled links rs t then lesser o t else o) ts n (by_test (is_unsettled links rs t))
    where
      by_test : (b : Bool) → IsAtMost (if b then lesser o t else o) n
      by_test true = lesser_at_most o t n h
      by_test false = h

  touched_at_most : (o : Option ℕ) (ts : List ℕ) (n : ℕ) → is_among n ts ≡ true → is_unsettled links rs n ≡ true → IsAtMost (least_from links rs o ts) n
  touched_at_most o [] n among live = absurd (false≢true among)
  touched_at_most o (t ∷ ts) n among live = by_test (t == n) refl among (λ more. touched_at_most (if is_unsettled links rs t then lesser o t else o) ts n more live)
    where
      by_test : (b : Bool) → t == n ≡ b → b || is_among n ts ≡ true
          → (is_among n ts ≡ true → IsAtMost (least_from links rs (if is_unsettled links rs t then lesser o t else o) ts) n)
          → IsAtMost (least_from links rs (if is_unsettled links rs t then lesser o t else o) ts) n
      by_test true is h rest =
          let same : n ≡ t = sym (eqb-true t n is) in
          let here : is_unsettled links rs t ≡ true = ap (is_unsettled links rs) (sym same) ∙ live in
          stays_at_most (if is_unsettled links rs t then lesser o t else o) ts n
          (subst (λ (b : Bool). IsAtMost (if b then lesser o t else o) n) (sym here) (subst (λ (m : ℕ). IsAtMost (lesser o t) m) (sym same) (lesser_here o t)))
      by_test false is h rest = rest h

  abbrev IsOpenIn : Option ℕ → Type 0
  IsOpenIn None = Unit {0}
  IsOpenIn (Some n) = is_unsettled links rs n ≡ true

  lesser_open : (o : Option ℕ) (m : ℕ) → IsOpenIn o → is_unsettled links rs m ≡ true → IsOpenIn (lesser o m)
  lesser_open None m h k = k
  lesser_open (Some p) m h k = by_test (nat_lt p m)
    where
      by_test : (t : Bool) → IsOpenIn (if t then Some p else Some m)
      by_test true = h
      by_test false = k

  least_open : (o : Option ℕ) (ts : List ℕ) → IsOpenIn o → IsOpenIn (least_from links rs o ts)
  least_open o [] h = h
  least_open o (t ∷ ts) h = least_open (if is_unsettled links rs t then lesser o t else o) ts (by_test (is_unsettled links rs t) refl)
    where
      by_test : (b : Bool) → is_unsettled links rs t ≡ b → IsOpenIn (if b then lesser o t else o)
      by_test true is = lesser_open o t h is
      by_test false is = h

-- ---- the first unsettled record

-- each unsettled process has at least this number, where there is one
abbrev AreCovered : List Link → Option ℕ → List ProcessRecord → Type 0
AreCovered links least [] = Unit {0}
AreCovered links least (r ∷ rs) = (is_settled links r ≡ false → IsAtMost least r.node) × AreCovered links least rs

found_above : (pid low high : ℕ) (rs : List ProcessRecord) (r : ProcessRecord) → Ascend low rs high → find_record pid rs ≡ Some r → low < pid
found_above pid low high [] r up found = absurd (cc)
found_above pid low high (q ∷ qs) r up found = by_test (q.node == pid) refl found (λ more. found_above pid q.node high qs r up.2 more)
  where
    by_test : (b : Bool) → q.node == pid ≡ b → (if b then Some q else find_record pid qs) ≡ Some r → (find_record pid qs ≡ Some r → q.node < pid) → low < pid
    by_test true is h rest = omega (arith, up.0, eqb-true q.node pid is)
    by_test false is h rest = omega (arith, up.0, rest h)

open_found : (links : List Link) (o : Option ProcessRecord) → is_open links o ≡ true → (r : ProcessRecord) × (o ≡ Some r)
open_found links None h = absurd (false≢true h)
open_found links (Some r) h = (r, refl)

none_left : (links : List Link) (rs : List ProcessRecord) → AreCovered links None rs → None ≡ unsettled links rs
none_left links [] h = refl
none_left links (r ∷ rs) h = by_test (is_settled links r) refl (none_left links rs h.1)
  where
    by_test : (b : Bool) → is_settled links r ≡ b → None ≡ unsettled links rs → None ≡ (if b then unsettled links rs else Some r.node)
    by_test true is rest = rest
    by_test false is rest = absurd (h.0 is)

first_left : (links : List Link) (p low high : ℕ) (rs : List ProcessRecord) → Ascend low rs high → AreCovered links (Some p) rs → is_unsettled links rs p ≡ true
    → Some p ≡ unsettled links rs
first_left links p low high [] up h live = absurd (false≢true live)
first_left links p low high (r ∷ rs) up h live =
    by_test (is_settled links r) refl (r.node == p) refl live (λ more. first_left links p r.node high rs up.2 h.1 more)
  where
    by_test : (b : Bool) → is_settled links r ≡ b → (e : Bool) → r.node == p ≡ e → is_open links (if e then Some r else find_record p rs) ≡ true
        → (is_unsettled links rs p ≡ true → Some p ≡ unsettled links rs)
        → Some p ≡ (if b then unsettled links rs else Some r.node)
    by_test true is true same o rest = absurd (false≢true (ap (λ (b : Bool). not b) (sym is) ∙ o))
    by_test true is false same o rest = rest o
    by_test false is true same o rest = ap (λ (n : ℕ). Some n) (sym (eqb-true r.node p same))
    by_test false is false same o rest =
        let q = open_found links (find_record p rs) o in
        absurd (omega (arith, h.0 is, found_above p r.node high rs q.0 up.2 q.1))

covered : (links : List Link) (all : List ProcessRecord) (ts : List ℕ) (low high : ℕ) (rs : List ProcessRecord)
    → ((n : ℕ) → low < n → find_record n all ≡ find_record n rs) → Ascend low rs high → AreSettledBut ts links rs
    → AreCovered links (least_from links all None ts) rs
covered links all ts low high [] same up h = tt
covered links all ts low high (r ∷ rs) same up h = (
  λ live.
      let found : find_record r.node all ≡ Some r = same r.node up.0 ∙ ap (λ (b : Bool). if b then Some r else find_record r.node rs) (eq-eqb r.node r.node refl) in
      let here : is_unsettled links all r.node ≡ true = ap (is_open links) found ∙ ap (λ (b : Bool). not b) live in
      ⊎_elim (λ among. touched_at_most links all None ts r.node among here) (λ out. absurd (false≢true (sym live ∙ h.0 out))) (cases_Bool (is_among r.node ts)),
  covered links all ts r.node high rs
      (λ n lt. same n (omega (arith, up.0)) ∙ ap (λ (b : Bool). if b then Some r else find_record n rs) (ne_eqb r.node n (λ e. omega (arith, e)))) up.2 h.1,
)

-- the least unsettled process that was touched is the first that is unsettled
pub least_is_first : (links : List Link) (rs : List ProcessRecord) (ts : List ℕ) (low high : ℕ) → Ascend low rs high → AreSettledBut ts links rs
    → least_from links rs None ts ≡ unsettled links rs
least_is_first links rs ts low high up h =
    by_case (least_from links rs None ts) (covered links rs ts low high rs (λ n lt. refl) up h) (least_open links rs None ts tt)
  where
    by_case : (o : Option ℕ) → AreCovered links o rs → IsOpenIn links rs o → o ≡ unsettled links rs
    by_case None c live = none_left links rs c
    by_case (Some p) c live = first_left links p low high rs up c live

-- ---- each process once

-- the numbers may stand in another order
pub settled_sorted : (t t' : List ℕ) (links : List Link) (rs : List ProcessRecord) → IsPermutation t t' → AreSettledBut t links rs → AreSettledBut t' links rs
settled_sorted t t' links rs p h = settled_as t t' links links (λ r out. (list_any-IsPermutation (λ m. m == r.node) t t' p ∙ out, refl)) rs h

-- the process that was looked at last, if it is unsettled, isn't below the least
abbrev pub WasLookedAt : List Link → List ProcessRecord → Option ℕ → Option ℕ → Type 0
WasLookedAt links rs least None = Unit {0}
WasLookedAt links rs least (Some p) = is_unsettled links rs p ≡ true → IsAtMost least p
