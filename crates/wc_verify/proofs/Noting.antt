-- One more job is noted.
use Rattle.std.proofs.Common.{◌≡◌, ◌≢◌, ◌↔◌, ℕ, ◌<◌, ◌≤◌, Bool, true, false, List, [], ◌∷◌, ◌++◌, ◌⊎◌, inl, inr, ⊎_elim, refl, sym, ap, subst, ◌∙◌, arith}
use Rattle.std.specs.Prelude.{Option, Some, None, nat_le, if◌then◌else◌}
use Rattle.std.specs.Str.{bytes_eq}
use Rattle.std.specs.BTreeMap.{insert_entry}
use Rattle.std.proofs.lemmas.Bool.{cases_eq, leb-true, leb-false}
use Rattle.std.proofs.lemmas.Slice.Eq.{bytes_eq-Decides}
use Rattle.wc_value.specs.declared.process.JobResult.{JobResult}
use Rattle.wc_verify.specs.declared.firsts.First.{First}
use Rattle.wc_verify.specs.declared.firsts.Firsts.{Firsts}
use Rattle.wc_verify.specs.Faults.{IsNotAfter}
use Rattle.wc_verify.specs.Firsts.{Noted, Stands, AreBelow, Ascend, IsPair, IsPairOrNone, Settles, IsLeastPair, AreFirsts, FitsFirst, first_among, first_named, lesser}
use Rattle.wc_value.proofs.Named.{Key, Got, got, order}

-- ---- what stands in a list

pub split : (ns : List Noted) (n a : Noted) → Stands a (ns ++ n ∷ []) → Stands a ns ⊎ (n ≡ a)
split [] n a (inl e) = inr e
split [] n a (inr bad) = absurd bad
split (x ∷ xs) n a (inl e) = inl (inl e)
split (x ∷ xs) n a (inr s) = on (split xs n a s)
  where
    on : Stands a xs ⊎ (n ≡ a) → Stands a (x ∷ xs) ⊎ (n ≡ a)
    on (inl t) = inl (inr t)
    on (inr e) = inr e

pub before : (ns : List Noted) (n a : Noted) → Stands a ns → Stands a (ns ++ n ∷ [])
before (x ∷ xs) n a (inl e) = inl e
before (x ∷ xs) n a (inr s) = inr (before xs n a s)
before [] n a s = absurd s

pub last : (ns : List Noted) (n : Noted) → Stands n (ns ++ n ∷ [])
last [] n = inl refl
last (x ∷ xs) n = inr (last xs n)

pub ascend_on : (ns : List Noted) (n : Noted) → Ascend ns → AreBelow n.pid ns → Ascend (ns ++ n ∷ [])
ascend_on [] n h below = (λ a bad. absurd bad, tt)
ascend_on (x ∷ xs) n h below = (λ a s. at a (split xs n a s), ascend_on xs n h.1 (λ a s. below a (inr s)))
  where
    at : (a : Noted) → Stands a xs ⊎ (n ≡ a) → x.pid < a.pid
    at a (inl s) = h.0 a s
    at a (inr e) = subst (λ (y : Noted). x.pid < y.pid) e (below x (inl refl))

-- ---- the first that asked

abbrev pub firstly : Noted → First
firstly n = record { pid = n.pid; result = n.result }

-- the first that asked this
pub record IsFirst (asked : List ℕ) (ns : List Noted) (f : First) : Type 0 where
  pub noted : Noted
  pub stands : Stands noted ns
  pub same : noted.asked ≡ asked
  pub is : f ≡ firstly noted
  pub first : (a : Noted) → Stands a ns → a.asked ≡ asked → (noted ≡ a) ⊎ (noted.pid < a.pid)

pub first_is : (asked : List ℕ) (ns : List Noted) (f : First) → Ascend ns → first_among asked ns ≡ Some f → IsFirst asked ns f
first_is asked [] f h e = absurd (cc)
first_is asked (n ∷ ns) f h e = at (bytes_eq n.asked asked) refl (first_is asked ns f h.1) e
  where
    later : bytes_eq n.asked asked ≡ false → IsFirst asked ns f → IsFirst asked (n ∷ ns) f
    later not_so i = record {
      noted = i.noted;
      stands = inr i.stands;
      same = i.same;
      is = i.is;
      first = λ a s asks. by a asks s;
    }
      where
        by : (a : Noted) → a.asked ≡ asked → Stands a (n ∷ ns) → (i.noted ≡ a) ⊎ (i.noted.pid < a.pid)
        by a asks (inl e) = let yes : bytes_eq n.asked asked ≡ true = (bytes_eq-Decides n.asked asked).1 (ap (λ (y : Noted). y.asked) e ∙ asks) in absurd (cc (yes, not_so))
        by a asks (inr s) = i.first a s asks

    at : (b : Bool) → bytes_eq n.asked asked ≡ b → (first_among asked ns ≡ Some f → IsFirst asked ns f) → (if b then Some (firstly n) else first_among asked ns) ≡ Some f → IsFirst asked (n ∷ ns) f
    at true so rest e = record {
      noted = n;
      stands = inl refl;
      same = (bytes_eq-Decides n.asked asked).0 so;
      is = let s : firstly n ≡ f = cc in sym s;
      first = λ a s asks. by a s;
    }
      where
        by : (a : Noted) → Stands a (n ∷ ns) → (n ≡ a) ⊎ (n.pid < a.pid)
        by a (inl e) = inl e
        by a (inr s) = inr (h.0 a s)
    at false not_so rest e = later not_so (rest e)

pub none_asked : (asked : List ℕ) (ns : List Noted) → first_among asked ns ≡ None → (a : Noted) → Stands a ns → a.asked ≡ asked → ⊥
none_asked asked [] e a s asks = s
none_asked asked (n ∷ ns) e a s asks = at (bytes_eq n.asked asked) refl (λ h t. none_asked asked ns h a t asks) e s
  where
    at : (b : Bool) → bytes_eq n.asked asked ≡ b → (first_among asked ns ≡ None → Stands a ns → ⊥) → (if b then Some (firstly n) else first_among asked ns) ≡ None
        → Stands a (n ∷ ns) → ⊥
    at true so rest e s = absurd (cc)
    at false not_so rest e (inl is) = let yes : bytes_eq n.asked asked ≡ true = (bytes_eq-Decides n.asked asked).1 (ap (λ (y : Noted). y.asked) is ∙ asks) in absurd (cc (yes, not_so))
    at false not_so rest e (inr s) = rest e s

abbrev either : Option First → Bool → First → Option First
either (Some f) b g = Some f
either None b g = if b then Some g else None

among_push : (asked : List ℕ) (ns : List Noted) (n : Noted) → first_among asked (ns ++ n ∷ []) ≡ either (first_among asked ns) (bytes_eq n.asked asked) (firstly n)
among_push asked [] n = refl
among_push asked (x ∷ xs) n = at (bytes_eq x.asked asked) (among_push asked xs n)
  where
    at : (b : Bool) → first_among asked (xs ++ n ∷ []) ≡ either (first_among asked xs) (bytes_eq n.asked asked) (firstly n)
        → (if b then Some (firstly x) else first_among asked (xs ++ n ∷ [])) ≡ either (if b then Some (firstly x) else first_among asked xs) (bytes_eq n.asked asked) (firstly n)
    at true rest = refl
    at false rest = rest

-- one that asked what another asked before is not the first
pub among_again : (asked : List ℕ) (ns : List Noted) (n : Noted) (f : First) → first_among n.asked ns ≡ Some f → first_among asked (ns ++ n ∷ []) ≡ first_among asked ns
among_again asked ns n f had = among_push asked ns n ∙ at (first_among asked ns) (bytes_eq n.asked asked) refl refl
  where
    at : (o : Option First) (b : Bool) → first_among asked ns ≡ o → bytes_eq n.asked asked ≡ b → either o b (firstly n) ≡ o
    at (Some g) b e h = refl
    at None false e h = refl
    at None true e h =
        let same : n.asked ≡ asked = (bytes_eq-Decides n.asked asked).0 h in
        let none : first_among n.asked ns ≡ None = ap (λ (k : List ℕ). first_among k ns) same ∙ e in absurd (cc (none, had))

-- one that asked what none asked before is the first
pub among_new : (asked : List ℕ) (ns : List Noted) (n : Noted) → first_among n.asked ns ≡ None
    → first_among asked (ns ++ n ∷ []) ≡ (if bytes_eq n.asked asked then Some (firstly n) else first_among asked ns)
among_new asked ns n none = among_push asked ns n ∙ at (first_among asked ns) (bytes_eq n.asked asked) refl refl
  where
    at : (o : Option First) (b : Bool) → first_among asked ns ≡ o → bytes_eq n.asked asked ≡ b → either o b (firstly n) ≡ (if b then Some (firstly n) else o)
    at None true e h = refl
    at None false e h = refl
    at (Some g) false e h = refl
    at (Some g) true e h =
        let same : n.asked ≡ asked = (bytes_eq-Decides n.asked asked).0 h in
        let none' : first_among asked ns ≡ None = ap (λ (k : List ℕ). first_among k ns) (sym same) ∙ none in absurd (cc (none', e))

-- ---- the least pair

abbrev Both : List Noted → Noted → Noted → Noted → Type 0
Both ns n a b = (Stands a ns × Stands b ns) ⊎ (Stands a ns × (n ≡ b))

pairs : (ns : List Noted) (n a b : Noted) → AreBelow n.pid ns → Stands a (ns ++ n ∷ []) → Stands b (ns ++ n ∷ []) → a.pid < b.pid → Both ns n a b
pairs ns n a b below sa sb less = at (split ns n a sa) (split ns n b sb)
  where
    at : Stands a ns ⊎ (n ≡ a) → Stands b ns ⊎ (n ≡ b) → Both ns n a b
    at (inl s) (inl t) = inl (s, t)
    at (inl s) (inr e) = inr (s, e)
    at (inr e) (inl t) = let h : b.pid < n.pid = below b t in let k : n.pid ≡ a.pid = ap (λ (y : Noted). y.pid) e in absurd (omega arith)
    at (inr e) (inr f) = let h : n.pid ≡ a.pid = ap (λ (y : Noted). y.pid) e in let k : n.pid ≡ b.pid = ap (λ (y : Noted). y.pid) f in absurd (omega arith)

module _ (ns : List Noted) (n : Noted) (below : AreBelow n.pid ns) where
  pair_stays : (l : Option (ℕ × ℕ)) → IsPairOrNone ns l → IsPairOrNone (ns ++ n ∷ []) l
  pair_stays None h = tt
  pair_stays (Some p) h = record {
    one = h.one;
    other = h.other;
    one_stands = before ns n h.one h.one_stands;
    other_stands = before ns n h.other h.other_stands;
    before = h.before;
    asked = h.asked;
    results = h.results;
    is = h.is;
  }

  settled : (l : Option (ℕ × ℕ)) → ((a b : Noted) → Stands a ns → Stands b ns → a.pid < b.pid → a.asked ≡ b.asked → Settles l a b)
      → ((a : Noted) → Stands a ns → a.asked ≡ n.asked → Settles l a n) → (a b : Noted) → Stands a (ns ++ n ∷ []) → Stands b (ns ++ n ∷ []) → a.pid < b.pid
      → a.asked ≡ b.asked → Settles l a b
  settled l old new a b sa sb less asks = at (pairs ns n a b below sa sb less)
    where
      at : Both ns n a b → Settles l a b
      at (inl s) = old a b s.0 s.1 less asks
      at (inr s) = subst (Settles l a) s.1 (new a s.0 (subst (λ (y : Noted). a.asked ≡ y.asked) (sym s.1) asks))

  kept : (l : Option (ℕ × ℕ)) → ((a : Noted) → Stands a ns → a.asked ≡ n.asked → Settles l a n) → IsLeastPair ns l → IsLeastPair (ns ++ n ∷ []) l
  kept l new h = record { pair = pair_stays l h.pair; settles = settled l h.settles new }

  -- nothing asked this before
  pub least_new : (l : Option (ℕ × ℕ)) → first_among n.asked ns ≡ None → IsLeastPair ns l → IsLeastPair (ns ++ n ∷ []) l
  least_new l none = kept l (λ a s asks. absurd (none_asked n.asked ns none a s asks))

  module _ (f : First) (i : IsFirst n.asked ns f) where
    -- the first that asked this has the same result
    pub least_same : (l : Option (ℕ × ℕ)) → f.result ≡ n.result → IsLeastPair ns l → IsLeastPair (ns ++ n ∷ []) l
    least_same l same h = kept l (λ a s asks. at a s asks (i.first a s asks)) h
      where
        result : i.noted.result ≡ n.result
        result = ap (λ (x : First). x.result) (sym i.is) ∙ same

        equal : (l : Option (ℕ × ℕ)) (a : Noted) → a.result ≡ n.result → Settles l a n
        equal None a e = e
        equal (Some p) a e = λ differ. absurd (differ e)

        later : (l : Option (ℕ × ℕ)) (a : Noted) → a.pid < n.pid → i.noted.pid < a.pid → Settles l i.noted a → Settles l a n
        later None a low less e = sym e ∙ result
        later (Some p) a low less e = λ differ. by (e (λ same. differ (sym same ∙ result)))
          where
            by : IsNotAfter p (i.noted.pid, a.pid) → IsNotAfter p (a.pid, n.pid)
            by (inl lt) = inl (omega arith)
            by (inr eq) = let e = eq.0 in inl (omega arith)

        at : (a : Noted) → Stands a ns → a.asked ≡ n.asked → (i.noted ≡ a) ⊎ (i.noted.pid < a.pid) → Settles l a n
        at a s asks (inl e) = equal l a (ap (λ (y : Noted). y.result) (sym e) ∙ result)
        at a s asks (inr less) = later l a (below a s) less (h.settles i.noted a i.stands s less (i.same ∙ sym asks))

    -- the first that asked this has another result
    module _ (differs : f.result ≢ n.result) where
      number : f.pid ≡ i.noted.pid
      number = ap (λ (x : First). x.pid) i.is

      not_after : (a : Noted) → (i.noted ≡ a) ⊎ (i.noted.pid < a.pid) → IsNotAfter (f.pid, n.pid) (a.pid, n.pid)
      not_after a (inl e) = let k : i.noted.pid ≡ a.pid = ap (λ (y : Noted). y.pid) e in inr (number ∙ k, omega arith)
      not_after a (inr less) = let k = number in inl (omega arith)

      taken : ((a b : Noted) → Stands a ns → Stands b ns → a.pid < b.pid → a.asked ≡ b.asked → Settles (Some (f.pid, n.pid)) a b)
          → IsLeastPair (ns ++ n ∷ []) (Some (f.pid, n.pid))
      taken old = record {
        pair = record {
          one = i.noted;
          other = n;
          one_stands = before ns n i.noted i.stands;
          other_stands = last ns n;
          before = below i.noted i.stands;
          asked = i.same;
          results = λ e. differs (ap (λ (x : First). x.result) i.is ∙ e);
          is = ap (λ (k : ℕ). (k, n.pid)) number;
        };
        settles = settled (Some (f.pid, n.pid)) old (λ a s asks differ. not_after a (i.first a s asks));
      }

      low : (p : ℕ × ℕ) → IsPair ns p → p.1 < n.pid
      low p q = let e : p.1 ≡ q.other.pid = ap (λ (x : ℕ × ℕ). x.1) q.is in let h : q.other.pid < n.pid = below q.other q.other_stands in omega arith

      after_first : (p : ℕ × ℕ) → p.0 ≤ f.pid → p.1 < n.pid → (a : Noted) → (i.noted ≡ a) ⊎ (i.noted.pid < a.pid) → IsNotAfter p (a.pid, n.pid)
      after_first p le h a (inl e) =
          let k : i.noted.pid ≡ a.pid = ap (λ (y : Noted). y.pid) e in
          let m = number in
          ⊎_elim (λ same. inr (same, omega arith)) (λ ne. inl (omega arith)) (cases_eq p.0 a.pid)
      after_first p le h a (inr less) = let m = number in inl (omega arith)

      before_all : (p : ℕ × ℕ) → f.pid < p.0 → (q : ℕ × ℕ) → IsNotAfter p q → IsNotAfter (f.pid, n.pid) q
      before_all p less q (inl h) = inl (omega arith)
      before_all p less q (inr h) = let e = h.0 in inl (omega arith)

      pub least_other : (l : Option (ℕ × ℕ)) → IsLeastPair ns l → IsLeastPair (ns ++ n ∷ []) (lesser l f.pid n.pid)
      least_other None h = taken (λ a b sa sb less asks differ. absurd (differ (h.settles a b sa sb less asks)))
      least_other (Some p) h = at (nat_le p.0 f.pid) refl
        where
          at : (b : Bool) → nat_le p.0 f.pid ≡ b → IsLeastPair (ns ++ n ∷ []) (if b then Some p else Some (f.pid, n.pid))
          at true so = kept (Some p) (λ a s asks differ. after_first p (leb-true p.0 f.pid so) (low p h.pair) a (i.first a s asks)) h
          at false not_so = taken (λ a b sa sb less asks differ. before_all p (leb-false p.0 f.pid not_so) (a.pid, b.pid) (h.settles a b sa sb less asks differ))

-- ---- what is kept

-- where another asked this before
pub again : (ns : List Noted) (n : Noted) (old new : Firsts) (f : First) → AreBelow n.pid ns → AreFirsts ns old → first_named n.asked old.by_request ≡ Some f
    → new.by_request ≡ old.by_request → (IsFirst n.asked ns f → IsLeastPair (ns ++ n ∷ []) new.least) → AreFirsts (ns ++ n ∷ []) new
again ns n old new f below h found same least =
    let had : first_among n.asked ns ≡ Some f = sym (h.firsts n.asked) ∙ found in
    record {
      ascend = ascend_on ns n h.ascend below;
      firsts = λ asked. ap (first_named asked) same ∙ h.firsts asked ∙ sym (among_again asked ns n f had);
      least = least (first_is n.asked ns f h.ascend had);
    }

-- where none asked this before
pub anew : (ns : List Noted) (n : Noted) (old new : Firsts) (key : Key) (value : First) → AreBelow n.pid ns → AreFirsts ns old → key.items ≡ n.asked → value ≡ firstly n
    → first_named n.asked old.by_request ≡ None → new.by_request.entries ≡ insert_entry order old.by_request.entries key value → new.least ≡ old.least → AreFirsts (ns ++ n ∷ []) new
anew ns n old new key value below h is_key is_value none entries same =
    let new_one : first_among n.asked ns ≡ None = sym (h.firsts n.asked) ∙ none in
    record {
      ascend = ascend_on ns n h.ascend below;
      firsts = λ asked.
          ap (Got asked) entries ∙ got asked key value old.by_request.entries
          ∙ (λ j. if bytes_eq (is_key j) asked then Some (is_value j) else first_named asked old.by_request)
          ∙ ap (λ (o : Option First). if bytes_eq n.asked asked then Some (firstly n) else o) (h.firsts asked)
          ∙ sym (among_new asked ns n new_one);
      least = subst (IsLeastPair (ns ++ n ∷ [])) (sym same) (least_new ns n below old.least new_one h.least);
    }

-- ---- what a look-up says

pub fits_none : (given : JobResult) (o : Option First) (r : Option (ℕ × Bool)) → FitsFirst given o r → r ≡ None → o ≡ None
fits_none given None r h e = refl
fits_none given (Some f) None h e = absurd h
fits_none given (Some f) (Some p) h e = absurd (cc)

pub record HasFirst (given : JobResult) (o : Option First) (number : ℕ) (same : Bool) : Type 0 where
  pub first : First
  pub is : o ≡ Some first
  pub number_is : number ≡ first.pid
  pub alike : (same ≡ true) ↔ (first.result ≡ given)

pub fits_some : (given : JobResult) (o : Option First) (r : Option (ℕ × Bool)) (number : ℕ) (same : Bool) → FitsFirst given o r → r ≡ Some (number, same) → HasFirst given o number same
fits_some given None None number same h e = absurd (cc)
fits_some given None (Some p) number same h e = absurd h
fits_some given (Some f) None number same h e = absurd h
fits_some given (Some f) (Some p) number same h e =
    let is : p ≡ (number, same) = cc in
    record {
      first = f;
      is = refl;
      number_is = ap (λ (x : ℕ × Bool). x.0) (sym is) ∙ h.0;
      alike = subst (λ (x : ℕ × Bool). (x.1 ≡ true) ↔ (f.result ≡ given)) is h.1;
    }

pub noted_again : (ns : List Noted) (n : Noted) (old new : Firsts) (number : ℕ) (same : Bool) → AreBelow n.pid ns → AreFirsts ns old
    → HasFirst n.result (first_named n.asked old.by_request) number same → new.by_request ≡ old.by_request
    → new.least ≡ (if same then old.least else lesser old.least number n.pid) → AreFirsts (ns ++ n ∷ []) new
noted_again ns n old new number same below h has stays least =
    again ns n old new has.first below h has.is stays (λ i. by same has.alike least i)
  where
    by : (same : Bool) → ((same ≡ true) ↔ (has.first.result ≡ n.result)) → new.least ≡ (if same then old.least else lesser old.least number n.pid)
        → IsFirst n.asked ns has.first → IsLeastPair (ns ++ n ∷ []) new.least
    by true alike e i = subst (IsLeastPair (ns ++ n ∷ [])) (sym e) (least_same ns n below has.first i old.least (alike.0 refl) h.least)
    by false alike e i =
        subst (IsLeastPair (ns ++ n ∷ [])) (sym (e ∙ ap (λ (k : ℕ). lesser old.least k n.pid) has.number_is))
        (least_other ns n below has.first i (λ same. let so : false ≡ true = alike.1 same in absurd (cc)) old.least h.least)
