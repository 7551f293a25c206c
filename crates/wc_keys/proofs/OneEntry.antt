-- An entry taken out or put in, and what is left alone.
use Rattle.std.proofs.Common.{◌≡◌, ℕ, ◌<◌, ◌≤◌, Bool, true, false, Option, Some, None, List, [], ◌∷◌, length, map, refl, sym, ap, ◌∙◌, subst, arith}
use Rattle.std.specs.Prelude.{if◌then◌else◌, ◌==◌, ◌||◌, nat_eq, is_some, option_and_then}
use Rattle.std.specs.List.{list_any}
use Rattle.std.proofs.lemmas.Bool.{eq-eqb, eqb-true}
use Rattle.std.proofs.lemmas.List.{length-map}
use Rattle.wc_graph.specs.declared.node.NodeKind.{NodeKind}
use Rattle.wc_graph.specs.declared.link.Link.{Link}
use Rattle.wc_state.specs.declared.record.ProcessRecord.{ProcessRecord}
use Rattle.wc_records.specs.Marked.{marked}
use Rattle.wc_keys.specs.declared.entries.Sealed.{Sealed}
use Rattle.wc_keys.specs.Order.{earlier, AreSealsOf, without}
use Rattle.wc_keys.proofs.Exact.{exact_same, without_none, put_exact, take_exact, fewer_seals, or_right}
use Rattle.wc_fits.specs.World.{Known}
use Rattle.wc_fits.specs.Records.{find_record}
use Rattle.wc_keys.specs.Keys.{digest_by, digest_from, entry_of}

abbrev seal_of : ℕ → List ℕ → Sealed
seal_of pid d = record { digest = d; pid = pid }

-- an entry is that of a digest
record IsEntry (pid : ℕ) (o : Option (List ℕ)) (s : Sealed) : Type 0 where
  digest : List ℕ
  there : o ≡ Some digest
  is : seal_of pid digest ≡ s

entry_told : (pid : ℕ) (o : Option (List ℕ)) (s : Sealed) → entry_of pid o ≡ Some s → IsEntry pid o s
entry_told pid None s h = absurd (cc)
entry_told pid (Some d) s h = record { digest = d; there = refl; is = one_of (seal_of pid d) s h }
  where
    one_of : (x y : Sealed) → ◌≡◌ {A = Option Sealed} (Some x) (Some y) → x ≡ y
    one_of x y e = cc

entry_lacks : (pid : ℕ) (o : Option (List ℕ)) → entry_of pid o ≡ None → o ≡ None
entry_lacks pid None h = refl
entry_lacks pid (Some d) h = absurd (cc)

module _ (f : ℕ → Option (List ℕ)) (pid : ℕ) (seals : List Sealed) where
  pub entry_taken : (s : Sealed) (new : List Sealed) → entry_of pid (f pid) ≡ Some s → new ≡ marked earlier s false seals → AreSealsOf f seals → AreSealsOf (without pid f) new
  entry_taken s new is same h =
      let told = entry_told pid (f pid) s is in
      subst (AreSealsOf (without pid f)) (ap (λ (x : Sealed). marked earlier x false seals) told.is ∙ sym same) (take_exact f pid told.digest told.there seals h)

  pub entry_put : (s : Sealed) (new : List Sealed) → entry_of pid (f pid) ≡ Some s → new ≡ marked earlier s true seals → AreSealsOf (without pid f) seals → AreSealsOf f new
  entry_put s new is same h =
      let told = entry_told pid (f pid) s is in
      subst (AreSealsOf f) (ap (λ (x : Sealed). marked earlier x true seals) told.is ∙ sym same) (put_exact f pid told.digest told.there seals h)

  pub nothing_taken : entry_of pid (f pid) ≡ None → AreSealsOf f seals → AreSealsOf (without pid f) seals
  nothing_taken none h = exact_same f (without pid f) seals (λ n. sym (without_none f pid (entry_lacks pid (f pid) none) n)) h

  pub nothing_put : entry_of pid (f pid) ≡ None → AreSealsOf (without pid f) seals → AreSealsOf f seals
  nothing_put none h = exact_same (without pid f) f seals (without_none f pid (entry_lacks pid (f pid) none)) h

-- ---- a place for each process

number_found : (n : ℕ) (rs : List ProcessRecord) → is_some (find_record n rs) ≡ true → list_any (nat_eq n) (map (λ r. r.node) rs) ≡ true
number_found n [] h = absurd (cc)
number_found n (r ∷ rs) h = told (r.node == n) refl h (number_found n rs)
  where
    told : (b : Bool) → (r.node == n) ≡ b → is_some (if b then Some r else find_record n rs) ≡ true → (is_some (find_record n rs) ≡ true → list_any (nat_eq n) (map (λ (x : ProcessRecord). x.node) rs) ≡ true)
        → nat_eq n r.node || list_any (nat_eq n) (map (λ (x : ProcessRecord). x.node) rs) ≡ true
    told true is _ rest =
        let here : nat_eq n r.node ≡ true = eq-eqb n r.node (sym (eqb-true r.node n is)) in
        ap (λ (b : Bool). b || list_any (nat_eq n) (map (λ (x : ProcessRecord). x.node) rs)) here
    told false is there rest = or_right (nat_eq n r.node) (list_any (nat_eq n) (map (λ (x : ProcessRecord). x.node) rs)) (rest there)

found_there : (g : ProcessRecord → Option (List ℕ)) (o : Option ProcessRecord) (d : List ℕ) → option_and_then g o ≡ Some d → is_some o ≡ true
found_there g None d h = absurd (cc)
found_there g (Some r) d h = refl

without_some : (pid : ℕ) (f : ℕ → Option (List ℕ)) (n : ℕ) (d : List ℕ) → without pid f n ≡ Some d → f n ≡ Some d
without_some pid f n d h = told (n == pid) h
  where
    told : (b : Bool) → (if b then None else f n) ≡ Some d → f n ≡ Some d
    told true e = absurd (cc)
    told false e = e

without_itself : (pid : ℕ) (f : ℕ → Option (List ℕ)) → without pid f pid ≡ None
without_itself pid f = ap (λ (b : Bool). if b then None else f pid) (eq-eqb pid pid refl)

-- while a process has no entry, there is a place for it
pub place_left : (nodes : List NodeKind) (links : List Link) (libraries : List Known) (records : List ProcessRecord) (pid places : ℕ) (s : Sealed) (seals : List Sealed)
    → entry_of pid (digest_from nodes links libraries records pid) ≡ Some s → AreSealsOf (without pid (digest_from nodes links libraries records)) seals → length records ≤ places
    → length seals < places
place_left nodes links libraries records pid places s seals is h few =
    let told = entry_told pid (digest_from nodes links libraries records pid) s is in
    let fewer : length seals < length (map (λ (r : ProcessRecord). r.node) records)
    = fewer_seals (without pid (digest_from nodes links libraries records)) seals h (map (λ (r : ProcessRecord). r.node) records)
    (λ n d e. number_found n records (found_there (digest_by nodes links libraries) (find_record n records) d (without_some pid (digest_from nodes links libraries records) n d e)))
    pid (without_itself pid (digest_from nodes links libraries records))
    (number_found pid records (found_there (digest_by nodes links libraries) (find_record pid records) told.digest told.there)) in
    omega (arith, fewer, few, length-map records (λ (r : ProcessRecord). r.node))
