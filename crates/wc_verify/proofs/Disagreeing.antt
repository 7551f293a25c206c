-- Jobs are noted one after another, and the least two that disagree are those of the world.
use Rattle.std.proofs.Common.{◌≡◌, ◌≢◌, ℕ, suc, ◌+◌, ◌<◌, Bool, true, false, ◌⊎◌, inl, inr, Option, Some, None, List, [], ◌∷◌, ◌++◌, length, take, get_or, refl, sym, ap, subst, ◌∙◌, arith}
use Rattle.std.specs.Prelude.{All, ◌==◌, nat_lt}
use Rattle.std.proofs.Math.Seq.{take-suc}
use Rattle.std.proofs.lemmas.Bool.{cases_eq, ltb-true, ltb-false}
use Rattle.std.proofs.lemmas.List.Elements.{All-head, All-tail}
use Rattle.wc_value.specs.Spells.{Spells}
use Rattle.wc_value.specs.Requests.{dictionary_of}
use Rattle.wc_value.proofs.Respelled.{spells_is}
use Rattle.wc_value.proofs.Variants.{same_requests}
use Rattle.wc_value.specs.declared.process.JobResult.{JobResult}
use Rattle.wc_value.specs.declared.process.Request.{Request}
use Rattle.wc_expression.specs.declared.outcome.Outcome.TheVariants.{Gives}
use Rattle.wc_state.specs.declared.record.ProcessRecord.{ProcessRecord}
use Rattle.wc_world.specs.World.{World}
use Rattle.wc_world.specs.Consistent.{IsConsistent}
use Rattle.wc_world.specs.Records.{find_record}
use Rattle.wc_world.proofs.ReachedLists.{cond_some_cases, found_node, unique}
use Rattle.wc_machine.specs.Recorded.{HasResult, recorded_request}
use Rattle.wc_machine.specs.Recorded as kinds
use Rattle.wc_verify.specs.Faults.{DisagreeBy, HasResultAmong, HaveOneOrigin, IsLeastAmong, IsLeastDisagreement, IsNotAfter}
use Rattle.wc_verify.specs.declared.firsts.Firsts.{Firsts}
use Rattle.wc_verify.specs.Firsts.{AreBelow, AreFirsts, IsPair, IsPairOrNone, Noted, Settles, Stands}
use Rattle.wc_verify.specs.Givers.{AreLastGivers, result_giver}
use Rattle.wc_verify.specs.Noted.{AreBytesOf, HaveNoted, IsAmong, IsNoted, IsRecorded}
use Rattle.wc_verify.proofs.Given.{found_itself}
use Rattle.wc_verify.proofs.Noting.{before, last, split}
use Rattle.wc_verify.proofs.Results.{one_result}

-- ---- among processes

among_split : (rs : List ProcessRecord) (s r : ProcessRecord) → IsAmong r (rs ++ s ∷ []) → IsAmong r rs ⊎ (s ≡ r)
among_split [] s r (inl e) = inr e
among_split [] s r (inr bad) = absurd bad
among_split (x ∷ xs) s r (inl e) = inl (inl e)
among_split (x ∷ xs) s r (inr t) = on (among_split xs s r t)
  where
    on : IsAmong r xs ⊎ (s ≡ r) → IsAmong r (x ∷ xs) ⊎ (s ≡ r)
    on (inl t) = inl (inr t)
    on (inr e) = inr e

among_before : (rs : List ProcessRecord) (s r : ProcessRecord) → IsAmong r rs → IsAmong r (rs ++ s ∷ [])
among_before [] s r t = absurd t
among_before (x ∷ xs) s r (inl e) = inl e
among_before (x ∷ xs) s r (inr t) = inr (among_before xs s r t)

among_last : (rs : List ProcessRecord) (s : ProcessRecord) → IsAmong s (rs ++ s ∷ [])
among_last [] s = inl refl
among_last (x ∷ xs) s = inr (among_last xs s)

all_among : (P : ProcessRecord → Type 0) (rs : List ProcessRecord) (r : ProcessRecord) → All P rs → IsAmong r rs → P r
all_among P [] r h t = absurd t
all_among P (x ∷ xs) r h (inl e) = subst P e (All-head P x xs h)
all_among P (x ∷ xs) r h (inr t) = all_among P xs r (All-tail P x xs h) t

found_among : (pid : ℕ) (rs : List ProcessRecord) (r : ProcessRecord) → find_record pid rs ≡ Some r → IsAmong r rs
found_among pid [] r h = absurd (cc)
found_among pid (x ∷ xs) r h =
    elim (cond_some_cases (x.node == pid) x r (find_record pid xs) h) [
      | inl p ↦ inl p.1
      | inr p ↦ inr (found_among pid xs r p.1)
    ]

-- ---- one more process

recorded_on : (has : ℕ → JobResult → Type 0) (w : World) (rs : List ProcessRecord) (s : ProcessRecord) (n : Noted) → IsRecorded has w rs n → IsRecorded has w (rs ++ s ∷ []) n
recorded_on has w rs s n i = record {
  process = i.process;
  among = among_before rs s i.process i.among;
  number = i.number;
  result = i.result;
  request = i.request;
  asks = i.asks;
  spells = i.spells;
}

pub none_noted : (has : ℕ → JobResult → Type 0) (w : World) (firsts : Firsts) → AreFirsts [] firsts → HaveNoted has w [] firsts
none_noted has w firsts f = record {
  seen = [];
  kept = f;
  noted = record { only = λ n bad. absurd bad; all = λ r bad x had q asks. absurd bad };
}

-- a process without a result, or without a request, is passed over
pub passed_over : (has : ℕ → JobResult → Type 0) (w : World) (rs : List ProcessRecord) (r : ProcessRecord) (firsts : Firsts) → HaveNoted has w rs firsts
    → ((x : JobResult) (q : Request) → has r.node x → recorded_request w r ≡ Some (Gives q) → ⊥) → HaveNoted has w (rs ++ r ∷ []) firsts
passed_over has w rs r firsts h lacks = record {
  seen = h.seen;
  kept = h.kept;
  noted = record {
    only = λ n s. recorded_on has w rs r n (h.noted.only n s);
    all = λ p t x had q asks. at p x had q asks (among_split rs r p t);
  };
}
  where
    at : (p : ProcessRecord) (x : JobResult) → has p.node x → (q : Request) → recorded_request w p ≡ Some (Gives q) → IsAmong p rs ⊎ (r ≡ p) → IsNoted h.seen p.node q x
    at p x had q asks (inl t) = h.noted.all p t x had q asks
    at p x had q asks (inr e) =
        absurd (lacks x q (subst (λ (y : ProcessRecord). has y.node x) (sym e) had) (subst (λ (y : ProcessRecord). recorded_request w y ≡ Some (Gives q)) (sym e) asks))

abbrev noted_as : ProcessRecord → List ℕ → JobResult → Noted
noted_as r bytes given = record { pid = r.node; asked = bytes; result = given }

pub noted_on : (has : ℕ → JobResult → Type 0) (w : World) (rs : List ProcessRecord) (r : ProcessRecord) (given : JobResult) (bytes : List ℕ) (old new : Firsts) → All (λ x. x.node < r.node) rs
    → HaveNoted has w rs old → has r.node given → ((y : JobResult) → has r.node y → y ≡ given) → AreBytesOf (recorded_request w r) (Some bytes)
    → ((seen : List Noted) → AreBelow r.node seen → AreFirsts seen old → AreFirsts (seen ++ record { pid = r.node; asked = bytes; result = given } ∷ []) new)
    → HaveNoted has w (rs ++ r ∷ []) new
noted_on has w rs r given bytes old new lower h had only asked step = record {
  seen = h.seen ++ (noted_as r bytes given) ∷ [];
  kept = step h.seen below h.kept;
  noted = record {
    only = λ n s. recorded n (split h.seen (noted_as r bytes given) n s);
    all = λ p t x had_x q asks. stands p x had_x q asks (among_split rs r p t);
  };
}
  where
    below : AreBelow r.node h.seen
    below n s = let i = h.noted.only n s in let less : i.process.node < r.node = all_among (λ x. x.node < r.node) rs i.process lower i.among in let e = i.number in omega arith

    recorded : (n : Noted) → Stands n h.seen ⊎ ((noted_as r bytes given) ≡ n) → IsRecorded has w (rs ++ r ∷ []) n
    recorded n (inl s) = recorded_on has w rs r n (h.noted.only n s)
    recorded n (inr e) = subst (IsRecorded has w (rs ++ r ∷ [])) e (record {
      process = r;
      among = among_last rs r;
      number = refl;
      result = had;
      request = asked.0;
      asks = asked.1;
      spells = asked.2;
    })

    here : (x : JobResult) (q : Request) → has r.node x → recorded_request w r ≡ Some (Gives q) → IsNoted (h.seen ++ (noted_as r bytes given) ∷ []) r.node q x
    here x q has_x asks =
        let both : Some (Gives asked.0) ≡ Some (Gives q) = sym asked.1 ∙ asks in
        let equal : asked.0 ≡ q = cc in
        record {
          noted = (noted_as r bytes given);
          stands = last h.seen (noted_as r bytes given);
          number = refl;
          result = sym (only x has_x);
          spells = subst (λ (p : Request). Spells (dictionary_of p) bytes) equal asked.2;
        }

    stands : (p : ProcessRecord) (x : JobResult) → has p.node x → (q : Request) → recorded_request w p ≡ Some (Gives q) → IsAmong p rs ⊎ (r ≡ p)
        → IsNoted (h.seen ++ (noted_as r bytes given) ∷ []) p.node q x
    stands p x has_x q asks (inl t) =
        let i = h.noted.all p t x has_x q asks in
        record { noted = i.noted; stands = before h.seen (noted_as r bytes given) i.noted i.stands; number = i.number; result = i.result; spells = i.spells }
    stands p x has_x q asks (inr e) =
        subst (λ (y : ProcessRecord). IsNoted (h.seen ++ (noted_as r bytes given) ∷ []) y.node q x) e
        (here x q (subst (λ (y : ProcessRecord). has y.node x) (sym e) has_x) (subst (λ (y : ProcessRecord). recorded_request w y ≡ Some (Gives q)) (sym e) asks))

pub some_result : (x y : JobResult) → Some x ≡ Some y → x ≡ y
some_result x y e = cc

-- the processes up to a place and the one there
pub taken_on : (has : ℕ → JobResult → Type 0) (w : World) (rs : List ProcessRecord) (i : ℕ) (d r : ProcessRecord) (firsts : Firsts) → i < length rs → r ≡ get_or rs i d
    → HaveNoted has w (take i rs ++ r ∷ []) firsts → HaveNoted has w (take (i + 1) rs) firsts
taken_on has w rs i d r firsts lt is h =
    let next : i + 1 ≡ suc i = omega arith in
    let on : take (i + 1) rs ≡ take i rs ++ r ∷ [] = ap (λ (n : ℕ). take n rs) next ∙ take-suc rs i d lt ∙ ap (λ (x : ProcessRecord). take i rs ++ x ∷ []) (sym is) in
    subst (λ (xs : List ProcessRecord). HaveNoted has w xs firsts) (sym on) h

-- ---- all processes

-- a recorded result is a process's
owner : (w : World) (n : ℕ) (x : JobResult) → HasResult w n x → (r : ProcessRecord) × (find_record n w.records ≡ Some r)
owner w n x (kinds.own r code files found is_job has folder) = (r, found)
owner w n x (kinds.cached r s y found is_job alive from has) = (r, found)

pub either : (a b : ℕ) → a ≢ b → (a < b) ⊎ (b < a)
either a b ne = at (nat_lt a b) refl
  where
    at : (t : Bool) → nat_lt a b ≡ t → (a < b) ⊎ (b < a)
    at true h = inl (ltb-true a b h)
    at false h = let le = ltb-false a b h in inr (omega arith)

equal_results : (l : Option (ℕ × ℕ)) (a b : Noted) → l ≡ None → Settles l a b → a.result ≡ b.result
equal_results None a b e h = h
equal_results (Some p) a b e h = absurd (cc)

not_after : (l : Option (ℕ × ℕ)) (p : ℕ × ℕ) (a b : Noted) → l ≡ Some p → Settles l a b → a.result ≢ b.result → IsNotAfter p (a.pid, b.pid)
not_after None p a b e h = absurd (cc)
not_after (Some q) p a b e h = let same : q ≡ p = cc in λ differ. subst (λ (x : ℕ × ℕ). IsNotAfter x (a.pid, b.pid)) same (h differ)

taken_pair : (ns : List Noted) (l : Option (ℕ × ℕ)) (p : ℕ × ℕ) → l ≡ Some p → IsPairOrNone ns l → IsPair ns p
taken_pair ns None p e h = absurd (cc)
taken_pair ns (Some q) p e h = let same : q ≡ p = cc in subst (IsPair ns) same h

module _ (has : ℕ → JobResult → Type 0) (only : (n : ℕ) (x y : JobResult) → has n x → has n y → x ≡ y) (w : World) (c : IsConsistent w) (firsts : Firsts)
    (h : HaveNoted has w w.records firsts) where
  found : (r : ProcessRecord) → IsAmong r w.records → find_record r.node w.records ≡ Some r
  found r t = all_among (λ x. find_record x.node w.records ≡ Some x) w.records r (unique 1 w.nodes w.records c.numbered) t

  -- two processes that asked the same, by their numbers
  pub record Alike (r s : ProcessRecord) (x y : JobResult) : Type 0 where
    pub one : Noted
    pub other : Noted
    pub one_number : one.pid ≡ r.node
    pub other_number : other.pid ≡ s.node
    pub one_result : one.result ≡ x
    pub other_result : other.result ≡ y
    pub settled : r.node < s.node → Settles firsts.least one other

  alike : (r s : ProcessRecord) (q : Request) (x y : JobResult) → find_record r.node w.records ≡ Some r → find_record s.node w.records ≡ Some s
      → recorded_request w r ≡ Some (Gives q) → recorded_request w s ≡ Some (Gives q) → has r.node x → has s.node y → Alike r s x y
  alike r s q x y r_there s_there r_asks s_asks r_has s_has =
      let i = h.noted.all r (found_among r.node w.records r r_there) x r_has q r_asks in
      let j = h.noted.all s (found_among s.node w.records s s_there) y s_has q s_asks in
      let bytes : i.noted.asked ≡ j.noted.asked = spells_is (dictionary_of q) i.noted.asked i.spells ∙ sym (spells_is (dictionary_of q) j.noted.asked j.spells) in
      record {
        one = i.noted;
        other = j.noted;
        one_number = i.number;
        other_number = j.number;
        one_result = i.result;
        other_result = j.result;
        settled = λ less. let a = i.number in let b = j.number in h.kept.least.settles i.noted j.noted i.stands j.stands (omega arith) bytes;
      }

  pub by_request : firsts.least ≡ None → (r s : ProcessRecord) → find_record r.node w.records ≡ Some r → find_record s.node w.records ≡ Some s → (q : Request) (x y : JobResult)
      → recorded_request w r ≡ Some (Gives q) → recorded_request w s ≡ Some (Gives q) → has r.node x → has s.node y → x ≡ y
  by_request none r s r_there s_there q x y r_asks s_asks r_has s_has =
      elim (cases_eq r.node s.node) [
        | inl e ↦ only r.node x y r_has (subst (λ (n : ℕ). has n y) (sym e) s_has)
        | inr ne ↦ elim (either r.node s.node ne) [
          | inl less ↦
              let a = alike r s q x y r_there s_there r_asks s_asks r_has s_has in
              sym a.one_result ∙ equal_results firsts.least a.one a.other none (a.settled less) ∙ a.other_result
          | inr less ↦
              let a = alike s r q y x s_there r_there s_asks r_asks s_has r_has in
              sym (sym a.one_result ∙ equal_results firsts.least a.one a.other none (a.settled less) ∙ a.other_result)
        ]
      ]

  module _ (p : ℕ × ℕ) (is : firsts.least ≡ Some p) where
    pub disagrees : DisagreeBy has w p.0 p.1
    disagrees =
        let pair = taken_pair h.seen firsts.least p is h.kept.least.pair in
        let one = h.noted.only pair.one pair.one_stands in
        let other = h.noted.only pair.other pair.other_stands in
        let requests : one.request ≡ other.request = same_requests one.request other.request pair.one.asked one.spells (subst (Spells (dictionary_of other.request)) (sym pair.asked) other.spells) in
        subst (λ (x : ℕ × ℕ). DisagreeBy has w x.0 x.1) (sym pair.is) (record {
          before = pair.before;
          one = one.process;
          other = other.process;
          one_found = subst (λ (n : ℕ). find_record n w.records ≡ Some one.process) one.number (found one.process one.among);
          other_found = subst (λ (n : ℕ). find_record n w.records ≡ Some other.process) other.number (found other.process other.among);
          request = one.request;
          one_asks = one.asks;
          other_asks = subst (λ (q : Request). recorded_request w other.process ≡ Some (Gives q)) (sym requests) other.asks;
          one_result = pair.one.result;
          other_result = pair.other.result;
          one_has = subst (λ (n : ℕ). has n pair.one.result) one.number one.result;
          other_has = subst (λ (n : ℕ). has n pair.other.result) other.number other.result;
          differ = pair.results;
        })

    pub least : (a b : ℕ) → DisagreeBy has w a b → IsNotAfter p (a, b)
    least a b d =
        let one_node : d.one.node ≡ a = found_node a w.records d.one d.one_found in
        let other_node : d.other.node ≡ b = found_node b w.records d.other d.other_found in
        let l = alike d.one d.other d.request d.one_result d.other_result (found_itself w c a d.one d.one_found) (found_itself w c b d.other d.other_found) d.one_asks d.other_asks
        (subst (λ (n : ℕ). has n d.one_result) (sym one_node) d.one_has) (subst (λ (n : ℕ). has n d.other_result) (sym other_node) d.other_has) in
        let less : d.one.node < d.other.node = let m = d.before in omega arith in
        subst (λ (x : ℕ × ℕ). IsNotAfter p x) (λ i. ((l.one_number ∙ one_node) i, (l.other_number ∙ other_node) i))
        (not_after firsts.least p l.one l.other is (l.settled less) (λ e. d.differ (sym l.one_result ∙ e ∙ l.other_result)))

module _ (w : World) (c : IsConsistent w) (origins : HaveOneOrigin w) (lasts : List ℕ) (are : AreLastGivers result_giver w lasts) (firsts : Firsts)
    (h : HaveNoted (HasResult w) w w.records firsts) where
  only_one : (n : ℕ) (x y : JobResult) → HasResult w n x → HasResult w n y → x ≡ y
  only_one n x y p q =
      let r = owner w n x p in
      let itself = found_itself w c n r.0 r.1 in
      let number : r.0.node ≡ n = found_node n w.records r.0 r.1 in
      one_result w c origins lasts are r.0 itself x y (subst (λ (m : ℕ). HasResult w m x) (sym number) p) (subst (λ (m : ℕ). HasResult w m y) (sym number) q)

  pub least_of_world : IsLeastDisagreement w firsts.least
  least_of_world = at firsts.least refl
    where
      at : (l : Option (ℕ × ℕ)) → firsts.least ≡ l → IsLeastDisagreement w l
      at None e = by_request (HasResult w) only_one w c firsts h e
      at (Some p) e = (disagrees (HasResult w) only_one w c firsts h p e, least (HasResult w) only_one w c firsts h p e)

-- ---- jobs that were chosen

module _ (w : World) (c : IsConsistent w) (chosen : ℕ → Bool) (firsts : Firsts) (h : HaveNoted (HasResultAmong w chosen) w w.records firsts) where
  only_among : (n : ℕ) (x y : JobResult) → HasResultAmong w chosen n x → HasResultAmong w chosen n y → x ≡ y
  only_among n x y p q = some_result x y (sym p.1 ∙ q.1)

  pub least_among : IsLeastAmong w chosen firsts.least
  least_among = at firsts.least refl
    where
      none : firsts.least ≡ None → (p q : ℕ) → DisagreeBy (HasResultAmong w chosen) w p q → ⊥
      none e p q d =
          let one : d.one.node ≡ p = found_node p w.records d.one d.one_found in
          let other : d.other.node ≡ q = found_node q w.records d.other d.other_found in
          d.differ (by_request (HasResultAmong w chosen) only_among w c firsts h e d.one d.other (found_itself w c p d.one d.one_found) (found_itself w c q d.other d.other_found)
          d.request d.one_result d.other_result d.one_asks d.other_asks
          (subst (λ (n : ℕ). HasResultAmong w chosen n d.one_result) (sym one) d.one_has) (subst (λ (n : ℕ). HasResultAmong w chosen n d.other_result) (sym other) d.other_has))

      at : (l : Option (ℕ × ℕ)) → firsts.least ≡ l → IsLeastAmong w chosen l
      at None e = none e
      at (Some p) e =
          (disagrees (HasResultAmong w chosen) only_among w c firsts h p e, least (HasResultAmong w chosen) only_among w c firsts h p e)
