-- The least of some findings.
use Rattle.std.proofs.Common.{◌⊎◌, inl, inr, ⊎_elim, ◌≡◌, ◌<◌, ◌+◌, ℕ, zero, suc, List, [], ◌∷◌, ◌++◌, Bool, true, false, refl, sym, ap, subst, ◌∙◌, length, get_or, drop, drop-cons, add-one, append-nil, map, arith}
use Rattle.std.specs.Prelude.{Option, Some, None, flat_map, if◌then◌else◌, ◌||◌}
use Rattle.std.specs.List.{Contains}
use Rattle.std.specs.Str.{bytes_eq}
use Rattle.std.proofs.lemmas.Slice.Eq.{bytes_eq-Decides}
use Rattle.std.proofs.lemmas.List.Concat.{flat_map-append}
use Rattle.std.proofs.lemmas.List.Folds.{flat_map-map}
use Rattle.std.proofs.lemmas.Cmp.{then_total, on_total, nat_cmp_total, nat_list_cmp_total, tied_itself, upto}
use Rattle.std.proofs.lemmas.Map.Lookups.{exact_unsigned, exact_bytes}
use Rattle.std.specs.Cmp.{IsTotalOrder}
use Rattle.std.specs.declared.cmp.Ordering.{Ordering}
use Rattle.std.specs.declared.cmp.Ordering.TheVariants.{Less, Equal, Greater}
use Rattle.std.specs.Ordering.{nat_cmp, is_lt, is_gt, ordering_then, ordering_reverse}
use Rattle.wc_syntax.specs.First.{finding_cmp, IsFirst}
use Rattle.wc_syntax.specs.Findings.{Finding, is_among}
use Rattle.wc_check.specs.Least.{lesser, least_after, Agree}

pub least_joined : (best : Option Finding) (fs gs : List Finding) → least_after best (fs ++ gs) ≡ least_after (least_after best fs) gs
least_joined best [] gs = refl
least_joined best (f ∷ fs) gs = least_joined (lesser best f) fs gs

-- ---- in a loop over a list
pub drop_at : {A : Type 0} (xs : List A) (i : ℕ) (x : A) → i < length xs → x ≡ get_or xs i x → drop i xs ≡ x ∷ drop (i + 1) xs
drop_at xs i x h e = rw add-one (drop-cons xs i x h ∙ ap (λ y. y ∷ drop (suc i) xs) (sym e))

-- one item more, whose findings are taken
pub least_turn : {A : Type 0} (f : A → List Finding) (best now : Option Finding) (x : A) (xs : List A) → now ≡ least_after best (f x) → least_after now (flat_map f xs) ≡ least_after best (flat_map f (x ∷ xs))
least_turn f best now x xs e = ap (λ b. least_after b (flat_map f xs)) e ∙ sym (least_joined best (f x) (flat_map f xs))

pub least_step : {A : Type 0} (f : A → List Finding) (best now all : Option Finding) (xs : List A) (i : ℕ) (x : A)
    → least_after best (flat_map f (drop i xs)) ≡ all → now ≡ least_after best (f x) → i < length xs → x ≡ get_or xs i x → least_after now (flat_map f (drop (i + 1) xs)) ≡ all
least_step f best now all xs i x p q h e = least_turn f best now x (drop (i + 1) xs) q ∙ ap (λ ys. least_after best (flat_map f ys)) (sym (drop_at xs i x h e)) ∙ p

-- the same, where the items are seen by g
pub least_seen : {X A : Type 0} (f : A → List Finding) (g : X → A) (best now all : Option Finding) (xs : List X) (i : ℕ) (x : X)
    → least_after best (flat_map f (map g (drop i xs))) ≡ all → now ≡ least_after best (f (g x)) → i < length xs → x ≡ get_or xs i x → least_after now (flat_map f (map g (drop (i + 1) xs))) ≡ all
least_seen f g best now all xs i x p q h e =
    least_turn f best now (g x) (map g (drop (i + 1) xs)) q ∙ ap (λ ys. least_after best (flat_map f (map g ys))) (sym (drop_at xs i x h e)) ∙ p

-- ---- some after the others
pub least_ended : (best : Option Finding) (fs : List Finding) → least_after best (fs ++ []) ≡ least_after best fs
least_ended best fs = ap (least_after best) (append-nil fs)

pub least_both : {A : Type 0} (f : A → List Finding) (best : Option Finding) (xs ys : List A) → least_after best (flat_map f (xs ++ ys)) ≡ least_after (least_after best (flat_map f xs)) (flat_map f ys)
least_both f best xs ys = ap (least_after best) (flat_map-append f xs ys) ∙ least_joined best (flat_map f xs) (flat_map f ys)

pub least_two : {A : Type 0} (f : A → List Finding) (best b₁ b₂ : Option Finding) (xs ys all : List A) → b₁ ≡ least_after best (flat_map f xs) → b₂ ≡ least_after b₁ (flat_map f ys) → all ≡ xs ++ ys → b₂ ≡ least_after best (flat_map f all)
least_two f best b₁ b₂ xs ys all p q h = q ∙ ap (λ b. least_after b (flat_map f ys)) p ∙ sym (least_both f best xs ys) ∙ ap (λ zs. least_after best (flat_map f zs)) (sym h)

-- one, and then those of two lists
pub least_lines : {A X Y : Type 0} (f : A → List Finding) (g : X → A) (k : Y → A) (best b₁ b₂ b₃ : Option Finding) (x : A) (xs : List X) (ys : List Y)
    → b₁ ≡ least_after best (f x) → b₂ ≡ least_after b₁ (flat_map (λ a. f (g a)) xs) → b₃ ≡ least_after b₂ (flat_map (λ a. f (k a)) ys) → b₃ ≡ least_after best (flat_map f (x ∷ map g xs ++ map k ys))
least_lines f g k best b₁ b₂ b₃ x xs ys p q r =
    least_two f b₁ b₂ b₃ (map g xs) (map k ys) (map g xs ++ map k ys) (q ∙ ap (least_after b₁) (sym (flat_map-map f g xs))) (r ∙ ap (least_after b₂) (sym (flat_map-map f k ys))) refl
    ∙ ap (λ b. least_after b (flat_map f (map g xs ++ map k ys))) p
    ∙ sym (least_joined best (f x) (flat_map f (map g xs ++ map k ys)))

-- the same in a loop, where each item has several parts
pub least_parts : {A B : Type 0} (f : B → List Finding) (g : A → List B) (best now all : Option Finding) (xs : List A) (i : ℕ) (x : A)
    → least_after best (flat_map f (flat_map g (drop i xs))) ≡ all → now ≡ least_after best (flat_map f (g x)) → i < length xs → x ≡ get_or xs i x → least_after now (flat_map f (flat_map g (drop (i + 1) xs))) ≡ all
least_parts f g best now all xs i x p q h e =
    ap (λ b. least_after b (flat_map f (flat_map g (drop (i + 1) xs)))) q
    ∙ sym (least_both f best (g x) (flat_map g (drop (i + 1) xs)))
    ∙ ap (λ ys. least_after best (flat_map f (flat_map g ys))) (sym (drop_at xs i x h e))
    ∙ p

-- ---- what the least of some findings is
pub findings_total : IsTotalOrder finding_cmp
findings_total = then_total (on_total (λ (f : Finding). f.at) nat_cmp_total) (then_total (on_total (λ (f : Finding). f.number) nat_cmp_total) (on_total (λ (f : Finding). f.name) nat_list_cmp_total))

then_equal : (o p : Ordering) → ordering_then o p ≡ Equal → (o ≡ Equal) × (p ≡ Equal)
then_equal Less p e = absurd (cc)
then_equal Equal p e = (refl, e)
then_equal Greater p e = absurd (cc)

same_finding : (f g : Finding) → finding_cmp f g ≡ Equal → f ≡ g
same_finding f g e =
    let p = then_equal (nat_cmp f.at g.at) _ e in
    let q = then_equal (nat_cmp f.number g.number) _ p.1 in
    λ i. record { number = exact_unsigned f.number g.number q.0 i; name = exact_bytes f.name g.name q.1 i; at = exact_unsigned f.at g.at p.0 i }

-- f does not stand after g
abbrev pub Upto : Finding → Finding → Type 0
Upto f g = is_lt (finding_cmp g f) ≡ false

abbrev pub In : Finding → List Finding → Type 0
In f [] = ⊥
In f (g ∷ gs) = (g ≡ f) ⊎ In f gs

-- one of the findings, and none of them stands before it
pub record IsLeast (fs : List Finding) (f : Finding) : Type 0 where
  pub among : In f fs
  pub least : (g : Finding) → In g fs → Upto f g

upto_itself : (f : Finding) → Upto f f
upto_itself f = ap is_lt (tied_itself findings_total f)

not_less : (o : Ordering) → is_lt o ≡ false → (o ≡ Equal) ⊎ (o ≡ Greater)
not_less Less h = absurd (cc)
not_less Equal h = inl refl
not_less Greater h = inr refl

is_less : (o : Ordering) → is_lt o ≡ true → o ≡ Less
is_less Less h = refl
is_less Equal h = absurd (cc)
is_less Greater h = absurd (cc)

gt_is : (o : Ordering) → is_gt o ≡ is_lt (ordering_reverse o)
gt_is Less = refl
gt_is Equal = refl
gt_is Greater = refl

upto_more : (f g h : Finding) → Upto f g → Upto g h → Upto f h
upto_more f g h p q = back f h (upto findings_total f g h (there f g p) (there g h q))
  where
    there : (f g : Finding) → Upto f g → is_gt (finding_cmp f g) ≡ false
    there f g p = gt_is (finding_cmp f g) ∙ ap is_lt (sym (findings_total.antisymm g f)) ∙ p

    back : (f g : Finding) → is_gt (finding_cmp f g) ≡ false → Upto f g
    back f g p = ap is_lt (findings_total.antisymm g f) ∙ sym (gt_is (finding_cmp f g)) ∙ p

pub upto_both : (f g : Finding) → Upto f g → Upto g f → f ≡ g
upto_both f g p q = ⊎_elim (λ e. same_finding f g e) (λ e. let r : finding_cmp g f ≡ Less = findings_total.antisymm g f ∙ ap ordering_reverse e in absurd (cc (p, ap is_lt r))) (not_less (finding_cmp f g) q)

after_less : (x f : Finding) → is_lt (finding_cmp x f) ≡ true → Upto x f
after_less x f h = let e : finding_cmp f x ≡ Greater = findings_total.antisymm f x ∙ ap ordering_reverse (is_less (finding_cmp x f) h) in ap is_lt e

record Found (f : Finding) (fs : List Finding) : Type 0 where
  finding : Finding
  is : least_after (Some f) fs ≡ Some finding
  least : IsLeast (f ∷ fs) finding

least_by : (f x : Finding) (xs : List Finding) (b : Bool) → is_lt (finding_cmp x f) ≡ b → Found x xs → Found f xs → Found f (x ∷ xs)
least_by f x xs true h r s = record {
  finding = r.finding;
  is = ap (λ (b : Bool). least_after (if b then Some x else Some f) xs) h ∙ r.is;
  least = record {
    among = inr r.least.among;
    least = λ g. ⊎_elim (λ (e : f ≡ g). subst (λ (y : Finding). Upto r.finding y) e (upto_more r.finding x f (r.least.least x (inl refl)) (after_less x f h))) (λ (i : In g (x ∷ xs)). r.least.least g i);
  };
}
least_by f x xs false h s r = record {
  finding = r.finding;
  is = ap (λ (b : Bool). least_after (if b then Some x else Some f) xs) h ∙ r.is;
  least = record {
    among = ⊎_elim (λ (e : f ≡ r.finding). inl e) (λ (i : In r.finding xs). inr (inr i)) r.least.among;
    least = λ g. ⊎_elim (λ (e : f ≡ g). r.least.least g (inl e))
        (⊎_elim (λ (e : x ≡ g). subst (λ (y : Finding). Upto r.finding y) e (upto_more r.finding f x (r.least.least f (inl refl)) h)) (λ (i : In g xs). r.least.least g (inr i)));
  };
}

least_some : (f : Finding) (fs : List Finding) → Found f fs
least_some f [] = record { finding = f; is = refl; least = record { among = inl refl; least = λ g. ⊎_elim (λ e. subst (λ x. Upto f x) e (upto_itself f)) (λ n. absurd n) } }
least_some f (x ∷ xs) = least_by f x xs (is_lt (finding_cmp x f)) refl (least_some x xs) (least_some f xs)

one_least : (fs gs : List Finding) (f g : Finding) → ((x : Finding) → In x fs → In x gs) → ((x : Finding) → In x gs → In x fs) → IsLeast fs f → IsLeast gs g → f ≡ g
one_least fs gs f g to from a b = upto_both f g (a.least g (from g b.among)) (b.least f (to f a.among))

pub least_same : (b : Option Finding) (fs gs : List Finding) → ((x : Finding) → In x fs → In x gs) → ((x : Finding) → In x gs → In x fs) → least_after b fs ≡ least_after b gs
least_same None [] [] to from = refl
least_same None [] (g ∷ gs) to from = absurd (from g (inl refl))
least_same None (f ∷ fs) [] to from = absurd (to f (inl refl))
least_same None (f ∷ fs) (g ∷ gs) to from =
    let p = least_some f fs in
    let q = least_some g gs in
    p.is ∙ ap (λ (x : Finding). Some x) (one_least (f ∷ fs) (g ∷ gs) p.finding q.finding to from p.least q.least) ∙ sym q.is
least_same (Some b) fs gs to from =
    let p = least_some b fs in
    let q = least_some b gs in
    p.is
    ∙ ap (λ (x : Finding). Some x) (one_least (b ∷ fs) (b ∷ gs) p.finding q.finding
    (λ x. ⊎_elim (λ (e : b ≡ x). inl e) (λ (i : In x fs). inr (to x i))) (λ x. ⊎_elim (λ (e : b ≡ x). inl e) (λ (i : In x gs). inr (from x i))) p.least q.least)
    ∙ sym q.is

-- ---- the first of all findings
pub none_first : (fs : List Finding) → least_after None fs ≡ None → fs ≡ []
none_first [] h = refl
none_first (f ∷ fs) h = let r = least_some f fs in absurd (cc (h, r.is))

in_contains : (f : Finding) (fs : List Finding) → In f fs → Contains fs f
in_contains f [] i = absurd i
in_contains f (g ∷ gs) i =
    ⊎_elim (λ (e : g ≡ f). (0, omega arith, e)) (λ (j : In f gs). let c = in_contains f gs j in (suc c.0, (let h : c.0 < length gs = c.1 in omega arith), c.2)) i

contains_by : (f g : Finding) (gs : List Finding) (k : ℕ) → k < length (g ∷ gs) → get_or (g ∷ gs) k f ≡ f → (Contains gs f → In f gs) → In f (g ∷ gs)
contains_by f g gs zero h e more = inl e
contains_by f g gs (suc k) h e more = inr (more (k, omega arith, e))

pub contains_in : (f : Finding) (fs : List Finding) → Contains fs f → In f fs
contains_in f [] c = let h : c.0 < 0 = c.1 in absurd (omega arith)
contains_in f (g ∷ gs) c = contains_by f g gs c.0 c.1 c.2 (contains_in f gs)

pub some_first : (fs : List Finding) (f : Finding) → least_after None fs ≡ Some f → IsFirst fs f
some_first [] f h = absurd (cc)
some_first (g ∷ gs) f h =
    let r = least_some g gs in
    let e : r.finding ≡ f = cc (h, r.is) in
    record {
      among = in_contains f (g ∷ gs) (subst (λ (x : Finding). In x (g ∷ gs)) e r.least.among);
      least = λ x i. subst (λ (y : Finding). Upto y x) e (r.least.least x (contains_in x (g ∷ gs) i));
    }

-- ---- findings of some names
in_append : (f : Finding) (fs gs : List Finding) → In f (fs ++ gs) → In f fs ⊎ In f gs
in_append f [] gs i = inr i
in_append f (x ∷ fs) gs i =
    ⊎_elim (λ (e : x ≡ f). inl (inl e)) (λ (j : In f (fs ++ gs)). ⊎_elim (λ (k : In f fs). inl (inr k)) (λ (k : In f gs). inr k) (in_append f fs gs j)) i

in_left : (f : Finding) (fs gs : List Finding) → In f fs → In f (fs ++ gs)
in_left f [] gs i = absurd i
in_left f (x ∷ fs) gs i = ⊎_elim (λ (e : x ≡ f). inl e) (λ (j : In f fs). inr (in_left f fs gs j)) i

in_right : (f : Finding) (fs gs : List Finding) → In f gs → In f (fs ++ gs)
in_right f [] gs i = i
in_right f (x ∷ fs) gs i = inr (in_right f fs gs i)

-- a finding of one of the names
record Of (m : List ℕ → List Finding) (f : Finding) (ns : List (List ℕ)) : Type 0 where
  name : List ℕ
  among : is_among name ns ≡ true
  found : In f (m name)

or_right : (a b : Bool) → b ≡ true → (a || b) ≡ true
or_right true b h = refl
or_right false b h = h

in_flat : (m : List ℕ → List Finding) (f : Finding) (ns : List (List ℕ)) → In f (flat_map m ns) → Of m f ns
in_flat m f [] i = absurd i
in_flat m f (n ∷ ns) i =
    ⊎_elim (λ (j : In f (m n)). record { name = n; among = ap (λ (b : Bool). b || is_among n ns) ((bytes_eq-Decides n n).1 refl); found = j })
    (λ (j : In f (flat_map m ns)). let r = in_flat m f ns j in record { name = r.name; among = or_right (bytes_eq n r.name) (is_among r.name ns) r.among; found = r.found })
    (in_append f (m n) (flat_map m ns) i)

flat_by : (m : List ℕ → List Finding) (f : Finding) (n x : List ℕ) (ns : List (List ℕ)) (b : Bool) → bytes_eq x n ≡ b → (b || is_among n ns) ≡ true → In f (m n) → (is_among n ns ≡ true → In f (flat_map m ns))
    → In f (m x ++ flat_map m ns)
flat_by m f n x ns true e h i more = in_left f (m x) (flat_map m ns) (subst (λ (y : List ℕ). In f (m y)) (sym ((bytes_eq-Decides x n).0 e)) i)
flat_by m f n x ns false e h i more = in_right f (m x) (flat_map m ns) (more h)

flat_in : (m : List ℕ → List Finding) (f : Finding) (n : List ℕ) (ns : List (List ℕ)) → is_among n ns ≡ true → In f (m n) → In f (flat_map m ns)
flat_in m f n [] h i = absurd (cc)
flat_in m f n (x ∷ ns) h i = flat_by m f n x ns (bytes_eq x n) refl h i (λ more. flat_in m f n ns more i)

pub least_agree : (b : Option Finding) (m : List ℕ → List Finding) (xs ys : List (List ℕ)) → Agree xs ys → least_after b (flat_map m xs) ≡ least_after b (flat_map m ys)
least_agree b m xs ys h = least_same b (flat_map m xs) (flat_map m ys)
    (λ f i. let r = in_flat m f xs i in flat_in m f r.name ys (sym (h r.name) ∙ r.among) r.found)
    (λ f i. let r = in_flat m f ys i in flat_in m f r.name xs (h r.name ∙ r.among) r.found)

-- ---- the order in which findings are taken doesn't matter
in_swapped : (f : Finding) (fs gs : List Finding) → In f (fs ++ gs) → In f (gs ++ fs)
in_swapped f fs gs i = ⊎_elim (λ (j : In f fs). in_right f gs fs j) (λ (j : In f gs). in_left f gs fs j) (in_append f fs gs i)

pub least_swapped : (best : Option Finding) (fs gs : List Finding) → least_after (least_after best fs) gs ≡ least_after (least_after best gs) fs
least_swapped best fs gs =
    sym (least_joined best fs gs)
    ∙ least_same best (fs ++ gs) (gs ++ fs) (λ x i. in_swapped x fs gs i) (λ x i. in_swapped x gs fs i)
    ∙ least_joined best gs fs

-- each item has findings of two kinds
pub least_split : {A : Type 0} (f g : A → List Finding) (best : Option Finding) (xs : List A) → least_after best (flat_map (λ x. f x ++ g x) xs) ≡ least_after (least_after best (flat_map f xs)) (flat_map g xs)
least_split f g best [] = refl
least_split f g best (x ∷ xs) =
    least_joined best (f x ++ g x) (flat_map (λ y. f y ++ g y) xs)
    ∙ least_split f g (least_after best (f x ++ g x)) xs
    ∙ ap (λ b. least_after (least_after b (flat_map f xs)) (flat_map g xs)) (least_joined best (f x) (g x))
    ∙ ap (λ b. least_after b (flat_map g xs)) (least_swapped (least_after best (f x)) (g x) (flat_map f xs))
    ∙ sym (least_joined (least_after (least_after best (f x)) (flat_map f xs)) (g x) (flat_map g xs))
    ∙ ap (λ b. least_after b (g x ++ flat_map g xs)) (sym (least_joined best (f x) (flat_map f xs)))
