-- Numbers of nodes whose bits say which of some ends belong to them.
use Rattle.std.proofs.Common.{◌≡◌, ◌≢◌, ◌⊎◌, inl, inr, ⊎_elim, ◌↔◌, ◌<◌, ◌≤◌, ◌+◌, ◌^◌, ◌||◌, ◌/◌, ◌==◌, if◌then◌else◌, ◌++◌, drop, eq-eqb, ℕ, zero, suc, Bool, true, false, List, [], ◌∷◌, length, get_or, refl, sym, ap, subst, arith, ◌∙◌}
use Rattle.std.specs.Prelude.{Contains, Option, None, Some, slice_get, replicate, bit_and, bit_or}
use Rattle.std.specs.Int.{bit_at}
use Rattle.std.proofs.lemmas.Bool.{cases_eq, cases_lt, or_cases, or_left, or_right, eqb-true, true≢false}
use Rattle.std.proofs.lemmas.List.{append-nil, append_assoc, drop_more, drop_all, get_or_past, get_or-replicate, length-replicate}
use Rattle.std.proofs.lemmas.Nat.Bits.{bit_at_or, bit_at-lt, bit_at-zero, bit_at-pow_same, bit_at-pow_other, shr_and_one}
use Rattle.std.proofs.lemmas.Option.{slice_get_within, get_or_from_slice_get, slice_get-get_or}
use Rattle.wc_graph.specs.Walks.{Walks}
use Rattle.wc_graph.specs.declared.link.Link.{Link}
use Rattle.wc_graph.specs.declared.link.LinkType.{LinkType}
use Rattle.wc_graph.proofs.JoinedWalks.{reaches_step, reaches_after}
use Rattle.wc_query.specs.declared.query.LinkTest.{LinkTest}
use Rattle.std.specs.List.{AllByRecursion}
use Rattle.wc_matches.specs.Found.{has, start_of, end_of}
use Rattle.wc_matches.specs.Joins.{Steps, IsJoined, IsJoinedBy}
use Rattle.wc_matches.specs.Masks.{HasBit, AreOwn, Brings, HasBrought, HaveBrought, AreSound, AreMasks, masked, nth_place}
use Rattle.wc_matches.specs.Numbers.{Ascends, AreNumbers}

-- ---- bits

either_bit : (a b i : ℕ) → bit_at (bit_or a b) i ≡ 1 → (bit_at a i ≡ 1) ⊎ (bit_at b i ≡ 1)
either_bit a b i h =
    let both = bit_at_or a b i in
    let first = bit_at-lt a i in
    let other = bit_at-lt b i in
    ⊎_elim (λ (low : bit_at a i < 1). inr (omega (arith, both, h, low, first, other))) (λ (high : 1 ≤ bit_at a i). inl (omega (arith, high, first))) (cases_lt (bit_at a i) 1)

left_bit : (a b i : ℕ) → bit_at a i ≡ 1 → bit_at (bit_or a b) i ≡ 1
left_bit a b i h = omega (arith, bit_at_or a b i, h, bit_at-lt b i)

right_bit : (a b i : ℕ) → bit_at b i ≡ 1 → bit_at (bit_or a b) i ≡ 1
right_bit a b i h = omega (arith, bit_at_or a b i, h, bit_at-lt a i)

no_bit : (i : ℕ) → bit_at 0 i ≡ 1 → ⊥
no_bit i h = omega (arith, h, bit_at-zero i)

none_set : (size n b : ℕ) → HasBit (replicate size 0) n b → ⊥
none_set size n b h = ⊎_elim
    (λ (lt : n < size). no_bit b (sym (ap (λ (x : ℕ). bit_at x b) (get_or-replicate size n 0 0 lt)) ∙ h))
    (λ (ge : size ≤ n). let wide : length {A = ℕ} (replicate size 0) ≡ size = length-replicate {A = ℕ} size 0 in
    no_bit b (sym (ap (λ (x : ℕ). bit_at x b) (get_or_past (replicate size 0) n 0 (omega (arith, ge, wide)))) ∙ h))
    (cases_lt n size)

-- ---- own bits, one end after another

-- those of the first ends
abbrev pub AreOwnBelow : List ℕ → ℕ → List ℕ → Type 0
AreOwnBelow ends place own = (n b : ℕ) → (HasBit own n b ↔ ((b < place) × (get_or ends b 0 ≡ n)))

pub own_none : (ends own : List ℕ) (size : ℕ) → own ≡ replicate size 0 → AreOwnBelow ends 0 own
own_none ends own size is n b = (
  λ h. absurd (none_set size n b (subst (λ (xs : List ℕ). HasBit xs n b) is h)),
  λ h. absurd (omega (arith, h.0)),
)

pub own_more : (ends own more : List ℕ) (place : ℕ) → AreOwnBelow ends place own → get_or more (get_or ends place 0) 0 ≡ bit_or (get_or own (get_or ends place 0) 0) (2 ^ place)
    → ((n : ℕ) → n ≢ get_or ends place 0 → get_or more n 0 ≡ get_or own n 0) → AreOwnBelow ends (place + 1) more
own_more ends own more place h here others n b = (
  λ has. ⊎_elim
      (λ (e : n ≡ get_or ends place 0).
      let bit : bit_at (bit_or (get_or own (get_or ends place 0) 0) (2 ^ place)) b ≡ 1 = sym (ap (λ (x : ℕ). bit_at x b) (ap (λ (k : ℕ). get_or more k 0) e ∙ here)) ∙ has in
      ⊎_elim
      (λ (old : HasBit own (get_or ends place 0) b). let p = (h (get_or ends place 0) b).0 old in (omega (arith, p.0), p.1 ∙ sym e))
      (λ (new : bit_at (2 ^ place) b ≡ 1). let at : b ≡ place = only_bit place b new in (omega (arith, at), ap (λ (k : ℕ). get_or ends k 0) at ∙ sym e))
      (either_bit (get_or own (get_or ends place 0) 0) (2 ^ place) b bit))
      (λ (ne : n ≢ get_or ends place 0). let p = (h n b).0 (sym (ap (λ (x : ℕ). bit_at x b) (others n ne)) ∙ has) in (omega (arith, p.0), p.1))
      (cases_eq n (get_or ends place 0)),
  λ p. ⊎_elim
      (λ (e : n ≡ get_or ends place 0). ap (λ (x : ℕ). bit_at x b) (ap (λ (k : ℕ). get_or more k 0) e ∙ here) ∙ ⊎_elim
      (λ (low : b < place). left_bit (get_or own (get_or ends place 0) 0) (2 ^ place) b ((h (get_or ends place 0) b).1 (low, p.1 ∙ e)))
      (λ (high : place ≤ b). let at : b ≡ place = omega (arith, high, p.0) in
      right_bit (get_or own (get_or ends place 0) 0) (2 ^ place) b (ap (bit_at (2 ^ place)) at ∙ bit_at-pow_same place))
      (cases_lt b place))
      (λ (ne : n ≢ get_or ends place 0). ap (λ (x : ℕ). bit_at x b) (others n ne) ∙ ⊎_elim
      (λ (low : b < place). (h n b).1 (low, p.1))
      (λ (high : place ≤ b). let at : b ≡ place = omega (arith, high, p.0) in absurd (ne (sym p.1 ∙ ap (λ (k : ℕ). get_or ends k 0) at)))
      (cases_lt b place))
      (cases_eq n (get_or ends place 0)),
)
  where
    only_bit : (place b : ℕ) → bit_at (2 ^ place) b ≡ 1 → b ≡ place
    only_bit place b new = ⊎_elim (λ (e : b ≡ place). e) (λ (ne : b ≢ place). absurd (let none = bit_at-pow_other place b ne in omega (arith, none, new))) (cases_eq b place)

pub own_next : (ends own more : List ℕ) (place node bits : ℕ) → AreOwnBelow ends place own → node ≡ get_or ends place 0 → bits ≡ 2 ^ place
    → get_or more node 0 ≡ bit_or (get_or own node 0) bits → ((n : ℕ) → n ≢ node → get_or more n 0 ≡ get_or own n 0) → AreOwnBelow ends (place + 1) more
own_next ends own more place node bits h at is here others =
    own_more ends own more place h
    (subst (λ (x : ℕ). get_or more x 0 ≡ bit_or (get_or own x 0) (2 ^ place)) at (subst (λ (y : ℕ). get_or more node 0 ≡ bit_or (get_or own node 0) y) is here))
    (λ n ne. others n (λ e. ne (e ∙ at)))

pub own_all : (ends own : List ℕ) (place : ℕ) → length ends ≤ place → place ≤ length ends → AreOwnBelow ends place own → AreOwn ends own
own_all ends own place all few h n b lt = (
  λ has. ((h n b).0 has).1,
  λ is. (h n b).1 (omega (arith, lt, all, few), is),
)

pub none_sound : (links : List Link) (join : LinkTest) (own masks : List ℕ) (size : ℕ) → masks ≡ replicate size 0 → AreSound links join own masks
none_sound links join own masks size is n b h = absurd (none_set size n b (subst (λ (xs : List ℕ). HasBit xs n b) is h))

-- ---- what a link brings

pub walk_brings : (own masks : List ℕ) (n b : ℕ) → (bit_at (bit_or (get_or own n 0) (get_or masks n 0)) b ≡ 1) ↔ Brings true own masks n b
walk_brings own masks n b = (
  λ h. ⊎_elim (λ (a : HasBit own n b). inl a) (λ (c : HasBit masks n b). inr (refl, c)) (either_bit (get_or own n 0) (get_or masks n 0) b h),
  λ h. ⊎_elim (λ (a : HasBit own n b). left_bit (get_or own n 0) (get_or masks n 0) b a) (λ (c : (true ≡ true) × HasBit masks n b). right_bit (get_or own n 0) (get_or masks n 0) b c.1) h,
)

pub link_brings : (own masks : List ℕ) (n b : ℕ) → (bit_at (get_or own n 0) b ≡ 1) ↔ Brings false own masks n b
link_brings own masks n b = (
  λ h. inl h,
  λ h. ⊎_elim (λ (a : HasBit own n b). a) (λ (c : (false ≡ true) × HasBit masks n b). absurd (true≢false (sym c.0))) h,
)

step_of : (forward : Bool) (types : List LinkType) (links : List Link) (k : ℕ) (l : Link) → slice_get links k ≡ Some l → Contains types l.link
    → Steps forward types links (start_of forward l) (end_of forward l)
step_of true types links k l is c = (k, l, slice_get_within links k l is, get_or_from_slice_get links k l l is, (c, refl, refl))
step_of false types links k l is c = (k, l, slice_get_within links k l is, get_or_from_slice_get links k l l is, (c, refl, refl))

joined_step : (walk forward : Bool) (types : List LinkType) (links : List Link) (n m : ℕ) → Steps forward types links n m → IsJoinedBy walk forward types links n m
joined_step false forward types links n m s = s
joined_step true forward types links n m s = reaches_step (Steps forward types links) n m s

joined_after : (walk forward : Bool) (types : List LinkType) (links : List Link) (n m k : ℕ) → walk ≡ true → Steps forward types links n m → IsJoinedBy walk forward types links m k
    → IsJoinedBy walk forward types links n k
joined_after false forward types links n m k is s h = absurd (true≢false (sym is))
joined_after true forward types links n m k is s h = reaches_after (Steps forward types links) n m k s h

pub bring_sound : (links : List Link) (join : LinkTest) (own old new : List ℕ) (k : ℕ) (l : Link) (bits : ℕ) → slice_get links k ≡ Some l → Contains join.types l.link
    → ((b : ℕ) → (bit_at bits b ≡ 1) ↔ Brings join.walk own old (end_of join.forward l) b)
    → get_or new (start_of join.forward l) 0 ≡ bit_or (get_or old (start_of join.forward l) 0) bits
    → ((n : ℕ) → n ≢ start_of join.forward l → get_or new n 0 ≡ get_or old n 0) → AreSound links join own old → AreSound links join own new
bring_sound links join own old new k l bits is c brings here others sound n b has = ⊎_elim
    (λ (e : n ≡ start_of join.forward l). ⊎_elim
    (λ (before : HasBit old (start_of join.forward l) b). sound n b (subst (λ (x : ℕ). HasBit old x b) (sym e) before))
    (λ (came : bit_at bits b ≡ 1). ⊎_elim
    (λ (a : HasBit own (end_of join.forward l) b).
    (end_of join.forward l, joined_step join.walk join.forward join.types links n (end_of join.forward l) (from e), a))
    (λ (w : (join.walk ≡ true) × HasBit old (end_of join.forward l) b).
    let s = sound (end_of join.forward l) b w.1 in
    (s.0, joined_after join.walk join.forward join.types links n (end_of join.forward l) s.0 w.0 (from e) s.1, s.2))
    ((brings b).0 came))
    (either_bit (get_or old (start_of join.forward l) 0) bits b (sym (ap (λ (x : ℕ). bit_at x b) (ap (λ (i : ℕ). get_or new i 0) e ∙ here)) ∙ has)))
    (λ (ne : n ≢ start_of join.forward l). sound n b (sym (ap (λ (x : ℕ). bit_at x b) (others n ne)) ∙ has))
    (cases_eq n (start_of join.forward l))
  where
    from : n ≡ start_of join.forward l → Steps join.forward join.types links n (end_of join.forward l)
    from e = subst (λ (x : ℕ). Steps join.forward join.types links x (end_of join.forward l)) (sym e) (step_of join.forward join.types links k l is c)

pub brought_sound : (links : List Link) (join : LinkTest) (own old new : List ℕ) (k : ℕ) (l : Link) (bits from to : ℕ) → slice_get links k ≡ Some l → Contains join.types l.link
    → from ≡ start_of join.forward l → to ≡ end_of join.forward l → ((b : ℕ) → (bit_at bits b ≡ 1) ↔ Brings join.walk own old to b)
    → get_or new from 0 ≡ bit_or (get_or old from 0) bits → ((n : ℕ) → n ≢ from → get_or new n 0 ≡ get_or old n 0) → AreSound links join own old → AreSound links join own new
brought_sound links join own old new k l bits from to is c starts ends brings here others sound =
    bring_sound links join own old new k l bits is c
    (subst (λ (x : ℕ). (b : ℕ) → (bit_at bits b ≡ 1) ↔ Brings join.walk own old x b) ends brings)
    (subst (λ (x : ℕ). get_or new x 0 ≡ bit_or (get_or old x 0) bits) starts here) (λ n ne. others n (λ e. ne (e ∙ starts))) sound

pub bring_closed : (join : LinkTest) (own old new : List ℕ) (l : Link) (bits : ℕ)
    → ((b : ℕ) → (bit_at bits b ≡ 1) ↔ Brings join.walk own old (end_of join.forward l) b)
    → get_or new (start_of join.forward l) 0 ≡ bit_or (get_or old (start_of join.forward l) 0) bits → new ≡ old → HasBrought join own new l
bring_closed join own old new l bits brings here same c b h =
    ap (λ (x : ℕ). bit_at x b) here
    ∙ right_bit (get_or old (start_of join.forward l) 0) bits b ((brings b).1 (subst (λ (xs : List ℕ). Brings join.walk own xs (end_of join.forward l) b) same h))

-- ---- one link after another

place_within : (back : Bool) (count k : ℕ) → k < count → nth_place back count k < count
place_within true count k lt = omega (arith, lt)
place_within false count k lt = lt

place_twice : (back : Bool) (count k : ℕ) → k < count → nth_place back count (nth_place back count k) ≡ k
place_twice true count k lt = omega (arith, lt)
place_twice false count k lt = refl

within_some : Option Link → Link → Link
within_some None d = d
within_some (Some x) d = x

same_some : (a b : Link) → Some a ≡ Some b → a ≡ b
unfolding within_some
same_some a b e = ap (λ (o : Option Link). within_some o a) e

neither : (one other : Bool) → (one || other) ≡ false → (one ≡ false) × (other ≡ false)
neither true other e = absurd (true≢false e)
neither false other e = (refl, e)

-- what was brought by the first so many
abbrev pub HaveBroughtBelow : List Link → LinkTest → List ℕ → ℕ → List ℕ → Type 0
HaveBroughtBelow links join own n masks =
    (k : ℕ) (x : Link) → k < n → slice_get links (nth_place join.forward (length links) k) ≡ Some x → HasBrought join own masks x

pub brought_next : (links : List Link) (join : LinkTest) (own old new : List ℕ) (n : ℕ) (one changed : Bool) (l : Link) → (changed ≡ false → HaveBroughtBelow links join own n old)
    → (one ≡ false → new ≡ old) → (one ≡ false → HasBrought join own new l) → slice_get links (nth_place join.forward (length links) n) ≡ Some l
    → (one || changed) ≡ false → HaveBroughtBelow links join own (n + 1) new
brought_next links join own old new n one changed l before same here is none k x lt at =
    let both = neither one changed none in
    ⊎_elim
    (λ (low : k < n). subst (λ (xs : List ℕ). HasBrought join own xs x) (sym (same both.0)) (before both.1 k x low at))
    (λ (high : n ≤ k).
    let e : n ≡ k = omega (arith, high, lt) in
    subst (λ (y : Link). HasBrought join own new y)
    (same_some l x (sym is ∙ ap (λ (i : ℕ). slice_get links (nth_place join.forward (length links) i)) e ∙ at)) (here both.0))
    (cases_lt k n)

pub brought_all : (links : List Link) (join : LinkTest) (own masks : List ℕ) (n : ℕ) → length links ≤ n → HaveBroughtBelow links join own n masks → HaveBrought links join own masks
brought_all links join own masks n all h k l is =
    let lt : k < length links = slice_get_within links k l is in
    let near : nth_place join.forward (length links) k < length links = place_within join.forward (length links) k lt in
    h (nth_place join.forward (length links) k) l (omega (arith, near, all))
    (ap (slice_get links) (place_twice join.forward (length links) k lt) ∙ is)

-- ---- the end

step_end : (join : LinkTest) (links : List Link) (own masks : List ℕ) → HaveBrought links join own masks → (n m b : ℕ) → Steps join.forward join.types links n m
    → Brings join.walk own masks m b → HasBit masks n b
step_end join links own masks have n m b s h = at join.forward refl s
  where
    at : (forward : Bool) → join.forward ≡ forward → Steps forward join.types links n m → HasBit masks n b
    at true is s =
        let l = s.1 in
        let got = have s.0 l (slice_get-get_or links s.0 l s.2 ∙ ap (λ (x : Link). Some x) s.3) s.4.0 b in
        subst (λ (x : ℕ). HasBit masks x b) (ap (λ (f : Bool). start_of f l) is ∙ s.4.1)
        (got (subst (λ (x : ℕ). Brings join.walk own masks x b) (sym (ap (λ (f : Bool). end_of f l) is ∙ s.4.2)) h))
    at false is s =
        let l = s.1 in
        let got = have s.0 l (slice_get-get_or links s.0 l s.2 ∙ ap (λ (x : Link). Some x) s.3) s.4.0 b in
        subst (λ (x : ℕ). HasBit masks x b) (ap (λ (f : Bool). start_of f l) is ∙ s.4.2)
        (got (subst (λ (x : ℕ). Brings join.walk own masks x b) (sym (ap (λ (f : Bool). end_of f l) is ∙ s.4.1)) h))

walk_end : (join : LinkTest) (links : List Link) (own masks : List ℕ) → HaveBrought links join own masks → join.walk ≡ true → (m b : ℕ) → HasBit own m b
    → (n : ℕ) (through : List ℕ) → Walks (Steps join.forward join.types links) n through m → HasBit masks n b
walk_end join links own masks have walk m b h n [] w = step_end join links own masks have n m b w (inl h)
walk_end join links own masks have walk m b h n (x ∷ rest) w = step_end join links own masks have n x b w.0 (inr (walk, walk_end join links own masks have walk m b h x rest w.1))

joined_end : (join : LinkTest) (links : List Link) (own masks : List ℕ) → HaveBrought links join own masks → (walk : Bool) → join.walk ≡ walk → (n m b : ℕ) → HasBit own m b
    → IsJoinedBy walk join.forward join.types links n m → HasBit masks n b
joined_end join links own masks have true is n m b h j = walk_end join links own masks have is m b h n j.0 j.1
joined_end join links own masks have false is n m b h j = step_end join links own masks have n m b j (inl h)

pub masks_are : (links : List Link) (join : LinkTest) (ends own masks : List ℕ) → AreOwn ends own → AreSound links join own masks → HaveBrought links join own masks
    → AreMasks links join ends masks
masks_are links join ends own masks are sound have n b lt = (
  λ h. let s = sound n b h in subst (λ (m : ℕ). IsJoined links join n m) (sym ((are s.0 b lt).0 s.2)) s.1,
  λ j. joined_end join links own masks have join.walk refl n (get_or ends b 0) b ((are (get_or ends b 0) b lt).1 refl) j,
)

-- ---- the ends whose bits are set

pub bit_told : (mask place : ℕ) → bit_and (mask / 2 ^ place) 1 ≡ bit_at mask place
bit_told mask place = shr_and_one mask place

chosen_not : (b : Bool) (e : ℕ) (ns : List ℕ) → b ≡ false → (if b then e ∷ ns else ns) ≡ ns
chosen_not true e ns is = absurd (true≢false is)
chosen_not false e ns is = refl

chosen_is : (b : Bool) (e : ℕ) (ns : List ℕ) → b ≡ true → (if b then e ∷ ns else ns) ≡ e ∷ ns
chosen_is true e ns is = refl
chosen_is false e ns is = absurd (true≢false (sym is))

masked_at : (es : List ℕ) (i mask : ℕ) → i < length es
    → masked (drop i es) i mask ≡ (if bit_at mask i == 1 then get_or es i 0 ∷ masked (drop (i + 1) es) (i + 1) mask else masked (drop (i + 1) es) (i + 1) mask)
masked_at es i mask lt =
    let next : suc i ≡ i + 1 = omega arith in
    ap (λ (xs : List ℕ). masked xs i mask) (drop_more es i 0 lt)
    ∙ ap (λ (k : ℕ). if bit_at mask i == 1 then get_or es i 0 ∷ masked (drop (i + 1) es) k mask else masked (drop (i + 1) es) k mask) next

pub masked_past : (es : List ℕ) (i mask : ℕ) (ids more : List ℕ) → i < length es → (bit_at mask i == 1) ≡ false → more ≡ ids
    → more ++ masked (drop (i + 1) es) (i + 1) mask ≡ ids ++ masked (drop i es) i mask
masked_past es i mask ids more lt is kept =
    ap (λ (xs : List ℕ). xs ++ masked (drop (i + 1) es) (i + 1) mask) kept
    ∙ ap (λ (xs : List ℕ). ids ++ xs) (sym (masked_at es i mask lt ∙ chosen_not (bit_at mask i == 1) (get_or es i 0) (masked (drop (i + 1) es) (i + 1) mask) is))

pub masked_more : (es : List ℕ) (i mask : ℕ) (ids more : List ℕ) → i < length es → (bit_at mask i == 1) ≡ true → more ≡ ids ++ get_or es i 0 ∷ []
    → more ++ masked (drop (i + 1) es) (i + 1) mask ≡ ids ++ masked (drop i es) i mask
masked_more es i mask ids more lt is pushed =
    ap (λ (xs : List ℕ). xs ++ masked (drop (i + 1) es) (i + 1) mask) pushed
    ∙ append_assoc ids (get_or es i 0 ∷ []) (masked (drop (i + 1) es) (i + 1) mask)
    ∙ ap (λ (xs : List ℕ). ids ++ xs) (sym (masked_at es i mask lt ∙ chosen_is (bit_at mask i == 1) (get_or es i 0) (masked (drop (i + 1) es) (i + 1) mask) is))

pub masked_all : (es : List ℕ) (i mask : ℕ) (ids all : List ℕ) → length es ≤ i → ids ++ masked (drop i es) i mask ≡ all → ids ≡ all
masked_all es i mask ids all past is = sym (ap (λ (xs : List ℕ). ids ++ masked xs i mask) (drop_all i es past) ∙ append-nil ids) ∙ is

chosen_all : (P : ℕ → Type 0) (b : Bool) (e : ℕ) (ns : List ℕ) → P e → AllByRecursion P ns → AllByRecursion P (if b then e ∷ ns else ns)
chosen_all P true e ns p h = (p, h)
chosen_all P false e ns p h = h

all_masked : (P : ℕ → Type 0) (es : List ℕ) (b mask : ℕ) → AllByRecursion P es → AllByRecursion P (masked es b mask)
all_masked P [] b mask h = tt
all_masked P (e ∷ es) b mask h = chosen_all P (bit_at mask b == 1) e (masked es (suc b) mask) h.0 (all_masked P es (suc b) mask h.1)

chosen_ascend : (b : Bool) (e : ℕ) (ns : List ℕ) → AllByRecursion (λ m. e < m) ns → Ascends ns → Ascends (if b then e ∷ ns else ns)
chosen_ascend true e ns below h = (below, h)
chosen_ascend false e ns below h = h

masked_ascend : (es : List ℕ) (b mask : ℕ) → Ascends es → Ascends (masked es b mask)
masked_ascend [] b mask h = tt
masked_ascend (e ∷ es) b mask h = chosen_ascend (bit_at mask b == 1) e (masked es (suc b) mask) (all_masked (λ m. e < m) es (suc b) mask h.0) (masked_ascend es (suc b) mask h.1)

chosen_has : (b : Bool) (e : ℕ) (ns : List ℕ) (m : ℕ) → has (if b then e ∷ ns else ns) m ≡ true → ((b ≡ true) × (e ≡ m)) ⊎ (has ns m ≡ true)
chosen_has true e ns m h = ⊎_elim (λ (k : (e == m) ≡ true). inl (refl, eqb-true e m k)) (λ (k : has ns m ≡ true). inr k) (or_cases (e == m) (has ns m) h)
chosen_has false e ns m h = inr h

has_chosen : (b : Bool) (e : ℕ) (ns : List ℕ) (m : ℕ) → ((b ≡ true) × (e ≡ m)) ⊎ (has ns m ≡ true) → has (if b then e ∷ ns else ns) m ≡ true
has_chosen true e ns m (inl h) = or_left (e == m) (has ns m) (eq-eqb e m h.1)
has_chosen true e ns m (inr h) = or_right (e == m) (has ns m) h
has_chosen false e ns m (inl h) = absurd (true≢false (sym h.0))
has_chosen false e ns m (inr h) = h

one_behind : (mask b k : ℕ) → bit_at mask (suc b + k) ≡ bit_at mask (b + suc k)
one_behind mask b k = let e : suc b + k ≡ b + suc k = omega arith in ap (bit_at mask) e

at_once : (mask b : ℕ) → bit_at mask (b + 0) ≡ bit_at mask b
at_once mask b = let e : b + 0 ≡ b = omega arith in ap (bit_at mask) e

masked_only : (P : ℕ → Type 0) (es : List ℕ) (b mask m : ℕ) → ((k : ℕ) → k < length es → bit_at mask (b + k) ≡ 1 → P (get_or es k 0)) → has (masked es b mask) m ≡ true
    → P m × (has es m ≡ true)
masked_only P [] b mask m p h = absurd (true≢false (sym h))
masked_only P (e ∷ es) b mask m p h = ⊎_elim
    (λ (at : ((bit_at mask b == 1) ≡ true) × (e ≡ m)).
    (subst P at.1 (p 0 (omega arith) (at_once mask b ∙ eqb-true (bit_at mask b) 1 at.0)), or_left (e == m) (has es m) (eq-eqb e m at.1)))
    (λ (later : has (masked es (suc b) mask) m ≡ true).
    let rest = masked_only P es (suc b) mask m (λ k lt bit. p (suc k) (omega (arith, lt)) (sym (one_behind mask b k) ∙ bit)) later in
    (rest.0, or_right (e == m) (has es m) rest.1))
    (chosen_has (bit_at mask b == 1) e (masked es (suc b) mask) m h)

masked_each : (P : ℕ → Type 0) (es : List ℕ) (b mask m : ℕ) → ((k : ℕ) → k < length es → P (get_or es k 0) → bit_at mask (b + k) ≡ 1) → P m → has es m ≡ true
    → has (masked es b mask) m ≡ true
masked_each P [] b mask m p at h = absurd (true≢false (sym h))
masked_each P (e ∷ es) b mask m p at h = has_chosen (bit_at mask b == 1) e (masked es (suc b) mask) m (⊎_elim
    (λ (k : (e == m) ≡ true).
    inl (eq-eqb (bit_at mask b) 1 (sym (at_once mask b) ∙ p 0 (omega arith) (subst P (sym (eqb-true e m k)) at)), eqb-true e m k))
    (λ (k : has es m ≡ true). inr (masked_each P es (suc b) mask m (λ j lt q. one_behind mask b j ∙ p (suc j) (omega (arith, lt)) q) at k))
    (or_cases (e == m) (has es m) h))

-- the ends whose bits a node has are exactly those that it is joined with
pub masked_are : (links : List Link) (join : LinkTest) (set : List Bool) (es masks : List ℕ) (n : ℕ) → AreNumbers (λ m. get_or set m false ≡ true) es → AreMasks links join es masks
    → AreNumbers (λ m. IsJoined links join n m × (get_or set m false ≡ true)) (masked es 0 (get_or masks n 0))
masked_are links join set es masks n numbers are = record {
  ascend = masked_ascend es 0 (get_or masks n 0) numbers.ascend;
  each = λ m. (
    λ h. let both = masked_only (IsJoined links join n) es 0 (get_or masks n 0) m (λ k lt bit. (are n k lt).0 (from_start k ∙ bit)) h in (both.0, (numbers.each m).0 both.1),
    λ h. masked_each (IsJoined links join n) es 0 (get_or masks n 0) m (λ k lt j. sym (from_start k) ∙ (are n k lt).1 j) h.0 ((numbers.each m).1 h.1),
  );
}
  where
    from_start : (k : ℕ) → bit_at (get_or masks n 0) k ≡ bit_at (get_or masks n 0) (0 + k)
    from_start k = let e : k ≡ 0 + k = omega arith in ap (bit_at (get_or masks n 0)) e

-- ---- ends are inside

pub ends_inside : (set : List Bool) (es : List ℕ) (size : ℕ) → AreNumbers (λ m. get_or set m false ≡ true) es → length set ≤ size → (b : ℕ) → b < length es → get_or es b 0 < size
ends_inside set es size numbers fit b lt =
    let marked : get_or set (get_or es b 0) false ≡ true = (numbers.each (get_or es b 0)).0 (has_at es b lt) in
    ⊎_elim
    (λ (low : get_or es b 0 < length set). omega (arith, low, fit))
    (λ (high : length set ≤ get_or es b 0). absurd (true≢false (sym marked ∙ get_or_past set (get_or es b 0) false high)))
    (cases_lt (get_or es b 0) (length set))
  where
    has_at : (xs : List ℕ) (i : ℕ) → i < length xs → has xs (get_or xs i 0) ≡ true
    has_at [] i l = absurd (omega (arith, l))
    has_at (x ∷ xs) zero l = or_left (x == x) (has xs x) (eq-eqb x x refl)
    has_at (x ∷ xs) (suc i) l = or_right (x == get_or xs i 0) (has xs (get_or xs i 0)) (has_at xs i (omega (arith, l)))
