-- Words that are read one after another.
use Rattle.std.proofs.Common.{◌≡◌, ◌⊎◌, inl, inr, ℕ, suc, ◌+◌, ◌-◌, ◌%◌, ◌<◌, ◌≤◌, Bool, true, false, if◌then◌else◌, List, [], ◌∷◌, ◌++◌, length, take, drop, get_or, Option, Some, None, option_map, refl, sym, ap, ◌∙◌, arith, append_assoc, append-nil, length-drop, Result, Ok, Err}
use Rattle.std.specs.Prelude.{◌==◌, nat_lt, option_and_then}
use Rattle.std.proofs.lemmas.Bool.{ltb-true, lt-ltb}
use Rattle.std.proofs.lemmas.Bool.Decides.{eqb_tells}
use Rattle.std.proofs.Common.{eq-eqb}
use Rattle.std.proofs.lemmas.List.{take_all}
use Rattle.wc_query.specs.declared.error.QueryError.{QueryError}
use Rattle.wc_query.specs.declared.error.QueryError.TheVariants.{Shape, TooLong, BadWord, OutOfMemory}
use Rattle.wc_query.specs.declared.query.LinkTest.{LinkTest}
use Rattle.wc_query.specs.declared.query.NodeTest.{NodeTest}
use Rattle.wc_query.specs.Pieces.{pieces, pieces_of}
use Rattle.wc_query.specs.Words.{read_all, node_of, link_of, or_bad, and_joins, joins_of, with_first, chain_of, query_of}
use Rattle.wc_query.proofs.Cutting.{not_true}

-- one more than the length of a text that is there
abbrev pub text_len : Option (List ℕ) → ℕ
text_len None = 0
text_len (Some text) = suc (length text)

-- what was read, in front of what is read further
abbrev pub behind_all : {A : Type 0} → List A → Option (List A) → Option (List A)
behind_all front further = option_map (λ behind. front ++ behind) further

moved : {A : Type 0} (front : List A) (a : A) (further : Option (List A))
    → behind_all front (option_map (λ found. a ∷ found) further) ≡ behind_all (front ++ a ∷ []) further
moved front a None = refl
moved front a (Some found) = ap (λ (l : List _). Some l) (sym (append_assoc front (a ∷ []) found))

pub read_on : {A : Type 0} (read : List ℕ → Option A) (front next : List A) (text piece : List ℕ) (rest : Option (List ℕ)) (all : Option (List A)) (a : A)
    → behind_all front (read_all read (pieces text)) ≡ all → pieces text ≡ piece ∷ pieces_of rest → Some a ≡ read piece → next ≡ front ++ a ∷ []
    → behind_all next (read_all read (pieces_of rest)) ≡ all
read_on {A} read front next text piece rest all a h p r n =
    let one : read_all read (pieces text) ≡ option_map (λ found. a ∷ found) (read_all read (pieces_of rest)) =
    ap (read_all read) p ∙ ap (λ (o : Option A). option_and_then (λ x. option_map (λ found. x ∷ found) (read_all read (pieces_of rest))) o) (sym r) in
    ap (λ (l : List A). behind_all l (read_all read (pieces_of rest))) n ∙ sym (moved front a (read_all read (pieces_of rest))) ∙ ap (behind_all front) (sym one) ∙ h

pub read_none : {A : Type 0} (read : List ℕ → Option A) (front : List A) (text piece : List ℕ) (rest : Option (List ℕ)) (all : Option (List A))
    → behind_all front (read_all read (pieces text)) ≡ all → pieces text ≡ piece ∷ pieces_of rest → None ≡ read piece → None ≡ all
read_none {A} read front text piece rest all h p r =
    let one : read_all read (pieces text) ≡ None =
    ap (read_all read) p ∙ ap (λ (o : Option A). option_and_then (λ x. option_map (λ found. x ∷ found) (read_all read (pieces_of rest))) o) (sym r) in
    sym (ap (behind_all front) one) ∙ h

pub all_read : {A : Type 0} (read : List ℕ → Option A) (front : List A) (all : Option (List A)) → behind_all front (read_all read []) ≡ all → Some front ≡ all
all_read read front all h = ap (λ (l : List _). Some l) (sym (append-nil front)) ∙ h

-- ---- joins

abbrev pub Joins : Type 0
Joins = List (LinkTest × NodeTest)

-- joins that were read, in front of what the further words are
abbrev pub behind_joins : Joins → Result Joins QueryError → Result Joins QueryError
behind_joins front (Ok further) = Ok (front ++ further)
behind_joins front (Err e) = Err e

moved_joins : (front : Joins) (join : LinkTest × NodeTest) (further : Result Joins QueryError)
    → behind_joins front (and_joins join further) ≡ behind_joins (front ++ join ∷ []) further
moved_joins front join (Err e) = refl
moved_joins front join (Ok found) = ap (λ (l : Joins). Ok l) (sym (append_assoc front (join ∷ []) found))

pub joined_on : (front next : Joins) (at : ℕ) (link node : List ℕ) (rest : List (List ℕ)) (l : LinkTest) (n : NodeTest) (all : Result Joins QueryError)
    → behind_joins front (joins_of at (link ∷ node ∷ rest)) ≡ all → link_of link ≡ Some l → node_of node ≡ Some n → next ≡ front ++ (l, n) ∷ []
    → behind_joins next (joins_of (at + 2) rest) ≡ all
joined_on front next at link node rest l n all h p q e =
    let one : joins_of at (link ∷ node ∷ rest) ≡ or_bad (at + 1) (node_of node) (λ n. and_joins (l, n) (joins_of (at + 2) rest)) =
    ap (λ (o : Option LinkTest). or_bad at o (λ l. or_bad (at + 1) (node_of node) (λ n. and_joins (l, n) (joins_of (at + 2) rest)))) p in
    let two : or_bad (at + 1) (node_of node) (λ n. and_joins (l, n) (joins_of (at + 2) rest)) ≡ and_joins (l, n) (joins_of (at + 2) rest) =
    ap (λ (o : Option NodeTest). or_bad (at + 1) o (λ n. and_joins (l, n) (joins_of (at + 2) rest))) q in
    ap (λ (js : Joins). behind_joins js (joins_of (at + 2) rest)) e ∙ sym (moved_joins front (l, n) (joins_of (at + 2) rest)) ∙ ap (behind_joins front) (sym (one ∙ two)) ∙ h

pub bad_link : (front : Joins) (at : ℕ) (link node : List ℕ) (rest : List (List ℕ)) (all : Result Joins QueryError)
    → behind_joins front (joins_of at (link ∷ node ∷ rest)) ≡ all → link_of link ≡ None → all ≡ Err (BadWord at)
bad_link front at link node rest all h p =
    sym h ∙ ap (λ (o : Option LinkTest). behind_joins front (or_bad at o (λ l. or_bad (at + 1) (node_of node) (λ n. and_joins (l, n) (joins_of (at + 2) rest))))) p

pub bad_node : (front : Joins) (at : ℕ) (link node : List ℕ) (rest : List (List ℕ)) (l : LinkTest) (all : Result Joins QueryError)
    → behind_joins front (joins_of at (link ∷ node ∷ rest)) ≡ all → link_of link ≡ Some l → node_of node ≡ None → all ≡ Err (BadWord (at + 1))
bad_node front at link node rest l all h p q =
    sym h ∙ ap (λ (o : Option LinkTest). behind_joins front (or_bad at o (λ l. or_bad (at + 1) (node_of node) (λ n. and_joins (l, n) (joins_of (at + 2) rest))))) p
    ∙ ap (λ (o : Option NodeTest). behind_joins front (or_bad (at + 1) o (λ n. and_joins (l, n) (joins_of (at + 2) rest)))) q

pub all_joined : (front : Joins) (all : Result Joins QueryError) → behind_joins front (Ok []) ≡ all → all ≡ Ok front
all_joined front all h = sym h ∙ ap (λ (l : Joins). Ok l) (append-nil front)

take_whole : (k : ℕ) (xs : List (List ℕ)) → k ≡ length xs → take k xs ≡ xs
take_whole k xs e = take_all k xs (omega (arith, e))

split_two : (k : ℕ) (left : List (List ℕ)) (link node : List ℕ) → 2 ≤ length left → link ≡ get_or left 0 link → node ≡ get_or left 1 node → k ≡ length left - 2
    → left ≡ link ∷ node ∷ take k (drop 2 left)
split_two k [] link node two p q e = absurd (omega arith)
split_two k (a ∷ []) link node two p q e = absurd (omega arith)
split_two k (a ∷ b ∷ xs) link node two p q e = let t : take k xs ≡ xs = take_whole k xs (omega (arith, e)) in cc

pub place_on : (k at most : ℕ) (left : List (List ℕ)) → 2 ≤ length left → at + length left ≡ 1 + most → k ≡ length left - 2 → at + 2 + length (take k (drop 2 left)) ≡ 1 + most
place_on k at most left two h e =
    let d : length (drop 2 left) ≡ length left - 2 = length-drop 2 left in
    let t : take k (drop 2 left) ≡ drop 2 left = take_whole k (drop 2 left) (omega (arith, d, e)) in
    let l : length (take k (drop 2 left)) ≡ length left - 2 = ap length t ∙ d in
    omega (arith, l)

pub joined_two : (k : ℕ) (front next : Joins) (at : ℕ) (left : List (List ℕ)) (link node : List ℕ) (l : LinkTest) (n : NodeTest) (all : Result Joins QueryError)
    → 2 ≤ length left → link ≡ get_or left 0 link → node ≡ get_or left 1 node → k ≡ length left - 2
    → behind_joins front (joins_of at left) ≡ all → link_of link ≡ Some l → node_of node ≡ Some n → next ≡ front ++ (l, n) ∷ []
    → behind_joins next (joins_of (at + 2) (take k (drop 2 left))) ≡ all
joined_two k front next at left link node l n all two a b e h p q s =
    joined_on front next at link node (take k (drop 2 left)) l n all (sym (ap (λ (ws : List (List ℕ)). behind_joins front (joins_of at ws)) (split_two k left link node two a b e)) ∙ h) p q s

-- ---- the whole

even_is : (n m : ℕ) → (n ≡ m → ⊥) → (n == m) ≡ false
even_is n m h = elim (eqb_tells n m) [ inl e ↦ absurd (h e.1) | inr e ↦ e.0 ]

pub shape_is : (words slice : List (List ℕ)) → slice ≡ words → length slice % 2 ≡ 0 → query_of words ≡ Err Shape
unfolding query_of
shape_is words slice s h =
    let e : (length words % 2 == 0) ≡ true = eq-eqb (length words % 2) 0 (ap (λ (ws : List (List ℕ)). length ws % 2) (sym s) ∙ h) in
    ap (λ (b : Bool). if b then Err Shape else (if nat_lt 15 (length words) then Err TooLong else chain_of words)) e

odd_is : (words : List (List ℕ)) → (length words % 2 ≡ 0 → ⊥) → query_of words ≡ (if nat_lt 15 (length words) then Err TooLong else chain_of words)
unfolding query_of
odd_is words h = ap (λ (b : Bool). if b then Err Shape else (if nat_lt 15 (length words) then Err TooLong else chain_of words)) (even_is (length words % 2) 0 h)

pub long_is : (words slice : List (List ℕ)) → slice ≡ words → (length slice % 2 ≡ 0 → ⊥) → 16 ≤ length slice → query_of words ≡ Err TooLong
long_is words slice s h g =
    let l : length slice ≡ length words = ap length s in
    let e : nat_lt 15 (length words) ≡ true = lt-ltb 15 (length words) (omega (arith, l)) in
    odd_is words (λ (z : length words % 2 ≡ 0). h (ap (λ (n : ℕ). n % 2) l ∙ z)) ∙ ap (λ (b : Bool). if b then Err TooLong else chain_of words) e

chain_is : (words slice : List (List ℕ)) → slice ≡ words → (length slice % 2 ≡ 0 → ⊥) → length slice < 16 → query_of words ≡ chain_of slice
chain_is words slice s h g =
    let l : length slice ≡ length words = ap length s in
    let e : nat_lt 15 (length words) ≡ false = not_true (nat_lt 15 (length words)) (λ t. let lt : 15 < length words = ltb-true 15 (length words) t in omega (arith, lt, l, g)) in
    odd_is words (λ (z : length words % 2 ≡ 0). h (ap (λ (n : ℕ). n % 2) l ∙ z)) ∙ ap (λ (b : Bool). if b then Err TooLong else chain_of words) e ∙ ap chain_of (sym s)

split_one : (k : ℕ) (slice : List (List ℕ)) (node : List ℕ) → 1 ≤ length slice → node ≡ get_or slice 0 node → k ≡ length slice - 1 → slice ≡ node ∷ take k (drop 1 slice)
split_one k [] node one p e = absurd (omega arith)
split_one k (a ∷ xs) node one p e = let t : take k xs ≡ xs = take_whole k xs (omega (arith, e)) in cc

-- The words are odd in number and few, and the first stands in front of the rest.
pub record Begins (words slice : List (List ℕ)) (node : List ℕ) (k : ℕ) : Type 0 where
  pub same : slice ≡ words
  pub odd : length slice % 2 ≡ 0 → ⊥
  pub short : length slice < 16
  pub some : 1 ≤ length slice
  pub first : node ≡ get_or slice 0 node
  pub count : k ≡ length slice - 1

begun : (words slice : List (List ℕ)) (node : List ℕ) (k : ℕ) → Begins words slice node k
    → query_of words ≡ or_bad 0 (node_of node) (λ n. with_first n (joins_of 1 (take k (drop 1 slice))))
begun words slice node k b = chain_is words slice b.same b.odd b.short ∙ ap chain_of (split_one k slice node b.some b.first b.count)

pub first_refused : (words slice : List (List ℕ)) (node : List ℕ) (k : ℕ) (e : QueryError) → Begins words slice node k
    → (e ≡ OutOfMemory) ⊎ ((node_of node ≡ None) × (e ≡ BadWord 0)) → (e ≡ OutOfMemory) ⊎ (query_of words ≡ Err e)
first_refused words slice node k e b (inl memory) = inl memory
first_refused words slice node k e b (inr bad) =
    inr (begun words slice node k b ∙ ap (λ (o : Option NodeTest). or_bad 0 o (λ n. with_first n (joins_of 1 (take k (drop 1 slice))))) bad.0 ∙ ap (λ (x : QueryError). Err x) (sym bad.1))

read_first : (words slice : List (List ℕ)) (node : List ℕ) (k : ℕ) (first : NodeTest) → Begins words slice node k → node_of node ≡ Some first
    → query_of words ≡ with_first first (joins_of 1 (take k (drop 1 slice)))
read_first words slice node k first b h =
    begun words slice node k b ∙ ap (λ (o : Option NodeTest). or_bad 0 o (λ n. with_first n (joins_of 1 (take k (drop 1 slice))))) h

pub more_refused : (words slice : List (List ℕ)) (node : List ℕ) (k : ℕ) (first : NodeTest) (e : QueryError) → Begins words slice node k → node_of node ≡ Some first
    → (e ≡ OutOfMemory) ⊎ (joins_of 1 (take k (drop 1 slice)) ≡ Err e) → (e ≡ OutOfMemory) ⊎ (query_of words ≡ Err e)
more_refused words slice node k first e b h (inl memory) = inl memory
more_refused words slice node k first e b h (inr bad) = inr (read_first words slice node k first b h ∙ ap (with_first first) bad)

pub all_parsed : (words slice : List (List ℕ)) (node : List ℕ) (k : ℕ) (first : NodeTest) (joins : Joins) → Begins words slice node k → node_of node ≡ Some first
    → joins_of 1 (take k (drop 1 slice)) ≡ Ok joins → query_of words ≡ Ok (record { first = first; more = joins })
all_parsed words slice node k first joins b h j = read_first words slice node k first b h ∙ ap (with_first first) j
