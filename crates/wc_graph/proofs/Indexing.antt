-- An index stays one of a graph's links.
use Rattle.std.proofs.Common.{◌≡◌, ◌≢◌, ℕ, ◌<◌, ◌≤◌, ◌-◌, ◌+◌, List, [], ◌∷◌, ◌++◌, length, zero, suc, Option, Some, None, true, ⊎_elim, refl, sym, ap, ◌∙◌, subst, arith}
use Rattle.std.specs.Prelude.{slice_set, IsSomeAnd}
use Rattle.std.specs.List.{slice_get}
use Rattle.std.proofs.lemmas.Bool.{cases_order}
use Rattle.std.proofs.lemmas.List.{length-set, length_push}
use Rattle.std.proofs.lemmas.Option.{slice_get_within, get_or_from_slice_get}
use Rattle.wc_graph.specs.declared.node.NodeKind.{NodeKind}
use Rattle.wc_graph.specs.declared.link.Link.{Link}
use Rattle.wc_graph.specs.declared.index.Index.{Index}
use Rattle.wc_graph.specs.Rules.{Leaves, Enters, HasRightEnds, IsLinkCorrect, node_of}
use Rattle.wc_graph.specs.Index.{Skips, IsIndex, IsIndexed, AddsLink, last_at, source_of, target_of}
use Rattle.wc_graph.proofs.Correct.{slice_get_push}

-- ---- the ends of links are nodes

within : {T : Type 0} (P : T → Type 0) (xs : List T) (place : ℕ) → IsSomeAnd (slice_get xs place) P → place < length xs
within P [] place some = absurd some
within P (x ∷ xs) zero some = omega arith
within P (x ∷ xs) (suc place) some = omega (arith, within P xs place some)

number_within : (P : NodeKind → Type 0) (nodes : List NodeKind) (id : ℕ) → IsSomeAnd (node_of nodes id) P → id ≤ length nodes
number_within P nodes zero some = absurd some
number_within P nodes (suc place) some = omega (arith, within P nodes place some)

abbrev AreWithin : (Link → ℕ) → List Link → ℕ → Type 0
AreWithin side links count = (k : ℕ) (l : Link) → slice_get links k ≡ Some l → side l ≤ count

pub sources_within : (nodes : List NodeKind) (links : List Link) → IsLinkCorrect nodes links → AreWithin source_of links (length nodes)
sources_within nodes links h k l found =
    number_within (Leaves l.link) nodes l.source (subst (HasRightEnds nodes) (get_or_from_slice_get links k l l found) (h.ends k l (slice_get_within links k l found))).0

pub targets_within : (nodes : List NodeKind) (links : List Link) → IsLinkCorrect nodes links → AreWithin target_of links (length nodes)
targets_within nodes links h k l found =
    number_within (Enters l.link) nodes l.target (subst (HasRightEnds nodes) (get_or_from_slice_get links k l l found) (h.ends k l (slice_get_within links k l found))).1

-- ---- one more node

node_indexed : (side : Link → ℕ) (links : List Link) (count : ℕ) (last before : List ℕ) → AreWithin side links count
    → IsIndex side links count last before → IsIndex side links (count + 1) (last ++ 0 ∷ []) before
node_indexed side links count last before few i = record {
  lasts = length_push last 0 ∙ ap (λ n. n + 1) i.lasts;
  befores = i.befores;
  last_link = λ n at found. ⊎_elim
      (λ old. i.last_link n at old)
      (λ new. record {
        within = omega (arith, new.1);
        others = λ k l read from under same. absurd (omega (arith, few k l read, same, new.0, i.lasts));
      })
      (slice_get_push last 0 at n found);
  link_before = i.link_before;
}

pub with_node : (side : Link → ℕ) (nodes : List NodeKind) (links : List Link) (kind : NodeKind) (old new : Index) → AreWithin side links (length nodes)
    → IsIndexed side links (length nodes) old
    → (new.whole ≡ true → old.whole ≡ true)
    → (new.whole ≡ true → new.last.items ≡ old.last.items ++ 0 ∷ [])
    → new.before.items ≡ old.before.items
    → IsIndexed side links (length (nodes ++ kind ∷ [])) new
with_node side nodes links kind old new few i was last before whole =
    let grown = node_indexed side links (length nodes) old.last.items old.before.items few (i (was whole)) in
    subst (λ (n : ℕ). IsIndex side links n new.last.items new.before.items) (sym (length_push nodes kind))
    (subst (λ (ls : List ℕ). IsIndex side links (length nodes + 1) ls new.before.items) (sym (last whole))
    (subst (λ (bs : List ℕ). IsIndex side links (length nodes + 1) (old.last.items ++ 0 ∷ []) bs) (sym before) grown))

-- ---- one more link

-- what is skipped of links is skipped of these with one more, below their end
skips_push : (side : Link → ℕ) (links : List Link) (b : Link) (n below at : ℕ) → below ≤ length links
    → Skips side links n below at → Skips side (links ++ b ∷ []) n below at
skips_push side links b n below at few s = record {
  within = s.within;
  others = λ k l found from under. ⊎_elim
      (λ old. s.others k l old from under)
      (λ new. absurd (omega (arith, new.0, under, few)))
      (slice_get_push links b l k found);
}

-- and at their end, where the new one is of another node
skips_longer : (side : Link → ℕ) (links : List Link) (b : Link) (n at : ℕ) → side b ≢ n
    → Skips side links n (length links) at → Skips side (links ++ b ∷ []) n (length links + 1) at
skips_longer side links b n at other s = record {
  within = omega (arith, s.within);
  others = λ k l found from under. ⊎_elim
      (λ old. s.others k l old from (slice_get_within links k l old))
      (λ new same. other (ap side new.1 ∙ same))
      (slice_get_push links b l k found);
}

-- behind the new one there is none
skips_none : (side : Link → ℕ) (links : List Link) (n at : ℕ) → at ≡ length links → Skips side links n (length links) at
skips_none side links n at is = record {
  within = omega (arith, is);
  others = λ k l found from under. absurd (omega (arith, from, under, is));
}

get_set_same : (xs : List ℕ) (i x y : ℕ) → slice_get (slice_set xs i y) i ≡ Some x → x ≡ y
get_set_same [] i x y h = absurd (cc)
get_set_same (z ∷ zs) zero x y h = cc
get_set_same (z ∷ zs) (suc i) x y h = get_set_same zs i x y h

get_set_other : (xs : List ℕ) (i j x y : ℕ) → i ≢ j → slice_get (slice_set xs i y) j ≡ Some x → slice_get xs j ≡ Some x
get_set_other [] i j x y ne h = h
get_set_other (z ∷ zs) zero zero x y ne h = absurd (ne refl)
get_set_other (z ∷ zs) zero (suc j) x y ne h = h
get_set_other (z ∷ zs) (suc i) zero x y ne h = h
get_set_other (z ∷ zs) (suc i) (suc j) x y ne h = get_set_other zs i j x y (λ p. ne (ap suc p)) h

link_indexed : (side : Link → ℕ) (links : List Link) (count : ℕ) (last before : List ℕ) (b : Link) (place earlier : ℕ) → side b ≡ suc place
    → slice_get last place ≡ Some earlier → IsIndex side links count last before
    → IsIndex side (links ++ b ∷ []) count (slice_set last place (length before + 1)) (before ++ earlier ∷ [])
link_indexed side links count last before b place earlier is read i =
    let longer : length (links ++ b ∷ []) ≡ length links + 1 = length_push links b in
    record {
      lasts = length-set last place (length before + 1) ∙ i.lasts;
      befores = length_push before earlier ∙ ap (λ n. n + 1) i.befores ∙ sym longer;
      last_link = λ n at found.
          let other : place ≢ n → Skips side (links ++ b ∷ []) (suc n) (length (links ++ b ∷ [])) at
          = λ ne. subst (λ (end : ℕ). Skips side (links ++ b ∷ []) (suc n) end at) (sym longer)
          (skips_longer side links b (suc n) at (λ p. ne (omega (arith, p, is))) (i.last_link n at (get_set_other last place n at (length before + 1) ne found))) in
          ⊎_elim
          (λ (same : place ≡ n). skips_none side (links ++ b ∷ []) (suc n) at
          (get_set_same last place at (length before + 1) (ap (slice_get (slice_set last place (length before + 1))) same ∙ found) ∙ ap (λ m. m + 1) i.befores ∙ sym longer))
          (λ rest. other (λ same. ⊎_elim (λ p. absurd (omega (arith, p, same))) (λ p. absurd (omega (arith, p, same))) rest))
          (cases_order place n);
      link_before = λ p at l found held. ⊎_elim
          (λ old.
          let few : p < length links = subst (λ (m : ℕ). p < m) i.befores (slice_get_within before p at old) in
          ⊎_elim
          (λ before_it. skips_push side links b (side l) p at (omega (arith, few)) (i.link_before p at l old before_it))
          (λ end. absurd (omega (arith, few, end.0)))
          (slice_get_push links b l p held))
          (λ new.
          let at_end : p ≡ length links = new.0 ∙ i.befores in
          let first : Skips side links (suc place) (length links) at
          = subst (λ (x : ℕ). Skips side links (suc place) (length links) x) new.1 (i.last_link place earlier read) in
          ⊎_elim
          (λ before_it. absurd (omega (arith, slice_get_within links p l before_it, at_end)))
          (λ end. subst (λ (n : ℕ). Skips side (links ++ b ∷ []) n p at) (sym is ∙ ap side end.1)
          (skips_push side links b (suc place) p at (omega (arith, at_end)) (subst (λ (m : ℕ). Skips side links (suc place) m at) (sym at_end) first)))
          (slice_get_push links b l p held))
          (slice_get_push before earlier at p found);
    }

link_added : (side : Link → ℕ) (links : List Link) (count : ℕ) (b : Link) (old new : Index) (node : ℕ) (entry : Option ℕ) → side b ≡ node
    → last_at old.last.items node ≡ entry → AddsLink entry old node new
    → IsIndex side links count old.last.items old.before.items → IsIndex side (links ++ b ∷ []) count new.last.items new.before.items
link_added side links count b old new zero None is read adds i = absurd adds
link_added side links count b old new zero (Some earlier) is read adds i = absurd (cc)
link_added side links count b old new (suc place) None is read adds i = absurd adds
link_added side links count b old new (suc place) (Some earlier) is read adds i =
    let at : suc place - 1 ≡ place = omega arith in
    subst (λ (ls : List ℕ). IsIndex side (links ++ b ∷ []) count ls new.before.items) (sym (adds.0 ∙ ap (λ n. slice_set old.last.items n (length old.before.items + 1)) at))
    (subst (λ (bs : List ℕ). IsIndex side (links ++ b ∷ []) count (slice_set old.last.items place (length old.before.items + 1)) bs) (sym adds.1)
    (link_indexed side links count old.last.items old.before.items b place earlier is read i))

pub with_link : (side : Link → ℕ) (links : List Link) (count : ℕ) (b : Link) (old new : Index) → IsIndexed side links count old
    → (new.whole ≡ true → old.whole ≡ true)
    → (new.whole ≡ true → AddsLink (last_at old.last.items (side b)) old (side b) new)
    → IsIndexed side (links ++ b ∷ []) count new
with_link side links count b old new i was adds whole =
    link_added side links count b old new (side b) (last_at old.last.items (side b)) refl refl (adds whole) (i (was whole))
