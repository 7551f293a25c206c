-- A link that breaks no rule keeps a graph link-correct.
use Rattle.std.proofs.Common.{◌≡◌, ◌≢◌, ℕ, ◌<◌, List, [], ◌∷◌, ◌++◌, length, zero, suc, Some, Result, Ok, Err, ◌⊎◌, inl, inr, ⊎_elim, refl, sym, ◌∙◌, subst, arith, ◌↔◌}
use Rattle.std.specs.Prelude.{IsSomeAnd}
use Rattle.std.specs.List.{slice_get}
use Rattle.std.proofs.lemmas.List.Elements.{All-push, All-weaker}
use Rattle.std.proofs.lemmas.Option.{slice_get_within, get_or_from_slice_get}
use Rattle.wc_graph.specs.declared.node.NodeKind.{NodeKind}
use Rattle.wc_graph.specs.declared.link.Link.{Link}
use Rattle.wc_graph.specs.declared.link.LinkType.{LinkType}
use Rattle.wc_graph.specs.declared.link.LinkType.TheVariants.{InputCalc, InputWork, Create, Return, CallCalc, CallWork}
use Rattle.wc_graph.specs.Rules.{node_of, Leaves, Enters, HasRightEnds, SharesTriple, SharesLabelAtSource, SharesLabelAtTarget, TakesTriple, TakesLabel, AreApart, IsLinkCorrect}
use Rattle.wc_graph.specs.declared.error.GraphError.{GraphError}
use Rattle.wc_graph.specs.declared.error.GraphError.TheVariants.{NoNode, WrongEnds, TripleTaken, LabelTaken, HasCreator, HasCaller, Full, OutOfMemory}
use Rattle.wc_graph.specs.Refusals.{IsAllowed, RefusesExactly}

-- ---- the rules are symmetric
triple_back : (a b : Link) → SharesTriple a b → SharesTriple b a
triple_back a b h = (sym h.0, sym h.1, sym h.2, sym h.3)

label_at_target_back : (a b : Link) → SharesLabelAtTarget a b → SharesLabelAtTarget b a
label_at_target_back a b h = (sym h.0, sym h.1, sym h.2)

label_at_source_back : (a b : Link) → SharesLabelAtSource a b → SharesLabelAtSource b a
label_at_source_back a b h = (sym h.0, sym h.1, sym h.2)

takes_triple_back : (t : LinkType) (a b : Link) → TakesTriple t a b → TakesTriple t b a × (a.link ≡ b.link)
takes_triple_back InputCalc a b h = (triple_back a b h, h.0)
takes_triple_back InputWork a b h = (triple_back a b h, h.0)
takes_triple_back Create a b h = absurd h
takes_triple_back Return a b h = (triple_back a b h, h.0)
takes_triple_back CallCalc a b h = (triple_back a b h, h.0)
takes_triple_back CallWork a b h = (triple_back a b h, h.0)

takes_label_back : (t : LinkType) (a b : Link) → TakesLabel t a b → TakesLabel t b a × (a.link ≡ b.link)
takes_label_back InputCalc a b h = (label_at_target_back a b h, h.0)
takes_label_back InputWork a b h = (label_at_target_back a b h, h.0)
takes_label_back Create a b h = (label_at_source_back a b h, h.0)
takes_label_back Return a b h = (label_at_source_back a b h, h.0)
takes_label_back CallCalc a b h = absurd h
takes_label_back CallWork a b h = absurd h

apart_back : (a b : Link) → AreApart a b → AreApart b a
apart_back a b h = record {
  triples = λ t.
      let p = takes_triple_back a.link b a t in
      h.triples (subst (λ (k : LinkType). TakesTriple k a b) (sym p.1) p.0);
  labels = λ t.
      let p = takes_label_back a.link b a t in
      h.labels (subst (λ (k : LinkType). TakesLabel k a b) (sym p.1) p.0);
  creators = λ t. h.creators (t.1, t.0, sym t.2);
  callers = λ t. h.callers (t.1, t.0, sym t.2);
}

-- ---- a list with one more link
-- the place of a link is an old one, or that of the new one
pub slice_get_push : {X : Type 0} (xs : List X) (y x : X) (i : ℕ) → slice_get (xs ++ y ∷ []) i ≡ Some x
    → (slice_get xs i ≡ Some x) ⊎ ((i ≡ length xs) × (y ≡ x))
slice_get_push [] y x zero h = inr (refl, cc)
slice_get_push [] y x (suc i) h = absurd (cc)
slice_get_push (z ∷ zs) y x zero h = inl h
slice_get_push (z ∷ zs) y x (suc i) h =
    ⊎_elim (λ p. inl p) (λ p. inr (omega arith, p.1)) (slice_get_push zs y x i h)

apart_from_new : (nodes : List NodeKind) (links : List Link) (a b : Link) (i : ℕ) → IsAllowed nodes links b
    → slice_get links i ≡ Some a → AreApart a b
apart_from_new nodes links a b i h p =
    let lt : i < length links = slice_get_within links i a p in
    let is = get_or_from_slice_get links i a a p in
    record {
      triples = λ t. h.triple (i, a, lt, is, t);
      labels = λ t. h.label (i, a, lt, is, t);
      creators = λ t. h.creator (i, a, lt, is, t);
      callers = λ t. h.caller (i, a, lt, is, t);
    }

pub link_correct_push : (nodes : List NodeKind) (links : List Link) (b : Link) → IsLinkCorrect nodes links
    → IsAllowed nodes links b → IsLinkCorrect nodes (links ++ b ∷ [])
link_correct_push nodes links b h new = record {
  ends = All-push (HasRightEnds nodes) links b h.ends new.ends;
  apart = λ i j x y ne p q.
      ⊎_elim
      (λ old. ⊎_elim
      (λ old'. h.apart i j x y ne old old')
      (λ last. subst (AreApart x) last.1 (apart_from_new nodes links x b i new old))
      (slice_get_push links b y j q))
      (λ last. ⊎_elim
      (λ old. subst (λ (z : Link). AreApart z y) last.1 (apart_back y b (apart_from_new nodes links y b j new old)))
      (λ last'. absurd (ne (last.0 ∙ sym last'.0)))
      (slice_get_push links b y j q))
      (slice_get_push links b x i p);
}

-- ---- one more node

still_there : {T : Type 0} (P : T → Type 0) (xs : List T) (y : T) (i : ℕ) → IsSomeAnd (slice_get xs i) P → IsSomeAnd (slice_get (xs ++ y ∷ []) i) P
still_there P [] y i some = absurd some
still_there P (x ∷ xs) y zero some = some
still_there P (x ∷ xs) y (suc i) some = still_there P xs y i some

node_still_there : (P : NodeKind → Type 0) (nodes : List NodeKind) (more : NodeKind) (id : ℕ) → IsSomeAnd (node_of nodes id) P → IsSomeAnd (node_of (nodes ++ more ∷ []) id) P
node_still_there P nodes more zero some = some
node_still_there P nodes more (suc place) some = still_there P nodes more place some

pub node_keeps_correct : (nodes : List NodeKind) (links : List Link) (more : NodeKind) → IsLinkCorrect nodes links → IsLinkCorrect (nodes ++ more ∷ []) links
node_keeps_correct nodes links more h = record {
  ends =
      All-weaker (HasRightEnds nodes) (HasRightEnds (nodes ++ more ∷ []))
      (λ l e. (node_still_there (Leaves l.link) nodes more l.source e.0, node_still_there (Enters l.link) nodes more l.target e.1)) links h.ends;
  apart = h.apart;
}

-- ---- refusals
ok_err : {T E : Type 0} (x : T) (e : E) → ◌≡◌ {A = Result T E} (Ok x) (Err e) → ⊥
ok_err x e p = cc

same_err : {T E : Type 0} (d e : E) → ◌≡◌ {A = Result T E} (Err d) (Err e) → d ≡ e
same_err d e p = cc

-- Where nothing was refused, what is no refusal refuses exactly so.
pub none_refused : {T : Type 0} (r : Result T GraphError) (says : GraphError → Type 0) (done : T)
    → ((e : GraphError) → e ≢ OutOfMemory → r ≡ Err e → ⊥) → RefusesExactly {T = T} (Ok done) says → RefusesExactly r says
none_refused r says done n h e ne = (λ p. absurd (n e ne p), λ p. absurd (ok_err done e ((h e ne).1 p)))

pub out_of_memory : {T : Type 0} (says : GraphError → Type 0) (done : T) → RefusesExactly {T = T} (Ok done) says
    → RefusesExactly {T = T} (Err OutOfMemory) says
out_of_memory says done = none_refused (Err OutOfMemory) says done (λ e ne p. ne (sym (same_err OutOfMemory e p)))

pub exact_from_each : {T : Type 0} (r : Result T GraphError) (says : GraphError → Type 0)
    → ((id : ℕ) → (r ≡ Err (NoNode id)) ↔ says (NoNode id))
    → (r ≡ Err WrongEnds) ↔ says WrongEnds
    → (r ≡ Err TripleTaken) ↔ says TripleTaken
    → (r ≡ Err LabelTaken) ↔ says LabelTaken
    → (r ≡ Err HasCreator) ↔ says HasCreator
    → (r ≡ Err HasCaller) ↔ says HasCaller
    → (r ≡ Err Full) ↔ says Full
    → RefusesExactly r says
exact_from_each r says a b c d e f g (NoNode id) ne = a id
exact_from_each r says a b c d e f g WrongEnds ne = b
exact_from_each r says a b c d e f g TripleTaken ne = c
exact_from_each r says a b c d e f g LabelTaken ne = d
exact_from_each r says a b c d e f g HasCreator ne = e
exact_from_each r says a b c d e f g HasCaller ne = f
exact_from_each r says a b c d e f g Full ne = g
exact_from_each r says a b c d e f g OutOfMemory ne = absurd (ne refl)
