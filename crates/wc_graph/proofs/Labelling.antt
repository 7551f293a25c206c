-- Labels of busy nodes stay known, and tell which labels are free.
use Rattle.std.proofs.Common.{◌≡◌, ◌≢◌, ℕ, ◌+◌, ◌<◌, ◌≤◌, List, [], ◌∷◌, ◌++◌, length, Option, Some, None, Bool, true, false, Vec, ◌⊎◌, inl, inr, ⊎_elim, refl, sym, ap, ◌∙◌, subst, arith}
use Rattle.std.specs.Prelude.{◌||◌, not, Any, Result, Ok, Err, slice_get, OnOk, OnErr}
use Rattle.std.specs.List.{list_any}
use Rattle.std.specs.Map.{lookup}
use Rattle.std.specs.Ordering.{nat_cmp, is_eq, match_ordering}
use Rattle.std.specs.Cmp.{Equal-is}
use Rattle.std.specs.Cmp.Lexicographic.{slice_cmp}
use Rattle.std.specs.declared.alloc.Global.{Global}
use Rattle.std.specs.declared.alloc.AllocError.{AllocError}
use Rattle.std.specs.declared.cmp.Ordering.{Ordering}
use Rattle.std.specs.declared.cmp.Ordering.TheVariants.{Less, Equal, Greater}
use Rattle.std.specs.BTreeMap.{BTreeMap, get, UpdatesBy}
use Rattle.std.specs.BTreeSet.{insert_key, contains_by}
use Rattle.std.proofs.lemmas.Bool.{cases_eq, cases_order, false_from_ne_true}
use Rattle.std.proofs.lemmas.Cmp.{nat_list_cmp_total, tied_itself}
use Rattle.std.proofs.lemmas.Map.Lookups.{exact_unsigned}
use Rattle.std.proofs.lemmas.Option.{slice_get-get_or}
use Rattle.wc_graph.specs.declared.link.Link.{Link}
use Rattle.wc_graph.specs.declared.link.LinkType.{LinkType}
use Rattle.wc_graph.specs.declared.link.LinkType.TheVariants.{InputCalc, InputWork, Create, Return, CallCalc, CallWork}
use Rattle.wc_graph.specs.declared.labels.End.{End}
use Rattle.wc_graph.specs.declared.labels.End.TheVariants.{Source, Target}
use Rattle.wc_graph.specs.Index.{Skips}
use Rattle.wc_graph.specs.Rules.{TakesTriple, TakesLabel, IsCall}
use Rattle.wc_graph.specs.Broken.{Breaks, CanBreak}
use Rattle.wc_graph.specs.declared.rules.Rule.{Rule}
use Rattle.wc_graph.specs.declared.rules.Rule.TheVariants.{Triple, Label, Creator, Caller}
use Rattle.wc_graph.specs.Refusals.{LabelIsTaken, TripleIsTaken}
use Rattle.wc_graph.specs.Labels.{side, where_once, label_node, Names, Has, Knows, Lacks, IsLabelled, HasFrom, HasGathered, Notes, Settles}
use Rattle.wc_graph.proofs.Correct.{slice_get_push}

-- ---- a set with one label more

abbrev Key : Type 0
Key = Vec ℕ Global

abbrev order : Key → Key → Ordering
order x y = slice_cmp nat_cmp x.items y.items

abbrev is : List ℕ → Key → Bool
is label k = is_eq (slice_cmp nat_cmp label k.items)

or_true : (a : Bool) → (a || true) ≡ true
or_true true = refl
or_true false = refl

or_keeps : (a r s : Bool) → (r ≡ true → s ≡ true) → (a || r) ≡ true → (a || s) ≡ true
or_keeps true r s keeps h = refl
or_keeps false r s keeps h = keeps h

itself : (k : Key) → is k.items k ≡ true
itself k = (Equal-is (order k k)).1 (tied_itself nat_list_cmp_total k.items)

put_at : (k x : Key) (xs : List Key) (o : Ordering) → order k x ≡ o → list_any (is k.items) (insert_key order xs k) ≡ true
    → list_any (is k.items) (match_ordering o (k ∷ x ∷ xs) (x ∷ xs) (x ∷ insert_key order xs k)) ≡ true
put_at k x xs Less e h = ap (λ b. b || (is k.items x || list_any (is k.items) xs)) (itself k)
put_at k x xs Equal e h = ap (λ b. b || list_any (is k.items) xs) ((Equal-is (order k x)).1 e)
put_at k x xs Greater e h = ap (λ b. is k.items x || b) h ∙ or_true (is k.items x)

put : (k : Key) (ks : List Key) → list_any (is k.items) (insert_key order ks k) ≡ true
put k [] = ap (λ b. b || false) (itself k)
put k (x ∷ xs) = put_at k x xs (order k x) refl (put k xs)

keep_at : (label : List ℕ) (k x : Key) (xs : List Key) (o : Ordering)
    → (list_any (is label) xs ≡ true → list_any (is label) (insert_key order xs k) ≡ true) → list_any (is label) (x ∷ xs) ≡ true
    → list_any (is label) (match_ordering o (k ∷ x ∷ xs) (x ∷ xs) (x ∷ insert_key order xs k)) ≡ true
keep_at label k x xs Less keeps h = ap (λ b. is label k || b) h ∙ or_true (is label k)
keep_at label k x xs Equal keeps h = h
keep_at label k x xs Greater keeps h = or_keeps (is label x) (list_any (is label) xs) (list_any (is label) (insert_key order xs k)) keeps h

keep : (label : List ℕ) (k : Key) (ks : List Key) → list_any (is label) ks ≡ true → list_any (is label) (insert_key order ks k) ≡ true
keep label k [] h = absurd (cc)
keep label k (x ∷ xs) h = keep_at label k x xs (order k x) (keep label k xs) h

pub has_put : (old new : Names) (k : Key) → new.keys ≡ insert_key order old.keys k → Has new k.items
has_put old new k e = ap (list_any (is k.items)) e ∙ put k old.keys

pub has_kept : (old new : Names) (k : Key) (label : List ℕ) → new.keys ≡ insert_key order old.keys k → Has old label → Has new label
has_kept old new k label e h = ap (list_any (is label)) e ∙ keep label k old.keys h

-- ---- busy nodes

at_other : (v q : ℕ) → v ≢ q → is_eq (nat_cmp v q) ≡ false
at_other v q ne = false_from_ne_true (is_eq (nat_cmp v q)) (λ t. ne (exact_unsigned v q ((Equal-is (nat_cmp v q)).0 t)))

same_some : {X : Type 0} (x y : X) → Some x ≡ Some y → x ≡ y
same_some x y e = cc

none_some : {X : Type 0} (x : X) → ◌≡◌ {A = Option X} None (Some x) → ⊥
none_some x e = cc

-- a node's labels are these, and other nodes have those that they had
pub knows_put : (old new : BTreeMap ℕ Names) (node : ℕ) (names : Names) → UpdatesBy nat_cmp (nat_cmp node) old new (Some names)
    → (n : ℕ) (l : List ℕ) → Knows old n l → (n ≡ node → Has names l) → Knows new n l
knows_put old new node names u n l was has = λ found read. ⊎_elim
    (λ (e : node ≡ n).
    let at : get nat_cmp new node ≡ Some found = subst (λ (q : ℕ). get nat_cmp new q ≡ Some found) (sym e) read in
    subst (λ (x : Names). Has x l) (same_some names found (sym u.1 ∙ at)) (has (sym e)))
    (λ (ne : node ≢ n). was found (sym (u.2 n (at_other node n ne)) ∙ read))
    (cases_eq node n)

-- a node is busy no more, and other nodes have those that they had
pub knows_without : (old new : BTreeMap ℕ Names) (node : ℕ) → UpdatesBy nat_cmp (nat_cmp node) old new None
    → (n : ℕ) (l : List ℕ) → Knows old n l → Knows new n l
knows_without old new node u n l was = λ found read. ⊎_elim
    (λ (e : node ≡ n).
    let at : get nat_cmp new node ≡ Some found = subst (λ (q : ℕ). get nat_cmp new q ≡ Some found) (sym e) read in
    absurd (none_some found (sym u.1 ∙ at)))
    (λ (ne : node ≢ n). was found (sym (u.2 n (at_other node n ne)) ∙ read))
    (cases_eq node n)

-- nothing needs to be known of a node that isn't busy
pub knows_idle : (busy : BTreeMap ℕ Names) (n : ℕ) (l : List ℕ) → get nat_cmp busy n ≡ None → Knows busy n l
knows_idle busy n l none = λ found read. absurd (none_some found (sym none ∙ read))

pub knows_same : (old new : BTreeMap ℕ Names) (n : ℕ) (l : List ℕ) → new.entries ≡ old.entries → Knows old n l → Knows new n l
knows_same old new n l e was = λ found read. was found (ap (λ es. lookup (λ k. is_eq (nat_cmp n k)) es) (sym e) ∙ read)

-- ---- where a label stands once

-- the node where a label stands once is that at the end
once_side : (end : End) (t : LinkType) (m n : ℕ) → where_once end t m ≡ Some n → m ≡ n
once_side Source InputCalc m n e = absurd (none_some n e)
once_side Source InputWork m n e = absurd (none_some n e)
once_side Source Create m n e = same_some m n e
once_side Source Return m n e = same_some m n e
once_side Source CallCalc m n e = absurd (none_some n e)
once_side Source CallWork m n e = absurd (none_some n e)
once_side Target InputCalc m n e = same_some m n e
once_side Target InputWork m n e = same_some m n e
once_side Target Create m n e = absurd (none_some n e)
once_side Target Return m n e = absurd (none_some n e)
once_side Target CallCalc m n e = absurd (none_some n e)
once_side Target CallWork m n e = absurd (none_some n e)

pub has_step : (end : End) (links : List Link) (node top below at : ℕ) (old new : Names) (link : Link) → top ≤ below + 1 → slice_get links below ≡ Some link
    → HasFrom end links node old top → ((l : List ℕ) → Has old l → Has new l) → (label_node end link ≡ Some node → Has new link.label)
    → Skips (side end) links node below at → HasFrom end links node new at
has_step end links node top below at old new link le here had kept has skips = λ k l read from once. ⊎_elim
    (λ (e : k ≡ below).
    let same : l ≡ link = same_some l link (sym read ∙ ap (slice_get links) e ∙ here) in
    subst (λ (x : Link). Has new x.label) (sym same) (has (subst (λ (x : Link). label_node end x ≡ Some node) same once)))
    (λ rest. ⊎_elim
    (λ (lt : k < below). absurd (skips.others k l read from lt (once_side end l.link (side end l) node once)))
    (λ (gt : below < k). kept l.label (had k l read (omega (arith, le, gt)) once))
    rest)
    (cases_order k below)

-- a link that has the label of another where it stands once is of the same node there
same_label : (end : End) (t : LinkType) (a b : Link) (n : ℕ) → b.link ≡ t → label_node end b ≡ Some n → TakesLabel t a b
    → (label_node end a ≡ Some n) × (a.label ≡ b.label)
same_label Source InputCalc a b n is once h = absurd (none_some n (subst (λ (t : LinkType). where_once Source t b.source ≡ Some n) is once))
same_label Source InputWork a b n is once h = absurd (none_some n (subst (λ (t : LinkType). where_once Source t b.source ≡ Some n) is once))
same_label Source Create a b n is once h = ((λ i. where_once Source (h.0 i) (h.1 i)) ∙ once, h.2)
same_label Source Return a b n is once h = ((λ i. where_once Source (h.0 i) (h.1 i)) ∙ once, h.2)
same_label Source CallCalc a b n is once h = absurd h
same_label Source CallWork a b n is once h = absurd h
same_label Target InputCalc a b n is once h = ((λ i. where_once Target (h.0 i) (h.1 i)) ∙ once, h.2)
same_label Target InputWork a b n is once h = ((λ i. where_once Target (h.0 i) (h.1 i)) ∙ once, h.2)
same_label Target Create a b n is once h = absurd (none_some n (subst (λ (t : LinkType). where_once Target t b.target ≡ Some n) is once))
same_label Target Return a b n is once h = absurd (none_some n (subst (λ (t : LinkType). where_once Target t b.target ≡ Some n) is once))
same_label Target CallCalc a b n is once h = absurd h
same_label Target CallWork a b n is once h = absurd h

-- under a type whose labels stand once at an end, a triple that is taken is a label that is taken
same_triple : (end : End) (t : LinkType) (a b : Link) (n : ℕ) → b.link ≡ t → label_node end b ≡ Some n → TakesTriple t a b → TakesLabel t a b
same_triple end InputCalc a b n is once h = (h.0, h.2, h.3)
same_triple end InputWork a b n is once h = (h.0, h.2, h.3)
same_triple end Create a b n is once h = absurd h
same_triple end Return a b n is once h = (h.0, h.1, h.3)
same_triple Source CallCalc a b n is once h = absurd (none_some n (subst (λ (t : LinkType). where_once Source t b.source ≡ Some n) is once))
same_triple Target CallCalc a b n is once h = absurd (none_some n (subst (λ (t : LinkType). where_once Target t b.target ≡ Some n) is once))
same_triple Source CallWork a b n is once h = absurd (none_some n (subst (λ (t : LinkType). where_once Source t b.source ≡ Some n) is once))
same_triple Target CallWork a b n is once h = absurd (none_some n (subst (λ (t : LinkType). where_once Target t b.target ≡ Some n) is once))

-- ---- which types can break a rule

label_of_call : (t : LinkType) (a b : Link) → TakesLabel t a b → IsCall t → ⊥
label_of_call InputCalc a b h call = call
label_of_call InputWork a b h call = call
label_of_call Create a b h call = call
label_of_call Return a b h call = call
label_of_call CallCalc a b h call = h
label_of_call CallWork a b h call = h

breaks_can : (rule : Rule) (a b : Link) → Breaks rule a b → CanBreak rule b.link
breaks_can Triple a b h = λ e. subst (λ (t : LinkType). TakesTriple t a b) e h
breaks_can Label a b h = λ call. label_of_call b.link a b h call
breaks_can Creator a b h = h.1
breaks_can Caller a b h = h.1

pub cannot : (rule : Rule) (b : Link) (links : List Link) → (CanBreak rule b.link → ⊥) → Any (λ a. Breaks rule a b) links → ⊥
cannot rule b links h any = h (breaks_can rule any.1 b any.4)

-- ---- which labels are free

-- where the label of a link isn't known of its busy node, no link has it there
lacking : (end : End) (links : List Link) (busy : BTreeMap ℕ Names) (b a : Link) (k : ℕ) (node : Option ℕ) → label_node end b ≡ node
    → IsLabelled end links busy → Lacks busy node b.label → slice_get links k ≡ Some a → TakesLabel b.link a b ⊎ TakesTriple b.link a b → ⊥
lacking end links busy b a k None is h lacks read taken = lacks
lacking end links busy b a k (Some n) is h lacks read taken =
    let label : TakesLabel b.link a b = ⊎_elim (λ x. x) (λ x. same_triple end b.link a b n refl is x) taken in
    let same = same_label end b.link a b n refl is label in
    lacks (subst (Knows busy n) same.1 (h k a n read same.0))

-- where the labels of the link's node lack its label, neither its label nor its triple is taken
pub free : (end : End) (links : List Link) (busy : BTreeMap ℕ Names) (b : Link) (node : Option ℕ) → node ≡ label_node end b
    → IsLabelled end links busy → Lacks busy node b.label → (TripleIsTaken links b → ⊥) × (LabelIsTaken links b → ⊥)
free end links busy b node is h lacks = (
  λ any. lacking end links busy b any.1 any.0 node (sym is) h lacks
      (slice_get-get_or links any.0 any.1 any.2 ∙ ap (λ x. Some x) any.3) (inr any.4),
  λ any. lacking end links busy b any.1 any.0 node (sym is) h lacks
      (slice_get-get_or links any.0 any.1 any.2 ∙ ap (λ x. Some x) any.3) (inl any.4),
)

-- ---- one more link

-- no node is busy
pub none_busy : (end : End) (links : List Link) (busy : BTreeMap ℕ Names) → busy.entries ≡ [] → IsLabelled end links busy
none_busy end links busy e = λ k l n read once. knows_idle busy n l.label (ap (λ es. lookup (λ q. is_eq (nat_cmp n q)) es) e)

pub still_noted : (end : End) (links : List Link) (old new : BTreeMap ℕ Names) (node : Option ℕ) (gathered : Result (Option Names) AllocError) (label : List ℕ)
    → HasGathered end links node gathered → Notes old new node gathered label → IsLabelled end links old → IsLabelled end links new
still_noted end links old new at gathered label has notes h = λ k l n read once. notes.kept n l.label (h k l n read once) (λ same. has k l n read same once)

module _ (end : End) (links : List Link) (old new : BTreeMap ℕ Names) (node : Option ℕ) (b : Link) (settles : Settles old new node b.label) (h : IsLabelled end links old) where
  pub still_labelled : IsLabelled end links new
  still_labelled = λ k l n read once. settles.kept n l.label (h k l n read once)

  pub with_label : node ≡ label_node end b → IsLabelled end (links ++ b ∷ []) new
  with_label is = λ k l n read once. ⊎_elim
      (λ before. still_labelled k l n before once)
      (λ (last : (k ≡ length links) × (b ≡ l)).
      subst (λ (x : Link). Knows new n x.label) last.1
      (settles.put n (is ∙ subst (λ (x : Link). label_node end x ≡ Some n) (sym last.1) once)))
      (slice_get_push links b l k read)

-- ---- what calls answer

-- a node whose labels find no memory stays as it was
pub knows_inserted : {E : Type 0} (old new : BTreeMap ℕ Names) (node : ℕ) (names : Names) (r : Result (Option Names) E)
    → OnOk r (UpdatesBy nat_cmp (nat_cmp node) old new (Some names)) → OnErr r (new.entries ≡ old.entries)
    → (n : ℕ) (l : List ℕ) → Knows old n l → (n ≡ node → Has names l) → Knows new n l
knows_inserted old new node names (Ok before) done failed n l was has = knows_put old new node names done n l was has
knows_inserted old new node names (Err e) done failed n l was has = knows_same old new n l failed was

pub not_known : (busy : BTreeMap ℕ Names) (node : ℕ) (names : Names) (l : List ℕ) (b : Bool) → get nat_cmp busy node ≡ Some names
    → b ≡ contains_by (λ k. slice_cmp nat_cmp l k.items) names → not b ≡ true → Knows busy node l → ⊥
not_known busy node names l b found is lacks known = let has : b ≡ true = is ∙ known names found in absurd (cc (has, lacks))
