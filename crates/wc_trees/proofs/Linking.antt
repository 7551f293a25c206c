-- The links of a process, by their places.
use Rattle.std.proofs.Common.{◌≡◌, ℕ, ◌<◌, ◌≤◌, ◌-◌, ◌==◌, ◌&&◌, Bool, true, false, List, [], ◌∷◌, ◌++◌, Option, Some, None, length, get_or, drop, refl, sym, ap, ◌∙◌, arith, append_assoc}
use Rattle.std.specs.Prelude.{slice_get, if◌then◌else◌, option_to_list}
use Rattle.std.proofs.lemmas.Bool.{ne_eqb}
use Rattle.std.proofs.lemmas.List.{get_or_default}
use Rattle.std.proofs.lemmas.Option.{slice_get-get_or}
use Rattle.std.specs.Option.{option_map}
use Rattle.wc_value.specs.declared.value.Value.{Value}
use Rattle.wc_value.specs.declared.process.Tree.{Tree}
use Rattle.wc_graph.specs.declared.node.NodeKind.{NodeKind}
use Rattle.wc_graph.specs.declared.link.Link.{Link}
use Rattle.wc_graph.specs.Index.{Skips, source_of, target_of}
use Rattle.wc_world.specs.Records.{calls, gives_output, takes_input, is_call_from, is_output_of, is_input_of}
use Rattle.wc_world.specs.Trees.{NamedValues, Branch, value_of, with_value, inputs_after, outputs_after, values_alone, and_branch, branches}
use Rattle.wc_world.specs.Linked.{upwards, of_node, call_in, with_plain, plain_after}
use Rattle.wc_world.proofs.LabelledValues.{plain_outputs}
use Rattle.wc_fits.proofs.LinkWalks.{Passes, walk_begins, walk_on}

abbrev Plain : Type 0
Plain = List (List ℕ × Value)

-- one place more, before the others
pub upwards_more : (links : List Link) (ps : List ℕ) (p : ℕ) (others : List Link)
    → upwards links (ps ++ p ∷ []) others ≡ option_to_list (slice_get links p) ++ upwards links ps others
upwards_more links [] p others = refl
upwards_more links (q ∷ ps) p others = upwards_more links ps p (option_to_list (slice_get links q) ++ others)

of_node_choice : (l : Link) (xs ys : List Link) (b : Bool) → b ≡ false → (if b then xs else ys) ≡ ys
of_node_choice l xs ys true h = absurd (cc)
of_node_choice l xs ys false h = refl

of_node_passes : (side : Link → ℕ) (n : ℕ) → Passes (of_node side n) side n
of_node_passes side n l ls other = of_node_choice l (l ∷ of_node side n ls) (of_node side n ls) (side l == n) (ne_eqb (side l) n other)

of_node_more : (side : Link → ℕ) (n : ℕ) (l : Link) (xs ys : List Link) → of_node side n xs ≡ of_node side n ys → of_node side n (l ∷ xs) ≡ of_node side n (l ∷ ys)
of_node_more side n l xs ys same = ap (λ (rest : List Link). if side l == n then l ∷ rest else rest) same

places_begin : (side : Link → ℕ) (n : ℕ) (links : List Link) (at : ℕ) → Skips side links n (length links) at → [] ≡ of_node side n (drop at links)
places_begin side n links at s = sym (walk_begins (of_node side n) side n (of_node_passes side n) links at s)

places_more : (side : Link → ℕ) (n : ℕ) (links : List Link) (ps more : List ℕ) (at next : ℕ) → 0 < at → at ≤ length links
    → more ≡ ps ++ (at - 1) ∷ [] → Skips side links n (at - 1) next
    → of_node side n (upwards links ps []) ≡ of_node side n (drop at links) → of_node side n (upwards links more []) ≡ of_node side n (drop next links)
places_more side n [] ps more at next some few is s same = absurd (omega (arith, some, few))
places_more side n (x ∷ xs) ps more at next some few is s same =
    let links : List Link = x ∷ xs in
    let l : Link = get_or links (at - 1) x in
    let here : l ≡ get_or links (at - 1) l = get_or_default links (at - 1) x l (omega (arith, some, few)) in
    ap (λ (qs : List ℕ). of_node side n (upwards links qs [])) is
    ∙ ap (of_node side n) (upwards_more links ps (at - 1) [])
    ∙ ap (λ (o : Option Link). of_node side n (option_to_list o ++ upwards links ps [])) (slice_get-get_or links (at - 1) x (omega (arith, some, few)))
    ∙ of_node_more side n l (upwards links ps []) (drop at links) same
    ∙ sym (walk_on (of_node side n) side n (of_node_passes side n) links at next l some few here s)

pub into_first : (n : ℕ) (links : List Link) (at : ℕ) → Skips target_of links n (length links) at → [] ≡ of_node target_of n (drop at links)
into_first n links at s = places_begin target_of n links at s

pub into_next : (n : ℕ) (links : List Link) (ps more : List ℕ) (at next : ℕ) → 0 < at → at ≤ length links → more ≡ ps ++ (at - 1) ∷ []
    → Skips target_of links n (at - 1) next → of_node target_of n (upwards links ps []) ≡ of_node target_of n (drop at links)
    → of_node target_of n (upwards links more []) ≡ of_node target_of n (drop next links)
into_next n links ps more at next some few is s same = places_more target_of n links ps more at next some few is s same

pub from_first : (n : ℕ) (links : List Link) (at : ℕ) → Skips source_of links n (length links) at → [] ≡ of_node source_of n (drop at links)
from_first n links at s = places_begin source_of n links at s

pub from_next : (n : ℕ) (links : List Link) (ps more : List ℕ) (at next : ℕ) → 0 < at → at ≤ length links → more ≡ ps ++ (at - 1) ∷ []
    → Skips source_of links n (at - 1) next → of_node source_of n (upwards links ps []) ≡ of_node source_of n (drop at links)
    → of_node source_of n (upwards links more []) ≡ of_node source_of n (drop next links)
from_next n links ps more at next some few is s same = places_more source_of n links ps more at next some few is s same

-- ---- inputs

and_false : (a b : Bool) → b ≡ false → (a && b) ≡ false
and_false true b p = p
and_false false b p = refl

if_false : {T : Type 0} (a : Bool) (x y : T) → a ≡ false → (if a then x else y) ≡ y
if_false true x y p = absurd (cc)
if_false false x y p = refl

inputs_case : (nodes : List NodeKind) (pid : ℕ) (l : Link) (ls ms : List Link) (es : NamedValues) (b : Bool) → (l.target == pid) ≡ b
    → ((fs : NamedValues) → inputs_after nodes pid ms fs ≡ inputs_after nodes pid ls fs)
    → inputs_after nodes pid (if b then l ∷ ms else ms) es ≡ inputs_after nodes pid (l ∷ ls) es
inputs_case nodes pid l ls ms es true is rest = rest (if is_input_of pid l then with_value l.label l.source (value_of nodes l.source) es else es)
inputs_case nodes pid l ls ms es false is rest =
    rest es
    ∙ ap (inputs_after nodes pid ls) (sym (if_false (is_input_of pid l) (with_value l.label l.source (value_of nodes l.source) es) es (and_false (takes_input l.link) (l.target == pid) is)))

inputs_alone : (nodes : List NodeKind) (pid : ℕ) (ls : List Link) (es : NamedValues)
    → inputs_after nodes pid (of_node target_of pid ls) es ≡ inputs_after nodes pid ls es
inputs_alone nodes pid [] es = refl
inputs_alone nodes pid (l ∷ ls) es = inputs_case nodes pid l ls (of_node target_of pid ls) es (l.target == pid) refl (inputs_alone nodes pid ls)

pub inputs_begin : (nodes : List NodeKind) (pid : ℕ) (xs links : List Link) (es : NamedValues) → of_node target_of pid xs ≡ of_node target_of pid links
    → inputs_after nodes pid xs es ≡ inputs_after nodes pid links es
inputs_begin nodes pid xs links es same =
    sym (inputs_alone nodes pid xs es) ∙ ap (λ (ls : List Link). inputs_after nodes pid ls es) same ∙ inputs_alone nodes pid links es

inputs_split : (nodes : List NodeKind) (pid : ℕ) (o : Option Link) (rest : List Link) (es : NamedValues)
    → inputs_after nodes pid (option_to_list o ++ rest) es ≡ inputs_after nodes pid rest (inputs_after nodes pid (option_to_list o) es)
inputs_split nodes pid None rest es = refl
inputs_split nodes pid (Some l) rest es = refl

pub inputs_step : (nodes : List NodeKind) (pid : ℕ) (links : List Link) (old items : List ℕ) (p : ℕ) (es more : NamedValues) → old ≡ items ++ p ∷ []
    → more ≡ inputs_after nodes pid (option_to_list (slice_get links p)) es
    → inputs_after nodes pid (upwards links items []) more ≡ inputs_after nodes pid (upwards links old []) es
inputs_step nodes pid links old items p es more is put =
    ap (inputs_after nodes pid (upwards links items [])) put
    ∙ sym (inputs_split nodes pid (slice_get links p) (upwards links items []) es)
    ∙ ap (λ (ls : List Link). inputs_after nodes pid ls es) (sym (upwards_more links items p []))
    ∙ ap (λ (ps : List ℕ). inputs_after nodes pid (upwards links ps []) es) (sym is)

-- ---- outputs

outputs_case : (nodes : List NodeKind) (pid : ℕ) (l : Link) (ls ms : List Link) (es : NamedValues) (b : Bool) → (l.source == pid) ≡ b
    → ((fs : NamedValues) → outputs_after nodes pid ms fs ≡ outputs_after nodes pid ls fs)
    → outputs_after nodes pid (if b then l ∷ ms else ms) es ≡ outputs_after nodes pid (l ∷ ls) es
outputs_case nodes pid l ls ms es true is rest = rest (if is_output_of pid l then with_value l.label l.target (value_of nodes l.target) es else es)
outputs_case nodes pid l ls ms es false is rest =
    rest es
    ∙ ap (outputs_after nodes pid ls) (sym (if_false (is_output_of pid l) (with_value l.label l.target (value_of nodes l.target) es) es (and_false (gives_output l.link) (l.source == pid) is)))

outputs_alone : (nodes : List NodeKind) (pid : ℕ) (ls : List Link) (es : NamedValues)
    → outputs_after nodes pid (of_node source_of pid ls) es ≡ outputs_after nodes pid ls es
outputs_alone nodes pid [] es = refl
outputs_alone nodes pid (l ∷ ls) es = outputs_case nodes pid l ls (of_node source_of pid ls) es (l.source == pid) refl (outputs_alone nodes pid ls)

pub outputs_begin : (nodes : List NodeKind) (pid : ℕ) (xs links : List Link) (es : NamedValues) → of_node source_of pid xs ≡ of_node source_of pid links
    → outputs_after nodes pid xs es ≡ outputs_after nodes pid links es
outputs_begin nodes pid xs links es same =
    sym (outputs_alone nodes pid xs es) ∙ ap (λ (ls : List Link). outputs_after nodes pid ls es) same ∙ outputs_alone nodes pid links es

outputs_split : (nodes : List NodeKind) (pid : ℕ) (o : Option Link) (rest : List Link) (es : NamedValues)
    → outputs_after nodes pid (option_to_list o ++ rest) es ≡ outputs_after nodes pid rest (outputs_after nodes pid (option_to_list o) es)
outputs_split nodes pid None rest es = refl
outputs_split nodes pid (Some l) rest es = refl

pub outputs_step : (nodes : List NodeKind) (pid : ℕ) (links : List Link) (old items : List ℕ) (p : ℕ) (es more : NamedValues) → old ≡ items ++ p ∷ []
    → more ≡ outputs_after nodes pid (option_to_list (slice_get links p)) es
    → outputs_after nodes pid (upwards links items []) more ≡ outputs_after nodes pid (upwards links old []) es
outputs_step nodes pid links old items p es more is put =
    ap (outputs_after nodes pid (upwards links items [])) put
    ∙ sym (outputs_split nodes pid (slice_get links p) (upwards links items []) es)
    ∙ ap (λ (ls : List Link). outputs_after nodes pid ls es) (sym (upwards_more links items p []))
    ∙ ap (λ (ps : List ℕ). outputs_after nodes pid (upwards links ps []) es) (sym is)

-- ---- outputs as values alone

plain_case : (nodes : List NodeKind) (pid : ℕ) (l : Link) (ls ms : List Link) (es : Plain) (b : Bool) → (l.source == pid) ≡ b
    → ((fs : Plain) → plain_after nodes pid ms fs ≡ plain_after nodes pid ls fs)
    → plain_after nodes pid (if b then l ∷ ms else ms) es ≡ plain_after nodes pid (l ∷ ls) es
plain_case nodes pid l ls ms es true is rest = rest (if is_output_of pid l then with_plain l.label (value_of nodes l.target) es else es)
plain_case nodes pid l ls ms es false is rest =
    rest es
    ∙ ap (plain_after nodes pid ls) (sym (if_false (is_output_of pid l) (with_plain l.label (value_of nodes l.target) es) es (and_false (gives_output l.link) (l.source == pid) is)))

plain_alone : (nodes : List NodeKind) (pid : ℕ) (ls : List Link) (es : Plain) → plain_after nodes pid (of_node source_of pid ls) es ≡ plain_after nodes pid ls es
plain_alone nodes pid [] es = refl
plain_alone nodes pid (l ∷ ls) es = plain_case nodes pid l ls (of_node source_of pid ls) es (l.source == pid) refl (plain_alone nodes pid ls)

pub plain_begin : (nodes : List NodeKind) (pid : ℕ) (xs links : List Link) → of_node source_of pid xs ≡ of_node source_of pid links
    → plain_after nodes pid xs [] ≡ values_alone (outputs_after nodes pid links [])
plain_begin nodes pid xs links same =
    sym (plain_alone nodes pid xs []) ∙ ap (λ (ls : List Link). plain_after nodes pid ls []) same ∙ plain_alone nodes pid links [] ∙ plain_outputs nodes pid links

plain_split : (nodes : List NodeKind) (pid : ℕ) (o : Option Link) (rest : List Link) (es : Plain)
    → plain_after nodes pid (option_to_list o ++ rest) es ≡ plain_after nodes pid rest (plain_after nodes pid (option_to_list o) es)
plain_split nodes pid None rest es = refl
plain_split nodes pid (Some l) rest es = refl

pub plain_step : (nodes : List NodeKind) (pid : ℕ) (links : List Link) (old items : List ℕ) (p : ℕ) (es more : Plain) → old ≡ items ++ p ∷ []
    → more ≡ plain_after nodes pid (option_to_list (slice_get links p)) es
    → plain_after nodes pid (upwards links items []) more ≡ plain_after nodes pid (upwards links old []) es
plain_step nodes pid links old items p es more is put =
    ap (plain_after nodes pid (upwards links items [])) put
    ∙ sym (plain_split nodes pid (slice_get links p) (upwards links items []) es)
    ∙ ap (λ (ls : List Link). plain_after nodes pid ls es) (sym (upwards_more links items p []))
    ∙ ap (λ (ps : List ℕ). plain_after nodes pid (upwards links ps []) es) (sym is)

-- ---- calls

branch_case : (tree : ℕ → Option Tree) (pid : ℕ) (l : Link) (ls ms : List Link) (b : Bool) → (l.source == pid) ≡ b
    → branches tree pid ms ≡ branches tree pid ls → branches tree pid (if b then l ∷ ms else ms) ≡ branches tree pid (l ∷ ls)
branch_case tree pid l ls ms true is rest = ap (λ (r : Option (List Branch)). if is_call_from pid l then and_branch (tree l.target) l.label r else r) rest
branch_case tree pid l ls ms false is rest =
    rest ∙ sym (if_false (is_call_from pid l) (and_branch (tree l.target) l.label (branches tree pid ls)) (branches tree pid ls) (and_false (calls l.link) (l.source == pid) is))

branch_alone : (tree : ℕ → Option Tree) (pid : ℕ) (ls : List Link) → branches tree pid (of_node source_of pid ls) ≡ branches tree pid ls
branch_alone tree pid [] = refl
branch_alone tree pid (l ∷ ls) = branch_case tree pid l ls (of_node source_of pid ls) (l.source == pid) refl (branch_alone tree pid ls)

none_before : (o : Option (List Branch)) → option_map (λ (rest : List Branch). [] ++ rest) o ≡ o
none_before None = refl
none_before (Some bs) = refl

pub branches_begin : (tree : ℕ → Option Tree) (pid : ℕ) (xs links : List Link) → of_node source_of pid xs ≡ of_node source_of pid links
    → option_map (λ (rest : List Branch). [] ++ rest) (branches tree pid xs) ≡ branches tree pid links
branches_begin tree pid xs links same =
    none_before (branches tree pid xs) ∙ sym (branch_alone tree pid xs) ∙ ap (branches tree pid) same ∙ branch_alone tree pid links

branch_first : (kept : List Branch) (label : List ℕ) (t : Tree) (rest : Option (List Branch))
    → option_map (λ r. (kept ++ (label, t) ∷ []) ++ r) rest ≡ option_map (λ r. kept ++ r) (and_branch (Some t) label rest)
branch_first kept label t None = refl
branch_first kept label t (Some rest) = ap Some (append_assoc kept ((label, t) ∷ []) rest)

same_some : (l m : Link) → ◌≡◌ {A = Option Link} (Some l) (Some m) → l ≡ m
same_some l m p = cc

if_some : (b : Bool) (m l : Link) → ◌≡◌ {A = Option Link} (if b then Some m else None) (Some l) → (b ≡ true) × (m ≡ l)
if_some true m l h = (refl, same_some m l h)
if_some false m l h = absurd (cc)

if_none : (b : Bool) (m : Link) → ◌≡◌ {A = Option Link} (if b then Some m else None) None → b ≡ false
if_none true m h = absurd (cc)
if_none false m h = refl

module _ (tree : ℕ → Option Tree) (pid : ℕ) (rest : List Link) where
  by_call : (o : Option Link) (l : Link) → call_in pid o ≡ Some l → branches tree pid (option_to_list o ++ rest) ≡ and_branch (tree l.target) l.label (branches tree pid rest)
  by_call None l h = absurd (cc)
  by_call (Some m) l h =
      let both = if_some (is_call_from pid m) m l h in
      ap (λ (b : Bool). if b then and_branch (tree m.target) m.label (branches tree pid rest) else branches tree pid rest) both.0
      ∙ ap (λ (k : Link). and_branch (tree k.target) k.label (branches tree pid rest)) both.1

  by_none : (o : Option Link) → call_in pid o ≡ None → branches tree pid (option_to_list o ++ rest) ≡ branches tree pid rest
  by_none None h = refl
  by_none (Some m) h = if_false (is_call_from pid m) (and_branch (tree m.target) m.label (branches tree pid rest)) (branches tree pid rest) (if_none (is_call_from pid m) m h)

module _ (tree : ℕ → Option Tree) (pid : ℕ) (links : List Link) (old items : List ℕ) (p : ℕ) (is : old ≡ items ++ p ∷ []) (kept : List Branch) where
  left_are : branches tree pid (upwards links old []) ≡ branches tree pid (option_to_list (slice_get links p) ++ upwards links items [])
  left_are = ap (λ (ps : List ℕ). branches tree pid (upwards links ps [])) is ∙ ap (branches tree pid) (upwards_more links items p [])

  -- a called process is the next branch
  pub branch_taken : (more : List Branch) (l : Link) (t : Tree) → call_in pid (slice_get links p) ≡ Some l → Some t ≡ tree l.target → more ≡ kept ++ (l.label, t) ∷ []
      → option_map (λ rest. more ++ rest) (branches tree pid (upwards links items [])) ≡ option_map (λ rest. kept ++ rest) (branches tree pid (upwards links old []))
  branch_taken more l t call there is_more =
      let rest = branches tree pid (upwards links items []) in
      ap (λ (xs : List Branch). option_map (λ r. xs ++ r) rest) is_more ∙ branch_first kept l.label t rest
      ∙ ap (λ (o : Option Tree). option_map (λ r. kept ++ r) (and_branch o l.label rest)) there
      ∙ ap (option_map (λ r. kept ++ r)) (sym (by_call tree pid (upwards links items []) (slice_get links p) l call) ∙ sym left_are)

  pub branch_passed : call_in pid (slice_get links p) ≡ None
      → option_map (λ rest. kept ++ rest) (branches tree pid (upwards links items [])) ≡ option_map (λ rest. kept ++ rest) (branches tree pid (upwards links old []))
  branch_passed none = ap (option_map (λ r. kept ++ r)) (sym (by_none tree pid (upwards links items []) (slice_get links p) none) ∙ sym left_are)

  -- without the tree of a called process there is none
  pub branch_lacks : (l : Link) → call_in pid (slice_get links p) ≡ Some l → tree l.target ≡ None → option_map (λ rest. kept ++ rest) (branches tree pid (upwards links old [])) ≡ None
  branch_lacks l call lacks =
      ap (option_map (λ r. kept ++ r))
      (left_are ∙ by_call tree pid (upwards links items []) (slice_get links p) l call ∙ ap (λ (o : Option Tree). and_branch o l.label (branches tree pid (upwards links items []))) lacks)
