-- A process has one output link for a label, and one input link, so what is found under a label is what that link leads to.
use Rattle.std.proofs.Common.{◌≡◌, ◌↔◌, ℕ, Bool, true, false, Option, Some, None, List, [], ◌∷◌, get_or, refl, sym, ap, subst, ◌∙◌}
use Rattle.std.specs.Prelude.{All, Contains, if◌then◌else◌, IsSomeAnd, ◌==◌}
use Rattle.std.proofs.lemmas.Bool.{and_parts, eqb-true, eqb-false}
use Rattle.std.proofs.lemmas.List.{get_or_default}
use Rattle.std.proofs.lemmas.List.Elements.{All-contains}
use Rattle.std.proofs.lemmas.Option.{slice_get-get_or}
use Rattle.wc_value.specs.Ascending.{lookup}
use Rattle.wc_graph.specs.Rules.{node_of, Leaves, Enters, HasRightEnds, SharesLabelAtSource, SharesLabelAtTarget, TakesLabel, IsLinkCorrect}
use Rattle.wc_graph.specs.declared.node.NodeKind.{NodeKind}
use Rattle.wc_graph.specs.declared.node.NodeKind.TheVariants as node
use Rattle.wc_graph.specs.declared.link.LinkType.{LinkType}
use Rattle.wc_graph.specs.declared.link.LinkType.TheVariants as link
use Rattle.wc_graph.specs.declared.link.Link.{Link}
use Rattle.wc_state.specs.declared.environment.NodeValue.{NodeValue}
use Rattle.wc_fits.specs.Records.{gives_output, takes_input, is_output_of, is_input_of}
use Rattle.wc_fits.specs.Values.{NamedValues, value_of, with_value, inputs_after, outputs_after}
use Rattle.wc_fits.proofs.LinkedValues.{gathered, Leads, Agrees, found_is_linked, linked_is_found}

-- ---- links that pass a test and have one label

-- Two links with right ends that pass the test and have one label break a rule.
abbrev OneForLabel : (Link → Bool) → List NodeKind → Type 0
OneForLabel is nodes = (a b : Link) → HasRightEnds nodes a → HasRightEnds nodes b → is a ≡ true → is b ≡ true → a.label ≡ b.label → TakesLabel b.link a b

module _ (is : Link → Bool) (end : Link → ℕ) (nodes : List NodeKind) (links : List Link) (correct : IsLinkCorrect nodes links) (one : OneForLabel is nodes)
    (label : List ℕ) (e : NodeValue) where
  agrees : (l : Link) → Contains links l → Leads is end nodes label e l → All (Agrees is end nodes label e) links
  agrees l c leads i d lt = λ passes named. at passes named (i == c.0) refl
    where
      m : Link
      m = get_or links i d

      same : i ≡ c.0 → m ≡ l
      same p = ap (λ (n : ℕ). get_or links n d) p ∙ get_or_default links c.0 d l c.1 ∙ c.2

      at : is m ≡ true → m.label ≡ label → (b : Bool) → (i == c.0) ≡ b → end m ≡ e.node
      at passes named true p = ap end (same (eqb-true i c.0 p)) ∙ leads.2
      at passes named false p =
          let apart = correct.apart i c.0 m l (eqb-false i c.0 p) (slice_get-get_or links i d lt) (slice_get-get_or links c.0 l c.1 ∙ ap Some c.2) in
          absurd (apart.labels (one m l (correct.ends i d lt) (All-contains (HasRightEnds nodes) links l correct.ends c) passes leads.0 (named ∙ sym leads.1)))

  told_by_links : (lookup label (gathered is end nodes links []) ≡ Some e)
      ↔ ((l : Link) × Contains links l × (is l ≡ true) × (l.label ≡ label) × (end l ≡ e.node) × (value_of nodes (end l) ≡ Some e.value))
  told_by_links = (
    (λ h. let found = found_is_linked is end nodes label e links h in let leads = found.2 in (found.0, found.1, leads.0, leads.1, leads.2, leads.3)),
    (λ h. let leads : Leads is end nodes label e h.0 = (h.2, h.3, h.4, h.5) in linked_is_found is end nodes label e links h.0 h.1 leads (agrees h.0 h.1 leads)),
  )

-- ---- the type of a link by the kind of its process

some_both : (P Q : NodeKind → Type 0) (o : Option NodeKind) → IsSomeAnd o P → IsSomeAnd o Q → (k : NodeKind) × P k × Q k
some_both P Q None p q = absurd p
some_both P Q (Some k) p q = (k, p, q)

output_type : NodeKind → LinkType
output_type (node.Data v) = link.Return
output_type node.Calculation = link.Create
output_type node.Workflow = link.Return

output_type_is : (t : LinkType) (k : NodeKind) → gives_output t ≡ true → Leaves t k → t ≡ output_type k
unfolding output_type
output_type_is link.InputCalc k g h = absurd (cc)
output_type_is link.InputWork k g h = absurd (cc)
output_type_is link.Create (node.Data v) g h = absurd h
output_type_is link.Create node.Calculation g h = refl
output_type_is link.Create node.Workflow g h = absurd h
output_type_is link.Return (node.Data v) g h = refl
output_type_is link.Return node.Calculation g h = absurd h
output_type_is link.Return node.Workflow g h = refl
output_type_is link.CallCalc k g h = absurd (cc)
output_type_is link.CallWork k g h = absurd (cc)

input_type : NodeKind → LinkType
input_type (node.Data v) = link.InputWork
input_type node.Calculation = link.InputCalc
input_type node.Workflow = link.InputWork

input_type_is : (t : LinkType) (k : NodeKind) → takes_input t ≡ true → Enters t k → t ≡ input_type k
unfolding input_type
input_type_is link.InputCalc (node.Data v) g h = absurd h
input_type_is link.InputCalc node.Calculation g h = refl
input_type_is link.InputCalc node.Workflow g h = absurd h
input_type_is link.InputWork (node.Data v) g h = absurd h
input_type_is link.InputWork node.Calculation g h = absurd h
input_type_is link.InputWork node.Workflow g h = refl
input_type_is link.Create k g h = absurd (cc)
input_type_is link.Return k g h = absurd (cc)
input_type_is link.CallCalc k g h = absurd (cc)
input_type_is link.CallWork k g h = absurd (cc)

output_takes_label : (t : LinkType) (a b : Link) → gives_output t ≡ true → SharesLabelAtSource a b → TakesLabel t a b
output_takes_label link.InputCalc a b g h = absurd (cc)
output_takes_label link.InputWork a b g h = absurd (cc)
output_takes_label link.Create a b g h = h
output_takes_label link.Return a b g h = h
output_takes_label link.CallCalc a b g h = absurd (cc)
output_takes_label link.CallWork a b g h = absurd (cc)

input_takes_label : (t : LinkType) (a b : Link) → takes_input t ≡ true → SharesLabelAtTarget a b → TakesLabel t a b
input_takes_label link.InputCalc a b g h = h
input_takes_label link.InputWork a b g h = h
input_takes_label link.Create a b g h = absurd (cc)
input_takes_label link.Return a b g h = absurd (cc)
input_takes_label link.CallCalc a b g h = absurd (cc)
input_takes_label link.CallWork a b g h = absurd (cc)

-- ---- outputs

one_output : (pid : ℕ) (nodes : List NodeKind) → OneForLabel (is_output_of pid) nodes
one_output pid nodes a b p q ga gb same =
    let da = and_parts (gives_output a.link) (a.source == pid) ga in
    let db = and_parts (gives_output b.link) (b.source == pid) gb in
    let from : a.source ≡ b.source = eqb-true a.source pid da.1 ∙ sym (eqb-true b.source pid db.1) in
    let k = some_both (Leaves a.link) (Leaves b.link) (node_of nodes b.source) (subst (λ (n : ℕ). IsSomeAnd (node_of nodes n) (Leaves a.link)) from p.0) q.0 in
    output_takes_label b.link a b db.0 (output_type_is a.link k.0 da.0 k.1 ∙ sym (output_type_is b.link k.0 db.0 k.2), from, same)

outputs_gathered : (nodes : List NodeKind) (pid : ℕ) (ls : List Link) (es : NamedValues) → outputs_after nodes pid ls es ≡ gathered (is_output_of pid) (λ l. l.target) nodes ls es
outputs_gathered nodes pid [] es = refl
outputs_gathered nodes pid (l ∷ ls) es = outputs_gathered nodes pid ls (if is_output_of pid l then with_value l.label l.target (value_of nodes l.target) es else es)

pub outputs_told : (nodes : List NodeKind) (links : List Link) → IsLinkCorrect nodes links → (pid : ℕ) (label : List ℕ) (e : NodeValue)
    → (lookup label (outputs_after nodes pid links []) ≡ Some e)
    ↔ ((l : Link) × Contains links l × (is_output_of pid l ≡ true) × (l.label ≡ label) × (l.target ≡ e.node) × (value_of nodes l.target ≡ Some e.value))
outputs_told nodes links correct pid label e =
    let told = told_by_links (is_output_of pid) (λ l. l.target) nodes links correct (one_output pid nodes) label e in
    let is = ap (lookup label) (outputs_gathered nodes pid links []) in
    ((λ h. told.0 (sym is ∙ h)), (λ h. is ∙ told.1 h))

-- ---- inputs

one_input : (pid : ℕ) (nodes : List NodeKind) → OneForLabel (is_input_of pid) nodes
one_input pid nodes a b p q ga gb same =
    let da = and_parts (takes_input a.link) (a.target == pid) ga in
    let db = and_parts (takes_input b.link) (b.target == pid) gb in
    let to : a.target ≡ b.target = eqb-true a.target pid da.1 ∙ sym (eqb-true b.target pid db.1) in
    let k = some_both (Enters a.link) (Enters b.link) (node_of nodes b.target) (subst (λ (n : ℕ). IsSomeAnd (node_of nodes n) (Enters a.link)) to p.1) q.1 in
    input_takes_label b.link a b db.0 (input_type_is a.link k.0 da.0 k.1 ∙ sym (input_type_is b.link k.0 db.0 k.2), to, same)

inputs_gathered : (nodes : List NodeKind) (pid : ℕ) (ls : List Link) (es : NamedValues) → inputs_after nodes pid ls es ≡ gathered (is_input_of pid) (λ l. l.source) nodes ls es
inputs_gathered nodes pid [] es = refl
inputs_gathered nodes pid (l ∷ ls) es = inputs_gathered nodes pid ls (if is_input_of pid l then with_value l.label l.source (value_of nodes l.source) es else es)

pub inputs_told : (nodes : List NodeKind) (links : List Link) → IsLinkCorrect nodes links → (pid : ℕ) (label : List ℕ) (e : NodeValue)
    → (lookup label (inputs_after nodes pid links []) ≡ Some e)
    ↔ ((l : Link) × Contains links l × (is_input_of pid l ≡ true) × (l.label ≡ label) × (l.source ≡ e.node) × (value_of nodes l.source ≡ Some e.value))
inputs_told nodes links correct pid label e =
    let told = told_by_links (is_input_of pid) (λ l. l.source) nodes links correct (one_input pid nodes) label e in
    let is = ap (lookup label) (inputs_gathered nodes pid links []) in
    ((λ h. told.0 (sym is ∙ h)), (λ h. is ∙ told.1 h))
