use Rattle.std.proofs.Common.{◌≡◌, ◌+◌, List, [], ◌∷◌, ◌++◌, append_assoc, ap, ◌∙◌}
use Rattle.wc_world.specs.declared.change.Change.{Change}
use Rattle.wc_machine.specs.Submissions.{input_link}
use Rattle.wc_changes.specs.Called.{data_of, links_of}
use Rattle.wc_changes.proofs.children.put_call.Goals as goal

-- four pieces one after the other
joined : (old own links new₁ new₂ new₃ new₄ : List Change) (a b : Change) → new₁ ≡ old ++ own → new₂ ≡ new₁ ++ a ∷ [] → new₃ ≡ new₂ ++ links → new₄ ≡ new₃ ++ b ∷ []
    → new₄ ≡ old ++ (own ++ a ∷ (links ++ b ∷ []))
joined old own links new₁ new₂ new₃ new₄ a b h₁ h₂ h₃ h₄ =
    h₄ ∙ ap (λ (l : List Change). l ++ b ∷ []) (h₃ ∙ ap (λ (l : List Change). l ++ links) (h₂ ∙ ap (λ (l : List Change). l ++ a ∷ []) h₁))
    ∙ append_assoc ((old ++ own) ++ a ∷ []) links (b ∷ []) ∙ append_assoc (old ++ own) (a ∷ []) (links ++ b ∷ []) ∙ append_assoc old own (a ∷ (links ++ b ∷ []))

pub returns-clause-changes : goal.returns-clause-changes
returns-clause-changes c =
    let old = c.args.changes.now in
    let call = c.args.call.now in
    let kind = c.kind_named-kind.ensures in
    let pid = ap (λ n. c.args.next + n) c.count_data.ensures.value in
    joined old (data_of call.args) (links_of c.input_link.result c.args.next (c.args.next + c.count_data.result) call.args) _ _ _ _ c.in_ok-new_child.field-0 c.in_ok-link_to.field-0
    c.in_ok-put_data.ensures c.in_ok-push.ensures.ok c.in_ok-put_links.ensures c.in_ok-push-2.ensures.ok
    ∙ (λ i. old ++ (data_of call.args ++ c.in_ok-new_child.ensures i
    ∷ (links_of ((c.input_link.ensures ∙ ap input_link kind) i) c.args.next (pid i) call.args ++ c.in_ok-link_to.ensures c.args.next kind pid i ∷ [])))
