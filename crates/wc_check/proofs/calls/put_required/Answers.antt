use Rattle.std.proofs.Common.{◌≡◌, ◌∙◌, ◌∷◌, ◌++◌, [], ap, sym, true, subst}
use Rattle.std.specs.Prelude.{if◌then◌else◌}
use Rattle.wc_syntax.specs.Findings.{is_among}
use Rattle.wc_check.specs.Flat.{behind}
use Rattle.wc_check.proofs.Signing.{again, was_there}
use Rattle.wc_check.proofs.calls.put_required.Goals as goal

pub returns-else-branch-clause-same : goal.returns-else-branch-clause-same
returns-else-branch-clause-same c = λ m.
    c.in_ok-add.ensures.names m ∙ again _ _ (was_there _ _ c.in_ok-add.ensures.added c.if-branch.false) m ∙ c.requires m

pub returns-else-branch-clause-more : goal.returns-else-branch-clause-more
returns-else-branch-clause-more c = λ m.
    let had = was_there _ _ c.in_ok-add.ensures.added c.if-branch.false in
    let n : c.as_str-name.result.now ≡ c.args.port.now.name.text = c.as_str-name.ensures in
    sym (again (behind c.args.required.now.items) c.args.port.now.name.text (sym (c.requires c.args.port.now.name.text) ∙ subst (λ k. is_among k c.args.seen.now ≡ true) n had) m)
    ∙ ap (λ b. is_among m (behind c.args.required.now.items ++ (if b then [] else c.args.port.now.name.text ∷ []))) (sym c.if-port.false)
