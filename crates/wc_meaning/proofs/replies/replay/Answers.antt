use Rattle.std.proofs.Common.{◌-◌, List, sym, ap, subst, ◌∙◌}
use Rattle.wc_syntax.specs.declared.definition.Definition.{Definition}
use Rattle.wc_meaning.specs.Replies.{Replies, reply_of}
use Rattle.wc_meaning.proofs.Bare.{reply_bare}
use Rattle.wc_meaning.proofs.replies.replay.Goals as goal

pub returns : goal.returns
returns c =
    let a = c.args in
    subst (λ r. Replies c.reply.result r)
    (sym (reply_bare c.library.result.now a.name.now a.inputs.now (16 - a.depth) a.table.now a.kills.now a.fuel)
    ∙ ap (λ (ds : List Definition). reply_of ds a.name.now a.inputs.now (16 - a.depth) a.table.now a.kills.now a.fuel) c.library.ensures.same)
    c.reply.ensures
