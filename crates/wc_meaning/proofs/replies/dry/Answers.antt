use Rattle.std.proofs.Common.{List, [], sym, subst}
use Rattle.wc_meaning.specs.Replies.{Replies, DryReplies, reply_of}
use Rattle.wc_meaning.proofs.Alone.{alone}
use Rattle.wc_meaning.proofs.replies.dry.Goals as goal

pub returns : goal.returns
returns c =
    let a = c.args in
    let reply = λ (ks : List _). reply_of a.library.now a.name.now a.inputs.now 15 a.table.now ks a.fuel in
    subst (λ x. DryReplies x (reply [])) (sym c.tree_alone.ensures)
    (alone c.replay.result (reply []) (subst (λ ks. Replies c.replay.result (reply ks)) c.new-kills.ensures c.replay.ensures))
