use Rattle.std.proofs.Common.{◌≡◌, ◌<◌, ◌∙◌, List, sym, ap, subst}
use Rattle.std.specs.Prelude.{IfOk, OnOk}
use Rattle.wc_world.specs.declared.change.Change.{Change}
use Rattle.wc_world.specs.declared.draft.Draft.{Draft}
use Rattle.wc_world.specs.World.{World}
use Rattle.wc_world.specs.Applied.{begun, changed}
use Rattle.wc_world.specs.Accepted.{setting, IsReached}
use Rattle.wc_world.specs.Drafts.{drafted, Tells}
use Rattle.wc_world.specs.Playing.{ApplyBy}
use Rattle.wc_world.proofs.Taken.{IsPlayed, play_reached, where_ok}
use Rattle.wc_world.proofs.played.Played.play.Goals as goal

pub settle-requires-clause-reached : goal.settle-requires-clause-reached
settle-requires-clause-reached c =
    let w = c.args.played in
    let cs = c.args.changes in
    let t = c.in_ok-played.terms in
    let d = c.begin-draft.result in
    let last = c.in_ok-filled.field-0 in
    let taken = c.take_all-taken.new.self in
    let same : c.in_ok-played.played ≡ w = ap (λ (p : World × List Change). p.0) c.in_ok-played.ensures.given.0 ∙ c.ready-ready.ensures.same in
    let alike : c.in_ok-played.changes ≡ cs = ap (λ (p : World × List Change). p.1) c.in_ok-played.ensures.given.0 in
    let ready = c.in_ok-played.ensures.given.1 in
    let played : IsPlayed w cs t d last = record {
      few = subst (λ r. OnOk r (w.batches < 4000000000)) ready c.ready-ready.ensures.few;
      tells = subst (λ r. IfOk r (λ u. Tells u (setting w cs))) ready c.ready-ready.ensures.tells;
      same = c.begin-draft.ensures.world ∙ ap begun same;
      each = subst (λ (xs : List Change). ApplyBy t (drafted d) xs) alike (where_ok c.take_all-taken.result c.in_ok-filled.ensures.filled c.take_all-taken.ensures.each);
      after = subst (λ (x : Draft). drafted x ≡ changed t.batch (drafted d) cs) (sym c.in_ok-filled.ensures.given)
          (subst (λ (xs : List Change). drafted taken ≡ changed t.batch (drafted d) xs) alike (where_ok c.take_all-taken.result c.in_ok-filled.ensures.filled c.take_all-taken.ensures.world));
    } in
    play_reached w cs t d last played (subst IsReached same c.begin-draft.ensures.reached)
