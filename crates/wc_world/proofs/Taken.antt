-- A draft that took all changes of a batch.
use Rattle.std.proofs.Common.{◌≡◌, ◌<◌, List, None, Result, Ok, Err, refl, sym, subst, ◌∙◌, true≢false}
use Rattle.std.specs.Prelude.{IsOk, OnOk}
use Rattle.wc_world.specs.declared.change.Change.{Change}
use Rattle.wc_world.specs.declared.draft.Draft.{Draft}
use Rattle.wc_world.specs.declared.terms.Terms.{Terms}
use Rattle.wc_world.specs.World.{World}
use Rattle.wc_world.specs.Applied.{begun, changed, applied}
use Rattle.wc_world.specs.Fits.{unsettled}
use Rattle.wc_world.specs.Accepted.{setting, IsAccepted, IsReached, nothing, then_changes}
use Rattle.wc_world.specs.Drafts.{drafted, Tells}
use Rattle.wc_world.specs.Playing.{ApplyBy}

pub reached_settled : (w : World) → IsReached w → unsettled w.links w.records ≡ None
reached_settled _ nothing = refl
reached_settled _ (then_changes w cs reached accepted) = accepted.settled

-- what holds where there is a value, where there is one
pub where_ok : {A E P : Type 0} (r : Result A E) → IsOk r → OnOk r P → P
where_ok (Ok x) h p = p
where_ok (Err e) h p = absurd (true≢false (sym h))

-- what is known of a draft that took all changes
pub record IsPlayed (w : World) (cs : List Change) (t : Terms) (first last : Draft) : Type 0 where
  pub few : w.batches < 4000000000
  pub tells : Tells t (setting w cs)
  pub same : drafted first ≡ begun w
  pub each : ApplyBy t (drafted first) cs
  pub after : drafted last ≡ changed t.batch (drafted first) cs

module _ (w : World) (cs : List Change) (t : Terms) (first last : Draft) (h : IsPlayed w cs t first last) where
  pub last_applied : drafted last ≡ applied w cs
  last_applied = h.after ∙ (λ i. changed (sym h.tells.batch i) (h.same i) cs)

  pub play_accepted : unsettled last.graph.links last.records.0 ≡ None → IsAccepted w cs
  play_accepted none = record {
    batch = h.few;
    each = subst (λ (v : World). ApplyBy t v cs) h.same h.each (setting w cs) h.tells;
    settled = subst (λ (v : World). unsettled v.links v.records ≡ None) last_applied none;
  }

  pub play_reached : IsReached w → unsettled last.graph.links last.records.0 ≡ None → IsReached (drafted last)
  play_reached reached none = subst IsReached (sym last_applied) (then_changes w cs reached (play_accepted none))
