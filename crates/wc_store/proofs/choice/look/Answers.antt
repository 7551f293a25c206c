use Rattle.wc_store.proofs.Looking.{bare_shown, holding_shown, image_as}
use Rattle.wc_store.proofs.choice.look.Goals as goal

pub returns-in-Ok-None-clause-shows : goal.returns-in-Ok-None-clause-shows
returns-in-Ok-None-clause-shows g c = image_as g.D.Disk c.args.disk.now _ _ (λ image none. bare_shown image none) (rw c.in-Ok-None.field-0-is at c.in-Ok-None.ensures.ok)

pub returns-in-Ok-Some-clause-shows : goal.returns-in-Ok-Some-clause-shows
returns-in-Ok-Some-clause-shows g c =
    image_as g.D.Disk c.args.disk.now _ _ (λ image gives. holding_shown image c.in-Ok-Some.loaded gives.0 gives.1) (rw c.in-Ok-Some.field-0-is at c.in-Ok-Some.ensures.ok)

pub returns-in-Err-Damaged-clause-shows : goal.returns-in-Err-Damaged-clause-shows
returns-in-Err-Damaged-clause-shows g c =
    image_as g.D.Disk c.args.disk.now _ _ c.damage_seen.ensures (rw c.in-Err-Damaged.field-0-is at c.in-Err-Damaged.ensures.refused)
