-- How the processes of a world stand, by what its index lends.
use Rattle.std.proofs.Common.{◌≡◌, ℕ, ◌<◌, Bool, true, false, List, [], ◌∷◌, Option, Some, None, get_or, length, refl, sym, ap, subst, ◌∙◌, arith}
use Rattle.std.specs.Prelude.{All}
use Rattle.std.proofs.lemmas.List.Elements.{All-get_or}
use Rattle.wc_state.specs.declared.record.ProcessRecord.{ProcessRecord}
use Rattle.wc_records.specs.Readiness as records
use Rattle.wc_records.specs.Readiness.{AreDues}
use Rattle.wc_records.proofs.Waiting.{Waits, first_waits, never_ready, nobody_waits, ready_stays, ready_then}
use Rattle.wc_world.specs.World.{World}
use Rattle.wc_world.specs.Consistent.{IsConsistent}
use Rattle.wc_world.specs.Records.{find_record}
use Rattle.wc_world.proofs.ReachedLists.{unique}
use Rattle.wc_world.proofs.SnapshotLists.{number_of_found}
use Rattle.wc_machine.specs.Readiness.{is_ready, ready_at}
use Rattle.wc_core.specs.Ready.{is_ready_by}
use Rattle.wc_core.specs.Standing.{HasFree, StandsAs, is_resting, moment_in}
use Rattle.wc_core.specs.declared.standing.Standing.TheVariants.{Going}
use Rattle.wc_core.proofs.Due.{moment_is}
use Rattle.wc_core.proofs.Free.{ready_goes}
use Rattle.wc_core.proofs.Held.{IsNeverReady, all_held}
use Rattle.wc_core.proofs.NextReady.{all_ready, none_ready}

-- where some process is free, the world goes on
pub goes : (w : World) → IsConsistent w → HasFree w → StandsAs w Going
goes w c f = let g = ready_goes w c f.process f.found (moment_in f.process.part) f.ready in (g.0, g.1, f)

-- a process that is ready at moment 0 is free
free_at_once : (w : World) (n : ℕ) (o : Option ProcessRecord) → find_record n w.records ≡ o → is_ready_by w 0 o ≡ true → HasFree w
free_at_once w n None found ready = absurd (cc)
free_at_once w n (Some r) found ready =
    record {
      process = r;
      found = ap (λ (m : ℕ). find_record m w.records) (number_of_found n w.records r found) ∙ found;
      ready = ready_stays w.records (moment_in r.part) r ready;
    }

pub goes_at_once : (w : World) (ids : List ℕ) → IsConsistent w → ids ≡ ready_at w 0 → 0 < length ids → StandsAs w Going
goes_at_once w ids c are some =
    let first : ℕ = get_or (ready_at w 0) 0 0 in
    let within : 0 < length (ready_at w 0) = subst (λ (ns : List ℕ). 0 < length ns) are some in
    goes w c (free_at_once w first (find_record first w.records) refl (all_ready w 0 c 0 0 within))

pub goes_later : (w : World) (dues : List (ℕ × ℕ)) → IsConsistent w → AreDues w.records dues → 0 < length dues → StandsAs w Going
goes_later w [] c a some = absurd (omega (arith, some))
goes_later w (d ∷ dues) c a some =
    let first : Waits w.records d.0 d.1 = first_waits w.records d dues a in
    let r : ProcessRecord = first.process in
    goes w c
    (record {
      process = r;
      found = ap (λ (m : ℕ). find_record m w.records) (number_of_found d.1 w.records r first.found) ∙ first.found;
      ready = ap (λ (m : ℕ). is_ready w m r) (moment_is r.part) ∙ ready_then w.records r first.later;
    })

-- where none is ready at moment 0, and none waits for a later one, each live one is held up
pub rests : (w : World) (ids : List ℕ) (dues : List (ℕ × ℕ)) → IsConsistent w → ids ≡ ready_at w 0 → ids ≡ [] → AreDues w.records dues → dues ≡ [] → is_resting w ≡ true
rests w ids dues c are none a nobody =
    all_held w c
    (λ i d lt.
    let r : ProcessRecord = get_or w.records i d in
    let found : find_record r.node w.records ≡ Some r = unique 1 w.nodes w.records c.numbered i d lt in
    never_ready w.records (moment_in r.part) r (none_ready w 0 (sym are ∙ none) i d lt) (nobody_waits w.records r (subst (AreDues w.records) nobody a) found))
