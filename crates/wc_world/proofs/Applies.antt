-- Changes of a list that apply one after another.
use Rattle.std.proofs.Common.{◌≡◌, true, Option, Some, None, List, [], ◌∷◌, get_or, refl, subst}
use Rattle.std.specs.Prelude.{is_some}
use Rattle.wc_syntax.specs.declared.definition.Definition.{Definition}
use Rattle.wc_state.specs.declared.record.ProcessKind.{ProcessKind}
use Rattle.wc_world.specs.declared.change.Change.{Change}
use Rattle.wc_world.specs.World.{World}
use Rattle.wc_world.specs.Applied.{after_change, changed, begun, applied}
use Rattle.wc_world.specs.Accepted.{Setting, setting, Fits, Apply, IsAccepted, IsReached}
use Rattle.wc_world.specs.Room.{Room, HasRoom}
use Rattle.wc_world.specs.Drafts.{Ascends}
use Rattle.wc_world.specs.Called.{AwaitsCalled}
use Rattle.wc_world.specs.Fits.{is_of_kind}
use Rattle.wc_world.specs.Keys.{AreDefined, its_definition}
use Rattle.wc_world.proofs.Awaiting.{change_awaits, fits_sets, reached_awaits}
use Rattle.wc_world.proofs.Ascents.{change_ascends, reached_ascends}
use Rattle.wc_world.proofs.ReachedSound.{IsSound, sound_after}
use Rattle.wc_world.proofs.ReachedWorlds.{reached_is_consistent, sound_begun}

-- the changes left make of the world so far what all of them make of the old one, and each of them applies and has room
pub record Remain (s : Setting) (final w : World) (room : Room) (rest : List Change) : Type 0 where
  pub whole : changed s.batch w rest ≡ final
  pub fits : Apply s w rest
  pub enough : HasRoom room rest
  pub ascending : Ascends w
  pub awaits : AwaitsCalled w
  pub sound : IsSound w

-- a world and changes that equal those in hand
pub remain_equal : (s : Setting) (final v w : World) (room more : Room) (cs ds : List Change) → v ≡ w → room ≡ more → cs ≡ ds → Remain s final v room cs → Remain s final w more ds
remain_equal s final v w room more cs ds worlds rooms changes h =
    subst (λ (x : World). Remain s final x more ds) worlds
    (subst (λ (r : Room). Remain s final v r ds) rooms
    (subst (λ (xs : List Change). Remain s final v room xs) changes h))

pub next_fits : (s : Setting) (final w : World) (room : Room) (c : Change) (cs : List Change) → Remain s final w room (c ∷ cs) → Fits s w c
next_fits s final w room c cs h = h.fits.0

pub remain_next : (s : Setting) (final w : World) (room more : Room) (c : Change) (cs : List Change)
    → Remain s final w room (c ∷ cs) → HasRoom more cs → Remain s final (after_change s.batch w c) more cs
remain_next s final w room more c cs h has = record {
  whole = h.whole;
  fits = h.fits.1;
  enough = has;
  ascending = change_ascends s.batch w c h.ascending;
  awaits = change_awaits s.batch w c (fits_sets s w c h.fits.0) h.awaits;
  sound = sound_after s w c h.sound h.fits.0;
}

pub remain_all : (w : World) (room : Room) (cs : List Change) → IsReached w → IsAccepted w cs → HasRoom room cs → Remain (setting w cs) (applied w cs) (begun w) room cs
remain_all w room cs reached accepted has = record {
  whole = refl;
  fits = accepted.each;
  enough = has;
  ascending = reached_ascends w reached;
  awaits = reached_awaits w reached;
  sound = sound_begun w (reached_is_consistent w reached);
}

-- the definition of each process is there
pub remain_defined : (s : Setting) (final w : World) (room : Room) (cs : List Change) → Remain s final w room cs → AreDefined w
remain_defined s final w room cs h = λ i d lt. told (get_or w.records i d).kind (its_definition w (get_or w.records i d)) (h.sound.records i d lt).defined
  where
    told : (k : ProcessKind) (o : Option Definition) → is_of_kind k o ≡ true → is_some o ≡ true
    told k None is = is
    told k (Some d) is = refl

pub remain_none : (s : Setting) (final w : World) (room : Room) → Remain s final w room [] → w ≡ final
remain_none s final w room h = h.whole
