-- A world with one process more: ended processes have the trees that they mean, and live ones are on track.
use Rattle.std.proofs.Common.{◌≡◌, ℕ, ◌+◌, ◌≤◌, Bool, true, false, Option, Some, None, ◌∷◌, length, refl, sym, ap, ◌∙◌, subst, arith}
use Rattle.std.specs.Prelude.{◌&&◌, not}
use Rattle.std.specs.Str.{bytes_eq}
use Rattle.std.proofs.lemmas.List.Elements.{All-weaker}
use Rattle.wc_value.specs.declared.process.ProcessState.{ProcessState}
use Rattle.wc_value.specs.declared.process.ProcessState.TheVariants as state
use Rattle.wc_semantics.specs.Tables.{Label, Table, Kills}
use Rattle.wc_semantics.specs.declared.progress.Answer.{Answer}
use Rattle.wc_state.specs.declared.record.Part.{Part}
use Rattle.wc_state.specs.declared.record.Part.TheVariants as part
use Rattle.wc_state.specs.declared.record.ProcessKind.TheVariants as kind
use Rattle.wc_state.specs.declared.record.ProcessRecord.{ProcessRecord}
use Rattle.wc_world.specs.Consistent.{IsConsistent, Stands}
use Rattle.wc_world.specs.Fits.{part_fits}
use Rattle.wc_world.specs.Records.{find_record, has_ended, is_call_from}
use Rattle.wc_world.specs.World.{World}
use Rattle.wc_machine.specs.Paths.{kills}
use Rattle.wc_machine.specs.Rest.{with_stop, meant, part_rest, rest, is_awaited, has_bound, FitKills, GivesTree, IsOnTrack}
use Rattle.wc_machine.specs.Sound.{IsMeant}
use Rattle.wc_machine.proofs.Frames.{any_before}
use Rattle.wc_machine.proofs.OneMore.{Addition, grown, no_calls_from, number_within, stands, meant_kept, kills_kept, agrees_before, recorded_tree_kept}

-- a live function is created
pub function_is_created : (s : ProcessState) (p : Part) → part_fits kind.Function s p ≡ true → has_ended s ≡ false → (s ≡ state.Created) × (p ≡ part.Fresh)
function_is_created state.Created part.Fresh f e = (refl, refl)
function_is_created state.Created (part.Chain c) f e = absurd (cc)
function_is_created state.Created (part.Job j) f e = absurd (cc)
function_is_created state.Created part.Over f e = absurd (cc)
function_is_created state.Running p f e = absurd (cc)
function_is_created state.Waiting p f e = absurd (cc)
function_is_created (state.Finished n) p f e = absurd (cc)
function_is_created (state.Excepted r) p f e = absurd (cc)
function_is_created state.Killed p f e = absurd (cc)

not_running : (s : ProcessState) → s ≡ state.Created → s ≡ state.Running → ⊥
not_running s p q = absurd (cc)

no_stop : (cuts : Kills) → cuts ≡ with_stop cuts None
no_stop cuts = λ i path. cuts path

rest_is_meant : (u : World) (table : Table) (cuts : Kills) (stop : Option ℕ) (n : ℕ) (r : ProcessRecord) → r.part ≡ part.Fresh
    → rest u table cuts stop n r ≡ meant u r table (with_stop cuts stop) n
rest_is_meant u table cuts stop n r e = ap (part_rest u table cuts stop n r) e

-- a created process without fuel is on track
pub fresh_on_track : (u : World) (r : ProcessRecord) → r.part ≡ part.Fresh → r.state ≡ state.Created → r.fuel ≡ 0 → IsOnTrack u r
fresh_on_track u r fresh created none = record {
  onward = λ table cuts agrees fits n stop t g.
      let m : n ≡ n + r.fuel = omega arith in
      subst (λ (k : ℕ). GivesTree (meant u r table (with_stop cuts stop) k) t) m
      (subst (λ (x : Option Answer). GivesTree x t) (rest_is_meant u table cuts stop n r fresh) g);
  comes = λ table cuts agrees fits n t g.
      (n, subst (λ (x : Option Answer). GivesTree x t) (ap (λ (k : Kills). meant u r table k n) (no_stop cuts) ∙ sym (rest_is_meant u table cuts None n r fresh)) g);
  cut = λ table agrees running. absurd (not_running r.state created running);
}

module _ (w : World) (h : IsConsistent w) (add : Addition w) where
  pub meant_stays : (r : ProcessRecord) → find_record r.node w.records ≡ Some r → IsMeant w r → IsMeant (grown w add) r
  meant_stays r found m table agrees =
      let v = grown w add in
      let s : Stands w r = stands w h add r.node r found in
      let le : r.node ≤ length w.nodes = number_within w h add r.node r found in
      let t = m table (agrees_before w h add table r.node agrees) in
      let same : meant v r table (kills v r.node) r.fuel ≡ meant w r table (kills w r.node) r.fuel
      = meant_kept w h add r s le table (kills v r.node) r.fuel
      ∙ ap (λ (cuts : Kills). meant w r table cuts r.fuel) (kills_kept w h add r.node le) in
      (t.0, recorded_tree_kept w h add r.node le ∙ t.1, subst (λ (x : Option Answer). GivesTree x t.0) (sym same) t.2)

  bound_before : (r : ProcessRecord) (label : Label) → has_bound (grown w add) r label ≡ has_bound w r label
  bound_before r label =
      any_before (λ l. (is_call_from r.node l && bytes_eq l.label label) && not (is_awaited r.part l.target)) w.links add.links
      (All-weaker (λ l. is_call_from r.node l ≡ false) (λ l. (is_call_from r.node l && bytes_eq l.label label) && not (is_awaited r.part l.target) ≡ false)
      (λ l e. ap (λ (b : Bool). (b && bytes_eq l.label label) && not (is_awaited r.part l.target)) e) add.links (no_calls_from w h add r.node))

  fits_before : (cuts : Kills) (r : ProcessRecord) → r.node ≤ length w.nodes → FitKills cuts (grown w add) r → FitKills cuts w r
  fits_before cuts r le f = record {
    alive = f.alive;
    bound = λ label path b.
        f.bound label path (bound_before r label ∙ b) ∙ ap (λ (k : Kills). k (label ∷ path)) (kills_kept w h add r.node le);
  }

  pub fresh_stays : (r : ProcessRecord) → find_record r.node w.records ≡ Some r → r.part ≡ part.Fresh → r.state ≡ state.Created → IsOnTrack w r → IsOnTrack (grown w add) r
  fresh_stays r found fresh created track =
      let v = grown w add in
      let s : Stands w r = stands w h add r.node r found in
      let le : r.node ≤ length w.nodes = number_within w h add r.node r found in
      let same : (table : Table) (cuts : Kills) (stop : Option ℕ) (n : ℕ) → rest v table cuts stop n r ≡ rest w table cuts stop n r
      = λ table cuts stop n. rest_is_meant v table cuts stop n r fresh ∙ meant_kept w h add r s le table (with_stop cuts stop) n
      ∙ sym (rest_is_meant w table cuts stop n r fresh) in
      record {
        onward = λ table cuts agrees fits n stop t g.
            subst (λ (x : Option Answer). GivesTree x t) (sym (meant_kept w h add r s le table (with_stop cuts stop) (n + r.fuel)))
            (track.onward table cuts (agrees_before w h add table r.node agrees) (fits_before cuts r le fits) n stop t
            (subst (λ (x : Option Answer). GivesTree x t) (same table cuts stop n) g));
        comes = λ table cuts agrees fits n t g.
            let c = track.comes table cuts (agrees_before w h add table r.node agrees) (fits_before cuts r le fits) n t
            (subst (λ (x : Option Answer). GivesTree x t) (meant_kept w h add r s le table cuts n) g) in
            (c.0, subst (λ (x : Option Answer). GivesTree x t) (sym (same table cuts None c.0)) c.1);
        cut = λ table agrees running. absurd (not_running r.state created running);
      }
