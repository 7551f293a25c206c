-- A world accepts changes or refuses them.
use Rattle.std.proofs.Common.{◌≡◌, ◌⊎◌, inl, inr, ℕ, ◌<◌, ◌≤◌, Bool, true, false, List, [], ◌∷◌, length, Option, Some, None, refl, ap}
use Rattle.std.specs.Prelude.{◌&&◌, nat_le}
use Rattle.std.proofs.lemmas.Bool.{cases_lt}
use Rattle.std.proofs.lemmas.Bool.Decides.{leb_tells}
use Rattle.wc_value.specs.Spelling.{depth}
use Rattle.wc_value.specs.declared.value.Value.{Value}
use Rattle.wc_graph.specs.Rules.{IsCall}
use Rattle.wc_graph.specs.Refusals.{IsAllowed}
use Rattle.wc_graph.specs.declared.error.GraphError.TheVariants as graph
use Rattle.wc_graph.specs.declared.link.Link.{Link}
use Rattle.wc_records.specs.declared.change.NewProcess.{NewProcess}
use Rattle.wc_records.specs.declared.change.SetProcess.{SetProcess}
use Rattle.wc_state.specs.declared.record.ProcessRecord.{ProcessRecord}
use Rattle.wc_world.specs.declared.change.Change.{Change}
use Rattle.wc_world.specs.declared.change.Change.TheVariants as change
use Rattle.wc_world.specs.declared.error.WorldError.{WorldError}
use Rattle.wc_world.specs.declared.error.WorldError.TheVariants as error
use Rattle.wc_world.specs.World.{World}
use Rattle.wc_world.specs.Records.{find_record}
use Rattle.wc_world.specs.Applied.{next_number, after_change, begun, applied}
use Rattle.wc_world.specs.Fits.{names_ascend, new_fits, call_fits, set_fits, unsettled}
use Rattle.wc_world.specs.Accepted.{Setting, setting, source_fits, kept_fits, HasNumber, Fits, Refuses, Apply, FirstRefused, IsAccepted, IsRefused}
use Rattle.wc_store.specs.DecidedLaws.{ChangesAreDecided}
use Rattle.wc_store.proofs.Deciding.{IsDecided, true_or_false}
use Rattle.wc_store.proofs.Links.{call_or_not, links_decided}

and_false_first : (a b : Bool) → a ≡ false → a && b ≡ false
and_false_first a b e = ap (λ t. t && b) e

and_false_second : (a b : Bool) → b ≡ false → a && b ≡ false
and_false_second true b e = e
and_false_second false b e = refl

-- ---- one change
module _ (s : Setting) (w : World) where
  abbrev Answer : Change → Type 0
  Answer c = Fits s w c ⊎ ((e : WorldError) × Refuses s w c e)

  data_by : (v : Value) → HasNumber w → (32 < depth v) ⊎ (depth v ≤ 32) → Answer (change.Data v)
  data_by v number (inl deep) = inr (error.BadRecord (next_number w), inr (refl, number, deep))
  data_by v number (inr flat) = inl (number, flat)

  data_answer : (v : Value) → Answer (change.Data v)
  data_answer v =
      elim (cases_lt (length w.nodes) 8000000) [
        | inl number ↦ data_by v number (cases_lt 32 (depth v))
        | inr full ↦ inr (error.Graph graph.Full, inl (refl, full))
      ]

  process_by : (n : NewProcess) → HasNumber w → (new_fits w.libraries n ≡ true) ⊎ (new_fits w.libraries n ≡ false) → Answer (change.Process n)
  process_by n number (inl fits) = inl (number, fits)
  process_by n number (inr unfit) = inr (error.BadRecord (next_number w), inr (refl, number, unfit))

  process_answer : (n : NewProcess) → Answer (change.Process n)
  process_answer n =
      elim (cases_lt (length w.nodes) 8000000) [
        | inl number ↦ process_by n number (true_or_false (new_fits w.libraries n))
        | inr full ↦ inr (error.Graph graph.Full, inl (refl, full))
      ]

  link_by : (l : Link) → IsAllowed w.nodes w.links l → IsDecided (IsCall l.link) → (call_fits w.records l ≡ true) ⊎ (call_fits w.records l ≡ false)
      → Answer (change.Link l)
  link_by l allowed (inl call) (inl fits) = inl (allowed, λ h. fits)
  link_by l allowed (inl call) (inr unfit) = inr (error.BadRecord l.target, (refl, allowed, call, unfit))
  link_by l allowed (inr other) fits = inl (allowed, λ call. absurd (other call))

  link_answer : (l : Link) → Answer (change.Link l)
  link_answer l =
      elim (links_decided w.nodes w.links l) [
        | inl allowed ↦ link_by l allowed (call_or_not l.link) (true_or_false (call_fits w.records l))
        | inr refused ↦ inr (error.Graph refused.0, refused.1)
      ]

  set_by : (c : SetProcess) (r : ProcessRecord) → find_record c.pid w.records ≡ Some r
      → (set_fits w c r ≡ true) ⊎ (set_fits w c r ≡ false) → (source_fits s w c r ≡ true) ⊎ (source_fits s w c r ≡ false) → Answer (change.Set c)
  set_by c r found (inl fits) (inl source) = inl (r, found, fits, source)
  set_by c r found (inl fits) (inr other) = inr (error.BadRecord c.pid, inr (refl, (r, found, and_false_second _ _ other)))
  set_by c r found (inr unfit) source = inr (error.BadRecord c.pid, inr (refl, (r, found, and_false_first _ _ unfit)))

  set_found : (c : SetProcess) (o : Option ProcessRecord) → find_record c.pid w.records ≡ o → Answer (change.Set c)
  set_found c None found = inr (error.NoProcess c.pid, inl (refl, found))
  set_found c (Some r) found = set_by c r found (true_or_false (set_fits w c r)) (true_or_false (source_fits s w c r))

  count_by : (n : ℕ) → (s.snapshot ≡ true) ⊎ (s.snapshot ≡ false) → ((nat_le n 4000000000 ≡ true) × (n ≤ 4000000000)) ⊎ ((nat_le n 4000000000 ≡ false) × (4000000000 < n))
      → Answer (change.Count n)
  count_by n (inl snapshot) (inl few) = inl (snapshot, few.1)
  count_by n (inl snapshot) (inr many) = inr (error.BadRecord 0, (refl, and_false_second _ _ many.0))
  count_by n (inr other) number = inr (error.BadRecord 0, (refl, and_false_first _ _ other))

  change_answer : (c : Change) → Answer c
  change_answer (change.Library l names) =
      elim (true_or_false (names_ascend names)) [
        | inl ascend ↦ inl ascend
        | inr other ↦ inr (error.BadRecord 0, (refl, other))
      ]
  change_answer (change.Data v) = data_answer v
  change_answer (change.Process n) = process_answer n
  change_answer (change.Link l) = link_answer l
  change_answer (change.Set c) = set_found c (find_record c.pid w.records) refl
  change_answer (change.Count n) = count_by n (true_or_false s.snapshot) (leb_tells n 4000000000)
  change_answer (change.Kept k) =
      elim (true_or_false (kept_fits s k (find_record k.pid w.records))) [
        | inl fits ↦ inl fits
        | inr unfit ↦ inr (error.BadRecord k.pid, (refl, unfit))
      ]

-- ---- changes one after another
abbrev EachAnswer : Setting → World → List Change → Type 0
EachAnswer s w cs = Apply s w cs ⊎ ((e : WorldError) × FirstRefused s w cs e)

module _ (s : Setting) (w : World) (c : Change) (cs : List Change) where
  rest_by : Fits s w c → EachAnswer s (after_change s.batch w c) cs → EachAnswer s w (c ∷ cs)
  rest_by fits (inl rest) = inl (fits, rest)
  rest_by fits (inr refused) = inr (refused.0, inr (fits, refused.1))

  first_by : Answer s w c → EachAnswer s (after_change s.batch w c) cs → EachAnswer s w (c ∷ cs)
  first_by (inl fits) rest = rest_by fits rest
  first_by (inr refused) rest = inr (refused.0, inl refused.1)

each_answer : (s : Setting) (w : World) (cs : List Change) → EachAnswer s w cs
each_answer s w [] = inl tt
each_answer s w (c ∷ cs) = first_by s w c cs (change_answer s w c) (each_answer s (after_change s.batch w c) cs)

-- ---- all changes
module _ (w : World) (cs : List Change) (batch : w.batches < 4000000000) where
  abbrev Changed : Type 0
  Changed = IsAccepted w cs ⊎ ((e : WorldError) × IsRefused w cs e)

  by_settled : Apply (setting w cs) (begun w) cs → (o : Option ℕ) → unsettled (applied w cs).links (applied w cs).records ≡ o → Changed
  by_settled each None settled = inl (record { batch = batch; each = each; settled = settled })
  by_settled each (Some pid) found = inr (error.BadRecord pid, inr (inr (batch, each, (pid, found, refl))))

  by_each : EachAnswer (setting w cs) (begun w) cs → Changed
  by_each (inl each) = by_settled each (unsettled (applied w cs).links (applied w cs).records) refl
  by_each (inr refused) = inr (refused.0, inr (inl (batch, refused.1)))

pub changes_decided : ChangesAreDecided
changes_decided w cs =
    elim (cases_lt w.batches 4000000000) [
      | inl batch ↦ by_each w cs batch (each_answer (setting w cs) (begun w) cs)
      | inr full ↦ inr (error.BadRecord 0, inl (refl, full))
    ]
