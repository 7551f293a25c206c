-- Valid sources, by a test.
use Rattle.std.proofs.Common.{◌≡◌, ℕ, ◌<◌, pos, Bool, true, false, List, [], ◌∷◌, map, Option, Some, None, refl, ap, ◌∙◌}
use Rattle.std.specs.Prelude.{◌↔◌, ◌&&◌, ◌||◌, not, option_map}
use Rattle.std.specs.Ordering.{int_eq}
use Rattle.std.specs.List.{list_any}
use Rattle.wc_value.specs.declared.process.ProcessState.{ProcessState}
use Rattle.wc_value.specs.declared.process.ProcessState.TheVariants as state
use Rattle.wc_syntax.specs.declared.definition.Definition.{Definition}
use Rattle.wc_syntax.specs.declared.definition.Definition.TheVariants as definition
use Rattle.wc_syntax.specs.declared.definition.ExitCode.{ExitCode}
use Rattle.wc_syntax.specs.Bare.{bare_definition, bare_code}
use Rattle.wc_state.specs.declared.record.ProcessRecord.{ProcessRecord}
use Rattle.wc_world.specs.World.{World}
use Rattle.wc_world.specs.Records.{is_calculation}
use Rattle.wc_machine.specs.Recorded.{its_definition}
use Rattle.wc_machine.specs.Sources.{IsValidSource, marks}
use Rattle.wc_cache.specs.Sources.{is_unmarked, is_unmarked_by}

-- ---- offsets play no part in what a definition marks

abbrev marked_by : ℕ → List ExitCode → Bool
marked_by n cs = list_any (λ (c : ExitCode). c.invalidates && int_eq c.status.value (pos n)) cs

codes_bare : (n : ℕ) (cs : List ExitCode) → marked_by n (map bare_code cs) ≡ marked_by n cs
codes_bare n [] = refl
codes_bare n (c ∷ cs) = ap (λ b. (c.invalidates && int_eq c.status.value (pos n)) || b) (codes_bare n cs)

marks_bare : (d : Definition) (n : ℕ) → marks (bare_definition d) n ≡ marks d n
marks_bare (definition.Function f) n = codes_bare n f.head.codes
marks_bare (definition.Job j) n = codes_bare n j.head.codes
marks_bare (definition.Chain c) n = codes_bare n c.head.codes

pub unmarked_bare : (o : Option Definition) (n : ℕ) → is_unmarked_by (option_map bare_definition o) n ≡ is_unmarked_by o n
unmarked_bare None n = refl
unmarked_bare (Some d) n = ap not (marks_bare d n)

-- ---- what the tests say

abbrev WasUnmarked : ProcessState → Option Definition → Type 0
WasUnmarked s o = (n : ℕ) × (s ≡ state.Finished n) × ((d : Definition) × (o ≡ Some d) × (marks d n ≡ false))

not_true : (b : Bool) → not b ≡ true → b ≡ false
not_true true e = absurd (cc)
not_true false e = refl

was_by : (n : ℕ) (o : Option Definition) → is_unmarked_by o n ≡ true → WasUnmarked (state.Finished n) o
was_by n None h = absurd (cc)
was_by n (Some d) h = (n, refl, (d, refl, not_true (marks d n) h))

was : (s : ProcessState) (o : Option Definition) → is_unmarked s o ≡ true → WasUnmarked s o
was state.Created o h = absurd (cc)
was state.Running o h = absurd (cc)
was state.Waiting o h = absurd (cc)
was (state.Finished n) o h = was_by n o h
was (state.Excepted r) o h = absurd (cc)
was state.Killed o h = absurd (cc)

is_was : (s : ProcessState) (o : Option Definition) (n : ℕ) (d : Definition) → s ≡ state.Finished n → o ≡ Some d → marks d n ≡ false → is_unmarked s o ≡ true
is_was s o n d a b c = (λ i. is_unmarked (a i) (b i)) ∙ ap not c

both : (a b : Bool) → a && b ≡ true → (a ≡ true) × (b ≡ true)
both true true e = (refl, refl)
both true false e = absurd (cc)
both false b e = absurd (cc)

pub valid : (w : World) (batch : ℕ) (q : ProcessRecord) → 0 < q.ended → q.ended < batch
    → (is_calculation q.kind && is_unmarked q.state (its_definition w q) ≡ true) ↔ IsValidSource w batch q
valid w batch q ended earlier = (there, back)
  where
    there : is_calculation q.kind && is_unmarked q.state (its_definition w q) ≡ true → IsValidSource w batch q
    there h =
        let parts = both (is_calculation q.kind) (is_unmarked q.state (its_definition w q)) h in
        let is = was q.state (its_definition w q) parts.1 in
        record {
          calculates = parts.0;
          status = is.0;
          finished = is.1;
          definition = is.2.0;
          is_definition = is.2.1;
          unmarked = is.2.2;
          ended = ended;
          earlier = earlier;
        }

    back : IsValidSource w batch q → is_calculation q.kind && is_unmarked q.state (its_definition w q) ≡ true
    back v =
        let e : is_unmarked q.state (its_definition w q) ≡ true = is_was q.state (its_definition w q) v.status v.definition v.finished v.is_definition v.unmarked in
        (λ i. v.calculates i && e i)
