-- What a function means, and that a created one is on track.
use Rattle.std.proofs.Common.{◌≡◌, ℕ, zero, suc, ◌+◌, Option, Some, None, List, [], refl, sym, ap, subst, ◌∙◌}
use Rattle.std.specs.Prelude.{option_map, option_and_then}
use Rattle.wc_value.specs.declared.process.JobResult.{JobResult}
use Rattle.wc_value.specs.declared.process.ProcessState.TheVariants as state
use Rattle.wc_value.specs.declared.process.Request.{Request}
use Rattle.wc_value.specs.declared.process.Tree.{Tree}
use Rattle.wc_syntax.specs.Findings.{definition_named}
use Rattle.wc_syntax.specs.declared.definition.Definition.{Definition}
use Rattle.wc_syntax.specs.declared.definition.Definition.TheVariants as definition
use Rattle.wc_syntax.specs.declared.definition.Function.{Function}
use Rattle.wc_semantics.specs.Rules.{Values}
use Rattle.wc_semantics.specs.Outcomes.{calculated}
use Rattle.wc_semantics.specs.declared.progress.Answer.{Answer}
use Rattle.wc_semantics.specs.declared.progress.Answer.TheVariants.{Gave, Astray}
use Rattle.wc_semantics.specs.declared.progress.Replayed.{Replayed}
use Rattle.wc_semantics.specs.Tables.{Table, Kills, under}
use Rattle.wc_semantics.specs.Run.{Around}
use Rattle.wc_semantics.specs.Meaning.{leaf, killed_first, by_kill, surrounding, meaning}
use Rattle.wc_state.specs.declared.record.Part.TheVariants as part
use Rattle.wc_state.specs.declared.record.ProcessRecord.{ProcessRecord}
use Rattle.wc_world.specs.World.{World}
use Rattle.wc_world.specs.Records.{library_at}
use Rattle.wc_machine.specs.Recorded.{its_definition, recorded_inputs}
use Rattle.wc_machine.specs.Rest.{with_stop, levels_of, meant, part_rest, rest, GivesTree, IsOnTrack}

-- what a function gives that is killed after so many calls or not
abbrev pub function_meant : Option ℕ → Function → ℕ → List ℕ → Values → Answer
function_meant None f n name inputs = Gave (leaf name (calculated f inputs) []) n
function_meant (Some zero) f n name inputs = Gave (killed_first name) n
function_meant (Some (suc c)) f n name inputs = Astray

by_kill_is : (k : Option ℕ) (f : Function) (a : Around) (results : Request → Option JobResult) (n : ℕ) (name : List ℕ) (inputs : Values)
    → by_kill k (Some (definition.Function f)) a results n name inputs ≡ function_meant k f n name inputs
by_kill_is None f a results n name inputs = refl
by_kill_is (Some zero) f a results n name inputs = refl
by_kill_is (Some (suc c)) f a results n name inputs = refl

meaning_is : (levels : ℕ) (library : List Definition) (table : Table) (kills : Kills) (n : ℕ) (name : List ℕ) (inputs : Values) (f : Function)
    → definition_named name library ≡ Some (definition.Function f) → meaning levels library table kills n name inputs ≡ function_meant (kills []) f n name inputs
meaning_is zero library table kills n name inputs f h =
    let a = surrounding library None in
    ap (λ (d : Option Definition). by_kill (kills []) d a (table []) n name inputs) h ∙ by_kill_is (kills []) f a (table []) n name inputs
meaning_is (suc levels) library table kills n name inputs f h =
    let a = surrounding library (Some (λ l. meaning levels library (under l table) (under l kills))) in
    ap (λ (d : Option Definition). by_kill (kills []) d a (table []) n name inputs) h ∙ by_kill_is (kills []) f a (table []) n name inputs

pub definition_parts : (name : List ℕ) (o : Option (List Definition)) (d : Definition) → option_and_then (definition_named name) o ≡ Some d
    → (library : List Definition) × (o ≡ Some library) × (definition_named name library ≡ Some d)
definition_parts name None d h = absurd (cc)
definition_parts name (Some library) d h = (library, refl, h)

pub meant_is : (w : World) (r : ProcessRecord) (f : Function) → its_definition w r ≡ Some (definition.Function f) → (table : Table) (kills : Kills) (n : ℕ)
    → meant w r table kills n ≡ Some (function_meant (kills []) f n r.definition (recorded_inputs w r.node))
meant_is w r f h table kills n =
    let d = definition_parts r.definition (library_at w.libraries r.library) (definition.Function f) h in
    ap (option_map (λ library. meaning (levels_of r) library table kills n r.definition (recorded_inputs w r.node))) d.1
    ∙ ap (λ (a : Answer). Some a) (meaning_is (levels_of r) d.0 table kills n r.definition (recorded_inputs w r.node) f d.2)

-- with any fuel a function gives the same tree
any_fuel : (k : Option ℕ) (f : Function) (n m : ℕ) (name : List ℕ) (inputs : Values) (t : Tree) → GivesTree (Some (function_meant k f n name inputs)) t
    → GivesTree (Some (function_meant k f m name inputs)) t
any_fuel None f n m name inputs t h =
    let is : leaf name (calculated f inputs) [] ≡ h.0 = let e : Some (Gave (leaf name (calculated f inputs) []) n) ≡ Some (Gave h.0 h.1) = h.2 in cc in
    (leaf name (calculated f inputs) [], m, refl, ap (λ (x : Replayed). x.tree) is ∙ h.3)
any_fuel (Some zero) f n m name inputs t h =
    let is : killed_first name ≡ h.0 = let e : Some (Gave (killed_first name) n) ≡ Some (Gave h.0 h.1) = h.2 in cc in
    (killed_first name, m, refl, ap (λ (x : Replayed). x.tree) is ∙ h.3)
any_fuel (Some (suc c)) f n m name inputs t h = absurd (let e : Some Astray ≡ Some (Gave h.0 h.1) = h.2 in cc)

rest_of_fresh : (w : World) (table : Table) (cuts : Kills) (stop : Option ℕ) (n : ℕ) (r : ProcessRecord) → r.part ≡ part.Fresh
    → rest w table cuts stop n r ≡ meant w r table (with_stop cuts stop) n
rest_of_fresh w table cuts stop n r h = ap (part_rest w table cuts stop n r) h

pub function_on_track : (w : World) (r : ProcessRecord) (f : Function) → its_definition w r ≡ Some (definition.Function f) → r.state ≡ state.Created → r.part ≡ part.Fresh
    → IsOnTrack w r
function_on_track w r f d created fresh = record {
  onward = λ table cuts agrees fit n stop t h.
      let k = with_stop cuts stop in
      let here = rest_of_fresh w table cuts stop n r fresh ∙ meant_is w r f d table k n in
      subst (λ (o : Option Answer). GivesTree o t) (sym (meant_is w r f d table k (n + r.fuel)))
      (any_fuel (k []) f n (n + r.fuel) r.definition (recorded_inputs w r.node) t (subst (λ (o : Option Answer). GivesTree o t) here h));
  comes = λ table cuts agrees fit n t h. (
    n,
    subst (λ (o : Option Answer). GivesTree o t)
        (meant_is w r f d table cuts n ∙ sym (rest_of_fresh w table cuts None n r fresh ∙ meant_is w r f d table (with_stop cuts None) n)) h,
  );
  cut = λ table agrees running c is some. absurd (let e : state.Created ≡ state.Running = sym created ∙ running in cc);
}
