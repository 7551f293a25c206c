use Rattle.std.proofs.Common.{◌≡◌, ◌∙◌, ℕ, false, true, List, sym, ap, subst, arith}
use Rattle.std.specs.Prelude.{◌==◌}
use Rattle.std.proofs.lemmas.Bool.Decides.{nat_tests}
use Rattle.wc_journal.specs.declared.error.Found.TheVariants.{Byte}
use Rattle.wc_journal.specs.Reading.{damaged, stands_for_none, header_misfit, version_in, generation_in, held_by, journal_of}
use Rattle.wc_journal.proofs.Writing.{stands_none}
use Rattle.wc_journal.proofs.Loading.{long_header, damaged_header, no_generation, held_is, refuses_image, version_known}
use Rattle.wc_journal.proofs.calls.read_image.Goals as goal

pub returns-then-is_none-clause-ok : goal.returns-then-is_none-clause-ok
returns-then-is_none-clause-ok c =
    stands_none c.args.image.items (ap stands_for_none (sym c.as_slice-bytes.ensures.value) ∙ sym c.is_none.ensures ∙ c.if-is_none.true)

pub returns-in-Some-clause-refused : goal.returns-in-Some-clause-refused
returns-in-Some-clause-refused c =
    let seen = c.as_slice-bytes.ensures.value in
    damaged_header c.args.image.items _ (ap stands_for_none (sym seen) ∙ sym c.is_none.ensures ∙ c.if-is_none.false) (ap header_misfit (sym seen) ∙ sym c.misfit.ensures ∙ c.in-Some.is)

pub generation-generation-requires : goal.generation-generation-requires
generation-generation-requires c = long_header _ (sym c.misfit.ensures ∙ c.in_default.is)

pub returns-then-generation-eq0-clause-refused : goal.returns-then-generation-eq0-clause-refused
returns-then-generation-eq0-clause-refused c =
    let seen = c.as_slice-bytes.ensures.value in
    let none : (generation_in c.as_slice-bytes.result.now == 0) ≡ true = ap (λ (n : ℕ). n == 0) (sym c.generation-generation.ensures ∙ c.if-generation-eq0.true) in
    subst (λ (l : List ℕ). journal_of l ≡ damaged 15 (Byte 0)) seen
    (no_generation _ (sym c.is_none.ensures ∙ c.if-is_none.false) (sym c.misfit.ensures ∙ c.in_default.is) none)

pub bounds-bytes-7 : goal.bounds-bytes-7
bounds-bytes-7 c = omega (arith, long_header _ (sym c.misfit.ensures ∙ c.in_default.is))

pub batches-requires : goal.batches-requires
batches-requires c = long_header c.args.image.items (ap header_misfit (sym c.as_slice-bytes.ensures.value) ∙ sym c.misfit.ensures ∙ c.in_default.is)

pub returns-in-Err-clause-refused : goal.returns-in-Err-clause-refused
returns-in-Err-clause-refused c =
    let seen = c.as_slice-bytes.ensures.value in
    let live : (c.generation-generation.result == 0) ≡ false = grind (arith, nat_tests) in
    refuses_image _ _ _ _ c.in-Err.error
    (held_is c.args.image.items _ c.generation-generation.result (ap stands_for_none (sym seen) ∙ sym c.is_none.ensures ∙ c.if-is_none.false)
    (ap header_misfit (sym seen) ∙ sym c.misfit.ensures ∙ c.in_default.is) live (ap version_in (sym seen)) (ap generation_in (sym seen) ∙ sym c.generation-generation.ensures))
    c.in-Err.ensures.refused

pub returns-in-Ok-clause-ok : goal.returns-in-Ok-clause-ok
returns-in-Ok-clause-ok c =
    let seen = c.as_slice-bytes.ensures.value in
    let live : (c.generation-generation.result == 0) ≡ false = grind (arith, nat_tests) in (
      c.in-Ok.ensures.image,
      record {
        held = held_is c.args.image.items _ c.generation-generation.result (ap stands_for_none (sym seen) ∙ sym c.is_none.ensures ∙ c.if-is_none.false)
            (ap header_misfit (sym seen) ∙ sym c.misfit.ensures ∙ c.in_default.is) live (ap version_in (sym seen)) (ap generation_in (sym seen) ∙ sym c.generation-generation.ensures)
            ∙ ap (held_by _ c.generation-generation.result) c.in-Ok.ensures.ok.reads;
        end = c.in-Ok.ensures.ok.end;
      },
    )

pub invariant_of-result : goal.invariant_of-result
invariant_of-result c =
    let known = version_known c.as_slice-bytes.result.now (sym c.misfit.ensures ∙ c.in_default.is) in
    record { is_numbered = omega arith; is_some = known.0; is_known = known.1 }
