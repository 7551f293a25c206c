use Rattle.std.proofs.Common.{◌≡◌, ℕ, ◌+◌, ◌≤◌, length, slice_index, arith}
use Rattle.std.specs.Prelude.{IsSome}
use Rattle.std.proofs.lemmas.Result.{IfOk-weaker}
use Rattle.wc_world.specs.Records.{find_record}
use Rattle.wc_archive.specs.Closure.{archive_number, closure, is_in_closure}
use Rattle.wc_archive.specs.Marks.{AreMarks, marked}
use Rattle.wc_archive.proofs.Exporting.{numbers_are}
use Rattle.wc_archive.proofs.exported.archive_numbers.Goals as goal

pub numbers_of-requires : goal.numbers_of-requires
numbers_of-requires c =
    let w = c.args.world.now.world in
    let few : length w.nodes ≤ 8000000 = (c.reached_worlds_are_consistent.ensures w c.graph.ensures.reached).few in
    let size : length c.args.marks.now ≡ length w.nodes + 1 = c.requires in
    omega (arith, few, size)

pub returns : goal.returns
returns c =
    let w = c.args.world.now.world in
    let consistent = c.reached_worlds_are_consistent.ensures w c.graph.ensures.reached in
    IfOk-weaker c.numbers_of.result (λ numbers. (n : ℕ) → slice_index numbers.items n ≡ archive_number (marked c.args.marks.now) n)
    (λ numbers. (root : ℕ) → IsSome (find_record root w.records) → AreMarks (is_in_closure w.links root) (length w.nodes) c.args.marks.now → (n : ℕ) → slice_index numbers.items n ≡ archive_number (closure w root) n)
    (λ numbers h root some are. numbers_are w consistent root some c.args.marks.now numbers.items are h) c.numbers_of.ensures
