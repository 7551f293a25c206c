use Rattle.std.proofs.Common.{◌≡◌, ℕ, ◌+◌, length, slice_index, ap, subst, ◌∙◌, arith}
use Rattle.std.proofs.lemmas.List.{length_push}
use Rattle.wc_archive.specs.Closure.{archive_number}
use Rattle.wc_archive.proofs.Marking.{count_step, few_in_front, front, number_step}
use Rattle.wc_archive.proofs.marks.numbers_of.Goals as goal

pub put_number-requires : goal.put_number-requires
put_number-requires c =
    let few = few_in_front c.args.marks.now c.loop-id.id in
    let count = c.loop-id.invariant.count in
    let lt = c.loop-id-test.true in
    let bound = c.requires in
    omega (arith, few, count, lt, bound)

pub loop-id-preserved : goal.loop-id-preserved
loop-id-preserved c =
    let l = c.loop-id in
    let longer : length c.put_number.new.numbers.items ≡ length l.numbers.items + 1 = ap length c.in_ok-next.ensures.put ∙ length_push l.numbers.items _ in
    let size = l.invariant.size in
    record {
      size = omega (arith, longer, size);
      count = count_step c.args.marks.now l.id c.is_marked-is.result c.is_marked-is.ensures l.last c.in_ok-next.next l.invariant.count c.in_ok-next.ensures.last;
      numbers = number_step c.args.marks.now l.id c.is_marked-is.result c.is_marked-is.ensures l.numbers.items c.put_number.new.numbers.items l.last size l.invariant.count
          c.in_ok-next.ensures.put l.invariant.numbers;
    }

pub returns : goal.returns
returns c =
    let l = c.loop-id in
    let all : l.id ≡ length c.args.marks.now = omega arith in
    subst (λ (k : ℕ). (n : ℕ) → slice_index l.numbers.items n ≡ archive_number (front c.args.marks.now k) n) all l.invariant.numbers
