use Rattle.std.proofs.Common.{◌≡◌, ◌<◌, ◌≤◌, ◌∙◌, sym, arith}
use Rattle.wc_store.proofs.Verdicts.{first_later, second_later, tells_same}
use Rattle.wc_store.proofs.choice.later.Goals as goal

pub returns-then-there-here-clause-tells : goal.returns-then-there-here-clause-tells
returns-then-there-here-clause-tells c =
    λ one two first second.
    let a = c.args.first in
    let b = c.args.second in
    let less : b.journal.generation < a.journal.generation = omega arith in
    let apart : a.journal.generation ≡ b.journal.generation → ⊥ = λ same. absurd (omega arith) in
    tells_same _ _ one two _
    (first_later one two a.journal.version a.journal.generation a.batches.placed b.journal.version b.journal.generation b.batches.placed apart less)
    (c.kept_on.ensures.tells one two first)

pub returns-else-there-here-clause-tells : goal.returns-else-there-here-clause-tells
returns-else-there-here-clause-tells c =
    λ one two first second.
    let a = c.args.first in
    let b = c.args.second in
    let no_less : a.journal.generation ≤ b.journal.generation = omega arith in
    let apart : a.journal.generation ≡ b.journal.generation → ⊥
    = λ same. c.if-here-there.false (c.generation-here.ensures.value ∙ same ∙ sym c.generation-there.ensures.value) in
    tells_same _ _ one two _
    (second_later one two a.journal.version a.journal.generation a.batches.placed b.journal.version b.journal.generation b.batches.placed apart no_less)
    (c.kept_on-else-there-here.ensures.tells one two second)
