use Rattle.std.proofs.Common.{List, ℕ, sym, subst, ◌∙◌}
use Rattle.wc_record.specs.Libraries.{ArePrinted}
use Rattle.wc_record.specs.Reading.{IsPrinted}
use Rattle.wc_record.proofs.Shared.{printed_put}
use Rattle.wc_record.proofs.library.SharedLibraries.keep.Goals as goal

pub invariant_of-self : goal.invariant_of-self
invariant_of-self c = subst ArePrinted (sym c.in_err-insert.ensures.err) c.self.invariant

pub invariant_of-self-2 : goal.invariant_of-self-2
invariant_of-self-2 c =
    let key = c.in_ok-key.key in
    let text = c.in_ok-key.ensures.items ∙ c.bytes.ensures.value in
    let library = c.args.library in
    subst ArePrinted (sym c.in_ok-insert.ensures.entries)
    (printed_put c.self.inside.read.entries key library c.self.invariant (subst (λ (t : List ℕ). IsPrinted t library) (sym text) c.requires))
