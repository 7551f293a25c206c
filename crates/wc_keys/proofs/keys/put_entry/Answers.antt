use Rattle.std.proofs.Common.{List, ℕ, ◌++◌, ap}
use Rattle.wc_value.specs.Spelling.{spelling, text}
use Rattle.wc_keys.proofs.Added.{adds_as, adds_both}
use Rattle.wc_keys.proofs.keys.put_entry.Goals as goal

pub returns : goal.returns
returns c =
    adds_as _ _ _ _ (ap (λ (t : List ℕ). text t ++ spelling c.args.value.now) c.bytes.ensures.value) (adds_both _ _ _ _ _ c.put_text.ensures c.put_value.ensures)
