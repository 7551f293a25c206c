use Rattle.std.proofs.Common.{List, ℕ, [], subst}
use Rattle.sha2.specs.Hashers.{Holds256}
use Rattle.wc_keys.specs.SealKeys.{key_start}
use Rattle.wc_keys.proofs.Added.{adds_both}
use Rattle.wc_keys.proofs.keys.key_hasher.Goals as goal

pub returns : goal.returns
returns c =
    subst (λ (t : List ℕ). Holds256 c.put_byte-3.new.hasher (key_start t)) c.bytes.ensures.value
    ((adds_both _ _ _ _ _ c.put_byte.ensures
    (adds_both _ _ _ _ _ c.put_count.ensures
    (adds_both _ _ _ _ _ c.put_text.ensures
    (adds_both _ _ _ _ _ c.put_byte-2.ensures
    (adds_both _ _ _ _ _ c.put_text-2.ensures
    (adds_both _ _ _ _ _ c.put_text-3.ensures c.put_byte-3.ensures)))))).holds [] c.new-hasher.ensures)
