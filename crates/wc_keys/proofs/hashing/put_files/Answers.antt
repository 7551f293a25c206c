use Rattle.std.proofs.Common.{◌≡◌, ◌++◌, length, ap, sym, ◌∙◌}
use Rattle.wc_value.specs.Spelling.{text, file}
use Rattle.wc_value.proofs.Spelled.{spelled_folder}
use Rattle.wc_keys.proofs.Added.{adds_as, adds_both, front_begun, front_more, front_whole}
use Rattle.wc_keys.proofs.hashing.put_files.Goals as goal

pub loop-name-init : goal.loop-name-init
loop-name-init c =
    front_begun file 6 c.as_slice-name-items.result.now c.len.result c.args.hasher.now c.put_byte.new.hasher c.put_count.new.hasher c.put_byte.ensures c.put_count.ensures
    (c.len.ensures.value ∙ ap length (sym c.as_slice-name-items.ensures.value))

pub loop-name-preserved : goal.loop-name-preserved
loop-name-preserved c =
    let entry = c.loop-name-item.result in
    let bytes : text c.bytes.result.now ++ text c.bytes-in-loop-name.result.now ≡ text entry.0 ++ text entry.1 = λ i. text (c.bytes.ensures.value i) ++ text (c.bytes-in-loop-name.ensures.value i) in
    front_more file 6 c.as_slice-name-items.result.now c.loop-name.name-index entry c.args.hasher.now c.loop-name.hasher c.put_text-in-loop-name.new.hasher c.loop-name-test.true c.loop-name.invariant
    (adds_as _ _ _ _ (bytes ∙ ap file c.loop-name-item.is) (adds_both _ _ _ _ _ c.put_text.ensures c.put_text-in-loop-name.ensures))

pub returns : goal.returns
returns c =
    front_whole file 6 c.as_slice-name-items.result.now c.args.folder.now c.loop-name.name-index _ c.args.hasher.now c.loop-name.hasher c.loop-name.invariant c.loop-name-test.false
    c.as_slice-name-items.ensures.value (spelled_folder c.args.folder.now)
