use Rattle.wc_slurm.proofs.Words.{next_word, last_word}
use Rattle.wc_slurm.proofs.script.script_of.Goals as goal

pub loop-word-preserved : goal.loop-word-preserved
loop-word-preserved c = next_word _ _ _ _ _ _ _ _ c.loop-word-test.true c.word-item.is c.bytes-in-loop-word.ensures.value c.loop-word.invariant c.in_ok-put_word-2.ensures

pub returns : goal.returns
returns c = last_word _ _ _ _ _ _ _ _ _ c.as_slice-word-items.ensures c.loop-word-test.false c.in_ok-extend-2.ensures.ok c.as_bytes-2.ensures.value c.loop-word.invariant
