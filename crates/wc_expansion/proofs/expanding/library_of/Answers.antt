use Rattle.std.proofs.Common.{Ok}
use Rattle.wc_expansion.proofs.Calls.{memory_of, kept_text, shared}
use Rattle.wc_expansion.proofs.expanding.library_of.Goals as goal

pub share-requires : goal.share-requires
share-requires c = record {
  writable = c.in-Ok.ensures.writable;
  rules = kept_text c.in-Ok.library c.requires.0 (c.in-Ok.ensures.only (Ok c.requires.0) c.requires.1) c.requires.2;
}

pub parse_memory-requires : goal.parse_memory-requires
parse_memory-requires c = memory_of c.in-Err.error c.requires.0 (c.in-Err.ensures.only (Ok c.requires.0) c.requires.1)

pub returns-in-Ok : goal.returns-in-Ok
returns-in-Ok c = shared c.share.result c.args.text.now c.in-Ok.library c.in-Ok.ensures.only c.share.ensures
