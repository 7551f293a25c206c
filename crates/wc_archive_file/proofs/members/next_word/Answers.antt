use Rattle.serde_json.specs.Data.{no_members, string}
use Rattle.wc_archive_file.specs.Reads.{IsAny}
use Rattle.wc_archive_file.proofs.Steps.{next_none, next_read}
use Rattle.wc_archive_file.proofs.members.next_word.Goals as goal

pub returns-in-Some : goal.returns-in-Some
returns-in-Some c = next_read (λ u. string c.args.word.now) IsAny c.args.key.now _ _ _ _ c.in-Some.ensures c.word_of.ensures

pub returns-in-None : goal.returns-in-None
returns-in-None c = next_none (λ u. string c.args.word.now) IsAny c.args.key.now _ no_members c.in-None.ensures
