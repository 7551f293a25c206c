use Rattle.wc_archive_file.proofs.Files.{texts_are, texts_read}
use Rattle.wc_archive_file.proofs.file.archive_text.Goals as goal

pub returns-clause-text : goal.returns-clause-text
returns-clause-text c = texts_are c.args.archive.now _ _ c.in_ok-json.ensures c.in_ok-text.ensures.text c.with_line_feed.result c.with_line_feed.ensures.text

pub returns-clause-read : goal.returns-clause-read
returns-clause-read c =
    texts_read c.args.archive.now _ _ c.in_ok-json.ensures c.in_ok-text.ensures.text c.with_line_feed.result c.in_ok-text.ensures.reads_back c.with_line_feed.ensures.text
    c.with_line_feed.ensures.utf8
