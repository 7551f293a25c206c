use Rattle.std.proofs.Common.{◌∙◌, sym}
use Rattle.wc_archive_file.proofs.Libraries.{is_checked, printed_elsewhere, printed_here}
use Rattle.wc_archive_file.proofs.library.printed_of.Goals as goal

pub share-requires : goal.share-requires
share-requires c = is_checked c.args.text.now c.args.library c.requires.says c.requires.rules

pub returns-in_ok-share : goal.returns-in_ok-share
returns-in_ok-share c =
    printed_here c.args.text.now c.args.library c.requires.says _ c.requires.rules (sym c.in_ok-again.ensures ∙ c.same_text.ensures.0 c.if-same_text.true) c.in_ok-share.ensures

pub returns-else-same_text : goal.returns-else-same_text
returns-else-same_text c =
    printed_elsewhere c.args.text.now c.args.library c.requires.says
    (λ e. let same = c.same_text.ensures.1 (c.in_ok-again.ensures ∙ e) in let differ = c.if-same_text.false in cc)
