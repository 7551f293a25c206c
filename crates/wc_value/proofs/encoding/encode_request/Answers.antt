use Rattle.std.proofs.Common.{[], ◌∷◌, ◌++◌, ◌∙◌, ap, sym, subst}
use Rattle.wc_value.specs.Spells.{Spells}
use Rattle.wc_value.specs.Requests.{dictionary_of}
use Rattle.wc_value.proofs.Requested.{request_spelled, request_written}
use Rattle.wc_value.proofs.encoding.encode_request.Goals as goal

pub returns-clause-spelling : goal.returns-clause-spelling
returns-clause-spelling c =
    request_written c.args.request.now _ _ _ _ _ _ _ _ _ _ (c.in_ok-push.ensures.ok ∙ ap (λ l. l ++ 5 ∷ []) c.new-out.ensures) c.in_ok-put_count.ensures
    c.in_ok-put_text.ensures c.in_ok-put_texts.ensures.written c.in_ok-put_text-2.ensures c.in_ok-put_texts-2.ensures.written
    c.in_ok-put_text-3.ensures c.in_ok-put_files.ensures.written c.in_ok-put_text-4.ensures c.in_ok-put_text_value.ensures.written

pub returns-clause-spells : goal.returns-clause-spells
returns-clause-spells c =
    subst (Spells (dictionary_of c.args.request.now)) (sym (returns-clause-spelling c))
    (request_spelled c.args.request.now c.in_ok-put_texts.ensures.spells c.in_ok-put_texts-2.ensures.spells c.in_ok-put_files.ensures.spells c.in_ok-put_text_value.ensures.spells)
