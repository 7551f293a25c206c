use Rattle.std.proofs.Common.{◌≡◌, ◌∙◌, ◌≤◌, ℕ, [], ◌∷◌, ◌++◌, Bool, true, arith, ap, subst, length, length-append}
use Rattle.wc_journal.specs.Frame.{heading, framed, most_of}
use Rattle.wc_journal.specs.Batches.{payload_of}
use Rattle.wc_journal.proofs.Appending.{length-framed}
use Rattle.wc_journal.proofs.Writing.{length-heading}
use Rattle.wc_journal.proofs.Making.{settled_by, third_replaced, replaced_held, replaced_written}
use Rattle.wc_journal.proofs.journal.Journal.replace.Goals as goal

pub returns-in_err-put-clause-any_moment : goal.returns-in_err-put-clause-any_moment
returns-in_err-put-clause-any_moment g c =
    λ told. third_replaced g.D.Disk c.args.disk.now c.args.generation (payload_of c.args.batch.now) c.deref.result.now c.requires.generation (omega arith)
    (subst (λ (v : ℕ). length (payload_of c.args.batch.now) ≤ most_of v) c.requires.version c.args.batch.now.is_small)
    (c.deref.ensures.value ∙ c.in_ok-bytes.ensures ∙ ap (λ (s : Bool). heading 2 c.args.generation ++ 1 ∷ framed 2 s (payload_of c.args.batch.now)) c.requires.snapshot)
    c.close_first.new.disk c.put_behind_first.new.disk c.put.new.disk (c.in_ok-close_first.ensures.closed told) (c.in_ok-put_behind_first.ensures.written (c.close_first.ensures.tells ∙ told)) (c.close_first.ensures.any_moment told) (c.put_behind_first.ensures.any_moment (c.close_first.ensures.tells ∙ told))
    (c.put.ensures.any_moment (c.put_behind_first.ensures.tells ∙ c.close_first.ensures.tells ∙ told))

pub returns-clause-any_moment : goal.returns-clause-any_moment
returns-clause-any_moment g c =
    λ told. third_replaced g.D.Disk c.args.disk.now c.args.generation (payload_of c.args.batch.now) c.deref.result.now c.requires.generation (omega arith)
    (subst (λ (v : ℕ). length (payload_of c.args.batch.now) ≤ most_of v) c.requires.version c.args.batch.now.is_small)
    (c.deref.ensures.value ∙ c.in_ok-bytes.ensures ∙ ap (λ (s : Bool). heading 2 c.args.generation ++ 1 ∷ framed 2 s (payload_of c.args.batch.now)) c.requires.snapshot)
    c.close_first.new.disk c.put_behind_first.new.disk c.put.new.disk (c.in_ok-close_first.ensures.closed told) (c.in_ok-put_behind_first.ensures.written (c.close_first.ensures.tells ∙ told)) (c.close_first.ensures.any_moment told) (c.put_behind_first.ensures.any_moment (c.close_first.ensures.tells ∙ told))
    (c.put.ensures.any_moment (c.put_behind_first.ensures.tells ∙ c.close_first.ensures.tells ∙ told))

pub returns-clause-held : goal.returns-clause-held
returns-clause-held g c =
    λ told. replaced_held g.D.Disk c.args.disk.now c.args.generation (payload_of c.args.batch.now) c.deref.result.now c.requires.generation (omega arith)
    (subst (λ (v : ℕ). length (payload_of c.args.batch.now) ≤ most_of v) c.requires.version c.args.batch.now.is_small)
    (c.deref.ensures.value ∙ c.in_ok-bytes.ensures ∙ ap (λ (s : Bool). heading 2 c.args.generation ++ 1 ∷ framed 2 s (payload_of c.args.batch.now)) c.requires.snapshot)
    c.close_first.new.disk c.put_behind_first.new.disk c.put.new.disk (c.in_ok-close_first.ensures.closed told) (c.in_ok-put_behind_first.ensures.written (c.close_first.ensures.tells ∙ told)) (c.in_ok-put.ensures.written (c.put_behind_first.ensures.tells ∙ c.close_first.ensures.tells ∙ told))

pub returns-clause-written : goal.returns-clause-written
returns-clause-written g c =
    λ told. replaced_written g.D.Disk c.args.disk.now c.args.generation (payload_of c.args.batch.now) c.deref.result.now c.requires.generation (omega arith)
    (subst (λ (v : ℕ). length (payload_of c.args.batch.now) ≤ most_of v) c.requires.version c.args.batch.now.is_small)
    (c.deref.ensures.value ∙ c.in_ok-bytes.ensures ∙ ap (λ (s : Bool). heading 2 c.args.generation ++ 1 ∷ framed 2 s (payload_of c.args.batch.now)) c.requires.snapshot)
    c.close_first.new.disk c.put_behind_first.new.disk c.put.new.disk (c.in_ok-close_first.ensures.closed told) (c.in_ok-put_behind_first.ensures.written (c.close_first.ensures.tells ∙ told)) (c.in_ok-put.ensures.written (c.put_behind_first.ensures.tells ∙ c.close_first.ensures.tells ∙ told))

pub returns-clause-end : goal.returns-clause-end
returns-clause-end g c =
    let is : c.deref.result.now ≡ heading 2 c.args.generation ++ 1 ∷ framed 2 true (payload_of c.args.batch.now)
    = c.deref.ensures.value ∙ c.in_ok-bytes.ensures ∙ ap (λ (s : Bool). heading 2 c.args.generation ++ 1 ∷ framed 2 s (payload_of c.args.batch.now)) c.requires.snapshot in
    omega (
      arith,
      c.len.ensures,
      c.deref.ensures.len,
      ap length is,
      length-append (heading 2 c.args.generation) (1 ∷ framed 2 true (payload_of c.args.batch.now)),
      length-heading 2 c.args.generation,
      length-framed 2 true (payload_of c.args.batch.now),
    )

pub returns-clause-settled : goal.returns-clause-settled
returns-clause-settled g c =
    λ told. settled_by g.D.Disk _ c.put.new.disk ((26, payload_of c.args.batch.now) ∷ []) (c.in_ok-put.ensures.durable (c.put_behind_first.ensures.tells ∙ c.close_first.ensures.tells ∙ told))
    (replaced_held g.D.Disk c.args.disk.now c.args.generation (payload_of c.args.batch.now) c.deref.result.now c.requires.generation (omega arith)
    (subst (λ (v : ℕ). length (payload_of c.args.batch.now) ≤ most_of v) c.requires.version c.args.batch.now.is_small)
    (c.deref.ensures.value ∙ c.in_ok-bytes.ensures ∙ ap (λ (s : Bool). heading 2 c.args.generation ++ 1 ∷ framed 2 s (payload_of c.args.batch.now)) c.requires.snapshot)
    c.close_first.new.disk c.put_behind_first.new.disk c.put.new.disk (c.in_ok-close_first.ensures.closed told) (c.in_ok-put_behind_first.ensures.written (c.close_first.ensures.tells ∙ told)) (c.in_ok-put.ensures.written (c.put_behind_first.ensures.tells ∙ c.close_first.ensures.tells ∙ told)))
    (returns-clause-end g c)
