use Rattle.std.proofs.Common.{◌∙◌, arith, refl, []}
use Rattle.wc_journal.proofs.Making.{settled_by, first_made, second_made, third_made, made_held, made_written}
use Rattle.wc_journal.proofs.journal.Journal.create.Goals as goal

pub returns-in_err-close_first-clause-any_moment : goal.returns-in_err-close_first-clause-any_moment
returns-in_err-close_first-clause-any_moment g c =
    λ told. first_made g.D.Disk c.args.disk.now c.args.generation (c.requires.none told) c.requires.generation (omega arith) c.close_first.new.disk (c.close_first.ensures.any_moment told)

pub returns-in_err-put-clause-any_moment : goal.returns-in_err-put-clause-any_moment
returns-in_err-put-clause-any_moment g c =
    λ told. second_made g.D.Disk c.args.disk.now c.args.generation (c.requires.none told) c.requires.generation (omega arith) c.close_first.new.disk c.put.new.disk c.heading_and_gate.result
    (c.close_first.ensures.any_moment told) (c.in_ok-close_first.ensures.closed told) c.heading_and_gate.ensures (c.put.ensures.any_moment (c.close_first.ensures.tells ∙ told))

pub returns-in_err-put-2-clause-any_moment : goal.returns-in_err-put-2-clause-any_moment
returns-in_err-put-2-clause-any_moment g c =
    λ told. third_made g.D.Disk c.args.disk.now c.args.generation (c.requires.none told) c.requires.generation (omega arith) c.close_first.new.disk c.put.new.disk c.heading_and_gate.result
    (c.close_first.ensures.any_moment told) (c.in_ok-close_first.ensures.closed told) c.heading_and_gate.ensures (c.put.ensures.any_moment (c.close_first.ensures.tells ∙ told))
    (c.in_ok-put.ensures.written (c.close_first.ensures.tells ∙ told)) c.put-2.new.disk (c.put-2.ensures.any_moment (c.put.ensures.tells ∙ c.close_first.ensures.tells ∙ told))

pub returns-clause-any_moment : goal.returns-clause-any_moment
returns-clause-any_moment g c =
    λ told. third_made g.D.Disk c.args.disk.now c.args.generation (c.requires.none told) c.requires.generation (omega arith) c.close_first.new.disk c.put.new.disk c.heading_and_gate.result
    (c.close_first.ensures.any_moment told) (c.in_ok-close_first.ensures.closed told) c.heading_and_gate.ensures (c.put.ensures.any_moment (c.close_first.ensures.tells ∙ told))
    (c.in_ok-put.ensures.written (c.close_first.ensures.tells ∙ told)) c.put-2.new.disk (c.put-2.ensures.any_moment (c.put.ensures.tells ∙ c.close_first.ensures.tells ∙ told))

pub returns-clause-held : goal.returns-clause-held
returns-clause-held g c =
    λ told. made_held g.D.Disk c.args.disk.now c.args.generation (c.requires.none told) c.requires.generation (omega arith) c.close_first.new.disk c.put.new.disk c.heading_and_gate.result
    (c.close_first.ensures.any_moment told) (c.in_ok-close_first.ensures.closed told) c.heading_and_gate.ensures (c.put.ensures.any_moment (c.close_first.ensures.tells ∙ told))
    (c.in_ok-put.ensures.written (c.close_first.ensures.tells ∙ told)) c.put-2.new.disk (c.in_ok-put-2.ensures.written (c.put.ensures.tells ∙ c.close_first.ensures.tells ∙ told))

pub returns-clause-written : goal.returns-clause-written
returns-clause-written g c =
    λ told. made_written g.D.Disk c.args.disk.now c.args.generation (c.requires.none told) c.requires.generation (omega arith) c.close_first.new.disk c.put.new.disk c.heading_and_gate.result
    (c.close_first.ensures.any_moment told) (c.in_ok-close_first.ensures.closed told) c.heading_and_gate.ensures (c.put.ensures.any_moment (c.close_first.ensures.tells ∙ told))
    (c.in_ok-put.ensures.written (c.close_first.ensures.tells ∙ told)) c.put-2.new.disk (c.in_ok-put-2.ensures.written (c.put.ensures.tells ∙ c.close_first.ensures.tells ∙ told))

pub returns-clause-settled : goal.returns-clause-settled
returns-clause-settled g c =
    λ told. settled_by g.D.Disk _ c.put-2.new.disk [] (c.in_ok-put-2.ensures.durable (c.put.ensures.tells ∙ c.close_first.ensures.tells ∙ told)) (
    made_held g.D.Disk c.args.disk.now c.args.generation (c.requires.none told) c.requires.generation (omega arith) c.close_first.new.disk c.put.new.disk c.heading_and_gate.result
    (c.close_first.ensures.any_moment told) (c.in_ok-close_first.ensures.closed told) c.heading_and_gate.ensures (c.put.ensures.any_moment (c.close_first.ensures.tells ∙ told))
    (c.in_ok-put.ensures.written (c.close_first.ensures.tells ∙ told)) c.put-2.new.disk (c.in_ok-put-2.ensures.written (c.put.ensures.tells ∙ c.close_first.ensures.tells ∙ told))
    ) refl
