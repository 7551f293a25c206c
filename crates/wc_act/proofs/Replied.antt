-- The statuses of replies that are owed.
use Rattle.std.proofs.Common.{ℕ, List, Option, sym, subst}
use Rattle.wc_cli.specs.declared.command.Command.{Command}
use Rattle.wc_cli.specs.Words.{command_of}
use Rattle.wc_plan.specs.declared.deed.Plan.{Plan}
use Rattle.wc_plan.specs.declared.deed.Plan.TheVariants as plan
use Rattle.wc_plan.specs.declared.reply.Reply.{Reply}
use Rattle.wc_plan.specs.declared.status.Status.{Status}
use Rattle.wc_plan.specs.declared.status.Status.TheVariants as status
use Rattle.wc_plan.specs.Plans.{Plans}
use Rattle.wc_plan.specs.Replies.{IsReplied, OwesStatus}
use Rattle.wc_plan.proofs.Replied.{is_replied, told_replied}
use Rattle.wc_act.specs.Owed.{Visit, OwedPlan, IsOwed}
use Rattle.wc_act.specs.Statuses.{IsDoneOrFull}
use Rattle.wc_act.proofs.Shaping.{row_replied}

plan_replied : (told : Option (List ℕ → Option (List ℕ))) (command : Option Command) (v : Visit) (p : Plan) (r : Reply) → Plans told command p → OwedPlan v p r → IsReplied r.status
plan_replied told command v (plan.Reply t) r plans owed = subst (λ (x : Reply). IsReplied x.status) (sym owed.0) (is_replied t.status (told_replied told command t plans))
plan_replied told command v (plan.On d) r plans owed = row_replied d r owed.before owed.after owed.are

-- a reply that is owed has a status of a reply
pub owed_replied : (told : Option (List ℕ → Option (List ℕ))) (v : Visit) (words : List (List ℕ)) (r : Reply) → IsOwed told v words r → IsReplied r.status
owed_replied told v words r p = plan_replied told (command_of words) v p.0 r p.1 p.2

-- what is done ends as what is owed
pub done_owed : (owed ended : Status) → OwesStatus owed ended → IsDoneOrFull ended → IsDoneOrFull owed
done_owed owed status.Ok h done = subst IsDoneOrFull h tt
done_owed owed status.Spent h done = subst IsDoneOrFull h tt
done_owed owed status.Resting h done = subst IsDoneOrFull h tt
done_owed owed (status.Refused c) h done = absurd done
done_owed owed status.OutOfMemory h done = absurd done
done_owed owed status.DiskFault h done = absurd done
done_owed owed (status.Damaged disk at found) h done = absurd done
done_owed owed status.ReadFault h done = absurd done
done_owed owed status.WriteFault h done = absurd done
done_owed owed (status.Full what count limit) h done = subst IsDoneOrFull h tt
done_owed owed (status.Unsound f) h done = absurd done
