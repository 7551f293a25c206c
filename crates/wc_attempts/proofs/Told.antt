-- What is known once the job was called and counted.
use Rattle.std.proofs.Common.{◌≡◌, ◌∙◌, ap, refl, ℕ, suc, ◌+◌, ◌<◌, pos, Bool, true, false, List, ◌∷◌, Some, arith}
use Rattle.std.specs.Prelude.{codes}
use Rattle.std.specs.Str.{bytes_eq}
use Rattle.wc_value.specs.Ascending.{lookup}
use Rattle.wc_value.specs.declared.value.Value.TheVariants as value
use Rattle.wc_handlers.specs.declared.spec.Spec.{Spec}
use Rattle.wc_syntax.specs.declared.definition.Definition.{Definition}
use Rattle.wc_syntax.specs.declared.definition.Port.{Port}
use Rattle.wc_state.specs.declared.environment.Env.{Env}
use Rattle.wc_state.specs.declared.environment.Item.TheVariants.{One, Plain}
use Rattle.wc_semantics.specs.declared.progress.Planned.{Planned}
use Rattle.wc_semantics.specs.declared.progress.Progress.{Progress}
use Rattle.wc_semantics.specs.declared.progress.Replayed.{Replayed}
use Rattle.wc_semantics.specs.Rules.{Values}
use Rattle.wc_semantics.specs.Run.{Around, ◌>->◌, child, joined, run, with_call}
use Rattle.wc_semantics.specs.Statements.{keyed}
use Rattle.wc_semantics.specs.Tables.{Label}
use Rattle.wc_attempts.specs.Attempts.{Attempts}
use Rattle.wc_restart.specs.Statements.{counting}
use Rattle.wc_attempts.proofs.Conditions.{HasChild}
use Rattle.wc_attempts.proofs.Context.{keyed_found, keyed_passed}
use Rattle.wc_attempts.proofs.Inputs.{Stands}
use Rattle.wc_attempts.proofs.Runs.{step_runs}
use Rattle.wc_attempts.proofs.Steps.{counting_step, numbered, within}
use Rattle.wc_attempts.proofs.Turns.{IsAt, asked, behind_call, judging, loop_and_end}

-- ---- values that stand where they stood

-- two environments have the same inputs, and the same under this key
pub record Alike (key : List ℕ) (e d : Env) : Type 0 where
  pub inputs : d.inputs ≡ e.inputs
  pub held : lookup key d.ctx ≡ lookup key e.ctx

pub still_stands : (ps : List Port) (e d : Env) (v : Values) (b : Bool) → Alike (codes "fix") e d → Stands ps e v b → Stands ps d v b
still_stands ps e d v true same s = record { inputs = s.inputs; held = same.inputs ∙ s.held; same = s.same; all = s.all }
still_stands ps e d v false same s = record { child = s.child; outs = s.outs; held = same.held ∙ s.held; has = s.has; are = s.are }

module _ (library : List Definition) (s : Spec) (x : Attempts) (a : Around) (few : s.most < 1000) where
  module _ (left : ℕ) (v : Values) (bad : Bool) (e : Progress) (i : IsAt s x (suc left) v bad e) (p : Planned) (plain : p.append ≡ false) (key : p.key ≡ codes "job")
      (l : Label) (t : Replayed) where
    abbrev bound : Progress
    bound = with_call p l t e

    abbrev pub told : Progress
    told = within bound (numbered (codes "n") (i.count + 1) bound.env)

    -- the key `job` holds the child, and the others what they held
    job_held : lookup (codes "job") bound.env.ctx ≡ Some (One (child t))
    job_held =
        ap (λ (b : Bool). lookup (codes "job") (keyed p.key (joined b (lookup p.key e.env.ctx) (child t)) e.env.ctx)) plain
        ∙ ap (λ k. lookup (codes "job") (keyed k (One (child t)) e.env.ctx)) key
        ∙ keyed_found (codes "job") (One (child t)) e.env.ctx

    others : (k : List ℕ) → bytes_eq (codes "job") k ≡ false → lookup k bound.env.ctx ≡ lookup k e.env.ctx
    others k d =
        ap (λ n. lookup k (keyed n (joined p.append (lookup p.key e.env.ctx) (child t)) e.env.ctx)) key
        ∙ keyed_passed (codes "job") k (joined p.append (lookup p.key e.env.ctx) (child t)) e.env.ctx d

    told_others : (k : List ℕ) → bytes_eq (codes "n") k ≡ false → bytes_eq (codes "job") k ≡ false → lookup k told.env.ctx ≡ lookup k e.env.ctx
    told_others k d f = keyed_passed (codes "n") k (Plain (value.Int (pos (i.count + 1)))) bound.env.ctx d ∙ others k f

    pub counted_runs : (n : ℕ) → run (behind_call library s x) a n bound ≡ run (judging library s x ∷ loop_and_end library s x) a n told
    counted_runs n =
        let small : i.count < 1000 = let h : i.count + suc left ≡ s.most = i.all in omega arith in
        step_runs (codes "counted") counting (judging library s x ∷ loop_and_end library s x) a n bound
        ∙ ap (λ f. f >-> run (judging library s x ∷ loop_and_end library s x) a)
        (counting_step a n bound i.count small (others (codes "n") refl ∙ i.counted))

    -- so much is left, and the job's child stands
    pub told_at : IsAt s x left v bad told
    told_at = record {
      count = i.count + 1;
      counted = keyed_found (codes "n") (Plain (value.Int (pos (i.count + 1)))) bound.env.ctx;
      all = let h : i.count + suc left ≡ s.most = i.all in omega arith;
      undone = told_others (codes "done") refl refl ∙ i.undone;
      marked = told_others (codes "bad") refl refl ∙ i.marked;
      none_out = i.none_out;
      fresh = i.fresh;
      says = told_others (codes "fresh") refl refl ∙ i.says;
      stands = still_stands (asked x) e.env told.env v i.fresh (record { inputs = refl; held = told_others (codes "fix") refl refl }) i.stands;
    }

    pub told_job : HasChild told.env (codes "job") (child t)
    told_job = keyed_passed (codes "n") (codes "job") (Plain (value.Int (pos (i.count + 1)))) bound.env.ctx refl ∙ job_held
