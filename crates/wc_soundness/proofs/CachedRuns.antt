-- A job takes the outcome of an equal one, by computation.
use Rattle.std.proofs.Common.{◌<◌, ◌≤◌, [], ◌∷◌, Some, refl, arith}
use Rattle.std.proofs.lemmas.List.Elements.{All-nil, All-cons}
use Rattle.wc_syntax.specs.declared.definition.Definition.TheVariants as definition
use Rattle.wc_state.specs.declared.record.ProcessRecord.{ProcessRecord}
use Rattle.wc_machine.specs.Ends.{TakesSource}
use Rattle.wc_machine.specs.Machine as machine
use Rattle.wc_machine.specs.Sources.{IsSourceFor}
use Rattle.wc_machine.specs.Turns as turning
use Rattle.wc_machine.specs.declared.answer.TaskAnswer.TheVariants as answer
use Rattle.wc_soundness.specs.Library.{double}
use Rattle.wc_soundness.specs.CachedWorlds as cached
use Rattle.wc_soundness.specs.SmallLaws.{CachingGoes}

is_source : IsSourceFor cached.submitted 8 cached.fresh cached.source
is_source = (
  record {
    calculates = refl;
    status = 0;
    finished = refl;
    definition = definition.Job double;
    is_definition = refl;
    unmarked = refl;
    ended = omega arith;
    earlier = omega arith;
  },
  record {
    one = definition.Job double;
    other = definition.Job double;
    is_one = refl;
    is_other = refl;
    texts = refl;
    inputs = refl;
  },
)

abbrev IsNoLower : ProcessRecord → Type 0
IsNoLower q = q.node < 2 → ¬ IsSourceFor cached.submitted 8 cached.fresh q

none_lower : (q : ProcessRecord) → 2 ≤ q.node → IsNoLower q
none_lower q h lt = absurd (omega arith)

takes_source : TakesSource cached.submitted cached.fresh (Some 2)
takes_source = record {
  on = λ e. (
    (cached.source, refl, is_source),
    All-cons IsNoLower cached.source (cached.fresh ∷ []) (none_lower cached.source (omega arith))
        (All-cons IsNoLower cached.fresh [] (none_lower cached.fresh (omega arith)) (All-nil IsNoLower)),
  );
  off = λ e. absurd (cc e);
}

pub caching_goes : CachingGoes
caching_goes = record {
  submits = refl;
  after = refl;
  ready = refl;
  clones = record { leads = machine.turns cached.fresh answer.Nothing 0 cached.clone_changes refl refl (turning.clones cached.source refl refl takes_source refl); after = refl };
  tree = refl;
  source_tree = refl;
}
