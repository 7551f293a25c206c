-- Too many nodes or batches, as refusals of submissions.
use Rattle.std.proofs.Common.{◌≡◌, ℕ, ◌+◌, List, length, Some, None, true, refl}
use Rattle.wc_syntax.specs.Findings.{head_of, definition_named}
use Rattle.wc_syntax.specs.declared.definition.Definition.{Definition}
use Rattle.wc_semantics.specs.Rules.{Values}
use Rattle.wc_state.specs.declared.record.What.{What}
use Rattle.wc_meaning.specs.Inputs.{bad_input}
use Rattle.wc_world.specs.World.{World}
use Rattle.wc_world.specs.Applied.{applied}
use Rattle.wc_machine.specs.Submissions.{AreInputs, IsKeptLibrary, submission}
use Rattle.wc_world.specs.Fits.{names_ascend}
use Rattle.wc_machine.specs.declared.error.TurnError.{TurnError}
use Rattle.wc_machine.specs.declared.error.TurnError.TheVariants as error
use Rattle.wc_machine.specs.Refusals.{AreFew, AreTooMany, HasRoom, IsFull, RefusesCounts, RefusesSubmission}
use Rattle.wc_machine.proofs.Rooms.{said_of}
use Rattle.wc_core.proofs.Counted.{nodes_submitted, batches_submitted}

module _ (w : World) (library : List Definition) (caching : List (List ℕ)) (name : List ℕ) (inputs : Values) (most : ℕ) where
  module _ (d : Definition) where
    pub submission_fits : AreFew (length w.nodes + (length inputs + 1)) (w.batches + 1) most → HasRoom most (applied w (submission w library caching name inputs d))
    submission_fits h =
        said_of (λ nodes batches. AreFew nodes batches most) (applied w (submission w library caching name inputs d)) _ _ (nodes_submitted w library caching name inputs d) (batches_submitted w library caching name inputs d) h

    submission_full : (what : What) (count limit : ℕ) → AreTooMany (length w.nodes + (length inputs + 1)) (w.batches + 1) most what count limit
        → IsFull most (applied w (submission w library caching name inputs d)) what count limit
    submission_full what count limit h =
        said_of (λ nodes batches. AreTooMany nodes batches most what count limit) (applied w (submission w library caching name inputs d)) _ _
        (nodes_submitted w library caching name inputs d)
        (batches_submitted w library caching name inputs d) h

  pub refuses_submission : (e : TurnError) (d : Definition) → IsKeptLibrary library → names_ascend caching ≡ true → AreInputs inputs
      → definition_named name library ≡ Some d → bad_input (head_of d).inputs inputs ≡ None
      → RefusesCounts (length w.nodes + (length inputs + 1)) (w.batches + 1) most e → RefusesSubmission w library caching name inputs most e
  refuses_submission error.NotReady d k a i p q h = absurd h
  refuses_submission (error.Full what count limit) d k a i p q h = (
    submission w library caching name inputs d,
    record { checked = k; names = a; values = i; definition = d; is_there = p; takes = q; changes = refl },
    submission_full d what count limit h,
  )
  refuses_submission error.UnknownProcess d k a i p q h = absurd h
  refuses_submission (error.Ended s) d k a i p q h = absurd h
  refuses_submission error.UnknownName d k a i p q h = absurd h
  refuses_submission (error.BadInputs port) d k a i p q h = absurd h
  refuses_submission error.OutOfMemory d k a i p q h = absurd h
