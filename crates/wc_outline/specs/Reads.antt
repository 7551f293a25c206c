-- What the next instruction of a work chain reads of its context.
use Rattle.std.specs.Prelude.{◌≡◌, ℕ, if◌then◌else◌, List, [], ◌∷◌, reverse, Option, Some, None}
use Rattle.wc_syntax.specs.Bare.{bare_chain}
use Rattle.wc_syntax.specs.Findings.{definition_named}
use Rattle.wc_syntax.specs.Mentions.{Mention}
use Rattle.wc_syntax.specs.declared.definition.Chain.{Chain}
use Rattle.wc_syntax.specs.declared.definition.Definition.{Definition}
use Rattle.wc_state.specs.Context.{Pairs}
use Rattle.wc_state.specs.declared.environment.Env.{Env}
use Rattle.wc_state.specs.declared.record.Checkpoint.{Checkpoint}
use Rattle.wc_machine.specs.Advances.{popped, advance}
use Rattle.wc_machine.specs.Outlines.{blocks}
use Rattle.wc_outline.specs.Agreement.{Agree}
use Rattle.wc_outline.specs.Keys.{mentions_key, instr_mentions}
use Rattle.wc_outline.specs.Places.{Standing, standing, chain_of}

-- the names in the instruction where a chain stands
abbrev pub standing_mentions : Option Standing → List Mention
standing_mentions None = []
standing_mentions (Some st) = instr_mentions st.instr

-- the names in the instruction that comes next
abbrev pub next_mentions : Chain → Checkpoint → List Mention
next_mentions k c = standing_mentions (standing (blocks k.outline) (popped (blocks k.outline) (reverse c.frames)))

-- the keys that are mentioned, with what they hold
abbrev pub mentioned_of : List Mention → Pairs → Pairs
mentioned_of ms [] = []
mentioned_of ms (e ∷ es) = if mentions_key e.0 ms then e ∷ mentioned_of ms es else mentioned_of ms es

-- the keys of a context that the chain's next instruction mentions, with what they hold
abbrev pub context_read : Chain → Checkpoint → Pairs
context_read k c = mentioned_of (next_mentions k c) c.ctx

-- What a work chain of a library reads of the context of a checkpoint: the keys that its next instruction mentions, with what they hold. An
-- advance is the same in all environments that agree on what that instruction mentions.
pub record IsRead (library : List Definition) (name : List ℕ) (c : Checkpoint) (read : Pairs) : Type 0 where
  -- the chain as it is written, with its offsets
  pub chain : Chain
  pub named : chain_of (definition_named name library) ≡ Some (bare_chain chain)
  pub is : read ≡ context_read chain c
  pub enough : (depth : ℕ) (one two : Env) → Agree one two (next_mentions chain c)
      → advance library (bare_chain chain) depth one c ≡ advance library (bare_chain chain) depth two c
