-- Where two environments agree.
use Rattle.std.specs.Prelude.{◌≡◌, List}
use Rattle.std.specs.List.{AllByRecursion}
use Rattle.wc_value.specs.Ascending.{lookup}
use Rattle.wc_syntax.specs.Mentions.{Mention, Bare, Given, Input, Context, Label}
use Rattle.wc_state.specs.declared.environment.Env.{Env}

-- a name that is mentioned stands for the same in both: the same input, or what a key holds
abbrev pub AgreeOn : (one two : Env) → Mention → Type 0
AgreeOn one two (Bare n) = lookup n.text one.inputs ≡ lookup n.text two.inputs
AgreeOn one two (Given n) = lookup n.text one.inputs ≡ lookup n.text two.inputs
AgreeOn one two (Input at n) = lookup n.text one.inputs ≡ lookup n.text two.inputs
AgreeOn one two (Context at n) = lookup n.text one.ctx ≡ lookup n.text two.ctx
AgreeOn one two (Label n) = Unit {0}

-- so do all of these
abbrev pub Agree : (one two : Env) → List Mention → Type 0
Agree one two ms = AllByRecursion (AgreeOn one two) ms
