-- Which keys of the context are mentioned.
use Rattle.std.specs.Prelude.{ℕ, Bool, false, ◌||◌, List, [], ◌∷◌, flat_map}
use Rattle.std.specs.Str.{bytes_eq}
use Rattle.wc_syntax.specs.Mentions.{Mention, Bare, Given, Input, Context, Label, form_mentions, its_mentions, mentions, stmt_mentions}
use Rattle.wc_syntax.specs.declared.expression.Form.{Form, fold-Form}
use Rattle.wc_syntax.specs.declared.outline.Arm.{Arm, out-Arm}
use Rattle.wc_syntax.specs.declared.outline.Block.{Block}
use Rattle.wc_syntax.specs.declared.outline.Instr.{Instr, out-Instr}
use Rattle.wc_syntax.specs.declared.outline.Instr.TheOpen.{Instr-F}

-- a key of the context is mentioned
abbrev pub is_key : List ℕ → Mention → Bool
is_key key (Bare n) = false
is_key key (Given n) = false
is_key key (Input at n) = false
is_key key (Context at n) = bytes_eq n.text key
is_key key (Label n) = false

-- one of these mentions a key of the context
abbrev pub mentions_key : List ℕ → List Mention → Bool
mentions_key key [] = false
mentions_key key (m ∷ ms) = is_key key m || mentions_key key ms

-- the names in a form
abbrev pub mentions_of_form : Form → List Mention
mentions_of_form = fold-Form (List Mention) (List Mention) form_mentions its_mentions

-- what the condition of an arm mentions
abbrev pub arm_mentions : Arm → List Mention
arm_mentions a = mentions (out-Arm a).condition

-- the names in an instruction, outside the blocks in it
abbrev pub level_mentions : Instr-F Instr Arm Block → List Mention
level_mentions (Instr-F.Step s) = flat_map stmt_mentions s.stmts
level_mentions (Instr-F.If at arms other) = flat_map arm_mentions arms
level_mentions (Instr-F.While at e b) = mentions e
level_mentions (Instr-F.Return at n) = []

-- what an instruction mentions, outside the blocks in it
abbrev pub instr_mentions : Instr → List Mention
instr_mentions i = level_mentions (out-Instr i)
