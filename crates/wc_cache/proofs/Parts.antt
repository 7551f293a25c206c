-- The parts of a key: keys are equal only where texts and inputs are.
use Rattle.std.proofs.Common.{◌≡◌, ℕ, List, [], Option, Some, None, get_or, refl, ap, sym, subst, ◌∙◌}
use Rattle.std.specs.Prelude.{option_map}
use Rattle.wc_value.specs.declared.value.Value.{Value, out-Value, out-roll-Value}
use Rattle.wc_value.specs.declared.value.Value.TheVariants as value
use Rattle.wc_value.specs.declared.value.Value.TheVariants.{rolls-Text, rolls-Dict}
use Rattle.wc_value.specs.declared.value.Value.TheOpen.{Value-F}
use Rattle.wc_value.specs.Spelling.{spelling}
use Rattle.wc_value.proofs.Readback.{one_front}
use Rattle.wc_syntax.specs.declared.definition.Definition.{Definition}
use Rattle.wc_syntax.specs.Printing.{printed_definition}
use Rattle.wc_semantics.specs.Rules.{Values}
use Rattle.wc_state.specs.declared.record.ProcessRecord.{ProcessRecord}
use Rattle.wc_world.specs.World.{World}
use Rattle.wc_machine.specs.Recorded.{its_definition, recorded_inputs}
use Rattle.wc_machine.specs.Sources.{HaveEqualKeys}
use Rattle.wc_turn_laws.proofs.Keys.{equal_keys_run_alike}
use Rattle.wc_cache.specs.Keys.{IsKey, IsKeyOf, key_value}
use Rattle.wc_cache.specs.Laws.{EqualKeysAreEqual, KeysAreOfOne}

-- ---- dictionaries of keys

abbrev Seen : Type 0
Seen = Value-F Value

abbrev Entries : Type 0
Entries = List (List ℕ × Value)

abbrev text_seen : List ℕ → Seen
text_seen t = Value-F.Text t

abbrev dict_seen : Entries → Seen
dict_seen ps = Value-F.Dict ps

text_opens : (t : List ℕ) → out-Value (value.Text t) ≡ text_seen t
text_opens t = ap out-Value (sym (rolls-Text t)) ∙ out-roll-Value (Value-F.Text t)

dict_opens : (ps : Entries) → out-Value (value.Dict ps) ≡ dict_seen ps
dict_opens ps = ap out-Value (sym (rolls-Dict ps)) ∙ out-roll-Value (Value-F.Dict ps)

same_text_seen : (t u : List ℕ) → text_seen t ≡ text_seen u → t ≡ u
same_text_seen t u e = cc

same_dict_seen : (ps qs : Entries) → dict_seen ps ≡ dict_seen qs → ps ≡ qs
same_dict_seen ps qs e = cc

same_texts : (t u : List ℕ) → value.Text t ≡ value.Text u → t ≡ u
same_texts t u e = same_text_seen t u (sym (text_opens t) ∙ ap out-Value e ∙ text_opens u)

same_dicts : (ps qs : Entries) → value.Dict ps ≡ value.Dict qs → ps ≡ qs
same_dicts ps qs e = same_dict_seen ps qs (sym (dict_opens ps) ∙ ap out-Value e ∙ dict_opens qs)

abbrev at_place : ℕ → Entries → Value
at_place n es = (get_or es n ([], value.Dict [])).1

same_parts : (t u : List ℕ) (i j : Values) → key_value t i ≡ key_value u j → (t ≡ u) × (i ≡ j)
same_parts t u i j e =
    let es = same_dicts _ _ e in
    (same_texts t u (ap (at_place 0) es), same_dicts i j (ap (at_place 1) es))

-- ---- keys

-- bytes are the key of one text and of one list of inputs
pub key_parts : (t u : List ℕ) (i j : Values) (key : List ℕ) → IsKey t i key → IsKey u j key → (t ≡ u) × (i ≡ j)
key_parts t u i j key a b = same_parts t u i j (one_front (key_value t i) (key_value u j) key key [] [] a.spells b.spells refl).0

same_definition : (a b : Definition) → Some a ≡ Some b → a ≡ b
same_definition a b e = cc

abbrev key_text : World → ProcessRecord → Definition → List ℕ
key_text w p d = spelling (key_value (printed_definition d) (recorded_inputs w p.node))

-- a process has one key
pub one_key : (w : World) (p : ProcessRecord) (a b : List ℕ) → IsKeyOf w p a → IsKeyOf w p b → a ≡ b
one_key w p a b h k =
    h.spelled.is ∙ ap (key_text w p) (same_definition h.definition k.definition (sym h.is_definition ∙ k.is_definition)) ∙ sym k.spelled.is

-- processes with one key have equal keys
pub same_key : (w : World) (p q : ProcessRecord) (key : List ℕ) → IsKeyOf w p key → IsKeyOf w q key → HaveEqualKeys w p q
same_key w p q key a b =
    let parts = key_parts _ _ _ _ key a.spelled b.spelled in
    record { one = a.definition; other = b.definition; is_one = a.is_definition; is_other = b.is_definition; texts = parts.0; inputs = parts.1 }

-- a process has the key of one with which it has equal keys
pub key_over : (w : World) (p q : ProcessRecord) (key : List ℕ) → HaveEqualKeys w p q → IsKeyOf w p key → IsKeyOf w q key
key_over w p q key h a =
    let same = same_definition a.definition h.one (sym a.is_definition ∙ h.is_one) in
    let text : printed_definition a.definition ≡ printed_definition h.other = ap printed_definition same ∙ h.texts in
    record {
      definition = h.other;
      is_definition = h.is_other;
      spelled = subst (λ (i : Values). IsKey (printed_definition h.other) i key) h.inputs
          (subst (λ (t : List ℕ). IsKey t (recorded_inputs w p.node) key) text a.spelled);
    }

-- the key that is made of the text of the definition
pub key_kept : (w : World) (p : ProcessRecord) (text : List ℕ) (inputs : Values) (key : List ℕ) → Some text ≡ option_map printed_definition (its_definition w p)
    → inputs ≡ recorded_inputs w p.node → IsKey text inputs key → IsKeyOf w p key
key_kept w p text inputs key is same h = told (its_definition w p) refl is
  where
    told : (o : Option Definition) → its_definition w p ≡ o → Some text ≡ option_map printed_definition o → IsKeyOf w p key
    told None there e = absurd (cc)
    told (Some d) there e =
        let printed : text ≡ printed_definition d = cc in
        record {
          definition = d;
          is_definition = there;
          spelled = subst (λ (i : Values). IsKey (printed_definition d) i key) same (subst (λ (t : List ℕ). IsKey t inputs key) printed h);
        }

-- ---- laws

pub equal_keys : EqualKeysAreEqual
equal_keys w p q key a b h =
    (λ e. one_key w q b key h (key_over w p q key e a), λ e. same_key w p q key a (subst (λ (k : List ℕ). IsKeyOf w q k) e h))

pub of_one : KeysAreOfOne
of_one w p q key s a b = let e = same_key w p q key a b in (equal_keys_run_alike w p q s e, e.inputs)
