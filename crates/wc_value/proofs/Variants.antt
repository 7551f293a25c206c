-- Values of one kind are equal only where what they hold is, and so are requests.
use Rattle.std.proofs.Common.{◌≡◌, ℕ, List, [], ◌∷◌, map, get_or, refl, ap, sym, ◌∙◌}
use Rattle.std.specs.Prelude.{codes}
use Rattle.wc_value.specs.declared.value.Value.{Value, out-Value, out-roll-Value}
use Rattle.wc_value.specs.declared.value.Value.TheVariants as value
use Rattle.wc_value.specs.declared.value.Value.TheVariants.{rolls-Text, rolls-List, rolls-Dict, rolls-Folder}
use Rattle.wc_value.specs.declared.value.Value.TheOpen.{Value-F}
use Rattle.wc_value.specs.declared.process.Request.{Request}
use Rattle.wc_value.specs.Spells.{Spells}
use Rattle.wc_value.specs.Requests.{dictionary_of, list_of_texts}
use Rattle.wc_value.proofs.Readback.{one_front}

abbrev Seen : Type 0
Seen = Value-F Value

abbrev text_seen : List ℕ → Seen
text_seen t = Value-F.Text t

abbrev list_seen : List Value → Seen
list_seen vs = Value-F.List vs

abbrev dict_seen : List (List ℕ × Value) → Seen
dict_seen ps = Value-F.Dict ps

abbrev folder_seen : List (List ℕ × List ℕ) → Seen
folder_seen fs = Value-F.Folder fs

text_opens : (t : List ℕ) → out-Value (value.Text t) ≡ text_seen t
text_opens t = ap out-Value (sym (rolls-Text t)) ∙ out-roll-Value (Value-F.Text t)

list_opens : (vs : List Value) → out-Value (value.List vs) ≡ list_seen vs
list_opens vs = ap out-Value (sym (rolls-List vs)) ∙ out-roll-Value (Value-F.List vs)

dict_opens : (ps : List (List ℕ × Value)) → out-Value (value.Dict ps) ≡ dict_seen ps
dict_opens ps = ap out-Value (sym (rolls-Dict ps)) ∙ out-roll-Value (Value-F.Dict ps)

folder_opens : (fs : List (List ℕ × List ℕ)) → out-Value (value.Folder fs) ≡ folder_seen fs
folder_opens fs = ap out-Value (sym (rolls-Folder fs)) ∙ out-roll-Value (Value-F.Folder fs)

same_text_seen : (t u : List ℕ) → text_seen t ≡ text_seen u → t ≡ u
same_text_seen t u e = cc

same_list_seen : (vs ws : List Value) → list_seen vs ≡ list_seen ws → vs ≡ ws
same_list_seen vs ws e = cc

same_dict_seen : (ps qs : List (List ℕ × Value)) → dict_seen ps ≡ dict_seen qs → ps ≡ qs
same_dict_seen ps qs e = cc

same_folder_seen : (fs gs : List (List ℕ × List ℕ)) → folder_seen fs ≡ folder_seen gs → fs ≡ gs
same_folder_seen fs gs e = cc

same_texts_held : (t u : List ℕ) → value.Text t ≡ value.Text u → t ≡ u
same_texts_held t u e = same_text_seen t u (sym (text_opens t) ∙ ap out-Value e ∙ text_opens u)

same_lists_held : (vs ws : List Value) → value.List vs ≡ value.List ws → vs ≡ ws
same_lists_held vs ws e = same_list_seen vs ws (sym (list_opens vs) ∙ ap out-Value e ∙ list_opens ws)

same_dicts_held : (ps qs : List (List ℕ × Value)) → value.Dict ps ≡ value.Dict qs → ps ≡ qs
same_dicts_held ps qs e = same_dict_seen ps qs (sym (dict_opens ps) ∙ ap out-Value e ∙ dict_opens qs)

same_folders_held : (fs gs : List (List ℕ × List ℕ)) → value.Folder fs ≡ value.Folder gs → fs ≡ gs
same_folders_held fs gs e = same_folder_seen fs gs (sym (folder_opens fs) ∙ ap out-Value e ∙ folder_opens gs)

heads : (v w : Value) (vs ws : List Value) → v ∷ vs ≡ w ∷ ws → v ≡ w
heads v w vs ws e = cc

tails : (v w : Value) (vs ws : List Value) → v ∷ vs ≡ w ∷ ws → vs ≡ ws
tails v w vs ws e = cc

not_empty : (v : Value) (vs : List Value) → [] ≡ v ∷ vs → ⊥
not_empty v vs e = cc

texts_held : (ts us : List (List ℕ)) → map value.Text ts ≡ map value.Text us → ts ≡ us
texts_held [] [] e = refl
texts_held [] (u ∷ us) e = absurd (not_empty _ _ e)
texts_held (t ∷ ts) [] e = absurd (not_empty _ _ (sym e))
texts_held (t ∷ ts) (u ∷ us) e = λ i. same_texts_held t u (heads _ _ _ _ e) i ∷ texts_held ts us (tails _ _ _ _ e) i

text_lists_held : (ts us : List (List ℕ)) → list_of_texts ts ≡ list_of_texts us → ts ≡ us
text_lists_held ts us e = texts_held ts us (same_lists_held (map value.Text ts) (map value.Text us) e)

abbrev entries : Request → List (List ℕ × Value)
entries q = (codes "args", list_of_texts q.args) ∷ (codes "fetch", list_of_texts q.fetch) ∷ (codes "files", value.Folder q.files) ∷ (codes "program", value.Text q.program) ∷ []

abbrev value_in : ℕ → List (List ℕ × Value) → Value
value_in k es = (get_or es k (codes "args", value.Text [])).1

same_entries : (q r : Request) → entries q ≡ entries r → q ≡ r
same_entries q r e =
    let a : q.args ≡ r.args = text_lists_held q.args r.args (ap (value_in 0) e) in
    let b : q.fetch ≡ r.fetch = text_lists_held q.fetch r.fetch (ap (value_in 1) e) in
    let c : q.files ≡ r.files = same_folders_held q.files r.files (ap (value_in 2) e) in
    let d : q.program ≡ r.program = same_texts_held q.program r.program (ap (value_in 3) e) in
    λ i. record { program = d i; args = a i; files = c i; fetch = b i }

pub same_requests : (q r : Request) (b : List ℕ) → Spells (dictionary_of q) b → Spells (dictionary_of r) b → q ≡ r
same_requests q r b s t = same_entries q r (same_dicts_held (entries q) (entries r) (one_front (dictionary_of q) (dictionary_of r) b b [] [] s t refl).0)
