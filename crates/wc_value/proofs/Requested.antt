-- The canonical bytes of a request, by its parts.
use Rattle.std.proofs.Common.{◌≡◌, ℕ, zero, suc, ◌^◌, ◌<◌, ◌≤◌, List, [], ◌∷◌, ◌++◌, length, map, get_or, refl, sym, ap, subst, ◌∙◌, append_assoc, append-nil, lit<, arith}
use Rattle.std.proofs.lemmas.List.{length-map}
use Rattle.std.specs.Prelude.{All, true, flat_map, codes}
use Rattle.std.specs.Int.{w32, to_be_bytes}
use Rattle.std.specs.Str.{is_utf8}
use Rattle.std.specs.List.{AllByRecursion}
use Rattle.std.proofs.lemmas.Str.{is_utf8-from_IsUtf8, IsUtf8-from_ascii}
use Rattle.std.specs.List.Sorted.{IsStrictlySortedBy}
use Rattle.wc_value.specs.Ascending.{Ascends}
use Rattle.wc_value.specs.declared.value.Value.{Value}
use Rattle.wc_value.specs.declared.value.Value.TheVariants as value
use Rattle.wc_value.specs.declared.process.Request.{Request}
use Rattle.wc_value.specs.Spelling.{spelling, text}
use Rattle.wc_value.specs.Spells.{Spells, dict, no_pair, pair_then}
use Rattle.wc_value.specs.Requests.{dictionary_of, list_of_texts}
use Rattle.wc_value.proofs.Spelled.{spelled_list, spelled_dict}
use Rattle.wc_value.proofs.Respelled.{IsSpelled, list_spelled}

-- the spelling of a text as a value
abbrev pub text_value : List ℕ → List ℕ
text_value t = spelling (value.Text t)

texts_flat : (ts : List (List ℕ)) → flat_map spelling (map value.Text ts) ≡ flat_map text_value ts
texts_flat [] = refl
texts_flat (t ∷ ts) = ap (λ l. text_value t ++ l) (texts_flat ts)

pub spelled_texts : (ts : List (List ℕ)) → spelling (list_of_texts ts) ≡ 4 ∷ (to_be_bytes w32 (length ts) ++ flat_map text_value ts)
spelled_texts ts = spelled_list (map value.Text ts) ∙ (λ i. 4 ∷ (to_be_bytes w32 (length-map ts value.Text i) ++ texts_flat ts i))

abbrev pub IsSpelledText : List ℕ → Type 0
IsSpelledText t = IsSpelled (value.Text t)

each_text : (ts : List (List ℕ)) → All IsSpelledText ts → All IsSpelled (map value.Text ts)
each_text [] h k d lt = absurd (omega arith)
each_text (t ∷ ts) h zero d lt = h 0 t (omega arith)
each_text (t ∷ ts) h (suc k) d lt = each_text ts (λ j e within. h (suc j) e (omega arith)) k d (omega arith)

-- where a loop has gone over all
pub texts_spelled_at : (xs ts : List (List ℕ)) (i : ℕ) → xs ≡ ts → length xs ≤ i → length ts < 2 ^ 32 → ((k : ℕ) (d : List ℕ) → k < i → IsSpelledText (get_or xs k d)) → IsSpelled (list_of_texts ts)
texts_spelled_at xs ts i e h lt so_far =
    let l = length-map xs value.Text in
    subst (λ y. IsSpelled (list_of_texts y)) e
    (list_spelled (map value.Text xs) (rw length-map (rw e lt)) (each_text xs (λ k d within. so_far k d (omega arith))))

names_ascend : (a b c d : Value) → Ascends ((codes "args", a) ∷ (codes "fetch", b) ∷ (codes "files", c) ∷ (codes "program", d) ∷ [])
unfolding IsStrictlySortedBy
names_ascend a b c d = ((refl, (refl, (refl, tt))), ((refl, (refl, tt)), ((refl, tt), (tt, tt))))

each_ascii : (bs : List ℕ) → AllByRecursion (λ b. b < 128) bs → (i : ℕ) → get_or bs i 0 < 128
each_ascii [] h i = omega arith
each_ascii (b ∷ bs) h zero = h.0
each_ascii (b ∷ bs) h (suc i) = each_ascii bs h.1 i

ascii_utf8 : (bs : List ℕ) → AllByRecursion (λ b. b < 128) bs → is_utf8 bs ≡ true
ascii_utf8 bs h = is_utf8-from_IsUtf8 bs (IsUtf8-from_ascii bs (each_ascii bs h))

args_utf8 : is_utf8 (codes "args") ≡ true
args_utf8 = ascii_utf8 (codes "args") (lit< tt, (lit< tt, (lit< tt, (lit< tt, tt))))

fetch_utf8 : is_utf8 (codes "fetch") ≡ true
fetch_utf8 = ascii_utf8 (codes "fetch") (lit< tt, (lit< tt, (lit< tt, (lit< tt, (lit< tt, tt)))))

files_utf8 : is_utf8 (codes "files") ≡ true
files_utf8 = ascii_utf8 (codes "files") (lit< tt, (lit< tt, (lit< tt, (lit< tt, (lit< tt, tt)))))

program_utf8 : is_utf8 (codes "program") ≡ true
program_utf8 = ascii_utf8 (codes "program") (lit< tt, (lit< tt, (lit< tt, (lit< tt, (lit< tt, (lit< tt, (lit< tt, tt)))))))

pub request_spelled : (q : Request) → IsSpelled (list_of_texts q.args) → IsSpelled (list_of_texts q.fetch) → IsSpelled (value.Folder q.files) → IsSpelled (value.Text q.program)
    → IsSpelled (dictionary_of q)
request_spelled q a b c d =
    subst (Spells (dictionary_of q)) (sym (spelled_dict _))
    (dict _ _ (omega arith) (names_ascend (list_of_texts q.args) (list_of_texts q.fetch) (value.Folder q.files) (value.Text q.program))
    (pair_then (codes "args") _ _ _ _ (args_utf8, omega arith) a
    (pair_then (codes "fetch") _ _ _ _ (fetch_utf8, omega arith) b
    (pair_then (codes "files") _ _ _ _ (files_utf8, omega arith) c
    (pair_then (codes "program") _ _ _ _ (program_utf8, omega arith) d no_pair)))))

regroup : (five n a x b y c z d w : List ℕ)
    → ((((((((five ++ n) ++ a) ++ x) ++ b) ++ y) ++ c) ++ z) ++ d) ++ w ≡ five ++ (n ++ ((a ++ x) ++ ((b ++ y) ++ ((c ++ z) ++ ((d ++ w) ++ [])))))
regroup five n a x b y c z d w = simp (append_assoc, append-nil)

-- what is written one after another
pub request_written : (q : Request) (o0 o1 o2 o3 o4 o5 o6 o7 o8 o9 : List ℕ)
    → o0 ≡ 5 ∷ [] → o1 ≡ o0 ++ to_be_bytes w32 4
    → o2 ≡ o1 ++ text (codes "args") → o3 ≡ o2 ++ spelling (list_of_texts q.args)
    → o4 ≡ o3 ++ text (codes "fetch") → o5 ≡ o4 ++ spelling (list_of_texts q.fetch)
    → o6 ≡ o5 ++ text (codes "files") → o7 ≡ o6 ++ spelling (value.Folder q.files)
    → o8 ≡ o7 ++ text (codes "program") → o9 ≡ o8 ++ spelling (value.Text q.program)
    → o9 ≡ spelling (dictionary_of q)
request_written q o0 o1 o2 o3 o4 o5 o6 o7 o8 o9 e0 e1 e2 e3 e4 e5 e6 e7 e8 e9 =
    rw (e9, e8, e7, e6, e5, e4, e3, e2, e1, e0) (regroup (5 ∷ []) (to_be_bytes w32 4) (text (codes "args")) (spelling (list_of_texts q.args)) (text (codes "fetch")) (spelling (list_of_texts q.fetch))
    (text (codes "files")) (spelling (value.Folder q.files)) (text (codes "program")) (spelling (value.Text q.program))
    ∙ sym (spelled_dict ((codes "args", list_of_texts q.args) ∷ (codes "fetch", list_of_texts q.fetch) ∷ (codes "files", value.Folder q.files) ∷ (codes "program", value.Text q.program) ∷ [])))
