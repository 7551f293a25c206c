-- A line feed behind a printed text changes nothing of what the text is read as.
use Rattle.std.proofs.Common.{◌≡◌, ℕ, Bool, true, cond, ◌&&◌, List, [], ◌∷◌, ◌++◌, Option, option_and_then, false, refl, sym, ap, ap₂, ◌∙◌, append_assoc}
use Rattle.json.specs.Token.{Token, begin_object, end_object, begin_array, end_array, key, string, number, boolean, null, bad}
use Rattle.json.specs.Word.{ends_word, word}
use Rattle.json.specs.Lex.{Lexeme, token, comma, colon, string_token, lex, between, fresh, punctuate}
use Rattle.json.specs.Json as json
use Rattle.json.specs.Print.{escape, quoted, token_text, begins, ends, separator, print_from, print, IsPrintable, ArePrintable}
use Rattle.json.specs.Tree.{json_tokens, HasNumbers}
use Rattle.json.proofs.Printed.Strings.{content-escape, lex-escape}
use Rattle.json.proofs.Printed.Numbers.{lex-number, in_word-ended}
use Rattle.json.proofs.Printed.Trees.{ArePrintable-json_tokens}
use Rattle.serde_json.specs.Data.{Data}
use Rattle.serde_json.specs.Read.{read, of_json, max_depth}
use Rattle.serde_json.specs.Written.{outline, compact_text}
use Rattle.serde_json.proofs.Texts.{print-outline}

abbrev feed : List ℕ
feed = 10 ∷ []

abbrev token_lexemes : Token → List Lexeme
token_lexemes begin_object = token begin_object ∷ []
token_lexemes end_object = token end_object ∷ []
token_lexemes begin_array = token begin_array ∷ []
token_lexemes end_array = token end_array ∷ []
token_lexemes (key s) = token (string s) ∷ colon ∷ []
token_lexemes (string s) = token (string s) ∷ []
token_lexemes (number s) = token (number s) ∷ []
token_lexemes (boolean b) = token (boolean b) ∷ []
token_lexemes null = token null ∷ []
token_lexemes bad = []

-- a word has ended behind a value, whether or not a line feed follows the text
value_ends : (ts : List Token) → ends_word (print_from true ts) ≡ true
unfolding print_from
value_ends [] = refl
value_ends (begin_object ∷ ts) = refl
value_ends (end_object ∷ ts) = refl
value_ends (begin_array ∷ ts) = refl
value_ends (end_array ∷ ts) = refl
value_ends (key s ∷ ts) = refl
value_ends (string s ∷ ts) = refl
value_ends (number s ∷ ts) = refl
value_ends (boolean b ∷ ts) = refl
value_ends (null ∷ ts) = refl
value_ends (bad ∷ ts) = refl

fed_ends : (ts : List Token) → ends_word (print_from true ts ++ feed) ≡ true
unfolding print_from
fed_ends [] = refl
fed_ends (begin_object ∷ ts) = refl
fed_ends (end_object ∷ ts) = refl
fed_ends (begin_array ∷ ts) = refl
fed_ends (end_array ∷ ts) = refl
fed_ends (key s ∷ ts) = refl
fed_ends (string s ∷ ts) = refl
fed_ends (number s ∷ ts) = refl
fed_ends (boolean b ∷ ts) = refl
fed_ends (null ∷ ts) = refl
fed_ends (bad ∷ ts) = refl

string_lexed : (s r : List ℕ) → lex between (quoted s ++ r) ≡ token (string s) ∷ lex between r
unfolding lex
string_lexed s r =
    ap (λ l. lex between (34 ∷ l)) (append_assoc (escape s) (34 ∷ []) r)
    ∙ ap₂ (λ o l. token (string_token o) ∷ l) (content-escape s r) (lex-escape s r)

token_lexed : (t : Token) (r : List ℕ) → IsPrintable t → (ends t ≡ true → ends_word r ≡ true) → lex between (token_text t ++ r) ≡ token_lexemes t ++ lex between r
unfolding lex word
token_lexed begin_object r h ended = refl
token_lexed end_object r h ended = refl
token_lexed begin_array r h ended = refl
token_lexed end_array r h ended = refl
token_lexed (key s) r h ended = ap (lex between) (append_assoc (quoted s) (58 ∷ []) r) ∙ string_lexed s (58 ∷ r)
token_lexed (string s) r h ended = string_lexed s r
token_lexed (number s) r h ended = lex-number s r h (ended refl)
token_lexed (boolean true) r h ended = ap₂ (λ b l. token (cond b (boolean true) bad) ∷ l) (ended refl) (in_word-ended r (ended refl))
token_lexed (boolean false) r h ended = ap₂ (λ b l. token (cond b (boolean false) bad) ∷ l) (ended refl) (in_word-ended r (ended refl))
token_lexed null r h ended = ap₂ (λ b l. token (cond b null bad) ∷ l) (ended refl) (in_word-ended r (ended refl))
token_lexed bad r h ended = absurd h

separator_lexed : (b : Bool) (r : List ℕ) → lex between (cond b (44 ∷ []) [] ++ r) ≡ cond b (comma ∷ []) [] ++ lex between r
unfolding lex
separator_lexed true r = refl
separator_lexed false r = refl

abbrev Step : Bool → Token → List ℕ → List Lexeme
Step c t r = cond (c && begins t) (comma ∷ []) [] ++ (token_lexemes t ++ lex between r)

one_lexed : (c : Bool) (t : Token) (r : List ℕ) → IsPrintable t → (ends t ≡ true → ends_word r ≡ true) → lex between (separator c t ++ (token_text t ++ r)) ≡ Step c t r
one_lexed c t r h ended = separator_lexed (c && begins t) (token_text t ++ r) ∙ ap (λ l. cond (c && begins t) (comma ∷ []) [] ++ l) (token_lexed t r h ended)

fed : (c : Bool) (ts : List Token) → ArePrintable ts → lex between (print_from c ts ++ feed) ≡ lex between (print_from c ts)
unfolding lex print_from ArePrintable
fed c [] h = refl
fed c (t ∷ ts) h =
    let r = print_from (ends t) ts in
    let here : (separator c t ++ (token_text t ++ r)) ++ feed ≡ separator c t ++ (token_text t ++ (r ++ feed)) =
    append_assoc (separator c t) (token_text t ++ r) feed ∙ ap (λ (l : List ℕ). separator c t ++ l) (append_assoc (token_text t) r feed) in
    ap (lex between) here
    ∙ one_lexed c t (r ++ feed) h.0 (λ e. ap (λ (b : Bool). ends_word (print_from b ts ++ feed)) e ∙ fed_ends ts)
    ∙ ap (λ (l : List Lexeme). cond (c && begins t) (comma ∷ []) [] ++ (token_lexemes t ++ l)) (fed (ends t) ts h.1)
    ∙ sym (one_lexed c t r h.0 (λ e. ap (λ (b : Bool). ends_word (print_from b ts)) e ∙ value_ends ts))

abbrev read_tokens : List Token → Option Data
read_tokens ts = option_and_then of_json (option_and_then (λ p. json.if_last p.0 p.1) (json.value max_depth ts))

-- a printed text with a line feed behind it is read as the text
pub fed_reads : (d : Data) → HasNumbers (outline d) → read (compact_text d ++ feed) ≡ read (compact_text d)
fed_reads d h =
    let ts = json_tokens (outline d) in
    let fine : ArePrintable ts = ArePrintable-json_tokens (outline d) h in
    let text : print ts ≡ compact_text d = print-outline d in
    ap (λ (s : List ℕ). read (s ++ feed)) (sym text)
    ∙ ap (λ (ls : List Lexeme). read_tokens (punctuate fresh ls)) (fed false ts fine)
    ∙ ap read text
