-- The table of job results that a table file is read as, or the first refusal in walking order, with its path.
use Rattle.std.specs.Prelude.{ℕ, ℤ, suc, Bool, ◌&&◌, List, [], ◌∷◌, ◌++◌, Option, Some, None, is_some, Result, Ok, Err, codes, decimal, nat_eq, if◌then◌else◌}
use Rattle.std.specs.List.{list_any}
use Rattle.std.specs.Str.{bytes_eq}
use Rattle.serde_json.specs.Data.{Data, null, boolean, number, string, array, object, Items, no_items, item, Members}
use Rattle.serde_json.specs.Find.{get_member}
use Rattle.serde_json.specs.Events.{members_len}
use Rattle.wc_value.specs.Requests.{list_of_texts, dictionary_of}
use Rattle.wc_value.specs.Spelling.{spelling}
use Rattle.wc_value.specs.declared.process.JobResult.{JobResult}
use Rattle.wc_value.specs.declared.process.Request.{Request}
use Rattle.wc_value.specs.declared.value.Value.{Value}
use Rattle.wc_value.specs.declared.value.Value.TheVariants as value
use Rattle.wc_json.specs.Limits.{within}
use Rattle.wc_json.specs.Reading.{Refusal, ◌>>=◌, shape, under, not_a_number, read_number, read_files}

-- a request and what it gives
abbrev pub Row : Type 0
Row = Request × JobResult

-- ---- the parts of a row

-- a text, or why it is none
abbrev pub read_word : Data → Result (List ℕ) Refusal
read_word (string s) = Ok s
read_word (number n) = not_a_number n
read_word null = shape
read_word (boolean b) = shape
read_word (array ds) = shape
read_word (object ms) = shape

-- elements from this index on, behind those that were read
abbrev pub read_words_from : ℕ → List (List ℕ) → Items → Result (List (List ℕ)) Refusal
read_words_from i front no_items = Ok front
read_words_from i front (item d ds) = under (decimal i) (read_word d) >>= (λ w. read_words_from (suc i) (front ++ w ∷ []) ds)

-- an array of strings
abbrev pub read_words : Data → Result (List (List ℕ)) Refusal
read_words (array ds) = read_words_from 0 [] ds
read_words (number n) = not_a_number n
read_words null = shape
read_words (boolean b) = shape
read_words (string s) = shape
read_words (object ms) = shape

-- a whole number
abbrev pub read_code : Data → Result ℤ Refusal
read_code (number n) = read_number n
read_code null = shape
read_code (boolean b) = shape
read_code (string s) = shape
read_code (array ds) = shape
read_code (object ms) = shape

-- an object from names to contents
abbrev pub read_folder : Data → Result (List (List ℕ × List ℕ)) Refusal
read_folder (object ms) = read_files [] ms
read_folder (number n) = not_a_number n
read_folder null = shape
read_folder (boolean b) = shape
read_folder (string s) = shape
read_folder (array ds) = shape

-- ---- a row

-- what stands at a key, if anything does, is read so
abbrev pub read_at : {A : Type 0} → List ℕ → (Data → Result A Refusal) → Option Data → Result A Refusal
read_at key reads None = shape
read_at key reads (Some d) = under key (reads d) >>= Ok

-- what stands under a key, read so
abbrev pub at_key : {A : Type 0} → List ℕ → (Data → Result A Refusal) → Members → Result A Refusal
at_key key reads ms = read_at key reads (get_member key ms)

-- whether an object has a key
abbrev pub has_key : List ℕ → Members → Bool
has_key key ms = is_some (get_member key ms)

-- an object has the keys of a request
abbrev pub has_request_keys : Members → Bool
has_request_keys ms = has_key (codes "args") ms && (has_key (codes "fetch") ms && (has_key (codes "files") ms && has_key (codes "program") ms))

-- an object has the six keys of a row and no further one
abbrev pub has_row_keys : Members → Bool
has_row_keys ms = nat_eq (members_len ms) 6 && (has_request_keys ms && (has_key (codes "code") ms && has_key (codes "result") ms))

-- what stands at the keys, in their order
abbrev pub read_parts : Members → Result Row Refusal
read_parts ms =
    at_key (codes "args") read_words ms >>= (λ args.
    at_key (codes "code") read_code ms >>= (λ code.
    at_key (codes "fetch") read_words ms >>= (λ fetch.
    at_key (codes "files") read_folder ms >>= (λ files.
    at_key (codes "program") read_word ms >>= (λ program.
    at_key (codes "result") read_folder ms >>= (λ result.
    Ok (record { program = program; args = args; files = files; fetch = fetch }, record { code = code; files = result })))))))

-- an object with exactly the keys of a row
abbrev pub read_row : Data → Result Row Refusal
read_row (object ms) = if has_row_keys ms then read_parts ms else shape
read_row (number n) = not_a_number n
read_row null = shape
read_row (boolean b) = shape
read_row (string s) = shape
read_row (array ds) = shape

-- ---- rows

-- a request with these canonical bytes stands in one of the rows
abbrev pub has_request : List ℕ → List Row → Bool
has_request spelled rows = list_any (λ r. bytes_eq (spelling (dictionary_of r.0)) spelled) rows

-- a row whose request stands in none of those before it
abbrev pub if_new : List Row → Row → Result Row Refusal
if_new front row = if has_request (spelling (dictionary_of row.0)) front then shape else Ok row

-- rows from this index on, behind those that were read
abbrev pub read_rows : ℕ → List Row → Items → Result (List Row) Refusal
read_rows i front no_items = Ok front
read_rows i front (item d ds) = under (decimal i) (read_row d >>= if_new front) >>= (λ row. read_rows (suc i) (front ++ row ∷ []) ds)

-- an array of rows
abbrev pub read_array : Data → Result (List Row) Refusal
read_array (array ds) = read_rows 0 [] ds
read_array (number n) = not_a_number n
read_array null = shape
read_array (boolean b) = shape
read_array (string s) = shape
read_array (object ms) = shape

-- ---- the limits, which are tried last

-- a part of a row, where it is within the limits
abbrev pub part_within : List ℕ → Value → Result Value Refusal
part_within key v = under key (within v) >>= Ok

-- a whole number is always within them
abbrev pub row_within : Row → Result Value Refusal
row_within r =
    part_within (codes "args") (list_of_texts r.0.args) >>= (λ a.
    part_within (codes "fetch") (list_of_texts r.0.fetch) >>= (λ b.
    part_within (codes "files") (value.Folder r.0.files) >>= (λ c.
    part_within (codes "program") (value.Text r.0.program) >>= (λ d.
    part_within (codes "result") (value.Folder r.1.files)))))

-- rows from this index on
abbrev pub rows_within : ℕ → List Row → Result (Unit {0}) Refusal
rows_within i [] = Ok tt
rows_within i (r ∷ rs) = under (decimal i) (row_within r) >>= (λ v. rows_within (suc i) rs)

-- the rows of a table file
abbrev pub read_table : Data → Result (List Row) Refusal
read_table d = read_array d >>= (λ rows. rows_within 0 rows >>= (λ x. Ok rows))
