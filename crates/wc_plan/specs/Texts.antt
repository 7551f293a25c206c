-- The texts that the program writes.
use Rattle.std.specs.Prelude.{ℕ, List, [], ◌∷◌, ◌++◌, length, codes}
use Rattle.std.specs.Fmt.{decimal}
use Rattle.wc_lexer.specs.declared.error.LexError.{LexError}
use Rattle.wc_lexer.specs.declared.error.LexError.TheVariants as lex
use Rattle.wc_syntax.specs.declared.definition.Definition.{Definition}
use Rattle.wc_parser.specs.declared.error.ParseError.{ParseError}
use Rattle.wc_parser.specs.declared.error.ParseError.TheVariants as parse
use Rattle.wc_check.specs.declared.error.CheckError.{CheckError}
use Rattle.wc_check.specs.declared.error.CheckError.TheVariants as check
use Rattle.wc_json.specs.declared.error.JsonError.{JsonError}
use Rattle.wc_json.specs.declared.error.JsonError.TheVariants as json
use Rattle.wc_value.specs.declared.process.ProcessState.{ProcessState}
use Rattle.wc_report.specs.Names.{state_text}
use Rattle.wc_config.specs.declared.error.ConfigError.{ConfigError}
use Rattle.wc_config.specs.declared.error.ConfigError.TheVariants as config
use Rattle.wc_query.specs.declared.error.QueryError.{QueryError}
use Rattle.wc_query.specs.declared.error.QueryError.TheVariants as query
use Rattle.wc_handlers.specs.declared.error.RestartError.{RestartError}
use Rattle.wc_handlers.specs.declared.error.RestartError.TheVariants as restart
use Rattle.wc_plan.specs.declared.status.Cause.{Cause}
use Rattle.wc_plan.specs.declared.status.Cause.TheVariants as cause

-- a text, and a place behind it
abbrev pub at_place : List ℕ → ℕ → List ℕ
at_place text at = text ++ codes " at " ++ decimal at

-- a text, a name, and a place
abbrev pub at_name : List ℕ → List ℕ → ℕ → List ℕ
at_name text name at = at_place (text ++ codes " " ++ name) at

-- the text of a refusal of the lexer, byte for byte
abbrev pub lex_text : LexError → List ℕ
lex_text lex.OutOfMemory = codes "out of memory"
lex_text (lex.BadChar at) = at_place (codes "bad character") at
lex_text (lex.OpenText at) = at_place (codes "open text") at
lex_text (lex.WideNumber at) = at_place (codes "wide number") at

-- the text of a refusal of the parser, byte for byte
abbrev pub parse_text : ParseError → List ℕ
parse_text parse.OutOfMemory = codes "out of memory"
parse_text parse.TooLong = codes "too long"
parse_text (parse.Lex e) = lex_text e
parse_text (parse.TooDeep at) = at_place (codes "too deep") at
parse_text (parse.Unexpected at) = at_place (codes "unexpected") at
parse_text parse.EndOfText = codes "end of text"

-- the text of a finding of the checker, byte for byte
abbrev pub check_text : CheckError → List ℕ
check_text (check.Twice name at) = at_name (codes "twice") name at
check_text (check.Unknown name at) = at_name (codes "unknown") name at
check_text (check.PortMissing name at) = at_name (codes "port missing") name at
check_text (check.PortUnknown name at) = at_name (codes "port unknown") name at
check_text (check.NotData at) = at_place (codes "not data") at
check_text (check.BadStatus at) = at_place (codes "bad status") at
check_text (check.TooMany at) = at_place (codes "too many") at
check_text (check.BadName name at) = at_name (codes "bad name") name at
check_text check.OutOfMemory = codes "out of memory"

-- a text, what is wrong, and the path
abbrev pub at_path : List ℕ → List ℕ → List ℕ → List ℕ
at_path text wrong path = text ++ codes " " ++ wrong ++ codes " at " ++ path

-- the file that is refused, and why
abbrev pub json_text : List ℕ → JsonError → List ℕ
json_text file json.NotJson = file ++ codes " not json"
json_text file (json.Float path) = at_path file (codes "float") path
json_text file (json.OutOfRange path) = at_path file (codes "out of range") path
json_text file (json.Shape path) = at_path file (codes "shape") path
json_text file json.OutOfMemory = codes "out of memory"

-- a process that has ended, with its state
abbrev pub ended_text : ℕ → ProcessState → List ℕ
ended_text pid s = codes "ended " ++ decimal pid ++ codes " " ++ state_text s

-- the text of a refusal of settings, byte for byte
abbrev pub config_text : ConfigError → List ℕ
config_text config.NotToml = codes "not toml"
config_text (config.UnknownKey key) = codes "unknown key " ++ key
config_text (config.BadValue key) = codes "bad value " ++ key
config_text config.OutOfMemory = codes "out of memory"

-- why words are no query; a place is counted from 0 behind the command's word
abbrev pub query_text : QueryError → List ℕ
query_text query.Shape = codes "query shape"
query_text query.TooLong = codes "query too long"
query_text (query.BadWord at) = codes "query word " ++ decimal at
query_text query.OutOfMemory = codes "out of memory"

-- why no restart chain is added
abbrev pub restart_text : RestartError → List ℕ
restart_text restart.NotToml = codes "not toml"
restart_text (restart.UnknownKey key) = codes "unknown key " ++ key
restart_text (restart.BadValue key) = codes "bad value " ++ key
restart_text (restart.UnknownName name) = codes "unknown name " ++ name
restart_text (restart.NameTaken name) = codes "name taken " ++ name
restart_text (restart.BadPorts name) = codes "bad ports " ++ name
restart_text (restart.SamePriority priority) = codes "same priority " ++ decimal priority
restart_text restart.TooMany = codes "too many"
restart_text restart.OutOfMemory = codes "out of memory"

-- the text of the cause of a refusal, byte for byte
abbrev pub cause_text : Cause → List ℕ
cause_text cause.Words = codes "words"
cause_text (cause.NoFile file) = codes "no file " ++ file
cause_text (cause.NotUtf8 file) = codes "not utf-8 " ++ file
cause_text (cause.Parse e) = parse_text e
cause_text (cause.Check e) = check_text e
cause_text (cause.Settings e) = codes "settings " ++ config_text e
cause_text (cause.Name name) = codes "unknown name " ++ name
cause_text (cause.Inputs e) = json_text (codes "inputs") e
cause_text (cause.Table e) = json_text (codes "table") e
cause_text (cause.BadInput port) = codes "bad input " ++ port
cause_text (cause.NoAnswer q) = codes "no answer " ++ q.program
cause_text cause.Fuel = codes "fuel"
cause_text (cause.Query e) = query_text e
cause_text (cause.Restart e) = codes "restart " ++ restart_text e
cause_text cause.NoStore = codes "no store"
cause_text cause.StoreExists = codes "store exists"
cause_text (cause.UnknownProcess pid) = codes "unknown process " ++ decimal pid
cause_text (cause.UnknownNode node) = codes "unknown node " ++ decimal node
cause_text (cause.Ended pid s) = ended_text pid s

-- the line of a refusal: `refused: `, and the text of its cause
abbrev pub refusal_text : Cause → List ℕ
refusal_text c = codes "refused: " ++ cause_text c ++ 10 ∷ []

-- how many definitions a library has
abbrev pub definitions_text : List Definition → List ℕ
definitions_text library = codes "definitions " ++ decimal (length library) ++ 10 ∷ []
