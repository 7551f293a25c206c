-- Inputs of a file are ones that the ports take, in order and within the limits.
use Rattle.std.proofs.Common.{◌≡◌, ℕ, ℤ, ◌≤◌, List, [], ◌∷◌, Option, Some, None, Result, Ok, Err, Bool, true, false, ◌&&◌, if◌then◌else◌, map, length, refl, sym, ap, subst, ◌∙◌, arith}
use Rattle.std.specs.Prelude.{is_none, nat_le}
use Rattle.std.specs.List.{AllByRecursion}
use Rattle.std.specs.Str.{bytes_eq}
use Rattle.std.specs.Ordering.{nat_cmp, is_lt, is_eq}
use Rattle.std.specs.declared.cmp.Ordering.{Ordering}
use Rattle.std.specs.declared.cmp.Ordering.TheVariants.{Less, Equal, Greater}
use Rattle.std.specs.Cmp.Lexicographic.{slice_cmp}
use Rattle.std.proofs.lemmas.Bool.Decides.{nat_tests}
use Rattle.std.proofs.lemmas.Slice.Eq.{bytes_eq-Decides}
use Rattle.std.proofs.lemmas.Map.Text.{is_eq-slice_cmp}
use Rattle.serde_json.specs.Data.{Data, null, boolean, number, string, array, object, Items, Members, no_members, member}
use Rattle.wc_value.specs.Ascending.{Ascends, before, lookup, put}
use Rattle.wc_value.specs.Spelling.{spelling, depth}
use Rattle.wc_value.specs.declared.value.Kind.{Kind}
use Rattle.wc_value.specs.declared.value.Kind.TheVariants as kind
use Rattle.wc_value.specs.declared.value.Value.{Value, out-Value}
use Rattle.wc_value.specs.declared.value.Value.TheVariants as value
use Rattle.wc_value.proofs.Puts.{ascends_put, same_name}
use Rattle.wc_syntax.specs.Bare.{bare_port}
use Rattle.wc_syntax.specs.declared.definition.Port.{Port}
use Rattle.wc_expression.specs.Contents.{has_kind}
use Rattle.wc_semantics.specs.Rules.{kind_of_port, fits_port}
use Rattle.wc_semantics.specs.Meaning.{is_good}
use Rattle.wc_json.specs.Documents.{document_of, answered, answer_in, answer_of}
use Rattle.wc_json.specs.Limits.{fits, within, all_within, read_fields}
use Rattle.wc_json.specs.Reading.{Refusal, ◌>>=◌, shape, under, read_number, read_items, read_members, read_files, if_int, read_object, read_as, read_port, read_ports, read_inputs}
use Rattle.wc_plan.specs.Further.{with_kind, kinds_after, kinds_of}
use Rattle.wc_plan.specs.Submits.{IsWithinLimits}

-- ---- what is read in steps

-- The first step gave something, of which the second made this.
record Came {A B : Type 0} (first : Result A Refusal) (next : A → Result B Refusal) (made : B) : Type 0 where
  got : A
  gave : first ≡ Ok got
  then_made : next got ≡ Ok made

came : {A B : Type 0} (first : Result A Refusal) (next : A → Result B Refusal) (made : B) → (first >>= next) ≡ Ok made → Came first next made
came (Ok x) next made h = record { got = x; gave = refl; then_made = h }
came (Err r) next made h = absurd (cc)

lowered : {A : Type 0} (step : List ℕ) (read : Result A Refusal) (x : A) → under step read ≡ Ok x → read ≡ Ok x
lowered step (Ok y) x h = h
lowered step (Err r) x h = absurd (cc)

answered_ok : {A : Type 0} (r : Result A Refusal) (x : A) → answered r ≡ Ok x → r ≡ Ok x
answered_ok (Ok y) x h = let same : y ≡ x = cc in ap Ok same
answered_ok (Err r) x h = absurd (cc)

-- ---- a value that is read as a kind is of it

same_kind : (k : Kind) (r : Result Value Refusal) (v w : Value) → r ≡ Ok v → r ≡ Ok w → has_kind k (out-Value v) ≡ true → has_kind k (out-Value w) ≡ true
same_kind k r v w p q is = let same : v ≡ w = cc in subst (λ (x : Value). has_kind k (out-Value x) ≡ true) same is

int_kind : (k : Kind) (z : ℤ) (v : Value) → if_int k z ≡ Ok v → has_kind k (out-Value v) ≡ true
unfolding out-Value denote.Hole.Carrier.out
int_kind kind.Int z v h = same_kind kind.Int (if_int kind.Int z) (value.Int z) v refl h refl
int_kind kind.Bool z v h = absurd (cc)
int_kind kind.Text z v h = absurd (cc)
int_kind kind.List z v h = absurd (cc)
int_kind kind.Dict z v h = absurd (cc)
int_kind kind.Folder z v h = absurd (cc)

object_kind : (k : Kind) (ms : Members) (v : Value) → read_object k ms ≡ Ok v → has_kind k (out-Value v) ≡ true
unfolding out-Value denote.Hole.Carrier.out
object_kind kind.Dict ms v h = let c = came (read_members [] ms) (λ vs. Ok (value.Dict vs)) v h in same_kind kind.Dict (Ok (value.Dict c.got)) (value.Dict c.got) v refl c.then_made refl
object_kind kind.Folder ms v h = let c = came (read_files [] ms) (λ fs. Ok (value.Folder fs)) v h in same_kind kind.Folder (Ok (value.Folder c.got)) (value.Folder c.got) v refl c.then_made refl
object_kind kind.Int ms v h = absurd (cc)
object_kind kind.Bool ms v h = absurd (cc)
object_kind kind.Text ms v h = absurd (cc)
object_kind kind.List ms v h = absurd (cc)

bool_kind : (k : Kind) (b : Bool) (v : Value) → read_as k (boolean b) ≡ Ok v → has_kind k (out-Value v) ≡ true
unfolding out-Value denote.Hole.Carrier.out
bool_kind kind.Bool b v h = same_kind kind.Bool (read_as kind.Bool (boolean b)) (value.Bool b) v refl h refl
bool_kind kind.Int b v h = absurd (cc)
bool_kind kind.Text b v h = absurd (cc)
bool_kind kind.List b v h = absurd (cc)
bool_kind kind.Dict b v h = absurd (cc)
bool_kind kind.Folder b v h = absurd (cc)

text_kind : (k : Kind) (s : List ℕ) (v : Value) → read_as k (string s) ≡ Ok v → has_kind k (out-Value v) ≡ true
unfolding out-Value denote.Hole.Carrier.out
text_kind kind.Text s v h = same_kind kind.Text (read_as kind.Text (string s)) (value.Text s) v refl h refl
text_kind kind.Int s v h = absurd (cc)
text_kind kind.Bool s v h = absurd (cc)
text_kind kind.List s v h = absurd (cc)
text_kind kind.Dict s v h = absurd (cc)
text_kind kind.Folder s v h = absurd (cc)

list_kind : (k : Kind) (ds : Items) (v : Value) → read_as k (array ds) ≡ Ok v → has_kind k (out-Value v) ≡ true
unfolding out-Value denote.Hole.Carrier.out
list_kind kind.List ds v h = let c = came (read_items 0 [] ds) (λ vs. Ok (value.List vs)) v h in same_kind kind.List (Ok (value.List c.got)) (value.List c.got) v refl c.then_made refl
list_kind kind.Int ds v h = absurd (cc)
list_kind kind.Bool ds v h = absurd (cc)
list_kind kind.Text ds v h = absurd (cc)
list_kind kind.Dict ds v h = absurd (cc)
list_kind kind.Folder ds v h = absurd (cc)

value_kind : (k : Kind) (d : Data) (v : Value) → read_as k d ≡ Ok v → has_kind k (out-Value v) ≡ true
value_kind k null v h = absurd (cc)
value_kind k (boolean b) v h = bool_kind k b v h
value_kind k (number n) v h = let c = came (read_number n) (if_int k) v h in int_kind k c.got v c.then_made
value_kind k (string s) v h = text_kind k s v h
value_kind k (array ds) v h = list_kind k ds v h
value_kind k (object ms) v h = object_kind k ms v h

port_kind : (o : Option Kind) (d : Data) (v : Value) → read_port o d ≡ Ok v → fits_port o v ≡ true
port_kind None d v h = absurd (cc)
port_kind (Some k) d v h = value_kind k d v h

-- ---- the entries of a file, in order

-- what is read of an object by kinds: each value is of its name's kind, and names ascend
abbrev Fits : List (List ℕ × Kind) → List ℕ × Value → Type 0
Fits kinds i = fits_port (lookup i.0 kinds) i.1 ≡ true

abbrev Read : List (List ℕ × Kind) → List (List ℕ × Value) → Type 0
Read kinds fields = AllByRecursion (Fits kinds) fields × Ascends fields

pub all_put : (P : List ℕ × Value → Type 0) (name : List ℕ) (v : Value) (es : List (List ℕ × Value)) → AllByRecursion P es → P (name, v) → AllByRecursion P (put name v es)
all_put P name v [] a p = (p, tt)
all_put P name v (e ∷ es) a p = at (before e.0 name) (bytes_eq e.0 name) (all_put P name v es a.1 p)
  where
    at : (b c : Bool) → AllByRecursion P (put name v es) → AllByRecursion P (if b then e ∷ put name v es else if c then (name, v) ∷ es else (name, v) ∷ e ∷ es)
    at true c rest = (a.0, rest)
    at false true rest = (p, a.1)
    at false false rest = (p, a)

ports_read : (kinds : List (List ℕ × Kind)) (ms : Members) (front fields : List (List ℕ × Value)) → Read kinds front → read_ports kinds front ms ≡ Ok fields → Read kinds fields
ports_read kinds no_members front fields r h = let same : front ≡ fields = cc in subst (Read kinds) same r
ports_read kinds (member k d ms) front fields r h =
    let c = came (under k (read_port (lookup k kinds) d)) (λ v. read_ports kinds (put k v front) ms) fields h in
    let is : Fits kinds (k, c.got) = port_kind (lookup k kinds) d c.got (lowered k (read_port (lookup k kinds) d) c.got c.gave) in
    ports_read kinds ms (put k c.got front) fields (all_put (Fits kinds) k c.got front r.0 is, ascends_put k c.got front r.1) c.then_made

inputs_read : (kinds : List (List ℕ × Kind)) (d : Data) (fields : List (List ℕ × Value)) → Read kinds [] → read_inputs kinds d ≡ Ok fields → Read kinds fields
inputs_read kinds null fields r h = absurd (cc)
inputs_read kinds (boolean b) fields r h = absurd (cc)
inputs_read kinds (number n) fields r h = absurd (cc)
inputs_read kinds (string s) fields r h = absurd (cc)
inputs_read kinds (array ds) fields r h = absurd (cc)
inputs_read kinds (object ms) fields r h = ports_read kinds ms [] fields r h

-- ---- within the limits

abbrev kept : Value → Bool → Result Value Refusal
kept v b = if b then Ok v else shape

value_limits : (i : List ℕ × Value) (v : Value) → within i.1 ≡ Ok v → IsWithinLimits i
value_limits i v h = at (fits i.1) refl h
  where
    both : (m n : ℕ) → (nat_le m 4194304 && nat_le n 32) ≡ true → (m ≤ 4194304) × (n ≤ 32)
    both m n h = grind (arith, nat_tests)

    at : (b : Bool) → fits i.1 ≡ b → kept i.1 b ≡ Ok v → IsWithinLimits i
    at true is q = both (length (spelling i.1)) (depth i.1) is
    at false is q = absurd (cc)

all_limits : (fields : List (List ℕ × Value)) (u : Unit {0}) → all_within fields ≡ Ok u → AllByRecursion IsWithinLimits fields
all_limits [] u h = tt
all_limits (i ∷ is) u h =
    let c = came (under i.0 (within i.1)) (λ v. all_within is) u h in
    (value_limits i c.got (lowered i.0 (within i.1) c.got c.gave), all_limits is u c.then_made)

-- ---- kinds by name

less_differs : (o : Ordering) → is_lt o ≡ true → is_eq o ≡ false
less_differs Less h = refl
less_differs Equal h = absurd (cc)
less_differs Greater h = absurd (cc)

before_differs : (a name : List ℕ) → before a name ≡ true → bytes_eq a name ≡ false
before_differs a name h = sym (is_eq-slice_cmp a name) ∙ less_differs (slice_cmp nat_cmp a name) h

first_found : {T : Type 0} (name : List ℕ) (v : T) (es : List (List ℕ × T)) → lookup name ((name, v) ∷ es) ≡ Some v
first_found name v es = ap (λ (b : Bool). if b then Some v else lookup name es) ((bytes_eq-Decides name name).1 refl)

put_found : {T : Type 0} (name : List ℕ) (v : T) (es : List (List ℕ × T)) → lookup name (put name v es) ≡ Some v
put_found name v [] = first_found name v []
put_found {T} name v (e ∷ es) = at (before e.0 name) (bytes_eq e.0 name) refl (put_found name v es)
  where
    at : (b c : Bool) → before e.0 name ≡ b → lookup name (put name v es) ≡ Some v
        → lookup name (if b then e ∷ put name v es else if c then (name, v) ∷ es else (name, v) ∷ e ∷ es) ≡ Some v
    at true c p rest = ap (λ (b : Bool). if b then Some e.1 else lookup name (put name v es)) (before_differs e.0 name p) ∙ rest
    at false true p rest = first_found name v es
    at false false p rest = first_found name v (e ∷ es)

put_passed : {T : Type 0} (key name : List ℕ) (v : T) (es : List (List ℕ × T)) → bytes_eq name key ≡ false → lookup key (put name v es) ≡ lookup key es
put_passed key name v [] d = ap (λ (b : Bool). if b then Some v else None) d
put_passed {T} key name v (e ∷ es) d = at (before e.0 name) (bytes_eq e.0 name) refl (put_passed key name v es d)
  where
    at : (b c : Bool) → bytes_eq e.0 name ≡ c → lookup key (put name v es) ≡ lookup key es
        → lookup key (if b then e ∷ put name v es else if c then (name, v) ∷ es else (name, v) ∷ e ∷ es) ≡ lookup key (e ∷ es)
    at true c q rest = ap (λ (o : Option T). if bytes_eq e.0 key then Some e.1 else o) rest
    at false true q rest =
        let differs : bytes_eq e.0 key ≡ false = ap (λ (a : List ℕ). bytes_eq a key) (same_name e.0 name q) ∙ d in
        ap (λ (b : Bool). if b then Some v else lookup key es) d ∙ sym (ap (λ (b : Bool). if b then Some e.1 else lookup key es) differs)
    at false false q rest = ap (λ (b : Bool). if b then Some v else lookup key (e ∷ es)) d

abbrev or_kind : Option Kind → Option Kind → Option Kind
or_kind None other = other
or_kind (Some k) other = Some k

-- one port more: the kind that a name has, or else that of this port, or else another one
one_kind : (key : List ℕ) (front : List (List ℕ × Kind)) (p : Port) (other : Option Kind)
    → or_kind (lookup key (with_kind front p)) other ≡ or_kind (lookup key front) (if bytes_eq p.name.text key then Some p.kind else other)
one_kind key front p other = at (bytes_eq p.name.text key) refl (is_none (lookup p.name.text front)) refl
  where
    more : List (List ℕ × Kind)
    more = put p.name.text p.kind front

    seen : (o : Option Kind) → is_none o ≡ false → or_kind o other ≡ or_kind o (Some p.kind)
    seen None h = absurd (cc)
    seen (Some k) h = refl

    new : (o : Option Kind) → is_none o ≡ true → Some p.kind ≡ or_kind o (Some p.kind)
    new None h = refl
    new (Some k) h = absurd (cc)

    at : (b : Bool) → bytes_eq p.name.text key ≡ b → (c : Bool) → is_none (lookup p.name.text front) ≡ c
        → or_kind (lookup key (if c then more else front)) other ≡ or_kind (lookup key front) (if b then Some p.kind else other)
    at true is true none =
        let same : p.name.text ≡ key = same_name p.name.text key is in
        let found : lookup key more ≡ Some p.kind = subst (λ (n : List ℕ). lookup n more ≡ Some p.kind) same (put_found p.name.text p.kind front) in
        ap (λ (o : Option Kind). or_kind o other) found ∙ new (lookup key front) (subst (λ (n : List ℕ). is_none (lookup n front) ≡ true) same none)
    at true is false there =
        let same : p.name.text ≡ key = same_name p.name.text key is in
        seen (lookup key front) (subst (λ (n : List ℕ). is_none (lookup n front) ≡ false) same there)
    at false differs true none = ap (λ (o : Option Kind). or_kind o other) (put_passed key p.name.text p.kind front differs)
    at false differs false there = refl

kinds_found : (key : List ℕ) (ports : List Port) (front : List (List ℕ × Kind)) → lookup key (kinds_after front ports) ≡ or_kind (lookup key front) (kind_of_port key ports)
kinds_found key [] front = sym (alone (lookup key front))
  where
    alone : (o : Option Kind) → or_kind o None ≡ o
    alone None = refl
    alone (Some k) = refl
kinds_found key (p ∷ ps) front = kinds_found key ps (with_kind front p) ∙ one_kind key front p (kind_of_port key ps)

-- the kind of a port
kind_named : (key : List ℕ) (ports : List Port) → lookup key (kinds_of ports) ≡ kind_of_port key ports
kind_named key ports = kinds_found key ports []

-- offsets play no part
pub kinds_bare : (ports : List Port) (front : List (List ℕ × Kind)) → kinds_after front (map bare_port ports) ≡ kinds_after front ports
kinds_bare [] front = refl
kinds_bare (p ∷ ps) front = kinds_bare ps (with_kind front p)

-- ---- the inputs of a file

-- what is held of each input
abbrev pub Takes : List Port → List ℕ × Value → Type 0
Takes ports i = (is_good ports i ≡ true) × IsWithinLimits i

-- what is held of inputs
abbrev pub Holds : List Port → List (List ℕ × Value) → Type 0
Holds ports fields = AllByRecursion (Takes ports) fields × Ascends fields

all_taken : (ports : List Port) (fields : List (List ℕ × Value)) → AllByRecursion (Fits (kinds_of ports)) fields → AllByRecursion IsWithinLimits fields → AllByRecursion (Takes ports) fields
all_taken ports [] f l = tt
all_taken ports (i ∷ is) f l =
    ((subst (λ (o : Option Kind). fits_port o i.1 ≡ true) (kind_named i.0 ports) f.0, l.0), all_taken ports is f.1 l.1)

fields_taken : (ports : List Port) (d : Data) (fields : List (List ℕ × Value)) → Ascends {T = Value} [] → read_fields (kinds_of ports) d ≡ Ok fields → Holds ports fields
fields_taken ports d fields none h =
    let c = came (read_inputs (kinds_of ports) d) (λ fs. all_within fs >>= (λ x. Ok fs)) fields h in
    let l = came (all_within c.got) (λ x. Ok c.got) fields c.then_made in
    let same : c.got ≡ fields = cc l.then_made in
    let r = inputs_read (kinds_of ports) d c.got (tt, none) c.gave in
    subst (Holds ports) same (all_taken ports c.got r.0 (all_limits c.got l.got l.gave), r.1)

-- the inputs that bytes give
pub bytes_taken : (ports : List Port) (bytes : List ℕ) (fields : List (List ℕ × Value)) → Ascends {T = Value} [] → answer_of (read_fields (kinds_of ports)) bytes ≡ Ok fields → Holds ports fields
bytes_taken ports bytes fields none h = at (document_of bytes) h
  where
    at : (o : Option Data) → answer_in (read_fields (kinds_of ports)) o ≡ Ok fields → Holds ports fields
    at None e = absurd (cc)
    at (Some d) e = fields_taken ports d fields none (answered_ok (read_fields (kinds_of ports) d) fields e)
