-- The links of calls: which inputs, outputs and calls they are.
use Rattle.std.proofs.Common.{◌≡◌, ℕ, suc, ◌<◌, ◌≤◌, Bool, true, false, List, [], ◌∷◌, ◌++◌, refl, ap, ◌∙◌, arith}
use Rattle.std.specs.Prelude.{◌≢◌, ◌==◌, ◌&&◌, All, filter, if◌then◌else◌}
use Rattle.std.proofs.lemmas.Bool.{cond-false, eq-eqb, ne_eqb}
use Rattle.std.proofs.lemmas.List.{append_assoc}
use Rattle.std.proofs.lemmas.List.Elements.{All-nil, All-cons, All-head, All-tail, All-append}
use Rattle.wc_graph.specs.declared.link.Link.{Link}
use Rattle.wc_graph.specs.declared.link.LinkType.{LinkType}
use Rattle.wc_state.specs.declared.record.ProcessKind.{ProcessKind}
use Rattle.wc_state.specs.declared.record.ProcessKind.TheVariants as kind
use Rattle.wc_state.specs.declared.record.ProcessRecord.{ProcessRecord}
use Rattle.wc_world.specs.Records.{calls, gives_output, takes_input, is_call_from, is_input_of, is_output_of}
use Rattle.wc_world.specs.World.{World}
use Rattle.wc_machine.specs.Calls.{Arguments, call_link, called_number, kind_of_callee}
use Rattle.wc_machine.specs.Steps.{node, plain, Call}
use Rattle.wc_machine.specs.Submissions.{input_link}
use Rattle.wc_machine.proofs.Frames.{NoInput, NoOutput, NoCallFrom, NoCalls, and_false, no_call_from}
use Rattle.wc_soundness.specs.Submitted.{input_links, its_call_link, call_links, calls_links, links_of_calls}

-- ---- what a type of link is

pub input_takes : (k : ProcessKind) → takes_input (input_link k) ≡ true
input_takes kind.Function = refl
input_takes kind.Job = refl
input_takes kind.Chain = refl

pub input_calls : (k : ProcessKind) → calls (input_link k) ≡ false
input_calls kind.Function = refl
input_calls kind.Job = refl
input_calls kind.Chain = refl

input_gives : (k : ProcessKind) → gives_output (input_link k) ≡ false
input_gives kind.Function = refl
input_gives kind.Job = refl
input_gives kind.Chain = refl

pub call_calls : (k : ProcessKind) → calls (call_link k) ≡ true
call_calls kind.Function = refl
call_calls kind.Job = refl
call_calls kind.Chain = refl

pub call_takes : (k : ProcessKind) → takes_input (call_link k) ≡ false
call_takes kind.Function = refl
call_takes kind.Job = refl
call_takes kind.Chain = refl

call_gives : (k : ProcessKind) → gives_output (call_link k) ≡ false
call_gives kind.Function = refl
call_gives kind.Job = refl
call_gives kind.Chain = refl

-- ---- input links

-- what holds of each link of an argument
pub inputs_all : (P : Link → Type 0) (type : LinkType) (next pid : ℕ) (args : Arguments)
    → ((source : ℕ) (port : List ℕ) → P (record { source = source; target = pid; link = type; label = port })) → All P (input_links type next pid args)
inputs_all P type next pid [] h = All-nil P
inputs_all P type next pid ((port, node n) ∷ rest) h =
    All-cons P (record { source = n.node; target = pid; link = type; label = port }) (input_links type next pid rest) (h n.node port) (inputs_all P type next pid rest h)
inputs_all P type next pid ((port, plain v) ∷ rest) h =
    All-cons P (record { source = next; target = pid; link = type; label = port }) (input_links type (suc next) pid rest) (h next port) (inputs_all P type (suc next) pid rest h)

pub inputs_call_nothing : (k : ProcessKind) (next pid : ℕ) (args : Arguments) → NoCalls (input_links (input_link k) next pid args)
inputs_call_nothing k next pid args = inputs_all (λ l. calls l.link ≡ false) (input_link k) next pid args (λ source port. input_calls k)

inputs_give_nothing : (q : ℕ) (k : ProcessKind) (next pid : ℕ) (args : Arguments) → NoOutput q (input_links (input_link k) next pid args)
inputs_give_nothing q k next pid args =
    inputs_all (λ l. is_output_of q l ≡ false) (input_link k) next pid args (λ source port. ap (λ (b : Bool). b && (source == q)) (input_gives k))

inputs_elsewhere : (q : ℕ) (type : LinkType) (next pid : ℕ) (args : Arguments) → pid ≢ q → NoInput q (input_links type next pid args)
inputs_elsewhere q type next pid args ne =
    inputs_all (λ l. is_input_of q l ≡ false) type next pid args (λ source port. and_false (takes_input type) (pid == q) (ne_eqb pid q ne))

-- ---- links that a test passes

filter_skips : (p : Link → Bool) (xs ys : List Link) → All (λ l. p l ≡ false) xs → filter p (xs ++ ys) ≡ filter p ys
filter_skips p [] ys h = refl
filter_skips p (x ∷ xs) ys h =
    cond-false (p x) (x ∷ filter p (xs ++ ys)) (filter p (xs ++ ys)) (All-head (λ l. p l ≡ false) x xs h) ∙ filter_skips p xs ys (All-tail (λ l. p l ≡ false) x xs h)

module _ (w : World) (r : ProcessRecord) where
  -- what holds of the links of each call holds of all
  pub links_all : (P : Link → Type 0) (low next : ℕ) (cs : List Call) → low ≤ next → ((n : ℕ) (c : Call) → low ≤ n → All P (call_links w r n c)) → All P (calls_links w r next cs)
  links_all P low next [] le h = All-nil P
  links_all P low next (c ∷ cs) le h =
      let further : ℕ = suc (called_number w r next c) in
      All-append P (call_links w r next c) (calls_links w r further cs) (h next c le) (links_all P low further cs (omega arith) h)

  -- what holds of each input link and of each call link holds of all
  pub call_all : (P : Link → Type 0) (n : ℕ) (c : Call) → All P (input_links (input_link (kind_of_callee w r c)) n (called_number w r n c) c.args)
      → P (its_call_link w r n c) → All P (call_links w r n c)
  call_all P n c h k =
      All-append P (input_links (input_link (kind_of_callee w r c)) n (called_number w r n c) c.args) (its_call_link w r n c ∷ []) h
      (All-cons P (its_call_link w r n c) [] k (All-nil P))

  call_gives_nothing : (q n : ℕ) (c : Call) → NoOutput q (call_links w r n c)
  call_gives_nothing q n c =
      call_all (λ l. is_output_of q l ≡ false) n c (inputs_give_nothing q (kind_of_callee w r c) n (called_number w r n c) c.args)
      (ap (λ (b : Bool). b && (r.node == q)) (call_gives (kind_of_callee w r c)))

  -- no link of a call is an output
  pub no_outputs : (q next : ℕ) (cs : List Call) → NoOutput q (calls_links w r next cs)
  no_outputs q next cs = links_all (λ l. is_output_of q l ≡ false) next next cs (omega arith) (λ n c le. call_gives_nothing q n c)

  pub call_link_is_no_input : (q n : ℕ) (c : Call) → is_input_of q (its_call_link w r n c) ≡ false
  call_link_is_no_input q n c = ap (λ (b : Bool). b && (called_number w r n c == q)) (call_takes (kind_of_callee w r c))

  pub call_inputs_elsewhere : (q n : ℕ) (c : Call) → called_number w r n c ≢ q → NoInput q (call_links w r n c)
  call_inputs_elsewhere q n c ne =
      call_all (λ l. is_input_of q l ≡ false) n c (inputs_elsewhere q (input_link (kind_of_callee w r c)) n (called_number w r n c) c.args ne) (call_link_is_no_input q n c)

  -- none is an input of a process with a lower number
  pub no_inputs : (q next : ℕ) (cs : List Call) → q < next → NoInput q (calls_links w r next cs)
  no_inputs q next cs lt =
      links_all (λ l. is_input_of q l ≡ false) next next cs (omega arith) (λ n c le. call_inputs_elsewhere q n c (λ e. absurd (omega arith)))

  -- only the chain calls
  pub no_calls_of : (q next : ℕ) (cs : List Call) → r.node ≢ q → NoCallFrom q (calls_links w r next cs)
  no_calls_of q next cs ne =
      links_all (λ l. is_call_from q l ≡ false) next next cs (omega arith)
      (λ n c le. call_all (λ l. is_call_from q l ≡ false) n c
      (no_call_from q (input_links (input_link (kind_of_callee w r c)) n (called_number w r n c) c.args) (inputs_call_nothing (kind_of_callee w r c) n (called_number w r n c) c.args))
      (and_false (calls (call_link (kind_of_callee w r c))) (r.node == q) (ne_eqb r.node q ne)))

  pub its_link_calls : (n : ℕ) (c : Call) → is_call_from r.node (its_call_link w r n c) ≡ true
  its_link_calls n c = (λ i. call_calls (kind_of_callee w r c) i && (r.node == r.node)) ∙ eq-eqb r.node r.node refl

  -- what the chain calls, in order
  pub calls_filtered : (next : ℕ) (cs : List Call) → filter (is_call_from r.node) (calls_links w r next cs) ≡ links_of_calls w r next cs
  calls_filtered next [] = refl
  calls_filtered next (c ∷ cs) =
      let k : ProcessKind = kind_of_callee w r c in
      let number : ℕ = called_number w r next c in
      let inputs : List Link = input_links (input_link k) next number c.args in
      let l : Link = its_call_link w r next c in
      let rest : List Link = calls_links w r (suc number) cs in
      ap (filter (is_call_from r.node)) (append_assoc inputs (l ∷ []) rest)
      ∙ filter_skips (is_call_from r.node) inputs (l ∷ rest) (no_call_from r.node inputs (inputs_call_nothing k next number c.args))
      ∙ ap (λ (b : Bool). if b then l ∷ filter (is_call_from r.node) rest else filter (is_call_from r.node) rest) (its_link_calls next c)
      ∙ ap (λ (ls : List Link). l ∷ ls) (calls_filtered (suc number) cs)
