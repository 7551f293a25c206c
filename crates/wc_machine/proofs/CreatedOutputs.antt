-- The outputs that are recorded of a process once they are created, and what their links leave alone.
use Rattle.std.proofs.Common.{◌≡◌, ◌≢◌, ℕ, suc, ◌+◌, Bool, true, false, Option, Some, List, [], ◌∷◌, ◌++◌, length, refl, sym, ap, subst, ◌∙◌, arith}
use Rattle.std.specs.Prelude.{◌||◌, if◌then◌else◌, option_and_then, slice_get}
use Rattle.std.specs.List.{AllByRecursion}
use Rattle.std.specs.List.Sorted.{IsStrictlySortedBy}
use Rattle.std.specs.Map.{keys_of}
use Rattle.std.specs.Str.{bytes_eq}
use Rattle.std.specs.Ordering.{nat_cmp, is_lt}
use Rattle.std.specs.declared.cmp.Ordering.TheVariants.{Less}
use Rattle.std.specs.Cmp.Lexicographic.{slice_cmp}
use Rattle.std.proofs.lemmas.Bool.{eq-eqb, ne_eqb}
use Rattle.std.proofs.lemmas.List.{append_assoc, append-nil, length_push}
use Rattle.std.proofs.lemmas.List.Elements.{All-nil, All-cons}
use Rattle.wc_value.specs.Ascending.{Ascends, before, put}
use Rattle.wc_value.specs.declared.value.Value.{Value}
use Rattle.wc_graph.specs.declared.link.Link.{Link}
use Rattle.wc_graph.specs.declared.link.LinkType.TheVariants.{Create}
use Rattle.wc_graph.specs.declared.node.NodeKind.{NodeKind}
use Rattle.wc_graph.specs.declared.node.NodeKind.TheVariants as node
use Rattle.wc_semantics.specs.Rules.{Values}
use Rattle.wc_world.specs.Records.{calls, is_input_of, is_output_of}
use Rattle.wc_world.specs.Fits.{has_output}
use Rattle.wc_world.specs.Trees.{data_of, value_of, outputs_after, values_alone}
use Rattle.wc_world.specs.Linked.{with_plain, plain_after}
use Rattle.wc_world.proofs.LabelledValues.{plain_outputs}
use Rattle.wc_machine.proofs.Endings.{data_nodes, creates}
use Rattle.wc_machine.proofs.Frames.{NoInput, NoOutput, NoCalls, outputs_append, outputs_untouched}

-- ---- what the links leave alone

pub creates_no_input : (q next pid : ℕ) (os : Values) → NoInput q (creates next pid os)
creates_no_input q next pid [] = All-nil (λ l. is_input_of q l ≡ false)
creates_no_input q next pid (o ∷ os) =
    All-cons (λ l. is_input_of q l ≡ false) (record { source = pid; target = next; link = Create; label = o.0 }) (creates (suc next) pid os) refl
    (creates_no_input q (suc next) pid os)

pub creates_no_call : (next pid : ℕ) (os : Values) → NoCalls (creates next pid os)
creates_no_call next pid [] = All-nil (λ l. calls l.link ≡ false)
creates_no_call next pid (o ∷ os) =
    All-cons (λ l. calls l.link ≡ false) (record { source = pid; target = next; link = Create; label = o.0 }) (creates (suc next) pid os) refl
    (creates_no_call (suc next) pid os)

pub creates_no_output : (q next pid : ℕ) (os : Values) → pid ≢ q → NoOutput q (creates next pid os)
creates_no_output q next pid [] ne = All-nil (λ l. is_output_of q l ≡ false)
creates_no_output q next pid (o ∷ os) ne =
    All-cons (λ l. is_output_of q l ≡ false) (record { source = pid; target = next; link = Create; label = o.0 }) (creates (suc next) pid os) (ne_eqb pid q ne)
    (creates_no_output q (suc next) pid os ne)

-- a process without an output has no output link
pub without_output : (pid : ℕ) (ls : List Link) → has_output pid ls ≡ false → NoOutput pid ls
without_output pid [] h = All-nil (λ l. is_output_of pid l ≡ false)
without_output pid (l ∷ ls) h =
    let p = neither (is_output_of pid l) (has_output pid ls) h in
    All-cons (λ l. is_output_of pid l ≡ false) l ls p.0 (without_output pid ls p.1)
  where
    neither : (a b : Bool) → a || b ≡ false → (a ≡ false) × (b ≡ false)
    neither true b h = absurd (cc)
    neither false b h = (refl, h)

-- ---- the nodes that the links lead to

-- the nodes from this number on have these values
abbrev HasData : List NodeKind → ℕ → Values → Type 0
HasData nodes next [] = Unit {0}
HasData nodes next (o ∷ os) = (value_of nodes next ≡ Some o.1) × HasData nodes (suc next) os

seam : (front rest : List NodeKind) (k : NodeKind) → slice_get (front ++ k ∷ rest) (length front) ≡ Some k
seam [] rest k = refl
seam (x ∷ xs) rest k = seam xs rest k

data_there : (front : List NodeKind) (os : Values) → HasData (front ++ data_nodes os) (suc (length front)) os
data_there front [] = tt
data_there front (o ∷ os) = (
  ap (option_and_then data_of) (seam front (data_nodes os) (node.Data o.1)),
  subst (λ (nodes : List NodeKind). HasData nodes (suc (suc (length front))) os) (append_assoc front (node.Data o.1 ∷ []) (data_nodes os))
      (subst (λ (n : ℕ). HasData ((front ++ node.Data o.1 ∷ []) ++ data_nodes os) (suc n) os) (let e : length (front ++ node.Data o.1 ∷ []) ≡ suc (length front) = omega (arith, length_push front (node.Data o.1)) in e)
      (data_there (front ++ node.Data o.1 ∷ []) os)),
)

-- ---- values in order are put one behind the other

at_seam : (P : List ℕ → Type 0) (es rest : Values) (o : List ℕ × Value) → AllByRecursion P (keys_of (es ++ o ∷ rest)) → P o.0
at_seam P [] rest o a = a.0
at_seam P (e ∷ es) rest o a = at_seam P es rest o a.1

put_behind : (es rest : Values) (o : List ℕ × Value) → Ascends (es ++ o ∷ rest) → put o.0 o.1 es ≡ es ++ o ∷ []
unfolding IsStrictlySortedBy
put_behind [] rest o a = refl
put_behind (e ∷ es) rest o a =
    let less : slice_cmp nat_cmp e.0 o.0 ≡ Less = at_seam (λ k. slice_cmp nat_cmp e.0 k ≡ Less) es rest o a.0 in
    let is : before e.0 o.0 ≡ true = ap is_lt less in
    ap (λ (b : Bool). if b then e ∷ put o.0 o.1 es else if bytes_eq e.0 o.0 then (o.0, o.1) ∷ es else (o.0, o.1) ∷ e ∷ es) is
    ∙ ap (λ (l : Values). e ∷ l) (put_behind es rest o a.1)

created_plain : (nodes : List NodeKind) (pid next : ℕ) (os es : Values) → HasData nodes next os → Ascends (es ++ os)
    → plain_after nodes pid (creates next pid os) es ≡ es ++ os
created_plain nodes pid next [] es h a = sym (append-nil es)
created_plain nodes pid next (o ∷ os) es h a =
    ap (λ (b : Bool). plain_after nodes pid (creates (suc next) pid os) (if b then with_plain o.0 (value_of nodes next) es else es)) (eq-eqb pid pid refl)
    ∙ ap (λ (v : Option Value). plain_after nodes pid (creates (suc next) pid os) (with_plain o.0 v es)) h.0
    ∙ ap (plain_after nodes pid (creates (suc next) pid os)) (put_behind es os o a)
    ∙ created_plain nodes pid (suc next) os (es ++ o ∷ []) h.1 (subst Ascends (sym (append_assoc es (o ∷ []) os)) a)
    ∙ append_assoc es (o ∷ []) os

-- A process without an output has the outputs that are created.
pub outputs_created : (nodes : List NodeKind) (ls : List Link) (pid : ℕ) (os : Values) → Ascends os → has_output pid ls ≡ false
    → values_alone (outputs_after (nodes ++ data_nodes os) pid (ls ++ creates (length nodes + 1) pid os) []) ≡ os
outputs_created nodes ls pid os a none =
    let all = nodes ++ data_nodes os in
    let next : length nodes + 1 ≡ suc (length nodes) = omega arith in
    ap values_alone (outputs_append all pid ls (creates (length nodes + 1) pid os) []
    ∙ ap (outputs_after all pid (creates (length nodes + 1) pid os)) (outputs_untouched all pid ls [] (without_output pid ls none)))
    ∙ sym (plain_outputs all pid (creates (length nodes + 1) pid os))
    ∙ ap (λ (n : ℕ). plain_after all pid (creates n pid os) []) next
    ∙ created_plain all pid (suc (length nodes)) os [] (data_there nodes os) a
