-- A graph takes a link or refuses it, and refuses it in one way.
use Rattle.std.proofs.Common.{◌≡◌, ℕ, List, Option, Some, None, refl, sym, ap, ◌∙◌, ⊎_elim}
use Rattle.std.proofs.lemmas.Bool.{false≢true}
use Rattle.std.specs.Prelude.{IsSome, IsNone, IsSomeAnd}
use Rattle.wc_graph.specs.declared.node.NodeKind.{NodeKind}
use Rattle.wc_graph.specs.declared.link.Link.{Link}
use Rattle.wc_graph.specs.declared.error.GraphError.{GraphError}
use Rattle.wc_graph.specs.declared.error.GraphError.TheVariants.{NoNode, WrongEnds, TripleTaken, LabelTaken, HasCreator, HasCaller, Full, OutOfMemory}
use Rattle.wc_graph.specs.Rules.{node_of, Leaves, Enters, HasRightEnds}
use Rattle.wc_graph.specs.Refusals.{IsMissing, Refuses, IsAllowed}

none_some : {T : Type 0} (o : Option T) → IsNone o → IsSome o → ⊥
none_some None n s = false≢true s
none_some (Some x) n s = false≢true (sym n)

none_with : {T : Type 0} (o : Option T) (P : T → Type 0) → IsNone o → IsSomeAnd o P → ⊥
none_with None P n s = s
none_with (Some x) P n s = false≢true (sym n)

missing_both : (nodes : List NodeKind) (b : Link) (m : ℕ) → IsMissing nodes b m → IsSome (node_of nodes b.source) × IsSome (node_of nodes b.target) → ⊥
missing_both nodes b m h k = ⊎_elim (λ s. none_some (node_of nodes b.source) s.1 k.0) (λ t. none_some (node_of nodes b.target) t.2 k.1) h

missing_right : (nodes : List NodeKind) (b : Link) (m : ℕ) → IsMissing nodes b m → HasRightEnds nodes b → ⊥
missing_right nodes b m h k =
    ⊎_elim (λ s. none_with (node_of nodes b.source) (Leaves b.link) s.1 k.0) (λ t. none_with (node_of nodes b.target) (Enters b.link) t.2 k.1) h

one_missing : (nodes : List NodeKind) (b : Link) (m n : ℕ) → IsMissing nodes b m → IsMissing nodes b n → m ≡ n
one_missing nodes b m n h k =
    ⊎_elim
    (λ s. ⊎_elim (λ s'. s.0 ∙ sym s'.0) (λ t'. absurd (none_some (node_of nodes b.source) s.1 t'.1)) k)
    (λ t. ⊎_elim (λ s'. absurd (none_some (node_of nodes b.source) s'.1 t.1)) (λ t'. t.0 ∙ sym t'.0) k)
    h

pub not_graph : (nodes : List NodeKind) (links : List Link) (b : Link) (e : GraphError) → IsAllowed nodes links b → Refuses nodes links b e → ⊥
not_graph nodes links b (NoNode m) f h = missing_right nodes b m h f.ends
not_graph nodes links b WrongEnds f h = h.2 f.ends
not_graph nodes links b TripleTaken f h = f.triple h.1
not_graph nodes links b LabelTaken f h = f.label h.2
not_graph nodes links b HasCreator f h = f.creator h.3
not_graph nodes links b HasCaller f h = f.caller h.4
not_graph nodes links b Full f h = h
not_graph nodes links b OutOfMemory f h = h

pub one_graph : (nodes : List NodeKind) (links : List Link) (b : Link) (d e : GraphError) → Refuses nodes links b d → Refuses nodes links b e → d ≡ e
one_graph nodes links b (NoNode m) (NoNode n) h k = ap NoNode (one_missing nodes b m n h k)
one_graph nodes links b (NoNode m) WrongEnds h k = absurd (missing_both nodes b m h (k.0, k.1))
one_graph nodes links b (NoNode m) TripleTaken h k = absurd (missing_right nodes b m h k.0)
one_graph nodes links b (NoNode m) LabelTaken h k = absurd (missing_right nodes b m h k.0)
one_graph nodes links b (NoNode m) HasCreator h k = absurd (missing_right nodes b m h k.0)
one_graph nodes links b (NoNode m) HasCaller h k = absurd (missing_right nodes b m h k.0)
one_graph nodes links b (NoNode m) Full h k = absurd k
one_graph nodes links b (NoNode m) OutOfMemory h k = absurd k
one_graph nodes links b WrongEnds (NoNode n) h k = absurd (missing_both nodes b n k (h.0, h.1))
one_graph nodes links b WrongEnds WrongEnds h k = refl
one_graph nodes links b WrongEnds TripleTaken h k = absurd (h.2 k.0)
one_graph nodes links b WrongEnds LabelTaken h k = absurd (h.2 k.0)
one_graph nodes links b WrongEnds HasCreator h k = absurd (h.2 k.0)
one_graph nodes links b WrongEnds HasCaller h k = absurd (h.2 k.0)
one_graph nodes links b WrongEnds Full h k = absurd k
one_graph nodes links b WrongEnds OutOfMemory h k = absurd k
one_graph nodes links b TripleTaken (NoNode n) h k = absurd (missing_right nodes b n k h.0)
one_graph nodes links b TripleTaken WrongEnds h k = absurd (k.2 h.0)
one_graph nodes links b TripleTaken TripleTaken h k = refl
one_graph nodes links b TripleTaken LabelTaken h k = absurd (k.1 h.1)
one_graph nodes links b TripleTaken HasCreator h k = absurd (k.1 h.1)
one_graph nodes links b TripleTaken HasCaller h k = absurd (k.1 h.1)
one_graph nodes links b TripleTaken Full h k = absurd k
one_graph nodes links b TripleTaken OutOfMemory h k = absurd k
one_graph nodes links b LabelTaken (NoNode n) h k = absurd (missing_right nodes b n k h.0)
one_graph nodes links b LabelTaken WrongEnds h k = absurd (k.2 h.0)
one_graph nodes links b LabelTaken TripleTaken h k = absurd (h.1 k.1)
one_graph nodes links b LabelTaken LabelTaken h k = refl
one_graph nodes links b LabelTaken HasCreator h k = absurd (k.2 h.2)
one_graph nodes links b LabelTaken HasCaller h k = absurd (k.2 h.2)
one_graph nodes links b LabelTaken Full h k = absurd k
one_graph nodes links b LabelTaken OutOfMemory h k = absurd k
one_graph nodes links b HasCreator (NoNode n) h k = absurd (missing_right nodes b n k h.0)
one_graph nodes links b HasCreator WrongEnds h k = absurd (k.2 h.0)
one_graph nodes links b HasCreator TripleTaken h k = absurd (h.1 k.1)
one_graph nodes links b HasCreator LabelTaken h k = absurd (h.2 k.2)
one_graph nodes links b HasCreator HasCreator h k = refl
one_graph nodes links b HasCreator HasCaller h k = absurd (k.3 h.3)
one_graph nodes links b HasCreator Full h k = absurd k
one_graph nodes links b HasCreator OutOfMemory h k = absurd k
one_graph nodes links b HasCaller (NoNode n) h k = absurd (missing_right nodes b n k h.0)
one_graph nodes links b HasCaller WrongEnds h k = absurd (k.2 h.0)
one_graph nodes links b HasCaller TripleTaken h k = absurd (h.1 k.1)
one_graph nodes links b HasCaller LabelTaken h k = absurd (h.2 k.2)
one_graph nodes links b HasCaller HasCreator h k = absurd (h.3 k.3)
one_graph nodes links b HasCaller HasCaller h k = refl
one_graph nodes links b HasCaller Full h k = absurd k
one_graph nodes links b HasCaller OutOfMemory h k = absurd k
one_graph nodes links b Full e h k = absurd h
one_graph nodes links b OutOfMemory e h k = absurd h
