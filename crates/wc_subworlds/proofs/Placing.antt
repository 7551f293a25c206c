-- Rising maps of numbers, and walks over the links of one node.
use Rattle.std.proofs.Common.{◌≡◌, ℕ, ◌<◌, ◌==◌, Bool, true, false, List, [], ◌∷◌, map, refl, sym, ap, subst, ◌∙◌, arith, inl, inr}
use Rattle.std.specs.Prelude.{All, ◌⊎◌, ◌&&◌, if◌then◌else◌}
use Rattle.std.proofs.lemmas.Bool.{cases_order, eqb-true, eq-eqb, ne_eqb}
use Rattle.std.proofs.lemmas.List.Elements.{All-nil, All-cons, All-head, All-tail}
use Rattle.wc_graph.specs.declared.link.Link.{Link}
use Rattle.wc_world.specs.Linked.{of_node}
use Rattle.wc_world.specs.Records.{calls, gives_output, takes_input, is_call_from, is_input_of, is_output_of}
use Rattle.wc_subworlds.specs.Parts.{Rises, placed}

-- ---- numbers

module _ (place : ℕ → ℕ) (rises : Rises place) where
  -- what differs has places that differ
  pub one_number : (i j : ℕ) → place i ≡ place j → i ≡ j
  one_number i j h = at (cases_order i j)
    where
      at : (i ≡ j) ⊎ ((i < j) ⊎ (j < i)) → i ≡ j
      at (inl e) = e
      at (inr (inl lt)) = let p : place i < place j = rises i j lt in absurd (omega (arith, p, h))
      at (inr (inr lt)) = let p : place j < place i = rises j i lt in absurd (omega (arith, p, h))

  pub same_number : (i j : ℕ) → (place i == place j) ≡ (i == j)
  same_number i j = at (i == j) refl
    where
      at : (b : Bool) → (i == j) ≡ b → (place i == place j) ≡ b
      at true h = eq-eqb (place i) (place j) (ap place (eqb-true i j h))
      at false h =
          ne_eqb (place i) (place j)
          (λ e. let t : (i == j) ≡ true = eq-eqb i j (one_number i j e) in let f : true ≡ false = sym t ∙ h in absurd (cc f))

  pub call_placed : (pid : ℕ) (l : Link) → is_call_from (place pid) (placed place l) ≡ is_call_from pid l
  call_placed pid l = ap (λ (b : Bool). calls l.link && b) (same_number l.source pid)

  pub output_placed : (pid : ℕ) (l : Link) → is_output_of (place pid) (placed place l) ≡ is_output_of pid l
  output_placed pid l = ap (λ (b : Bool). gives_output l.link && b) (same_number l.source pid)

  pub input_placed : (pid : ℕ) (l : Link) → is_input_of (place pid) (placed place l) ≡ is_input_of pid l
  input_placed pid l = ap (λ (b : Bool). takes_input l.link && b) (same_number l.target pid)

-- ---- walks

-- What is told of a list of links goes link by link, and doesn't look at links of other nodes.
pub record Walks (A : Type 0) (side : Link → ℕ) (pid : ℕ) (told : List Link → A) : Type 0 where
  pub step : Link → A → A
  pub more : (l : Link) (ls : List Link) → told (l ∷ ls) ≡ step l (told ls)
  pub passes : (l : Link) (a : A) → (side l == pid) ≡ false → step l a ≡ a

-- so it is told by the links of the node alone
pub told_alone : (A : Type 0) (side : Link → ℕ) (pid : ℕ) (told : List Link → A) → Walks A side pid told → (ls : List Link) → told (of_node side pid ls) ≡ told ls
told_alone A side pid told w [] = refl
told_alone A side pid told w (l ∷ ls) = at (side l == pid) refl (told_alone A side pid told w ls)
  where
    at : (b : Bool) → (side l == pid) ≡ b → told (of_node side pid ls) ≡ told ls
        → told (if b then l ∷ of_node side pid ls else of_node side pid ls) ≡ told (l ∷ ls)
    at true h rest = w.more l (of_node side pid ls) ∙ ap (w.step l) rest ∙ sym (w.more l ls)
    at false h rest = rest ∙ sym (w.passes l (told ls) h) ∙ sym (w.more l ls)

all_of_node : (P : Link → Type 0) (side : Link → ℕ) (pid : ℕ) (ls : List Link) → All P ls → All P (of_node side pid ls)
all_of_node P side pid [] h = All-nil P
all_of_node P side pid (l ∷ ls) h = at (side l == pid) (all_of_node P side pid ls (All-tail P l ls h))
  where
    at : (b : Bool) → All P (of_node side pid ls) → All P (if b then l ∷ of_node side pid ls else of_node side pid ls)
    at true rest = All-cons P l (of_node side pid ls) (All-head P l ls h) rest
    at false rest = rest

-- Two tellings keep a relation from link to link, where the second has each link between the places of its ends.
pub record KeepsAlong (A B : Type 0) (place : ℕ → ℕ) (R : A → B → Type 0) (P : Link → Type 0) (step : Link → A → A) (other : Link → B → B) : Type 0 where
  pub each : (l : Link) (a : A) (b : B) → P l → R a b → R (step l a) (other (placed place l) b)

-- So it holds of what both tell of a node and of its place, where the links there are those of the node.
pub told_along : (A B : Type 0) (place : ℕ → ℕ) (R : A → B → Type 0) (P : Link → Type 0) (side : Link → ℕ) (pid : ℕ) (told : List Link → A) (other : List Link → B)
    (u : Walks A side pid told) (w : Walks B side (place pid) other) → KeepsAlong A B place R P u.step w.step → R (told []) (other []) → (ls ms : List Link)
    → of_node side (place pid) ms ≡ map (placed place) (of_node side pid ls) → All P ls → R (told ls) (other ms)
told_along A B place R P side pid told other u w keeps none ls ms same all =
    subst (λ (a : A). R a (other ms)) (told_alone A side pid told u ls)
    (subst (λ (b : B). R (told (of_node side pid ls)) b) (ap other (sym same) ∙ told_alone B side (place pid) other w ms)
    (along (of_node side pid ls) (all_of_node P side pid ls all)))
  where
    along : (xs : List Link) → All P xs → R (told xs) (other (map (placed place) xs))
    along [] h = none
    along (x ∷ xs) h =
        subst (λ (a : A). R a (other (map (placed place) (x ∷ xs)))) (sym (u.more x xs))
        (subst (λ (b : B). R (u.step x (told xs)) b) (sym (w.more (placed place x) (map (placed place) xs)))
        (keeps.each x (told xs) (other (map (placed place) xs)) (All-head P x xs h) (along xs (All-tail P x xs h))))
