-- The groups that a walk makes hold the cuts of each item.
use Rattle.std.proofs.Common.{◌≡◌, Bool, true, false, cond, List, [], ◌∷◌, ◌++◌, refl, ap, sym, subst, ◌∙◌, append_assoc}
use Rattle.std.proofs.lemmas.List.{append-nil}
use Rattle.scan_partition.specs.declared.item.Item.{Item}
use Rattle.scan_partition.specs.Items.{same_item}
use Rattle.scan_expr.specs.Expr.{Expr}
use Rattle.scan_partition.specs.Partition.{Cut, cuts_of, Group, added, collected, found}
use Rattle.scan_partition.proofs.Through.{same_item-sound}
use Rattle.scan_partition.proofs.Names.{same_item-refl}

pub same_item-sym : (i j : Item) → same_item i j ≡ same_item j i
same_item-sym i j = go (same_item i j) refl (same_item j i) refl
  where
    go : (b : Bool) → same_item i j ≡ b → (c : Bool) → same_item j i ≡ c → b ≡ c
    go true p true q = refl
    go false p false q = refl
    go true p false q = sym (sym q ∙ subst (λ x. same_item x i ≡ true) (same_item-sound i j p) (same_item-refl i))
    go false p true q = sym p ∙ subst (λ x. same_item x j ≡ true) (same_item-sound j i q) (same_item-refl j)

pub found_added : (i j : Item) (e : Expr) (gs : List Group) → found i (added j e gs) ≡ cond (same_item j i) (found i gs ++ e ∷ []) (found i gs)
found_added i j e [] = refl
found_added i j e (g ∷ gs) = go (same_item g.0 j) (same_item-sound g.0 j) refl (found_added i j e gs)
  where
    new : List Expr
    new = g.1 ++ e ∷ []

    at_here : (c : Bool) → cond c (g.1 ++ e ∷ []) (found i gs) ≡ cond c (cond c g.1 (found i gs) ++ e ∷ []) (cond c g.1 (found i gs))
    at_here true = refl
    at_here false = refl

    apart : (c d : Bool) → same_item g.0 i ≡ c → same_item j i ≡ d → same_item g.0 j ≡ false → found i (added j e gs) ≡ cond d (found i gs ++ e ∷ []) (found i gs)
        → cond c g.1 (found i (added j e gs)) ≡ cond d (cond c g.1 (found i gs) ++ e ∷ []) (cond c g.1 (found i gs))
    apart true false p q n h = refl
    apart false d p q n h = h
    apart true true p q n h = clash (sym n ∙ ap (λ x. same_item x j) (same_item-sound g.0 i p ∙ sym (same_item-sound j i q)) ∙ same_item-refl j)
      where
        clash : {A : Type 0} → false ≡ true → A
        clash r = absurd (no r)
          where
            no : false ≡ true → ⊥
            no r = cc

    go : (b : Bool) → (b ≡ true → g.0 ≡ j) → same_item g.0 j ≡ b → found i (added j e gs) ≡ cond (same_item j i) (found i gs ++ e ∷ []) (found i gs)
        → found i (cond b ((g.0, g.1 ++ e ∷ []) ∷ gs) (g ∷ added j e gs)) ≡ cond (same_item j i) (cond (same_item g.0 i) g.1 (found i gs) ++ e ∷ []) (cond (same_item g.0 i) g.1 (found i gs))
    go true s p h = at_here (same_item g.0 i) ∙ ap (λ x. cond (same_item x i) (cond (same_item g.0 i) g.1 (found i gs) ++ e ∷ []) (cond (same_item g.0 i) g.1 (found i gs))) (s refl)
    go false s p h = apart (same_item g.0 i) (same_item j i) refl refl p h

pub found_collected : (i : Item) (gs : List Group) (cs : List Cut) → found i (collected gs cs) ≡ found i gs ++ cuts_of i cs
found_collected i gs [] = sym (append-nil (found i gs))
found_collected i gs (c ∷ cs) = found_collected i (added c.0 c.1 gs) cs ∙ ap (λ x. x ++ cuts_of i cs) (found_added i c.0 c.1 gs ∙ ap (λ b. cond b (found i gs ++ c.1 ∷ []) (found i gs)) (same_item-sym c.0 i)) ∙ go (same_item i c.0)
  where
    go : (b : Bool) → cond b (found i gs ++ c.1 ∷ []) (found i gs) ++ cuts_of i cs ≡ found i gs ++ cond b (c.1 ∷ cuts_of i cs) (cuts_of i cs)
    go true = append_assoc (found i gs) (c.1 ∷ []) (cuts_of i cs)
    go false = refl
