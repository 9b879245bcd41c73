-- A cut more, in its group.
use Rattle.std.proofs.Common.{◌≡◌, ℕ, ◌<◌, zero, suc, Bool, true, false, cond, Option, Some, None, List, [], ◌∷◌, ◌++◌, length, map, get_or, set, refl, ap, sym, ◌∙◌, arith, Bor, vec_len}
use Rattle.std.proofs.lemmas.List.{length-map}
use Rattle.scan_expr.specs.Bound.{Bound}
use Rattle.scan_expr.specs.Expr.{Expr}
use Rattle.scan_partition.specs.declared.item.Item.{Item}
use Rattle.scan_partition.specs.declared.groups.Group.{Group as LentGroup}
use Rattle.scan_partition.specs.Items.{same_item}
use Rattle.scan_partition.specs.Partition.{Group, added, found}
use Rattle.scan_partition.specs.Places.{one_later, index_of}
use Rattle.scan_partition.specs.Soles.{item_seen}
use Rattle.scan_partition.specs.Plans.{lent_exprs, group_seen}
use Rattle.scan_partition.proofs.CutLists.{map_one_more}
use Rattle.scan_partition.proofs.Through.{same_item-sound}

abbrev pub exprs_lent : LentGroup → List Expr
exprs_lent g = lent_exprs g.parts.items

abbrev pub groups_seen : List LentGroup → List Group
groups_seen = map group_seen

-- ---- numbers, one later
pub later : (o : Option ℕ) (k : ℕ) → one_later o ≡ Some (suc k) → o ≡ Some k
later None k h = cc
later (Some j) k h = cc

pub not_first : {A : Type 0} (o : Option ℕ) → one_later o ≡ Some zero → A
not_first o h = absurd (go o h)
  where
    go : (o : Option ℕ) → one_later o ≡ Some zero → ⊥
    go None h = cc
    go (Some j) h = cc

nowhere : (o : Option ℕ) → one_later o ≡ None → o ≡ None
nowhere None h = refl
nowhere (Some j) h = cc

pub first_is : {A : Type 0} (k : ℕ) → Some zero ≡ Some (suc k) → A
first_is k h = absurd (go h)
  where
    go : Some zero ≡ Some (suc k) → ⊥
    go h = cc

somewhere : {A : Type 0} (k : ℕ) → Some k ≡ None → A
somewhere k h = absurd (go h)
  where
    go : Some k ≡ None → ⊥
    go h = cc

-- ---- where the item has a group
pub index_within : (i : Item) (gs : List LentGroup) (k : ℕ) → index_of i (groups_seen gs) ≡ Some k → k < length gs
index_within i [] k p = cc
index_within i (x ∷ xs) zero p = omega arith
index_within i (x ∷ xs) (suc k) p = go (same_item (item_seen x.item) i) p (index_within i xs k)
  where
    go : (t : Bool) → cond t (Some 0) (one_later (index_of i (groups_seen xs))) ≡ Some (suc k) → (index_of i (groups_seen xs) ≡ Some k → k < length xs) → suc k < suc (length xs)
    go true q f = first_is k q
    go false q f = omega (arith, f (later (index_of i (groups_seen xs)) k q))

pub added_at : (i : Item) (b : Expr) (gs : List LentGroup) (k : ℕ) (g h : LentGroup) → index_of i (groups_seen gs) ≡ Some k → g ≡ get_or gs k g → group_seen h ≡ (item_seen g.item, exprs_lent g ++ b ∷ []) → groups_seen (set gs k h) ≡ added i b (groups_seen gs)
added_at i b [] k g h p e s = cc
added_at i b (x ∷ xs) zero g h p e s = go (same_item (item_seen x.item) i) p
  where
    go : (t : Bool) → cond t (Some 0) (one_later (index_of i (groups_seen xs))) ≡ Some zero → group_seen h ∷ groups_seen xs ≡ cond t ((item_seen x.item, exprs_lent x ++ b ∷ []) ∷ groups_seen xs) (group_seen x ∷ added i b (groups_seen xs))
    go true q = ap (λ y. y ∷ groups_seen xs) (s ∙ ap (λ (y : LentGroup). (item_seen y.item, exprs_lent y ++ b ∷ [])) e)
    go false q = not_first (index_of i (groups_seen xs)) q
added_at i b (x ∷ xs) (suc k) g h p e s = go (same_item (item_seen x.item) i) p (λ q. added_at i b xs k g h q e s)
  where
    go : (t : Bool) → cond t (Some 0) (one_later (index_of i (groups_seen xs))) ≡ Some (suc k)
        → (index_of i (groups_seen xs) ≡ Some k → groups_seen (set xs k h) ≡ added i b (groups_seen xs))
        → group_seen x ∷ groups_seen (set xs k h) ≡ cond t ((item_seen x.item, exprs_lent x ++ b ∷ []) ∷ groups_seen xs)
        (group_seen x ∷ added i b (groups_seen xs))
    go true q f = first_is k q
    go false q f = ap (λ ys. group_seen x ∷ ys) (f (later (index_of i (groups_seen xs)) k q))

-- the cuts of an item
pub found_at : (i : Item) (gs : List LentGroup) (k : ℕ) (g : LentGroup) → index_of i (groups_seen gs) ≡ Some k → g ≡ get_or gs k g → exprs_lent g ≡ found i (groups_seen gs)
found_at i [] k g p e = cc
found_at i (x ∷ xs) zero g p e = go (same_item (item_seen x.item) i) p
  where
    go : (t : Bool) → cond t (Some 0) (one_later (index_of i (groups_seen xs))) ≡ Some zero → exprs_lent g ≡ cond t (exprs_lent x) (found i (groups_seen xs))
    go true q = ap exprs_lent e
    go false q = not_first (index_of i (groups_seen xs)) q
found_at i (x ∷ xs) (suc k) g p e = go (same_item (item_seen x.item) i) p (λ q. found_at i xs k g q e)
  where
    go : (t : Bool) → cond t (Some 0) (one_later (index_of i (groups_seen xs))) ≡ Some (suc k) → (index_of i (groups_seen xs) ≡ Some k → exprs_lent g ≡ found i (groups_seen xs)) → exprs_lent g ≡ cond t (exprs_lent x) (found i (groups_seen xs))
    go true q f = first_is k q
    go false q f = f (later (index_of i (groups_seen xs)) k q)

-- the groups stay where they are
pub index_kept : (i j : Item) (b : Expr) (gs : List Group) (k : ℕ) → index_of i gs ≡ Some k → index_of j (added i b gs) ≡ index_of j gs
index_kept i j b [] k p = cc
index_kept i j b (g ∷ gs) k p = go (same_item g.0 i) k p (index_kept i j b gs)
  where
    go : (t : Bool) (k : ℕ) → cond t (Some 0) (one_later (index_of i gs)) ≡ Some k → ((k : ℕ) → index_of i gs ≡ Some k → index_of j (added i b gs) ≡ index_of j gs) → index_of j (cond t ((g.0, g.1 ++ b ∷ []) ∷ gs) (g ∷ added i b gs)) ≡ cond (same_item g.0 j) (Some 0) (one_later (index_of j gs))
    go true k q f = refl
    go false zero q f = not_first (index_of i gs) q
    go false (suc k) q f = ap (λ o. cond (same_item g.0 j) (Some 0) (one_later o)) (f k (later (index_of i gs) k q))

-- ---- where it has none
pub added_new : (i : Item) (b : Expr) (gs hs : List LentGroup) (h : LentGroup) → index_of i (groups_seen gs) ≡ None → hs ≡ gs ++ h ∷ [] → group_seen h ≡ (i, b ∷ []) → groups_seen hs ≡ added i b (groups_seen gs)
added_new i b gs hs h p e s = ap groups_seen e ∙ walk gs p
  where
    walk : (gs : List LentGroup) → index_of i (groups_seen gs) ≡ None → groups_seen (gs ++ h ∷ []) ≡ added i b (groups_seen gs)
    walk [] p = ap (λ y. y ∷ []) s
    walk (x ∷ xs) p = go (same_item (item_seen x.item) i) p (walk xs)
      where
        go : (t : Bool) → cond t (Some 0) (one_later (index_of i (groups_seen xs))) ≡ None
            → (index_of i (groups_seen xs) ≡ None → groups_seen (xs ++ h ∷ []) ≡ added i b (groups_seen xs))
            → group_seen x ∷ groups_seen (xs ++ h ∷ []) ≡ cond t ((item_seen x.item, exprs_lent x ++ b ∷ []) ∷ groups_seen xs)
            (group_seen x ∷ added i b (groups_seen xs))
        go true q f = somewhere 0 q
        go false q f = ap (λ ys. group_seen x ∷ ys) (f (nowhere (index_of i (groups_seen xs)) q))

pub found_none : (i : Item) (gs : List LentGroup) → index_of i (groups_seen gs) ≡ None → found i (groups_seen gs) ≡ []
found_none i [] p = refl
found_none i (x ∷ xs) p = go (same_item (item_seen x.item) i) p (found_none i xs)
  where
    go : (t : Bool) → cond t (Some 0) (one_later (index_of i (groups_seen xs))) ≡ None → (index_of i (groups_seen xs) ≡ None → found i (groups_seen xs) ≡ []) → cond t (exprs_lent x) (found i (groups_seen xs)) ≡ []
    go true q f = somewhere 0 q
    go false q f = f (nowhere (index_of i (groups_seen xs)) q)

-- its group is the last
pub index_new : (i j : Item) (b : Expr) (gs : List Group) → index_of i gs ≡ None → index_of j (added i b gs) ≡ cond (same_item i j) (Some (length gs)) (index_of j gs)
index_new i j b [] p = refl
index_new i j b (g ∷ gs) p = go (same_item g.0 i) refl p (index_new i j b gs)
  where
    apart : (s : Bool) → same_item g.0 j ≡ s → (t : Bool) → same_item i j ≡ t → same_item g.0 i ≡ false → cond s (Some 0) (one_later (cond t (Some (length gs)) (index_of j gs))) ≡ cond t (Some (suc (length gs))) (cond s (Some 0) (one_later (index_of j gs)))
    apart true h true k q = absurd (clash (sym q ∙ ap (same_item g.0) (same_item-sound i j k) ∙ h))
      where
        clash : false ≡ true → ⊥
        clash r = cc
    apart true h false k q = refl
    apart false h true k q = refl
    apart false h false k q = refl

    go : (t : Bool) → same_item g.0 i ≡ t → cond t (Some 0) (one_later (index_of i gs)) ≡ None
        → (index_of i gs ≡ None → index_of j (added i b gs) ≡ cond (same_item i j) (Some (length gs)) (index_of j gs))
        → index_of j (cond t ((g.0, g.1 ++ b ∷ []) ∷ gs) (g ∷ added i b gs)) ≡ cond (same_item i j) (Some (suc (length gs)))
        (cond (same_item g.0 j) (Some 0) (one_later (index_of j gs)))
    go true e q f = somewhere 0 q
    go false e q f = ap (λ o. cond (same_item g.0 j) (Some 0) (one_later o)) (f (nowhere (index_of i gs) q)) ∙ apart (same_item g.0 j) refl (same_item i j) refl e

-- ---- a part more
pub one_more : (g : LentGroup) (xs : List (Bor Bound)) (b : Bor Bound) → xs ≡ g.parts.items ++ b ∷ [] → ◌≡◌ {A = Group} (item_seen g.item, lent_exprs xs) (item_seen g.item, exprs_lent g ++ b.now.expr ∷ [])
one_more g xs b h = ap (λ (ys : List Expr). pair ys) (ap lent_exprs h ∙ map_one_more (λ (x : Bor Bound). x.now.expr) g.parts.items b)
  where
    pair : List Expr → Group
    pair ys = (item_seen g.item, ys)

pub count_lent : (g : LentGroup) → vec_len g.parts ≡ length (exprs_lent g)
count_lent g = g.parts.ok.0 ∙ sym (length-map g.parts.items (λ (x : Bor Bound). x.now.expr))
