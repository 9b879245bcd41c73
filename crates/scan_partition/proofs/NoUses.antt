-- What has no uses needs nothing, and what uses an item has uses stepped in.
use Rattle.std.proofs.Common.{◌≡◌, ◌⊎◌, inl, inr, Bool, true, false, cond, ◌||◌, List, [], ◌∷◌, ◌++◌, Option, Some, None, refl, ap, sym}
use Rattle.scan_values.specs.DataType.{DataType, struct_type, Fields}
use Rattle.scan_values.specs.declared.ptype.Nullability.{Nullability}
use Rattle.scan_values.specs.Paths.{Path}
use Rattle.scan_expr.specs.Expr.{is_root, Expr, root, row_index, literal, unary, binary, pack, Parts, no_parts, part}
use Rattle.scan_expr.specs.Infer.{infer, struct_fields}
use Rattle.scan_expr.specs.Needs.{Demand, whole, asked, uses, uses_all, needs, any_needs, has_none, list_validity, needed}
use Rattle.scan_partition.specs.declared.item.Item.{Item}
use Rattle.scan_partition.specs.Items.{root_item, item_of, Use, no_use, one, many, both, or_use, use_of, uses_of}
use Rattle.scan_partition.specs.Partition.{or_root, step_into, step_into_all}
use Rattle.scan_partition.proofs.Expanded.{is_root-sound}

pub clash : false ≡ true → ⊥
clash c = cc

none_first : (xs ys : List Demand) → has_none (xs ++ ys) ≡ true → has_none xs ≡ true
none_first [] ys h = refl
none_first (x ∷ xs) ys h = h

none_second : (xs ys : List Demand) → has_none (xs ++ ys) ≡ true → has_none ys ≡ true
none_second [] ys h = h
none_second (x ∷ xs) ys h = absurd (clash h)

pub some_first : (xs ys : List Demand) → has_none xs ≡ false → has_none (xs ++ ys) ≡ false
some_first [] ys h = absurd (clash (sym h))
some_first (x ∷ xs) ys h = refl

some_second : (xs ys : List Demand) → has_none ys ≡ false → has_none (xs ++ ys) ≡ false
some_second [] ys h = h
some_second (x ∷ xs) ys h = refl

neither : (a b : Bool) → a ≡ false → b ≡ false → a || b ≡ false
neither true b p q = absurd (clash (sym p))
neither false b p q = q

mutual
  pub unused : (s : DataType) (e : Expr) (k : Demand) (p : Path) → has_none (uses s e k) ≡ true → needs s e k p ≡ false
  unused s root k p h = absurd (clash h)
  unused s row_index k p h = refl
  unused s (literal d v) k p h = refl
  unused s (unary u e) k p h = unused s e (asked u (struct_fields (infer s e)) k) p h
  unused s (binary b x y) k p h =
      neither (needs s x whole p) (needs s y whole p) (unused s x whole p (none_first (uses s x whole) (uses s y whole) h)) (unused s y whole p (none_second (uses s x whole) (uses s y whole) h))
  unused s (pack ps n) k p h = all_unused s ps p h

  all_unused : (s : DataType) (ps : Parts) (p : Path) → has_none (uses_all s ps) ≡ true → any_needs s ps p ≡ false
  all_unused s no_parts p h = refl
  all_unused s (part n e ps) p h =
      neither (needs s e whole p) (any_needs s ps p) (unused s e whole p (none_first (uses s e whole) (uses_all s ps) h)) (all_unused s ps p (none_second (uses s e whole) (uses_all s ps) h))

-- over a struct, nothing is needed beside what is used
pub named_is : (fs : Fields) (n : Nullability) (e : Expr) (p : Path) → needed (struct_type fs n) e p ≡ needs (struct_type fs n) e whole p
named_is fs n e p = go (has_none (uses (struct_type fs n) e whole)) (unused (struct_type fs n) e whole p)
  where
    go : (b : Bool) → (b ≡ true → needs (struct_type fs n) e whole p ≡ false) → cond b false (needs (struct_type fs n) e whole p) ≡ needs (struct_type fs n) e whole p
    go true f = sym (f refl)
    go false f = refl

pub used_is : (t : DataType) (e : Expr) (p : Path) → has_none (uses t e whole) ≡ false → needed t e p ≡ needs t e whole p
used_is t e p h = ap (λ b. cond b (list_validity t p) (needs t e whole p)) h

-- ---- stepped in
abbrev pub is_used : Use → Bool
is_used no_use = false
is_used (one i) = true
is_used many = true

both_used : (u w : Use) → is_used (both u w) ≡ true → (is_used u ≡ true) ⊎ (is_used w ≡ true)
both_used no_use w h = inr h
both_used (one i) w h = inl refl
both_used many w h = inl refl

mutual
  pub stepped_uses : (t : DataType) (e : Expr) (k : Demand) → is_used (use_of e) ≡ true → has_none (uses t (step_into e) k) ≡ false
  stepped_uses t root k h = absurd (clash h)
  stepped_uses t row_index k h = absurd (clash h)
  stepped_uses t (literal d v) k h = absurd (clash h)
  stepped_uses t (unary u e) k h = go (item_of u e) h (λ k. stepped_uses t e k)
    where
      go : (o : Option Item) → is_used (or_use o (use_of e)) ≡ true → ((k : Demand) → is_used (use_of e) ≡ true → has_none (uses t (step_into e) k) ≡ false) → has_none (uses t (or_root o (unary u (step_into e))) k) ≡ false
      go None h f = f (asked u (struct_fields (infer t (step_into e))) k) h
      go (Some i) h f = refl
  stepped_uses t (binary b x y) k h = two (both_used (use_of x) (use_of y) h) (stepped_uses t x whole) (stepped_uses t y whole)
    where
      two : (is_used (use_of x) ≡ true) ⊎ (is_used (use_of y) ≡ true) → (is_used (use_of x) ≡ true → has_none (uses t (step_into x) whole) ≡ false) → (is_used (use_of y) ≡ true → has_none (uses t (step_into y) whole) ≡ false)
          → has_none (uses t (step_into x) whole ++ uses t (step_into y) whole) ≡ false
      two (inl a) f g = some_first (uses t (step_into x) whole) (uses t (step_into y) whole) (f a)
      two (inr a) f g = some_second (uses t (step_into x) whole) (uses t (step_into y) whole) (g a)
  stepped_uses t (pack ps n) k h = all_stepped_uses t ps h

  all_stepped_uses : (t : DataType) (ps : Parts) → is_used (uses_of ps) ≡ true → has_none (uses_all t (step_into_all ps)) ≡ false
  all_stepped_uses t no_parts h = absurd (clash h)
  all_stepped_uses t (part n e ps) h = two (both_used (use_of e) (uses_of ps) h) (stepped_uses t e whole) (all_stepped_uses t ps)
    where
      two : (is_used (use_of e) ≡ true) ⊎ (is_used (uses_of ps) ≡ true) → (is_used (use_of e) ≡ true → has_none (uses t (step_into e) whole) ≡ false) → (is_used (uses_of ps) ≡ true → has_none (uses_all t (step_into_all ps)) ≡ false)
          → has_none (uses t (step_into e) whole ++ uses_all t (step_into_all ps)) ≡ false
      two (inl a) f g = some_first (uses t (step_into e) whole) (uses_all t (step_into_all ps)) (f a)
      two (inr a) f g = some_second (uses t (step_into e) whole) (uses_all t (step_into_all ps)) (g a)

-- ---- as it stands
mutual
  pub own_uses : (t : DataType) (e : Expr) (k : Demand) → is_used (use_of e) ≡ true → has_none (uses t e k) ≡ false
  own_uses t root k h = refl
  own_uses t row_index k h = absurd (clash h)
  own_uses t (literal d v) k h = absurd (clash h)
  own_uses t (unary u e) k h = go (is_root e) (is_root-sound e) h (own_uses t e (asked u (struct_fields (infer t e)) k))
    where
      go : (b : Bool) → (b ≡ true → e ≡ root) → is_used (or_use (cond b (root_item u) None) (use_of e)) ≡ true → (is_used (use_of e) ≡ true → has_none (uses t (unary u e) k) ≡ false) → has_none (uses t (unary u e) k) ≡ false
      go true r h f = ap (λ x. has_none (uses t (unary u x) k)) (r refl)
      go false r h f = f h
  own_uses t (binary b x y) k h = two (both_used (use_of x) (use_of y) h) (own_uses t x whole) (own_uses t y whole)
    where
      two : (is_used (use_of x) ≡ true) ⊎ (is_used (use_of y) ≡ true) → (is_used (use_of x) ≡ true → has_none (uses t x whole) ≡ false) → (is_used (use_of y) ≡ true → has_none (uses t y whole) ≡ false) → has_none (uses t x whole ++ uses t y whole) ≡ false
      two (inl a) f g = some_first (uses t x whole) (uses t y whole) (f a)
      two (inr a) f g = some_second (uses t x whole) (uses t y whole) (g a)
  own_uses t (pack ps n) k h = all_own_uses t ps h

  all_own_uses : (t : DataType) (ps : Parts) → is_used (uses_of ps) ≡ true → has_none (uses_all t ps) ≡ false
  all_own_uses t no_parts h = absurd (clash h)
  all_own_uses t (part n e ps) h = two (both_used (use_of e) (uses_of ps) h) (own_uses t e whole) (all_own_uses t ps)
    where
      two : (is_used (use_of e) ≡ true) ⊎ (is_used (uses_of ps) ≡ true) → (is_used (use_of e) ≡ true → has_none (uses t e whole) ≡ false) → (is_used (uses_of ps) ≡ true → has_none (uses_all t ps) ≡ false) → has_none (uses t e whole ++ uses_all t ps) ≡ false
      two (inl a) f g = some_first (uses t e whole) (uses_all t ps) (f a)
      two (inr a) f g = some_second (uses t e whole) (uses_all t ps) (g a)
