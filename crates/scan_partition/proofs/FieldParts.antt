-- The fields of a struct as the parts of a pack.
use Rattle.std.proofs.Common.{◌≡◌, ℕ, ◌+◌, ◌<◌, zero, suc, Bool, true, false, cond, None, List, [], ◌∷◌, ◌++◌, map, length, get_or, take, refl, ap, sym, subst, ◌∙◌, arith, add-one}
use Rattle.std.proofs.lemmas.List.{append-nil}
use Rattle.scan_values.specs.DataType.{fields_of}
use Rattle.scan_values.specs.FieldLists.{names_of}
use Rattle.scan_values.specs.NameFaults.{field_names, has_name}
use Rattle.scan_values.specs.declared.ptype.Nullability.{Nullability}
use Rattle.scan_values.specs.declared.ptype.Nullability.TheVariants.{NonNullable, Nullable}
use Rattle.scan_expr.specs.Needs.{other_names}
use Rattle.scan_expr.specs.Typing.{unary_fault}
use Rattle.scan_partition.specs.Rewrite.{NodesHold, AllNodesHold}
use Rattle.scan_values.specs.DataType.{DataType, Name}
use Rattle.scan_expr.specs.Bound.{Bound, bound_of, exprs_of}
use Rattle.scan_expr.specs.Expr.{Expr, root, unary, parts_of, part}
use Rattle.scan_expr.specs.declared.op.Unary.TheVariants.{GetItem}
use Rattle.scan_partition.specs.Expand.{items_of, masked, unnamed}
use Rattle.scan_partition.proofs.Loops.{exprs_are}

abbrev pub field_expr : Name → Expr
field_expr n = unary (GetItem n) root

abbrev pub field_bounds : DataType → List Name → List Bound
field_bounds s = map (λ n. bound_of s (field_expr n))

named_parts : (ns : List Name) → parts_of ns (map field_expr ns) ≡ items_of ns
named_parts [] = refl
named_parts (n ∷ ns) = ap (part n (field_expr n)) (named_parts ns)

pub field_parts : (s : DataType) (ns : List Name) → parts_of ns (exprs_of (field_bounds s ns)) ≡ items_of ns
field_parts s ns = ap (parts_of ns) (exprs_are s field_expr ns) ∙ named_parts ns

pub masked_fits : (s : DataType) (n : Nullability) (e : Expr) → NodesHold s (masked n e) → NodesHold s e
masked_fits s NonNullable e h = h
masked_fits s Nullable e h = h.1

-- a field among those that hold
item_at : (s : DataType) (x : Name) (ns : List Name) (k : ℕ) → k < length ns → AllNodesHold s (items_of ns) → unary_fault (GetItem (get_or ns k x)) s ≡ None
item_at s x [] k h f = absurd (omega arith)
item_at s x (n ∷ ns) zero h f = f.0.0
item_at s x (n ∷ ns) (suc k) h f = item_at s x ns k (omega arith) f.1

pub item_holds : (s : DataType) (ns : List Name) (k : ℕ) (x y : Name) → k < length ns → x ≡ get_or ns k x → y ≡ x → AllNodesHold s (items_of ns) → unary_fault (GetItem y) s ≡ None
item_holds s ns k x y h e q f = subst (λ n. unary_fault (GetItem n) s ≡ None) (sym (q ∙ e)) (item_at s x ns k h f)

-- ---- names of fields
pub names_are : (fs : List (Name × DataType)) → field_names (fields_of fs) ≡ names_of fs
names_are [] = refl
names_are (f ∷ fs) = ap (λ ns. f.0 ∷ ns) (names_are fs)

pub unnamed_others : (ns : List Name) (fs : List (Name × DataType)) → other_names ns (fields_of fs) ≡ unnamed ns (names_of fs)
unnamed_others ns [] = refl
unnamed_others ns (f ∷ fs) = λ i. cond (has_name f.0 ns) (unnamed_others ns fs i) (f.0 ∷ unnamed_others ns fs i)

unnamed_suc : (ns ms : List Name) (k : ℕ) (x : Name) → k < length ms → unnamed ns (take (suc k) ms) ≡ unnamed ns (take k ms) ++ cond (has_name (get_or ms k x) ns) [] (get_or ms k x ∷ [])
unnamed_suc ns [] k x h = absurd (omega arith)
unnamed_suc ns (m ∷ ms) zero x h = go (has_name m ns)
  where
    go : (b : Bool) → cond b [] (m ∷ []) ≡ cond b [] (m ∷ [])
    go b = refl
unnamed_suc ns (m ∷ ms) (suc k) x h = go (has_name m ns) (unnamed_suc ns ms k x (omega arith))
  where
    go : (b : Bool) → unnamed ns (take (suc k) ms) ≡ unnamed ns (take k ms) ++ cond (has_name (get_or ms k x) ns) [] (get_or ms k x ∷ [])
        → cond b (unnamed ns (take (suc k) ms)) (m ∷ unnamed ns (take (suc k) ms)) ≡ cond b (unnamed ns (take k ms)) (m ∷ unnamed ns (take k ms)) ++ cond (has_name (get_or ms k x) ns) [] (get_or ms k x ∷ [])
    go true p = p
    go false p = ap (λ xs. m ∷ xs) p

pub unnamed_here : (ns ms : List Name) (k : ℕ) (x : Name) → k < length ms → x ≡ get_or ms k x → has_name x ns ≡ false → unnamed ns (take k ms) ++ x ∷ [] ≡ unnamed ns (take (k + 1) ms)
unnamed_here ns ms k x h e b =
    ap (λ (t : Bool). unnamed ns (take k ms) ++ cond t [] (x ∷ [])) (sym b) ∙ ap (λ y. unnamed ns (take k ms) ++ cond (has_name y ns) [] (y ∷ [])) e ∙ sym (unnamed_suc ns ms k x h) ∙ ap (λ n. unnamed ns (take n ms)) (sym (add-one k))

pub unnamed_past : (ns ms : List Name) (k : ℕ) (x : Name) → k < length ms → x ≡ get_or ms k x → has_name x ns ≡ true → unnamed ns (take k ms) ≡ unnamed ns (take (k + 1) ms)
unnamed_past ns ms k x h e b =
    sym (append-nil (unnamed ns (take k ms))) ∙ ap (λ (t : Bool). unnamed ns (take k ms) ++ cond t [] (x ∷ [])) (sym b) ∙ ap (λ y. unnamed ns (take k ms) ++ cond (has_name y ns) [] (y ∷ [])) e ∙ sym (unnamed_suc ns ms k x h) ∙ ap (λ n. unnamed ns (take n ms)) (sym (add-one k))
