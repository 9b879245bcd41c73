-- The items and the cuts of an expression, part by part.
use Rattle.std.proofs.Common.{◌≡◌, ℕ, ◌+◌, ◌<◌, ◌≤◌, zero, suc, Bool, true, false, cond, List, [], ◌∷◌, ◌++◌, length, get_or, take, refl, ap, sym, ◌∙◌, arith, add-one, append_assoc}
use Rattle.std.proofs.lemmas.List.{append-nil}
use Rattle.scan_values.specs.DataType.{Name}
use Rattle.scan_values.specs.declared.ptype.Nullability.{Nullability}
use Rattle.scan_expr.specs.Bound.{Bound, exprs_of}
use Rattle.scan_expr.specs.Expr.{Expr, root, row_index, literal, unary, binary, pack, parts_of}
use Rattle.scan_partition.specs.declared.item.Item.{Item}
use Rattle.scan_partition.specs.Items.{same_item, Use, no_use, one, many, both, use_of, uses_of}
use Rattle.scan_partition.specs.Partition.{Cut, cut_or, cuts, all_cuts, part_cuts}
use Rattle.scan_partition.proofs.Through.{same_item-sound}
use Rattle.scan_partition.proofs.Loops.{take_whole}

-- from left to right
abbrev pub folded : Use → List Expr → Use
folded u [] = u
folded u (e ∷ es) = folded (both u (use_of e)) es

both_many : (u : Use) → both u many ≡ many
both_many no_use = refl
both_many (one i) = refl
both_many many = refl

both_none : (u : Use) → both u no_use ≡ u
both_none no_use = refl
both_none (one i) = refl
both_none many = refl

both_assoc : (u w x : Use) → both (both u w) x ≡ both u (both w x)
both_assoc no_use w x = refl
both_assoc many w x = refl
both_assoc (one i) no_use x = refl
both_assoc (one i) many x = refl
both_assoc (one i) (one j) no_use = both_none _
both_assoc (one i) (one j) many = both_many _
both_assoc (one i) (one j) (one l) = go (same_item i j) refl (same_item-sound i j) (same_item j l) refl (same_item-sound j l)
  where
    go : (b : Bool) → same_item i j ≡ b → (b ≡ true → i ≡ j) → (c : Bool) → same_item j l ≡ c → (c ≡ true → j ≡ l) → both (cond b (one i) many) (one l) ≡ both (one i) (cond c (one j) many)
    go true d e true f g = ap (λ x. both (one i) (one x)) (sym (g refl))
    go true d e false f g = ap (λ x. cond (same_item x l) (one i) many) (e refl) ∙ ap (λ b. cond b (one i) many) f
    go false d e true f g = sym (ap (λ b. cond b (one i) many) d)
    go false d e false f g = refl

pub folded_from : (u : Use) (es : List Expr) → folded u es ≡ both u (folded no_use es)
folded_from u [] = sym (both_none u)
folded_from u (e ∷ es) = folded_from (both u (use_of e)) es ∙ both_assoc u (use_of e) (folded no_use es) ∙ ap (both u) (sym (folded_from (use_of e) es))

pub uses-parts : (ns : List Name) (es : List Expr) → uses_of (parts_of ns es) ≡ folded no_use es
uses-parts ns [] = refl
uses-parts [] (e ∷ es) = ap (both (use_of e)) (uses-parts [] es) ∙ sym (folded_from (use_of e) es)
uses-parts (n ∷ ns) (e ∷ es) = ap (both (use_of e)) (uses-parts ns es) ∙ sym (folded_from (use_of e) es)

pub folded_step : (u : Use) (xs : List Bound) (k : ℕ) (x : Bound) → k < length xs → x ≡ get_or xs k x → folded u (exprs_of (take (k + 1) xs)) ≡ both (folded u (exprs_of (take k xs))) (use_of x.expr)
folded_step u xs k x l e = rw add-one (go u xs k l e)
  where
    go : (u : Use) (xs : List Bound) (k : ℕ) → k < length xs → x ≡ get_or xs k x → folded u (exprs_of (take (suc k) xs)) ≡ both (folded u (exprs_of (take k xs))) (use_of x.expr)
    go u [] k l e = absurd (omega arith)
    go u (y ∷ ys) zero l e = ap (λ (z : Bound). both u (use_of z.expr)) (sym e)
    go u (y ∷ ys) (suc k) l e = go (both u (use_of y.expr)) ys k (omega arith) e

abbrev pub cuts_list : List Expr → List Cut
cuts_list [] = []
cuts_list (e ∷ es) = cuts e ++ cuts_list es

cuts_suc : (xs : List Bound) (k : ℕ) (x : Bound) → k < length xs → x ≡ get_or xs k x → cuts_list (exprs_of (take (suc k) xs)) ≡ cuts_list (exprs_of (take k xs)) ++ cuts x.expr
cuts_suc [] k x l e = absurd (omega arith)
cuts_suc (y ∷ ys) zero x l e = append-nil (cuts y.expr) ∙ ap (λ (z : Bound). cuts z.expr) (sym e)
cuts_suc (y ∷ ys) (suc k) x l e = ap (λ cs. cuts y.expr ++ cs) (cuts_suc ys k x (omega arith) e) ∙ sym (append_assoc (cuts y.expr) (cuts_list (exprs_of (take k ys))) (cuts x.expr))

pub parts_cuts : (ns : List Name) (es : List Expr) → all_cuts (parts_of ns es) ≡ cuts_list es
parts_cuts ns [] = refl
parts_cuts [] (e ∷ es) = ap (λ cs. cuts e ++ cs) (parts_cuts [] es)
parts_cuts (n ∷ ns) (e ∷ es) = ap (λ cs. cuts e ++ cs) (parts_cuts ns es)

-- ---- a pack
folded_many : (es : List Expr) → folded many es ≡ many
folded_many [] = refl
folded_many (e ∷ es) = folded_many es

pub folded_early : (xs : List Bound) (k : ℕ) → folded no_use (exprs_of (take k xs)) ≡ many → folded no_use (exprs_of xs) ≡ many
folded_early xs k h = go no_use xs k h
  where
    go : (u : Use) (xs : List Bound) (k : ℕ) → folded u (exprs_of (take k xs)) ≡ many → folded u (exprs_of xs) ≡ many
    go u xs zero h = ap (λ w. folded w (exprs_of xs)) h ∙ folded_many (exprs_of xs)
    go u [] (suc k) h = h
    go u (x ∷ xs) (suc k) h = go (both u (use_of x.expr)) xs k h

pub pack_use_early : (ns : List Name) (xs : List Bound) (n : Nullability) (e : Expr) (k : ℕ) → pack (parts_of ns (exprs_of xs)) n ≡ e → folded no_use (exprs_of (take k xs)) ≡ many → many ≡ use_of e
pack_use_early ns xs n e k h m = sym (uses-parts ns (exprs_of xs) ∙ folded_early xs k m) ∙ ap use_of h

pub pack_use : (ns : List Name) (xs : List Bound) (n : Nullability) (e : Expr) (k : ℕ) (u : Use) → pack (parts_of ns (exprs_of xs)) n ≡ e → length xs ≤ k → u ≡ folded no_use (exprs_of (take k xs)) → u ≡ use_of e
pack_use ns xs n e k u h l f = f ∙ ap (λ ys. folded no_use (exprs_of ys)) (take_whole xs k l) ∙ sym (uses-parts ns (exprs_of xs)) ∙ ap use_of h

-- ---- cuts
pub cuts_step : (xs : List Bound) (k : ℕ) (x : Bound) → k < length xs → x ≡ get_or xs k x → cuts_list (exprs_of (take (k + 1) xs)) ≡ cuts_list (exprs_of (take k xs)) ++ cuts x.expr
cuts_step xs k x l e = rw add-one (cuts_suc xs k x l e)

pub pack_cuts : (ns : List Name) (xs : List Bound) (n : Nullability) (e : Expr) (k : ℕ) → pack (parts_of ns (exprs_of xs)) n ≡ e → length xs ≤ k → cuts_list (exprs_of (take k xs)) ≡ part_cuts e
pack_cuts ns xs n e k h l = ap (λ ys. cuts_list (exprs_of ys)) (take_whole xs k l) ∙ sym (parts_cuts ns (exprs_of xs)) ∙ ap part_cuts h

-- one item: the whole is the cut
pub cuts_of_one : (e : Expr) (i : Item) → use_of e ≡ one i → cuts e ≡ (i, e) ∷ []
cuts_of_one root i h = cc
cuts_of_one row_index i h = cc
cuts_of_one (literal d v) i h = cc
cuts_of_one (unary u e) i h = ap (λ w. cut_or w (unary u e) (cuts e)) h
cuts_of_one (binary b x y) i h = ap (λ w. cut_or w (binary b x y) (cuts x ++ cuts y)) h
cuts_of_one (pack ps n) i h = ap (λ w. cut_or w (pack ps n) (all_cuts ps)) h
