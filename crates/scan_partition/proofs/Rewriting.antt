-- An expression written again, part by part.
use Rattle.std.proofs.Common.{◌≡◌, ℕ, ◌<◌, ◌≤◌, zero, suc, List, [], ◌∷◌, length, map, get_or, take, refl, ap, sym, subst, ◌∙◌, arith}
use Rattle.scan_values.specs.DataType.{DataType, Name, depth_of}
use Rattle.scan_values.specs.declared.ptype.Nullability.{Nullability}
use Rattle.scan_expr.specs.Bound.{Bound, bound_of, exprs_of}
use Rattle.scan_expr.specs.Expr.{Expr, pack, part, parts_of, expr_size, parts_size}
use Rattle.scan_expr.specs.Infer.{infer}
use Rattle.scan_partition.specs.Rewrite.{Rules, rewritten, all_rewritten, NodesHold, AllNodesHold}
use Rattle.scan_partition.proofs.Loops.{map_done, exprs_are}

part_size : (ns : List Name) (es : List Expr) (k : ℕ) (x : Expr) → k < length es → expr_size (get_or es k x) ≤ parts_size (parts_of ns es)
part_size ns [] k x h = absurd (omega arith)
part_size [] (e ∷ es) zero x h = omega arith
part_size [] (e ∷ es) (suc k) x h = omega (arith, part_size [] es k x (omega arith))
part_size (n ∷ ns) (e ∷ es) zero x h = omega arith
part_size (n ∷ ns) (e ∷ es) (suc k) x h = omega (arith, part_size ns es k x (omega arith))

pub get_expr : (bs : List Bound) (k : ℕ) (x : Bound) → get_or (exprs_of bs) k x.expr ≡ (get_or bs k x).expr
get_expr [] k x = refl
get_expr (b ∷ bs) zero x = refl
get_expr (b ∷ bs) (suc k) x = get_expr bs k x

pub length_exprs : (bs : List Bound) → length (exprs_of bs) ≡ length bs
length_exprs [] = refl
length_exprs (b ∷ bs) = ap suc (length_exprs bs)

-- a part of a pack is smaller
pub part_smaller : (ns : List Name) (bs : List Bound) (n : Nullability) (e : Expr) (k : ℕ) (x : Bound) → pack (parts_of ns (exprs_of bs)) n ≡ e → k < length bs → x ≡ get_or bs k x → expr_size x.expr < expr_size e
part_smaller ns bs n e k x h l is =
    let at : expr_size (get_or (exprs_of bs) k x.expr) ≤ parts_size (parts_of ns (exprs_of bs)) = part_size ns (exprs_of bs) k x.expr (subst (λ m. k < m) (sym (length_exprs bs)) l) in
    let same : expr_size x.expr ≡ expr_size (get_or (exprs_of bs) k x.expr) = ap (λ (b : Bound). expr_size b.expr) is ∙ ap expr_size (sym (get_expr bs k x)) in
    let size : expr_size (pack (parts_of ns (exprs_of bs)) n) ≡ expr_size e = ap expr_size h in
    omega arith

parts_rewritten : (r : Rules) (ns : List Name) (es : List Expr) → all_rewritten r (parts_of ns es) ≡ parts_of ns (map (rewritten r) es)
parts_rewritten r ns [] = refl
parts_rewritten r [] (e ∷ es) = ap (part [] (rewritten r e)) (parts_rewritten r [] es)
parts_rewritten r (n ∷ ns) (e ∷ es) = ap (part n (rewritten r e)) (parts_rewritten r ns es)

map_exprs : (r : Rules) (bs : List Bound) → map (λ (b : Bound). rewritten r b.expr) bs ≡ map (rewritten r) (exprs_of bs)
map_exprs r [] = refl
map_exprs r (b ∷ bs) = ap (λ es. rewritten r b.expr ∷ es) (map_exprs r bs)

abbrev pub again : Rules → DataType → Bound → Bound
again r s b = bound_of s (rewritten r b.expr)

-- the parts that were made are those of the whole, written again
pub made_parts : (r : Rules) (s : DataType) (ns ms : List Name) (bs made : List Bound) (k : ℕ) → ms ≡ ns → length bs ≤ k → made ≡ map (again r s) (take k bs) → parts_of ms (exprs_of made) ≡ all_rewritten r (parts_of ns (exprs_of bs))
made_parts r s ns ms bs made k m l e =
    (λ i. parts_of (m i) (exprs_of (map_done (again r s) bs made k l e i))) ∙ ap (parts_of ns) (exprs_are s (λ (b : Bound). rewritten r b.expr) bs ∙ map_exprs r bs) ∙ sym (parts_rewritten r ns (exprs_of bs))

parts_fit : (r : Rules) (s : DataType) (ns : List Name) (es : List Expr) (k : ℕ) (x : Expr) → k < length es → AllNodesHold s (all_rewritten r (parts_of ns es)) → NodesHold s (rewritten r (get_or es k x))
parts_fit r s ns [] k x h f = absurd (omega arith)
parts_fit r s [] (e ∷ es) zero x h f = f.0
parts_fit r s [] (e ∷ es) (suc k) x h f = parts_fit r s [] es k x (omega arith) f.1
parts_fit r s (n ∷ ns) (e ∷ es) zero x h f = f.0
parts_fit r s (n ∷ ns) (e ∷ es) (suc k) x h f = parts_fit r s ns es k x (omega arith) f.1

pub whole_fits : (r : Rules) (s : DataType) (e e' : Expr) → e' ≡ e → NodesHold s (rewritten r e) → NodesHold s (rewritten r e')
whole_fits r s e e' h f = subst (λ x. NodesHold s (rewritten r x)) (sym h) f

pub part_fits : (r : Rules) (s : DataType) (ns : List Name) (bs : List Bound) (n : Nullability) (e : Expr) (k : ℕ) (x : Bound) → pack (parts_of ns (exprs_of bs)) n ≡ e → k < length bs → x ≡ get_or bs k x → NodesHold s (rewritten r e) → NodesHold s (rewritten r x.expr)
part_fits r s ns bs n e k x h l is f =
    subst (λ y. NodesHold s (rewritten r y)) (get_expr bs k x ∙ ap (λ (b : Bound). b.expr) (sym is))
    (parts_fit r s ns (exprs_of bs) k x.expr (subst (λ m. k < m) (sym (length_exprs bs)) l) (whole_fits r s e (pack (parts_of ns (exprs_of bs)) n) h f).1)

pub pack_fits : (r : Rules) (s : DataType) (ns : List Name) (es : List Expr) (n : Nullability) (e : Expr) → pack (parts_of ns es) n ≡ e → NodesHold s (rewritten r e) → depth_of (infer s (pack (all_rewritten r (parts_of ns es)) n)) ≤ 66
pack_fits r s ns es n e h f = (whole_fits r s e (pack (parts_of ns es) n) h f).0
