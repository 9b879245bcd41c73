-- The root of a partition, part by part.
use Rattle.std.proofs.Common.{◌≡◌, ℕ, ◌+◌, ◌<◌, ◌≤◌, zero, suc, None, List, [], ◌∷◌, ◌++◌, length, map, get_or, take, refl, ap, sym, subst, ◌∙◌, arith, add-one}
use Rattle.scan_values.specs.DataType.{DataType, Name, depth_of}
use Rattle.scan_values.specs.declared.ptype.Nullability.{Nullability}
use Rattle.scan_expr.specs.Bound.{Bound, bound_of, exprs_of}
use Rattle.std.specs.List.{All}
use Rattle.std.proofs.lemmas.List.{length-map}
use Rattle.scan_partition.specs.declared.item.Item.{Item}
use Rattle.scan_expr.specs.declared.op.Unary.TheVariants.{GetItem}
use Rattle.scan_expr.specs.Typing.{unary_fault}
use Rattle.scan_partition.specs.Items.{item_name, one, use_of}
use Rattle.scan_partition.proofs.Rewriting.{length_exprs}
use Rattle.scan_expr.specs.Expr.{Expr, root, row_index, literal, unary, binary, pack, part, parts_of, expr_size, parts_size}
use Rattle.scan_expr.specs.Infer.{infer}
use Rattle.scan_partition.specs.Partition.{Group, Leaf, leaf_of}
use Rattle.scan_partition.specs.Planted.{Planted, planted, all_planted, list_planted, parts_planted, unary_planted, binary_planted, pack_planted, leaf_or_planted, first_leaf, AllFit}
use Rattle.scan_partition.specs.Rewrite.{NodesHold, AllNodesHold}
use Rattle.scan_partition.proofs.Loops.{scopes_of}
use Rattle.scan_partition.proofs.CutLists.{map_one_more}

abbrev pub sizes : List Expr → ℕ
sizes [] = 0
sizes (e ∷ es) = expr_size e + sizes es

sizes_parts : (ns : List Name) (es : List Expr) → parts_size (parts_of ns es) ≡ sizes es
sizes_parts ns [] = refl
sizes_parts [] (e ∷ es) = ap (λ n. expr_size e + n) (sizes_parts [] es)
sizes_parts (n ∷ ns) (e ∷ es) = ap (λ n. expr_size e + n) (sizes_parts ns es)

-- the parts of a pack are smaller than it together
pub parts_smaller : (ns : List Name) (bs : List Bound) (n : Nullability) (e : Expr) → pack (parts_of ns (exprs_of bs)) n ≡ e → sizes (exprs_of bs) < expr_size e
parts_smaller ns bs n e h =
    let size : expr_size (pack (parts_of ns (exprs_of bs)) n) ≡ expr_size e = ap expr_size h in
    let same : parts_size (parts_of ns (exprs_of bs)) ≡ sizes (exprs_of bs) = sizes_parts ns (exprs_of bs) in
    omega arith

size_at : (bs : List Bound) (k : ℕ) (x : Bound) → k < length bs → expr_size (get_or bs k x).expr ≤ sizes (exprs_of bs)
size_at [] k x h = absurd (omega arith)
size_at (b ∷ bs) zero x h = omega arith
size_at (b ∷ bs) (suc k) x h = omega (arith, size_at bs k x (omega arith))

pub one_no_larger : (bs : List Bound) (k : ℕ) (x : Bound) → k < length bs → x ≡ get_or bs k x → expr_size x.expr ≤ sizes (exprs_of bs)
one_no_larger bs k x h e = subst (λ (y : Bound). expr_size y.expr ≤ sizes (exprs_of bs)) (sym e) (size_at bs k x h)

module _ (gs : List Group) where
  planted_suc : (ls : List Leaf) (bs : List Bound) (k : ℕ) (x : Bound) → k < length bs → x ≡ get_or bs k x
      → ((list_planted gs ls (exprs_of (take (suc k) bs))).0 ≡ (list_planted gs ls (exprs_of (take k bs))).0 ++ (planted gs (list_planted gs ls (exprs_of (take k bs))).1 x.expr).0 ∷ [])
      × ((list_planted gs ls (exprs_of (take (suc k) bs))).1 ≡ (planted gs (list_planted gs ls (exprs_of (take k bs))).1 x.expr).1)
  planted_suc ls [] k x h e = absurd (omega arith)
  planted_suc ls (b ∷ bs) zero x h e = (ap (λ (y : Bound). (planted gs ls y.expr).0 ∷ []) (sym e), ap (λ (y : Bound). (planted gs ls y.expr).1) (sym e))
  planted_suc ls (b ∷ bs) (suc k) x h e = let r = planted_suc (planted gs ls b.expr).1 bs k x (omega arith) e in (ap (λ es. (planted gs ls b.expr).0 ∷ es) r.0, r.1)

  -- one more
  pub made_step : (s : DataType) (ls : List Leaf) (bs made new : List Bound) (k : ℕ) (x p : Bound) → k < length bs → x ≡ get_or bs k x → made ≡ map (bound_of s) (list_planted gs ls (exprs_of (take k bs))).0
      → p ≡ bound_of s (planted gs (list_planted gs ls (exprs_of (take k bs))).1 x.expr).0 → new ≡ made ++ p ∷ [] → new ≡ map (bound_of s) (list_planted gs ls (exprs_of (take (k + 1) bs))).0
  made_step s ls bs made new k x p h e m q n =
      n ∙ (λ i. m i ++ q i ∷ []) ∙ sym (map_one_more (bound_of s) (list_planted gs ls (exprs_of (take k bs))).0 (planted gs (list_planted gs ls (exprs_of (take k bs))).1 x.expr).0) ∙ ap (map (bound_of s)) (sym (planted_suc ls bs k x h e).0)
      ∙ ap (λ j. map (bound_of s) (list_planted gs ls (exprs_of (take j bs))).0) (sym (add-one k))

  pub left_step : (ls : List Leaf) (bs : List Bound) (k : ℕ) (x : Bound) → k < length bs → x ≡ get_or bs k x
      → (planted gs (list_planted gs ls (exprs_of (take k bs))).1 x.expr).1 ≡ (list_planted gs ls (exprs_of (take (k + 1) bs))).1
  left_step ls bs k x h e = sym (planted_suc ls bs k x h e).1 ∙ ap (λ j. (list_planted gs ls (exprs_of (take j bs))).1) (sym (add-one k))

  pub fit_at : (s : DataType) (ls : List Leaf) (bs : List Bound) (k : ℕ) (x : Bound) → k < length bs → x ≡ get_or bs k x → AllFit s (list_planted gs ls (exprs_of bs)).0 → NodesHold s (planted gs (list_planted gs ls (exprs_of (take k bs))).1 x.expr).0
  fit_at s ls [] k x h e f = absurd (omega arith)
  fit_at s ls (b ∷ bs) zero x h e f = subst (λ (y : Bound). NodesHold s (planted gs ls y.expr).0) (sym e) f.0
  fit_at s ls (b ∷ bs) (suc k) x h e f = fit_at s (planted gs ls b.expr).1 bs k x (omega arith) e f.1

  parts_listed : (ls : List Leaf) (ns : List Name) (es : List Expr) → ((all_planted gs ls (parts_of ns es)).0 ≡ parts_of ns (list_planted gs ls es).0) × ((all_planted gs ls (parts_of ns es)).1 ≡ (list_planted gs ls es).1)
  parts_listed ls ns [] = (refl, refl)
  parts_listed ls [] (e ∷ es) = let r = parts_listed (planted gs ls e).1 [] es in (ap (part [] (planted gs ls e).0) r.0, r.1)
  parts_listed ls (n ∷ ns) (e ∷ es) = let r = parts_listed (planted gs ls e).1 ns es in (ap (part n (planted gs ls e).0) r.0, r.1)

  -- a pack by its parts
  pub pack_listed : (ls : List Leaf) (ns : List Name) (bs : List Bound) (n : Nullability) (e : Expr) → pack (parts_of ns (exprs_of bs)) n ≡ e → (parts_planted gs ls e).0 ≡ pack (parts_of ns (list_planted gs ls (exprs_of bs)).0) n
  pack_listed ls ns bs n e h = ap (λ x. (parts_planted gs ls x).0) (sym h) ∙ ap (λ ps. pack ps n) (parts_listed ls ns (exprs_of bs)).0

  pub rest_listed : (ls : List Leaf) (ns : List Name) (bs : List Bound) (n : Nullability) (e : Expr) → pack (parts_of ns (exprs_of bs)) n ≡ e → (list_planted gs ls (exprs_of bs)).1 ≡ (parts_planted gs ls e).1
  rest_listed ls ns bs n e h = sym (parts_listed ls ns (exprs_of bs)).1 ∙ ap (λ x. (parts_planted gs ls x).1) h

  all_fit : (s : DataType) (ns : List Name) (es : List Expr) → AllNodesHold s (parts_of ns es) → AllFit s es
  all_fit s ns [] f = tt
  all_fit s [] (e ∷ es) f = (f.0, all_fit s [] es f.1)
  all_fit s (n ∷ ns) (e ∷ es) f = (f.0, all_fit s ns es f.1)

  pub pack_all_fit : (s : DataType) (ls : List Leaf) (ns : List Name) (bs : List Bound) (n : Nullability) (e : Expr) → pack (parts_of ns (exprs_of bs)) n ≡ e → NodesHold s (parts_planted gs ls e).0 → AllFit s (list_planted gs ls (exprs_of bs)).0
  pack_all_fit s ls ns bs n e h f = all_fit s ns (list_planted gs ls (exprs_of bs)).0 (subst (NodesHold s) (pack_listed ls ns bs n e h) f).1

  pub pack_depth : (s : DataType) (ls : List Leaf) (ns : List Name) (bs : List Bound) (n : Nullability) (e : Expr) → pack (parts_of ns (exprs_of bs)) n ≡ e → NodesHold s (parts_planted gs ls e).0 → depth_of (infer s (pack (parts_of ns (list_planted gs ls (exprs_of bs)).0) n)) ≤ 66
  pack_depth s ls ns bs n e h f = (subst (NodesHold s) (pack_listed ls ns bs n e h) f).0

-- ---- leaves
pub planted_leaf : (gs : List Group) (ls : List Leaf) (e : Expr) (i : Item) → use_of e ≡ one i → planted gs ls e ≡ first_leaf gs ls
planted_leaf gs ls root i h = cc
planted_leaf gs ls row_index i h = cc
planted_leaf gs ls (literal d v) i h = cc
planted_leaf gs ls (unary u e) i h = ap (λ w. leaf_or_planted w gs ls (unary_planted u (planted gs ls e))) h
planted_leaf gs ls (binary b x y) i h = ap (λ w. leaf_or_planted w gs ls (binary_planted b (planted gs ls x) (planted gs (planted gs ls x).1 y))) h
planted_leaf gs ls (pack ps n) i h = ap (λ w. leaf_or_planted w gs ls (pack_planted n (all_planted gs ls ps))) h

-- ---- lists
pub listed_length : (gs : List Group) (ls : List Leaf) (es : List Expr) → length (list_planted gs ls es).0 ≡ length es
listed_length gs ls [] = refl
listed_length gs ls (e ∷ es) = ap suc (listed_length gs (planted gs ls e).1 es)

pub exprs_bound : (s : DataType) (es : List Expr) → exprs_of (map (bound_of s) es) ≡ es
exprs_bound s [] = refl
exprs_bound s (e ∷ es) = ap (λ xs. e ∷ xs) (exprs_bound s es)

pub scopes_bound : (s : DataType) (es : List Expr) → All (λ (b : Bound). b.scope ≡ s) (map (bound_of s) es)
scopes_bound s es = scopes_of s (λ e. e) es

pub made_even : (gs : List Group) (ls : List Leaf) (s : DataType) (bs made : List Bound) (ns ms : List Name) → made ≡ map (bound_of s) (list_planted gs ls (exprs_of bs)).0 → length bs ≡ length ns → ms ≡ ns → length made ≡ length ms
made_even gs ls s bs made ns ms m h e = ap length m ∙ length-map (list_planted gs ls (exprs_of bs)).0 (bound_of s) ∙ listed_length gs ls (exprs_of bs) ∙ length_exprs bs ∙ h ∙ sym (ap length e)

pub made_pack : (gs : List Group) (ls : List Leaf) (s : DataType) (bs made : List Bound) (ns ms : List Name) → made ≡ map (bound_of s) (list_planted gs ls (exprs_of bs)).0 → ms ≡ ns → parts_of ms (exprs_of made) ≡ parts_of ns (list_planted gs ls (exprs_of bs)).0
made_pack gs ls s bs made ns ms m e = (λ i. parts_of (e i) (exprs_of (m i))) ∙ ap (parts_of ns) (exprs_bound s (list_planted gs ls (exprs_of bs)).0)

pub leaf_first : (gs : List Group) (s : DataType) (ls : List Leaf) (e : Expr) (i : Item) → use_of e ≡ one i → NodesHold s (planted gs ls e).0 → NodesHold s (first_leaf gs ls).0
leaf_first gs s ls e i h f = subst (λ (p : Planted). NodesHold s p.0) (planted_leaf gs ls e i h) f

-- where a leaf reads
pub leaf_reads : (s : DataType) (es : List Expr) (i : Item) (k : ℕ) → NodesHold s (leaf_of es i k) → unary_fault (GetItem (item_name i)) s ≡ None
leaf_reads s [] i k h = h.0
leaf_reads s (e ∷ []) i k h = h.0
leaf_reads s (e ∷ f ∷ es) i k h = h.1.0
