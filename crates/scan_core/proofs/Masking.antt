-- The paths of what is used.
use Rattle.std.proofs.Common.{◌≡◌, ℕ, zero, suc, ◌+◌, ◌-◌, ◌<◌, ◌≤◌, Bool, true, false, not, cond, ◌||◌, List, [], ◌∷◌, ◌++◌, length, get_or, take, drop, map, filter, refl, ap, sym, subst, ◌∙◌, arith, drop-cons, if◌then◌else◌, Some, Bor}
use Rattle.std.specs.List.{flat_map, All}
use Rattle.std.proofs.lemmas.List.{append-nil, take_more, map-append, get_or-map}
use Rattle.std.proofs.lemmas.List.Elements.{filter-append, All-tail}
use Rattle.std.proofs.lemmas.Grind.{flat_map-append}
use Rattle.scan_values.specs.DataType.{DataType, Name, Fields, fields_of}
use Rattle.scan_values.specs.declared.ptype.Nullability.{Nullability}
use Rattle.scan_values.specs.FieldLists.{names_of}
use Rattle.scan_values.specs.Kinds.{struct_fields_of}
use Rattle.scan_values.specs.NameFaults.{has_name}
use Rattle.scan_values.specs.Same.{same_names, same_names-equivalence}
use Rattle.scan_expr.specs.declared.op.Unary.{Unary}
use Rattle.scan_expr.specs.declared.op.Unary.TheVariants.{GetItem, Select, Exclude, Not, IsNull, IsNotNull, ListLength}
use Rattle.scan_expr.specs.declared.op.Binary.{Binary}
use Rattle.scan_expr.specs.declared.bound.BoundNode.{BoundNode}
use Rattle.scan_expr.specs.declared.bound.BoundNode.TheVariants.{Root, RowIdx, Literal, Unary as Over, Binary as Joined, Pack}
use Rattle.scan_expr.specs.Bound.{Bound, exprs_of}
use Rattle.scan_expr.specs.BoundNodes.{node_expr}
use Rattle.scan_expr.specs.Expr.{Expr, root, row_index, literal, unary, binary, pack, parts_of, expr_size, parts_size}
use Rattle.scan_expr.specs.Infer.{infer, struct_fields, fields_or_none}
use Rattle.scan_expr.specs.Needs.{Demand, whole, fields, at, asked, uses, uses_all, other_names}
use Rattle.scan_core.specs.FieldMasks.{demand_paths, used_paths, firsts, path_mask, below, onto, lent_names}

-- ---- paths, each once
abbrev pub has_path : List Name → List (List Name) → Bool
has_path p [] = false
has_path p (q ∷ qs) = same_names p q || has_path p qs

-- a path, unless it stood before
abbrev pub unless_there : Bool → List Name → List (List Name)
unless_there true p = []
unless_there false p = p ∷ []

dropped : (r p : List Name) (b c : Bool) → same_names r p ≡ b → filter (λ q. not (same_names r q)) (unless_there c p) ≡ unless_there (b || c) p
dropped r p true true h = refl
dropped r p true false h = rw h refl
dropped r p false true h = refl
dropped r p false false h = rw h refl

pub firsts_more : (ps : List (List Name)) (p : List Name) → firsts (ps ++ p ∷ []) ≡ firsts ps ++ unless_there (has_path p ps) p
firsts_more [] p = refl
firsts_more (r ∷ ps) p =
    let rest : filter (λ q. not (same_names r q)) (firsts (ps ++ p ∷ [])) ≡ filter (λ q. not (same_names r q)) (firsts ps) ++ filter (λ q. not (same_names r q)) (unless_there (has_path p ps) p) =
    ap (λ qs. filter (λ q. not (same_names r q)) qs) (firsts_more ps p) ∙ filter-append (λ q. not (same_names r q)) (firsts ps) (unless_there (has_path p ps) p) in
    let last : filter (λ q. not (same_names r q)) (unless_there (has_path p ps) p) ≡ unless_there (same_names p r || has_path p ps) p = dropped r p (same_names p r) (has_path p ps) (same_names-equivalence.symm r p) in
    ap (λ qs. r ∷ qs) (rest ∙ ap (λ qs. filter (λ q. not (same_names r q)) (firsts ps) ++ qs) last)

pub has_path-more : (ps : List (List Name)) (q p : List Name) → has_path q (ps ++ p ∷ []) ≡ (has_path q ps || same_names q p)
has_path-more [] q p = or_false (same_names q p)
  where
    or_false : (b : Bool) → (b || false) ≡ (false || b)
    or_false true = refl
    or_false false = refl
has_path-more (r ∷ ps) q p = ap (λ b. same_names q r || b) (has_path-more ps q p) ∙ or_assoc (same_names q r) (has_path q ps) (same_names q p)
  where
    or_assoc : (a b c : Bool) → (a || (b || c)) ≡ ((a || b) || c)
    or_assoc true b c = refl
    or_assoc false b c = refl

-- the masks after one more path
pub masks_more : (ps : List (List Name)) (i : ℕ) (p : List Name) (b : Bool) → i < length ps → p ≡ get_or ps i p → b ≡ not (has_path p (take i ps)) → map path_mask (firsts (take i ps)) ++ (if b then path_mask p ∷ [] else []) ≡ map path_mask (firsts (take (i + 1) ps))
masks_more ps i p b l e h =
    let more : take (i + 1) ps ≡ take i ps ++ p ∷ [] = take_more ps i p l ∙ ap (λ z. take i ps ++ z ∷ []) (sym e) in
    let named : firsts (take (i + 1) ps) ≡ firsts (take i ps) ++ unless_there (has_path p (take i ps)) p = ap firsts more ∙ firsts_more (take i ps) p in
    let last : (if b then path_mask p ∷ [] else []) ≡ map path_mask (unless_there (has_path p (take i ps)) p) = new b (has_path p (take i ps)) h in
    ap (λ z. map path_mask (firsts (take i ps)) ++ z) last ∙ sym (map-append path_mask (firsts (take i ps)) (unless_there (has_path p (take i ps)) p)) ∙ ap (map path_mask) (sym named)
  where
    new : (b c : Bool) → b ≡ not c → (if b then path_mask p ∷ [] else []) ≡ map path_mask (unless_there c p)
    new true true h = absurd cc
    new true false h = refl
    new false true h = refl
    new false false h = absurd cc

-- which paths stood before, after one more
pub seen_more : (ps : List (List Name)) (i : ℕ) (p q : List Name) (b : Bool) → i < length ps → p ≡ get_or ps i p → b ≡ has_path q (take i ps) → cond (same_names p q) true b ≡ has_path q (take (i + 1) ps)
seen_more ps i p q b l e h =
    let more : take (i + 1) ps ≡ take i ps ++ p ∷ [] = take_more ps i p l ∙ ap (λ z. take i ps ++ z ∷ []) (sym e) in
    let all : has_path q (take (i + 1) ps) ≡ (has_path q (take i ps) || same_names q p) = ap (has_path q) more ∙ has_path-more (take i ps) q p in
    cond_or (same_names p q) b ∙ ap (λ z. z || same_names p q) h ∙ ap (λ z. has_path q (take i ps) || z) (same_names-equivalence.symm p q) ∙ sym all
  where
    cond_or : (a b : Bool) → cond a true b ≡ (b || a)
    cond_or true true = refl
    cond_or true false = refl
    cond_or false true = refl
    cond_or false false = refl

-- ---- the path of a field
onto_last : (ns : List Name) (n : Name) (p : List Name) → onto (ns ++ n ∷ []) p ≡ n ∷ onto ns p
onto_last [] n p = refl
onto_last (m ∷ ns) n p = onto_last ns n (m ∷ p)

pub onto_step : (ns more : List Name) (n : Name) (k : ℕ) (p : List Name) → take (k + 1) ns ≡ take k ns ++ n ∷ [] → onto (take (k + 1) ns) p ≡ n ∷ onto (take k ns) p
onto_step ns more n k p h = ap (λ z. onto z p) h ∙ onto_last (take k ns) n p

pub below_paths : (ns : List Name) (k : Demand) → demand_paths (below ns k) ≡ map (onto ns) (demand_paths k)
below_paths [] k = same (demand_paths k)
  where
    same : (ps : List (List Name)) → ps ≡ map (onto []) ps
    same [] = refl
    same (p ∷ ps) = ap (λ qs. p ∷ qs) (same ps)
below_paths (n ∷ ns) k = below_paths ns (at n k) ∙ joined (demand_paths k)
  where
    joined : (ps : List (List Name)) → map (onto ns) (map (λ p. n ∷ p) ps) ≡ map (onto (n ∷ ns)) ps
    joined [] = refl
    joined (p ∷ ps) = ap (λ qs. onto ns (n ∷ p) ∷ qs) (joined ps)

pub below_fields : (ns es : List Name) → demand_paths (below ns (fields es)) ≡ map (λ e. onto ns (e ∷ [])) es
below_fields ns es = below_paths ns (fields es) ∙ joined es
  where
    joined : (es : List Name) → map (onto ns) (map (λ n. n ∷ []) es) ≡ map (λ e. onto ns (e ∷ [])) es
    joined [] = refl
    joined (e ∷ es) = ap (λ qs. onto ns (e ∷ []) ∷ qs) (joined es)

pub other_names_are : (ns : List Name) (fs : List (Name × DataType)) → other_names ns (fields_of fs) ≡ filter (λ n. not (has_name n ns)) (names_of fs)
other_names_are ns [] = refl
other_names_are ns (f ∷ fs) = go (has_name f.0 ns) (other_names_are ns fs)
  where
    go : (b : Bool) → other_names ns (fields_of fs) ≡ filter (λ n. not (has_name n ns)) (names_of fs)
        → cond b (other_names ns (fields_of fs)) (f.0 ∷ other_names ns (fields_of fs)) ≡ cond (not b) (f.0 ∷ filter (λ n. not (has_name n ns)) (names_of fs)) (filter (λ n. not (has_name n ns)) (names_of fs))
    go true h = h
    go false h = ap (λ z. f.0 ∷ z) h

dropped_all : {A : Type 0} (xs : List A) (k : ℕ) → length xs ≤ k → drop k xs ≡ []
dropped_all [] zero l = refl
dropped_all [] (suc k) l = refl
dropped_all (x ∷ xs) zero l = absurd (omega arith)
dropped_all (x ∷ xs) (suc k) l = dropped_all xs k (omega arith)

pub others_done : (ns : List Name) (fs : List (Name × DataType)) (d : DataType) (made items : List Name) (k : ℕ) → Some (fields_of fs) ≡ struct_fields_of d → items ≡ names_of fs
    → length items ≤ k → made ++ filter (λ n. not (has_name n ns)) (drop k items) ≡ filter (λ n. not (has_name n ns)) items → made ≡ other_names ns (struct_fields d)
others_done ns fs d made items k f i l h =
    let none : filter (λ n. not (has_name n ns)) (drop k items) ≡ [] = ap (λ z. filter (λ n. not (has_name n ns)) z) (dropped_all items k l) in
    let all : made ≡ filter (λ n. not (has_name n ns)) items = sym (append-nil made) ∙ ap (λ z. made ++ z) (sym none) ∙ h in
    let named : filter (λ n. not (has_name n ns)) items ≡ other_names ns (fields_of fs) = ap (λ z. filter (λ n. not (has_name n ns)) z) i ∙ sym (other_names_are ns fs) in
    let whose : other_names ns (fields_of fs) ≡ other_names ns (struct_fields d) = ap (λ o. other_names ns (fields_or_none o)) f in
    all ∙ named ∙ whose

-- a step of the walk back over names
pub path_step : (ns made e : List Name) (k : ℕ) (n : Name) → k < length ns → n ≡ get_or ns k n → (made ++ n ∷ []) ++ onto (take k ns) e ≡ made ++ onto (take (k + 1) ns) e
path_step ns made e k n l h =
    let more : take (k + 1) ns ≡ take k ns ++ n ∷ [] = take_more ns k n l ∙ ap (λ z. take k ns ++ z ∷ []) (sym h) in
    let last : onto (take (k + 1) ns) e ≡ n ∷ onto (take k ns) e = onto_step ns [] n k e more in
    rw last (one made)
  where
    one : (xs : List Name) → (xs ++ n ∷ []) ++ onto (take k ns) e ≡ xs ++ n ∷ onto (take k ns) e
    one [] = refl
    one (x ∷ xs) = ap (λ z. x ∷ z) (one xs)

length_lent : (names : List (Bor Name)) → length names ≡ length (lent_names names)
length_lent [] = refl
length_lent (n ∷ ns) = ap suc (length_lent ns)

pub path_back : (names : List (Bor Name)) (made new e : List Name) (left : ℕ) (r : Bor Name) (n : Name) → 0 < left → left ≤ length names → r ≡ get_or names (left - 1) r → n ≡ r.now → new ≡ made ++ n ∷ []
    → ((f : List Name) → made ++ onto (take left (lent_names names)) f ≡ onto (lent_names names) f) → new ++ onto (take (left - 1) (lent_names names)) e ≡ onto (lent_names names) e
path_back names made new e left r n p l is name more h =
    let ns : List Name = lent_names names in
    let here : left - 1 < length names = omega (arith, p, l) in
    let there : left - 1 < length ns = subst (λ k. left - 1 < k) (length_lent names) here in
    let named : n ≡ get_or ns (left - 1) n = name ∙ ap (λ (x : Bor Name). x.now) is ∙ sym (get_or-map (λ (x : Bor Name). x.now) names (left - 1) r n here) in
    let step : (made ++ n ∷ []) ++ onto (take (left - 1) ns) e ≡ made ++ onto (take (left - 1 + 1) ns) e = path_step ns made e (left - 1) n there named in
    let back : left - 1 + 1 ≡ left = omega (arith, p) in
    ap (λ z. z ++ onto (take (left - 1) ns) e) more ∙ step ∙ ap (λ k. made ++ onto (take k ns) e) back ∙ h e

pub paths_done : (ns es : List Name) (old new : List (List Name)) (k : ℕ) → length es ≤ k → new ++ map (λ e. onto ns (e ∷ [])) (drop k es) ≡ old ++ map (λ e. onto ns (e ∷ [])) es → new ≡ old ++ demand_paths (below ns (fields es))
paths_done ns es old new k l h =
    let none : map (λ e. onto ns (e ∷ [])) (drop k es) ≡ [] = ap (λ z. map (λ e. onto ns (e ∷ [])) z) (dropped_all es k l) in
    sym (append-nil new) ∙ ap (λ z. new ++ z) (sym none) ∙ h ∙ ap (λ z. old ++ z) (sym (below_fields ns es))

pub path_one : (ns : List Name) (old new : List (List Name)) (p : List Name) → new ≡ old ++ p ∷ [] → p ≡ onto ns [] → new ≡ old ++ demand_paths (below ns whole)
path_one ns old new p h e = h ∙ ap (λ z. old ++ z ∷ []) e ∙ ap (λ z. old ++ z) (sym (below_paths ns whole))

-- ---- the walk of an expression
pub unary_uses : (s : DataType) (u : Unary) (b : Bound) (e : Expr) (k n : Demand) → unary u b.expr ≡ e → b.scope ≡ s → n ≡ asked u (struct_fields (infer s b.expr)) k → flat_map demand_paths (uses b.scope b.expr n) ≡ flat_map demand_paths (uses s e k)
unary_uses s u b e k n pe ps pn = rw (← pe, ps, pn) refl

below_last : (ns : List Name) (n : Name) (k : Demand) → below (ns ++ n ∷ []) k ≡ at n (below ns k)
below_last [] n k = refl
below_last (m ∷ ns) n k = below_last ns n (at m k)

lent_last : (ns : List (Bor Name)) (n : Bor Name) → lent_names (ns ++ n ∷ []) ≡ lent_names ns ++ n.now ∷ []
lent_last [] n = refl
lent_last (m ∷ ns) n = ap (λ z. m.now ∷ z) (lent_last ns n)

-- what is used of a field, a name further in
pub item_uses : (s : DataType) (u : Unary) (b : Bound) (e : Expr) (n : Name) (old new : List (Bor Name)) (r : Bor Name) (k : Demand) → unary u b.expr ≡ e → b.scope ≡ s → u ≡ GetItem n → new ≡ old ++ r ∷ [] → r.now ≡ n
    → flat_map demand_paths (uses b.scope b.expr (below (lent_names new) k)) ≡ flat_map demand_paths (uses s e (below (lent_names old) k))
item_uses s u b e n old new r k pe ps pu more name =
    let inner : below (lent_names new) k ≡ at r.now (below (lent_names old) k) = ap (λ z. below (lent_names z) k) more ∙ ap (λ z. below z k) (lent_last old r) ∙ below_last (lent_names old) r.now k in
    let named : at r.now (below (lent_names old) k) ≡ at n (below (lent_names old) k) = ap (λ z. at z (below (lent_names old) k)) name in
    let wanted : at n (below (lent_names old) k) ≡ asked u (struct_fields (infer s b.expr)) (below (lent_names old) k) = ap (λ w. asked w (struct_fields (infer s b.expr)) (below (lent_names old) k)) (sym pu) in
    unary_uses s u b e (below (lent_names old) k) (below (lent_names new) k) pe ps (inner ∙ named ∙ wanted)

-- what is used of some fields
pub fields_uses : (s : DataType) (u : Unary) (b : Bound) (e : Expr) (ns es : List Name) (names : List (Bor Name)) (k : Demand) → unary u b.expr ≡ e → b.scope ≡ s → asked u (struct_fields (infer s b.expr)) k ≡ fields ns → names ≡ [] → es ≡ ns
    → flat_map demand_paths (uses b.scope b.expr (below (lent_names names) (fields es))) ≡ flat_map demand_paths (uses s e k)
fields_uses s u b e ns es names k pe ps pu none chosen =
    let inner : below (lent_names names) (fields es) ≡ fields es = ap (λ z. below (lent_names z) (fields es)) none in
    unary_uses s u b e k (below (lent_names names) (fields es)) pe ps (inner ∙ ap fields chosen ∙ sym pu)

-- demands with the same paths
asked_alike : (u : Unary) (fs : Fields) (k l : Demand) → demand_paths k ≡ demand_paths l → demand_paths (asked u fs k) ≡ demand_paths (asked u fs l)
asked_alike (GetItem n) fs k l h = ap (λ z. map (λ p. n ∷ p) z) h
asked_alike (Select ns) fs k l h = refl
asked_alike (Exclude ns) fs k l h = refl
asked_alike Not fs k l h = refl
asked_alike IsNull fs k l h = refl
asked_alike IsNotNull fs k l h = refl
asked_alike ListLength fs k l h = refl

alike : (s : DataType) (e : Expr) (k l : Demand) → demand_paths k ≡ demand_paths l → flat_map demand_paths (uses s e k) ≡ flat_map demand_paths (uses s e l)
alike s root k l h = ap (λ z. z ++ []) h
alike s row_index k l h = refl
alike s (literal d v) k l h = refl
alike s (unary u e) k l h = alike s e (asked u (struct_fields (infer s e)) k) (asked u (struct_fields (infer s e)) l) (asked_alike u (struct_fields (infer s e)) k l h)
alike s (binary b x y) k l h = refl
alike s (pack ps n) k l h = refl

asks_all : (u : Unary) (fs : Fields) (k : Demand) → ((n : Name) → u ≡ GetItem n → ⊥) → ((ns : List Name) → u ≡ Select ns → ⊥) → ((ns : List Name) → u ≡ Exclude ns → ⊥) → demand_paths whole ≡ demand_paths (asked u fs k)
asks_all (GetItem n) fs k f g h = absurd (f n refl)
asks_all (Select ns) fs k f g h = absurd (g ns refl)
asks_all (Exclude ns) fs k f g h = absurd (h ns refl)
asks_all Not fs k f g h = refl
asks_all IsNull fs k f g h = refl
asks_all IsNotNull fs k f g h = refl
asks_all ListLength fs k f g h = refl

pub test_uses : (s : DataType) (u : Unary) (b : Bound) (e : Expr) (names : List (Bor Name)) (k : Demand) → unary u b.expr ≡ e → b.scope ≡ s → ((n : Name) → u ≡ GetItem n → ⊥) → ((ns : List Name) → u ≡ Select ns → ⊥) → ((ns : List Name) → u ≡ Exclude ns → ⊥) → names ≡ []
    → flat_map demand_paths (uses b.scope b.expr (below (lent_names names) whole)) ≡ flat_map demand_paths (uses s e k)
test_uses s u b e names k pe ps f g h none =
    let inner : below (lent_names names) whole ≡ whole = ap (λ z. below (lent_names z) whole) none in
    let same = alike b.scope b.expr whole (asked u (struct_fields (infer s b.expr)) k) (asks_all u (struct_fields (infer s b.expr)) k f g h) in
    ap (λ z. flat_map demand_paths (uses b.scope b.expr z)) inner ∙ same ∙ unary_uses s u b e k (asked u (struct_fields (infer s b.expr)) k) pe ps refl

pub root_uses : (s : DataType) (e : Expr) (k : Demand) → root ≡ e → demand_paths k ≡ flat_map demand_paths (uses s e k)
root_uses s e k pe = sym (append-nil (demand_paths k)) ∙ ap (λ z. flat_map demand_paths (uses s z k)) pe

-- what is neither `$` nor over parts uses nothing
pub leaf_uses : (node : BoundNode) (s : DataType) (e : Expr) (k : Demand) (old : List (List Name)) → node_expr node ≡ e → (node ≡ Root → ⊥) → ((u : Bor Unary) (b : Bor Bound) → node ≡ Over u b → ⊥) → ((o : Binary) (x y : Bor Bound) → node ≡ Joined o x y → ⊥)
    → ((ns : Bor (List Name)) (bs : Bor (List Bound)) (n : Nullability) → node ≡ Pack ns bs n → ⊥) → old ≡ old ++ flat_map demand_paths (uses s e k)
leaf_uses Root s e k old h f g i j = absurd (f refl)
leaf_uses RowIdx s e k old h f g i j = sym (append-nil old) ∙ ap (λ z. old ++ flat_map demand_paths (uses s z k)) h
leaf_uses (Literal d v) s e k old h f g i j = sym (append-nil old) ∙ ap (λ z. old ++ flat_map demand_paths (uses s z k)) h
leaf_uses (Over u b) s e k old h f g i j = absurd (g u b refl)
leaf_uses (Joined o x y) s e k old h f g i j = absurd (i o x y refl)
leaf_uses (Pack ns bs n) s e k old h f g i j = absurd (j ns bs n refl)

pub binary_uses : (s : DataType) (e : Expr) (k : Demand) (x y : Bound) (old mid : List (List Name)) → flat_map demand_paths (uses s e k) ≡ flat_map demand_paths (uses s x.expr whole ++ uses s y.expr whole)
    → x.scope ≡ s → y.scope ≡ s → mid ≡ old ++ flat_map demand_paths (uses x.scope x.expr whole) → mid ++ flat_map demand_paths (uses y.scope y.expr whole) ≡ old ++ flat_map demand_paths (uses s e k)
binary_uses s e k x y old mid pe sx sy h =
    let both = flat_map-append demand_paths (uses s x.expr whole) (uses s y.expr whole) in
    rw (h, pe, sx, sy, both) (assoc old (flat_map demand_paths (uses s x.expr whole)) (flat_map demand_paths (uses s y.expr whole)))
  where
    assoc : (a b c : List (List Name)) → (a ++ b) ++ c ≡ a ++ (b ++ c)
    assoc [] b c = refl
    assoc (p ∷ a) b c = ap (λ z. p ∷ z) (assoc a b c)

first_uses : (s : DataType) (b : Bound) (bs : List Bound) (rest : List Demand) → b.scope ≡ s → flat_map demand_paths rest ≡ flat_map used_paths bs → flat_map demand_paths (uses s b.expr whole ++ rest) ≡ used_paths b ++ flat_map used_paths bs
first_uses s b bs rest h r =
    let both = flat_map-append demand_paths (uses s b.expr whole) rest in
    both ∙ (λ i. flat_map demand_paths (uses (sym h i) b.expr whole) ++ r i)

pub pack_uses : (s : DataType) (ns : List Name) (bs : List Bound) → All (λ (b : Bound). b.scope ≡ s) bs → flat_map demand_paths (uses_all s (parts_of ns (exprs_of bs))) ≡ flat_map used_paths bs
pack_uses s ns [] all = refl
pack_uses s [] (b ∷ bs) all = first_uses s b bs (uses_all s (parts_of [] (exprs_of bs))) (all 0 b (omega arith)) (pack_uses s [] bs (All-tail (λ (x : Bound). x.scope ≡ s) b bs all))
pack_uses s (n ∷ ns) (b ∷ bs) all = first_uses s b bs (uses_all s (parts_of ns (exprs_of bs))) (all 0 b (omega arith)) (pack_uses s ns bs (All-tail (λ (x : Bound). x.scope ≡ s) b bs all))

-- a part of a pack, and the end of its parts
pub part_uses : (bs : List Bound) (k : ℕ) (b : Bound) (names : List (Bor Name)) (old mid now : List (List Name)) → k < length bs → b ≡ get_or bs k b → names ≡ [] → mid ++ flat_map used_paths (drop k bs) ≡ old ++ flat_map used_paths bs
    → now ≡ mid ++ flat_map demand_paths (uses b.scope b.expr (below (lent_names names) whole)) → now ++ flat_map used_paths (drop (k + 1) bs) ≡ old ++ flat_map used_paths bs
part_uses bs k b names old mid now l is none h more =
    let one : now ≡ mid ++ used_paths b = more ∙ ap (λ z. mid ++ flat_map demand_paths (uses b.scope b.expr (below (lent_names z) whole))) none in
    let next : drop k bs ≡ b ∷ drop (suc k) bs = drop-cons bs k b l ∙ ap (λ z. z ∷ drop (suc k) bs) (sym is) in
    let after : k + 1 ≡ suc k = omega arith in
    ap (λ z. z ++ flat_map used_paths (drop (k + 1) bs)) one ∙ ap (λ j. (mid ++ used_paths b) ++ flat_map used_paths (drop j bs)) after ∙ assoc mid (used_paths b) (flat_map used_paths (drop (suc k) bs)) ∙ ap (λ z. mid ++ flat_map used_paths z) (sym next) ∙ h
  where
    assoc : (a b c : List (List Name)) → (a ++ b) ++ c ≡ a ++ (b ++ c)
    assoc [] b c = refl
    assoc (p ∷ a) b c = ap (λ z. p ∷ z) (assoc a b c)

pub parts_done : (s : DataType) (ns : List Name) (bs : List Bound) (n : Nullability) (e : Expr) (m : ℕ) (k : Demand) (old now : List (List Name))
    → pack (parts_of ns (exprs_of bs)) n ≡ e → All (λ (b : Bound). b.scope ≡ s) bs → length bs ≤ m → now ++ flat_map used_paths (drop m bs) ≡ old ++ flat_map used_paths bs
    → now ≡ old ++ flat_map demand_paths (uses s e k)
parts_done s ns bs n e m k old now pe all l h =
    let none : flat_map used_paths (drop m bs) ≡ [] = ap (flat_map used_paths) (dropped_all bs m l) in
    let whole_pack : flat_map used_paths bs ≡ flat_map demand_paths (uses s e k) = sym (pack_uses s ns bs all) ∙ ap (λ z. flat_map demand_paths (uses s z k)) pe in
    sym (append-nil now) ∙ ap (λ z. now ++ z) (sym none) ∙ h ∙ ap (λ z. old ++ z) whole_pack

part_below : (bs : List Bound) (ns : List Name) (i : ℕ) (b : Bound) → i < length bs → b ≡ get_or bs i b → expr_size b.expr ≤ parts_size (parts_of ns (exprs_of bs))
part_below [] ns i b l h = absurd (omega arith)
part_below (c ∷ bs) [] zero b l h = let same : expr_size b.expr ≡ expr_size c.expr = ap (λ (d : Bound). expr_size d.expr) h in omega arith
part_below (c ∷ bs) (n ∷ ns) zero b l h = let same : expr_size b.expr ≡ expr_size c.expr = ap (λ (d : Bound). expr_size d.expr) h in omega arith
part_below (c ∷ bs) [] (suc i) b l h = let rest : expr_size b.expr ≤ parts_size (parts_of [] (exprs_of bs)) = part_below bs [] i b (omega arith) h in omega arith
part_below (c ∷ bs) (n ∷ ns) (suc i) b l h = let rest : expr_size b.expr ≤ parts_size (parts_of ns (exprs_of bs)) = part_below bs ns i b (omega arith) h in omega arith

pub part_smaller : (ns : List Name) (bs : List Bound) (n : Nullability) (e : Expr) (k : ℕ) (b : Bound) → pack (parts_of ns (exprs_of bs)) n ≡ e → k < length bs → b ≡ get_or bs k b → expr_size b.expr < expr_size e
part_smaller ns bs n e k b h l is =
    let under = part_below bs ns k b l is in
    let size : expr_size (pack (parts_of ns (exprs_of bs)) n) ≡ expr_size e = ap expr_size h in
    omega arith
