-- Lists of parts that are bound, up to a fault.
use Rattle.std.proofs.Common.{◌≡◌, ℕ, ◌+◌, ◌<◌, ◌≤◌, suc, max, List, [], ◌∷◌, length, get_or, take, drop, map, zip, Option, Some, None, Result, Ok, Err, refl, sym, ap, ◌∙◌, add-one, arith}
use Rattle.std.proofs.Math.ListN.{drop_of_length-le}
use Rattle.std.proofs.Math.Seq.{drop-cons}
use Rattle.std.proofs.lemmas.Grind.{common_steps}
use Rattle.std.specs.List.{All, AllByRecursion}
use Rattle.std.proofs.lemmas.List.Elements.{recursion_from_All, All-from_recursion}
use Rattle.scan_values.specs.DataType.{DataType, struct_type, Name, Fields, fields_of}
use Rattle.scan_values.specs.NameFaults.{field_names, names_fault}
use Rattle.scan_values.specs.declared.ptype.Nullability.{Nullability}
use Rattle.scan_values.specs.declared.text.NameFault.{NameFault}
use Rattle.scan_expr.specs.declared.op.BindFault.{BindFault}
use Rattle.scan_expr.specs.declared.op.Unary.{Unary}
use Rattle.scan_expr.specs.declared.op.Binary.{Binary}
use Rattle.scan_expr.specs.Expr.{Expr, unary, binary, pack, parts_of, expr_depth, parts_depth}
use Rattle.scan_expr.specs.Infer.{infer, infer_all, binary_type}
use Rattle.scan_expr.specs.Typing.{Fault, or_fault, typed, nodes_fault, parts_fault, unary_fault, binary_fault, pack_fault, of_names, depth_fault}
use Rattle.scan_expr.specs.Bound.{Bound, bound_of, bound_unless, exprs_of}
use Rattle.scan_expr.proofs.Faultless.{neither}

-- ---- what is bound is the expression over the scope, and nothing is wrong with it
abbrev scope_in : Result Bound BindFault → DataType → DataType
scope_in (Ok b) d = b.scope
scope_in (Err f) d = d

abbrev expr_in : Result Bound BindFault → Expr → Expr
expr_in (Ok b) e = b.expr
expr_in (Err f) e = e

pub record IsBoundOf (f : Fault) (s : DataType) (e : Expr) (b : Bound) : Type 0 where
  pub faultless : f ≡ None
  pub scope : b.scope ≡ s
  pub expr : b.expr ≡ e

pub is_bound : (f : Fault) (s : DataType) (e : Expr) (b : Bound) → Ok b ≡ bound_unless f s e → IsBoundOf f s e b
is_bound None s e b h = record { faultless = refl; scope = ap (λ r. scope_in r s) h; expr = ap (λ r. expr_in r e) h }
is_bound (Some g) s e b h = cc

pub is_fault : (f : Fault) (s : DataType) (e : Expr) (g : BindFault) → Err g ≡ bound_unless f s e → f ≡ Some g
is_fault None s e g h = cc
is_fault (Some k) s e g h = cc

-- ---- parts
abbrev pub first_fault : DataType → List Expr → Fault
first_fault s [] = None
first_fault s (e ∷ es) = or_fault (nodes_fault s e) (first_fault s es)

pub parts-first : (s : DataType) (ns : List Name) (es : List Expr) → parts_fault s (parts_of ns es) ≡ first_fault s es
parts-first s ns [] = refl
parts-first s [] (e ∷ es) = ap (or_fault (nodes_fault s e)) (parts-first s [] es)
parts-first s (n ∷ ns) (e ∷ es) = ap (or_fault (nodes_fault s e)) (parts-first s ns es)

-- the first i parts are bound
pub record AreBound (s : DataType) (es : List Expr) (i : ℕ) (bs : List Bound) : Type 0 where
  pub done : bs ≡ map (bound_of s) (take i es)
  pub rest : first_fault s es ≡ first_fault s (drop i es)

pub bind_stop : (s : DataType) (es : List Expr) (i : ℕ) (e : Expr) (g : BindFault) (bs : List Bound) → i < length es → e ≡ get_or es i e → Err g ≡ bound_unless (nodes_fault s e) s e → AreBound s es i bs
    → first_fault s es ≡ Some g
bind_stop s es i e g bs h at err a = a.rest ∙ rw (drop-cons es i e, ← at, is_fault (nodes_fault s e) s e g err) refl

take_all : (es : List Expr) (i : ℕ) → length es ≤ i → take i es ≡ es
take_all es i h = grind (arith, common_steps)

exprs-bound : (s : DataType) (es : List Expr) → exprs_of (map (bound_of s) es) ≡ es
exprs-bound s [] = refl
exprs-bound s (e ∷ es) = ap (λ xs. e ∷ xs) (exprs-bound s es)

scopes-bound : (s : DataType) (es : List Expr) → AllByRecursion (λ b. b.scope ≡ s) (map (bound_of s) es)
scopes-bound s [] = tt
scopes-bound s (e ∷ es) = (refl, scopes-bound s es)

pub record AllBound (s : DataType) (es : List Expr) (bs : List Bound) : Type 0 where
  pub exprs : exprs_of bs ≡ es
  pub scopes : All (λ b. b.scope ≡ s) bs
  pub faultless : first_fault s es ≡ None

pub bind_done : (s : DataType) (es : List Expr) (i : ℕ) (bs : List Bound) → length es ≤ i → AreBound s es i bs → AllBound s es bs
bind_done s es i bs h a =
    let all : bs ≡ map (bound_of s) es = a.done ∙ ap (map (bound_of s)) (take_all es i h) in
    record {
      exprs = rw all (exprs-bound s es);
      scopes = rw all (All-from_recursion (λ (b : Bound). b.scope ≡ s) (map (bound_of s) es) (scopes-bound s es));
      faultless = a.rest ∙ rw (drop_of_length-le es h) refl;
    }

pub length-exprs_of : (bs : List Bound) → length (exprs_of bs) ≡ length bs
length-exprs_of [] = refl
length-exprs_of (b ∷ bs) = ap suc (length-exprs_of bs)

-- ---- the fields of a struct of parts
abbrev pub inferred : Bound → DataType
inferred b = infer b.scope b.expr

fields-rec : (s : DataType) (ns : List Name) (bs : List Bound) → length bs ≡ length ns → AllByRecursion (λ b. b.scope ≡ s) bs → fields_of (zip ns (map inferred bs)) ≡ infer_all s (parts_of ns (exprs_of bs))
fields-rec s [] [] l h = refl
fields-rec s [] (b ∷ bs) l h = absurd (omega arith)
fields-rec s (n ∷ ns) [] l h = refl
fields-rec s (n ∷ ns) (b ∷ bs) l h = rw (h.0, fields-rec s ns bs (omega arith) h.1) refl

pub fields-zip : (s : DataType) (ns : List Name) (bs : List Bound) → length bs ≡ length ns → All (λ b. b.scope ≡ s) bs → fields_of (zip ns (map inferred bs)) ≡ infer_all s (parts_of ns (exprs_of bs))
fields-zip s ns bs l h = fields-rec s ns bs l (recursion_from_All (λ (b : Bound). b.scope ≡ s) bs h)

pub names-parts : (s : DataType) (ns : List Name) (es : List Expr) → length es ≡ length ns → field_names (infer_all s (parts_of ns es)) ≡ ns
names-parts s [] [] l = refl
names-parts s [] (e ∷ es) l = absurd (omega arith)
names-parts s (n ∷ ns) [] l = absurd (omega arith)
names-parts s (n ∷ ns) (e ∷ es) l = ap (λ xs. n ∷ xs) (names-parts s ns es (omega arith))

-- ---- depths
abbrev pub deepest : List Expr → ℕ
deepest [] = 0
deepest (e ∷ es) = max (expr_depth e) (deepest es)

pub parts-deepest : (ns : List Name) (es : List Expr) → parts_depth (parts_of ns es) ≡ deepest es
parts-deepest ns [] = refl
parts-deepest [] (e ∷ es) = ap (max (expr_depth e)) (parts-deepest [] es)
parts-deepest (n ∷ ns) (e ∷ es) = ap (max (expr_depth e)) (parts-deepest ns es)

pub deepest-drop : (es : List Expr) (i : ℕ) (e : Expr) → i < length es → e ≡ get_or es i e → deepest (drop i es) ≡ max (expr_depth e) (deepest (drop (i + 1) es))
deepest-drop es i e h at = rw (add-one, drop-cons es i e, ← at) refl

-- ---- the nodes, whose parts are bound
pub unary_bound : (s : DataType) (e : Expr) (u : Unary) (b : Bound) → IsBoundOf (nodes_fault s e) s e b
    → bound_unless (or_fault (unary_fault u (infer b.scope b.expr)) (depth_fault (infer b.scope (unary u b.expr)))) b.scope (unary u b.expr) ≡ bound_unless (nodes_fault s (unary u e)) s (unary u e)
unary_bound s e u b k = rw (k.scope, k.expr, k.faultless) refl

pub binary_bound : (s : DataType) (x y : Expr) (o : Binary) (a b : Bound) → IsBoundOf (nodes_fault s x) s x a → IsBoundOf (nodes_fault s y) s y b
    → bound_unless (or_fault (binary_fault o (infer a.scope a.expr) (infer a.scope b.expr)) (depth_fault (infer a.scope (binary o a.expr b.expr)))) a.scope (binary o a.expr b.expr) ≡ bound_unless (nodes_fault s (binary o x y)) s (binary o x y)
binary_bound s x y o a b k l = rw (k.scope, k.expr, l.expr, k.faultless, l.faultless) refl

pub pack_bound : (s : DataType) (ns : List Name) (es : List Expr) (bs : List Bound) (n : Nullability) → AllBound s es bs
    → bound_unless (or_fault (pack_fault (infer_all s (parts_of ns (exprs_of bs)))) (depth_fault (infer s (pack (parts_of ns (exprs_of bs)) n)))) s (pack (parts_of ns (exprs_of bs)) n)
    ≡ bound_unless (nodes_fault s (pack (parts_of ns es) n)) s (pack (parts_of ns es) n)
pack_bound s ns es bs n a = rw (a.exprs, parts-first s ns es, a.faultless) refl

pub pack_stopped : (s : DataType) (ns : List Name) (es : List Expr) (n : Nullability) (g : BindFault) → first_fault s es ≡ Some g → Err g ≡ bound_unless (nodes_fault s (pack (parts_of ns es) n)) s (pack (parts_of ns es) n)
pack_stopped s ns es n g h = rw (parts-first s ns es, h) refl

pub pack_named : (s : DataType) (ns : List Name) (bs : List Bound) (o : Option NameFault) → length bs ≡ length ns → o ≡ names_fault [] ns → pack_fault (infer_all s (parts_of ns (exprs_of bs))) ≡ of_names o
pack_named s ns bs o h e = rw (names-parts s ns (exprs_of bs) (omega (arith, length-exprs_of bs)), ← e) refl

as_fault : {A B : Type 0} (g : Fault) (x : A) (y : B) (f : BindFault) → Err f ≡ typed g x → Err f ≡ typed g y
as_fault None x y f h = cc
as_fault (Some e) x y f h = let same : f ≡ e = cc in ap Err same

no_fault_of : {A : Type 0} (g : Fault) (x y : A) → Ok y ≡ typed g x → g ≡ None
no_fault_of None x y h = refl
no_fault_of (Some e) x y h = cc

pub deep_pack : (fs gs : Fields) (n : Nullability) (f : BindFault) (s : DataType) (e : Expr) → fs ≡ gs → Err f ≡ typed (depth_fault (struct_type fs n)) (struct_type fs n)
    → Err f ≡ bound_unless (or_fault None (depth_fault (struct_type gs n))) s e
deep_pack fs gs n f s e same h = rw (← same) (as_fault (depth_fault (struct_type fs n)) (struct_type fs n) (bound_of s e) f h)

pub shallow_pack : (fs gs : Fields) (n : Nullability) (d : DataType) → fs ≡ gs → Ok d ≡ typed (depth_fault (struct_type fs n)) (struct_type fs n) → depth_fault (struct_type gs n) ≡ None
shallow_pack fs gs n d same h = rw (← same) (no_fault_of (depth_fault (struct_type fs n)) (struct_type fs n) d h)

typed_is : {A : Type 0} (g : Fault) (x y : A) → Ok y ≡ typed g x → (g ≡ None) × (y ≡ x)
typed_is None x y h = (refl, (cc))
typed_is (Some e) x y h = cc

pub binary_done : (s : DataType) (o : Binary) (x y : Expr) (t u : DataType) (b : Bound) → Ok t ≡ typed (binary_fault o (infer s x) (infer s y)) (binary_type o (infer s x) (infer s y)) → Ok u ≡ typed (depth_fault t) t → b ≡ bound_of s (binary o x y)
    → Ok b ≡ bound_unless (or_fault (binary_fault o (infer s x) (infer s y)) (depth_fault (infer s (binary o x y)))) s (binary o x y)
binary_done s o x y t u b p q r =
    let k = typed_is (binary_fault o (infer s x) (infer s y)) (binary_type o (infer s x) (infer s y)) t p in
    let depth : depth_fault (infer s (binary o x y)) ≡ None = ap depth_fault (sym k.1) ∙ no_fault_of (depth_fault t) t u q in
    let none = neither (binary_fault o (infer s x) (infer s y)) (depth_fault (infer s (binary o x y))) k.0 depth in
    ap Ok r ∙ sym (ap (λ f. typed f (bound_of s (binary o x y))) none)
