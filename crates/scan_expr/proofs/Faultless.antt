-- A node has no fault where its parts and its own condition have none.
use Rattle.std.proofs.Common.{◌≡◌, None, List, [], ◌∷◌, refl}
use Rattle.std.specs.List.{All, AllByRecursion}
use Rattle.std.proofs.lemmas.List.Elements.{recursion_from_All}
use Rattle.scan_values.specs.DataType.{DataType, Name}
use Rattle.scan_values.specs.declared.ptype.Nullability.{Nullability}
use Rattle.scan_expr.specs.declared.op.Unary.{Unary}
use Rattle.scan_expr.specs.declared.op.Binary.{Binary}
use Rattle.scan_expr.specs.Expr.{Expr, unary, binary, pack, parts_of}
use Rattle.scan_expr.specs.Infer.{infer}
use Rattle.scan_expr.specs.Typing.{Fault, or_fault, unary_fault, binary_fault, typing_fault, parts_typing_fault}
use Rattle.scan_expr.specs.Bound.{Bound, exprs_of}

pub neither : (f g : Fault) → f ≡ None → g ≡ None → or_fault f g ≡ None
neither f g h k = rw h k

pub unary_faultless : (s : DataType) (u : Unary) (e : Expr) → typing_fault s e ≡ None → unary_fault u (infer s e) ≡ None → typing_fault s (unary u e) ≡ None
unary_faultless s u e h k = neither (typing_fault s e) (unary_fault u (infer s e)) h k

pub binary_faultless : (s : DataType) (o : Binary) (x y : Expr) → typing_fault s x ≡ None → typing_fault s y ≡ None → binary_fault o (infer s x) (infer s y) ≡ None → typing_fault s (binary o x y) ≡ None
binary_faultless s o x y h k l =
    neither (typing_fault s x) (or_fault (typing_fault s y) (binary_fault o (infer s x) (infer s y))) h (neither (typing_fault s y) (binary_fault o (infer s x) (infer s y)) k l)

parts_rec : (s : DataType) (ns : List Name) (bs : List Bound) → AllByRecursion (λ b. b.scope ≡ s) bs → AllByRecursion (λ b. typing_fault b.scope b.expr ≡ None) bs → parts_typing_fault s (parts_of ns (exprs_of bs)) ≡ None
parts_rec s ns [] h k = refl
parts_rec s [] (b ∷ bs) h k = neither (typing_fault s b.expr) (parts_typing_fault s (parts_of [] (exprs_of bs))) (rw (← h.0) k.0) (parts_rec s [] bs h.1 k.1)
parts_rec s (n ∷ ns) (b ∷ bs) h k = neither (typing_fault s b.expr) (parts_typing_fault s (parts_of ns (exprs_of bs))) (rw (← h.0) k.0) (parts_rec s ns bs h.1 k.1)

pub pack_faultless : (s : DataType) (ns : List Name) (bs : List Bound) (n : Nullability) → All (λ b. b.scope ≡ s) bs → All (λ b. typing_fault b.scope b.expr ≡ None) bs → typing_fault s (pack (parts_of ns (exprs_of bs)) n) ≡ None
pack_faultless s ns bs n h k = parts_rec s ns bs (recursion_from_All (λ (b : Bound). b.scope ≡ s) bs h) (recursion_from_All (λ (b : Bound). typing_fault b.scope b.expr ≡ None) bs k)
