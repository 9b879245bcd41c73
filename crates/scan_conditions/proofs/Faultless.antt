-- What is typed has no fault, and is what it is of.
use Rattle.std.proofs.Common.{◌≡◌, None, Some, Ok, true, refl, sym, ap, ◌∙◌}
use Rattle.scan_expr.specs.declared.op.BindFault.TheVariants.{NotBool}
use Rattle.scan_expr.specs.Bound.{Bound, bound_of}
use Rattle.scan_expr.specs.Expr.{Expr}
use Rattle.scan_expr.specs.Infer.{infer}
use Rattle.scan_expr.specs.Typing.{Fault, bind_fault, filter_fault, or_fault, typed, unless}
use Rattle.scan_values.specs.DataType.{DataType}
use Rattle.scan_values.specs.Fits.{is_bool_type}

pub faultless : {A : Type 0} (f : Fault) (x b : A) → Ok b ≡ typed f x → f ≡ None
faultless None x b h = refl
faultless (Some g) x b h = cc

pub is_bound : {A : Type 0} (f : Fault) (x b : A) → Ok b ≡ typed f x → b ≡ x
is_bound None x b h = cc
is_bound (Some g) x b h = absurd cc

pub binds_to_bool : (s : DataType) (e : Expr) (b : Bound) (d : DataType) → Ok b ≡ typed (bind_fault s e) (bound_of s e) → d ≡ infer b.scope b.expr → is_bool_type d ≡ true → filter_fault s (Some e) ≡ None
binds_to_bool s e b d h k t =
    let same = is_bound (bind_fault s e) (bound_of s e) b h in
    let test : is_bool_type (infer s e) ≡ true = ap is_bool_type (ap (λ c. infer c.scope c.expr) (sym same) ∙ sym k) ∙ t in
    ap (λ f. or_fault f (unless (is_bool_type (infer s e)) NotBool)) (faultless (bind_fault s e) (bound_of s e) b h) ∙ ap (λ v. unless v NotBool) test
