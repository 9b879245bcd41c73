-- What operands say, through answers that may be refusals.
use Rattle.std.proofs.Common.{◌≡◌, ◌≤◌, ℕ, ℤ, List, Option, Some, Result, Ok, Err, sym, ap, ◌∙◌}
use Rattle.std.specs.Prelude.{IfOk, option_map}
use Rattle.scan_values.specs.DataType.{DataType, int_type}
use Rattle.scan_values.specs.Val.{int_val}
use Rattle.scan_values.specs.declared.ptype.Nullability.TheVariants.{NonNullable}
use Rattle.scan_values.specs.Kinds.{ptype_of}
use Rattle.scan_values.specs.declared.ptype.PType.{PType}
use Rattle.scan_expr.specs.Bound.{Bound, bound_of}
use Rattle.scan_expr.specs.Expr.{Expr, binary, literal}
use Rattle.scan_expr.specs.Infer.{infer}
use Rattle.scan_expr.specs.Typing.{Fault, typed as typed_unless}
use Rattle.scan_conditions.specs.declared.operand.Operand.{Operand}
use Rattle.scan_conditions.specs.declared.operator.Infix.{Infix}
use Rattle.scan_conditions.specs.Reads.{IsRead, said_of}
use Rattle.scan_conditions.specs.Spelling.{Part}
use Rattle.scan_conditions.specs.Written.{Said, binary_of, joined_said, literal_beside, typed, untyped}
use Rattle.scan_conditions.proofs.Faultless.{is_bound}
use Rattle.scan_conditions.proofs.Reading.{looser}

pub looser_read : {E : Type 0} (r : Result (Operand × ℕ) E) (s : DataType) (level high : ℕ) (ps : List Part) (at : ℕ) → level ≤ high
    → IfOk r (λ p. IsRead s high ps at p.1 (said_of p.0)) → IfOk r (λ p. IsRead s level ps at p.1 (said_of p.0))
looser_read (Ok p) s level high ps at h k = looser s level high ps at p.1 (said_of p.0) h k
looser_read (Err e) s level high ps at h k = tt

-- an answer that says x, where x is what is wanted
pub said_as : {E : Type 0} (r : Result Operand E) (z : Option Said) (x : Said) → z ≡ Some x → IfOk r (λ o. said_of o ≡ x) → IfOk r (λ o. z ≡ Some (said_of o))
said_as (Ok o) z x e h = e ∙ ap Some (sym h)
said_as (Err e) z x h k = tt

pub number_behind : (s : DataType) (o : Infix) (x y : Expr) (z : ℤ) → literal_beside s z x ≡ Some y → joined_said s o (typed x) (untyped z) ≡ Some (typed (binary (binary_of o) x y))
number_behind s o x y z h = ap (option_map (λ w. typed (binary (binary_of o) x w))) h

pub number_before : (s : DataType) (o : Infix) (x y : Expr) (z : ℤ) → literal_beside s z y ≡ Some x → joined_said s o (untyped z) (typed y) ≡ Some (typed (binary (binary_of o) x y))
number_before s o x y z h = ap (option_map (λ w. typed (binary (binary_of o) w y))) h

-- the integer type of what was bound
pub ptype_bound : (s : DataType) (e : Expr) (f : Fault) (b : Bound) (d : DataType) (p : PType) → Ok b ≡ typed_unless f (bound_of s e) → d ≡ infer b.scope b.expr → Some p ≡ ptype_of d → ptype_of (infer s e) ≡ Some p
ptype_bound s e f b d p h k n = sym (n ∙ ap ptype_of (k ∙ ap (λ c. infer c.scope c.expr) (is_bound f (bound_of s e) b h)))

-- over rows of any dtype
pub for_rows : {E : Type 0} (r : Result (Operand × ℕ) E) (rows : DataType) (ps : List Part) (at : ℕ) → IfOk r (λ p. (s : DataType) → IsRead s 6 ps at p.1 (said_of p.0)) → IfOk r (λ p. IsRead rows 6 ps at p.1 (said_of p.0))
for_rows (Ok p) rows ps at h = h rows
for_rows (Err e) rows ps at h = tt

pub said_now : {E : Type 0} (r : Result Operand E) (e x : Expr) → e ≡ x → IfOk r (λ o. said_of o ≡ typed e) → IfOk r (λ o. said_of o ≡ typed x)
said_now (Ok o) e x q h = h ∙ ap typed q
said_now (Err f) e x q h = tt

pub literal_made : (s : DataType) (z : ℤ) (e x : Expr) (p : PType) → ptype_of (infer s e) ≡ Some p → x ≡ literal (int_type p NonNullable) (int_val z) → literal_beside s z e ≡ Some x
literal_made s z e x p h k = ap (option_map (λ q. literal (int_type q NonNullable) (int_val z))) h ∙ ap Some (sym k)
