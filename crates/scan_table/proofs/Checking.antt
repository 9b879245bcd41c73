-- What the check of a table says, exit by exit.
use Rattle.std.proofs.Common.{◌≡◌, ◌≢◌, ℕ, true, false, Option, None, Some, Result, Ok, Err, refl, sym, ap, ◌∙◌, subst}
use Rattle.std.specs.Prelude.{IfSome}
use Rattle.scan_values.specs.DataType.{DataType}
use Rattle.scan_expr.specs.Expr.{Expr}
use Rattle.scan_expr.specs.Infer.{infer}
use Rattle.scan_expr.specs.Typing.{Fault, bind_fault, filter_fault, or_fault, request_fault, typed, unless as unless_bound}
use Rattle.scan_values.specs.Fits.{is_bool_type}
use Rattle.scan_expr.specs.declared.op.BindFault.{BindFault}
use Rattle.scan_expr.specs.declared.op.BindFault.TheVariants as bind
use Rattle.scan_multi.specs.declared.scan.fault.ScanFault.TheVariants as scan
use Rattle.scan_table.specs.Faults.{of_bind_fault}
use Rattle.scan_table.specs.Request.{IsTableFault, first_plain_fault, first_table_fault, name_fault, of_bind, or_else, read_fault, type_fault}
use Rattle.scan_table.specs.Spec.{projection_of}
use Rattle.scan_table.specs.declared.fault.TableFault.{TableFault}
use Rattle.scan_table.specs.declared.fault.TableFault.TheVariants as fault
use Rattle.scan_table.specs.declared.spec.TableSpec.{TableSpec}

pub none_is : (o p : Option TableFault) → o ≡ p → ((f : TableFault) → o ≡ Some f → ⊥) → p ≡ None
none_is None p e h = sym e
none_is (Some f) p e h = absurd (h f refl)

pub no_place : (o : Option ℕ) → ((n : ℕ) → o ≡ Some n → ⊥) → o ≡ None
no_place None h = refl
no_place (Some n) h = absurd (h n refl)

-- ---- binding
-- the fault of what did not bind
pub bind_err : {A : Type 0} (F : Fault) (x : A) (f : BindFault) → (◌≢◌ {A = Result A BindFault} (Err f) (Err bind.NoMemory) → Err f ≡ typed F x) → f ≢ bind.NoMemory → F ≡ Some f
bind_err None x f h ne = absurd (let e : Err f ≡ Ok x = h (λ e. ne (same e)) in cc)
  where
    same : {A B : Type 0} {a b : B} → ◌≡◌ {A = Result A B} (Err a) (Err b) → a ≡ b
    same e = cc
bind_err (Some g) x f h ne = let e : Err f ≡ Err g = h (λ e. ne (same e)) in cc
  where
    same : {A B : Type 0} {a b : B} → ◌≡◌ {A = Result A B} (Err a) (Err b) → a ≡ b
    same e = cc

pub bind_ok : {A : Type 0} (F : Fault) (x y : A) → (◌≢◌ {A = Result A BindFault} (Ok y) (Err bind.NoMemory) → Ok y ≡ typed F x) → (F ≡ None) × (y ≡ x)
bind_ok None x y h = (refl, (let e : Ok y ≡ Ok x = h (λ e. cc) in cc))
bind_ok (Some g) x y h = absurd (let e : Ok y ≡ Err g = h (λ e. cc) in cc)

-- such a fault, as one of a table
pub bind_fault_told : (F : Fault) (f : BindFault) → (f ≢ bind.NoMemory → F ≡ Some f) → of_bind_fault f ≢ fault.NoMemory → of_bind F ≡ Some (of_bind_fault f)
bind_fault_told F bind.NoMemory h ne = absurd (ne refl)
bind_fault_told F bind.NoField h ne = ap of_bind (h (λ e. cc))
bind_fault_told F bind.NotStruct h ne = ap of_bind (h (λ e. cc))
bind_fault_told F bind.NotList h ne = ap of_bind (h (λ e. cc))
bind_fault_told F bind.NotBool h ne = ap of_bind (h (λ e. cc))
bind_fault_told F bind.Operands h ne = ap of_bind (h (λ e. cc))
bind_fault_told F bind.RepeatedName h ne = ap of_bind (h (λ e. cc))
bind_fault_told F bind.ReservedName h ne = ap of_bind (h (λ e. cc))
bind_fault_told F bind.Literal h ne = ap of_bind (h (λ e. cc))
bind_fault_told F bind.Deep h ne = ap of_bind (h (λ e. cc))

-- ---- a filter
module _ (d : DataType) (e : Expr) where
  pub test_refused : (f : BindFault) → (f ≢ bind.NoMemory → bind_fault d e ≡ Some f) → of_bind_fault f ≢ fault.NoMemory → of_bind (filter_fault d (Some e)) ≡ Some (of_bind_fault f)
  test_refused f h = bind_fault_told (filter_fault d (Some e)) f (λ n. ap (λ o. or_fault o (unless_bound (is_bool_type (infer d e)) bind.NotBool)) (h n))

  test_bound : bind_fault d e ≡ None → filter_fault d (Some e) ≡ unless_bound (is_bool_type (infer d e)) bind.NotBool
  test_bound h = ap (λ o. or_fault o (unless_bound (is_bool_type (infer d e)) bind.NotBool)) h

  pub test_other : bind_fault d e ≡ None → is_bool_type (infer d e) ≡ false → of_bind (filter_fault d (Some e)) ≡ Some (fault.Scan (scan.Bind bind.NotBool))
  test_other h b = ap of_bind (test_bound h ∙ ap (λ x. unless_bound x bind.NotBool) b)

  pub test_passes : bind_fault d e ≡ None → is_bool_type (infer d e) ≡ true → filter_fault d (Some e) ≡ None
  test_passes h b = test_bound h ∙ ap (λ x. unless_bound x bind.NotBool) b

-- ---- the exits
module _ (workers : ℕ) (d : DataType) (s : TableSpec) where
  pub plain_refused : (f : TableFault) → Some f ≡ first_plain_fault workers s → IsTableFault workers d s f
  plain_refused f e = record {
    early = subst (λ o. IfSome o (λ g. f ≡ g)) e refl;
    first = λ _. ap (λ o. or_else o (or_else (name_fault s) (or_else (read_fault d s) (type_fault d s)))) (sym e);
  }

  late : first_plain_fault workers s ≡ None → (e : TableFault) → (e ≢ fault.NoMemory → or_else (name_fault s) (or_else (read_fault d s) (type_fault d s)) ≡ Some e) → IsTableFault workers d s e
  late none e h = record {
    early = subst (λ o. IfSome o (λ g. e ≡ g)) (sym none) tt;
    first = λ ne. ap (λ o. or_else o (or_else (name_fault s) (or_else (read_fault d s) (type_fault d s)))) none ∙ h ne;
  }

  pub memory_refused : first_plain_fault workers s ≡ None → IsTableFault workers d s fault.NoMemory
  memory_refused none = late none fault.NoMemory (λ ne. absurd (ne refl))

  pub names_refused : first_plain_fault workers s ≡ None → (e : TableFault) → (e ≢ fault.NoMemory → name_fault s ≡ Some e) → IsTableFault workers d s e
  names_refused none e h = late none e (λ ne. ap (λ o. or_else o (or_else (read_fault d s) (type_fault d s))) (h ne))

  after_names : first_plain_fault workers s ≡ None → name_fault s ≡ None → (e : TableFault) → (e ≢ fault.NoMemory → or_else (read_fault d s) (type_fault d s) ≡ Some e) → IsTableFault workers d s e
  after_names none names e h = late none e (λ ne. ap (λ o. or_else o (or_else (read_fault d s) (type_fault d s))) names ∙ h ne)

  pub read_refused : first_plain_fault workers s ≡ None → name_fault s ≡ None → (f : BindFault) → (f ≢ bind.NoMemory → bind_fault d (projection_of s) ≡ Some f) → IsTableFault workers d s (of_bind_fault f)
  read_refused none names f h =
      let told = λ (n : f ≢ bind.NoMemory). ap (λ o. or_fault o (filter_fault d s.filter)) (h n) in
      after_names none names (of_bind_fault f) (λ ne. ap (λ o. or_else o (type_fault d s)) (bind_fault_told (request_fault d (projection_of s) s.filter) f told ne))

  pub filter_refused : first_plain_fault workers s ≡ None → name_fault s ≡ None → bind_fault d (projection_of s) ≡ None → (e : TableFault)
      → (e ≢ fault.NoMemory → of_bind (filter_fault d s.filter) ≡ Some e) → IsTableFault workers d s e
  filter_refused none names bound e h =
      after_names none names e (λ ne. ap (λ o. or_else o (type_fault d s)) (ap (λ o. of_bind (or_fault o (filter_fault d s.filter))) bound ∙ h ne))

  no_read_fault : bind_fault d (projection_of s) ≡ None → filter_fault d s.filter ≡ None → read_fault d s ≡ None
  no_read_fault bound filtered = ap (λ o. of_bind (or_fault o (filter_fault d s.filter))) bound ∙ ap of_bind filtered

  pub types_refused : first_plain_fault workers s ≡ None → name_fault s ≡ None → bind_fault d (projection_of s) ≡ None → filter_fault d s.filter ≡ None → (e : TableFault)
      → type_fault d s ≡ Some e → IsTableFault workers d s e
  types_refused none names bound filtered e h =
      after_names none names e (λ ne. ap (λ o. or_else o (type_fault d s)) (no_read_fault bound filtered) ∙ h)

  pub passes : first_plain_fault workers s ≡ None → name_fault s ≡ None → bind_fault d (projection_of s) ≡ None → filter_fault d s.filter ≡ None → type_fault d s ≡ None → first_table_fault workers d s ≡ None
  passes none names bound filtered types =
      ap (λ o. or_else o (or_else (name_fault s) (or_else (read_fault d s) (type_fault d s)))) none
      ∙ ap (λ o. or_else o (or_else (read_fault d s) (type_fault d s))) names
      ∙ ap (λ o. or_else o (type_fault d s)) (no_read_fault bound filtered) ∙ types

-- ---- of a table without a fault
left : (a b : Option TableFault) → or_else a b ≡ None → a ≡ None
left None b h = refl
left (Some f) b h = h

right : (a b : Option TableFault) → or_else a b ≡ None → b ≡ None
right None b h = h
right (Some f) b h = absurd (let e : ◌≡◌ {A = Option TableFault} (Some f) None = h in cc)

pub no_plain_fault : (workers : ℕ) (d : DataType) (s : TableSpec) → first_table_fault workers d s ≡ None → first_plain_fault workers s ≡ None
no_plain_fault workers d s h = left (first_plain_fault workers s) (or_else (name_fault s) (or_else (read_fault d s) (type_fault d s))) h

pub no_type_fault : (workers : ℕ) (d : DataType) (s : TableSpec) → first_table_fault workers d s ≡ None → type_fault d s ≡ None
no_type_fault workers d s h =
    right (read_fault d s) (type_fault d s) (right (name_fault s) (or_else (read_fault d s) (type_fault d s)) (right (first_plain_fault workers s) (or_else (name_fault s) (or_else (read_fault d s) (type_fault d s))) h))

pub no_first : (a b : Option TableFault) → or_else a b ≡ None → a ≡ None
no_first = left

pub no_read_fault_of : (workers : ℕ) (d : DataType) (s : TableSpec) → first_table_fault workers d s ≡ None → read_fault d s ≡ None
no_read_fault_of workers d s h =
    left (read_fault d s) (type_fault d s) (right (name_fault s) (or_else (read_fault d s) (type_fault d s)) (right (first_plain_fault workers s) (or_else (name_fault s) (or_else (read_fault d s) (type_fault d s))) h))
