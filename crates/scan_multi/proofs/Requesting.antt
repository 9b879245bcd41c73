-- What is wrong with a request, and what one asks that has no fault.
use Rattle.std.proofs.Common.{◌≡◌, ◌≢◌, ℕ, ◌≤◌, Bool, true, false, refl, sym, ap, ◌∙◌, subst, inl, inr, nat_lt, ◌<◌, arith}
use Rattle.std.specs.Prelude.{◌⊎◌, Option, None, Some, IfSome, Result, Ok, Err, option_map}
use Rattle.std.specs.declared.ops.Range.{Range}
use Rattle.std.proofs.lemmas.Bool.Decides.{nat_tests}
use Rattle.scan_values.specs.DataType.{DataType}
use Rattle.scan_values.specs.Fits.{is_bool_type}
use Rattle.scan_values.specs.declared.selection.Selection.{Selection}
use Rattle.scan_expr.specs.Bound.{Bound, bound_of}
use Rattle.scan_expr.specs.Expr.{Expr}
use Rattle.scan_expr.specs.Infer.{infer}
use Rattle.scan_expr.specs.Typing.{Fault, unless, or_fault, typed, bind_fault, filter_fault, request_fault}
use Rattle.scan_expr.specs.declared.op.BindFault.{BindFault}
use Rattle.scan_expr.specs.declared.op.BindFault.TheVariants as bind
use Rattle.scan_expr.specs.declared.request.ScanRequest.{ScanRequest}
use Rattle.scan_partition.proofs.Partable.{bound_partable}
use Rattle.scan_core.specs.BuilderData.{IsFilter}
use Rattle.scan_file.specs.FileAsks.{FileAsk, IsAsk, file_ask}
use Rattle.scan_core.specs.Given.{Rises}
use Rattle.scan_multi.specs.Checked.{IsChecked, IsRequestFault}
use Rattle.scan_multi.specs.Request.{has_no_partitions, is_forward, or_else, bound_fault, of_bind, first_plain_fault, first_request_fault}
use Rattle.scan_multi.specs.Request as request
use Rattle.scan_multi.specs.declared.scan.fault.RangeFault.TheVariants.{Reversed}
use Rattle.scan_multi.specs.declared.scan.fault.ScanFault.{ScanFault}
use Rattle.scan_multi.specs.declared.scan.fault.ScanFault.TheVariants as fault

-- ---- faults of binding
bound-one : (f : BindFault) → f ≢ bind.NoMemory → bound_fault f ≡ fault.Bind f
bound-one bind.NoField h = refl
bound-one bind.NotStruct h = refl
bound-one bind.NotList h = refl
bound-one bind.NotBool h = refl
bound-one bind.Operands h = refl
bound-one bind.RepeatedName h = refl
bound-one bind.ReservedName h = refl
bound-one bind.Literal h = refl
bound-one bind.Deep h = refl
bound-one bind.NoMemory h = absurd (h refl)

is-memory : (f : BindFault) → (f ≡ bind.NoMemory) ⊎ (f ≢ bind.NoMemory)
is-memory bind.NoMemory = inl refl
is-memory bind.NoField = inr (λ e. cc)
is-memory bind.NotStruct = inr (λ e. cc)
is-memory bind.NotList = inr (λ e. cc)
is-memory bind.NotBool = inr (λ e. cc)
is-memory bind.Operands = inr (λ e. cc)
is-memory bind.RepeatedName = inr (λ e. cc)
is-memory bind.ReservedName = inr (λ e. cc)
is-memory bind.Literal = inr (λ e. cc)
is-memory bind.Deep = inr (λ e. cc)

typed-err : {A : Type 0} (f : BindFault) (g : Fault) (x : A) → Err f ≡ typed g x → g ≡ Some f
typed-err f None x h = cc
typed-err f (Some e) x h = cc

typed-ok : {A : Type 0} (g : Fault) (x y : A) → Ok y ≡ typed g x → (g ≡ None) × (y ≡ x)
typed-ok None x y h = (refl, cc)
typed-ok (Some e) x y h = cc

-- an error other than want of memory
abbrev err : (A : Type 0) → BindFault → Result A BindFault
err A f = Err f

abbrev ok : (A : Type 0) → A → Result A BindFault
ok A x = Ok x

err-of : {A : Type 0} (f : BindFault) (g : Fault) (x : A) → (err A f ≢ err A bind.NoMemory → err A f ≡ typed g x) → f ≢ bind.NoMemory → g ≡ Some f
err-of {A} f g x h other = typed-err f g x (h (λ q. let same : f ≡ bind.NoMemory = cc in other same))

ok-of : {A : Type 0} (g : Fault) (x y : A) → (ok A y ≢ err A bind.NoMemory → ok A y ≡ typed g x) → (g ≡ None) × (y ≡ x)
ok-of {A} g x y h = typed-ok g x y (h (λ q. cc))

-- ---- what a request without a fault has
first-none : (f g : Fault) → or_fault f g ≡ None → (f ≡ None) × (g ≡ None)
first-none None g h = (refl, h)
first-none (Some f) g h = cc

is-bool : (b : Bool) → unless b bind.NotBool ≡ None → b ≡ true
is-bool true h = refl
is-bool false h = cc

filters : (d : DataType) (o : Option Expr) → filter_fault d o ≡ None → IfSome (option_map (bound_of d) o) (IsFilter d)
filters d None h = tt
filters d (Some e) h =
    let r = first-none (bind_fault d e) (unless (is_bool_type (infer d e)) bind.NotBool) h in
    record {
      over = record { scope = refl; bound = bound_partable d e (bound_of d e) (ap (λ g. typed g (bound_of d e)) (sym r.0)) };
      bool = is-bool (is_bool_type (infer d e)) r.1;
    }

forward : (o : Option (Range ℕ)) → is_forward o ≡ true → IfSome o (λ r. r.start ≤ r.end)
forward None h = tt
forward (Some r) h = grind (arith, nat_tests)

plain-none : (a b : Option ScanFault) → or_else a b ≡ None → (a ≡ None) × (b ≡ None)
plain-none None b h = (refl, h)
plain-none (Some f) b h = cc

unless-none : (b : Bool) (f : ScanFault) → request.unless b f ≡ None → b ≡ true
unless-none true f h = refl
unless-none false f h = cc

forward-range : (workers : ℕ) (q : ScanRequest) → first_plain_fault workers q ≡ None → is_forward q.row_range ≡ true
forward-range workers q h =
    let rest = (plain-none _ _ h).1 in
    unless-none (is_forward q.row_range) (fault.RowRange Reversed) (plain-none (request.unless (has_no_partitions q) fault.Partitions) _ rest).1

above-zero : (n : ℕ) → nat_lt 0 n ≡ true → 0 < n
above-zero n h = grind (arith, nat_tests)

-- there are workers
pub some_workers : (workers : ℕ) (d : DataType) (q : ScanRequest) → first_request_fault workers d q ≡ None → 0 < workers
some_workers workers d q h =
    let plain = (plain-none (first_plain_fault workers q) _ h).0 in
    above-zero workers (unless-none (nat_lt 0 workers) fault.Concurrency (plain-none (request.unless (nat_lt 0 workers) fault.Concurrency) _ plain).0)

-- ---- no fault but those of binding
pub none-plain : (o p : Option ScanFault) → o ≡ p → ((f : ScanFault) → o ≡ Some f → ⊥) → p ≡ None
none-plain None p e h = sym e
none-plain (Some f) p e h = absurd (h f refl)

module _ (workers : ℕ) (d : DataType) (q : ScanRequest) where
  pub plain_refused : (e : ScanFault) → Some e ≡ first_plain_fault workers q → IsRequestFault workers d q e
  plain_refused e h = record {
    early = subst (λ o. IfSome o (λ f. e ≡ f)) h refl;
    first = λ other. ap (λ o. or_else o (of_bind (request_fault d q.projection q.filter))) (sym h);
  }

  late : first_plain_fault workers q ≡ None → (e : ScanFault) → IfSome (first_plain_fault workers q) (λ f. e ≡ f)
  late none e = subst (λ o. IfSome o (λ f. e ≡ f)) (sym none) tt

  pub memory_refused : first_plain_fault workers q ≡ None → IsRequestFault workers d q fault.NoMemory
  memory_refused none = record { early = late none fault.NoMemory; first = λ other. absurd (other refl) }

  request-is : first_plain_fault workers q ≡ None → first_request_fault workers d q ≡ of_bind (request_fault d q.projection q.filter)
  request-is none = ap (λ o. or_else o (of_bind (request_fault d q.projection q.filter))) none

  bind-refused : first_plain_fault workers q ≡ None → (f : BindFault) → (f ≢ bind.NoMemory → request_fault d q.projection q.filter ≡ Some f) → IsRequestFault workers d q (bound_fault f)
  bind-refused none f h = record {
    early = late none (bound_fault f);
    first = λ other. go other (is-memory f);
  } where
    go : bound_fault f ≢ fault.NoMemory → (f ≡ bind.NoMemory) ⊎ (f ≢ bind.NoMemory) → first_request_fault workers d q ≡ Some (bound_fault f)
    go other (inl is) = absurd (other (ap bound_fault is))
    go other (inr one) = request-is none ∙ ap of_bind (h one) ∙ ap Some (sym (bound-one f one))

  pub projection_refused : first_plain_fault workers q ≡ None → (f : BindFault)
      → (err Bound f ≢ err Bound bind.NoMemory → err Bound f ≡ typed (bind_fault d q.projection) (bound_of d q.projection)) → IsRequestFault workers d q (bound_fault f)
  projection_refused none f h = bind-refused none f (λ other. ap (λ g. or_fault g (filter_fault d q.filter)) (err-of f _ _ h other))

  module _ (b : Bound) (bound : ok Bound b ≢ err Bound bind.NoMemory → ok Bound b ≡ typed (bind_fault d q.projection) (bound_of d q.projection)) where
    pub filter_refused : first_plain_fault workers q ≡ None → (f : BindFault)
        → (err (Option Bound) f ≢ err (Option Bound) bind.NoMemory → err (Option Bound) f ≡ typed (filter_fault d q.filter) (option_map (bound_of d) q.filter)) → IsRequestFault workers d q (bound_fault f)
    filter_refused none f h =
        bind-refused none f (λ other. ap (λ g. or_fault g (filter_fault d q.filter)) (ok-of (bind_fault d q.projection) _ b bound).0 ∙ err-of f _ _ h other)

    module _ (c : Option Bound) (tests : ok (Option Bound) c ≢ err (Option Bound) bind.NoMemory → ok (Option Bound) c ≡ typed (filter_fault d q.filter) (option_map (bound_of d) q.filter)) where
      pub asks_it : first_plain_fault workers q ≡ None → Rises q.selection → (a : FileAsk) → a ≡ file_ask b c q.row_range q.selection → IsChecked workers d q a
      asks_it none rises a e =
          let p = ok-of (bind_fault d q.projection) (bound_of d q.projection) b bound in
          let t = ok-of (filter_fault d q.filter) (option_map (bound_of d) q.filter) c tests in
          record {
            no_fault = request-is none ∙ ap of_bind (ap (λ g. or_fault g (filter_fault d q.filter)) p.0 ∙ t.0);
            asks = record {
              is = e ∙ ap (λ x. file_ask x c q.row_range q.selection) p.1 ∙ ap (λ x. file_ask (bound_of d q.projection) x q.row_range q.selection) t.1;
              askable = record { filter = t.0; range = forward q.row_range (forward-range workers q none); selection = rises };
            };
          }

pub may_ask : (workers : ℕ) (d : DataType) (q : ScanRequest) (b : Bound) (c : Option Bound)
    → first_plain_fault workers q ≡ None
    → (ok Bound b ≢ err Bound bind.NoMemory → ok Bound b ≡ typed (bind_fault d q.projection) (bound_of d q.projection))
    → (ok (Option Bound) c ≢ err (Option Bound) bind.NoMemory → ok (Option Bound) c ≡ typed (filter_fault d q.filter) (option_map (bound_of d) q.filter))
    → (r : Option (Range ℕ)) → r ≡ q.row_range → (s : Selection) → IsAsk (file_ask b c r s)
may_ask workers d q b c none bound tests r is s =
    let p = ok-of (bind_fault d q.projection) (bound_of d q.projection) b bound in
    let t = ok-of (filter_fault d q.filter) (option_map (bound_of d) q.filter) c tests in
    let scope : b.scope ≡ d = ap (λ (x : Bound). x.scope) p.1 in
    let over : IfSome c (IsFilter d) = subst (λ z. IfSome z (IsFilter d)) (sym t.1) (filters d q.filter t.0) in
    record {
      bound = bound_partable d q.projection b (bound (λ x. cc));
      filter = subst (λ z. IfSome c (IsFilter z)) (sym scope) over;
      range = subst (λ o. IfSome o (λ (x : Range ℕ). x.start ≤ x.end)) (sym is) (forward q.row_range (forward-range workers q none));
    }

-- a request without a fault has none of the first ones
pub none_plain : (workers : ℕ) (d : DataType) (q : ScanRequest) → first_request_fault workers d q ≡ None → (e : ScanFault) → IfSome (first_plain_fault workers q) (λ f. e ≡ f)
none_plain workers d q h e = subst (λ o. IfSome o (λ f. e ≡ f)) (sym (plain-none (first_plain_fault workers q) _ h).0) tt
