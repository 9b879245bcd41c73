-- Sessions as they begin.
use Rattle.std.proofs.Common.{◌≡◌, ◌≢◌, ◌+◌, ◌++◌, ℕ, zero, suc, List, [], ◌∷◌, Some, None, get_or, length, map, replicate, inl, inr, refl, sym, ap, ◌∙◌, subst, arith}
use Rattle.std.specs.Prelude.{◌⊎◌, All, Result, Ok, Err, IfOk, IfErr}
use Rattle.scan_values.specs.DataType.{DataType}
use Rattle.scan_expr.specs.Bound.{Bound, bound_of}
use Rattle.scan_expr.specs.Expr.{Expr}
use Rattle.scan_expr.specs.Typing.{Fault, bind_fault, typed}
use Rattle.scan_expr.specs.declared.op.BindFault.{BindFault}
use Rattle.scan_expr.specs.declared.op.BindFault.TheVariants as bind
use Rattle.scan_opener.specs.Opener.{OpenerState}
use Rattle.scan_partition.specs.Partable.{IsPartable}
use Rattle.scan_partition.proofs.Binding.{one_bound}
use Rattle.scan_partition.proofs.Partable.{bound_partable}
use Rattle.scan_segments.specs.Source.{SourceState}
use Rattle.scan_drive.specs.declared.files.ScanFile.{ScanFile}
use Rattle.scan_multi.specs.Lawful.{IsIdle}
use Rattle.scan_seek.specs.KeptData.{KeptData, unopened}
use Rattle.scan_seek.specs.Keeps.{IsKept}
use Rattle.scan_places.specs.Walks.{kept_at}
use Rattle.scan_lookup.specs.Faults.{IsBound, of_bind}
use Rattle.scan_lookup.specs.Session.{IsSession, SessionData, new_session, session_data}
use Rattle.scan_lookup.specs.declared.fault.LookupFault.{LookupFault}
use Rattle.scan_lookup.specs.declared.fault.LookupFault.TheVariants as fault

pub replicate_push : {X : Type 0} (n : ℕ) (x : X) → replicate n x ++ x ∷ [] ≡ replicate (n + 1) x
replicate_push zero x = refl
replicate_push (suc n) x = ap (λ zs. x ∷ zs) (replicate_push n x) ∙ ap (λ k. replicate k x) (let e : suc (n + 1) ≡ suc n + 1 = omega arith in e)

pub one_each : {A X : Type 0} (xs : List A) (x : X) → replicate (length xs) x ≡ map (λ _. x) xs
one_each [] x = refl
one_each (y ∷ xs) x = ap (λ zs. x ∷ zs) (one_each xs x)

pub none_open : {A : Type 0} (xs : List A) (k : ℕ) → kept_at (map (λ _. unopened) xs) k ≡ unopened
none_open [] k = refl
none_open (x ∷ xs) zero = refl
none_open (x ∷ xs) (suc k) = none_open xs k

as_many : {A X : Type 0} (xs : List A) (x : X) → length (map (λ _. x) xs) ≡ length xs
as_many [] x = refl
as_many (y ∷ xs) x = ap suc (as_many xs x)

pub begins : {O S C : Type 0} (opener : O → OpenerState) (source : S → SourceState) (e : Bound) (files : List (ScanFile O S)) (cache : C) → IsPartable e → All (IsIdle opener source) files → IsSession opener source (new_session e files cache)
begins opener source e files cache parts idle = record {
  parts = parts;
  even = as_many files unopened;
  are_kept = λ k f lt. subst (IsKept e (opener (get_or files k f).opener)) (sym (none_open files k)) tt;
  idle = idle;
}

-- what is kept at first: of each file nothing
pub none_kept : {A : Type 0} (xs : List A) (n : ℕ) (kept : List KeptData) → n ≡ length xs → kept ≡ replicate n unopened → kept ≡ map (λ _. unopened) xs
none_kept xs n kept e h = h ∙ ap (λ k. replicate k unopened) e ∙ one_each xs unopened

pub begins_kept : {O S C : Type 0} (opener : O → OpenerState) (source : S → SourceState) (e : Bound) (files : List (ScanFile O S)) (kept : List KeptData) (cache : C) → kept ≡ map (λ _. unopened) files → IsPartable e → All (IsIdle opener source) files
    → IsSession opener source (session_data e files kept cache)
begins_kept opener source e files kept cache is parts idle =
    subst (λ (k : List KeptData). IsSession opener source (session_data e files k cache)) (sym is) (begins opener source e files cache parts idle)

-- ---- what binding gives
is_memory : (f : BindFault) → (f ≡ bind.NoMemory) ⊎ ((f ≢ bind.NoMemory) × (of_bind f ≡ fault.Bind f))
is_memory bind.NoMemory = inl refl
is_memory bind.NoField = inr ((λ e. cc), refl)
is_memory bind.NotStruct = inr ((λ e. cc), refl)
is_memory bind.NotList = inr ((λ e. cc), refl)
is_memory bind.NotBool = inr ((λ e. cc), refl)
is_memory bind.Operands = inr ((λ e. cc), refl)
is_memory bind.RepeatedName = inr ((λ e. cc), refl)
is_memory bind.ReservedName = inr ((λ e. cc), refl)
is_memory bind.Literal = inr ((λ e. cc), refl)
is_memory bind.Deep = inr ((λ e. cc), refl)

abbrev pub failed : BindFault → Result Bound BindFault
failed f = Err f

abbrev pub given : Bound → Result Bound BindFault
given b = Ok b

no_fault : (f : BindFault) (F : Fault) (x : Bound) → failed f ≡ typed F x → F ≡ Some f
no_fault f None x h = cc
no_fault f (Some g) x h = cc

-- binding gave this
module _ (d : DataType) (e : Expr) (b : Bound) (h : given b ≢ failed bind.NoMemory → given b ≡ typed (bind_fault d e) (bound_of d e)) where
  is_typed : given b ≡ typed (bind_fault d e) (bound_of d e)
  is_typed = h (λ q. cc)

  pub bound_parts : IsPartable b
  bound_parts = bound_partable d e b is_typed

  parts : (bind_fault d e ≡ None) × (b ≡ bound_of d e)
  parts = one_bound (bind_fault d e) b (bound_of d e) is_typed

  pub session_made : {O S C : Type 0} (files : List (ScanFile O S)) (cache : C) (r : Result (SessionData O S C) LookupFault) → IfOk r (λ (s : SessionData O S C). s ≡ new_session b files cache)
      → IfOk r (λ (s : SessionData O S C). s ≡ new_session (bound_of d e) files cache)
  session_made {O} {S} {C} files cache r = subst (λ (x : Bound). IfOk r (λ (s : SessionData O S C). s ≡ new_session x files cache)) parts.1

  pub session_bound : {T : Type 0} (r : Result T LookupFault) → IfErr r (λ (u : LookupFault). u ≡ fault.NoMemory) → (r ≢ Err fault.NoMemory) → IsBound (bind_fault d e) r
  session_bound {T} r short other = subst (λ (F : Fault). IsBound F r) (sym parts.0) (go r short other)
    where
      go : (r : Result T LookupFault) → IfErr r (λ (u : LookupFault). u ≡ fault.NoMemory) → (r ≢ Err fault.NoMemory) → IsBound None r
      go (Ok s) short other = refl
      go (Err u) short other = absurd (other (ap (λ (z : LookupFault). Err z) short))

-- binding failed
pub session_unbound : {T : Type 0} (d : DataType) (e : Expr) (f : BindFault) (u : LookupFault) → u ≡ of_bind f → (failed f ≢ failed bind.NoMemory → failed f ≡ typed (bind_fault d e) (bound_of d e))
    → (◌≢◌ {A = Result T LookupFault} (Err u) (Err fault.NoMemory)) → IsBound {T = T} (bind_fault d e) (Err u)
session_unbound {T} d e f u is h other = go (is_memory f)
  where
    go : (f ≡ bind.NoMemory) ⊎ ((f ≢ bind.NoMemory) × (of_bind f ≡ fault.Bind f)) → IsBound {T = T} (bind_fault d e) (Err u)
    go (inl m) = absurd (other (ap (λ (z : LookupFault). Err z) (is ∙ ap of_bind m)))
    go (inr n) =
        let F : bind_fault d e ≡ Some f = no_fault f (bind_fault d e) (bound_of d e) (h (λ q. let same : f ≡ bind.NoMemory = cc in n.0 same)) in
        subst (λ (z : Fault). IsBound {T = T} z (Err u)) (sym F) (ap (λ (z : LookupFault). Err z) (is ∙ n.1))
