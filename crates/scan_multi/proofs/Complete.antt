-- A scan of good and sound files fails by want of memory alone.
use Rattle.std.proofs.Common.{◌≡◌, ℕ, ◌<◌, ◌≤◌, ◌+◌, ◌^◌, List, [], ◌∷◌, Bool, arith, true, false, refl, sym, ◌∙◌, subst, length, get_or, take}
use Rattle.std.specs.Prelude.{Option, None, Some, IfSome, IsSome, All, unwrap_or}
use Rattle.std.specs.Option.{is_none}
use Rattle.std.proofs.lemmas.List.{get_or-map, length-map}
use Rattle.std.proofs.lemmas.List.Elements.{All-weaker}
use Rattle.std.proofs.lemmas.List.Sums.{sum-map, sum_by-take-le}
use Rattle.scan_values.specs.DataType.{DataType}
use Rattle.scan_expr.specs.declared.request.ScanRequest.{ScanRequest}
use Rattle.scan_segments.specs.Source.{SourceState}
use Rattle.scan_segments.specs.Cache.{CacheState}
use Rattle.scan_segments.specs.declared.segment.SegmentKey.{SegmentKey}
use Rattle.scan_layout.specs.Layout.{rows_of}
use Rattle.scan_layout.specs.Check.{first_fault}
use Rattle.scan_layout.specs.declared.fault.LayoutFault.{LayoutFault}
use Rattle.scan_opener.specs.Opener.{OpenerState, Given, skip, layout_of}
use Rattle.scan_multi.specs.Answer.{ToldFile, is_within}
use Rattle.scan_multi.specs.Causes.{counted, IsOfFile, HasCause}
use Rattle.scan_multi.specs.Checks.{IsGood, IsOfOtherType, IsIllFormed, EndsPast, rows_given, rows_in}
use Rattle.scan_multi.specs.Lawful.{Tells, told, told_file, IsLawful}
use Rattle.scan_multi.specs.Valid.{IsSound, NeverOverflows, IsValid, NoneFailed}
use Rattle.scan_drive.specs.declared.files.ScanFile.{ScanFile}
use Rattle.scan_multi.specs.declared.scan.fault.RangeFault.TheVariants.{Reversed, Past}
use Rattle.scan_multi.specs.declared.scan.fault.ScanFault.{ScanFault}
use Rattle.scan_multi.specs.declared.scan.fault.ScanFault.TheVariants as fault
use Rattle.scan_multi.proofs.Goods.{and-left, and-right, good-form, well_typed}

-- a good file is of the dtype
pub of_its_type : (d : DataType) (q : ScanRequest) (gives : Option Given) → IsSome gives → IfSome gives (IsOfOtherType d) → IsGood d q (unwrap_or gives skip) → ⊥
of_its_type d q None s u g = cc
of_its_type d q (Some skip) s u g = u
of_its_type d q (Some (layout_of l)) s u g = u (well_typed l d (good-form d l (and-left (is_none (first_fault l d)) (is_within q.row_range (rows_of l)) g)))

-- and well-formed
pub formed : (d : DataType) (q : ScanRequest) (f : LayoutFault) (gives : Option Given) → IsSome gives → IfSome gives (IsIllFormed d f) → IsGood d q (unwrap_or gives skip) → ⊥
formed d q f None s u g = cc
formed d q f (Some skip) s u g = u
formed d q f (Some (layout_of l)) s u g =
    let none : first_fault l d ≡ None = good-form d l (and-left (is_none (first_fault l d)) (is_within q.row_range (rows_of l)) g) in
    let some : first_fault l d ≡ Some f = u.1 in
    cc

-- and has the rows of the range
pub within : (d : DataType) (q : ScanRequest) (gives : Option Given) → IsSome gives → IfSome gives (EndsPast d q) → IsGood d q (unwrap_or gives skip) → ⊥
within d q None s u g = cc
within d q (Some skip) s u g = u
within d q (Some (layout_of l)) s u g =
    let yes : is_within q.row_range (rows_of l) ≡ true = and-right (is_none (first_fault l d)) (is_within q.row_range (rows_of l)) g in
    let no-rows : is_within q.row_range (rows_of l) ≡ false = u.1 in
    cc

-- the files that count have at most the rows of all
pub counted-rows : (o : Bool) (place : ℕ) (files : List ToldFile) → rows_in (counted o place files) ≤ rows_in files
counted-rows false place files = omega arith
counted-rows true place files =
    rw (sum-map (λ (f : ToldFile). rows_given f.given) (take (place + 1) files), sum-map (λ (f : ToldFile). rows_given f.given) files)
    (sum_by-take-le (λ (f : ToldFile). rows_given f.given) files (place + 1))

some : {A : Type 0} (xs : List A) (k : ℕ) → k < length xs → (A → ⊥) → ⊥
some [] k lt h = absurd (omega arith)
some (x ∷ xs) k lt h = h x

module _ {O S : Type 0} (opener : O → OpenerState) (source : S → SourceState) (workers : ℕ) (d : DataType) (q : ScanRequest) (cache : CacheState SegmentKey) (old new : List (ScanFile O S)) where
  told-at : (P : ToldFile → Type 0) → All P (told opener source old) → (k : ℕ) (f : ScanFile O S) → k < length old → P (told_file opener source (get_or old k f))
  told-at P h k f lt = subst P (get_or-map (told_file opener source) old k f (told_file opener source f) lt) (h k (told_file opener source f) (rw length-map lt))

  -- a cause of a file that can't be of one that is good
  never : (P : ScanFile O S → ScanFile O S → Type 0) (place : ℕ) → IsOfFile opener source workers d q cache old new place P
      → ((f : ScanFile O S) → place < length old → P (get_or old place f) (get_or new place f) → ⊥) → ⊥
  never P place at no-cause = some old place at.there (λ f. no-cause f at.there (at.fact f))

  pub complete : (e : ScanFault) → HasCause opener source workers d q cache old new e → IsLawful opener source old cache → IsValid workers d q (told opener source old) → NoneFailed opener source old new → e ≡ fault.NoMemory
  complete e h lawful valid none = go e h where
    good : (k : ℕ) (f : ScanFile O S) → k < length old → IsGood d q (told_file opener source (get_or old k f)).given
    good k f lt = told-at (λ t. IsGood d q t.given) valid.good k f lt

    gives : (k : ℕ) (f : ScanFile O S) → k < length old → IsSome (opener (get_or old k f).opener).gives
    gives k f lt = (lawful.tells k f lt).gives

    all-give : All (λ (f : ScanFile O S). IsSome (opener f.opener).gives) old
    all-give = All-weaker (Tells opener source) (λ (f : ScanFile O S). IsSome (opener f.opener).gives) (λ f t. t.gives) old lawful.tells

    go : (e : ScanFault) → HasCause opener source workers d q cache old new e → e ≡ fault.NoMemory
    go fault.NoMemory h = refl
    go fault.Concurrency h = let no-fault : ◌≡◌ {A = Option ScanFault} None (Some fault.Concurrency) = sym valid.no_fault ∙ h in cc
    go fault.Partitions h = let no-fault : ◌≡◌ {A = Option ScanFault} None (Some fault.Partitions) = sym valid.no_fault ∙ h in cc
    go (fault.RowRange Reversed) h = let no-fault : ◌≡◌ {A = Option ScanFault} None (Some (fault.RowRange Reversed)) = sym valid.no_fault ∙ h in cc
    go (fault.Bind f) h = let no-fault : ◌≡◌ {A = Option ScanFault} None (Some (fault.Bind f)) = sym valid.no_fault ∙ h in cc
    go (fault.Opener place) at = absurd (never _ place at (λ f lt w. (none place f lt).0 w))
    go (fault.Source place id) at = absurd (never _ place at (λ f lt w. (none place f lt).1 w.failed))
    go (fault.DTypeMismatch place) at = absurd (never _ place at (λ f lt w. of_its_type d q (opener (get_or old place f).opener).gives (gives place f lt) w.1 (good place f lt)))
    go (fault.Layout place g) at = absurd (never _ place at (λ f lt w. formed d q g (opener (get_or old place f).opener).gives (gives place f lt) w.1 (good place f lt)))
    go (fault.RowRange (Past place)) at = absurd (never _ place at (λ f lt w. within d q (opener (get_or old place f).opener).gives (gives place f lt) w.1 (good place f lt)))
    go (fault.TooManyRows place) at =
        let many : 2 ^ 64 ≤ rows_in (counted q.ordered place (told opener source old)) = at.1 all-give in
        let most : rows_in (counted q.ordered place (told opener source old)) ≤ rows_in (told opener source old) = counted-rows q.ordered place (told opener source old) in
        let few : rows_in (told opener source old) < 2 ^ 64 = valid.rows in
        absurd (omega (arith, many, most, few))
    go (fault.Corrupt place id) at = absurd (never _ place at (λ f lt w. told-at (IsSound d q) valid.sound place f lt id (w.damaged lawful)))
    go (fault.Overflow place) at = absurd (never _ place at (λ f lt w. told-at (NeverOverflows d q) valid.no_overflow place f lt (w lawful)))
