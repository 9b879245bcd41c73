-- Why a drive ends, as the cause of a fault of a scan.
use Rattle.std.proofs.Common.{◌≡◌, ◌≢◌, ℕ, zero, suc, ◌+◌, ◌^◌, ◌<◌, ◌≤◌, List, [], ◌∷◌, Bool, true, false, refl, arith, subst, length, get_or, map, take, sum, inl, inr}
use Rattle.std.specs.Prelude.{Option, None, Some, IfSome, IsSome, All, option_map, unwrap_or}
use Rattle.std.proofs.lemmas.List.Sums.{sum_by-cons}
use Rattle.scan_values.specs.DataType.{DataType}
use Rattle.scan_expr.specs.declared.request.ScanRequest.{ScanRequest}
use Rattle.scan_segments.specs.Source.{SourceState, Store}
use Rattle.scan_segments.specs.Cache.{CacheState}
use Rattle.scan_segments.specs.declared.segment.SegmentKey.{SegmentKey}
use Rattle.scan_opener.specs.Opener.{OpenerState, OpenerFailed, Given, skip, layout_of}
use Rattle.scan_drive.specs.Drivings as drive
use Rattle.scan_drive.specs.Drivings.{HasSplits, IsFaultOf, StopsDrive}
use Rattle.scan_drive.specs.Files.{Item, Part}
use Rattle.scan_drive.specs.Files as drive_files
use Rattle.scan_drive.specs.Moves.{tell}
use Rattle.scan_drive.specs.Turns as turns
use Rattle.scan_drive.specs.declared.delivery.DriveFault.TheVariants as split
use Rattle.scan_drive.specs.declared.files.ScanFile.{ScanFile}
use Rattle.scan_drive.specs.declared.settling.RoundFault.{RoundFault}
use Rattle.scan_drive.specs.declared.settling.RoundFault.TheVariants as why
use Rattle.scan_file.specs.FileAsks.{FileAsk}
use Rattle.scan_file.specs.FileRows.{row_items}
use Rattle.scan_file.specs.Openings.{part_of, part_unless, layout_fault, GivesFault, GivesSplits}
use Rattle.scan_file.specs.Parts.{layout_part}
use Rattle.scan_file.specs.declared.fault.FileFault.{FileFault}
use Rattle.scan_file.specs.declared.fault.FileFault.TheVariants as file
use Rattle.scan_file.specs.declared.split.FileSplit.{FileSplit}
use Rattle.scan_multi.specs.Answer.{ToldFile}
use Rattle.scan_multi.specs.Asked.{AsksFor}
use Rattle.scan_multi.specs.Causes.{counted, IsOfFile, IfLawful, Stops, MayHaveCome, IsSourceCause, IsCorruptCause, HasCause}
use Rattle.scan_multi.specs.Checks.{IsRead, IsOfOtherType, IsIllFormed, EndsPast, rows_given, rows_in}
use Rattle.scan_multi.specs.Lawful.{told_file, told, Tells, AllGive, Gives}
use Rattle.scan_multi.specs.Overflow.{OverflowsIn}
use Rattle.scan_multi.specs.Placed.{placed}
use Rattle.scan_multi.specs.Request.{first_request_fault}
use Rattle.scan_multi.proofs.Chunking.{reached}
use Rattle.scan_multi.proofs.Faults.{faultless_good, other_type, ill_formed, ends_past_it}
use Rattle.scan_multi.proofs.Goods.{weaker}
use Rattle.scan_multi.proofs.Meaning.{Means}
use Rattle.scan_multi.proofs.Polling.{Polls, asked_state, refused_by, admitted_by, opener_failed, other_given, ill_given, past_given, splits_given}
use Rattle.scan_multi.proofs.Telling.{tale, tale_is, tell_is, lawful_drive}

-- ---- how many rows
sum-first : (x : ℕ) (xs : List ℕ) → sum (x ∷ xs) ≡ x + sum xs
sum-first x xs = sum_by-cons (λ n. n) x xs

rows-more : (f : ToldFile) (fs : List ToldFile) → rows_in (f ∷ fs) ≡ rows_given f.given + rows_in fs
rows-more f fs = sum-first (rows_given f.given) (map (λ (t : ToldFile). rows_given t.given) fs)

unless-few : (a : FileAsk) (o : Option FileFault) (p : Part Item) → (part_unless a o p).row_count ≤ p.row_count
unless-few a None p = omega arith
unless-few a (Some f) p = omega arith

part-few : (a : FileAsk) (g : Given) → (part_of a g).row_count ≤ rows_given g
part-few a skip = omega arith
part-few a (layout_of l) = unless-few a (layout_fault a l) _

-- it is a layout without a fault
abbrev IsFaultless : FileAsk → Given → Type 0
IsFaultless a skip = ⊥
IsFaultless a (layout_of l) = layout_fault a l ≡ None

some-rows : (a : FileAsk) (g : Given) → 0 < (part_of a g).row_count → IsFaultless a g
some-rows a skip h = absurd (omega (arith, h))
some-rows a (layout_of l) h = go (layout_fault a l) h where
  go : (o : Option FileFault) → 0 < (part_unless a o (layout_part a l)).row_count → o ≡ None
  go None k = refl
  go (Some f) k = absurd (omega (arith, k))

told-rows : (a : FileAsk) (o : Option Given) → turns.rows_in (option_map (part_of a) o) ≤ rows_given (unwrap_or o skip)
told-rows a None = omega arith
told-rows a (Some g) = part-few a g

module _ {O S : Type 0} (opener : O → OpenerState) (source : S → SourceState) (a : FileAsk) where
  tale-rows : (n : ℕ) (files : List (ScanFile O S)) → turns.rows_of (take n (tale opener source a files)) ≤ rows_in (take n (told opener source files))
  tale-rows zero files = omega arith
  tale-rows (suc n) [] = omega arith
  tale-rows (suc n) (f ∷ fs) =
      let rest = tale-rows n fs in
      let here = told-rows a (opener f.opener).gives in
      let b = rows-more (told_file opener source f) (take n (told opener source fs)) in
      omega (arith, rest, here, b)

  all-rows : (files : List (ScanFile O S)) → turns.rows_of (tale opener source a files) ≤ rows_in (told opener source files)
  all-rows [] = omega arith
  all-rows (f ∷ fs) =
      let rest = all-rows fs in
      let here = told-rows a (opener f.opener).gives in
      let b = rows-more (told_file opener source f) (told opener source fs) in
      omega (arith, rest, here, b)

some-mapped : {A B : Type 0} (f : A → B) (o : Option A) → IsSome o → IsSome (option_map f o)
some-mapped f None s = cc
some-mapped f (Some x) s = refl

through : (a : FileAsk) (o : Option Given) (P : Part Item → Type 0) → IfSome (option_map (part_of a) o) P → IfSome o (λ g. P (part_of a g))
through a None P h = tt
through a (Some g) P h = h

module _ {O S : Type 0} (opener : O → OpenerState) (source : S → SourceState) (workers : ℕ) (d : DataType) (q : ScanRequest) (a : FileAsk) (asks : AsksFor d q a) (means : Means d q a)
    (c : CacheState SegmentKey) (old new : List (ScanFile O S)) (none : first_request_fault workers d q ≡ None) where
  -- a fault of a drive at a file
  abbrev pub IsDriveFaultOf : ℕ → (ScanFile O S → ScanFile O S → Type 0) → Type 0
  IsDriveFaultOf = IsFaultOf (asked_state opener a) (Polls opener a) (refused_by opener a) (admitted_by opener a) source row_items q.limit q.ordered c old new

  of-file : (P Q : ScanFile O S → ScanFile O S → Type 0) (k : ℕ) → IsDriveFaultOf k P
      → ((f : ScanFile O S) → k < length old → P (get_or old k f) (get_or new k f) → Q (get_or old k f) (get_or new k f)) → IsOfFile opener source workers d q c old new k Q
  of-file P Q k h g = record {
    late = none;
    there = h.there;
    fact = λ f. g f h.there (h.fact f);
    before = λ o l. reached d q a asks (told opener source old) k (subst (λ z. drive.GivesBefore row_items true q.limit z k) (tale_is opener source a old l.tells) (h.before o (lawful_drive opener source a old c l)));
  }

  -- ---- what is read
  reads : (ws : List FileSplit) (g : Given) → ws ≢ [] → GivesSplits a ws g → IsRead d q g
  reads ws skip some h = some h
  reads ws (layout_of l) some h = faultless_good d q a asks l h

  read-of : (f g : ScanFile O S) → HasSplits (asked_state opener a) (Polls opener a) (admitted_by opener a) f g → Gives opener source (IsRead d q) f
  read-of f g (ws, w, some) =
      weaker (opener f.opener).gives (GivesSplits a ws) (IsRead d q) (λ x h. reads ws x some h) (splits_given opener a f.opener g.opener ws w)

  read-good : (g : Given) → IsFaultless a g → IsRead d q g
  read-good skip h = h
  read-good (layout_of l) h = faultless_good d q a asks l h

  -- ---- what is told of a file
  told-one : (P : Part Item → Store → Type 0) (f : ScanFile O S) → Tells opener source f → drive_files.IfTold (tell (asked_state opener a) source f) P → P (part_of a (told_file opener source f).given) (told_file opener source f).store
  told-one P f t h = subst (λ z. drive_files.IfTold z P) (tell_is opener source a f t) h

  came-of : (id : ℕ) (f : ScanFile O S) → drive.CameOf source c old new f.source_id id → MayHaveCome opener source c old new id f
  came-of id f (inl w) = inl (record { place = w.place; there = w.there; named = w.named; asked = w.asked })
  came-of id f (inr kept) = inr kept

  -- ---- too many rows
  abbrev AreTooManyIn : Bool → ℕ → Type 0
  AreTooManyIn = drive.AreTooMany (asked_state opener a) (Polls opener a) (refused_by opener a) (admitted_by opener a) source row_items q.limit q.ordered c old new

  all-given : AllGive opener source old → All (λ f. IsSome (asked_state opener a f.opener).gives) old
  all-given give = λ i f lt. some-mapped (part_of a) (opener (get_or old i f).opener).gives (give i f lt)

  too-many : (o : Bool) (k : ℕ) → AreTooManyIn o k → AllGive opener source old → 2 ^ 64 ≤ rows_in (counted o k (told opener source old))
  too-many true k h give = let many = h (all-given give) in let most = tale-rows opener source a (k + 1) old in omega (arith, many, most)
  too-many false k h give = let many = h (all-given give) in let most = all-rows opener source a old in omega (arith, many, most)

  pub causes : (e : RoundFault FileFault) → StopsDrive (asked_state opener a) (Polls opener a) (refused_by opener a) (admitted_by opener a) source row_items q.limit q.ordered c old new e → HasCause opener source workers d q c old new (placed e)
  causes (why.Split split.NoMemory) h = tt
  causes (why.Split (split.Source k id)) h =
      of-file _ (IsSourceCause opener source workers d q c old new id) k h (λ f lt w. record { failed = w.failed; read = read-of (get_or old k f) (get_or new k f) w.admitted; asked = w.asked })
  causes (why.Split (split.Corrupt k id)) h =
      of-file _ (IsCorruptCause opener source workers d q c old new id) k h (λ f lt w. record {
        damaged = λ l.
            let t = told_file opener source (get_or old k f) in
            means.bad t.given t.store id (told-one (λ p store. p.bad store id ≡ true) (get_or old k f) (l.tells k f lt) (w.bad (lawful_drive opener source a old c l).cache));
        read = read-of (get_or old k f) (get_or new k f) w.admitted;
        came = came-of id (get_or old k f) w.came;
      })
  causes (why.Split (split.Overflow k)) h =
      of-file _ (λ f g. IfLawful opener source workers d q c old new (λ t. OverflowsIn d q t.given t.store) f) k h (λ f lt w l.
      let t = told_file opener source (get_or old k f) in
      means.overflow t.given t.store (told-one (λ p store. p.overflow store ≡ true) (get_or old k f) (l.tells k f lt) (w (lawful_drive opener source a old c l).cache)))
  causes (why.TooManyRows k) h = (
    of-file _ (Stops opener source workers d q c old new (IsRead d q)) k h.0 (λ f lt w. (w.none, weaker (opener (get_or old k f).opener).gives _ (IsRead d q) (λ g r. read-good g (some-rows a g r)) (through a (opener (get_or old k f).opener).gives (λ p. 0 < p.row_count) w.rows))),
    too-many q.ordered k h.1,
  )
  causes (why.Refused k file.Opener) h = of-file _ (λ f g. OpenerFailed (opener f.opener) (opener g.opener)) k h (λ f lt w. opener_failed opener a (get_or old k f).opener (get_or new k f).opener w.1)
  causes (why.Refused k file.DTypeMismatch) h =
      of-file _ (Stops opener source workers d q c old new (IsOfOtherType d)) k h (λ f lt w. (w.0, weaker (opener (get_or old k f).opener).gives (GivesFault a file.DTypeMismatch) (IsOfOtherType d) (other_type d q a asks) (other_given opener a (get_or old k f).opener (get_or new k f).opener w.1)))
  causes (why.Refused k (file.Layout x)) h =
      of-file _ (Stops opener source workers d q c old new (IsIllFormed d x)) k h (λ f lt w. (w.0, weaker (opener (get_or old k f).opener).gives (GivesFault a (file.Layout x)) (IsIllFormed d x) (ill_formed d q a asks x) (ill_given opener a (get_or old k f).opener (get_or new k f).opener x w.1)))
  causes (why.Refused k file.RowRangePast) h =
      of-file _ (Stops opener source workers d q c old new (EndsPast d q)) k h (λ f lt w. (w.0, weaker (opener (get_or old k f).opener).gives (GivesFault a file.RowRangePast) (EndsPast d q) (ends_past_it d q a asks) (past_given opener a (get_or old k f).opener (get_or new k f).opener w.1)))
