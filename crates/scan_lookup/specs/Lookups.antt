-- What a look-up does: what its answer means, why it is refused, and what it leaves.
use Rattle.std.specs.Prelude.{◌≡◌, ℕ, List, Some, IfSome, All, length, map}
use Rattle.std.specs.List.{slice_get}
use Rattle.scan_values.specs.Arrays.{ArrayData}
use Rattle.scan_values.specs.Val.{marked}
use Rattle.scan_expr.specs.Bound.{Bound}
use Rattle.scan_expr.specs.Infer.{infer}
use Rattle.scan_opener.specs.Opener.{OpenerState}
use Rattle.scan_segments.specs.Cache.{CacheState}
use Rattle.scan_segments.specs.Source.{SourceState}
use Rattle.scan_segments.specs.declared.segment.SegmentKey.{SegmentKey}
use Rattle.scan_drive.specs.Traffic.{ended_since, CacheMoves, LooksUpFirst, PutsWhatItAsked}
use Rattle.scan_drive.specs.declared.files.ScanFile.{ScanFile}
use Rattle.scan_multi.specs.Answer.{ToldFile}
use Rattle.scan_multi.specs.Lawful.{IsLawful, IsIdle, told}
use Rattle.scan_multi.specs.Moves.{EachMoves}
use Rattle.scan_multi.specs.Valid.{NoneFailed}
use Rattle.scan_seek.specs.KeptData.{KeptData}
use Rattle.scan_lookup.specs.Asked.{EachAsksTouched, EachAsksOnce, OpensNamed, rows_at}
use Rattle.scan_lookup.specs.Causes.{HasLookupCause, Before, IsFlawedAt, OverflowsAt}
use Rattle.scan_lookup.specs.Replies.{reply_to, IsThere}
use Rattle.scan_lookup.specs.declared.fault.LookupFault.{LookupFault}
use Rattle.scan_lookup.specs.declared.fault.LookupFault.TheVariants as fault
use Rattle.scan_places.specs.declared.place.Place.{Place}

-- the expression overflows at none of these places
abbrev pub NeverOverflows : Bound → List ToldFile → List Place → Type 0
NeverOverflows e files places = All (λ (p : Place). (f : ToldFile) → slice_get files p.file ≡ Some f → OverflowsAt e p.row f → ⊥) places

-- files and places that a look-up answers: each place is there, no segment that its row touches is missing or damaged, and
-- the expression does not overflow at it
pub record IsAnswerable (e : Bound) (files : List ToldFile) (places : List Place) : Type 0 where
  pub there : All (IsThere e.scope files) places
  pub sound : (k id : ℕ) (f : ToldFile) → slice_get files k ≡ Some f → IsFlawedAt e f (rows_at k places) id → ⊥
  pub no_overflow : NeverOverflows e files places

-- a look-up of places over a cache: the files as they were, and as it leaves them
module _ {O S : Type 0} (opener : O → OpenerState) (source : S → SourceState) (e : Bound) (places : List Place)
    (old new : List (ScanFile O S)) where
  -- What an answer means.
  pub record IsReply (cache cache' : CacheState SegmentKey) (a : ArrayData) : Type 0 where
    -- the expression's dtype, and a value for each place
    pub dtype : a.dtype ≡ infer e.scope e.expr
    pub count : length a.items ≡ length places
    -- each place is there, as far as openers tell
    pub there : Before opener source e places cache old new (length places)
    -- over lawful objects: the values are those of the rows at the places, in order, none damaged
    pub values : IsLawful opener source old cache → map marked a.items ≡ reply_to e (told opener source old) places
    -- and the expression overflows at none
    pub no_overflow : IsLawful opener source old cache → NeverOverflows e (told opener source old) places
    -- where the cache tells its events: no key was put more often than it was asked for, and what came was put
    pub puts : IfSome (ended_since cache cache') (PutsWhatItAsked source old new cache cache')

  -- Why a look-up is refused by this fault.
  pub record IsLookupRefusedFor (cache cache' : CacheState SegmentKey) (f : LookupFault) : Type 0 where
    -- the fault has its cause, as far as objects tell
    pub cause : HasLookupCause opener source e places cache old new f
    -- over lawful objects that do not fail, places that are there, sound and without overflow are refused by want of memory alone
    pub complete : IsLawful opener source old cache → IsAnswerable e (told opener source old) places
        → NoneFailed opener source old new → f ≡ fault.NoMemory

  -- What a look-up does to its files and to the cache, whatever it answers.
  pub record LookupMoves (kept kept' : List KeptData) (cache cache' : CacheState SegmentKey) : Type 0 where
    -- each file tells what it told, no count of it fell, and its opener was polled no more than it put off an answer, and once
    pub moves : EachMoves opener source old new
    -- there are as many files
    pub count : length new ≡ length old
    -- only files that a place names are touched, no opener that has answered is polled, and what was opened stays open
    pub opens : OpensNamed opener source e places old new kept kept'
    -- no request is live
    pub idle : All (IsIdle opener source) new
    -- over lawful objects: each segment that was asked is touched by a row that a place names, at a needed leaf, and named
    pub touched : IsLawful opener source old cache → EachAsksTouched opener source e places old new
    -- no source was asked for one segment twice
    pub once : EachAsksOnce opener source e places old new
    -- entries only went, but for those that the files' sources gave
    pub entries : CacheMoves source old new cache cache'
    -- objects that were lawful are lawful
    pub lawful : IsLawful opener source old cache → IsLawful opener source new cache'
    -- where the cache tells its events: each ask and each put comes after a lookup that missed
    pub lookups : IfSome (ended_since cache cache') (LooksUpFirst source old new)
