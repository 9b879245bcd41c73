use Rattle.std.proofs.Common.{◌≡◌, ◌∙◌, List, length, sym, ap, subst}
use Rattle.std.specs.Prelude.{All}
use Rattle.scan_drive.specs.declared.files.ScanFile.{ScanFile}
use Rattle.scan_multi.specs.Lawful.{IsIdle}
use Rattle.scan_seek.specs.KeptData.{KeptData}
use Rattle.scan_places.specs.Walks.{files_of, HasPlaceRow, Walks}
use Rattle.scan_places.specs.declared.place.Place.{Place}
use Rattle.scan_lookup.specs.Reading.{AreValues, FailsReads, ReadsPlaces}
use Rattle.scan_lookup.proofs.Answering.{are_kept, even_still, idle_mid, look_moved, look_moves, none_touched, reads_none}
use Rattle.scan_lookup.proofs.Gathering.{all_values}
use Rattle.scan_lookup.proofs.Refusing.{all_refused, reads_cause, refused, walk_cause}
use Rattle.scan_lookup.proofs.Replying.{opened, replied}
use Rattle.scan_lookup.proofs.looking.look.Goals as goal

pub look_into-requires-clause-even : goal.look_into-requires-clause-even
look_into-requires-clause-even g c =
    let opener = g.O.LayoutReaderFactory.opener in
    let source = g.S.SegmentSource.state in
    let cache = g.C.KeyedSegmentCache.cache in
    let e = c.args.projection.now in
    let places : List Place = c.args.places.now in
    let old : List (ScanFile g.row.O.Denot g.row.S.Denot) = c.args.files.now.items in
    let mid : List (ScanFile g.row.O.Denot g.row.S.Denot) = c.open_places.new.files.items in
    let kept0 : List KeptData = c.args.kept.now.items in
    let kept : List KeptData = c.open_places.new.kept.items in
    let x = cache c.args.cache.now in
    let w : Walks opener e (files_of places) old mid kept0 kept = c.open_places.ensures.opens in
    let idle : All (IsIdle opener source) mid = idle_mid opener source e places old mid kept0 kept w c.requires.idle in
    let there : All (HasPlaceRow mid kept) places = c.in-Ok.ensures.there in
    let same : c.as_slice.result.now ≡ kept = c.as_slice.ensures.value in
    ap length same ∙ w.even

pub look_into-requires-clause-there : goal.look_into-requires-clause-there
look_into-requires-clause-there g c =
    let opener = g.O.LayoutReaderFactory.opener in
    let source = g.S.SegmentSource.state in
    let cache = g.C.KeyedSegmentCache.cache in
    let e = c.args.projection.now in
    let places : List Place = c.args.places.now in
    let old : List (ScanFile g.row.O.Denot g.row.S.Denot) = c.args.files.now.items in
    let mid : List (ScanFile g.row.O.Denot g.row.S.Denot) = c.open_places.new.files.items in
    let kept0 : List KeptData = c.args.kept.now.items in
    let kept : List KeptData = c.open_places.new.kept.items in
    let x = cache c.args.cache.now in
    let w : Walks opener e (files_of places) old mid kept0 kept = c.open_places.ensures.opens in
    let idle : All (IsIdle opener source) mid = idle_mid opener source e places old mid kept0 kept w c.requires.idle in
    let there : All (HasPlaceRow mid kept) places = c.in-Ok.ensures.there in
    let same : c.as_slice.result.now ≡ kept = c.as_slice.ensures.value in
    subst (λ q. All (HasPlaceRow mid q) places) (sym same) there

pub look_into-requires-clause-idle : goal.look_into-requires-clause-idle
look_into-requires-clause-idle g c =
    let opener = g.O.LayoutReaderFactory.opener in
    let source = g.S.SegmentSource.state in
    let cache = g.C.KeyedSegmentCache.cache in
    let e = c.args.projection.now in
    let places : List Place = c.args.places.now in
    let old : List (ScanFile g.row.O.Denot g.row.S.Denot) = c.args.files.now.items in
    let mid : List (ScanFile g.row.O.Denot g.row.S.Denot) = c.open_places.new.files.items in
    let kept0 : List KeptData = c.args.kept.now.items in
    let kept : List KeptData = c.open_places.new.kept.items in
    let x = cache c.args.cache.now in
    let w : Walks opener e (files_of places) old mid kept0 kept = c.open_places.ensures.opens in
    let idle : All (IsIdle opener source) mid = idle_mid opener source e places old mid kept0 kept w c.requires.idle in
    let there : All (HasPlaceRow mid kept) places = c.in-Ok.ensures.there in
    let same : c.as_slice.result.now ≡ kept = c.as_slice.ensures.value in
    idle

pub returns-in-Ok-clause-even : goal.returns-in-Ok-clause-even
returns-in-Ok-clause-even g c =
    let opener = g.O.LayoutReaderFactory.opener in
    let source = g.S.SegmentSource.state in
    let cache = g.C.KeyedSegmentCache.cache in
    let e = c.args.projection.now in
    let places : List Place = c.args.places.now in
    let old : List (ScanFile g.row.O.Denot g.row.S.Denot) = c.args.files.now.items in
    let mid : List (ScanFile g.row.O.Denot g.row.S.Denot) = c.open_places.new.files.items in
    let kept0 : List KeptData = c.args.kept.now.items in
    let kept : List KeptData = c.open_places.new.kept.items in
    let x = cache c.args.cache.now in
    let w : Walks opener e (files_of places) old mid kept0 kept = c.open_places.ensures.opens in
    let idle : All (IsIdle opener source) mid = idle_mid opener source e places old mid kept0 kept w c.requires.idle in
    let there : All (HasPlaceRow mid kept) places = c.in-Ok.ensures.there in
    let same : c.as_slice.result.now ≡ kept = c.as_slice.ensures.value in
    let new : List (ScanFile g.row.O.Denot g.row.S.Denot) = c.look_into.new.files.items in
    let y = cache c.look_into.new.cache in
    let r : ReadsPlaces source kept mid new x y places = subst (λ q. ReadsPlaces source q mid new x y places) same c.look_into.ensures.reads in
    even_still opener source e places old mid new kept0 kept x y w r c.requires.idle

pub returns-in-Ok-clause-kept : goal.returns-in-Ok-clause-kept
returns-in-Ok-clause-kept g c =
    let opener = g.O.LayoutReaderFactory.opener in
    let source = g.S.SegmentSource.state in
    let cache = g.C.KeyedSegmentCache.cache in
    let e = c.args.projection.now in
    let places : List Place = c.args.places.now in
    let old : List (ScanFile g.row.O.Denot g.row.S.Denot) = c.args.files.now.items in
    let mid : List (ScanFile g.row.O.Denot g.row.S.Denot) = c.open_places.new.files.items in
    let kept0 : List KeptData = c.args.kept.now.items in
    let kept : List KeptData = c.open_places.new.kept.items in
    let x = cache c.args.cache.now in
    let w : Walks opener e (files_of places) old mid kept0 kept = c.open_places.ensures.opens in
    let idle : All (IsIdle opener source) mid = idle_mid opener source e places old mid kept0 kept w c.requires.idle in
    let there : All (HasPlaceRow mid kept) places = c.in-Ok.ensures.there in
    let same : c.as_slice.result.now ≡ kept = c.as_slice.ensures.value in
    let new : List (ScanFile g.row.O.Denot g.row.S.Denot) = c.look_into.new.files.items in
    let y = cache c.look_into.new.cache in
    let r : ReadsPlaces source kept mid new x y places = subst (λ q. ReadsPlaces source q mid new x y places) same c.look_into.ensures.reads in
    are_kept opener source e places old mid new kept0 kept x y w r c.requires.idle

pub returns-in-Ok-clause-ok : goal.returns-in-Ok-clause-ok
returns-in-Ok-clause-ok g c =
    let opener = g.O.LayoutReaderFactory.opener in
    let source = g.S.SegmentSource.state in
    let cache = g.C.KeyedSegmentCache.cache in
    let e = c.args.projection.now in
    let places : List Place = c.args.places.now in
    let old : List (ScanFile g.row.O.Denot g.row.S.Denot) = c.args.files.now.items in
    let mid : List (ScanFile g.row.O.Denot g.row.S.Denot) = c.open_places.new.files.items in
    let kept0 : List KeptData = c.args.kept.now.items in
    let kept : List KeptData = c.open_places.new.kept.items in
    let x = cache c.args.cache.now in
    let w : Walks opener e (files_of places) old mid kept0 kept = c.open_places.ensures.opens in
    let idle : All (IsIdle opener source) mid = idle_mid opener source e places old mid kept0 kept w c.requires.idle in
    let there : All (HasPlaceRow mid kept) places = c.in-Ok.ensures.there in
    let same : c.as_slice.result.now ≡ kept = c.as_slice.ensures.value in
    let new : List (ScanFile g.row.O.Denot g.row.S.Denot) = c.look_into.new.files.items in
    let y = cache c.look_into.new.cache in
    let r : ReadsPlaces source kept mid new x y places = subst (λ q. ReadsPlaces source q mid new x y places) same c.look_into.ensures.reads in
    replied opener source e places old mid new kept0 kept x y w r c.requires.idle there c.look_into.result c.look_into.ensures.dtype
    (all_values c.look_into.result (λ a h. subst (λ q. AreValues source q mid x places a.items) same h) c.look_into.ensures.values) c.look_into.ensures.counts

pub returns-in-Ok-clause-open : goal.returns-in-Ok-clause-open
returns-in-Ok-clause-open g c =
    let opener = g.O.LayoutReaderFactory.opener in
    let source = g.S.SegmentSource.state in
    let cache = g.C.KeyedSegmentCache.cache in
    let e = c.args.projection.now in
    let places : List Place = c.args.places.now in
    let old : List (ScanFile g.row.O.Denot g.row.S.Denot) = c.args.files.now.items in
    let mid : List (ScanFile g.row.O.Denot g.row.S.Denot) = c.open_places.new.files.items in
    let kept0 : List KeptData = c.args.kept.now.items in
    let kept : List KeptData = c.open_places.new.kept.items in
    let x = cache c.args.cache.now in
    let w : Walks opener e (files_of places) old mid kept0 kept = c.open_places.ensures.opens in
    let idle : All (IsIdle opener source) mid = idle_mid opener source e places old mid kept0 kept w c.requires.idle in
    let there : All (HasPlaceRow mid kept) places = c.in-Ok.ensures.there in
    let same : c.as_slice.result.now ≡ kept = c.as_slice.ensures.value in
    let new : List (ScanFile g.row.O.Denot g.row.S.Denot) = c.look_into.new.files.items in
    let y = cache c.look_into.new.cache in
    let r : ReadsPlaces source kept mid new x y places = subst (λ q. ReadsPlaces source q mid new x y places) same c.look_into.ensures.reads in
    opened opener source e places old mid new kept0 kept x y w r c.requires.idle there c.look_into.result

pub returns-in-Ok-clause-err : goal.returns-in-Ok-clause-err
returns-in-Ok-clause-err g c =
    let opener = g.O.LayoutReaderFactory.opener in
    let source = g.S.SegmentSource.state in
    let cache = g.C.KeyedSegmentCache.cache in
    let e = c.args.projection.now in
    let places : List Place = c.args.places.now in
    let old : List (ScanFile g.row.O.Denot g.row.S.Denot) = c.args.files.now.items in
    let mid : List (ScanFile g.row.O.Denot g.row.S.Denot) = c.open_places.new.files.items in
    let kept0 : List KeptData = c.args.kept.now.items in
    let kept : List KeptData = c.open_places.new.kept.items in
    let x = cache c.args.cache.now in
    let w : Walks opener e (files_of places) old mid kept0 kept = c.open_places.ensures.opens in
    let idle : All (IsIdle opener source) mid = idle_mid opener source e places old mid kept0 kept w c.requires.idle in
    let there : All (HasPlaceRow mid kept) places = c.in-Ok.ensures.there in
    let same : c.as_slice.result.now ≡ kept = c.as_slice.ensures.value in
    let new : List (ScanFile g.row.O.Denot g.row.S.Denot) = c.look_into.new.files.items in
    let y = cache c.look_into.new.cache in
    let r : ReadsPlaces source kept mid new x y places = subst (λ q. ReadsPlaces source q mid new x y places) same c.look_into.ensures.reads in
    all_refused opener source e places old new x y (FailsReads source c.as_slice.result.now mid new x places)
    (λ u h. reads_cause opener source e places old x mid new kept0 kept y w r c.requires.idle there u (subst (λ q. FailsReads source q mid new x places u) same h)) c.look_into.result c.look_into.ensures.fault

pub returns-in-Ok-clause-moves : goal.returns-in-Ok-clause-moves
returns-in-Ok-clause-moves g c =
    let opener = g.O.LayoutReaderFactory.opener in
    let source = g.S.SegmentSource.state in
    let cache = g.C.KeyedSegmentCache.cache in
    let e = c.args.projection.now in
    let places : List Place = c.args.places.now in
    let old : List (ScanFile g.row.O.Denot g.row.S.Denot) = c.args.files.now.items in
    let mid : List (ScanFile g.row.O.Denot g.row.S.Denot) = c.open_places.new.files.items in
    let kept0 : List KeptData = c.args.kept.now.items in
    let kept : List KeptData = c.open_places.new.kept.items in
    let x = cache c.args.cache.now in
    let w : Walks opener e (files_of places) old mid kept0 kept = c.open_places.ensures.opens in
    let idle : All (IsIdle opener source) mid = idle_mid opener source e places old mid kept0 kept w c.requires.idle in
    let there : All (HasPlaceRow mid kept) places = c.in-Ok.ensures.there in
    let same : c.as_slice.result.now ≡ kept = c.as_slice.ensures.value in
    let new : List (ScanFile g.row.O.Denot g.row.S.Denot) = c.look_into.new.files.items in
    let y = cache c.look_into.new.cache in
    let r : ReadsPlaces source kept mid new x y places = subst (λ q. ReadsPlaces source q mid new x y places) same c.look_into.ensures.reads in
    look_moved opener source e places old mid new kept0 kept x y w r c.requires.idle there

pub returns-in-Err-clause-even : goal.returns-in-Err-clause-even
returns-in-Err-clause-even g c =
    let opener = g.O.LayoutReaderFactory.opener in
    let source = g.S.SegmentSource.state in
    let cache = g.C.KeyedSegmentCache.cache in
    let e = c.args.projection.now in
    let places : List Place = c.args.places.now in
    let old : List (ScanFile g.row.O.Denot g.row.S.Denot) = c.args.files.now.items in
    let mid : List (ScanFile g.row.O.Denot g.row.S.Denot) = c.open_places.new.files.items in
    let kept0 : List KeptData = c.args.kept.now.items in
    let kept : List KeptData = c.open_places.new.kept.items in
    let x = cache c.args.cache.now in
    let w : Walks opener e (files_of places) old mid kept0 kept = c.open_places.ensures.opens in
    let idle : All (IsIdle opener source) mid = idle_mid opener source e places old mid kept0 kept w c.requires.idle in
    let r : ReadsPlaces source kept mid mid x x places = reads_none source kept mid x places idle in
    even_still opener source e places old mid mid kept0 kept x x w r c.requires.idle

pub returns-in-Err-clause-kept : goal.returns-in-Err-clause-kept
returns-in-Err-clause-kept g c =
    let opener = g.O.LayoutReaderFactory.opener in
    let source = g.S.SegmentSource.state in
    let cache = g.C.KeyedSegmentCache.cache in
    let e = c.args.projection.now in
    let places : List Place = c.args.places.now in
    let old : List (ScanFile g.row.O.Denot g.row.S.Denot) = c.args.files.now.items in
    let mid : List (ScanFile g.row.O.Denot g.row.S.Denot) = c.open_places.new.files.items in
    let kept0 : List KeptData = c.args.kept.now.items in
    let kept : List KeptData = c.open_places.new.kept.items in
    let x = cache c.args.cache.now in
    let w : Walks opener e (files_of places) old mid kept0 kept = c.open_places.ensures.opens in
    let idle : All (IsIdle opener source) mid = idle_mid opener source e places old mid kept0 kept w c.requires.idle in
    let r : ReadsPlaces source kept mid mid x x places = reads_none source kept mid x places idle in
    are_kept opener source e places old mid mid kept0 kept x x w r c.requires.idle

pub returns-in-Err-clause-err : goal.returns-in-Err-clause-err
returns-in-Err-clause-err g c =
    let opener = g.O.LayoutReaderFactory.opener in
    let source = g.S.SegmentSource.state in
    let cache = g.C.KeyedSegmentCache.cache in
    let e = c.args.projection.now in
    let places : List Place = c.args.places.now in
    let old : List (ScanFile g.row.O.Denot g.row.S.Denot) = c.args.files.now.items in
    let mid : List (ScanFile g.row.O.Denot g.row.S.Denot) = c.open_places.new.files.items in
    let kept0 : List KeptData = c.args.kept.now.items in
    let kept : List KeptData = c.open_places.new.kept.items in
    let x = cache c.args.cache.now in
    let w : Walks opener e (files_of places) old mid kept0 kept = c.open_places.ensures.opens in
    let idle : All (IsIdle opener source) mid = idle_mid opener source e places old mid kept0 kept w c.requires.idle in
    let r : ReadsPlaces source kept mid mid x x places = reads_none source kept mid x places idle in
    refused opener source e places old mid x x c.from.result (subst (Rattle.scan_lookup.specs.Causes.HasLookupCause opener source e places x old mid) (sym c.from.ensures) (walk_cause opener source e places old x mid w.source c.in-Err.fault c.in-Err.ensures.fault))

pub returns-in-Err-clause-moves : goal.returns-in-Err-clause-moves
returns-in-Err-clause-moves g c =
    let opener = g.O.LayoutReaderFactory.opener in
    let source = g.S.SegmentSource.state in
    let cache = g.C.KeyedSegmentCache.cache in
    let e = c.args.projection.now in
    let places : List Place = c.args.places.now in
    let old : List (ScanFile g.row.O.Denot g.row.S.Denot) = c.args.files.now.items in
    let mid : List (ScanFile g.row.O.Denot g.row.S.Denot) = c.open_places.new.files.items in
    let kept0 : List KeptData = c.args.kept.now.items in
    let kept : List KeptData = c.open_places.new.kept.items in
    let x = cache c.args.cache.now in
    let w : Walks opener e (files_of places) old mid kept0 kept = c.open_places.ensures.opens in
    let idle : All (IsIdle opener source) mid = idle_mid opener source e places old mid kept0 kept w c.requires.idle in
    let r : ReadsPlaces source kept mid mid x x places = reads_none source kept mid x places idle in
    look_moves opener source e places old mid mid kept0 kept x x w r c.requires.idle (none_touched opener source e places old mid mid kept0 kept x x w r c.requires.idle w.source)
