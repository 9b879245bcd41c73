use Rattle.std.proofs.Common.{◌≡◌, List, Some, map, subst, sym}
use Rattle.scan_values.specs.Values.{val_of}
use Rattle.std.specs.Prelude.{All}
use Rattle.scan_drive.specs.declared.files.ScanFile.{ScanFile}
use Rattle.scan_seek.specs.KeptData.{KeptData}
use Rattle.scan_places.specs.declared.place.Place.{Place}
use Rattle.scan_lookup.specs.Grouped.{AreGrouped}
use Rattle.scan_lookup.specs.declared.groups.Group.{Group}
use Rattle.scan_lookup.specs.declared.groups.Slot.{Slot}
use Rattle.scan_lookup.specs.Reading.{AllAreRead, AreApart, FailsGroups, HasValue, IsReadable, ReadsGroups, slot_value}
use Rattle.scan_lookup.proofs.Answering.{reads_none}
use Rattle.scan_lookup.proofs.Slotting.{all_readable, named_fails, places_read, slots_there, values_there}
use Rattle.scan_lookup.proofs.looking.read_places.Goals as goal

pub returns-in_err-by_file-clause-reads : goal.returns-in_err-by_file-clause-reads
returns-in_err-by_file-clause-reads g c = reads_none g.S.SegmentSource.state c.args.kept.now c.args.files.now.items (g.C.KeyedSegmentCache.cache c.args.cache.now) c.args.places.now c.requires.idle

pub read_groups-requires-clause-readable : goal.read_groups-requires-clause-readable
read_groups-requires-clause-readable g c =
    let source = g.S.SegmentSource.state in
    let cache = g.C.KeyedSegmentCache.cache in
    let kept : List KeptData = c.args.kept.now in
    let places : List Place = c.args.places.now in
    let old : List (ScanFile g.row.O.Denot g.row.S.Denot) = c.args.files.now.items in
    let gs : List Group = c.in_ok-by_file.by_file.groups.items in
    let ss : List Slot = c.in_ok-by_file.by_file.slots.items in
    let are : AreGrouped places gs ss = c.in_ok-by_file.ensures in
    let same : c.as_slice-groups.result.now ≡ gs = c.as_slice-groups.ensures.value in
    subst (All (IsReadable old kept)) (sym same) (all_readable old kept places gs c.requires.there are.are)

pub read_groups-requires-clause-apart : goal.read_groups-requires-clause-apart
read_groups-requires-clause-apart g c =
    let source = g.S.SegmentSource.state in
    let cache = g.C.KeyedSegmentCache.cache in
    let kept : List KeptData = c.args.kept.now in
    let places : List Place = c.args.places.now in
    let old : List (ScanFile g.row.O.Denot g.row.S.Denot) = c.args.files.now.items in
    let gs : List Group = c.in_ok-by_file.by_file.groups.items in
    let ss : List Slot = c.in_ok-by_file.by_file.slots.items in
    let are : AreGrouped places gs ss = c.in_ok-by_file.ensures in
    let same : c.as_slice-groups.result.now ≡ gs = c.as_slice-groups.ensures.value in
    subst AreApart (sym same) are.once

pub returns-clause-reads : goal.returns-clause-reads
returns-clause-reads g c =
    let source = g.S.SegmentSource.state in
    let cache = g.C.KeyedSegmentCache.cache in
    let kept : List KeptData = c.args.kept.now in
    let places : List Place = c.args.places.now in
    let old : List (ScanFile g.row.O.Denot g.row.S.Denot) = c.args.files.now.items in
    let gs : List Group = c.in_ok-by_file.by_file.groups.items in
    let ss : List Slot = c.in_ok-by_file.by_file.slots.items in
    let are : AreGrouped places gs ss = c.in_ok-by_file.ensures in
    let same : c.as_slice-groups.result.now ≡ gs = c.as_slice-groups.ensures.value in
    let new : List (ScanFile g.row.O.Denot g.row.S.Denot) = c.read_groups.new.files.items in
    let x = cache c.args.cache.now in
    let y = cache c.read_groups.new.cache in
    places_read source kept old new x y places gs ss are (subst (ReadsGroups source kept old new x y) same c.read_groups.ensures.reads)

pub returns-clause-fault : goal.returns-clause-fault
returns-clause-fault g c =
    let source = g.S.SegmentSource.state in
    let cache = g.C.KeyedSegmentCache.cache in
    let kept : List KeptData = c.args.kept.now in
    let places : List Place = c.args.places.now in
    let old : List (ScanFile g.row.O.Denot g.row.S.Denot) = c.args.files.now.items in
    let gs : List Group = c.in_ok-by_file.by_file.groups.items in
    let ss : List Slot = c.in_ok-by_file.by_file.slots.items in
    let are : AreGrouped places gs ss = c.in_ok-by_file.ensures in
    let same : c.as_slice-groups.result.now ≡ gs = c.as_slice-groups.ensures.value in
    let new : List (ScanFile g.row.O.Denot g.row.S.Denot) = c.read_groups.new.files.items in
    let x = cache c.args.cache.now in
    let y = cache c.read_groups.new.cache in
    named_fails source kept old new x y places gs ss are c.in-Err.fault (subst (λ hs. FailsGroups source kept old new x hs c.in-Err.fault) same c.in-Err.ensures.fault)

pub returns-in_err-picked-in-Ok-clause-reads : goal.returns-in_err-picked-in-Ok-clause-reads
returns-in_err-picked-in-Ok-clause-reads g c =
    let source = g.S.SegmentSource.state in
    let cache = g.C.KeyedSegmentCache.cache in
    let kept : List KeptData = c.args.kept.now in
    let places : List Place = c.args.places.now in
    let old : List (ScanFile g.row.O.Denot g.row.S.Denot) = c.args.files.now.items in
    let gs : List Group = c.in_ok-by_file.by_file.groups.items in
    let ss : List Slot = c.in_ok-by_file.by_file.slots.items in
    let are : AreGrouped places gs ss = c.in_ok-by_file.ensures in
    let same : c.as_slice-groups.result.now ≡ gs = c.as_slice-groups.ensures.value in
    let new : List (ScanFile g.row.O.Denot g.row.S.Denot) = c.read_groups.new.files.items in
    let x = cache c.args.cache.now in
    let y = cache c.read_groups.new.cache in
    places_read source kept old new x y places gs ss are (subst (ReadsGroups source kept old new x y) same c.read_groups.ensures.reads)

pub returns-in-Ok-clause-reads : goal.returns-in-Ok-clause-reads
returns-in-Ok-clause-reads g c =
    let source = g.S.SegmentSource.state in
    let cache = g.C.KeyedSegmentCache.cache in
    let kept : List KeptData = c.args.kept.now in
    let places : List Place = c.args.places.now in
    let old : List (ScanFile g.row.O.Denot g.row.S.Denot) = c.args.files.now.items in
    let gs : List Group = c.in_ok-by_file.by_file.groups.items in
    let ss : List Slot = c.in_ok-by_file.by_file.slots.items in
    let are : AreGrouped places gs ss = c.in_ok-by_file.ensures in
    let same : c.as_slice-groups.result.now ≡ gs = c.as_slice-groups.ensures.value in
    let new : List (ScanFile g.row.O.Denot g.row.S.Denot) = c.read_groups.new.files.items in
    let x = cache c.args.cache.now in
    let y = cache c.read_groups.new.cache in
    places_read source kept old new x y places gs ss are (subst (ReadsGroups source kept old new x y) same c.read_groups.ensures.reads)

pub picked-requires : goal.picked-requires
picked-requires g c =
    let source = g.S.SegmentSource.state in
    let cache = g.C.KeyedSegmentCache.cache in
    let kept : List KeptData = c.args.kept.now in
    let places : List Place = c.args.places.now in
    let old : List (ScanFile g.row.O.Denot g.row.S.Denot) = c.args.files.now.items in
    let gs : List Group = c.in_ok-by_file.by_file.groups.items in
    let ss : List Slot = c.in_ok-by_file.by_file.slots.items in
    let are : AreGrouped places gs ss = c.in_ok-by_file.ensures in
    let same : c.as_slice-groups.result.now ≡ gs = c.as_slice-groups.ensures.value in
    let new : List (ScanFile g.row.O.Denot g.row.S.Denot) = c.read_groups.new.files.items in
    let x = cache c.args.cache.now in
    let y = cache c.read_groups.new.cache in
    let read : AllAreRead source kept old x gs c.in-Ok.values.items = subst (λ hs. AllAreRead source kept old x hs c.in-Ok.values.items) same c.in-Ok.ensures.values in
    let vss : c.as_slice.result.now ≡ c.in-Ok.values.items = c.as_slice.ensures.value in
    let slots : c.as_slice-slots.result.now ≡ ss = c.as_slice-slots.ensures.value in
    subst (λ zs. All (HasValue zs) c.as_slice-slots.result.now) (sym vss) (subst (All (HasValue c.in-Ok.values.items)) (sym slots) (slots_there source kept old x gs c.in-Ok.values.items read places ss are.slots))

pub returns-in-Ok-clause-values : goal.returns-in-Ok-clause-values
returns-in-Ok-clause-values g c =
    let source = g.S.SegmentSource.state in
    let cache = g.C.KeyedSegmentCache.cache in
    let kept : List KeptData = c.args.kept.now in
    let places : List Place = c.args.places.now in
    let old : List (ScanFile g.row.O.Denot g.row.S.Denot) = c.args.files.now.items in
    let gs : List Group = c.in_ok-by_file.by_file.groups.items in
    let ss : List Slot = c.in_ok-by_file.by_file.slots.items in
    let are : AreGrouped places gs ss = c.in_ok-by_file.ensures in
    let same : c.as_slice-groups.result.now ≡ gs = c.as_slice-groups.ensures.value in
    let new : List (ScanFile g.row.O.Denot g.row.S.Denot) = c.read_groups.new.files.items in
    let x = cache c.args.cache.now in
    let y = cache c.read_groups.new.cache in
    let read : AllAreRead source kept old x gs c.in-Ok.values.items = subst (λ hs. AllAreRead source kept old x hs c.in-Ok.values.items) same c.in-Ok.ensures.values in
    let vss : c.as_slice.result.now ≡ c.in-Ok.values.items = c.as_slice.ensures.value in
    let slots : c.as_slice-slots.result.now ≡ ss = c.as_slice-slots.ensures.value in
    values_there source kept old x gs c.in-Ok.values.items read places ss (map val_of c.in_ok-picked-in-Ok.field-0.items) are.slots
    (subst (λ zs. map Some (map val_of c.in_ok-picked-in-Ok.field-0.items) ≡ map (slot_value zs) ss) vss (subst (λ zs. map Some (map val_of c.in_ok-picked-in-Ok.field-0.items) ≡ map (slot_value c.as_slice.result.now) zs) slots c.in_ok-picked-in-Ok.ensures))
