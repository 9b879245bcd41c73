use Rattle.std.proofs.Common.{◌≡◌, ◌<◌, List, ℕ, length, map, arith, refl, sym, subst}
use Rattle.std.specs.Prelude.{All}
use Rattle.scan_values.specs.Values.{val_of}
use Rattle.scan_drive.specs.declared.files.ScanFile.{ScanFile}
use Rattle.scan_drive.proofs.Filing.{idle_at}
use Rattle.scan_seek.specs.KeptData.{KeptData}
use Rattle.scan_seek.specs.Keeps.{HasRow, IsRead}
use Rattle.scan_seek.specs.Reads.{AreRead, HasSeekCause, SeekMoves}
use Rattle.scan_places.specs.Walks.{kept_at}
use Rattle.scan_places.proofs.Walking.{index_kept}
use Rattle.scan_lookup.specs.Reading.{IsSeekFault}
use Rattle.scan_lookup.proofs.Gathering.{all_fails, all_values, group_counts, group_fails, group_is_read, group_reads, on_values}
use Rattle.scan_lookup.proofs.looking.read_group.Goals as goal

pub read_file-requires-clause-ready : goal.read_file-requires-clause-ready
read_file-requires-clause-ready g c =
    let source = g.S.SegmentSource.state in
    let cache = g.C.KeyedSegmentCache.cache in
    let kept : List KeptData = c.args.kept.now in
    let old : List (ScanFile g.row.O.Denot g.row.S.Denot) = c.args.files.now.items in
    let n : ℕ = c.args.group.now.file in
    let x : ScanFile g.row.O.Denot g.row.S.Denot = c.index_mut-file.result.now in
    let k : KeptData = c.index-kept-number.result in
    let lt : n < length old = c.requires.readable.listed in
    let is_kept : k ≡ kept_at kept n = index_kept kept n k (let m = c.requires.even in omega (arith, lt, m)) c.index-kept-number.is in
    let rows : c.as_slice-rows.result.now ≡ c.args.group.now.rows.items = c.as_slice-rows.ensures.value in
    subst IsRead (sym is_kept) c.requires.readable.read

pub read_file-requires-clause-rows : goal.read_file-requires-clause-rows
read_file-requires-clause-rows g c =
    let source = g.S.SegmentSource.state in
    let cache = g.C.KeyedSegmentCache.cache in
    let kept : List KeptData = c.args.kept.now in
    let old : List (ScanFile g.row.O.Denot g.row.S.Denot) = c.args.files.now.items in
    let n : ℕ = c.args.group.now.file in
    let x : ScanFile g.row.O.Denot g.row.S.Denot = c.index_mut-file.result.now in
    let k : KeptData = c.index-kept-number.result in
    let lt : n < length old = c.requires.readable.listed in
    let is_kept : k ≡ kept_at kept n = index_kept kept n k (let m = c.requires.even in omega (arith, lt, m)) c.index-kept-number.is in
    let rows : c.as_slice-rows.result.now ≡ c.args.group.now.rows.items = c.as_slice-rows.ensures.value in
    subst (λ (q : KeptData). All (HasRow q) c.as_slice-rows.result.now) (sym is_kept) (subst (All (HasRow (kept_at kept n))) (sym rows) c.requires.readable.rows)

pub read_file-requires-clause-idle : goal.read_file-requires-clause-idle
read_file-requires-clause-idle g c =
    let source = g.S.SegmentSource.state in
    let cache = g.C.KeyedSegmentCache.cache in
    let kept : List KeptData = c.args.kept.now in
    let old : List (ScanFile g.row.O.Denot g.row.S.Denot) = c.args.files.now.items in
    let n : ℕ = c.args.group.now.file in
    let x : ScanFile g.row.O.Denot g.row.S.Denot = c.index_mut-file.result.now in
    let k : KeptData = c.index-kept-number.result in
    let lt : n < length old = c.requires.readable.listed in
    let is_kept : k ≡ kept_at kept n = index_kept kept n k (let m = c.requires.even in omega (arith, lt, m)) c.index-kept-number.is in
    let rows : c.as_slice-rows.result.now ≡ c.args.group.now.rows.items = c.as_slice-rows.ensures.value in
    idle_at source old n x lt c.index_mut-file.ensures.value c.requires.idle

pub returns-clause-reads : goal.returns-clause-reads
returns-clause-reads g c =
    let source = g.S.SegmentSource.state in
    let cache = g.C.KeyedSegmentCache.cache in
    let kept : List KeptData = c.args.kept.now in
    let old : List (ScanFile g.row.O.Denot g.row.S.Denot) = c.args.files.now.items in
    let n : ℕ = c.args.group.now.file in
    let x : ScanFile g.row.O.Denot g.row.S.Denot = c.index_mut-file.result.now in
    let k : KeptData = c.index-kept-number.result in
    let lt : n < length old = c.requires.readable.listed in
    let is_kept : k ≡ kept_at kept n = index_kept kept n k (let m = c.requires.even in omega (arith, lt, m)) c.index-kept-number.is in
    let rows : c.as_slice-rows.result.now ≡ c.args.group.now.rows.items = c.as_slice-rows.ensures.value in
    let y : ScanFile g.row.O.Denot g.row.S.Denot = c.read_file.new.file in
    let e = cache c.args.cache.now in
    let d = cache c.read_file.new.cache in
    let own = c.args.group.now in
    let moves : SeekMoves k own.rows.items x.source_id (source x.source) (source y.source) e d = subst (λ zs. SeekMoves k zs x.source_id (source x.source) (source y.source) e d) rows c.read_file.ensures.moves in
    group_reads source kept old n x y e d own refl lt c.index_mut-file.ensures.value c.requires.idle k is_kept c.read_file.ensures.keeps moves

pub returns-clause-values : goal.returns-clause-values
returns-clause-values g c =
    let source = g.S.SegmentSource.state in
    let cache = g.C.KeyedSegmentCache.cache in
    let kept : List KeptData = c.args.kept.now in
    let old : List (ScanFile g.row.O.Denot g.row.S.Denot) = c.args.files.now.items in
    let n : ℕ = c.args.group.now.file in
    let x : ScanFile g.row.O.Denot g.row.S.Denot = c.index_mut-file.result.now in
    let k : KeptData = c.index-kept-number.result in
    let lt : n < length old = c.requires.readable.listed in
    let is_kept : k ≡ kept_at kept n = index_kept kept n k (let m = c.requires.even in omega (arith, lt, m)) c.index-kept-number.is in
    let rows : c.as_slice-rows.result.now ≡ c.args.group.now.rows.items = c.as_slice-rows.ensures.value in
    let y : ScanFile g.row.O.Denot g.row.S.Denot = c.read_file.new.file in
    let e = cache c.args.cache.now in
    let d = cache c.read_file.new.cache in
    let own = c.args.group.now in
    let moves : SeekMoves k own.rows.items x.source_id (source x.source) (source y.source) e d = subst (λ zs. SeekMoves k zs x.source_id (source x.source) (source y.source) e d) rows c.read_file.ensures.moves in
    all_values c.read_file.result (λ vs h. group_is_read source kept old n x y e d own refl lt c.index_mut-file.ensures.value c.requires.idle k is_kept c.read_file.ensures.keeps (map val_of vs.items)
    (subst (λ zs. AreRead k zs x.source_id (source x.source) e (map val_of vs.items)) rows h)) c.read_file.ensures.values

pub returns-clause-counts : goal.returns-clause-counts
returns-clause-counts g c =
    let source = g.S.SegmentSource.state in
    let cache = g.C.KeyedSegmentCache.cache in
    let kept : List KeptData = c.args.kept.now in
    let old : List (ScanFile g.row.O.Denot g.row.S.Denot) = c.args.files.now.items in
    let n : ℕ = c.args.group.now.file in
    let x : ScanFile g.row.O.Denot g.row.S.Denot = c.index_mut-file.result.now in
    let k : KeptData = c.index-kept-number.result in
    let lt : n < length old = c.requires.readable.listed in
    let is_kept : k ≡ kept_at kept n = index_kept kept n k (let m = c.requires.even in omega (arith, lt, m)) c.index-kept-number.is in
    let rows : c.as_slice-rows.result.now ≡ c.args.group.now.rows.items = c.as_slice-rows.ensures.value in
    let y : ScanFile g.row.O.Denot g.row.S.Denot = c.read_file.new.file in
    let e = cache c.args.cache.now in
    let d = cache c.read_file.new.cache in
    let own = c.args.group.now in
    let moves : SeekMoves k own.rows.items x.source_id (source x.source) (source y.source) e d = subst (λ zs. SeekMoves k zs x.source_id (source x.source) (source y.source) e d) rows c.read_file.ensures.moves in
    on_values c.read_file.result (λ h. group_counts source kept old n x y e d own refl lt c.index_mut-file.ensures.value c.requires.idle k is_kept c.read_file.ensures.keeps h) c.read_file.ensures.counts

pub returns-clause-fault : goal.returns-clause-fault
returns-clause-fault g c =
    let source = g.S.SegmentSource.state in
    let cache = g.C.KeyedSegmentCache.cache in
    let kept : List KeptData = c.args.kept.now in
    let old : List (ScanFile g.row.O.Denot g.row.S.Denot) = c.args.files.now.items in
    let n : ℕ = c.args.group.now.file in
    let x : ScanFile g.row.O.Denot g.row.S.Denot = c.index_mut-file.result.now in
    let k : KeptData = c.index-kept-number.result in
    let lt : n < length old = c.requires.readable.listed in
    let is_kept : k ≡ kept_at kept n = index_kept kept n k (let m = c.requires.even in omega (arith, lt, m)) c.index-kept-number.is in
    let rows : c.as_slice-rows.result.now ≡ c.args.group.now.rows.items = c.as_slice-rows.ensures.value in
    let y : ScanFile g.row.O.Denot g.row.S.Denot = c.read_file.new.file in
    let e = cache c.args.cache.now in
    let d = cache c.read_file.new.cache in
    let own = c.args.group.now in
    let moves : SeekMoves k own.rows.items x.source_id (source x.source) (source y.source) e d = subst (λ zs. SeekMoves k zs x.source_id (source x.source) (source y.source) e d) rows c.read_file.ensures.moves in
    all_fails c.read_file.result (λ u h. group_fails source kept old n x y e d own refl lt c.index_mut-file.ensures.value c.requires.idle k is_kept c.read_file.ensures.keeps u
    (subst (λ zs. IsSeekFault n (HasSeekCause k zs x.source_id (source x.source) (source y.source) e) u) rows h)) c.read_file.ensures.fault
