use Rattle.std.proofs.Common.{◌≡◌, ◌<◌, ◌+◌, ◌++◌, ◌∷◌, [], ◌∙◌, List, ℕ, Some, length, inr, arith, sym, subst, rules}
use Rattle.std.specs.List.{slice_get}
use Rattle.scan_drive.specs.declared.files.ScanFile.{ScanFile}
use Rattle.scan_seek.specs.KeptData.{KeptData}
use Rattle.scan_lookup.specs.Reading.{Values, ReadsGroup}
use Rattle.scan_lookup.specs.declared.groups.Group.{Group}
use Rattle.scan_lookup.proofs.Gathering.{ReadSoFar, so_far_none, read_none, so_far_next, read_next, counts_next, one_fails, reads_groups, read_all, readable_at, readable_now}
use Rattle.scan_lookup.proofs.Listing.{got_at}
use Rattle.scan_lookup.proofs.looking.read_groups.Goals as goal

pub loop-i-init : goal.loop-i-init
loop-i-init g c =
    let source = g.S.SegmentSource.state in
    let cache = g.C.KeyedSegmentCache.cache in
    let kept : List KeptData = c.args.kept.now in
    let old : List (ScanFile g.row.O.Denot g.row.S.Denot) = c.args.files.now.items in
    let none : c.in_ok-values.values.items ≡ [] = search rules in
    record {
      so_far = so_far_none source kept old (cache c.args.cache.now) c.args.groups.now c.requires.idle;
      read = subst (λ (vss : List Values). ReadSoFar source kept old (cache c.args.cache.now) c.args.groups.now 0 vss) (sym none) (read_none source kept old (cache c.args.cache.now) c.args.groups.now);
      counts = λ report. (report, λ lost first keep n b. b);
      most = omega arith;
    }

pub read_group-requires-clause-even : goal.read_group-requires-clause-even
read_group-requires-clause-even g c =
    let source = g.S.SegmentSource.state in
    let cache = g.C.KeyedSegmentCache.cache in
    let inv = c.loop-i.invariant in
    let kept : List KeptData = c.args.kept.now in
    let gs : List Group = c.args.groups.now in
    let i : ℕ = c.loop-i.i in
    let own : Group = c.index-groups-i.result in
    let lt : i < length gs = omega (arith, c.loop-i-test.true) in
    let there : slice_get gs i ≡ Some own = got_at gs i own lt c.index-groups-i.is in
    let old : List (ScanFile g.row.O.Denot g.row.S.Denot) = c.args.files.now.items in
    let cur : List (ScanFile g.row.O.Denot g.row.S.Denot) = c.loop-i.files.items in
    let x = cache c.args.cache.now in
    let y = cache c.loop-i.cache in
    c.requires.even ∙ sym inv.so_far.reads.count

pub read_group-requires-clause-readable : goal.read_group-requires-clause-readable
read_group-requires-clause-readable g c =
    let source = g.S.SegmentSource.state in
    let cache = g.C.KeyedSegmentCache.cache in
    let inv = c.loop-i.invariant in
    let kept : List KeptData = c.args.kept.now in
    let gs : List Group = c.args.groups.now in
    let i : ℕ = c.loop-i.i in
    let own : Group = c.index-groups-i.result in
    let lt : i < length gs = omega (arith, c.loop-i-test.true) in
    let there : slice_get gs i ≡ Some own = got_at gs i own lt c.index-groups-i.is in
    let old : List (ScanFile g.row.O.Denot g.row.S.Denot) = c.args.files.now.items in
    let cur : List (ScanFile g.row.O.Denot g.row.S.Denot) = c.loop-i.files.items in
    let x = cache c.args.cache.now in
    let y = cache c.loop-i.cache in
    readable_now source kept old cur x y gs i inv.so_far own (readable_at old kept gs i own there c.requires.readable)

pub read_group-requires-clause-idle : goal.read_group-requires-clause-idle
read_group-requires-clause-idle g c =
    let source = g.S.SegmentSource.state in
    let cache = g.C.KeyedSegmentCache.cache in
    let inv = c.loop-i.invariant in
    let kept : List KeptData = c.args.kept.now in
    let gs : List Group = c.args.groups.now in
    let i : ℕ = c.loop-i.i in
    let own : Group = c.index-groups-i.result in
    let lt : i < length gs = omega (arith, c.loop-i-test.true) in
    let there : slice_get gs i ≡ Some own = got_at gs i own lt c.index-groups-i.is in
    let old : List (ScanFile g.row.O.Denot g.row.S.Denot) = c.args.files.now.items in
    let cur : List (ScanFile g.row.O.Denot g.row.S.Denot) = c.loop-i.files.items in
    let x = cache c.args.cache.now in
    let y = cache c.loop-i.cache in
    inv.so_far.reads.idle

pub returns-in-Err-clause-reads : goal.returns-in-Err-clause-reads
returns-in-Err-clause-reads g c =
    let source = g.S.SegmentSource.state in
    let cache = g.C.KeyedSegmentCache.cache in
    let inv = c.loop-i.invariant in
    let kept : List KeptData = c.args.kept.now in
    let gs : List Group = c.args.groups.now in
    let i : ℕ = c.loop-i.i in
    let own : Group = c.index-groups-i.result in
    let lt : i < length gs = omega (arith, c.loop-i-test.true) in
    let there : slice_get gs i ≡ Some own = got_at gs i own lt c.index-groups-i.is in
    let old : List (ScanFile g.row.O.Denot g.row.S.Denot) = c.args.files.now.items in
    let cur : List (ScanFile g.row.O.Denot g.row.S.Denot) = c.loop-i.files.items in
    let x = cache c.args.cache.now in
    let y = cache c.loop-i.cache in
    let new : List (ScanFile g.row.O.Denot g.row.S.Denot) = c.read_group.new.files.items in
    let z = cache c.read_group.new.cache in
    let step : ReadsGroup source kept cur new y z own = c.read_group.ensures.reads in
    let more = so_far_next source kept old cur new x y z gs i own c.requires.apart there inv.so_far step in
    reads_groups source kept old new x z gs (i + 1) more

pub returns-in-Err-clause-fault : goal.returns-in-Err-clause-fault
returns-in-Err-clause-fault g c =
    let source = g.S.SegmentSource.state in
    let cache = g.C.KeyedSegmentCache.cache in
    let inv = c.loop-i.invariant in
    let kept : List KeptData = c.args.kept.now in
    let gs : List Group = c.args.groups.now in
    let i : ℕ = c.loop-i.i in
    let own : Group = c.index-groups-i.result in
    let lt : i < length gs = omega (arith, c.loop-i-test.true) in
    let there : slice_get gs i ≡ Some own = got_at gs i own lt c.index-groups-i.is in
    let old : List (ScanFile g.row.O.Denot g.row.S.Denot) = c.args.files.now.items in
    let cur : List (ScanFile g.row.O.Denot g.row.S.Denot) = c.loop-i.files.items in
    let x = cache c.args.cache.now in
    let y = cache c.loop-i.cache in
    let new : List (ScanFile g.row.O.Denot g.row.S.Denot) = c.read_group.new.files.items in
    let z = cache c.read_group.new.cache in
    let step : ReadsGroup source kept cur new y z own = c.read_group.ensures.reads in
    let more = so_far_next source kept old cur new x y z gs i own c.requires.apart there inv.so_far step in
    inr (one_fails source kept old cur new x y z gs i own c.requires.apart there inv.so_far step c.requires.idle (readable_at old kept gs i own there c.requires.readable).listed c.in-Err.fault c.in-Err.ensures.fault)

pub returns-in_err-push-in-Ok-clause-reads : goal.returns-in_err-push-in-Ok-clause-reads
returns-in_err-push-in-Ok-clause-reads g c =
    let source = g.S.SegmentSource.state in
    let cache = g.C.KeyedSegmentCache.cache in
    let inv = c.loop-i.invariant in
    let kept : List KeptData = c.args.kept.now in
    let gs : List Group = c.args.groups.now in
    let i : ℕ = c.loop-i.i in
    let own : Group = c.index-groups-i.result in
    let lt : i < length gs = omega (arith, c.loop-i-test.true) in
    let there : slice_get gs i ≡ Some own = got_at gs i own lt c.index-groups-i.is in
    let old : List (ScanFile g.row.O.Denot g.row.S.Denot) = c.args.files.now.items in
    let cur : List (ScanFile g.row.O.Denot g.row.S.Denot) = c.loop-i.files.items in
    let x = cache c.args.cache.now in
    let y = cache c.loop-i.cache in
    let new : List (ScanFile g.row.O.Denot g.row.S.Denot) = c.read_group.new.files.items in
    let z = cache c.read_group.new.cache in
    let step : ReadsGroup source kept cur new y z own = c.read_group.ensures.reads in
    let more = so_far_next source kept old cur new x y z gs i own c.requires.apart there inv.so_far step in
    reads_groups source kept old new x z gs (i + 1) more

pub loop-i-preserved : goal.loop-i-preserved
loop-i-preserved g c =
    let source = g.S.SegmentSource.state in
    let cache = g.C.KeyedSegmentCache.cache in
    let inv = c.loop-i.invariant in
    let kept : List KeptData = c.args.kept.now in
    let gs : List Group = c.args.groups.now in
    let i : ℕ = c.loop-i.i in
    let own : Group = c.index-groups-i.result in
    let lt : i < length gs = omega (arith, c.loop-i-test.true) in
    let there : slice_get gs i ≡ Some own = got_at gs i own lt c.index-groups-i.is in
    let old : List (ScanFile g.row.O.Denot g.row.S.Denot) = c.args.files.now.items in
    let cur : List (ScanFile g.row.O.Denot g.row.S.Denot) = c.loop-i.files.items in
    let x = cache c.args.cache.now in
    let y = cache c.loop-i.cache in
    let new : List (ScanFile g.row.O.Denot g.row.S.Denot) = c.read_group.new.files.items in
    let z = cache c.read_group.new.cache in
    let step : ReadsGroup source kept cur new y z own = c.read_group.ensures.reads in
    let more = so_far_next source kept old cur new x y z gs i own c.requires.apart there inv.so_far step in
    let pushed : c.push.new.self.items ≡ c.loop-i.values.items ++ (c.in-Ok.own ∷ []) = search rules in
    record {
      so_far = more;
      read = subst (λ (vss : List Values). ReadSoFar source kept old x gs (i + 1) vss) (sym pushed)
          (read_next source kept old cur new x y z gs i own c.requires.apart there inv.so_far step c.loop-i.values.items c.in-Ok.own inv.read c.in-Ok.ensures.values);
      counts = counts_next source kept old cur new x y z gs i own c.requires.apart there inv.so_far step inv.counts c.in-Ok.ensures.counts;
      most = omega (arith, lt);
    }

pub returns-in_err-values-clause-reads : goal.returns-in_err-values-clause-reads
returns-in_err-values-clause-reads g c =
    let source = g.S.SegmentSource.state in
    let e = g.C.KeyedSegmentCache.cache c.args.cache.now in
    let old : List (ScanFile g.row.O.Denot g.row.S.Denot) = c.args.files.now.items in
    reads_groups source c.args.kept.now old old e e c.args.groups.now 0 (so_far_none source c.args.kept.now old e c.args.groups.now c.requires.idle)

pub returns-clause-reads : goal.returns-clause-reads
returns-clause-reads g c =
    let cache = g.C.KeyedSegmentCache.cache in
    reads_groups g.S.SegmentSource.state c.args.kept.now c.args.files.now.items c.loop-i.files.items (cache c.args.cache.now) (cache c.loop-i.cache) c.args.groups.now c.loop-i.i c.loop-i.invariant.so_far

pub returns-clause-values : goal.returns-clause-values
returns-clause-values g c =
    let gs : List Group = c.args.groups.now in
    let i : ℕ = c.loop-i.i in
    let end : i ≡ length gs = omega (arith, c.loop-i-test.false, c.loop-i.invariant.most) in
    read_all g.S.SegmentSource.state c.args.kept.now c.args.files.now.items (g.C.KeyedSegmentCache.cache c.args.cache.now) gs i c.loop-i.values.items c.loop-i.invariant.read end

pub returns-clause-counts : goal.returns-clause-counts
returns-clause-counts g c = c.loop-i.invariant.counts
