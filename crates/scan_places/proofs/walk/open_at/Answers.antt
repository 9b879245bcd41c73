use Rattle.std.proofs.Common.{◌≡◌, ◌<◌, ◌∙◌, ℕ, List, set, length, arith, refl, sym, ap, subst, get_or-set_same}
use Rattle.std.proofs.lemmas.List.{get_or_default}
use Rattle.scan_drive.specs.declared.files.ScanFile.{ScanFile}
use Rattle.scan_seek.specs.KeptData.{KeptData, unopened}
use Rattle.scan_seek.specs.Keeps.{IsKept}
use Rattle.scan_places.proofs.Walking.{opens_set, open_set, fails_set, kept_here}
use Rattle.scan_places.proofs.walk.open_at.Goals as goal

pub open_one-requires-clause-kept : goal.open_one-requires-clause-kept
open_one-requires-clause-kept g c =
    let files : List (ScanFile g.row.O.Denot g.row.S.Denot) = c.args.files.now.items in
    let x : ScanFile g.row.O.Denot g.row.S.Denot = c.index_mut-file.result.now in
    kept_here g.O.LayoutReaderFactory.opener c.args.projection.now files c.args.kept.now.items c.args.place x c.index_mut-own.result.now c.requires.below (let n = c.requires.even in let l = c.requires.below in omega (arith, n, l)) c.index_mut-file.ensures.value c.index_mut-own.ensures.value c.requires.kept

pub returns-clause-opens : goal.returns-clause-opens
returns-clause-opens g c =
    let files : List (ScanFile g.row.O.Denot g.row.S.Denot) = c.args.files.now.items in
    let x : ScanFile g.row.O.Denot g.row.S.Denot = c.index_mut-file.result.now in
    let y : ScanFile g.row.O.Denot g.row.S.Denot = record x { opener = c.open_one.new.opener } in
    opens_set g.O.LayoutReaderFactory.opener c.args.projection.now files c.args.kept.now.items c.args.place x y c.index_mut-own.result.now c.open_one.new.kept c.requires.below
    (let n = c.requires.even in let l = c.requires.below in omega (arith, n, l)) c.index_mut-file.ensures.value c.index_mut-own.ensures.value refl refl c.open_one.ensures.opens

pub returns-clause-open : goal.returns-clause-open
returns-clause-open g c =
    open_set c.open_one.result c.args.kept.now.items c.args.place c.open_one.new.kept (let n = c.requires.even in let l = c.requires.below in omega (arith, n, l)) c.open_one.ensures.open

pub returns-clause-fault : goal.returns-clause-fault
returns-clause-fault g c =
    let files : List (ScanFile g.row.O.Denot g.row.S.Denot) = c.args.files.now.items in
    let x : ScanFile g.row.O.Denot g.row.S.Denot = c.index_mut-file.result.now in
    let y : ScanFile g.row.O.Denot g.row.S.Denot = record x { opener = c.open_one.new.opener } in
    fails_set g.O.LayoutReaderFactory.opener c.open_one.result files c.args.place x y c.requires.below c.index_mut-file.ensures.value c.open_one.ensures.fault
