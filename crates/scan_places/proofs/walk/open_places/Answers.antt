use Rattle.std.proofs.Common.{◌≡◌, ◌+◌, ◌++◌, ◌<◌, ◌≤◌, [], ◌∷◌, ◌∙◌, List, ℕ, true, Some, get_or, take, length, arith, refl, sym, ap, subst}
use Rattle.std.specs.List.{slice_get}
use Rattle.scan_values.specs.Selections.{is_among}
use Rattle.scan_drive.specs.declared.files.ScanFile.{ScanFile}
use Rattle.scan_seek.specs.KeptData.{KeptData}
use Rattle.scan_places.specs.Walks.{files_of, Walks, Walked}
use Rattle.scan_places.specs.declared.place.Place.{Place}
use Rattle.scan_places.proofs.Walking.{walks_self, walked_none, walks_then, walked_then, fails_places}
use Rattle.scan_places.proofs.Placing.{file_among, place_there, take_next, take_whole}
use Rattle.scan_places.proofs.walk.open_places.Goals as goal

pub loop-i-init : goal.loop-i-init
loop-i-init g c = record {
  walks = walks_self g.O.LayoutReaderFactory.opener c.args.projection.now (files_of c.args.places.now) c.args.files.now.items c.args.kept.now.items c.requires.kept c.requires.even;
  walked = walked_none g.O.LayoutReaderFactory.opener c.args.projection.now c.args.files.now.items c.args.kept.now.items;
}

pub loop-i-preserved : goal.loop-i-preserved
loop-i-preserved g c =
    let opener = g.O.LayoutReaderFactory.opener in
    let e = c.args.projection.now in
    let inv = c.loop-i.invariant in
    let i = c.loop-i.i in
    let places = c.args.places.now in
    let d : Place = record { file = 0; row = 0 } in
    let p : Place = get_or places i d in
    let lt : i < length places = omega (arith, c.loop-i-test.true) in
    let old : List (ScanFile g.row.O.Denot g.row.S.Denot) = c.args.files.now.items in
    let mid : List (ScanFile g.row.O.Denot g.row.S.Denot) = c.loop-i.files.items in
    let new : List (ScanFile g.row.O.Denot g.row.S.Denot) = c.walk_one.new.files.items in
    let x = c.args.kept.now.items in
    let y = c.loop-i.kept.items in
    let z = c.walk_one.new.kept.items in
    let there = place_there places i d lt in
    let n : is_among (files_of places) p.file ≡ true = file_among places i p there in
    record {
      walks = walks_then opener e (files_of places) p.file (take i places) old mid new x y z inv.walks inv.walked c.walk_one.ensures.opens n;
      walked = subst (λ (d : List Place). Walked d old new x z) (sym (take_next places i p there))
          (walked_then opener e (files_of places) p.file (take i places) old mid new x y z inv.walks inv.walked c.walk_one.ensures.opens n p c.in-Ok.ensures.walked);
    }

pub returns-in-Err-clause-opens : goal.returns-in-Err-clause-opens
returns-in-Err-clause-opens g c =
    let opener = g.O.LayoutReaderFactory.opener in
    let e = c.args.projection.now in
    let inv = c.loop-i.invariant in
    let i = c.loop-i.i in
    let places = c.args.places.now in
    let d : Place = record { file = 0; row = 0 } in
    let p : Place = get_or places i d in
    let lt : i < length places = omega (arith, c.loop-i-test.true) in
    let old : List (ScanFile g.row.O.Denot g.row.S.Denot) = c.args.files.now.items in
    let mid : List (ScanFile g.row.O.Denot g.row.S.Denot) = c.loop-i.files.items in
    let new : List (ScanFile g.row.O.Denot g.row.S.Denot) = c.walk_one.new.files.items in
    let there = place_there places i d lt in
    let n : is_among (files_of places) p.file ≡ true = file_among places i p there in
    walks_then opener e (files_of places) p.file (take i places) old mid new c.args.kept.now.items c.loop-i.kept.items c.walk_one.new.kept.items inv.walks inv.walked c.walk_one.ensures.opens n

pub returns-in-Err-clause-fault : goal.returns-in-Err-clause-fault
returns-in-Err-clause-fault g c =
    let opener = g.O.LayoutReaderFactory.opener in
    let e = c.args.projection.now in
    let inv = c.loop-i.invariant in
    let i = c.loop-i.i in
    let places = c.args.places.now in
    let d : Place = record { file = 0; row = 0 } in
    let p : Place = get_or places i d in
    let lt : i < length places = omega (arith, c.loop-i-test.true) in
    let old : List (ScanFile g.row.O.Denot g.row.S.Denot) = c.args.files.now.items in
    let mid : List (ScanFile g.row.O.Denot g.row.S.Denot) = c.loop-i.files.items in
    let new : List (ScanFile g.row.O.Denot g.row.S.Denot) = c.walk_one.new.files.items in
    fails_places opener e (files_of places) old mid new c.args.kept.now.items c.loop-i.kept.items inv.walks places i p c.in-Err.fault (place_there places i d lt) inv.walked c.in-Err.ensures.fault

pub returns-clause-opens : goal.returns-clause-opens
returns-clause-opens g c = c.loop-i.invariant.walks

pub returns-clause-there : goal.returns-clause-there
returns-clause-there g c =
    let places = c.args.places.now in
    let end : length places ≤ c.loop-i.i = omega (arith, c.loop-i-test.false) in
    subst (Rattle.std.specs.Prelude.All (Rattle.scan_places.specs.Walks.HasPlaceRow c.loop-i.files.items c.loop-i.kept.items)) (take_whole places c.loop-i.i end) c.loop-i.invariant.walked.there
