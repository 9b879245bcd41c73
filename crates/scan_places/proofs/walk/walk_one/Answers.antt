use Rattle.std.proofs.Common.{◌≡◌, ◌≤◌, ◌<◌, ◌∷◌, [], ◌∙◌, List, ℕ, inl, get_or, length, arith, refl, sym, ap, subst}
use Rattle.scan_drive.specs.declared.files.ScanFile.{ScanFile}
use Rattle.scan_seek.specs.KeptData.{KeptData}
use Rattle.scan_seek.specs.Keeps.{IsFlawed, HasRow}
use Rattle.scan_places.specs.Walks.{kept_at, FailsRow, Walked}
use Rattle.scan_places.specs.declared.fault.PlaceFault.{PlaceFault}
use Rattle.scan_places.proofs.Walking.{walks_self, walks_of, walked_of, place_fails, opening_fails, not_unopened, flawed_kept, on_ok, on_err, one_file, index_kept}
use Rattle.scan_places.proofs.walk.walk_one.Goals as goal

pub returns-then-place-len-clause-opens : goal.returns-then-place-len-clause-opens
returns-then-place-len-clause-opens g c = walks_self g.O.LayoutReaderFactory.opener c.args.projection.now (c.args.place.file ∷ []) c.args.files.now.items c.args.kept.now.items c.requires.kept c.requires.even

pub returns-then-place-len-clause-fault : goal.returns-then-place-len-clause-fault
returns-then-place-len-clause-fault g c = (refl, inl (omega (arith, c.if-place-len.true)))

pub returns-in-Err-clause-opens : goal.returns-in-Err-clause-opens
returns-in-Err-clause-opens g c =
    let old : List (ScanFile g.row.O.Denot g.row.S.Denot) = c.args.files.now.items in
    let new : List (ScanFile g.row.O.Denot g.row.S.Denot) = c.open_at.new.files.items in
    let lt : c.args.place.file < length old = omega (arith, c.if-place-len.false) in
    walks_of g.O.LayoutReaderFactory.opener c.args.projection.now c.args.place.file old new c.args.kept.now.items c.open_at.new.kept.items c.open_at.ensures.opens (one_file old c.args.place.file lt) c.requires.kept c.requires.even

pub returns-in-Err-clause-fault : goal.returns-in-Err-clause-fault
returns-in-Err-clause-fault g c =
    let old : List (ScanFile g.row.O.Denot g.row.S.Denot) = c.args.files.now.items in
    let new : List (ScanFile g.row.O.Denot g.row.S.Denot) = c.open_at.new.files.items in
    let lt : c.args.place.file < length old = omega (arith, c.if-place-len.false) in
    opening_fails g.O.LayoutReaderFactory.opener c.args.projection.now c.args.number c.args.place old new c.args.kept.now.items c.open_at.new.kept.items c.open_at.ensures.opens lt c.in-Err.fault c.in-Err.ensures.fault

pub returns-in-Ok-clause-opens : goal.returns-in-Ok-clause-opens
returns-in-Ok-clause-opens g c =
    let old : List (ScanFile g.row.O.Denot g.row.S.Denot) = c.args.files.now.items in
    let new : List (ScanFile g.row.O.Denot g.row.S.Denot) = c.open_at.new.files.items in
    let lt : c.args.place.file < length old = omega (arith, c.if-place-len.false) in
    walks_of g.O.LayoutReaderFactory.opener c.args.projection.now c.args.place.file old new c.args.kept.now.items c.open_at.new.kept.items c.open_at.ensures.opens (one_file old c.args.place.file lt) c.requires.kept c.requires.even

pub check_row-requires-clause-open : goal.check_row-requires-clause-open
check_row-requires-clause-open g c =
    let old : List (ScanFile g.row.O.Denot g.row.S.Denot) = c.args.files.now.items in
    let lt : c.args.place.file < length c.open_at.new.kept.items = (let n = c.requires.even in let m = c.open_at.ensures.opens.even in omega (arith, n, m, c.if-place-len.false)) in
    not_unopened c.index.result.now (subst (λ (k : KeptData). Rattle.scan_seek.specs.Keeps.is_open k ≡ Rattle.std.proofs.Common.true) (sym (index_kept c.open_at.new.kept.items c.args.place.file c.index.result.now lt c.index.ensures)) c.in-Ok.ensures.open)

pub check_row-requires-clause-flawed : goal.check_row-requires-clause-flawed
check_row-requires-clause-flawed g c =
    let old : List (ScanFile g.row.O.Denot g.row.S.Denot) = c.args.files.now.items in
    let new : List (ScanFile g.row.O.Denot g.row.S.Denot) = c.open_at.new.files.items in
    let olt : c.args.place.file < length old = omega (arith, c.if-place-len.false) in
    let lt : c.args.place.file < length c.open_at.new.kept.items = (let n = c.requires.even in let m = c.open_at.ensures.opens.even in omega (arith, n, m, c.if-place-len.false)) in
    let f = one_file old c.args.place.file olt in
    subst (λ (k : KeptData). IsFlawed (c.args.projection.now).scope k) (sym (index_kept c.open_at.new.kept.items c.args.place.file c.index.result.now lt c.index.ensures))
    (flawed_kept c.args.projection.now (g.O.LayoutReaderFactory.opener (get_or new c.args.place.file f).opener) (kept_at c.open_at.new.kept.items c.args.place.file) (c.open_at.ensures.opens.opens f).kept_is)

pub returns-in-Ok-clause-walked : goal.returns-in-Ok-clause-walked
returns-in-Ok-clause-walked g c =
    let old : List (ScanFile g.row.O.Denot g.row.S.Denot) = c.args.files.now.items in
    let new : List (ScanFile g.row.O.Denot g.row.S.Denot) = c.open_at.new.files.items in
    let x = c.args.kept.now.items in
    let y = c.open_at.new.kept.items in
    let k = c.args.place.file in
    let lt : k < length y = (let n = c.requires.even in let m = c.open_at.ensures.opens.even in omega (arith, n, m, c.if-place-len.false)) in
    let nlt : k < length new = (let m = c.open_at.ensures.opens.count in omega (arith, m, c.if-place-len.false)) in
    on_ok c.check_row.result (λ (h : HasRow c.index.result.now c.args.place.row). walked_of g.O.LayoutReaderFactory.opener c.args.projection.now k old new x y c.open_at.ensures.opens c.args.place refl nlt c.in-Ok.ensures.open
    (subst (λ (q : KeptData). HasRow q c.args.place.row) (index_kept y k c.index.result.now lt c.index.ensures) h)) c.check_row.ensures.there

pub returns-in-Ok-clause-fault : goal.returns-in-Ok-clause-fault
returns-in-Ok-clause-fault g c =
    let old : List (ScanFile g.row.O.Denot g.row.S.Denot) = c.args.files.now.items in
    let new : List (ScanFile g.row.O.Denot g.row.S.Denot) = c.open_at.new.files.items in
    let x = c.args.kept.now.items in
    let y = c.open_at.new.kept.items in
    let k = c.args.place.file in
    let e = c.args.projection.now in
    let olt : k < length old = omega (arith, c.if-place-len.false) in
    let lt : k < length y = (let n = c.requires.even in let m = c.open_at.ensures.opens.even in omega (arith, n, m, c.if-place-len.false)) in
    on_err c.check_row.result (λ (u : PlaceFault) (h : FailsRow e.scope c.args.number c.args.place c.index.result.now u). place_fails g.O.LayoutReaderFactory.opener e c.args.number c.args.place old new x y c.open_at.ensures.opens olt u
    (subst (λ (q : KeptData). FailsRow e.scope c.args.number c.args.place q u) (index_kept y k c.index.result.now lt c.index.ensures) h)) c.check_row.ensures.fault
