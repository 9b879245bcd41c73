use Rattle.std.proofs.Common.{◌≡◌, ◌<◌, ◌∙◌, List, ℕ, map, ap, sym, subst}
use Rattle.std.specs.Prelude.{All, IfOk, IfErr}
use Rattle.scan_values.specs.Values.{val_of}
use Rattle.scan_layout.specs.Layout.{rows_of}
use Rattle.scan_seek.specs.KeptData.{KeptData, ready}
use Rattle.scan_seek.specs.KeptView.{HasPlan, IsPlanOver, kept_of}
use Rattle.scan_seek.specs.Keeps.{HasRow}
use Rattle.scan_seek.specs.Reads.{AreRead, HasSeekCause, SeekMoves}
use Rattle.scan_seek.specs.declared.keeping.Kind.TheVariants as kind
use Rattle.scan_seek.proofs.Whole.{are_read, if_err, if_ok, seek_cause, seek_moves}
use Rattle.scan_seek.proofs.reading.read_rows.Goals as goal

pub returns-clause-values : goal.returns-clause-values
returns-clause-values g c =
    let l = c.in-Ready.layout.value in
    let pl = c.in-Ready.plan.value in
    let is : ready l pl.expr ≡ c.args.kept.now = sym (ap kept_of c.in-Ready.is) ∙ c.kept.view_is in
    let inv : HasPlan (kind.Ready c.in-Ready.layout c.in-Ready.plan) = subst HasPlan c.in-Ready.is c.kept.invariant in
    let over : IsPlanOver l pl.expr pl = inv.1 in
    let rows : List ℕ = c.args.rows.now in
    let below : All (λ (row : ℕ). row < rows_of l) rows = subst (λ (k : KeptData). All (HasRow k) rows) (sym is) c.requires.rows in
    let name : List ℕ = c.args.name.now in
    let s = g.S.SegmentSource.state c.args.source.now in
    let t = g.S.SegmentSource.state c.read_by.new.source in
    let x = g.C.KeyedSegmentCache.cache c.args.cache.now in
    let y = g.C.KeyedSegmentCache.cache c.read_by.new.cache in
    subst (λ (k : KeptData). IfOk c.read_by.result (λ vs. AreRead k rows name s x (map val_of vs.items))) is
    (if_ok c.read_by.result (λ vs h. are_read l pl.expr pl over rows below name s x (map val_of vs.items) h) c.read_by.ensures.values)

pub returns-clause-fault : goal.returns-clause-fault
returns-clause-fault g c =
    let l = c.in-Ready.layout.value in
    let pl = c.in-Ready.plan.value in
    let is : ready l pl.expr ≡ c.args.kept.now = sym (ap kept_of c.in-Ready.is) ∙ c.kept.view_is in
    let inv : HasPlan (kind.Ready c.in-Ready.layout c.in-Ready.plan) = subst HasPlan c.in-Ready.is c.kept.invariant in
    let over : IsPlanOver l pl.expr pl = inv.1 in
    let rows : List ℕ = c.args.rows.now in
    let below : All (λ (row : ℕ). row < rows_of l) rows = subst (λ (k : KeptData). All (HasRow k) rows) (sym is) c.requires.rows in
    let name : List ℕ = c.args.name.now in
    let s = g.S.SegmentSource.state c.args.source.now in
    let t = g.S.SegmentSource.state c.read_by.new.source in
    let x = g.C.KeyedSegmentCache.cache c.args.cache.now in
    let y = g.C.KeyedSegmentCache.cache c.read_by.new.cache in
    subst (λ (k : KeptData). IfErr c.read_by.result (HasSeekCause k rows name s t x)) is (if_err c.read_by.result (λ u h. seek_cause l pl.expr pl over rows below name s x t u h) c.read_by.ensures.fault)

pub returns-clause-moves : goal.returns-clause-moves
returns-clause-moves g c =
    let l = c.in-Ready.layout.value in
    let pl = c.in-Ready.plan.value in
    let is : ready l pl.expr ≡ c.args.kept.now = sym (ap kept_of c.in-Ready.is) ∙ c.kept.view_is in
    let inv : HasPlan (kind.Ready c.in-Ready.layout c.in-Ready.plan) = subst HasPlan c.in-Ready.is c.kept.invariant in
    let over : IsPlanOver l pl.expr pl = inv.1 in
    let rows : List ℕ = c.args.rows.now in
    let below : All (λ (row : ℕ). row < rows_of l) rows = subst (λ (k : KeptData). All (HasRow k) rows) (sym is) c.requires.rows in
    let name : List ℕ = c.args.name.now in
    let s = g.S.SegmentSource.state c.args.source.now in
    let t = g.S.SegmentSource.state c.read_by.new.source in
    let x = g.C.KeyedSegmentCache.cache c.args.cache.now in
    let y = g.C.KeyedSegmentCache.cache c.read_by.new.cache in
    subst (λ (k : KeptData). SeekMoves k rows name s t x y) is (seek_moves l pl.expr pl over rows below name s x t y c.read_by.ensures.moves)
