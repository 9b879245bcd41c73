use Rattle.scan_printing.proofs.Writing.{all_written, front_written, on_ok, ordered_written}
use Rattle.scan_printing.proofs.lines.fill.Goals as goal

pub returns-clause-same : goal.returns-clause-same
returns-clause-same g c = c.scan_into.ensures.front.took.same

pub returns-clause-ok : goal.returns-clause-ok
returns-clause-ok g c =
    on_ok c.scan_into.result
    (λ end h none l.
    all_written g.F.LayoutReaderFactory.opener g.S.SegmentSource.state c.args.dtype.now c.args.request.now c.args.files.now.items (g.C.KeyedSegmentCache.cache c.args.cache.now) c.args.printer.now c.scan_into.new.sink
    (λ s. g.O.Output.output s.output.now) (λ s. s.fault) (λ s. s.output.ghost_name) c.args.workers c.scan_into.new.files.items (g.C.KeyedSegmentCache.cache c.scan_into.new.cache) end h none l)
    c.scan_into.ensures.ok

pub returns-clause-front : goal.returns-clause-front
returns-clause-front g c = λ l.
    front_written g.F.LayoutReaderFactory.opener g.S.SegmentSource.state c.args.dtype.now c.args.request.now c.args.files.now.items (g.C.KeyedSegmentCache.cache c.args.cache.now) c.args.printer.now c.scan_into.new.sink
    (λ s. g.O.Output.output s.output.now) (λ s. s.fault) (λ s. s.output.ghost_name) c.scan_into.ensures.front l

pub returns-clause-ordered : goal.returns-clause-ordered
returns-clause-ordered g c = λ l o.
    ordered_written g.F.LayoutReaderFactory.opener g.S.SegmentSource.state c.args.dtype.now c.args.request.now c.args.files.now.items (g.C.KeyedSegmentCache.cache c.args.cache.now) c.args.printer.now c.scan_into.new.sink
    (λ s. g.O.Output.output s.output.now) (λ s. s.fault) (λ s. s.output.ghost_name) c.scan_into.ensures.front l o
