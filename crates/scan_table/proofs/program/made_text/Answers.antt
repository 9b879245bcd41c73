use Rattle.std.proofs.Common.{inr, refl, subst, rules}
use Rattle.std.proofs.lemmas.Result.{err_from_is_err_and}
use Rattle.scan_caches.specs.Bounded.{keyed_state}
use Rattle.scan_segments.specs.Cache.{CacheState}
use Rattle.scan_segments.specs.MemorySource.{source_state}
use Rattle.scan_segments.specs.declared.segment.SegmentKey.{SegmentKey}
use Rattle.scan_run.specs.FileOf.{memory_opener}
use Rattle.scan_table.specs.Scans.{HasTableCause, IsTable}
use Rattle.scan_table.proofs.Running.{made_end, made_lines}
use Rattle.scan_table.proofs.program.made_text.Goals as goal

pub scan_table-requires : goal.scan_table-requires
scan_table-requires g c = let idle = c.requires.idle in search (rules, idle)

pub returns-in_err-cache-clause-ok : goal.returns-in_err-cache-clause-ok
returns-in_err-cache-clause-ok g c = let p = err_from_is_err_and c.from_residual.result c.from_residual.ensures.1 in rw (p.1) tt

pub returns-in_err-cache-clause-err : goal.returns-in_err-cache-clause-err
returns-in_err-cache-clause-err g c = let p = err_from_is_err_and c.from_residual.result c.from_residual.ensures.1 in rw (p.1, p.2) (λ j is are. inr (inr (inr refl)))

pub returns-in_err-table-clause-ok : goal.returns-in_err-table-clause-ok
returns-in_err-table-clause-ok g c = let p = err_from_is_err_and c.from_residual-in_err-table.result c.from_residual-in_err-table.ensures.1 in rw (p.1) tt

pub returns-in_err-table-clause-err : goal.returns-in_err-table-clause-err
returns-in_err-table-clause-err g c =
    let a = c.args.asked.now in
    let made = c.args.made.items in
    let new = c.scan_table.new.files.items in
    let after = keyed_state c.scan_table.new.cache in
    let e = c.in_err-table.field-0.0 in
    let Q : CacheState SegmentKey → Type 0 = λ z. HasTableCause memory_opener source_state a.workers a.dtype a.spec made new z after e in
    let p = err_from_is_err_and c.from_residual-in_err-table.result c.from_residual-in_err-table.ensures.1 in
    rw (p.1, p.2) (made_end a made new c.requires after e (subst Q c.in_ok-cache.ensures.empty c.in_err-table.ensures.err.cause))

pub returns-in_err-names-clause-ok : goal.returns-in_err-names-clause-ok
returns-in_err-names-clause-ok g c = let p = err_from_is_err_and c.from_residual-in_err-names.result c.from_residual-in_err-names.ensures.1 in rw (p.1) tt

pub returns-in_err-names-clause-err : goal.returns-in_err-names-clause-err
returns-in_err-names-clause-err g c = let p = err_from_is_err_and c.from_residual-in_err-names.result c.from_residual-in_err-names.ensures.1 in rw (p.1, p.2) (λ j is are. inr (inr (inr refl)))

pub returns-in_err-text_of-clause-ok : goal.returns-in_err-text_of-clause-ok
returns-in_err-text_of-clause-ok g c = let p = err_from_is_err_and c.from_residual-in_err-text_of.result c.from_residual-in_err-text_of.ensures.1 in rw (p.1) tt

pub returns-in_err-text_of-clause-err : goal.returns-in_err-text_of-clause-err
returns-in_err-text_of-clause-err g c = let p = err_from_is_err_and c.from_residual-in_err-text_of.result c.from_residual-in_err-text_of.ensures.1 in rw (p.1, p.2) (λ j is are. inr (inr (inr refl)))

pub returns-clause-ok : goal.returns-clause-ok
returns-clause-ok g c =
    let a = c.args.asked.now in
    let made = c.args.made.items in
    let new = c.scan_table.new.files.items in
    let after = keyed_state c.scan_table.new.cache in
    let groups = c.in_ok-table.table.groups.items in
    let Q : CacheState SegmentKey → Type 0 = λ z. IsTable memory_opener source_state a.workers a.dtype a.spec made new z after groups in
    made_lines a made new c.requires after groups c.in_ok-names.names.items c.in_ok-text_of.field-0.items (subst Q c.in_ok-cache.ensures.empty c.in_ok-table.ensures.ok) c.in_ok-names.ensures c.in_ok-text_of.ensures
