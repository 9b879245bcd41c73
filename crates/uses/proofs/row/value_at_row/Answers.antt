use Rattle.std.proofs.Common.{rules, ap, ◌∙◌}
use Rattle.std.proofs.lemmas.Result.{err_from_is_err_and}
use Rattle.vortex_scan.specs.Multi.Output.{OutputData}
use Rattle.uses.specs.Lookup.{first_value}
use Rattle.uses.proofs.LookingUp.{found}
use Rattle.uses.proofs.row.value_at_row.Goals as goal

pub scan_files-requires : goal.scan_files-requires
scan_files-requires g c = let idle = c.requires.idle in search (rules, idle)

-- ---- no memory for the request
pub returns-in_err-request-clause-value : goal.returns-in_err-request-clause-value
returns-in_err-request-clause-value g c = let p = err_from_is_err_and c.from_residual.result c.from_residual.ensures.1 in rw (p.1) tt

pub returns-in_err-request-clause-idle : goal.returns-in_err-request-clause-idle
returns-in_err-request-clause-idle g c = c.requires.idle

pub returns-in_err-request-clause-lawful : goal.returns-in_err-request-clause-lawful
returns-in_err-request-clause-lawful g c = λ l. l

-- ---- a refusal
pub returns-in_err-output-clause-value : goal.returns-in_err-output-clause-value
returns-in_err-output-clause-value g c = let p = err_from_is_err_and c.from_residual-in_err-output.result c.from_residual-in_err-output.ensures.1 in rw (p.1) tt

pub returns-in_err-output-clause-idle : goal.returns-in_err-output-clause-idle
returns-in_err-output-clause-idle g c = c.scan_files.ensures.moves.idle

pub returns-in_err-output-clause-lawful : goal.returns-in_err-output-clause-lawful
returns-in_err-output-clause-lawful g c = c.scan_files.ensures.moves.lawful

-- ---- the value
pub returns-clause-value : goal.returns-clause-value
returns-clause-value g c =
    let value = c.first_value.ensures ∙ ap (λ (o : OutputData). first_value o.chunks) c.output.view_is in
    found g.O.LayoutReaderFactory.opener g.S.SegmentSource.state 1 c.args.dtype.now c.in_ok-request.request c.args.projection c.args.filter c.args.row _
    c.args.files.now.items c.scan_files.new.files.items (g.C.KeyedSegmentCache.cache c.args.cache.now) (g.C.KeyedSegmentCache.cache c.scan_files.new.cache)
    c.in_ok-output.output c.requires.one c.in_ok-request.ensures value c.in_ok-output.ensures.ok

pub returns-clause-idle : goal.returns-clause-idle
returns-clause-idle g c = c.scan_files.ensures.moves.idle

pub returns-clause-lawful : goal.returns-clause-lawful
returns-clause-lawful g c = c.scan_files.ensures.moves.lawful
