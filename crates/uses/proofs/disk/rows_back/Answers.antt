use Rattle.std.proofs.Common.{rules, [], ◌∷◌, Some, refl, ap, ◌∙◌, subst}
use Rattle.std.proofs.lemmas.Result.{err_from_is_err_and}
use Rattle.vortex_scan.specs.Expr.declared.request.ScanRequest.{ScanRequest}
use Rattle.vortex_scan.specs.Multi.Answer.{answer}
use Rattle.vortex_scan.specs.Multi.Output.{IsGiven, given}
use Rattle.uses.specs.Disk.{disk_file}
use Rattle.uses.proofs.OnDisk.{all-is, ok_after, opened, rows-are}
use Rattle.uses.proofs.disk.rows_back.Goals as goal

pub returns-in_err-header : goal.returns-in_err-header
returns-in_err-header g c = let p = err_from_is_err_and c.from_residual.result c.from_residual.ensures.1 in rw (p.1) tt

pub returns : goal.returns
returns g c =
    let n = c.new-request.ensures in
    let q = all-is c.new-request.result (n.projection ∙ c.root.ensures) n.filter n.row_range n.selection n.partition_selection n.partition_range n.ordered n.limit in
    ok_after c.rows_of_file.result (λ chunks gives rows is.
    let o = opened c.args.dtype.now rows c.args.file is in
    rows-are c.args.dtype.now rows c.args.file is o.footer chunks.items o.layout
    (subst (λ (z : ScanRequest). IsGiven z.ordered z.limit (answer c.args.dtype.now z (disk_file c.args.file o.footer ∷ [])) (given chunks.items)) q
    (gives c.args.file o.footer (record { footer_told = ap Some c.in_ok-header.ensures; told = refl; is = o.content })))) c.rows_of_file.ensures
