use Rattle.std.proofs.Common.{IfOk, subst}
use Rattle.vortex_scan.specs.MultiSources.Starts.{StartsMulti, numbers_of}
use Rattle.vortex_scan.specs.Sources.Requests.{bound_request}
use Rattle.uses.proofs.files_twice.scan_files_twice.Goals as goal

pub returns : goal.returns
returns g c =
    subst (λ z. IfOk c.scan.result (λ s. StartsMulti z (bound_request z.dtype c.args.second) (numbers_of c.args.second) s.files)) c.files_asked.ensures.same c.scan.ensures.scan
