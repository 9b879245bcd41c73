use Rattle.std.proofs.Common.{rules}
use Rattle.std.proofs.lemmas.Result.{IfOk-weaker}
use Rattle.scan_run.proofs.Generating.{all_idle, line_is}
use Rattle.scan_run.proofs.generate.scan.scan_text.Goals as goal

pub scan_with-requires : goal.scan_with-requires
scan_with-requires g c = let idle = all_idle c.args.spelling c.args.rows c.args.files.now.items c.requires.files in search (rules, idle)

pub returns-clause-line : goal.returns-clause-line
returns-clause-line g c =
    IfOk-weaker c.line_of.result _ _ (λ text e. line_is c.args.spelling c.args.rows c.args.files.now.items c.scan_with.new.files.items c.args.dtype.now c.args.request.now c.in_ok-out.out text.items c.requires.files c.requires.dtype c.requires.request c.in_ok-out.ensures.ok e) c.line_of.ensures
