use Rattle.std.proofs.Common.{◌≡◌, List, All, sym, subst, ap, ◌∙◌}
use Rattle.scan_values.specs.Arrays.{ArrayData}
use Rattle.scan_values.specs.Val.{Val}
use Rattle.scan_spelling.specs.Written.{TextFits}
use Rattle.scan_spelling.proofs.Recoding.{texts_fit}
use Rattle.scan_widen.proofs.widen.widen_values.Goals as goal

pub write_short-requires-clause-short : goal.write_short-requires-clause-short
write_short-requires-clause-short c =
    let items : c.of_fitting-widened.result.items ≡ c.in_ok-read.read.items = ap (λ (a : ArrayData). a.items) c.of_fitting-widened.ensures ∙ c.into_vec.ensures.items in
    subst (All TextFits) (sym items) (texts_fit c.args.w.now.spelling c.to_dtype.result c.args.w.now.rows c.args.bytes.now c.in_ok-read.read.items c.in_ok-read.ensures.exact)
