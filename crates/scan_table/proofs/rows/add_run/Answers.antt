use Rattle.std.proofs.Common.{◌≡◌, ◌++◌, true, sym, ap, ◌∙◌, subst}
use Rattle.std.specs.Prelude.{IfOk}
use Rattle.scan_values.specs.Arrays.{ArrayData}
use Rattle.scan_groups.specs.Running.{AreOf}
use Rattle.scan_table.specs.Totalled.{HasAdded, has_keys, rows_in}
use Rattle.scan_table.proofs.rows.add_run.Goals as goal

pub returns-then-branch : goal.returns-then-branch
returns-then-branch c = λ ms rows h k.
    let old = c.args.groups.now in
    let new = c.add_kept.new.groups in
    let done : HasAdded true c.args.keys (rows_in c.args.keys c.args.run.items) old new = subst (λ b. HasAdded b c.args.keys (rows_in c.args.keys c.args.run.items) old new) c.if-branch.true c.in_ok-add_kept.ensures in
    done ms rows h

pub returns : goal.returns
returns c = λ ms rows h k.
    let keys = c.args.keys in
    let old = c.args.groups.now in
    let mid = c.add_kept.new.groups in
    let same : mid ≡ old = subst (λ b. HasAdded b keys (rows_in keys c.args.run.items) old mid) c.if-branch.false c.in_ok-add_kept.ensures in
    let is = c.in_ok-array.ensures in
    subst (λ (v : ArrayData). IfOk c.add_array.result (λ _. AreOf keys ms (rows ++ rows_in keys v.items) c.add_array.new.groups)) is
    (c.add_array.ensures ms rows (subst (λ g. AreOf keys ms rows g) (sym same) h) (ap (λ (v : ArrayData). has_keys keys v.dtype) is ∙ k))
