use Rattle.std.proofs.Common.{◌≡◌, map, sym, ap, ◌∙◌, subst, arith}
use Rattle.std.specs.Prelude.{IfOk}
use Rattle.std.proofs.lemmas.List.{get_or-map, length-map}
use Rattle.scan_values.specs.Val.{null_val}
use Rattle.scan_values.specs.Values.{val_of}
use Rattle.scan_groups.proofs.Totalling.{past_end}
use Rattle.scan_groups.proofs.tally.value_at.Goals as goal

pub returns-in-Some : goal.returns-in-Some
returns-in-Some c =
    let vs = c.args.values.now in
    let p = c.args.place in
    let v = c.in-Some.value.now in
    let l = c.in-Some.ensures.lookup in
    subst (λ z. IfOk c.try_clone.result (λ u. val_of u ≡ z)) (ap val_of l.1 ∙ sym (get_or-map val_of vs p v null_val l.3.0)) c.try_clone.ensures

pub returns-in-None : goal.returns-in-None
returns-in-None c =
    let vs = c.args.values.now in
    let n = length-map vs val_of in
    let m = c.in-None.ensures.lookup.3 in
    sym (past_end (map val_of vs) c.args.place null_val (omega (arith, n, m)))
