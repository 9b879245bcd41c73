use Rattle.std.proofs.Common.{◌≤◌, length, map, sym, ap, ◌∙◌, arith}
use Rattle.std.proofs.lemmas.List.{get_or-map, length-map}
use Rattle.scan_values.specs.Val.{null_val}
use Rattle.scan_values.specs.Values.{val_of}
use Rattle.scan_groups.specs.Running.{val_in}
use Rattle.scan_groups.proofs.Totalling.{past_end}
use Rattle.scan_groups.proofs.groups.read_at.Goals as goal

pub returns-in-Some-get : goal.returns-in-Some-get
returns-in-Some-get c =
    let vs = c.args.read.now in
    let p = c.in-Some.place in
    let v = c.in-Some-get.value.now in
    let l = c.in-Some-get.ensures.lookup in
    c.of.ensures ∙ ap val_of l.1 ∙ sym (get_or-map val_of vs p v null_val l.3.0) ∙ ap (λ o. val_in o (map val_of vs)) (sym c.in-Some.is)

pub returns-in-None : goal.returns-in-None
returns-in-None c =
    let vs = c.args.read.now in
    let p = c.in-Some.place in
    let n = length-map vs val_of in
    let l = c.in-None.ensures.lookup in
    let le : length (map val_of vs) ≤ p = let m = l.3 in omega (arith, n, m) in
    sym (past_end (map val_of vs) p null_val le) ∙ ap (λ o. val_in o (map val_of vs)) (sym c.in-Some.is)
