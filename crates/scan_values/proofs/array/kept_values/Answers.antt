use Rattle.std.proofs.Common.{map, sym, ◌∙◌, arith}
use Rattle.std.proofs.lemmas.List.{length-map}
use Rattle.scan_values.specs.Values.{val_of}
use Rattle.scan_values.proofs.AllTrue.{where_true-all}
use Rattle.scan_values.proofs.array.kept_values.Goals as goal

pub returns-then-all_true : goal.returns-then-all_true
returns-then-all_true c =
    let values = map val_of c.args.values.now in
    rw (where_true-all c.args.m.now values (sym c.all_true.ensures ∙ c.if-all_true.true) (omega (arith, c.requires, length-map c.args.values.now val_of))) c.clone_values.ensures
