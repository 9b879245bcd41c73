use Rattle.std.proofs.Common.{◌≡◌, [], List, length, map, sym, ◌∙◌, subst}
use Rattle.std.proofs.lemmas.List.{length-replicate}
use Rattle.scan_values.specs.Val.{Val}
use Rattle.scan_columns.specs.Cells.{vals_in}
use Rattle.scan_columns.specs.Nested.{AreLong}
use Rattle.scan_table.proofs.Columned.{added_keyless}
use Rattle.scan_table.proofs.rows.add_keyless.Goals as goal

pub read_all-requires : goal.read_all-requires
read_all-requires c =
    let n : length c.in_ok-places.places ≡ c.args.len = c.in_ok-places.ensures.even ∙ length-replicate {A = List Val} c.args.len [] in
    subst (λ k. AreLong k (map vals_in c.args.columns.now)) (sym n) c.requires

pub returns : goal.returns
returns c =
    added_keyless c.in_ok-places.places c.args.len (map vals_in c.args.columns.now) c.args.groups.now c.place_keyless.new.self c.read_all.new.groups c.in_ok-places.ensures c.requires c.in_ok-read_all.ensures
