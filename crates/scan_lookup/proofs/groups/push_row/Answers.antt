use Rattle.std.proofs.Common.{◌≡◌, ◌++◌, [], ◌∷◌, ◌∙◌, ℕ, length, arith, ap, rules}
use Rattle.std.specs.FinMap as map
use Rattle.scan_lookup.specs.declared.groups.Group.{Group}
use Rattle.scan_lookup.proofs.Grouping.{row_new}
use Rattle.scan_lookup.proofs.groups.push_row.Goals as goal

pub returns : goal.returns
returns c =
    let old : Group = c.args.group.now in
    let row : ℕ = c.args.row in
    let pushed : c.push.new.self.items ≡ old.rows.items ++ (row ∷ []) = search rules in
    let long : c.len-number.result ≡ length old.rows.items = omega (arith, c.len-number.ensures, old.rows.ok.0) in
    row_new old c.requires.numbers row c.requires.none c.push.new.self c.add.new.self pushed (c.in_ok-add.ensures ∙ ap (map.insert old.numbers row) long) c.len-number.result long
