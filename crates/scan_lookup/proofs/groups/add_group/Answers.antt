use Rattle.std.proofs.Common.{◌≡◌, ◌++◌, [], ◌∷◌, ◌∙◌, List, ℕ, length, arith, ap, rules}
use Rattle.std.specs.FinMap as map
use Rattle.scan_lookup.specs.declared.groups.Group.{Group}
use Rattle.scan_lookup.proofs.Grouping.{group_as, group_new}
use Rattle.scan_lookup.proofs.groups.add_group.Goals as goal

pub returns : goal.returns
returns c =
    let gs : List Group = c.args.groups.now.items in
    let file : ℕ = c.args.file in
    let m = c.args.numbers.now in
    let x : Group = c.no_rows-group.result in
    let pushed : c.push.new.self.items ≡ gs ++ (x ∷ []) = search rules in
    let long : c.len-number.result ≡ length gs = omega (arith, c.len-number.ensures, c.args.groups.now.ok.0) in
    group_as file gs (gs ++ x ∷ []) c.push.new.self.items m (map.insert m file (length gs)) c.add.new.self (length gs) c.len-number.result long pushed (c.in_ok-add.ensures ∙ ap (map.insert m file) long)
    (group_new m gs c.requires.numbers file c.requires.none x c.no_rows-group.ensures)
