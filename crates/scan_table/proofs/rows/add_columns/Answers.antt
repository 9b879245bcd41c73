use Rattle.std.proofs.Common.{◌≡◌, ◌-◌, ◌∷◌, List, true, length, map, take, drop, sym, subst, arith}
use Rattle.scan_columns.specs.Cells.{vals_in}
use Rattle.scan_columns.specs.Nested.{AreLong}
use Rattle.scan_columns.specs.declared.cells.Cells.{Cells}
use Rattle.scan_table.specs.Totalled.{HasAdded, column_rows}
use Rattle.scan_table.proofs.Columned.{is_one, split_first}
use Rattle.scan_table.proofs.rows.add_columns.Goals as goal

pub returns-then-keys-eq0 : goal.returns-then-keys-eq0
returns-then-keys-eq0 c =
    let keys : 0 ≡ c.args.keys = omega (arith, c.if-keys-eq0.true) in
    subst (λ k. HasAdded true k (column_rows k c.args.len (map vals_in c.args.columns.now)) c.args.groups.now c.add_keyless.new.groups) keys c.in_ok-add_keyless.ensures

pub add_keyed-requires : goal.add_keyed-requires
add_keyed-requires c =
    let cs = c.args.columns.now in
    let e = split_first cs c.key-item.result c.in-len1-up.len_at_least c.key-item.is in
    let h = subst (λ (xs : List Cells). AreLong c.args.len (map vals_in xs)) e c.requires in
    subst (λ n. AreLong n (map vals_in (take (length cs - 1) (drop 1 cs)))) (sym h.0) h.1

pub returns-in_ok-done-in-len1-up : goal.returns-in_ok-done-in-len1-up
returns-in_ok-done-in-len1-up c =
    let cs = c.args.columns.now in
    let key = vals_in c.key-item.result in
    let rest = map vals_in (take (length cs - 1) (drop 1 cs)) in
    let done = c.in_ok-done-in-len1-up.done in
    let old = c.args.groups.now in
    let new = c.add_keyed.new.groups in
    let e = split_first cs c.key-item.result c.in-len1-up.len_at_least c.key-item.is in
    let h = subst (λ (xs : List Cells). AreLong c.args.len (map vals_in xs)) e c.requires in
    let first = subst (λ n. HasAdded done 1 (column_rows 1 n (key ∷ rest)) old new) h.0 c.in_ok-done-in-len1-up.ensures in
    let whole = subst (λ (xs : List Cells). HasAdded done 1 (column_rows 1 c.args.len (map vals_in xs)) old new) (sym e) first in
    subst (λ k. HasAdded done k (column_rows k c.args.len (map vals_in cs)) old new) (is_one c.args.keys c.if-keys-eq0.false c.if-keys-gt1.false) whole
