use Rattle.std.proofs.Common.{◌≡◌, ◌∷◌, ◌++◌, List, subst, rules}
use Rattle.std.specs.Vec.Iter.{into_iter_items, into_iter_len}
use Rattle.scan_values.specs.declared.value.Value.{Value}
use Rattle.scan_groups.specs.Running.{AreOf}
use Rattle.scan_table.specs.Totalled.{HasKey}
use Rattle.scan_table.proofs.Rowing.{all_parts, none_left, part_more, value_row, value_rows}
use Rattle.scan_table.proofs.rows.add_values.Goals as goal

pub loop-row-preserved : goal.loop-row-preserved
loop-row-preserved c =
    let l = c.loop-row in
    let keys = c.args.keys in
    let before : List Value = into_iter_items l.row-iterator in
    let rest : List Value = into_iter_items c.next.new.self in
    let x : Value = c.in-Some.row in
    let e : before ≡ x ∷ rest = search (rules, c.in-Some.ensures.steps) in
    record {
      len = (search (rules, c.in-Some.ensures.steps));
      rows = part_more keys (value_row keys) (HasKey keys) c.args.values.items before rest x c.args.groups.now l.groups c.add_row.new.groups e l.invariant.rows (λ ms rows h k. c.in_ok-add_row.ensures ms rows h k);
    }

pub returns : goal.returns
returns c =
    let l = c.loop-row in
    let vs = c.args.values.items in
    let keys = c.args.keys in
    let none = none_left (into_iter_items l.row-iterator) (into_iter_len l.row-iterator) l.invariant.len c.in-None.ensures.steps.0 in
    λ ms rows h k. subst (λ ys. AreOf keys ms (rows ++ ys) l.groups) (value_rows keys vs)
    (all_parts keys (value_row keys) (HasKey keys) vs (into_iter_items l.row-iterator) c.args.groups.now l.groups none l.invariant.rows ms rows h k)
