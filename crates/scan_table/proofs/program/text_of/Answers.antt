use Rattle.std.proofs.Common.{◌≡◌, ◌∷◌, List, rules}
use Rattle.std.specs.Vec.Iter.{into_iter_items, into_iter_len}
use Rattle.scan_values.specs.Values.{val_of}
use Rattle.scan_groups.specs.declared.group.Group.{Group}
use Rattle.scan_table.specs.Runs.{group_lines}
use Rattle.scan_table.proofs.Lines.{line_last, line_more}
use Rattle.scan_table.proofs.Rowing.{none_left}
use Rattle.scan_table.proofs.program.text_of.Goals as goal

pub loop-group-preserved : goal.loop-group-preserved
loop-group-preserved c =
    let l = c.loop-group in
    let names = c.args.names.items in
    let before : List Group = into_iter_items l.group-iterator in
    let rest : List Group = into_iter_items c.next.new.self in
    let x : Group = c.in-Some.group in
    let e : before ≡ x ∷ rest = search (rules, c.in-Some.ensures.steps) in
    record {
      len = (search (rules, c.in-Some.ensures.steps));
      text = line_more names (group_lines names c.args.groups.items) l.text.items c.push_value.new.out.items c.push.new.self.items before rest x (val_of c.in_ok-values.values) c.in_ok-dtype.dtype
          e c.in_ok-values.ensures c.in_ok-dtype.ensures c.in_ok-push_value.ensures.ok c.in_ok-push.ensures.items l.invariant.text;
    }

pub returns : goal.returns
returns c =
    let l = c.loop-group in
    let names = c.args.names.items in
    let none = none_left (into_iter_items l.group-iterator) (into_iter_len l.group-iterator) l.invariant.len c.in-None.ensures.steps.0 in
    line_last names (group_lines names c.args.groups.items) l.text.items (into_iter_items l.group-iterator) none l.invariant.text
