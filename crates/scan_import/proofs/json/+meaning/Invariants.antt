use Rattle.std.proofs.Common.{◌≡◌, ◌+◌, ◌*◌, ◌++◌, map, drop, length}
use Rattle.serde_json.specs.View.{view}
use Rattle.scan_import.specs.Lists.{known}
use Rattle.scan_import.specs.Meaning.{members_in, value_within}
use Rattle.scan_import.proofs.json.+meaning.Given as goal

abbrev pub decreases-json_value : goal.decreases-json_value
decreases-json_value l = 4 * l.levels

abbrev pub decreases-list_value : goal.decreases-list_value
decreases-list_value l = 4 * l.levels + 2

abbrev pub decreases-items_value : goal.decreases-items_value
decreases-items_value l = 4 * l.levels + 1

abbrev pub decreases-struct_value : goal.decreases-struct_value
decreases-struct_value l = 4 * l.levels + 3

abbrev pub decreases-members_value : goal.decreases-members_value
decreases-members_value l = 4 * l.levels + 2

abbrev pub decreases-member_value : goal.decreases-member_value
decreases-member_value l = 4 * l.levels + 1

abbrev pub invariant-items_value-loop-i : goal.invariant-items_value-loop-i
invariant-items_value-loop-i l = record {
  same : map known l.values.items ++ map (λ j. value_within l.levels l.element (view j)) (drop l.i l.items) ≡ map (λ j. value_within l.levels l.element (view j)) l.items;
  count : length l.values.items ≡ l.i;
}

abbrev pub invariant-members_value-loop-i : goal.invariant-members_value-loop-i
invariant-members_value-loop-i l = record {
  same : map known l.values.items ++ members_in (value_within l.levels) (drop l.i l.fields) (view l.json) ≡ members_in (value_within l.levels) l.fields (view l.json);
  count : length l.values.items ≡ l.i;
}
