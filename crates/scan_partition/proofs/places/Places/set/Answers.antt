use Rattle.std.proofs.Common.{Some, cond, refl, ap, ◌∙◌, bytes_eq}
use Rattle.std.specs.Ordering.{nat_cmp}
use Rattle.std.specs.Cmp.Lexicographic.{slice_cmp}
use Rattle.std.specs.BTreeMap.{get_by}
use Rattle.std.proofs.lemmas.Map.Text.{btree_map_updates_str}
use Rattle.scan_partition.specs.Soles.{item_seen}
use Rattle.scan_partition.proofs.Placed.{field_placed}
use Rattle.scan_partition.proofs.places.Places.set.Goals as goal

pub returns-in_ok-insert-in-Field : goal.returns-in_ok-insert-in-Field
returns-in_ok-insert-in-Field c =
    field_placed c.args.self.now (record { fields = c.insert.new.self; validity = c.args.self.now.validity }) c.in-Field.name.now c.args.place (item_seen c.args.item) (ap item_seen c.in-Field.is) refl
    (λ m. btree_map_updates_str c.as_str.result.now c.args.self.now.fields c.insert.new.self (Some c.args.place) c.in_ok-insert-in-Field.ensures.updates m ∙ ap (λ b. cond (bytes_eq b m) (Some c.args.place) (get_by (λ k. slice_cmp nat_cmp m k.now) c.args.self.now.fields)) c.as_str.ensures)
