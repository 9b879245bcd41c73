use Rattle.std.proofs.Common.{refl, subst}
use Rattle.std.specs.Prelude.{Some, string_bytes}
use Rattle.std.proofs.lemmas.Map.Text.{btree_map_updates_text}
use Rattle.scan_values.specs.Val.{text_val}
use Rattle.scan_groups.specs.Places.{Learns}
use Rattle.scan_groups.specs.declared.known.Known.{Known}
use Rattle.scan_groups.proofs.Learning.{learns_text}
use Rattle.scan_groups.proofs.known.Known.learn_text.Goals as goal

pub returns : goal.returns
returns c =
    let old = c.args.self.now in
    let new : Known = record { null = old.null; no = old.no; yes = old.yes; numbers = old.numbers; texts = c.insert.new.self } in
    let s = string_bytes c.in_ok-text.text in
    subst (λ z. Learns old new (text_val z) c.args.place) c.in_ok-text.ensures.ok
    (learns_text old new c.args.place s refl refl refl refl (btree_map_updates_text s old.texts c.insert.new.self (Some c.args.place) c.in_ok-insert.ensures.updates))
