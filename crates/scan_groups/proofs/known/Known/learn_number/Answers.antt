use Rattle.std.proofs.Common.{◌≡◌, inl, refl, ◌∙◌, subst, rules}
use mir.Val.{to_z, of_z}
use mir.Syntax.{w64}
use Rattle.scan_values.specs.Val.{int_val}
use Rattle.scan_groups.specs.Places.{Learns}
use Rattle.scan_groups.specs.declared.known.Known.{Known}
use Rattle.scan_groups.proofs.Learning.{learns_number}
use Rattle.scan_groups.proofs.known.Known.learn_number.Goals as goal

pub returns-in_ok-insert : goal.returns-in_ok-insert
returns-in_ok-insert c =
    let old = c.args.self.now in
    let new : Known = record { null = old.null; no = old.no; yes = old.yes; numbers = c.insert.new.self; texts = old.texts } in
    let same : c.in-Ok.number ≡ c.args.number = search rules in
    let back : to_z w64 (of_z w64 c.in-Ok.number) ≡ c.in-Ok.number = search rules in
    subst (λ z. Learns old new (int_val z) c.args.place) (back ∙ same) (learns_number old new c.args.place (to_z w64 (of_z w64 c.in-Ok.number)) refl refl refl c.in_ok-insert.ensures.updates.0 refl)

pub returns-in_default : goal.returns-in_default
returns-in_default c = λ w i h. inl h
