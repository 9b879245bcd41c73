use Rattle.std.proofs.Common.{refl, sym, subst}
use Rattle.std.specs.Prelude.{Some}
use Rattle.scan_values.specs.Val.{bool_val}
use Rattle.scan_groups.specs.Places.{Learns}
use Rattle.scan_groups.specs.declared.known.Known.{Known}
use Rattle.scan_groups.proofs.Learning.{learns_yes, learns_no}
use Rattle.scan_groups.proofs.known.Known.learn_truth.Goals as goal

pub returns-then-truth : goal.returns-then-truth
returns-then-truth c =
    let old = c.args.self.now in
    let new : Known = record { null = old.null; no = old.no; yes = Some c.args.place; numbers = old.numbers; texts = old.texts } in
    subst (λ b. Learns old new (bool_val b) c.args.place) (sym c.if-truth.true) (learns_yes old new c.args.place refl refl refl refl refl)

pub returns-else-truth : goal.returns-else-truth
returns-else-truth c =
    let old = c.args.self.now in
    let new : Known = record { null = old.null; no = Some c.args.place; yes = old.yes; numbers = old.numbers; texts = old.texts } in
    subst (λ b. Learns old new (bool_val b) c.args.place) (sym c.if-truth.false) (learns_no old new c.args.place refl refl refl refl refl)
