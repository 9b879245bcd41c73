use Rattle.std.proofs.Common.{inl, refl, sym, subst}
use Rattle.std.specs.Prelude.{Some}
use Rattle.scan_groups.specs.Cells.{cell_val}
use Rattle.scan_groups.specs.Places.{Learns}
use Rattle.scan_groups.specs.declared.known.Known.{Known}
use Rattle.scan_groups.proofs.Learning.{learns_null}
use Rattle.scan_groups.proofs.known.Known.learn.Goals as goal

pub returns-in-Null : goal.returns-in-Null
returns-in-Null c =
    let old = c.args.self.now in
    let new : Known = record { null = Some c.args.place; no = old.no; yes = old.yes; numbers = old.numbers; texts = old.texts } in
    subst (λ x. Learns old new (cell_val x) c.args.place) (sym c.in-Null.is) (learns_null old new c.args.place refl refl refl refl refl)

pub returns-in-Held : goal.returns-in-Held
returns-in-Held c = λ w i h. inl h
