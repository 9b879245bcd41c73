use Rattle.std.proofs.Common.{◌≡◌, [], ◌∷◌, sym, ap, ◌∙◌, rules}
use mir.Val.{to_z, of_z}
use mir.Syntax.{w64}
use Rattle.scan_values.specs.Val.{int_val}
use Rattle.scan_groups.proofs.places.Places.place_cell.Goals as goal

pub returns-in-Some : goal.returns-in-Some
returns-in-Some c = λ keys rows row e h scalar.
    let read : to_z w64 (of_z w64 c.in-Some.number) ≡ c.in-Some.number = search rules in
    c.place_number.ensures keys rows row (e ∙ ap (λ v. v ∷ []) (c.in-Some.ensures ∙ ap int_val (sym read))) h
