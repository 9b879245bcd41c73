use Rattle.std.proofs.Common.{◌≡◌, [], ◌∷◌, sym, ap, ◌∙◌, subst, rules}
use mir.Val.{to_z, of_z}
use mir.Syntax.{w64}
use Rattle.std.specs.Prelude.{All}
use Rattle.scan_values.specs.Val.{int_val}
use Rattle.scan_groups.specs.Near.{IsAt}
use Rattle.scan_groups.proofs.Placing.{place_near}
use Rattle.scan_groups.proofs.places.Places.place_number.Goals as goal

pub returns-in-Some : goal.returns-in-Some
returns-in-Some c = λ keys rows row e h.
    let z = to_z w64 (of_z w64 c.args.number) in
    let read : z ≡ c.args.number = search rules in
    place_near keys rows row c.args.self.now z c.in-Some.place (e ∙ ap (λ n. int_val n ∷ []) (sym read)) h (c.in-Some.ensures c.args.self.now.keys (subst (All (IsAt c.args.self.now.keys)) (sym c.lend.ensures) h.near))
