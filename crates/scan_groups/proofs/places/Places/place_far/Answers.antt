use Rattle.std.proofs.Common.{◌≡◌, [], ◌∷◌, refl, sym, ap, ◌∙◌, rules}
use mir.Val.{to_z, of_z}
use mir.Syntax.{w64, w128}
use Rattle.scan_values.specs.Val.{int_val}
use Rattle.scan_groups.specs.Places.{place_of}
use Rattle.scan_groups.specs.declared.places.Places.{Places}
use Rattle.scan_groups.proofs.Placing.{place_kept}
use Rattle.scan_groups.proofs.places.Places.place_far.Goals as goal

pub returns : goal.returns
returns c = λ keys rows row e h.
    let mid = c.place_value.new.self in
    let new : Places = record { keys = mid.keys; count = mid.count; known = mid.known; near = c.keep.new.self } in
    let back : to_z w128 (of_z w128 c.from.result) ≡ c.from.result = search rules in
    let read : to_z w64 (of_z w64 c.args.number) ≡ c.args.number = search rules in
    let is : int_val (to_z w128 (of_z w128 c.from.result)) ≡ int_val c.args.number = ap int_val (back ∙ c.from.ensures ∙ read) in
    let at : row.key ≡ int_val (to_z w64 (of_z w64 c.args.number)) ∷ [] = e ∙ ap (λ z. int_val z ∷ []) (sym read) in
    let placed = c.in_ok-place.ensures keys rows row (e ∙ ap (λ v. v ∷ []) (sym is)) h refl in
    place_kept keys rows row c.args.self.now mid new c.in_ok-place.place placed refl refl refl (c.in_ok-keep.ensures mid.keys placed.places.near (ap (place_of mid) (sym at) ∙ placed.is))
