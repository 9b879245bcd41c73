use Rattle.std.proofs.Common.{◌≡◌, [], refl, ap, ◌∙◌, rules}
use Rattle.std.specs.Prelude.{replicate}
use Rattle.scan_groups.specs.Places.{place_of}
use Rattle.scan_groups.specs.Running.{HavePlaces}
use Rattle.scan_groups.specs.declared.groups.Groups.{Groups}
use Rattle.scan_groups.proofs.Slots.{as_same}
use Rattle.scan_groups.proofs.Totalling.{keyless_places}
use Rattle.scan_groups.proofs.groups.Groups.place_keyless.Goals as goal

pub returns : goal.returns
returns c =
    let old = c.args.self.now in
    let new : Groups = record { places = c.place.new.self; tallies = old.tallies } in
    let empty : c.new-3.result ≡ [] = search rules in
    let made : c.in_ok-vec.field-0.items ≡ replicate c.args.len c.in_ok-place.place = search rules in
    let have : HavePlaces 0 (replicate c.args.len []) c.in_ok-vec.field-0.items old new =
    keyless_places c.args.len c.in_ok-vec.field-0.items c.in_ok-place.place old new refl made (λ j at. c.in_ok-place.ensures.found j (ap (place_of old.places) empty ∙ at)) in
    as_same c.new-4.result (λ ps. HavePlaces 0 (replicate c.args.len []) ps old new) c.in_ok-vec.field-0.items c.new-4.ensures have
