use Rattle.std.proofs.Common.{◌≡◌, ◌<◌, [], ◌∷◌, length, get_or, pos, sym, ap, ◌∙◌, arith, rules}
use mir.Val.{to_z, of_z}
use mir.Syntax.{w64}
use Rattle.std.proofs.lemmas.List.{length-set}
use Rattle.scan_values.specs.Val.{int_val}
use Rattle.scan_groups.proofs.Fronting.{below_more, first_more}
use Rattle.scan_groups.proofs.places.Places.place_next.Goals as goal

pub returns-clause-front : goal.returns-clause-front
returns-clause-front c =
    let f = c.args.front in
    let given = f.places.items in
    let q = c.in_ok-place.place in
    let long : f.len < length given = omega (arith, c.requires.more, c.requires.front.even) in
    let l = c.larger.ensures in
    let is = c.in_ok-behind.ensures in
    record {
      even = length-set given f.len q ∙ c.requires.front.even;
      within = omega (arith, c.requires.more);
      below = below_more given f.len q f.end c.larger.result long l.first (let m = l.second in omega (arith, m, is)) c.requires.front.below;
    }

pub returns-clause-places : goal.returns-clause-places
returns-clause-places c = λ old h.
    let f = c.args.front in
    let zs = c.args.numbers.now in
    let z = get_or zs f.len (pos 0) in
    let given = f.places.items in
    let q = c.in_ok-place.place in
    let long : f.len < length given = omega (arith, c.requires.more, c.requires.front.even) in
    let read : to_z w64 (of_z w64 z) ≡ z = search rules in
    first_more zs f.len old c.args.self.now c.place_far.new.self given q c.requires.more long
    (λ keys rows row e a. c.in_ok-place.ensures keys rows row (e ∙ ap (λ n. int_val n ∷ []) (sym read)) a) h
