use Rattle.std.proofs.Common.{◌≡◌, ◌+◌, ◌*◌, ◌^◌, ◌<◌, ◌≤◌, ◌+ℤ◌, List, [], ◌∷◌, ◌++◌, length, get_or, map, pos, refl, sym, ap, ◌∙◌, subst, arith, rules, unsigned_abs}
use mir.Val.{to_z, of_z}
use mir.Syntax.{w64}
use Rattle.std.proofs.lemmas.List.{length-set, length-map, get_or_default, get_or-map}
use Rattle.std.proofs.lemmas.List.Elements.{All-weaker}
use Rattle.scan_values.specs.Val.{Val, int_val, null_val}
use Rattle.scan_groups.specs.Totals.{IsSum, IsSumOf, no_sum}
use Rattle.scan_groups.specs.Within.{IsShort, IsWithin}
use Rattle.scan_groups.specs.declared.sum.Sum.{Sum}
use Rattle.scan_groups.proofs.Added.{adds_none, adds_more, adds_all, number_push}
use Rattle.scan_groups.proofs.Rooms.{sum_within, within_more}
use Rattle.scan_groups.proofs.all_sums.sum_short.Goals as goal

pub loop-i-init : goal.loop-i-init
loop-i-init c = record {
  long = refl;
  bound = omega arith;
  most = All-weaker (IsWithin c.args.most) (IsWithin (c.args.most + 0 * 2 ^ 31)) (λ (s : Sum) (le : IsWithin c.args.most s). omega (arith, le)) c.args.sums.items c.requires.most;
  more = adds_none IsSumOf no_sum c.args.places.now (map int_val c.args.numbers.now) c.args.sums.items;
}

pub index_mut-requires : goal.index_mut-requires
index_mut-requires c = let lt = c.requires.places c.loop-i.i 0 c.loop-i-test.true in omega (arith, lt, c.loop-i.invariant.long, c.loop-i.sums.ok.0)

pub add_short-requires : goal.add_short-requires
add_short-requires c =
    let us = c.loop-i.sums.items in
    let i = c.loop-i.i in
    let p = get_or c.args.places.now i 0 in
    let z = get_or c.args.numbers.now i (pos 0) in
    let was = c.index_mut.result.now in
    let lt = c.requires.places i 0 c.loop-i-test.true in
    let below : p < length us = omega (arith, lt, c.loop-i.invariant.long) in
    let at : was ≡ get_or us p no_sum = c.index_mut.ensures.value ∙ get_or_default us p was no_sum below in
    let w : unsigned_abs was.near ≤ c.args.most + i * 2 ^ 31 = subst (IsWithin (c.args.most + i * 2 ^ 31)) (sym at) (c.loop-i.invariant.most p no_sum below) in
    let read : to_z w64 (of_z w64 z) ≡ z = search rules in
    let short : IsShort z = c.requires.short i (pos 0) (omega (arith, c.requires.even, c.loop-i-test.true)) in
    let s : unsigned_abs (was.near +ℤ z) ≤ (c.args.most + i * 2 ^ 31) + 2 ^ 31 = sum_within was.near z (c.args.most + i * 2 ^ 31) w short in
    subst (λ y. unsigned_abs (was.near +ℤ y) < 2 ^ 63) (sym read) (omega (arith, s, c.requires.room, c.loop-i-test.true))

pub loop-i-preserved : goal.loop-i-preserved
loop-i-preserved c =
    let us = c.loop-i.sums.items in
    let ps = c.args.places.now in
    let i = c.loop-i.i in
    let p = get_or ps i 0 in
    let x = c.add_short.new.self in
    let vs : List Val = map int_val c.args.numbers.now in
    let v = get_or vs i null_val in
    let was = c.index_mut.result.now in
    let lt = c.requires.places i 0 c.loop-i-test.true in
    let below : p < length us = omega (arith, lt, c.loop-i.invariant.long) in
    let at : was ≡ get_or us p no_sum = c.index_mut.ensures.value ∙ get_or_default us p was no_sum below in
    let zs = c.args.numbers.now in
    let z = get_or zs i (pos 0) in
    let n = length-map zs int_val in
    let within : i < length vs = omega (arith, n, c.requires.even, c.loop-i-test.true) in
    let inside : i < length zs = omega (arith, c.requires.even, c.loop-i-test.true) in
    let read : to_z w64 (of_z w64 z) ≡ z = search rules in
    let s = get_or us p no_sum in
    let more : (ws : List Val) → IsSum s ws → IsSum x (ws ++ int_val z ∷ []) = λ ws h. subst (λ y. IsSum x (ws ++ int_val y ∷ [])) read (c.add_short.ensures.more ws (subst (λ t. IsSum t ws) (sym at) h)) in
    let is : int_val z ≡ v = sym (get_or-map int_val zs i (pos 0) null_val inside) in
    let step : (ws : List Val) → IsSumOf ws s → IsSumOf (ws ++ v ∷ []) x = λ ws h. subst (λ w. IsSumOf (ws ++ w ∷ []) x) is (number_push s x z more ws h) in
    let w : unsigned_abs was.near ≤ c.args.most + i * 2 ^ 31 = subst (IsWithin (c.args.most + i * 2 ^ 31)) (sym at) (c.loop-i.invariant.most p no_sum below) in
    let near : x.near ≡ was.near +ℤ z = c.add_short.ensures.near ∙ ap (λ y. was.near +ℤ y) read in
    record {
      long = length-set us p x ∙ c.loop-i.invariant.long;
      bound = omega (arith, c.loop-i-test.true);
      most = within_more us p i c.args.most x was.near z below c.loop-i.invariant.most near w (c.requires.short i (pos 0) inside);
      more = adds_more IsSumOf no_sum i ps vs c.args.sums.items us p v x c.loop-i-test.true within refl refl below step c.loop-i.invariant.more;
    }

pub returns-clause-most : goal.returns-clause-most
returns-clause-most c =
    let n = length c.args.places.now in
    All-weaker (IsWithin (c.args.most + c.loop-i.i * 2 ^ 31)) (IsWithin (c.args.most + n * 2 ^ 31)) (λ (s : Sum) (le : IsWithin (c.args.most + c.loop-i.i * 2 ^ 31) s). omega (arith, le, c.loop-i.invariant.bound)) c.loop-i.sums.items c.loop-i.invariant.most

pub returns-clause-more : goal.returns-clause-more
returns-clause-more c =
    let vs : List Val = map int_val c.args.numbers.now in
    let most = c.loop-i-test.false in
    let n = length-map c.args.numbers.now int_val in
    let long : length vs ≤ c.loop-i.i = omega (arith, n, c.requires.even, most) in
    adds_all IsSumOf no_sum c.loop-i.i c.args.places.now vs c.args.sums.items c.loop-i.sums.items most long c.loop-i.invariant.more
