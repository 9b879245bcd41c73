use Rattle.std.proofs.Common.{◌≡◌, get_or, pos, subst, rules}
use mir.Val.{to_z, of_z}
use mir.Syntax.{w64}
use Rattle.std.specs.Prelude.{All}
use Rattle.std.proofs.lemmas.List.{take_all}
use Rattle.std.proofs.lemmas.List.Elements.{All-nil}
use Rattle.scan_groups.specs.Within.{IsShort}
use Rattle.scan_groups.proofs.Rooms.{short_more}
use Rattle.scan_groups.proofs.all_sums.are_short.Goals as goal

pub loop-i-init : goal.loop-i-init
loop-i-init c = λ t. All-nil IsShort

pub loop-i-preserved : goal.loop-i-preserved
loop-i-preserved c =
    let zs = c.args.numbers.now in
    let i = c.loop-i.i in
    let z = get_or zs i (pos 0) in
    let read : to_z w64 (of_z w64 z) ≡ z = search rules in
    short_more zs i c.loop-i.short c.is_short-short.result c.loop-i-test.true c.loop-i.invariant (λ t. subst IsShort read (c.is_short-short.ensures t))

pub returns : goal.returns
returns c = λ t. subst (All IsShort) (take_all c.loop-i.i c.args.numbers.now c.loop-i-test.false) (c.loop-i.invariant t)
