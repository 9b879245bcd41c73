use Rattle.std.proofs.Common.{◌≡◌, ℕ, List, arith, subst, IfOk}
use Rattle.scan_columns.specs.Nested.{sums}
use Rattle.scan_columns.proofs.NestedLemmas.{rises_slice, sizes_slice}
use Rattle.scan_columns.proofs.ends.part_of.Goals as goal

pub moved_back-requires : goal.moved_back-requires
moved_back-requires c = rises_slice c.start_of-start.result c.args.ends.now c.args.from c.args.to c.requires.rises (omega (arith, c.requires.ordered, c.requires.within)) c.start_of-start.ensures

pub returns : goal.returns
returns c =
    let P : List ℕ → Type 0 = λ ns. IfOk c.moved_back.result (λ v. v.items ≡ sums 0 ns) in
    subst P (sizes_slice c.start_of-start.result c.args.ends.now c.args.from c.args.to c.requires.rises (omega (arith, c.requires.ordered, c.requires.within)) c.start_of-start.ensures) c.moved_back.ensures
