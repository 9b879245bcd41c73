use borrow.Author.Rules.{rules}
use Rattle.std.proofs.Common.{◌≡◌, subst, ◌∙◌}
use Rattle.std.specs.Option.{IfSome}
use Rattle.std.specs.declared.option.Option.{Option}
use Rattle.scan_columns.specs.declared.cells.Cells.{Cells}
use Rattle.scan_columns.specs.Cells.{vals_in}
use Rattle.scan_columns.specs.Evaluated.{paired}
use Rattle.scan_columns.specs.Operands.{pair_val}
use Rattle.scan_columns.proofs.KernelLemmas.{paired_any}
use Rattle.scan_columns.proofs.Pairing.{none_spill}
use Rattle.scan_columns.proofs.binary.pairs.Goals as goal

pub returns-in-Some-clause-items : goal.returns-in-Some-clause-items
returns-in-Some-clause-items c =
    let op = c.args.op in
    let vs = vals_in c.args.x.now in
    let ws = vals_in c.args.y.now in
    let some : IfSome c.in_ok-made.field-0 (λ (cells : Cells). vals_in cells ≡ paired (pair_val op) vs ws) = search (rules, c.in_ok-made.ensures) in
    let made : vals_in c.in-Some.made ≡ paired (pair_val op) vs ws = subst (λ (o : Option Cells). IfSome o (λ (cells : Cells). vals_in cells ≡ paired (pair_val op) vs ws)) c.in-Some.is some in
    made ∙ paired_any op c.args.dtype.now vs ws c.requires.pairs

pub returns-in-Some-clause-within : goal.returns-in-Some-clause-within
returns-in-Some-clause-within c = none_spill c.args.op c.args.dtype.now (vals_in c.args.x.now) (vals_in c.args.y.now) c.requires.pairs
