use Rattle.std.proofs.Common.{◌≡◌, ◌+◌, Bool, true, false, IfOk, sym, ◌∙◌, subst}
use Rattle.scan_drive.specs.Chunks.{given, IsDelivered, IsDeliverFault}
use Rattle.scan_drive.specs.Files.{count}
use Rattle.scan_drive.specs.Slots.{read_rows}
use Rattle.scan_drive.specs.declared.delivery.Delivered.{Delivered}
use Rattle.scan_drive.specs.declared.delivery.Delivered.TheVariants as delivered
use Rattle.scan_drive.specs.declared.delivery.DriveFault.{DriveFault}
use Rattle.scan_drive.proofs.Freely.{ok_under, ok_any, err_under, err_any}
use Rattle.scan_drive.proofs.delivery.deliver_in.Goals as goal

pub returns-then-ordered-clause-delivered : goal.returns-then-ordered-clause-delivered
returns-then-ordered-clause-delivered g c =
    subst (λ (b : Bool). IfOk c.deliver.result (λ (d : Delivered). IsDelivered g.W.SplitWork.split g.W.SplitWork.comes g.W.SplitWork.items b c.args.active.now c.deliver.new.active
    c.args.chunks.now.items c.deliver.new.chunks.items c.args.left.now c.deliver.new.left d)) (sym c.if-ordered.true) c.deliver.ensures.delivered

pub returns-then-ordered-clause-fault : goal.returns-then-ordered-clause-fault
returns-then-ordered-clause-fault g c =
    err_under c.deliver.result (λ (e : DriveFault). IsDeliverFault g.W.SplitWork.split g.W.SplitWork.comes g.W.SplitWork.items c.args.active.now c.deliver.new.active c.args.chunks.now.items c.deliver.new.chunks.items c.args.left.now c.deliver.new.left e)
    (λ (e : DriveFault). c.args.ordered ≡ true → IsDeliverFault g.W.SplitWork.split g.W.SplitWork.comes g.W.SplitWork.items c.args.active.now c.deliver.new.active c.args.chunks.now.items c.deliver.new.chunks.items c.args.left.now c.deliver.new.left e) (λ e h is. h) c.deliver.ensures.fault

pub returns-then-ordered-clause-reads : goal.returns-then-ordered-clause-reads
returns-then-ordered-clause-reads g c =
    ok_any c.deliver.result (λ (d : Delivered). c.args.ordered ≡ false → c.args.cut ≡ false → d ≡ delivered.More → count (given g.W.SplitWork.items c.deliver.new.chunks.items) ≡ count (given g.W.SplitWork.items c.args.chunks.now.items) + read_rows g.W.SplitWork.items c.args.active.now.slots.items)
    (λ d e un is. let bad : true ≡ false = sym c.if-ordered.true ∙ e in absurd cc)

pub returns-clause-delivered : goal.returns-clause-delivered
returns-clause-delivered g c =
    subst (λ (b : Bool). IfOk c.deliver_any.result (λ (d : Delivered). IsDelivered g.W.SplitWork.split g.W.SplitWork.comes g.W.SplitWork.items b c.args.active.now c.deliver_any.new.active
    c.args.chunks.now.items c.deliver_any.new.chunks.items c.args.left.now c.deliver_any.new.left d)) (sym c.if-ordered.false) c.deliver_any.ensures.delivered

pub returns-clause-fault : goal.returns-clause-fault
returns-clause-fault g c =
    err_any c.deliver_any.result (λ (e : DriveFault). c.args.ordered ≡ true → IsDeliverFault g.W.SplitWork.split g.W.SplitWork.comes g.W.SplitWork.items c.args.active.now c.deliver_any.new.active c.args.chunks.now.items c.deliver_any.new.chunks.items c.args.left.now c.deliver_any.new.left e)
    (λ d e. let bad : true ≡ false = sym e ∙ c.if-ordered.false in absurd cc)

pub returns-clause-reads : goal.returns-clause-reads
returns-clause-reads g c =
    ok_under c.deliver_any.result (λ (d : Delivered). c.args.cut ≡ false → d ≡ delivered.More → count (given g.W.SplitWork.items c.deliver_any.new.chunks.items) ≡ count (given g.W.SplitWork.items c.args.chunks.now.items) + read_rows g.W.SplitWork.items c.args.active.now.slots.items)
    (λ (d : Delivered). c.args.ordered ≡ false → c.args.cut ≡ false → d ≡ delivered.More → count (given g.W.SplitWork.items c.deliver_any.new.chunks.items) ≡ count (given g.W.SplitWork.items c.args.chunks.now.items) + read_rows g.W.SplitWork.items c.args.active.now.slots.items) (λ d h e. h) c.deliver_any.ensures.reads
