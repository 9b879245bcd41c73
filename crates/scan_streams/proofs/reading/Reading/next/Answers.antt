use Rattle.std.proofs.Common.{◌≡◌, true, refl, sym, ◌∙◌, rules}
use Rattle.scan_streams.specs.declared.reading.Step.TheVariants as step
use Rattle.scan_streams.proofs.Continuing.{moves_on, halts_on, step_begun, step_goes, step_type, step_continues, no_rows}
use Rattle.scan_streams.proofs.reading.Reading.next.Goals as goal

pub returns-in-Err-clause-source : goal.returns-in-Err-clause-source
returns-in-Err-clause-source g c =
    let state = g.S.SegmentSource.state in
    moves_on c.args.self.now c.steps.self (state c.args.source.now) (state c.steps.source) c.steps.invariant (state c.advance.new.source) c.advance.ensures.source

pub returns-in-Pending-clause-source : goal.returns-in-Pending-clause-source
returns-in-Pending-clause-source g c =
    let state = g.S.SegmentSource.state in
    moves_on c.args.self.now c.steps.self (state c.args.source.now) (state c.steps.source) c.steps.invariant (state c.advance.new.source) c.advance.ensures.source

pub returns-in-End-clause-source : goal.returns-in-End-clause-source
returns-in-End-clause-source g c =
    let state = g.S.SegmentSource.state in
    moves_on c.args.self.now c.steps.self (state c.args.source.now) (state c.steps.source) c.steps.invariant (state c.advance.new.source) c.advance.ensures.source

pub returns-then-not-is_empty-clause-source : goal.returns-then-not-is_empty-clause-source
returns-then-not-is_empty-clause-source g c =
    let state = g.S.SegmentSource.state in
    moves_on c.args.self.now c.steps.self (state c.args.source.now) (state c.steps.source) c.steps.invariant (state c.advance.new.source) c.advance.ensures.source

pub returns-in-Err-clause-halts : goal.returns-in-Err-clause-halts
returns-in-Err-clause-halts g c =
    let state = g.S.SegmentSource.state in
    halts_on c.args.self.now c.steps.self (state c.args.source.now) (state c.steps.source) c.steps.invariant (state c.advance.new.source) c.in-Err.halt c.in-Err.ensures.halts

pub returns-in-Pending-clause-goes : goal.returns-in-Pending-clause-goes
returns-in-Pending-clause-goes g c =
    let state = g.S.SegmentSource.state in
    step_goes c.args.self.now c.steps.self (state c.args.source.now) (state c.steps.source) c.steps.invariant c.in-Ok.step step.Pending c.advance.new.self (state c.advance.new.source) c.in-Pending.is c.in-Ok.ensures.advances

pub returns-in-End-clause-goes : goal.returns-in-End-clause-goes
returns-in-End-clause-goes g c =
    let state = g.S.SegmentSource.state in
    step_goes c.args.self.now c.steps.self (state c.args.source.now) (state c.steps.source) c.steps.invariant c.in-Ok.step step.End c.advance.new.self (state c.advance.new.source) c.in-End.is c.in-Ok.ensures.advances

pub returns-then-not-is_empty-clause-goes : goal.returns-then-not-is_empty-clause-goes
returns-then-not-is_empty-clause-goes g c =
    let state = g.S.SegmentSource.state in
    step_goes c.args.self.now c.steps.self (state c.args.source.now) (state c.steps.source) c.steps.invariant c.in-Ok.step (step.Array c.in-Array.array) c.advance.new.self (state c.advance.new.source) c.in-Array.is c.in-Ok.ensures.advances

pub returns-then-not-is_empty-clause-dtype : goal.returns-then-not-is_empty-clause-dtype
returns-then-not-is_empty-clause-dtype g c =
    let state = g.S.SegmentSource.state in
    step_type c.args.self.now c.steps.self (state c.args.source.now) (state c.steps.source) c.steps.invariant c.in-Ok.step (step.Array c.in-Array.array) c.advance.new.self (state c.advance.new.source) c.in-Array.is c.in-Ok.ensures.advances

pub returns-in-Pending-clause-begun : goal.returns-in-Pending-clause-begun
returns-in-Pending-clause-begun g c =
    let state = g.S.SegmentSource.state in
    step_begun c.args.self.now c.steps.self (state c.args.source.now) (state c.steps.source) c.steps.invariant c.in-Ok.step c.advance.new.self (state c.advance.new.source) c.in-Ok.ensures.advances

pub returns-in-End-clause-begun : goal.returns-in-End-clause-begun
returns-in-End-clause-begun g c =
    let state = g.S.SegmentSource.state in
    step_begun c.args.self.now c.steps.self (state c.args.source.now) (state c.steps.source) c.steps.invariant c.in-Ok.step c.advance.new.self (state c.advance.new.source) c.in-Ok.ensures.advances

pub returns-then-not-is_empty-clause-begun : goal.returns-then-not-is_empty-clause-begun
returns-then-not-is_empty-clause-begun g c =
    let state = g.S.SegmentSource.state in
    step_begun c.args.self.now c.steps.self (state c.args.source.now) (state c.steps.source) c.steps.invariant c.in-Ok.step c.advance.new.self (state c.advance.new.source) c.in-Ok.ensures.advances

pub steps-preserved-in-More : goal.steps-preserved-in-More
steps-preserved-in-More g c =
    let state = g.S.SegmentSource.state in
    step_continues c.args.self.now c.steps.self (state c.args.source.now) (state c.steps.source) c.steps.invariant c.in-Ok.step step.More c.advance.new.self (state c.advance.new.source)
    c.in-More.is refl c.in-Ok.ensures.advances c.advance.ensures.agree c.advance.ensures.ordered c.advance.ensures.source

pub steps-preserved : goal.steps-preserved
steps-preserved g c =
    let state = g.S.SegmentSource.state in
    let empty : c.is_empty.result ≡ true = search rules in
    step_continues c.args.self.now c.steps.self (state c.args.source.now) (state c.steps.source) c.steps.invariant c.in-Ok.step (step.Array c.in-Array.array) c.advance.new.self (state c.advance.new.source)
    c.in-Array.is (no_rows c.in-Array.array.items (sym c.is_empty.ensures ∙ empty)) c.in-Ok.ensures.advances c.advance.ensures.agree c.advance.ensures.ordered c.advance.ensures.source

pub steps-preserved-else-not-is_empty : goal.steps-preserved-else-not-is_empty
steps-preserved-else-not-is_empty g c =
    let state = g.S.SegmentSource.state in
    let empty : c.is_empty.result ≡ true = search rules in
    step_continues c.args.self.now c.steps.self (state c.args.source.now) (state c.steps.source) c.steps.invariant c.in-Ok.step (step.Array c.in-Array.array) c.advance.new.self (state c.advance.new.source)
    c.in-Array.is (no_rows c.in-Array.array.items (sym c.is_empty.ensures ∙ empty)) c.in-Ok.ensures.advances c.advance.ensures.agree c.advance.ensures.ordered c.advance.ensures.source

pub steps-preserved-else-not-is_empty-2 : goal.steps-preserved-else-not-is_empty-2
steps-preserved-else-not-is_empty-2 g c =
    let state = g.S.SegmentSource.state in
    let empty : c.is_empty.result ≡ true = search rules in
    step_continues c.args.self.now c.steps.self (state c.args.source.now) (state c.steps.source) c.steps.invariant c.in-Ok.step (step.Array c.in-Array.array) c.advance.new.self (state c.advance.new.source)
    c.in-Array.is (no_rows c.in-Array.array.items (sym c.is_empty.ensures ∙ empty)) c.in-Ok.ensures.advances c.advance.ensures.agree c.advance.ensures.ordered c.advance.ensures.source

pub steps-preserved-else-not-is_empty-3 : goal.steps-preserved-else-not-is_empty-3
steps-preserved-else-not-is_empty-3 g c =
    let state = g.S.SegmentSource.state in
    let empty : c.is_empty.result ≡ true = search rules in
    step_continues c.args.self.now c.steps.self (state c.args.source.now) (state c.steps.source) c.steps.invariant c.in-Ok.step (step.Array c.in-Array.array) c.advance.new.self (state c.advance.new.source)
    c.in-Array.is (no_rows c.in-Array.array.items (sym c.is_empty.ensures ∙ empty)) c.in-Ok.ensures.advances c.advance.ensures.agree c.advance.ensures.ordered c.advance.ensures.source

pub steps-preserved-else-not-is_empty-4 : goal.steps-preserved-else-not-is_empty-4
steps-preserved-else-not-is_empty-4 g c =
    let state = g.S.SegmentSource.state in
    let empty : c.is_empty.result ≡ true = search rules in
    step_continues c.args.self.now c.steps.self (state c.args.source.now) (state c.steps.source) c.steps.invariant c.in-Ok.step (step.Array c.in-Array.array) c.advance.new.self (state c.advance.new.source)
    c.in-Array.is (no_rows c.in-Array.array.items (sym c.is_empty.ensures ∙ empty)) c.in-Ok.ensures.advances c.advance.ensures.agree c.advance.ensures.ordered c.advance.ensures.source

pub steps-preserved-else-not-is_empty-5 : goal.steps-preserved-else-not-is_empty-5
steps-preserved-else-not-is_empty-5 g c =
    let state = g.S.SegmentSource.state in
    let empty : c.is_empty.result ≡ true = search rules in
    step_continues c.args.self.now c.steps.self (state c.args.source.now) (state c.steps.source) c.steps.invariant c.in-Ok.step (step.Array c.in-Array.array) c.advance.new.self (state c.advance.new.source)
    c.in-Array.is (no_rows c.in-Array.array.items (sym c.is_empty.ensures ∙ empty)) c.in-Ok.ensures.advances c.advance.ensures.agree c.advance.ensures.ordered c.advance.ensures.source

pub steps-preserved-else-not-is_empty-6 : goal.steps-preserved-else-not-is_empty-6
steps-preserved-else-not-is_empty-6 g c =
    let state = g.S.SegmentSource.state in
    let empty : c.is_empty.result ≡ true = search rules in
    step_continues c.args.self.now c.steps.self (state c.args.source.now) (state c.steps.source) c.steps.invariant c.in-Ok.step (step.Array c.in-Array.array) c.advance.new.self (state c.advance.new.source)
    c.in-Array.is (no_rows c.in-Array.array.items (sym c.is_empty.ensures ∙ empty)) c.in-Ok.ensures.advances c.advance.ensures.agree c.advance.ensures.ordered c.advance.ensures.source

pub steps-preserved-else-not-is_empty-7 : goal.steps-preserved-else-not-is_empty-7
steps-preserved-else-not-is_empty-7 g c =
    let state = g.S.SegmentSource.state in
    let empty : c.is_empty.result ≡ true = search rules in
    step_continues c.args.self.now c.steps.self (state c.args.source.now) (state c.steps.source) c.steps.invariant c.in-Ok.step (step.Array c.in-Array.array) c.advance.new.self (state c.advance.new.source)
    c.in-Array.is (no_rows c.in-Array.array.items (sym c.is_empty.ensures ∙ empty)) c.in-Ok.ensures.advances c.advance.ensures.agree c.advance.ensures.ordered c.advance.ensures.source

pub steps-preserved-else-not-is_empty-8 : goal.steps-preserved-else-not-is_empty-8
steps-preserved-else-not-is_empty-8 g c =
    let state = g.S.SegmentSource.state in
    let empty : c.is_empty.result ≡ true = search rules in
    step_continues c.args.self.now c.steps.self (state c.args.source.now) (state c.steps.source) c.steps.invariant c.in-Ok.step (step.Array c.in-Array.array) c.advance.new.self (state c.advance.new.source)
    c.in-Array.is (no_rows c.in-Array.array.items (sym c.is_empty.ensures ∙ empty)) c.in-Ok.ensures.advances c.advance.ensures.agree c.advance.ensures.ordered c.advance.ensures.source

pub steps-preserved-else-not-is_empty-9 : goal.steps-preserved-else-not-is_empty-9
steps-preserved-else-not-is_empty-9 g c =
    let state = g.S.SegmentSource.state in
    let empty : c.is_empty.result ≡ true = search rules in
    step_continues c.args.self.now c.steps.self (state c.args.source.now) (state c.steps.source) c.steps.invariant c.in-Ok.step (step.Array c.in-Array.array) c.advance.new.self (state c.advance.new.source)
    c.in-Array.is (no_rows c.in-Array.array.items (sym c.is_empty.ensures ∙ empty)) c.in-Ok.ensures.advances c.advance.ensures.agree c.advance.ensures.ordered c.advance.ensures.source
