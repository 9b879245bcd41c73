use Rattle.scan_multi_sources.proofs.Going.{call_ends, call_fails, call_goes, call_moves, call_starts, call_waits}
use Rattle.scan_multi_sources.proofs.file_scan.FileScan.poll_partition.Goals as goal

pub steps-init : goal.steps-init
steps-init g c = call_starts g.O.LayoutReaderFactory.opener c.args.self.now

pub step-requires : goal.step-requires
step-requires g c = c.steps.invariant.before

pub steps-preserved : goal.steps-preserved
steps-preserved g c = call_goes g.O.LayoutReaderFactory.opener c.args.self.now c.steps.self c.step.new.self c.steps.at c.in-Next.next c.steps.invariant c.in-Next.ensures

pub returns-in-Answer-clause-polled : goal.returns-in-Answer-clause-polled
returns-in-Answer-clause-polled g c = call_ends g.O.LayoutReaderFactory.opener c.args.self.now c.steps.self c.step.new.self c.steps.at c.in-Answer.answer c.steps.invariant c.in-Answer.ensures

pub returns-in-Answer-clause-waited : goal.returns-in-Answer-clause-waited
returns-in-Answer-clause-waited g c = call_waits g.O.LayoutReaderFactory.opener c.args.self.now c.steps.self c.step.new.self c.steps.at c.in-Answer.answer c.steps.invariant c.in-Answer.ensures

pub returns-in-Answer-clause-faults : goal.returns-in-Answer-clause-faults
returns-in-Answer-clause-faults g c = call_fails g.O.LayoutReaderFactory.opener c.args.self.now c.steps.self c.step.new.self c.steps.at c.in-Answer.answer c.is_ordered-ordered.ensures.stands c.steps.invariant c.in-Answer.ensures

pub returns-in-Answer-clause-moves : goal.returns-in-Answer-clause-moves
returns-in-Answer-clause-moves g c = call_moves g.O.LayoutReaderFactory.opener c.args.self.now c.steps.self c.step.new.self c.steps.at c.in-Answer.answer c.steps.invariant c.in-Answer.ensures
