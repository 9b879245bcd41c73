use Rattle.scan_lines.proofs.cells.put_text_slot.Goals as goal

pub returns-then-valid : goal.returns-then-valid
returns-then-valid c = λ d. rw c.if-valid.true c.put_quoted.ensures
