use Rattle.std.proofs.Common.{◌≡◌, ◌≢◌, [], ap, map, true, refl, arith, rules}
use Rattle.std.specs.Prelude.{string_bytes}
use Rattle.scan_run.specs.Io.{InputState}
use Rattle.scan_run.specs.Memory.{memory_input}
use Rattle.scan_run.specs.Run.{is_scan_words}
use Rattle.uses.proofs.Concluding.{code_of, lines-are, is-none, no-other}
use Rattle.uses.proofs.program.lines_of.Goals as goal

pub returns-in_default-clause-refused : goal.returns-in_default-clause-refused
returns-in_default-clause-refused g c e m i = let n = ap code_of e in absurd (omega (arith, n))

pub returns-then-status-eq0-clause-lines : goal.returns-then-status-eq0-clause-lines
returns-then-status-eq0-clause-lines g c =
    let input = c.new-input.result in
    let output = c.new-output.result in
    let now = c.run-status.new.output in
    let zero : c.run-status.result ≡ 0 = search rules in
    let scan : is_scan_words (map string_bytes c.as_slice.result.now) ≡ true = search rules in
    lines-are c.args.manifest.items input.bytes.items output.bytes.items now.bytes.items input.script output.script now.script input.at input.taken input.ends input.faults output.faults output.short now.faults now.short _
    c.new-input.ensures.bytes c.new-output.ensures.bytes ((c.run-status.ensures.scan scan).done zero)

pub returns-then-status-eq0-clause-refused : goal.returns-then-status-eq0-clause-refused
returns-then-status-eq0-clause-refused g c e m i = let n = ap code_of e in absurd (omega (arith, n))

pub returns-in_default-clause-valid : goal.returns-in_default-clause-valid
returns-in_default-clause-valid g c few m is sure = refl

pub returns-then-status-eq0-clause-valid : goal.returns-then-status-eq0-clause-valid
returns-then-status-eq0-clause-valid g c few m is sure = tt

pub returns-clause-valid : goal.returns-clause-valid
returns-clause-valid g c few m is sure =
    let input = c.new-input.result in
    let output = c.new-output.result in
    let scan : is_scan_words (map string_bytes c.as_slice.result.now) ≡ true = search rules in
    let reads : input.script.failing ≡ [] = search rules in
    let writes : output.script.failing ≡ [] = search rules in
    let some : c.run-status.result ≢ 0 = search rules in
    let state : InputState = memory_input input.bytes.items input.script input.at input.taken input.ends input.faults in
    no-other c.args.manifest.items input.bytes.items input.script input.at input.taken input.ends input.faults state c.new-input.ensures.bytes output.bytes.items output.script output.faults output.short reads writes few
    c.run-status.result (c.run-status.ensures.scan scan).answers m is sure some

pub returns-clause-refused : goal.returns-clause-refused
returns-clause-refused g c e m i =
    let input = c.new-input.result in
    is-none c.args.manifest.items input.bytes.items input.script input.at input.taken input.ends input.faults _ c.new-input.ensures.bytes (c.run-status.ensures.status.refused (ap code_of e)) m i
