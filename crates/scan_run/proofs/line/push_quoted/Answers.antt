use Rattle.std.proofs.Common.{◌≡◌, ◌+◌, ◌<◌, ◌≤◌, ◌++◌, length, drop, take, ap, ◌∙◌, arith}
use Rattle.std.specs.Prelude.{codes}
use Rattle.std.specs.List.{flat_map}
use Rattle.scan_run.specs.Line.{escaped, quoted}
use Rattle.scan_run.proofs.Fronts.{on_err, front_none, front_kept, err_kept, ok_closed, next_piece, opened, byte_piece, rest_is, run_piece, at_end}
use Rattle.scan_run.proofs.line.push_quoted.Goals as goal

pub returns-in_err-push_bytes-clause-front : goal.returns-in_err-push_bytes-clause-front
returns-in_err-push_bytes-clause-front c = on_err _ _ (front_none _ _ _ c.in_err-push_bytes.ensures.err)

pub runs-init : goal.runs-init
runs-init c =
    let start = opened (flat_map escaped c.args.text.now ++ codes "\"") c.args.out.now.items c.push_bytes.new.out.items c.in_ok-push_bytes.ensures.ok in
    (start.0, start.1, omega arith)

pub returns-in_err-push_byte-clause-front : goal.returns-in_err-push_byte-clause-front
returns-in_err-push_byte-clause-front c = on_err _ _ (front_kept _ _ _ _ _ c.runs.invariant.0 c.runs.invariant.1 c.in_err-push_byte.ensures.err)

pub runs-preserved-then-n-eq0 : goal.runs-preserved-then-n-eq0
runs-preserved-then-n-eq0 c =
    let next = next_piece (quoted c.args.text.now) (flat_map escaped (drop (c.runs.start + 1) c.args.text.now))
    (codes "\"") c.args.out.now.items c.runs.out.items c.push_byte.new.out.items _ _
    (byte_piece c.args.text.now c.runs.start (omega arith)) c.runs.invariant.0 c.runs.invariant.1 c.in_ok-push_byte.ensures.ok in
    (next.0, next.1, omega arith)

pub returns-in_err-push_bytes-2-clause-front : goal.returns-in_err-push_bytes-2-clause-front
returns-in_err-push_bytes-2-clause-front c = on_err _ _ (front_kept _ _ _ _ _ c.runs.invariant.0 c.runs.invariant.1 c.in_err-push_bytes-2.ensures.err)

pub runs-preserved : goal.runs-preserved
runs-preserved c =
    let next = next_piece (quoted c.args.text.now) (flat_map escaped (drop (c.runs.start + c.plain_length-n.result) c.args.text.now))
    (codes "\"") c.args.out.now.items c.runs.out.items c.push_bytes-else-n-eq0.new.out.items _ _
    (run_piece c.args.text.now _ c.runs.start c.plain_length-n.result (rest_is c.args.text.now c.runs.start) c.plain_length-n.ensures.plain)
    c.runs.invariant.0 c.runs.invariant.1 c.in_ok-push_bytes-2.ensures.ok in
    (next.0, next.1, omega arith)

pub returns-clause-ok : goal.returns-clause-ok
returns-clause-ok c = ok_closed _ (quoted c.args.text.now) _ _ _ (codes "\"") (c.runs.invariant.0 ∙ ap (λ xs. c.runs.out.items ++ xs) (at_end c.args.text.now (codes "\"") c.runs.start (omega arith))) c.push_bytes-2.ensures.ok

pub returns-clause-front : goal.returns-clause-front
returns-clause-front c = err_kept _ (quoted c.args.text.now) _ _ _ _ c.runs.invariant.0 c.runs.invariant.1 c.push_bytes-2.ensures.err
