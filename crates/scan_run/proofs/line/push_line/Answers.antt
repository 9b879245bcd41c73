use Rattle.std.proofs.Common.{rules}
use Rattle.std.specs.Prelude.{codes}
use Rattle.std.specs.Fmt.{decimal}
use Rattle.scan_values.specs.Values.{val_of}
use Rattle.scan_run.specs.Line.{value_text}
use Rattle.scan_run.proofs.Fronts.{on_err, front_none, front_first, front_then, err_none, err_then, ok_then}
use Rattle.scan_run.proofs.line.push_line.Goals as goal

pub returns-in_err-push_bytes-clause-front : goal.returns-in_err-push_bytes-clause-front
returns-in_err-push_bytes-clause-front c = on_err _ _ (front_none _ _ _ c.in_err-push_bytes.ensures.err)

pub returns-in_err-push_count-clause-front : goal.returns-in_err-push_count-clause-front
returns-in_err-push_count-clause-front c = on_err _ _ (front_then (codes "{\"file\":") _ _ _ _ c.in_ok-push_bytes.ensures.ok (front_none _ _ _ c.in_err-push_count.ensures.err))

pub returns-in_err-push_bytes-2-clause-front : goal.returns-in_err-push_bytes-2-clause-front
returns-in_err-push_bytes-2-clause-front c = on_err _ _ (front_then (codes "{\"file\":") _ _ _ _ c.in_ok-push_bytes.ensures.ok (front_then (decimal c.args.file) _ _ _ _ c.in_ok-push_count.ensures.ok (front_none _ _ _ c.in_err-push_bytes-2.ensures.err)))

pub returns-in_err-push_count-2-clause-front : goal.returns-in_err-push_count-2-clause-front
returns-in_err-push_count-2-clause-front c = on_err _ _
    (front_then (codes "{\"file\":") _ _ _ _ c.in_ok-push_bytes.ensures.ok
    (front_then (decimal c.args.file) _ _ _ _ c.in_ok-push_count.ensures.ok
    (front_then (codes ",\"row\":") _ _ _ _ c.in_ok-push_bytes-2.ensures.ok (front_none _ _ _ c.in_err-push_count-2.ensures.err))))

pub returns-in_err-push_bytes-3-clause-front : goal.returns-in_err-push_bytes-3-clause-front
returns-in_err-push_bytes-3-clause-front c = on_err _ _
    (front_then (codes "{\"file\":") _ _ _ _ c.in_ok-push_bytes.ensures.ok
    (front_then (decimal c.args.file) _ _ _ _ c.in_ok-push_count.ensures.ok
    (front_then (codes ",\"row\":") _ _ _ _ c.in_ok-push_bytes-2.ensures.ok
    (front_then (decimal c.args.row) _ _ _ _ c.in_ok-push_count-2.ensures.ok (front_none _ _ _ c.in_err-push_bytes-3.ensures.err)))))

pub returns-in_err-push_value-clause-front : goal.returns-in_err-push_value-clause-front
returns-in_err-push_value-clause-front c = on_err _ _
    (front_then (codes "{\"file\":") _ _ _ _ c.in_ok-push_bytes.ensures.ok
    (front_then (decimal c.args.file) _ _ _ _ c.in_ok-push_count.ensures.ok
    (front_then (codes ",\"row\":") _ _ _ _ c.in_ok-push_bytes-2.ensures.ok
    (front_then (decimal c.args.row) _ _ _ _ c.in_ok-push_count-2.ensures.ok
    (front_then (codes ",\"value\":") _ _ _ _ c.in_ok-push_bytes-3.ensures.ok
    (front_first (value_text (val_of c.args.value.now) c.args.dtype.now) _ _ _ c.in_err-push_value.ensures.front))))))

pub returns-clause-front : goal.returns-clause-front
returns-clause-front c = err_then _ (codes "{\"file\":") _ _ _ _ c.in_ok-push_bytes.ensures.ok
    (err_then _ (decimal c.args.file) _ _ _ _ c.in_ok-push_count.ensures.ok
    (err_then _ (codes ",\"row\":") _ _ _ _ c.in_ok-push_bytes-2.ensures.ok
    (err_then _ (decimal c.args.row) _ _ _ _ c.in_ok-push_count-2.ensures.ok (err_then _ (codes ",\"value\":") _ _ _ _ c.in_ok-push_bytes-3.ensures.ok
    (err_then _ (value_text (val_of c.args.value.now) c.args.dtype.now) _ _ _ _ c.in_ok-push_value.ensures.ok
    (err_none _ (codes "}\n") _ _ c.push_bytes-4.ensures.err))))))

pub returns-clause-ok : goal.returns-clause-ok
returns-clause-ok c = ok_then _ (codes "{\"file\":") _ _ _ _ c.in_ok-push_bytes.ensures.ok
    (ok_then _ (decimal c.args.file) _ _ _ _ c.in_ok-push_count.ensures.ok
    (ok_then _ (codes ",\"row\":") _ _ _ _ c.in_ok-push_bytes-2.ensures.ok
    (ok_then _ (decimal c.args.row) _ _ _ _ c.in_ok-push_count-2.ensures.ok
    (ok_then _ (codes ",\"value\":") _ _ _ _ c.in_ok-push_bytes-3.ensures.ok
    (ok_then _ (value_text (val_of c.args.value.now) c.args.dtype.now) (codes "}\n") _ _ _ c.in_ok-push_value.ensures.ok (c.push_bytes-4.ensures.ok))))))
