use Rattle.std.proofs.Common.{◌≡◌, ◌-◌, ◌<◌, length, false, is_some, rules, Some, slice_get, ap, arith}
use Rattle.std.specs.Map.{lookup}
use Rattle.scan_segments.specs.Keys.{same_key}
use Rattle.scan_caches.proofs.UseOrder.{kept_all, last_goes}
use Rattle.scan_caches.proofs.use_counts.forgotten.Goals as goal

pub returns-then-len-get : goal.returns-then-len-get
returns-then-len-get g c =
    let l = c.len.ensures.len in
    let g = c.get.ensures.value in
    let n = c.cap.ensures in
    let t = c.if-len-get.true in
    let less : length c.args.uses.now.entries < c.args.uses.now.cap = omega arith in
    kept_all c.args.uses.now.cap c.args.key.now c.args.uses.now.entries less

pub returns-in-Some : goal.returns-in-Some
returns-in-Some g c =
    let absent : is_some (lookup (same_key c.args.key.now) c.args.uses.now.entries) ≡ false = ap is_some c.requires in
    let l = c.len.ensures.len in
    let g = c.get.ensures.value in
    let n = c.cap.ensures in
    let t = c.if-len-get.false in
    let last : Some (c.in-Some.key.now, c.in-Some.field-0-1.now) ≡ slice_get c.args.uses.now.entries (length c.args.uses.now.entries - 1) = search rules in
    last_goes c.args.uses.now.cap c.args.key.now c.args.uses.now.entries (Some (c.in-Some.key.now, c.in-Some.field-0-1.now)) absent c.len.ensures.valid.1 (λ less. omega arith) last
