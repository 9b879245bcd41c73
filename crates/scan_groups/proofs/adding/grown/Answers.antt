use Rattle.std.proofs.Common.{◌≤◌, arith}
use Rattle.std.specs.Vec.{vec_len}
use Rattle.scan_groups.proofs.Added.{resized}
use Rattle.scan_groups.proofs.adding.grown.Goals as goal

pub returns : goal.returns
returns c = λ c'.
    let n = vec_len c'.args.xs in
    let e = c'.larger-all.ensures in
    let first : n ≤ c'.larger-all.result = let f = e.first in omega (arith, f, c'.len.ensures) in
    resized c'.args.xs.items c'.resize.new.self.items n c'.args.len c'.larger-all.result c'.args.x c'.args.xs.ok.0 first e.second (λ k a b. e.least k (omega (arith, a, c'.len.ensures)) b) c'.in_ok-resize.ensures.items
