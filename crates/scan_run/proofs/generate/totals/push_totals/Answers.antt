use Rattle.std.proofs.Common.{◌≡◌, ◌++◌, ℕ, List, rules}
use Rattle.std.specs.Prelude.{codes}
use Rattle.std.specs.Fmt.{decimal, signed_decimal}
use Rattle.std.proofs.lemmas.Result.{on_ok_weaker}
use Rattle.scan_run.proofs.Numbers.{more}
use Rattle.scan_run.proofs.generate.totals.push_totals.Goals as goal

pub returns : goal.returns
returns c =
    let z = c.push_bytes-6.new.out.items in
    let a10 : List ℕ = codes "\n" in
    let a9 : List ℕ = decimal c.args.asks ++ a10 in
    let a8 : List ℕ = codes " asked=" ++ a9 in
    let a7 : List ℕ = signed_decimal c.args.lengths ++ a8 in
    let a6 : List ℕ = codes " lengths=" ++ a7 in
    let a5 : List ℕ = signed_decimal c.args.ids ++ a6 in
    let a4 : List ℕ = codes " ids=" ++ a5 in
    let a3 : List ℕ = decimal c.args.given ++ a4 in
    let a2 : List ℕ = codes " rows=" ++ a3 in
    let a1 : List ℕ = decimal c.args.rows ++ a2 in
    let p : c.push_number.new.out.items ≡ c.push_bytes-3.new.out.items ++ signed_decimal c.args.ids = search rules in
    let q : c.push_number-2.new.out.items ≡ c.push_bytes-4.new.out.items ++ signed_decimal c.args.lengths = search rules in
    on_ok_weaker c.push_bytes-6.result (λ e.
    more c.args.out.now.items c.push_bytes.new.out.items z (codes "n=") a1 c.in_ok-push_bytes.ensures.ok
    (more c.push_bytes.new.out.items c.push_count.new.out.items z (decimal c.args.rows) a2 c.in_ok-push_count.ensures.ok
    (more c.push_count.new.out.items c.push_bytes-2.new.out.items z (codes " rows=") a3 c.in_ok-push_bytes-2.ensures.ok
    (more c.push_bytes-2.new.out.items c.push_count-2.new.out.items z (decimal c.args.given) a4 c.in_ok-push_count-2.ensures.ok
    (more c.push_count-2.new.out.items c.push_bytes-3.new.out.items z (codes " ids=") a5 c.in_ok-push_bytes-3.ensures.ok
    (more c.push_bytes-3.new.out.items c.push_number.new.out.items z (signed_decimal c.args.ids) a6 p
    (more c.push_number.new.out.items c.push_bytes-4.new.out.items z (codes " lengths=") a7 c.in_ok-push_bytes-4.ensures.ok
    (more c.push_bytes-4.new.out.items c.push_number-2.new.out.items z (signed_decimal c.args.lengths) a8 q
    (more c.push_number-2.new.out.items c.push_bytes-5.new.out.items z (codes " asked=") a9 c.in_ok-push_bytes-5.ensures.ok
    (more c.push_bytes-5.new.out.items c.push_count-3.new.out.items z (decimal c.args.asks) a10 c.in_ok-push_count-3.ensures.ok e)))))))))) c.push_bytes-6.ensures.ok
