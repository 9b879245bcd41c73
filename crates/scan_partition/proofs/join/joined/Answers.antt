use borrow.Author.Rules.{rules}
use Rattle.std.proofs.Common.{◌≡◌, ◌<◌, ◌∙◌, ℕ, true, false, ap, sym, subst, map, drop, arith, below_more}
use Rattle.std.specs.List.{range_with_len}
use Rattle.scan_values.specs.Arrays.{ArrayData}
use Rattle.scan_values.specs.Values.{val_of}
use Rattle.scan_values.specs.Val.{Val, marked}
use Rattle.scan_expr.specs.Overflow.{overflows}
use Rattle.scan_expr.proofs.Evals.{mark, marks, marks-map}
use Rattle.scan_partition.specs.Joining.{row_at, joined_at}
use Rattle.scan_partition.proofs.Joining.{all_columns, next_columns, whole_back, next_count, row_read, one_joined, joined_fit, none_overflows, one_overflows}
use Rattle.scan_partition.proofs.join.joined.Goals as goal

pub loop-number-init : goal.loop-number-init
loop-number-init c = record { columns = c.in_ok-columns.ensures.items ∙ all_columns _; items = ap (map mark) c.in_ok-items.ensures.items; within = λ r q. absurd (omega arith) }

pub loop-number-preserved : goal.loop-number-preserved
loop-number-preserved c =
    let xs = c.args.arrays.items in
    let k = c.loop-number.number in
    let seen = c.deref_mut.ensures.value ∙ c.loop-number.invariant.columns in
    let read = row_read xs c.args.len k c.deref_mut.result.now (val_of c.in_ok-row.row) c.requires.length c.loop-number-test.true c.in_ok-row.ensures.row seen in
    record {
      columns =
          whole_back c.loop-number.columns.len c.loop-number.columns.items c.next_row.new.columns c.loop-number.columns.ok.0 (next_count c.loop-number.columns.items c.next_row.new.columns (c.in_ok-row.ensures.rest ∙ ap (map (drop 1)) c.deref_mut.ensures.value))
          ∙ c.in_ok-row.ensures.rest ∙ ap (map (drop 1)) seen ∙ next_columns (map (λ (a : ArrayData). a.items) xs) k;
      items = one_joined c.args.root.now xs k c.loop-number.items.items c.push.new.self.items (val_of c.in_ok-row.row) c.in_ok-value.value c.in_ok-push.ensures.items c.in_ok-value.ensures.value read c.loop-number.invariant.items;
      within = below_more _ _ c.loop-number.invariant.within (ap (λ (v : Val). overflows c.args.root.now.scope c.args.root.now.expr (marked v) k) (sym read) ∙ c.in_ok-value.ensures.within);
    }

pub of_fitting-requires : goal.of_fitting-requires
of_fitting-requires c =
    let xs = c.args.arrays.items in
    let all : c.loop-number.number ≡ c.args.len = omega arith in
    let done : map mark c.loop-number.items.items ≡ map (joined_at c.args.root.now xs) (range_with_len 0 c.args.len) = c.loop-number.invariant.items ∙ ap (λ n. map (joined_at c.args.root.now xs) (range_with_len 0 n)) all in
    rw (marks c.loop-number.items.items) (rw done (rw (c.in_ok-dtype.ensures, c.dtype.ensures.dtype) (joined_fit c.args.root.now xs c.args.len c.requires.scope c.requires.length c.in_ok-columns.ensures.fit (omega arith) c.dtype.ensures.faultless)))

pub returns-clause-items : goal.returns-clause-items
returns-clause-items c =
    let xs = c.args.arrays.items in
    let all : c.loop-number.number ≡ c.args.len = omega arith in
    ap (λ (a : ArrayData). map marked a.items) c.of_fitting.ensures ∙ marks-map c.loop-number.items.items ∙ c.loop-number.invariant.items ∙ ap (λ n. map (joined_at c.args.root.now xs) (range_with_len 0 n)) all

pub returns-clause-within : goal.returns-clause-within
returns-clause-within c =
    let all : c.loop-number.number ≡ c.args.len = omega arith in
    none_overflows c.args.root.now c.args.arrays.items c.args.len (subst (λ n. (r : ℕ) → r < n → overflows c.args.root.now.scope c.args.root.now.expr (marked (row_at c.args.arrays.items r)) r ≡ false) all c.loop-number.invariant.within)

pub returns-in_err-value-clause-overflow : goal.returns-in_err-value-clause-overflow
returns-in_err-value-clause-overflow c = λ h.
    let xs = c.args.arrays.items in
    let k = c.loop-number.number in
    let seen = c.deref_mut.ensures.value ∙ c.loop-number.invariant.columns in
    let read = row_read xs c.args.len k c.deref_mut.result.now (val_of c.in_ok-row.row) c.requires.length c.loop-number-test.true c.in_ok-row.ensures.row seen in
    let here : overflows c.args.root.now.scope c.args.root.now.expr (marked (val_of c.in_ok-row.row)) k ≡ true = search (rules, h) in
    one_overflows c.args.root.now xs c.args.len k c.loop-number-test.true (ap (λ (v : Val). overflows c.args.root.now.scope c.args.root.now.expr (marked v) k) (sym read) ∙ here)
