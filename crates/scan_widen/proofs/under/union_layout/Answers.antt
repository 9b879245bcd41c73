use Rattle.std.proofs.Common.{◌≡◌, ◌<◌, ◌++◌, ◌∙◌, length, sym, ap, subst, arith, refl}
use Rattle.scan_layout.specs.Form.{HasForm}
use Rattle.scan_widen.specs.Under.{under, behind}
use Rattle.scan_widen.proofs.FormsAll.{forms_under}
use Rattle.scan_widen.proofs.Readable.{all_readable}
use Rattle.scan_widen.proofs.under.union_layout.Goals as goal

pub returns-then-count_node-gt-MOST_SEGMENTS-clause-many : goal.returns-then-count_node-gt-MOST_SEGMENTS-clause-many
returns-then-count_node-gt-MOST_SEGMENTS-clause-many c =
    let many : 4294967296 < length (behind c.args.dtype.now c.args.layout.now) = omega (arith, c.count_node.ensures.count, c.if-count_node-gt-MOST_SEGMENTS.true) in
    (λ e. many, λ h. refl)

pub returns-clause-layout : goal.returns-clause-layout
returns-clause-layout c = c.in_ok-root.ensures.layout ∙ ap (λ xs. under (length xs) c.args.dtype.now c.args.layout.now) c.new-segments.ensures.items

pub returns-clause-behind : goal.returns-clause-behind
returns-clause-behind c = c.in_ok-root.ensures.behind ∙ ap (λ xs. xs ++ behind c.args.dtype.now c.args.layout.now) c.new-segments.ensures.items

pub returns-clause-few : goal.returns-clause-few
returns-clause-few c =
    let same : length c.node_under.new.made.items ≡ length (behind c.args.dtype.now c.args.layout.now) = ap length (returns-clause-behind c) in
    omega (arith, same, c.count_node.ensures.count, c.if-count_node-gt-MOST_SEGMENTS.false)

pub returns-clause-readable : goal.returns-clause-readable
returns-clause-readable c = all_readable c.args.dtype.now c.args.layout.now c.node_under.new.made.items c.requires.form c.requires.fits (returns-clause-behind c)

pub returns-clause-form : goal.returns-clause-form
returns-clause-form c =
    subst (λ l. HasForm l c.args.dtype.now) (sym (returns-clause-layout c)) (forms_under c.args.dtype.now 0 c.args.layout.now c.requires.form c.requires.fits c.requires.countable)

pub returns-clause-many : goal.returns-clause-many
returns-clause-many c =
    (λ e. absurd cc, λ h. absurd (omega (arith, h, c.count_node.ensures.count, c.if-count_node-gt-MOST_SEGMENTS.false)))
