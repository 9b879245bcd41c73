use Rattle.std.proofs.Common.{◌≡◌, [], ◌∷◌, ◌++◌, sym, ◌∙◌, subst, arith, rules}
use Rattle.std.proofs.lemmas.List.{take_all}
use Rattle.std.specs.Prelude.{option_map}
use Rattle.scan_spelling.specs.LeafColumns.{text_or_null}
use Rattle.scan_columns.specs.Texts.{texts_in}
use Rattle.scan_groups.specs.Cells.{cell_val}
use Rattle.scan_table.proofs.Columned.{AreLent, lent_more, none_lent, scalar_text}
use Rattle.scan_table.proofs.lent.text_cells.Goals as goal

pub loop-i-init : goal.loop-i-init
loop-i-init c = subst (λ xs. AreLent xs (texts_in c.args.texts.now) 0) (sym c.in_ok-cells.ensures.items) (none_lent (texts_in c.args.texts.now))

pub loop-i-preserved : goal.loop-i-preserved
loop-i-preserved c =
    let v = text_or_null (option_map (λ t. t.now) c.text.result) in
    let x = c.text_cell.result in
    let put : c.push.new.self.items ≡ c.loop-i.cells.items ++ (x ∷ []) = search (rules, c.in_ok-push.ensures.items) in
    let is : cell_val x ≡ v = search rules in
    lent_more c.loop-i.cells.items c.push.new.self.items x (texts_in c.args.texts.now) c.loop-i.i v put is (scalar_text (option_map (λ t. t.now) c.text.result)) c.text.ensures c.loop-i.invariant

pub returns-clause-values : goal.returns-clause-values
returns-clause-values c = c.loop-i.invariant.values ∙ take_all c.loop-i.i (texts_in c.args.texts.now) (omega (arith, c.loop-i-test.false, c.len-i-end.ensures))

pub returns-clause-scalars : goal.returns-clause-scalars
returns-clause-scalars c = c.loop-i.invariant.scalars
