use Rattle.std.proofs.Common.{ap, sym, subst, ◌∙◌}
use Rattle.scan_layout.specs.Layout.{dtype_of}
use Rattle.scan_partition.specs.Partable.{IsScope}
use Rattle.scan_readers.specs.LeafPlans.{layout_state}
use Rattle.scan_core.specs.Settings.{builder_by}
use Rattle.scan_file.proofs.Choosing.{of_form, of_scope, of_type}
use Rattle.scan_file.proofs.Scanning.{file_scan}
use Rattle.scan_file.proofs.planning.file_futures.Goals as goal

pub file_reader-requires : goal.file_reader-requires
file_reader-requires c = of_form c.args.ask.now c.args.layout.now.value c.requires.good

pub new-requires : goal.new-requires
new-requires c = subst (λ l. IsScope (dtype_of l)) (sym c.in_ok-reader.ensures.1) (of_scope c.args.ask.now c.args.layout.now.value c.requires.good c.requires.ask)

pub asked_of-requires-clause-dtype : goal.asked_of-requires-clause-dtype
asked_of-requires-clause-dtype c =
    ap (λ r. dtype_of r.layout) c.in_ok-builder.ensures.reader ∙ ap dtype_of c.in_ok-reader.ensures.1 ∙ of_type c.args.ask.now c.args.layout.now.value c.requires.good

pub returns-in-Ok : goal.returns-in-Ok
returns-in-Ok c =
    let h = c.in-Ok.ensures.splits in
    let reader = c.in_ok-builder.builder.reader.now in
    let asked = c.in_ok-builder-2.builder in
    let name = ap (λ r. r.name) c.in_ok-builder.ensures.reader ∙ c.in_ok-reader.ensures.0 in
    let layout = ap (λ r. r.layout) c.in_ok-builder.ensures.reader ∙ c.in_ok-reader.ensures.1 in
    file_scan (λ r. layout_state r.name r.layout) c.args.ask.now c.args.layout.now.value reader (builder_by asked.reader.now asked.settings) h.0 (λ k. layout_state (name k) (layout k)) c.in_ok-builder-2.ensures h.1.0 c.in-Ok.futures.items h.1.1
