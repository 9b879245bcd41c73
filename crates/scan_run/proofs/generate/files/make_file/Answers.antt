use Rattle.std.proofs.Common.{◌≡◌, ap, sym, ◌∙◌, subst, length, arith, ℕ}
use Rattle.scan_layout.specs.Layout.{Layout}
use Rattle.scan_run.specs.Generated.{elements, file_layout}
use Rattle.scan_run.specs.GeneratedFiles.{GivesLayout}
use Rattle.scan_run.specs.FileOf.{memory_opener}
use Rattle.scan_run.proofs.Cutting.{written_long, elements_short}
use Rattle.scan_run.proofs.generate.files.make_file.Goals as goal

pub file_layout-requires-clause-short : goal.file_layout-requires-clause-short
file_layout-requires-clause-short c =
    let e = written_long c.in_ok-written.written.items c.args.first c.args.count c.in_ok-written.ensures in
    let f = elements_short c.args.first c.args.count in
    omega (arith, e, f, c.len.ensures, c.requires.few, c.in_ok-written.written.ok)

pub make_source-requires-clause-few : goal.make_source-requires-clause-few
make_source-requires-clause-few c =
    let e = written_long c.in_ok-written.written.items c.args.first c.args.count c.in_ok-written.ensures in
    let f = elements_short c.args.first c.args.count in
    let g = ap length c.as_slice.ensures.value in
    omega (arith, e, f, g, c.requires.few)

pub returns : goal.returns
returns c =
    let w = written_long c.in_ok-written.written.items c.args.first c.args.count c.in_ok-written.ensures in
    let e : c.len.result ≡ length (elements c.args.first c.args.count) = omega (arith, w, c.len.ensures, c.in_ok-written.written.ok.0) in
    record {
      name = c.in_ok-source_id.ensures;
      gives = subst (λ (l : Layout). GivesLayout l (memory_opener c.make_opener.result)) (c.in_ok-layout.ensures ∙ ap (λ m. file_layout c.args.spelling m c.args.count) e) c.make_opener.ensures;
      holds = c.in_ok-source.ensures;
    }
