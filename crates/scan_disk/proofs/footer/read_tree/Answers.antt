use Rattle.std.proofs.Common.{◌≡◌, Some, length, sym, ap, ◌∙◌, arith}
use Rattle.serde_json.specs.View.{view}
use Rattle.scan_manifest.specs.Manifest.{manifest_in}
use Rattle.scan_disk.specs.Footers.{tree_in, manifest_of_tree}
use Rattle.scan_disk.proofs.Trees.{tree_said, tree_some, tree_files}
use Rattle.scan_disk.proofs.footer.read_tree.Goals as goal

pub returns-in-Some-pop : goal.returns-in-Some-pop
returns-in-Some-pop c =
    let t = view c.args.dtype.now in
    let l = view c.args.layout.now in
    let read : manifest_in (manifest_of_tree t l) ≡ Some c.in-Some.manifest = ap manifest_in (sym c.in_ok-json.ensures) ∙ sym c.in_ok-manifest.ensures ∙ c.in-Some.is in
    tree_some (manifest_in (manifest_of_tree t l)) (tree_in t l) c.in-Some.manifest c.pop.new.self.items c.in-Some-pop.file (tree_said t l) read
    (sym c.into_vec-files.ensures ∙ c.in-Some-pop.ensures.items)

pub returns : goal.returns
returns c =
    let t = view c.args.dtype.now in
    let l = view c.args.layout.now in
    let read : manifest_in (manifest_of_tree t l) ≡ Some c.in-Some.manifest = ap manifest_in (sym c.in_ok-json.ensures) ∙ sym c.in_ok-manifest.ensures ∙ c.in-Some.is in
    let none : length c.into_vec-files.result.items ≡ 0 = omega (arith, c.in-None.ensures.cases.0, c.into_vec-files.result.ok.0) in
    absurd (tree_files (manifest_in (manifest_of_tree t l)) (tree_in t l) c.in-Some.manifest (tree_said t l) read (ap length (sym c.into_vec-files.ensures) ∙ none))
