-- A dtype and a layout, read as a manifest's.
use Rattle.std.proofs.Common.{◌≡◌, ℕ, List, [], ◌∷◌, ◌++◌, false, length, refl, sym, ap, ◌∙◌}
use Rattle.std.specs.Prelude.{Option, None, Some, option_and_then}
use Rattle.serde_json.specs.Data.{Data}
use Rattle.scan_values.specs.DataType.{DataType}
use Rattle.scan_layout.specs.Layout.{Layout}
use Rattle.scan_manifest.specs.DTypes.{dtype_in}
use Rattle.scan_manifest.specs.Layouts.{layout_in}
use Rattle.scan_manifest.specs.Manifest.{manifest_in, manifest_with, files_in, no_calls}
use Rattle.scan_manifest.specs.declared.manifest.FileSpec.{FileSpec}
use Rattle.scan_manifest.specs.declared.manifest.Manifest.{Manifest}
use Rattle.scan_disk.specs.Footers.{tree_in, manifest_of_tree}

-- a file of this layout and nothing else
abbrev pub file_with : Layout → FileSpec
file_with l = record { id = []; layout = l; segments = []; skip = false; opener = no_calls; source = no_calls }

-- both are there, and the manifest's one file has the layout, or neither is
abbrev pub Agree : Option Manifest → Option Layout → Type 0
Agree None None = Unit {0}
Agree None (Some l) = ⊥
Agree (Some m) None = ⊥
Agree (Some m) (Some l) = m.files ≡ file_with l ∷ []

steps : {A : Type 0} (f : A → Option Manifest) (g : A → Option Layout) (o : Option A) → ((x : A) → Agree (f x) (g x)) → Agree (option_and_then f o) (option_and_then g o)
steps f g None h = tt
steps f g (Some x) h = h x

by_layout : (t l : Data) (dt : DataType) (o : Option Layout)
    → Agree (option_and_then (manifest_with (manifest_of_tree t l) dt) (option_and_then (λ x. Some (x ∷ [])) (option_and_then (λ y. Some (file_with y)) o))) o
by_layout t l dt None = tt
by_layout t l dt (Some y) = refl

pub tree_said : (t l : Data) → Agree (manifest_in (manifest_of_tree t l)) (tree_in t l)
tree_said t l = steps (λ dt. option_and_then (manifest_with (manifest_of_tree t l) dt) (files_in dt (manifest_of_tree t l))) (λ dt. layout_in dt l) (dtype_in t) (λ dt. by_layout t l dt (layout_in dt l))

pub tree_none : (m : Option Manifest) (o : Option Layout) → Agree m o → m ≡ None → o ≡ None
tree_none None None h e = refl
tree_none None (Some l) h e = absurd h
tree_none (Some m) o h e = cc

-- the last of its files has the layout
pub tree_some : (m : Option Manifest) (o : Option Layout) (n : Manifest) (before : List FileSpec) (f : FileSpec) → Agree m o → m ≡ Some n → n.files ≡ before ++ f ∷ [] → o ≡ Some f.layout
tree_some None o n before f h e k = cc
tree_some (Some m) None n before f h e k = absurd h
tree_some (Some m) (Some l) n before f h e k =
    let same : m ≡ n = cc in
    let files : before ++ f ∷ [] ≡ file_with l ∷ [] = sym k ∙ sym (ap (λ x. x.files) same) ∙ h in
    ap Some (sym (ap (λ x. x.layout) (one_of before f (file_with l) files)))
  where
    one_of : {A : Type 0} (xs : List A) (x y : A) → xs ++ x ∷ [] ≡ y ∷ [] → x ≡ y
    one_of [] x y q = cc
    one_of (z ∷ []) x y q = cc
    one_of (z ∷ w ∷ zs) x y q = cc

-- it has one
pub tree_files : (m : Option Manifest) (o : Option Layout) (n : Manifest) → Agree m o → m ≡ Some n → length n.files ≡ 0 → ⊥
tree_files None o n h e k = cc
tree_files (Some m) None n h e k = absurd h
tree_files (Some m) (Some l) n h e k = let same : m ≡ n = cc in let one : ◌≡◌ {A = ℕ} 1 0 = sym (ap length h) ∙ ap (λ x. length x.files) same ∙ k in cc
