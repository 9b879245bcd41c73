-- Nodes, segments and the beginnings of lines, one after another.
use Rattle.std.proofs.Common.{◌≡◌, ℕ, zero, suc, ◌+◌, ◌<◌, ◌≤◌, ◌==◌, List, [], ◌∷◌, ◌++◌, length, get_or, drop, false, refl, sym, ap, ◌∙◌, append_assoc, subst, arith}
use Rattle.std.specs.Prelude.{codes}
use Rattle.std.proofs.lemmas.Bool.{ne_eqb}
use Rattle.std.proofs.lemmas.List.{drop_more}
use Rattle.std.specs.declared.alloc.Global.{Global}
use Rattle.std.specs.declared.rc.Rc.{Rc}
use Rattle.scan_layout.specs.LayoutView.{layouts_of}
use Rattle.scan_layout.specs.Layout.{Layout, nodes, layout_size, nodes_size}
use Rattle.scan_layout.specs.Shown.{indent, shown_segment, shown_segments, shown_layout, shown_nodes}
use Rattle.scan_values.specs.Shown.{comma}

not_zero : (i : ℕ) → ((i + 1) == 0) ≡ false
not_zero i = ne_eqb (i + 1) 0 (omega arith)

-- one level more
pub indent_more : (i : ℕ) → indent i ++ codes "  " ≡ indent (i + 1)
indent_more zero = refl
indent_more (suc i) = let e : suc i + 1 ≡ suc (i + 1) = omega arith in rw e (append_assoc (codes "  ") (indent i) (codes "  ") ∙ ap (λ xs. codes "  " ++ xs) (indent_more i))

-- a segment, and what is left behind it
pub next_segment : (gs : List (ℕ × ℕ)) (i : ℕ) (g : ℕ × ℕ) → i < length gs → g ≡ get_or gs i g
    → shown_segments (i == 0) (drop i gs) ≡ (comma (i == 0) ++ shown_segment g) ++ shown_segments ((i + 1) == 0) (drop (i + 1) gs)
next_segment gs i g h at =
    ap (λ xs. shown_segments (i == 0) xs) (drop_more gs i g h ∙ ap (λ x. x ∷ drop (i + 1) gs) (sym at))
    ∙ ap (λ b. (comma (i == 0) ++ shown_segment g) ++ shown_segments b (drop (i + 1) gs)) (sym (not_zero i))

size_at : (rs : List (Rc Layout Global)) (i : ℕ) (d : Rc Layout Global) → i < length rs → layout_size (get_or rs i d).value + 1 ≤ nodes_size (nodes (layouts_of rs))
size_at [] i d h = absurd (omega arith)
size_at (r ∷ rs) zero d h = omega arith
size_at (r ∷ rs) (suc i) d h = let e = size_at rs i d (omega arith) in omega (arith, e)

-- a child is smaller than all, and what is left behind it
pub next_child : (d : ℕ) (rs : List (Rc Layout Global)) (i : ℕ) (r : Rc Layout Global) → i < length rs → r ≡ get_or rs i r
    → (layout_size r.value + 1 ≤ nodes_size (nodes (layouts_of rs)))
    × (shown_nodes d (nodes (layouts_of (drop i rs))) ≡ (codes "\n" ++ (indent d ++ shown_layout d r.value)) ++ shown_nodes d (nodes (layouts_of (drop (i + 1) rs))))
next_child d rs i r h at = (
  subst (λ (x : Rc Layout Global). layout_size x.value + 1 ≤ nodes_size (nodes (layouts_of rs))) (sym at) (size_at rs i r h),
  ap (λ xs. shown_nodes d (nodes (layouts_of xs))) (drop_more rs i r h ∙ ap (λ x. x ∷ drop (i + 1) rs) (sym at)),
)
