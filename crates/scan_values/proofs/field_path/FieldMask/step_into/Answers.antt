use Rattle.std.proofs.Common.{◌≡◌, ℕ, zero, suc, ◌+◌, ◌<◌, ◌≤◌, List, [], ◌∷◌, length, drop, refl, sym, add-one, arith}
use Rattle.scan_values.specs.DataType.{Name}
use Rattle.scan_values.specs.FieldPaths.{stepped}
use Rattle.scan_values.specs.declared.field_path.FieldMask.TheVariants.{All, Prefix}
use Rattle.scan_values.proofs.field_path.FieldMask.step_into.Goals as goal

stepped-more : (ns : List Name) (i : ℕ) → i + 1 < length ns → stepped (Prefix (drop i ns)) ≡ Prefix (drop (i + 1) ns)
stepped-more ns i h = rw add-one (go ns i (omega arith))
  where
    go : (ns : List Name) (i : ℕ) → suc i < length ns → stepped (Prefix (drop i ns)) ≡ Prefix (drop (suc i) ns)
    go [] i h = absurd (omega arith)
    go (n ∷ []) i h = absurd (omega arith)
    go (n ∷ m ∷ ns) zero h = refl
    go (n ∷ m ∷ ns) (suc i) h = go (m ∷ ns) i (omega arith)

stepped-last : (ns : List Name) (i : ℕ) → length ns ≤ i + 1 → stepped (Prefix (drop i ns)) ≡ All
stepped-last [] zero h = refl
stepped-last [] (suc i) h = refl
stepped-last (n ∷ []) zero h = refl
stepped-last (n ∷ m ∷ ns) zero h = absurd (omega arith)
stepped-last (n ∷ ns) (suc i) h = stepped-last ns i (omega arith)

pub returns-then-start-len : goal.returns-then-start-len
returns-then-start-len c =
    let names = c.path.inside.names.items in
    let long : c.len.result ≡ length names = grind arith in
    rw (c.in-Prefix.is, ← c.path.view_is) (sym (stepped-more names c.path.inside.start (omega (arith, long))))

pub returns-else-start-len : goal.returns-else-start-len
returns-else-start-len c =
    let names = c.path.inside.names.items in
    let long : c.len.result ≡ length names = grind arith in
    rw (c.in-Prefix.is, ← c.path.view_is) (sym (stepped-last names c.path.inside.start (omega (arith, long))))
