-- What a look at a split, and an arrival, does to it.
use Rattle.std.proofs.Common.{◌≡◌, ◌+◌, List, [], ◌∷◌, drop, map, ◌||◌, refl, ap, ◌∙◌}
use Rattle.scan_values.specs.DataType.{DataType}
use Rattle.scan_values.specs.Marked.{Marked}
use Rattle.scan_segments.specs.Source.{Store}
use Rattle.scan_plans.specs.Came.{Came, Holds}
use Rattle.scan_plans.specs.Futures.{FutureData, SameFuture, future_damage, future_dtype, future_overflow, items_of, masks_in, rows_of}
use Rattle.scan_plans.specs.Masks.{MaskData, SameMask, mask_of, mask_damage, mask_overflow}
use Rattle.scan_plans.specs.MaskLists.{SameMasks, under, dtype_under, masks_damage, masks_overflow, nulled}
use Rattle.scan_plans.specs.Meaning.{value_at, overflow_on, plan_dtype, true_rows}
use Rattle.scan_plans.proofs.RowLemmas.{drop_twice}
use Rattle.scan_streams.specs.Splits.{Extends}

-- a store that holds what has arrived holds less
pub holds_less : (store : Store) (here more : Came) → Extends here more → Holds store more → Holds store here
holds_less store here more e h id bytes is = h id bytes (e id bytes is)

pub extends_self : (here : Came) → Extends here here
extends_self here id bytes is = is

pub extends_then : (a b c : Came) → Extends a b → Extends b c → Extends a c
extends_then a b c h k id bytes is = k id bytes (h id bytes is)

pub mask_later : (here more : Came) (n m : MaskData) → Extends here more → SameMask here n m → SameMask more n m
mask_later here more n m e s = record {
  mask = λ store h. s.mask store (holds_less store here more e h);
  overflow = λ store h. s.overflow store (holds_less store here more e h);
  damage = λ store h. s.damage store (holds_less store here more e h);
  may = s.may;
  lacking = λ most x id. s.lacking most (extends_then here more most e x) id;
  spoiling = λ most x id h. s.spoiling most (extends_then here more most e x) id h;
  left = s.left;
}

pub masks_later : (here more : Came) (ns ms : List MaskData) → Extends here more → SameMasks here ns ms → SameMasks more ns ms
masks_later here more [] [] e s = tt
masks_later here more [] (m ∷ ms) e s = absurd s
masks_later here more (n ∷ ns) [] e s = absurd s
masks_later here more (n ∷ ns) (m ∷ ms) e s = (mask_later here more n m e s.0, masks_later here more ns ms e s.1)

pub future_later : (here more : Came) (g f : FutureData) → Extends here more → SameFuture here g f → SameFuture more g f
future_later here more g f e s = record { tree = s.tree; first = s.first; masks = masks_later here more (masks_in g) (masks_in f) e s.masks }

mask_then : (here : Came) (l n m : MaskData) → SameMask here l n → SameMask here n m → SameMask here l m
mask_then here l n m s t = record {
  mask = λ store h. s.mask store h ∙ t.mask store h;
  overflow = λ store h. s.overflow store h ∙ t.overflow store h;
  damage = λ store h. s.damage store h ∙ t.damage store h;
  may = λ id h. t.may id (s.may id h);
  lacking = λ more x id. s.lacking more x id ∙ t.lacking more x id;
  spoiling = λ more x id h. t.spoiling more x id (s.spoiling more x id h);
  left = ((t.left).0 + (s.left).0, (s.left).1 ∙ ap (λ fs. drop (s.left).0 fs) (t.left).1 ∙ drop_twice (t.left).0 (s.left).0 m.filters);
}

masks_then : (here : Came) (ls ns ms : List MaskData) → SameMasks here ls ns → SameMasks here ns ms → SameMasks here ls ms
masks_then here [] [] [] s t = tt
masks_then here [] [] (m ∷ ms) s t = absurd t
masks_then here [] (n ∷ ns) ms s t = absurd s
masks_then here (l ∷ ls) [] ms s t = absurd s
masks_then here (l ∷ ls) (n ∷ ns) [] s t = absurd t
masks_then here (l ∷ ls) (n ∷ ns) (m ∷ ms) s t = (mask_then here l n m s.0 t.0, masks_then here ls ns ms s.1 t.1)

pub future_then : (here : Came) (h g f : FutureData) → SameFuture here h g → SameFuture here g f → SameFuture here h f
future_then here h g f s t = record { tree = s.tree ∙ t.tree; first = s.first ∙ t.first; masks = masks_then here (masks_in h) (masks_in g) (masks_in f) s.masks t.masks }

masks_self : (here : Came) (ms : List MaskData) → SameMasks here ms ms
masks_self here [] = tt
masks_self here (m ∷ ms) = (record { mask = λ store h. refl; overflow = λ store h. refl; damage = λ store h. refl; may = λ id h. h; lacking = λ more x id. refl; spoiling = λ more x id h. h; left = (0, refl) }, masks_self here ms)

pub future_self : (here : Came) (f : FutureData) → SameFuture here f f
future_self here f = record { tree = refl; first = refl; masks = masks_self here (masks_in f) }

under_same : (here : Came) (store : Store) → Holds store here → (ns ms : List MaskData) (vs : List Marked) → SameMasks here ns ms → under store ns vs ≡ under store ms vs
under_same here store h [] [] vs s = refl
under_same here store h [] (m ∷ ms) vs s = absurd s
under_same here store h (n ∷ ns) [] vs s = absurd s
under_same here store h (n ∷ ns) (m ∷ ms) vs s = ap (λ bits. under store ns (nulled bits vs)) (s.0.mask store h) ∙ under_same here store h ns ms (nulled (mask_of m store) vs) s.1

dtype_same : (here : Came) (ns ms : List MaskData) (d : DataType) → SameMasks here ns ms → dtype_under ns d ≡ dtype_under ms d
dtype_same here [] [] d s = refl
dtype_same here [] (m ∷ ms) d s = absurd s
dtype_same here (n ∷ ns) [] d s = absurd s
dtype_same here (n ∷ ns) (m ∷ ms) d s = dtype_same here ns ms _ s.1

spills_same : (here : Came) (store : Store) → Holds store here → (ns ms : List MaskData) → SameMasks here ns ms → masks_overflow ns store ≡ masks_overflow ms store
spills_same here store h [] [] s = refl
spills_same here store h [] (m ∷ ms) s = absurd s
spills_same here store h (n ∷ ns) [] s = absurd s
spills_same here store h (n ∷ ns) (m ∷ ms) s = ap (λ b. b || masks_overflow ns store) (s.0.overflow store h) ∙ ap (λ b. mask_overflow m store || b) (spills_same here store h ns ms s.1)

damages_same : (here : Came) (store : Store) → Holds store here → (ns ms : List MaskData) → SameMasks here ns ms → masks_damage ns store ≡ masks_damage ms store
damages_same here store h [] [] s = refl
damages_same here store h [] (m ∷ ms) s = absurd s
damages_same here store h (n ∷ ns) [] s = absurd s
damages_same here store h (n ∷ ns) (m ∷ ms) s = ap (λ b. b || masks_damage ns store) (s.0.damage store h) ∙ ap (λ b. mask_damage m store || b) (damages_same here store h ns ms s.1)

pub damage_same : (here : Came) (store : Store) (g f : FutureData) → Holds store here → SameFuture here g f → future_damage g store ≡ future_damage f store
damage_same here store g f h s = damages_same here store h (masks_in g) (masks_in f) s.masks

-- the rows that futures that mean the same give
pub rows_same : (here : Came) (store : Store) (g f : FutureData) → Holds store here → SameFuture here g f → rows_of g store ≡ rows_of f store
rows_same here store g f h s = ap (λ k. true_rows k (mask_of g.mask store)) s.first ∙ ap (true_rows f.first) (s.masks.0.mask store h)

pub items_same : (here : Came) (store : Store) (g f : FutureData) → Holds store here → SameFuture here g f → items_of g store ≡ items_of f store
items_same here store g f h s =
    under_same here store h g.outer f.outer (map (value_at g.tree store) (rows_of g store)) s.masks.1
    ∙ ap (λ rows. under store f.outer (map (value_at g.tree store) rows)) (rows_same here store g f h s)
    ∙ ap (λ t. under store f.outer (map (value_at t store) (rows_of f store))) s.tree

pub overflow_same : (here : Came) (store : Store) (g f : FutureData) → Holds store here → SameFuture here g f → future_overflow g store ≡ future_overflow f store
overflow_same here store g f h s =
    ap (λ b. b || overflow_on g.tree store (rows_of g store)) (spills_same here store h (masks_in g) (masks_in f) s.masks)
    ∙ ap (λ rows. masks_overflow (masks_in f) store || overflow_on g.tree store rows) (rows_same here store g f h s)
    ∙ ap (λ t. masks_overflow (masks_in f) store || overflow_on t store (rows_of f store)) s.tree

pub type_same : (here : Came) (g f : FutureData) → SameFuture here g f → future_dtype g ≡ future_dtype f
type_same here g f s = dtype_same here g.outer f.outer (plan_dtype g.tree) s.masks.1 ∙ ap (λ t. dtype_under f.outer (plan_dtype t)) s.tree
