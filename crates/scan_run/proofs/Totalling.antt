-- The totals of chunks are those of the rows that they give.
use Rattle.std.proofs.Common.{◌≡◌, ℕ, ◌+◌, ℤ, pos, ◌+ℤ◌, List, [], ◌∷◌, ◌++◌, Option, None, Some, map, length, refl, sym, ap, ◌∙◌, arith, add-zero, add_assoc}
use Rattle.std.specs.Prelude.{All, zip}
use Rattle.std.proofs.Math.IntN.{+ℤ_assoc, +ℤ_idl, +ℤ_idr}
use Rattle.std.proofs.lemmas.List.Concat.{flat_map-cons}
use Rattle.std.proofs.lemmas.List.Elements.{All-head, All-tail}
use Rattle.scan_values.specs.DataType.{DataType}
use Rattle.scan_values.specs.Val.{Val}
use Rattle.scan_multi.specs.Answer.{Item}
use Rattle.scan_multi.specs.Output.{ChunkData, IsChunk, chunk_items, given}
use Rattle.scan_run.specs.declared.generate.totals.Totals.{Totals}
use Rattle.scan_run.specs.Printed.{row_items}
use Rattle.scan_run.specs.Totals.{id_in, length_in, or_zero, total, with_row, with_values, with_chunks, no_totals}
use Rattle.scan_run.specs.GeneratedLine.{totals_of}

totals_eq : (a b : Totals) → a.rows ≡ b.rows → a.ids ≡ b.ids → a.lengths ≡ b.lengths → a ≡ b
totals_eq a b p q r = λ i. record { rows = p i; ids = q i; lengths = r i }

-- both together
plus : Totals → Totals → Totals
plus t u = record { rows = t.rows + u.rows; ids = t.ids +ℤ u.ids; lengths = t.lengths +ℤ u.lengths }

plus_none : (t : Totals) → t ≡ plus t (totals_of [])
unfolding plus
plus_none t = totals_eq t (plus t (totals_of [])) (sym (add-zero t.rows)) (sym (+ℤ_idr t.ids)) (sym (+ℤ_idr t.lengths))

none_plus : (t : Totals) → plus no_totals t ≡ t
unfolding plus
none_plus t = let e : 0 + t.rows ≡ t.rows = omega arith in totals_eq (plus no_totals t) t e (+ℤ_idl t.ids) (+ℤ_idl t.lengths)

plus_assoc : (t u v : Totals) → plus (plus t u) v ≡ plus t (plus u v)
unfolding plus
plus_assoc t u v = totals_eq (plus (plus t u) v) (plus t (plus u v)) (add_assoc t.rows u.rows v.rows) (+ℤ_assoc t.ids u.ids v.ids) (+ℤ_assoc t.lengths u.lengths v.lengths)

-- one more item in front
plus_item : (t : Totals) (item : Item) (items : List Item) (v : Val) → item.value ≡ Some v → plus (with_row t v) (totals_of items) ≡ plus t (totals_of (item ∷ items))
unfolding plus
plus_item t item items v e =
    let n : t.rows + 1 + length items ≡ t.rows + length (item ∷ items) = omega arith in
    totals_eq (plus (with_row t v) (totals_of items)) (plus t (totals_of (item ∷ items))) n
    (+ℤ_assoc t.ids (id_in v) (total id_in items) ∙ ap (λ o. t.ids +ℤ (or_zero id_in o +ℤ total id_in items)) (sym e))
    (+ℤ_assoc t.lengths (length_in v) (total length_in items) ∙ ap (λ o. t.lengths +ℤ (or_zero length_in o +ℤ total length_in items)) (sym e))

total_append : (f : Val → ℤ) (xs ys : List Item) → total f (xs ++ ys) ≡ total f xs +ℤ total f ys
total_append f [] ys = sym (+ℤ_idl (total f ys))
total_append f (x ∷ xs) ys = ap (λ z. or_zero f x.value +ℤ z) (total_append f xs ys) ∙ sym (+ℤ_assoc (or_zero f x.value) (total f xs) (total f ys))

length_both : (xs ys : List Item) → length (xs ++ ys) ≡ length xs + length ys
length_both [] ys = let e : length ys ≡ 0 + length ys = omega arith in e
length_both (x ∷ xs) ys = let e = length_both xs ys in omega (arith, e)

totals_both : (xs ys : List Item) → totals_of (xs ++ ys) ≡ plus (totals_of xs) (totals_of ys)
unfolding plus
totals_both xs ys = totals_eq (totals_of (xs ++ ys)) (plus (totals_of xs) (totals_of ys)) (length_both xs ys) (total_append id_in xs ys) (total_append length_in xs ys)

-- the rows of a chunk
row_totals : (file : ℕ) (rows : List ℕ) (vs : List Val) (t : Totals) → length rows ≡ length vs → with_values t vs ≡ plus t (totals_of (row_items file rows vs))
row_totals file [] [] t e = plus_none t
row_totals file [] (v ∷ vs) t e = absurd (omega arith)
row_totals file (r ∷ rs) [] t e = absurd (omega arith)
row_totals file (r ∷ rs) (v ∷ vs) t e =
    row_totals file rs vs (with_row t v) (omega arith)
    ∙ plus_item t (record { file = file; row = r; value = Some v }) (row_items file rs vs) v refl

chunk_totals : (d : DataType) (c : ChunkData) (t : Totals) → IsChunk d c → with_values t c.values.items ≡ plus t (totals_of (chunk_items c))
chunk_totals d c t h = row_totals c.file c.rows c.values.items t h.even

all_totals : (d : DataType) (cs : List ChunkData) (t : Totals) → All (IsChunk d) cs → with_chunks t cs ≡ plus t (totals_of (given cs))
all_totals d [] t h = plus_none t
all_totals d (c ∷ cs) t h =
    all_totals d cs (with_values t c.values.items) (All-tail (IsChunk d) c cs h)
    ∙ (ap (λ u. plus u (totals_of (given cs))) (chunk_totals d c t (All-head (IsChunk d) c cs h))
    ∙ (plus_assoc t (totals_of (chunk_items c)) (totals_of (given cs))
    ∙ ap (plus t) (sym (totals_both (chunk_items c) (given cs)) ∙ ap totals_of (sym (flat_map-cons chunk_items c cs)))))

-- the totals of chunks are those of what they give
pub chunks_total : (d : DataType) (cs : List ChunkData) → All (IsChunk d) cs → with_chunks no_totals cs ≡ totals_of (given cs)
chunks_total d cs h = all_totals d cs no_totals h ∙ none_plus (totals_of (given cs))
