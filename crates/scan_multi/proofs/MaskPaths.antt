-- The fields that a request reads, as a scan of a file says them.
use Rattle.std.proofs.Common.{◌≡◌, Bool, not, List, [], ◌∷◌, ◌++◌, append-nil, filter, map, Option, None, Some, bytes_eq, refl, sym, ap, ◌∙◌}
use Rattle.std.specs.Prelude.{◌&&◌, if◌then◌else◌}
use Rattle.std.specs.List.{flat_map}
use Rattle.std.proofs.lemmas.Grind.{flat_map-append}
use Rattle.scan_values.specs.DataType.{DataType}
use Rattle.scan_values.specs.Same.{same_names}
use Rattle.scan_expr.specs.declared.op.Binary.TheVariants.{And}
use Rattle.scan_expr.specs.Expr.{Expr, root, row_index, literal, unary, binary, pack, conjuncts_of, filter_conjuncts}
use Rattle.scan_expr.specs.Needs.{Demand, whole, null_alone, length_alone, fields, at, uses}
use Rattle.scan_expr.specs.declared.request.ScanRequest.{ScanRequest}
use Rattle.scan_layout.specs.Edges.{MaskPath}
use Rattle.scan_core.specs.FieldMasks.{demand_paths, firsts, scan_paths}
use Rattle.scan_multi.specs.Asked.{ask_of}
use Rattle.scan_multi.specs.Named.{distinct_masks, expressions, field_masks, masks_of, same_mask}

demand_masks : (k : Demand) → masks_of k ≡ demand_paths k
demand_masks whole = refl
demand_masks null_alone = refl
demand_masks length_alone = refl
demand_masks (fields ns) = refl
demand_masks (at f k) = ap (map (λ p. f ∷ p)) (demand_masks k)

demands_masks : (ks : List Demand) → flat_map masks_of ks ≡ flat_map demand_paths ks
demands_masks [] = refl
demands_masks (k ∷ ks) = λ z. demand_masks k z ++ demands_masks ks z

mask_names : (m n : MaskPath) → same_mask m n ≡ same_names m n
mask_names [] [] = refl
mask_names [] (n ∷ ns) = refl
mask_names (m ∷ ms) [] = refl
mask_names (m ∷ ms) (n ∷ ns) = ap (λ b. bytes_eq m n && b) (mask_names ms ns)

kept_same : (p q : MaskPath → Bool) → ((m : MaskPath) → p m ≡ q m) → (ms : List MaskPath) → filter p ms ≡ filter q ms
kept_same p q h [] = refl
kept_same p q h (m ∷ ms) = λ z. if h m z then m ∷ kept_same p q h ms z else kept_same p q h ms z

distinct_firsts : (ms : List MaskPath) → distinct_masks ms ≡ firsts ms
distinct_firsts [] = refl
distinct_firsts (m ∷ ms) =
    ap (λ ns. m ∷ filter (λ n. not (same_mask m n)) ns) (distinct_firsts ms)
    ∙ ap (λ ns. m ∷ ns) (kept_same (λ n. not (same_mask m n)) (λ n. not (same_names m n)) (λ n. ap not (mask_names m n)) (firsts ms))

-- the uses of a filter are those of its conjuncts
conjunct_uses : (d : DataType) (e : Expr) → flat_map (λ c. uses d c whole) (conjuncts_of e) ≡ uses d e whole
conjunct_uses d root = refl
conjunct_uses d row_index = refl
conjunct_uses d (literal t v) = refl
conjunct_uses d (unary u e) = append-nil (uses d (unary u e) whole)
conjunct_uses d (pack ps n) = append-nil (uses d (pack ps n) whole)
conjunct_uses d (binary And x y) =
    flat_map-append (λ c. uses d c whole) (conjuncts_of x) (conjuncts_of y) ∙ (λ z. conjunct_uses d x z ++ conjunct_uses d y z)
conjunct_uses d (binary o x y) = append-nil (uses d (binary o x y) whole)

pub masks_are : (d : DataType) (request : ScanRequest) → firsts (scan_paths (ask_of d request).projection (ask_of d request).filter) ≡ field_masks d request
masks_are d request = sym (distinct_firsts (flat_map masks_of (flat_map (λ e. uses d e whole) (expressions request))) ∙ ap firsts (demands_masks (flat_map (λ e. uses d e whole) (expressions request)) ∙ go request.filter))
  where
    go : (f : Option Expr) → flat_map demand_paths (uses d request.projection whole ++ flat_map (λ e. uses d e whole) (filter_conjuncts f))
        ≡ scan_paths (ask_of d request).projection (ask_of d (record request { filter = f })).filter
    go None = ap (flat_map demand_paths) (append-nil (uses d request.projection whole))
    go (Some e) = flat_map-append demand_paths (uses d request.projection whole) (flat_map (λ c. uses d c whole) (conjuncts_of e)) ∙ ap (λ ks. flat_map demand_paths (uses d request.projection whole) ++ flat_map demand_paths ks) (conjunct_uses d e)
