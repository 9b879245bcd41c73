-- A typed expression on a value of its scope: each node's value is null only where its dtype is nullable.
use Rattle.std.proofs.Common.{◌≡◌, ◌<◌, ◌^◌, ℕ, true}
use Rattle.scan_values.specs.DataType.{DataType}
use Rattle.scan_values.specs.Fits.{fits}
use Rattle.scan_values.specs.Marked.{Marked, lost, null, gone, boolean, integer, text, list, struct}
use Rattle.scan_expr.specs.Expr.{Expr, root, row_index, literal, unary, binary, pack, Parts, no_parts, part}
use Rattle.scan_expr.specs.Eval.{eval}
use Rattle.scan_expr.specs.Infer.{infer}
use Rattle.scan_expr.proofs.Sound.{eval_fits}
use Rattle.scan_partition.specs.Clean.{IsSound, NodesSound, AllNodesSound}
use Rattle.scan_partition.proofs.Typed.{NodesTyped, AllNodesTyped}
use Rattle.scan_partition.proofs.Faultless.{nodes_faultless}

fits_sound : (d : DataType) (m : Marked) → fits m d ≡ true → IsSound d m
fits_sound d lost h = tt
fits_sound d null h = h
fits_sound d gone h = tt
fits_sound d (boolean b) h = tt
fits_sound d (integer z) h = tt
fits_sound d (text s) h = tt
fits_sound d (list ms) h = tt
fits_sound d (struct ms) h = tt

module _ (s : DataType) (v : Marked) (k : ℕ) (fit : fits v s ≡ true) (small : k < 2 ^ 64) where
  node_sound : (e : Expr) → NodesTyped s e → IsSound (infer s e) (eval s e v k)
  node_sound e t = fits_sound (infer s e) (eval s e v k) (eval_fits s e v k fit small (nodes_faultless s e t))

  mutual
    pub nodes_sound : (e : Expr) → NodesTyped s e → NodesSound s e v k
    nodes_sound root t = node_sound root t
    nodes_sound row_index t = tt
    nodes_sound (literal d m) t = node_sound (literal d m) t
    nodes_sound (unary u e) t = (node_sound (unary u e) t, nodes_sound e t.1)
    nodes_sound (binary b x y) t = (node_sound (binary b x y) t, nodes_sound x t.1, nodes_sound y t.2)
    nodes_sound (pack ps n) t = all_nodes_sound ps t

    all_nodes_sound : (ps : Parts) → AllNodesTyped s ps → AllNodesSound s ps v k
    all_nodes_sound no_parts t = tt
    all_nodes_sound (part n e ps) t = (nodes_sound e t.0, all_nodes_sound ps t.1)
