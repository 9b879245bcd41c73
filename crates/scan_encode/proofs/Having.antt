-- Segments that are kept while more are made.
use Rattle.std.proofs.Common.{◌≡◌, ℕ, List, [], ◌∷◌, ◌++◌, length, refl, ap, ◌∙◌}
use Rattle.std.specs.Prelude.{Some, slice_get, option_and_then, Result, Ok, Err, IfOk}
use Rattle.std.specs.declared.alloc.Global.{Global}
use Rattle.std.specs.declared.vec.Vec.{Vec}
use Rattle.scan_values.specs.DataType.{DataType}
use Rattle.scan_values.specs.Val.{Val}
use Rattle.scan_spelling.specs.declared.spelling.Spelling.{Spelling}
use Rattle.scan_spelling.specs.Places.{decoded, place_of}
use Rattle.scan_spelling.specs.Spelling.{decode}
use Rattle.scan_encode.specs.declared.fault.RowsFault.{RowsFault}
use Rattle.scan_encode.specs.Encoded.{stored, Has}
use Rattle.scan_encode.specs.SegmentsView.{bytes_of}
use Rattle.scan_encode.proofs.Leaves.{get_front}

pub has_same : (xs : List (List ℕ)) → Has (stored xs) xs
has_same xs = record { finds = λ id bytes q. q }

pub has_then : (a b c : List (List ℕ)) → Has (stored b) a → Has (stored c) b → Has (stored c) a
has_then a b c h k = record { finds = λ id bytes q. k.finds id bytes (h.finds id bytes q) }

pub has_pushed : (old now : List (List ℕ)) (bytes : List ℕ) → now ≡ old ++ bytes ∷ [] → Has (stored now) old
has_pushed old now bytes e = record { finds = λ id found q. ap (λ z. slice_get z id) e ∙ get_front old (bytes ∷ []) id found q }

at_end : (xs : List (List ℕ)) (x : List ℕ) → slice_get (xs ++ x ∷ []) (length xs) ≡ Some x
at_end [] x = refl
at_end (y ∷ xs) x = at_end xs x

-- one more
pub bytes_push : (before now : List (Vec ℕ Global)) (v : Vec ℕ Global) → now ≡ before ++ v ∷ [] → bytes_of now ≡ bytes_of before ++ v.items ∷ []
bytes_push before now v e = ap bytes_of e ∙ go before
  where
    go : (ys : List (Vec ℕ Global)) → bytes_of (ys ++ v ∷ []) ≡ bytes_of ys ++ v.items ∷ []
    go [] = refl
    go (y ∷ ys) = ap (λ zs. y.items ∷ zs) (go ys)

-- where the last one is
pub last_there : (old now : List (List ℕ)) (bytes : List ℕ) → now ≡ old ++ bytes ∷ [] → stored now (length old) ≡ Some bytes
last_there old now bytes e = ap (λ z. slice_get z (length old)) e ∙ at_end old bytes

-- what the last one decodes to
pub held_last : (d : DataType) (s : Spelling) (n : ℕ) (old now : List (List ℕ)) (bytes : List ℕ) (vs : List Val) (r : Result ℕ RowsFault)
    → IfOk r (λ id. (id ≡ length old) × (now ≡ old ++ bytes ∷ [])) → decode s d n bytes ≡ Some vs → IfOk r (λ id. decoded (stored now) (place_of d s (id, n)) ≡ Some vs)
held_last d s n old now bytes vs (Ok id) h q =
    ap (λ k. option_and_then (decode s d n) (stored now k)) h.0 ∙ (ap (option_and_then (decode s d n)) (last_there old now bytes h.1) ∙ q)
held_last d s n old now bytes vs (Err e) h q = tt
