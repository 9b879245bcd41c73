-- Bytes are one manifest at most.
use Rattle.std.proofs.Common.{◌≡◌, ℕ, List, true, false, Some, sym, ◌∙◌, subst}
use Rattle.scan_manifest.specs.Manifest.{IsManifest, manifest_in}
use Rattle.scan_manifest.specs.declared.manifest.Manifest.{Manifest}
use Rattle.scan_union_run.specs.Unions.{IsUnionManifest, is_lru}

same_some : {A : Type 0} (x y : A) → Some x ≡ Some y → x ≡ y
same_some x y e = cc

pub one_manifest : (bytes : List ℕ) (m n : Manifest) → IsManifest bytes m → IsManifest bytes n → m ≡ n
one_manifest bytes m n (d, s, a) (e, t, b) =
    let here : manifest_in e ≡ Some m = subst (λ x. manifest_in x ≡ Some m) (same_some d e (sym s.1 ∙ t.1)) a in
    same_some m n (sym here ∙ b)

-- bytes that are a manifest whose cache counts uses are no other
pub no_other : (bytes : List ℕ) (m : Manifest) → IsManifest bytes m → is_lru m.cache.eviction ≡ false → (n : Manifest) → ¬ IsUnionManifest bytes n
no_other bytes m is counts n (other, lru) =
    let here : is_lru m.cache.eviction ≡ true = subst (λ (x : Manifest). is_lru x.cache.eviction ≡ true) (one_manifest bytes n m other is) lru in
    let c : true ≡ false = sym here ∙ counts in
    cc

-- nor are bytes that are no manifest
pub none_at_all : (bytes : List ℕ) → ((m : Manifest) → ¬ IsManifest bytes m) → (m : Manifest) → ¬ IsUnionManifest bytes m
none_at_all bytes none m (is, lru) = none m is
