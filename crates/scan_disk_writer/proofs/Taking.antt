-- Bytes that are taken, one part after the other.
use Rattle.std.proofs.Common.{◌≡◌, ℕ, ◌+◌, List, [], ◌∷◌, ◌++◌, drop, length, refl, sym, ap, subst, ◌∙◌, append_assoc, append-nil}
use Rattle.std.specs.Prelude.{⊤, Option, None, Some, Result, Ok, Err, OnOk}
use Rattle.std.specs.Int.{w64, to_le_bytes}
use Rattle.std.specs.declared.alloc.Global.{Global}
use Rattle.std.specs.declared.vec.Vec.{Vec}
use Rattle.scan_encode.specs.SegmentsView.{bytes_of}
use Rattle.scan_disk.specs.Contents.{magic}
use Rattle.sha2.specs.Sha256.{sha256}
use Rattle.scan_disk_writer.specs.FileBytes.{end_bytes, joined, sealed}
use Rattle.scan_disk_writer.specs.Out.{behind}
use Rattle.scan_disk_writer.specs.declared.fault.OutFault.{OutFault}

pub behind_more : (o : Option (List ℕ)) (xs ys : List ℕ) → behind ys (behind xs o) ≡ behind (xs ++ ys) o
behind_more None xs ys = refl
behind_more (Some b) xs ys = ap Some (append_assoc b xs ys)

pub behind_none : (o : Option (List ℕ)) → behind [] o ≡ o
behind_none None = refl
behind_none (Some b) = ap Some (append-nil b)

-- one part, and then the rest
pub then_rest : (o p : Option (List ℕ)) (xs ys : List ℕ) → p ≡ behind xs o → behind ys p ≡ behind (xs ++ ys) o
then_rest o p xs ys h = ap (behind ys) h ∙ behind_more o xs ys

-- three parts, of which the last may not be taken
pub three : (o p q t : Option (List ℕ)) (xs ys zs : List ℕ) (r : Result ⊤ OutFault) → p ≡ behind xs o → q ≡ behind ys p → OnOk r (t ≡ behind zs q) → OnOk r (t ≡ behind (xs ++ (ys ++ zs)) o)
three o p q t xs ys zs (Ok x) a b c = c ∙ (then_rest p q ys zs b ∙ then_rest o p xs (ys ++ zs) a)
three o p q t xs ys zs (Err e) a b c = tt

-- ---- segments, one after the other
pub one_taken : (o p q : Option (List ℕ)) (raws : List (Vec ℕ Global)) (i : ℕ) (s : List ℕ) (v : Vec ℕ Global) → drop i raws ≡ v ∷ drop (i + 1) raws → s ≡ v.items → p ≡ behind s o
    → behind (joined (bytes_of (drop i raws))) o ≡ q → behind (joined (bytes_of (drop (i + 1) raws))) p ≡ q
one_taken o p q raws i s v d e h k =
    then_rest o p s (joined (bytes_of (drop (i + 1) raws))) h
    ∙ (ap (λ z. behind (z ++ joined (bytes_of (drop (i + 1) raws))) o) e ∙ (ap (λ z. behind (joined (bytes_of z)) o) (sym d) ∙ k))

pub all_taken : (o q : Option (List ℕ)) (raws : List (Vec ℕ Global)) → raws ≡ [] → behind (joined (bytes_of raws)) o ≡ q → o ≡ q
all_taken o q raws e h = sym (behind_none o) ∙ (ap (λ z. behind (joined (bytes_of z)) o) (sym e) ∙ h)

-- a footer, and then its digest
pub sealed_as : (footer digest : List ℕ) (o p t : Option (List ℕ)) (r : Result ⊤ OutFault) → digest ≡ sha256 footer → p ≡ behind footer o → OnOk r (t ≡ behind digest p)
    → OnOk r (t ≡ behind (sealed footer) o)
sealed_as footer digest o p t (Ok x) e a b = b ∙ (then_rest o p footer digest a ∙ ap (λ z. behind (footer ++ z) o) e)
sealed_as footer digest o p t (Err f) e a b = tt

-- a word that says a length
pub word_as : (footer word : List ℕ) (o t : Option (List ℕ)) (r : Result ⊤ OutFault) → word ≡ to_le_bytes w64 (length footer) → OnOk r (t ≡ behind (sealed footer ++ (word ++ magic)) o)
    → OnOk r (t ≡ behind (end_bytes footer) o)
word_as footer word o t r e h = subst (λ z. OnOk r (t ≡ behind (sealed footer ++ (z ++ magic)) o)) e h
