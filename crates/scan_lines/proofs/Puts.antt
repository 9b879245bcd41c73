-- Texts that were written behind one another.
use Rattle.std.proofs.Common.{◌≡◌, ℕ, ◌+◌, ◌<◌, ◌≤◌, List, [], ◌∷◌, ◌++◌, length, take, slice_set, Option, Some, None, ℤ, pos, negsuc, int_le, unsigned_abs, true, true≢false, refl, sym, ap, ◌∙◌, arith, subst, append-nil}
use Rattle.std.proofs.Math.Nat.{le_refl}
use Rattle.std.specs.Fmt.{decimal, signed_decimal}
use Rattle.std.proofs.lemmas.List.{append_assoc, length-append, take_more_set, length-set, take-take, take_at, length-take-le, take-append-le}
use Rattle.std.proofs.Math.Seq.{take-append-add}
use Rattle.scan_lines.specs.Writes.{Writes}

-- one text behind another
pub put_then : (a b old mid new : List ℕ) (at m e : ℕ) → m ≡ at + length a → take m mid ≡ take at old ++ a
    → e ≡ m + length b → take e new ≡ take m mid ++ b → (e ≡ at + length (a ++ b)) × (take e new ≡ take at old ++ (a ++ b))
put_then a b old mid new at m e lm wm le we =
    let n = length-append a b in (
      omega (arith, n),
      we ∙ ap (λ xs. xs ++ b) wm ∙ append_assoc (take at old) a b,
    )

-- one byte
pub put_one : (old : List ℕ) (at x : ℕ) → at < length old → take (at + 1) (slice_set old at x) ≡ take at old ++ (x ∷ [])
put_one old at x h = take_more_set old at x h

-- two bytes
pub put_two : (old : List ℕ) (at x y : ℕ) → at + 1 < length old
    → take (at + 2) (slice_set (slice_set old at x) (at + 1) y) ≡ take at old ++ (x ∷ y ∷ [])
put_two old at x y h =
    let len : length (slice_set old at x) ≡ length old = length-set old at x in
    let t : at + 2 ≡ at + 1 + 1 = omega arith in
    let second = take_more_set (slice_set old at x) (at + 1) y (omega (arith, len)) in
    let first = take_more_set old at x (omega arith) in
    rw (t, second, first) (append_assoc (take at old) (x ∷ []) (y ∷ []))

-- a text behind the first bytes keeps them
pub front_kept : (old new text : List ℕ) (at e : ℕ) → at ≤ length old → at ≤ e → take e new ≡ take at old ++ text → take at new ≡ take at old
front_kept old new text at e fits le h =
    sym (take-take at e new le) ∙ ap (λ xs. take at xs) h ∙ take_at (take at old) text at (length-take-le at old fits)

-- a text was written
pub writes : (text old new : List ℕ) (at e : ℕ) → at ≤ length old → e ≡ at + length text → e ≤ length new → take e new ≡ take at old ++ text
    → Writes text at old new (Some e)
writes text old new at e fits is room h =
    record {
      kept = front_kept old new text at e fits (omega arith) h;
      whole = (omega arith, room, h);
    }

-- one text behind another, or no room for the second
pub writes_then : (a b old mid new : List ℕ) (at m : ℕ) (end : Option ℕ) → Writes a at old mid (Some m) → Writes b m mid new end → Writes (a ++ b) at old new end
writes_then a b old mid new at m None f g =
    let w = f.whole in
    record {
      kept = sym (take-take at m new w.0) ∙ ap (λ xs. take at xs) g.kept ∙ take-take at m mid w.0 ∙ f.kept;
      whole = tt;
    }
writes_then a b old mid new at m (Some e) f g =
    let w = f.whole in
    let v = g.whole in
    record {
      kept = sym (take-take at m new w.0) ∙ ap (λ xs. take at xs) g.kept ∙ take-take at m mid w.0 ∙ f.kept;
      whole = (omega arith, v.1, v.2 ∙ ap (λ xs. xs ++ b) w.2 ∙ append_assoc (take at old) a b);
    }

-- a number that is not negative
pub natural : (z : ℤ) → int_le (pos 0) z ≡ true → decimal (unsigned_abs z) ≡ signed_decimal z
natural (pos n) e = refl
natural (negsuc n) e = absurd (true≢false (sym e))

-- nothing was written
pub writes_nothing : (old : List ℕ) (at : ℕ) → at ≤ length old → Writes [] at old old (Some at)
writes_nothing old at h = record { kept = refl; whole = (le_refl at, h, sym (append-nil (take at old))) }

-- what is written later keeps what stood before: there was no room
pub stopped : (text a b old mid new : List ℕ) (at m : ℕ) (e f : Option ℕ) → Writes a at old mid (Some m) → Writes b m mid new e → f ≡ None → Writes text at old new f
stopped text a b old mid new at m e f w v none =
    subst (λ r. Writes text at old new r) (sym none) (record { kept = (writes_then a b old mid new at m e w v).kept; whole = tt })

-- a write that found room
pub found : (text old new : List ℕ) (at e : ℕ) (r : Option ℕ) → Writes text at old new r → r ≡ Some e → Writes text at old new (Some e)
found text old new at e r w h = subst (λ x. Writes text at old new x) h w

-- where a write found room it ends in the buffer
pub ends_within : (text old new : List ℕ) (at e : ℕ) (r : Option ℕ) → Writes text at old new r → r ≡ Some e → e ≤ length new
ends_within text old new at e r w h = let f = found text old new at e r w h in let v = f.whole in v.1

-- ---- a text between two others
module _ (first text : List ℕ) (a b d : List ℕ) (at i : ℕ) (r s : Option ℕ) (f : Writes first at a b r) (p : r ≡ Some i) (g : Writes text i b d s) where
  pub enclosed : (last e : List ℕ) (j : ℕ) (t : Option ℕ) → s ≡ Some j → Writes last j d e t → Writes (first ++ (text ++ last)) at a e t
  enclosed last e j t q h =
      writes_then first (text ++ last) a b e at i t (found first a b at i r f p) (writes_then text last b d e i j t (found text b d i j s g q) h)

  pub opened_stopped : (whole : List ℕ) (t : Option ℕ) → t ≡ None → Writes whole at a d t
  opened_stopped whole t none = stopped whole first text a b d at i s t (found first a b at i r f p) g none

-- ---- two texts more behind those of a loop
module _ (done first second : List ℕ) (a b d e : List ℕ) (at m i : ℕ) (r s : Option ℕ) (w : Writes done at a b (Some m)) (f : Writes first m b d r) (p : r ≡ Some i) (g : Writes second i d e s) where
  pub two_more : (whole : List ℕ) (j : ℕ) → s ≡ Some j → done ++ (first ++ second) ≡ whole → Writes whole at a e (Some j)
  two_more whole j q is =
      subst (λ text. Writes text at a e (Some j)) is
      (writes_then done (first ++ second) a b e at m (Some j) w (writes_then first second b d e m i (Some j) (found first b d m i r f p) (found second d e i j s g q)))

  pub two_stopped : (whole : List ℕ) (t : Option ℕ) → t ≡ None → Writes whole at a e t
  two_stopped whole t none = stopped whole (done ++ first) second a d e at i s t (writes_then done first a b d at m (Some i) w (found first b d m i r f p)) g none

-- the front of what was written into the middle
pub front_of_middle : (xs ys rest text : List ℕ) (at len : ℕ) → at ≤ length xs → len ≤ length ys → ys ≡ text
    → take (at + len) (take at xs ++ (ys ++ rest)) ≡ take at xs ++ take len text
front_of_middle xs ys rest text at len fits short same =
    let la : length (take at xs) ≡ at = length-take-le at xs fits in
    ap (λ m. take (m + len) (take at xs ++ (ys ++ rest))) (sym la)
    ∙ take-append-add (take at xs) (ys ++ rest) len
    ∙ ap (λ zs. take at xs ++ zs) (take-append-le len ys rest short)
    ∙ ap (λ zs. take at xs ++ take len zs) same
