-- What one call does to what a source under another dtype tells.
use Rattle.std.proofs.Common.{◌≡◌, ℕ, ◌<◌, ◌^◌, ◌+◌, ◌-◌, List, ◌++◌, length, take, arith, refl, sym, subst, ap, ◌∙◌, Bool, true, Option, Some, None, length-append, append_assoc, IfSome}
use Rattle.std.specs.Prelude.{slice_get, option_map}
use Rattle.std.proofs.Math.Seq.{take-append_seam}
use Rattle.std.proofs.lemmas.Bool.{lt-ltb}
use Rattle.scan_segments.specs.Source.{Store, SourceState}
use Rattle.scan_widen.specs.declared.behind.Behind.{Behind}
use Rattle.scan_widen.specs.declared.behind.Behind.TheVariants.{Kept, Widened, Blank, Valid}
use Rattle.scan_widen.specs.Stores.{bytes_behind, read_behind, made_behind, inner_id}
use Rattle.scan_widened.specs.Identity.{UnionParts, union_state, first_asked, beside}
use Rattle.scan_widened.specs.Follows.{IsUnion}
use Rattle.scan_widened.specs.Sources.{Rests, bytes_over}

-- ---- what is held
tells_in : (all : List Behind) (h : Option Store) (id : ℕ) (o : Option (List ℕ)) → id < 2 ^ 32
    → IfSome h (λ s. bytes_over (slice_get all id) s ≡ o) → IfSome (option_map (beside all) h) (λ s. s id ≡ o)
tells_in all None id o small h = tt
tells_in all (Some s) id o small h = rw (lt-ltb id (2 ^ 32) small) h

-- what the file's source tells of the segment behind one, the source over it tells of that one
pub tells_behind : (u : UnionParts) (id : ℕ) (o : Option (List ℕ)) → id < 2 ^ 32
    → IfSome u.inner.holds (λ s. bytes_over (slice_get u.behind id) s ≡ o) → IfSome (union_state u).holds (λ s. s id ≡ o)
tells_behind u id o small h = tells_in u.behind u.inner.holds id o small h

-- the bytes of a segment, by those of the one behind it
pub read_bytes : (b : Behind) (id : ℕ) (s : Store) (bytes : List ℕ) → inner_id b ≡ Some id → s id ≡ Some bytes → bytes_behind s b ≡ read_behind bytes b
read_bytes (Kept k) id s bytes e h = let is : k ≡ id = cc in ap s is ∙ h
read_bytes (Widened w) id s bytes e h = let is : w.id ≡ id = cc in let at : s w.id ≡ Some bytes = ap s is ∙ h in rw at refl
read_bytes (Blank t rows) id s bytes e h = absurd cc
read_bytes (Valid rows) id s bytes e h = absurd cc

pub read_none : (b : Behind) (id : ℕ) (s : Store) → inner_id b ≡ Some id → s id ≡ None → bytes_behind s b ≡ None
read_none (Kept k) id s e h = let is : k ≡ id = cc in ap s is ∙ h
read_none (Widened w) id s e h = let is : w.id ≡ id = cc in let at : s w.id ≡ None = ap s is ∙ h in rw at refl
read_none (Blank t rows) id s e h = absurd cc
read_none (Valid rows) id s e h = absurd cc

pub made_bytes : (b : Behind) (s : Store) → inner_id b ≡ None → bytes_behind s b ≡ Some (made_behind b)
made_bytes (Kept k) s e = absurd cc
made_bytes (Widened w) s e = absurd cc
made_bytes (Blank t rows) s e = refl
made_bytes (Valid rows) s e = refl

-- ---- what was asked before
-- the front of a list that ends with these
pub front : (xs ys zs : List ℕ) → zs ≡ xs ++ ys → take (length zs - length ys) zs ≡ xs
front xs ys zs e =
    let many : length zs - length ys ≡ length xs = let l : length zs ≡ length xs + length ys = ap length e ∙ length-append xs ys in omega (arith, l) in
    (λ i. take (many i) (e i)) ∙ take-append_seam xs ys

pub record KeepsFirst (u v : UnionParts) : Type 0 where
  pub first : first_asked v ≡ first_asked u
  pub asks : v.inner.asked ≡ first_asked v ++ v.inner_asked

-- asks that come behind what the source asked leave what had been asked before
pub keeps_first : (u v : UnionParts) (ids : List ℕ) → IsUnion u → v.inner.asked ≡ u.inner.asked ++ ids → v.inner_asked ≡ u.inner_asked ++ ids → KeepsFirst u v
keeps_first u v ids iu asked own =
    let all : v.inner.asked ≡ first_asked u ++ v.inner_asked =
    asked ∙ ap (λ xs. xs ++ ids) iu.asks ∙ append_assoc (first_asked u) u.inner_asked ids ∙ ap (λ xs. first_asked u ++ xs) (sym own) in
    let first : first_asked v ≡ first_asked u = front (first_asked u) v.inner_asked v.inner.asked all in
    record { first = first; asks = all ∙ ap (λ xs. xs ++ v.inner_asked) (sym first) }

-- nothing is asked, and no more is live
pub rests_union : (s s' : SourceState) (b : ℕ) (behind : List Behind) (asked own : List ℕ) (live live' : ℕ → Bool) (n : ℕ)
    → IsUnion (record { inner = s; before = b; behind = behind; asked = asked; inner_asked = own; live = live; faults = n }) → Rests s s'
    → ((k : ℕ) → live' k ≡ true → live k ≡ true)
    → IsUnion (record { inner = s'; before = b; behind = behind; asked = asked; inner_asked = own; live = live'; faults = n })
rests_union s s' b behind asked own live live' n iu r fewer = record {
  asks = subst (λ a. a ≡ take (length a - length own) a ++ own) (sym r.asked) iu.asks;
  behind = iu.behind;
  each = iu.each;
  since = λ k l. iu.since k (fewer k l);
  least = let low = iu.least in let up = r.faults in omega (arith, low, up);
  failed = λ f. let h = iu.failed f in let up = r.faults in (omega (arith, h.0, up), r.can_fail ∙ h.1);
}
