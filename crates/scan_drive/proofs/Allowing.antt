-- What a budget grants in a phase, and what of it is given.
use Rattle.std.proofs.Common.{◌≡◌, ℕ, ◌+◌, ◌<◌, false, List, Option, Some, None, refl, sym, ap, ◌∙◌, subst, arith}
use Rattle.scan_segments.specs.Source.{Store}
use Rattle.scan_splits.specs.Arrivals.{Arrivals}
use Rattle.scan_drive.specs.Budgets.{BudgetData, Grants, GrantsAll, UsesUp}
use Rattle.scan_drive.specs.Chunks.{given, limit_of, HasRoom, Counts}
use Rattle.scan_drive.specs.Files.{count}
use Rattle.scan_drive.specs.Slots.{read_rows}
use Rattle.scan_drive.specs.Splits.{SplitState, Event}
use Rattle.scan_drive.specs.declared.delivery.Chunk.{Chunk}
use Rattle.scan_drive.specs.declared.slot.Slot.{Slot}

pub some_is : (a b : ℕ) → Some a ≡ Some b → a ≡ b
some_is a b e = cc

none_some : (b : ℕ) → ◌≡◌ {A = Option ℕ} None (Some b) → ⊥
none_some b e = cc

module _ {I R : Type 0} (items : R → List I) where
  -- what is left once so many rows more were given
  pub record IsLess (rows most : ℕ) (left : Option ℕ) : Type 0 where
    pub now : ℕ
    pub is : left ≡ Some now
    pub some : 0 < now
    pub sum : rows + now ≡ most

  pub less_left : (chunks chunks' : List (Chunk R)) (rows most : ℕ) (left left' : Option ℕ) → left ≡ Some most → count (given items chunks') ≡ count (given items chunks) + rows → Counts items chunks chunks' left left' → IsLess rows most left'
  less_left chunks chunks' rows most left left' e n c = go left' refl
    where
      a : ℕ
      a = count (given items chunks)

      limit : limit_of (a + rows) left' ≡ Some (a + most)
      limit = sym (ap (λ k. limit_of k left') n) ∙ c.limit ∙ ap (limit_of a) e

      go : (o : Option ℕ) → left' ≡ o → IsLess rows most left'
      go None is = absurd (none_some (a + most) (sym (ap (limit_of (a + rows)) is) ∙ limit))
      go (Some now) is =
          let sums : a + rows + now ≡ a + most = some_is (a + rows + now) (a + most) (sym (ap (limit_of (a + rows)) is) ∙ limit) in
          let room : 0 < now = subst HasRoom is c.room in
          record { now = now; is = is; some = room; sum = omega (arith, sums) }

module _ {W I R : Type 0} (split : W → SplitState I) (comes : W → Arrivals → Store → Event → Type 0) (items : R → List I) where
  -- a budget that is used up meets the limit
  pub used_up : (b : BudgetData) (left left' : Option ℕ) (chunks chunks' : List (Chunk R)) (old new : List (Slot W R)) → Grants false left b → UsesUp split comes items b old new
      → count (given items chunks') ≡ count (given items chunks) + read_rows items new → Counts items chunks chunks' left left' → ⊥
  used_up b left left' chunks chunks' old new g u n c =
      let l = less_left items chunks chunks' (read_rows items new) g.most left left' g.left_is n c in
      let x = g.enough in
      let y = u.met in
      let z = l.sum in
      let s = l.some in
      omega (arith, x, y, z, s)

  -- one that is not grants what is left
  pub grants_on : (b d : BudgetData) (left left' : Option ℕ) (chunks chunks' : List (Chunk R)) (slots : List (Slot W R)) → Grants false left b → GrantsAll items b d slots
      → count (given items chunks') ≡ count (given items chunks) + read_rows items slots → Counts items chunks chunks' left left' → Grants false left' d
  grants_on b d left left' chunks chunks' slots g a n c =
      let l = less_left items chunks chunks' (read_rows items slots) g.most left left' g.left_is n c in
      record {
        free = refl;
        is_open = a.is_open;
        most = l.now;
        left_is = l.is;
        enough = (let x = g.enough in let y = a.claims in let z = l.sum in let w = a.limit in omega (arith, x, y, z, w));
      }
