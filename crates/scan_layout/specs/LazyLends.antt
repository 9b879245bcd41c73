-- What lazy children end as, once a reference to one of them has ended.
use Rattle.std.specs.Prelude.{ℕ, Result}
use Rattle.std.specs.Borrow.{Fml, RattleType, MutBor, Lends, LendsIfOk}
use Rattle.scan_layout.specs.Lazy.{Children, with_child}
use Rattle.scan_layout.specs.declared.children.ChildOpener.{Ghosts}
use Rattle.scan_layout.specs.contracts.children.LazyReaderChildren.{the_row}

module _ (V K M : RattleType) (opener : Ghosts K.Denot V.Denot M.Denot) (s : MutBor (Children V.Denot K.Denot M.Denot)) where
  -- the child of the index is the last value written through r
  abbrev pub lends_made : ℕ → MutBor M.Denot → Fml
  lends_made i r = Lends (the_row V K M opener) M s r (with_child s.now i)

  -- the same, and after an error the children are as they were
  abbrev pub lends_child : {E : Type 0} → ℕ → Result (MutBor M.Denot) E → Fml
  lends_child i r = LendsIfOk (the_row V K M opener) M s r (with_child s.now i) s.now
