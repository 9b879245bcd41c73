-- Files that are taken apart and put together again, one after another.
use Rattle.std.proofs.Common.{◌≡◌, ◌⊎◌, inl, inr, suc, List, [], ◌∷◌, ◌++◌, length, map, arith, refl, sym, subst, ap, ◌∙◌, None, All, append_assoc}
use Rattle.std.proofs.lemmas.List.{append-nil}
use Rattle.std.proofs.lemmas.List.Elements.{All-head, All-tail}
use Rattle.std.specs.Vec.Iter.{into_iter_items, into_iter_len, into_iter_steps}
use Rattle.std.specs.declared.vec.IntoIter.{IntoIter}
use Rattle.scan_segments.specs.Source.{SourceState}
use Rattle.scan_opener.specs.declared.opener.MemoryOpener.{MemoryOpener}
use Rattle.scan_drive.specs.declared.files.ScanFile.{ScanFile}
use Rattle.scan_widened.specs.Sources.{UnionState}
use Rattle.scan_union.specs.Seats.{make_file, make_all, rest_of, back_file, back_all}
use Rattle.scan_union.specs.declared.seat.Rest.{Rest}
use Rattle.scan_union.specs.declared.seat.Seat.{Seat}
use Rattle.scan_union.proofs.Seating.{none_of}

pub tail_of : {A : Type 0} (P : A → Type 0) (xs ys : List A) (x : A) → xs ≡ x ∷ ys → All P xs → All P ys
tail_of P xs ys x e h = All-tail P x ys (subst (λ zs. All P zs) e h)

pub head_of : {A : Type 0} (P : A → Type 0) (xs ys : List A) (x : A) → xs ≡ x ∷ ys → All P xs → P x
head_of P xs ys x e h = All-head P x ys (subst (λ zs. All P zs) e h)

pub even_tails : {A B : Type 0} (xs ys : List A) (us vs : List B) (x : A) (u : B) → xs ≡ x ∷ ys → us ≡ u ∷ vs → length xs ≡ length us → length ys ≡ length vs
even_tails xs ys us vs x u e f n = let a : length xs ≡ suc (length ys) = ap length e in let b : length us ≡ suc (length vs) = ap length f in omega (arith, a, b, n)

-- both lists of a pair have ended where one has, if they are as long
pub ended : {X Y Z W : Type 0} (a : IntoIter X Z) (b : IntoIter Y W) → into_iter_len a ≡ length (into_iter_items a) → into_iter_len b ≡ length (into_iter_items b)
    → length (into_iter_items a) ≡ length (into_iter_items b) → ((u : IntoIter X Z) × into_iter_steps a None u) ⊎ ((u : IntoIter Y W) × into_iter_steps b None u) → into_iter_items b ≡ []
ended a b la lb even (inl s) = let z = (s.1).0 in none_of (into_iter_items b) (omega (arith, la, even, z))
ended a b la lb even (inr s) = let z = (s.1).0 in none_of (into_iter_items b) (omega (arith, lb, z))

module _ {O S : Type 0} where
  pub rests_step : (rests rests' : List (Rest O)) (xs ys : List (ScanFile O S)) (f : ScanFile O S) → xs ≡ f ∷ ys → rests' ≡ rests ++ rest_of f ∷ [] → rests' ++ map rest_of ys ≡ rests ++ map rest_of xs
  rests_step rests rests' xs ys f e p = ap (λ rs. rs ++ map rest_of ys) p ∙ append_assoc rests (rest_of f ∷ []) (map rest_of ys) ∙ ap (λ zs. rests ++ map rest_of zs) (sym e)

  pub made_step : (source : S → SourceState) (made made' : List (ScanFile MemoryOpener (UnionState S))) (xs ys : List (ScanFile O S)) (ss ts : List Seat) (f : ScanFile O S) (s : Seat) → xs ≡ f ∷ ys → ss ≡ s ∷ ts
      → made' ≡ made ++ make_file source f s ∷ [] → made' ++ make_all source ys ts ≡ made ++ make_all source xs ss
  made_step source made made' xs ys ss ts f s e k p =
      ap (λ ms. ms ++ make_all source ys ts) p ∙ append_assoc made (make_file source f s ∷ []) (make_all source ys ts) ∙ (λ i. made ++ make_all source (sym e i) (sym k i))

  pub back_step : (files files' : List (ScanFile O S)) (rs qs : List (Rest O)) (ms ns : List (ScanFile MemoryOpener (UnionState S))) (r : Rest O) (m : ScanFile MemoryOpener (UnionState S)) → rs ≡ r ∷ qs → ms ≡ m ∷ ns
      → files' ≡ files ++ back_file r m ∷ [] → files' ++ back_all qs ns ≡ files ++ back_all rs ms
  back_step files files' rs qs ms ns r m e k p =
      ap (λ fs. fs ++ back_all qs ns) p ∙ append_assoc files (back_file r m ∷ []) (back_all qs ns) ∙ (λ i. files ++ back_all (sym e i) (sym k i))

  back_none : (rs : List (Rest O)) → back_all {S = S} rs [] ≡ []
  back_none [] = refl
  back_none (r ∷ rs) = refl

  pub back_end : (files : List (ScanFile O S)) (rs : List (Rest O)) (ms : List (ScanFile MemoryOpener (UnionState S))) → ms ≡ [] → files ≡ files ++ back_all rs ms
  back_end files rs ms e = sym (ap (λ xs. files ++ back_all rs xs) e ∙ ap (λ xs. files ++ xs) (back_none rs) ∙ append-nil files)
