-- Futures that mean the same, once more has arrived.
use Rattle.std.proofs.Common.{◌≡◌, ℕ, Bool, true, false, ◌||◌, ◌&&◌, ◌==◌, List, [], ◌∷◌, Option, Some, None, is_none, refl, ap, ◌∙◌, sym}
use Rattle.std.specs.Prelude.{if◌then◌else◌, is_some}
use Rattle.std.proofs.lemmas.Bool.{eqb-true}
use Rattle.scan_spelling.specs.Places.{Place}
use Rattle.scan_plans.specs.Came.{Came, arrived, Extends}
use Rattle.scan_plans.specs.Futures.{FutureData, SameFuture, masks_in, rows_of, future_spoiled, future_wanted}
use Rattle.scan_plans.specs.MaskLists.{SameMasks, masks_spoiled, masks_wanted}
use Rattle.scan_plans.specs.Masks.{MaskData, mask_spoiled, mask_wanted}
use Rattle.scan_plans.specs.Wants.{are_here, lacks, names_id, spoiled, wanted, Complete}
use Rattle.scan_plans.proofs.Collecting.{lacks_append}
use Rattle.scan_plans.proofs.Later.{holds_later}
use Rattle.scan_plans.proofs.Transfer.{complete_here}
use Rattle.scan_streams.proofs.Looking.{rows_same}

-- ---- what has arrived of places
here_complete : (ps : List Place) (here : Came) → are_here ps here ≡ true → Complete ps here
here_complete [] here h id = refl
here_complete (p ∷ ps) here h id = by (here p.id) refl h (p.id == id) refl (λ k. here_complete ps here k id)
  where
    at : (o : Option (Option (List ℕ))) → here p.id ≡ o → is_some o ≡ true → (p.id == id) ≡ true → is_none (here id) ≡ false
    at None e s q = absurd cc
    at (Some bytes) e s q = let same : p.id ≡ id = eqb-true p.id id q in rw (← same, e) refl

    by : (o : Option (Option (List ℕ))) → here p.id ≡ o → (is_some o && are_here ps here) ≡ true → (b : Bool) → (p.id == id) ≡ b → (are_here ps here ≡ true → (names_id id ps && is_none (here id)) ≡ false) → ((b || names_id id ps) && is_none (here id)) ≡ false
    by None e k b q later = absurd cc
    by (Some bytes) e k true q later = at (Some bytes) e refl q
    by (Some bytes) e k false q later = later k

same_here : (ps qs : List Place) (here : Came) → ((id : ℕ) → lacks ps here id ≡ lacks qs here id) → are_here ps here ≡ are_here qs here
same_here ps qs here e = by (are_here ps here) (are_here qs here) refl refl
  where
    by : (a b : Bool) → are_here ps here ≡ a → are_here qs here ≡ b → a ≡ b
    by true b p q = sym (complete_here qs here (λ id. sym (e id) ∙ here_complete ps here p id)) ∙ q
    by false true p q = sym p ∙ complete_here ps here (λ id. e id ∙ here_complete qs here q id)
    by false false p q = refl

-- ---- masks
masks_lack : (here more : Came) → Extends here more → (ns ms : List MaskData) (rest : List Place) (id : ℕ) → SameMasks here ns ms → lacks (masks_wanted ns more rest) more id ≡ lacks (masks_wanted ms more rest) more id
masks_lack here more x [] [] rest id s = refl
masks_lack here more x [] (m ∷ ms) rest id s = absurd s
masks_lack here more x (n ∷ ns) [] rest id s = absurd s
masks_lack here more x (n ∷ ns) (m ∷ ms) rest id s =
    let first = mask_wanted n more in
    let other = mask_wanted m more in
    let lacking = s.0.lacking more x in
    let later = masks_lack here more x ns ms rest id s.1 in
    lacks_append first (if are_here first more then masks_wanted ns more rest else []) more id
    ∙ (λ i. lacking id i || lacks (if same_here first other more lacking i then masks_wanted ns more rest else []) more id)
    ∙ ap (λ b. lacks other more id || b) (by (are_here other more) later)
    ∙ sym (lacks_append other (if are_here other more then masks_wanted ms more rest else []) more id)
  where
    by : (b : Bool) → lacks (masks_wanted ns more rest) more id ≡ lacks (masks_wanted ms more rest) more id → lacks (if b then masks_wanted ns more rest else []) more id ≡ lacks (if b then masks_wanted ms more rest else []) more id
    by true e = e
    by false e = refl

masks_spoil : (here more : Came) → Extends here more → (ns ms : List MaskData) (rest : Bool) (id : ℕ) → SameMasks here ns ms → masks_spoiled ns more id rest ≡ true → masks_spoiled ms more id rest ≡ true
masks_spoil here more x [] [] rest id s h = h
masks_spoil here more x [] (m ∷ ms) rest id s h = absurd s
masks_spoil here more x (n ∷ ns) [] rest id s h = absurd s
masks_spoil here more x (n ∷ ns) (m ∷ ms) rest id s h =
    go (mask_spoiled n more id) (mask_spoiled m more id) (are_here (mask_wanted n more) more) (are_here (mask_wanted m more) more) (same_here (mask_wanted n more) (mask_wanted m more) more (s.0.lacking more x)) (s.0.spoiling more x id) (masks_spoil here more x ns ms rest id s.1) h
  where
    either : (b c : Bool) → c ≡ true → (b || c) ≡ true
    either true c e = refl
    either false c e = e

    go : (a b p q : Bool) → p ≡ q → (a ≡ true → b ≡ true) → (masks_spoiled ns more id rest ≡ true → masks_spoiled ms more id rest ≡ true) → (a || (if p then masks_spoiled ns more id rest else false)) ≡ true → (b || (if q then masks_spoiled ms more id rest else false)) ≡ true
    go true b p q e first later k = rw (first refl) refl
    go false b true true e first later k = either b (masks_spoiled ms more id rest) (later k)
    go false b true false e first later k = absurd cc
    go false b false q e first later k = absurd cc

-- ---- futures
module _ (here more : Came) (x : Extends here more) (g f : FutureData) (s : SameFuture here g f) where
  rows_later : rows_of g (arrived more) ≡ rows_of f (arrived more)
  rows_later = rows_same here (arrived more) g f (holds_later here more x) s

  pub future_lacks : (id : ℕ) → lacks (future_wanted g more) more id ≡ lacks (future_wanted f more) more id
  future_lacks id =
      masks_lack here more x (masks_in g) (masks_in f) (wanted g.tree more (rows_of g (arrived more))) id s.masks
      ∙ (λ i. lacks (masks_wanted (masks_in f) more (wanted (s.tree i) more (rows_later i))) more id)

  pub future_spoils : (id : ℕ) → future_spoiled g more id ≡ true → future_spoiled f more id ≡ true
  future_spoils id h =
      (λ i. masks_spoiled (masks_in f) more id (spoiled (sym s.tree i) more (sym rows_later i) id))
      ∙ masks_spoil here more x (masks_in g) (masks_in f) (spoiled g.tree more (rows_of g (arrived more)) id) id s.masks h
