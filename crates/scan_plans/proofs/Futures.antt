-- A mask that is known.
use Rattle.std.proofs.Common.{◌≡◌, Bool, false, List, [], ap, ◌∙◌, sym}
use Rattle.std.specs.Prelude.{option_and_then}
use Rattle.scan_segments.specs.Source.{Store}
use Rattle.scan_plans.specs.Came.{Came, arrived, Holds}
use Rattle.scan_plans.specs.Masks.{MaskData, Filter, mask_of, mask_damage, mask_overflow, filtered, damaged, spilled, SameMask}

-- what has arrived holds what has arrived
pub holds_itself : (here : Came) → Holds (arrived here) here
holds_itself here id bytes e = ap (option_and_then (λ b. b)) e

pub known_mask : (here : Came) (old new : MaskData) (store : Store) → SameMask here new old → new.filters ≡ [] → Holds store here → mask_of old store ≡ new.known
known_mask here old new store s e h = sym (s.mask store h) ∙ ap (λ (fs : List Filter). filtered store new.known fs) e

pub known_within : (here : Came) (old new : MaskData) (store : Store) → SameMask here new old → new.filters ≡ [] → Holds store here → mask_overflow old store ≡ false
known_within here old new store s e h = sym (s.overflow store h) ∙ ap (λ (fs : List Filter). spilled store new.known fs) e

pub known_clean : (here : Came) (old new : MaskData) (store : Store) → SameMask here new old → new.filters ≡ [] → Holds store here → mask_damage old store ≡ false
known_clean here old new store s e h = sym (s.damage store h) ∙ ap (λ (fs : List Filter). damaged store new.known fs) e

pub mask_ready : (here : Came) (old new : MaskData) (m : List Bool) (store : Store) → SameMask here new old → new.filters ≡ [] → m ≡ new.known → Holds store here → (m ≡ mask_of old store) × (mask_overflow old store ≡ false) × (mask_damage old store ≡ false)
mask_ready here old new m store s e k h = (k ∙ sym (known_mask here old new store s e h), known_within here old new store s e h, known_clean here old new store s e h)
