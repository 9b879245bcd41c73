-- What is had of a list of things that may mean something: all of them, or the first place of one that means nothing.
use Rattle.std.specs.Prelude.{◌≡◌, ℕ, List, [], ◌∷◌, ◌++◌, length, map, Option, None, Some, option_map, Result, Ok, Err, Vec}
use Rattle.std.specs.declared.alloc.Global.{Global}
use Rattle.scan_values.specs.Val.{Val}
use Rattle.scan_values.specs.Values.{val_of}
use Rattle.scan_values.specs.declared.value.Value.{Value}
use Rattle.scan_import.specs.declared.fault.ValuesFault.{ValuesFault}
use Rattle.scan_import.specs.declared.fault.ValuesFault.TheVariants as fault

-- one value more
abbrev pub more_of : {A : Type 0} → Option A → Option (List A) → Option (List A)
more_of None o = None
more_of (Some x) o = option_map (λ xs. x ∷ xs) o

-- all of these, where each is something
abbrev pub all_of : {A : Type 0} → List (Option A) → Option (List A)
all_of [] = Some []
all_of (o ∷ os) = more_of o (all_of os)

-- the first place where there is nothing
pub record StopsAt {A : Type 0} (place : ℕ) (os : List (Option A)) : Type 0 where
  pub front : List A
  pub rest : List (Option A)
  pub is : os ≡ map Some front ++ None ∷ rest
  pub count : length front ≡ place

-- what a value is known to be
abbrev pub known : Value → Option Val
known v = Some (val_of v)

-- the values that these mean, or the first place of one that means nothing
abbrev pub AreMeant : List (Option Val) → Result (Vec Value Global) ValuesFault → Type 0
AreMeant os (Ok vs) = os ≡ map known vs.items
AreMeant os (Err (fault.Nothing place)) = StopsAt place os
AreMeant os (Err fault.NoMemory) = Unit {0}
