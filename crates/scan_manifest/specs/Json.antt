-- Parts of a JSON value.
use Rattle.std.specs.Prelude.{◌&&◌, ℕ, ◌+◌, List, [], ◌∷◌, Bool, true, false, Option, None, Some, option_map, option_and_then, nat_le, if◌then◌else◌}
use Rattle.serde_json.specs.Data.{Data, null, boolean, number, string, array, object, Items, no_items, item, Members, no_members, member}
use Rattle.serde_json.specs.Find.{get, as_array, as_bool, as_number, as_u64}
use Rattle.scan_manifest.specs.Forms.{is_key}
use Rattle.scan_manifest.specs.declared.json.Form.{Form}

abbrev pub has_keys : Form → Members → Bool
has_keys f no_members = true
has_keys f (member k d ms) = is_key f k && has_keys f ms

-- an object without a key that its form has not
abbrev pub has_form : Form → Data → Bool
has_form f (object ms) = has_keys f ms
has_form f null = false
has_form f (boolean b) = false
has_form f (number n) = false
has_form f (string s) = false
has_form f (array ds) = false

-- a whole number from 0 below 2^64, written without a sign, a fraction or an exponent
abbrev pub number_of : Data → Option ℕ
number_of d = option_and_then as_u64 (as_number d)

-- such a number that is no greater than a bound
abbrev pub up_to : ℕ → Option ℕ → Option ℕ
up_to most o = option_and_then (λ n. if nat_le n most then Some n else None) o

abbrev pub number_to : ℕ → Data → Option ℕ
number_to most d = up_to most (number_of d)

-- what a member is, or a default where there is none
abbrev pub optional : {T : Type 0} → T → (Data → Option T) → Option Data → Option T
optional default f None = Some default
optional default f (Some d) = f d

-- a member that is true or false, or a default where there is none
abbrev pub flag_at : List ℕ → Bool → Data → Option Bool
flag_at name default d = optional default as_bool (get name d)

-- `true` alone
abbrev pub true_in : Data → Option Bool
true_in d = option_and_then (λ b. if b then Some true else None) (as_bool d)

-- whether a member is there, which is `true` then
abbrev pub mark_at : List ℕ → Data → Option Bool
mark_at name d = optional false true_in (get name d)

abbrev pub pair_of : Items → Option (Data × Data)
pair_of (item a (item b no_items)) = Some (a, b)
pair_of (item a (item b (item c ds))) = None
pair_of (item a no_items) = None
pair_of no_items = None

-- an array of two
abbrev pub pair_in : Data → Option (Data × Data)
pair_in d = option_and_then pair_of (as_array d)

-- what each item is, by its place from the first on, where each is something
abbrev pub each_from : {T : Type 0} → (ℕ → Data → Option T) → ℕ → Items → Option (List T)
each_from f i no_items = Some []
each_from f i (item d ds) = option_and_then (λ x. option_map (λ xs. x ∷ xs) (each_from f (i + 1) ds)) (f i d)

abbrev pub each : {T : Type 0} → (Data → Option T) → Items → Option (List T)
each f ds = each_from (λ _. f) 0 ds

abbrev pub list_in : {T : Type 0} → (Data → Option T) → Data → Option (List T)
list_in f d = option_and_then (each f) (as_array d)

-- what two things give, where both are there
abbrev pub both : {A B C : Type 0} → (A → B → Option C) → Option A → Option B → Option C
both f a b = option_and_then (λ x. option_and_then (f x) b) a
