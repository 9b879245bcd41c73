-- What callers need of manifests.
use Rattle.std.proofs.Common.{◌≡◌, ℕ, ◌<◌, List, [], ◌∷◌, Bool, true, false, zero, suc, length, get_or, Option, None, Some, refl, sym, subst, cond, arith}
use Rattle.std.specs.Prelude.{not, ◌||◌, option_and_then, option_map, codes}
use Rattle.std.specs.Str.{bytes_eq}
use Rattle.std.specs.List.{list_all}
use Rattle.std.proofs.lemmas.Slice.Eq.{bytes_eq-Decides}
use Rattle.serde_json.specs.Data.{Data}
use Rattle.serde_json.specs.Find.{get}
use Rattle.scan_manifest.specs.declared.json.Form.TheVariants as form
use Rattle.scan_manifest.specs.DTypes.{dtype_in}
use Rattle.scan_manifest.specs.Json.{has_form, optional, number_to}
use Rattle.scan_values.specs.DataType.{DataType}
use Rattle.scan_manifest.specs.declared.manifest.FileSpec.{FileSpec}
use Rattle.scan_manifest.specs.declared.manifest.Manifest.{Manifest}
use Rattle.scan_manifest.specs.Manifest.{manifest_with, files_in, request_in, cache_in, usual_cache, IsManifest, agree, all_agree, same_segments}
use Rattle.scan_manifest.proofs.Firsts.{first_true, then_true, same_is}

-- two files of one id that agree have the same segments
pub agree_same : (f g : FileSpec) → agree f g ≡ true → f.id ≡ g.id → f.segments ≡ g.segments
agree_same f g h e = same_is f.segments g.segments (by (bytes_eq f.id g.id) ((bytes_eq-Decides f.id g.id).1 e) h)
  where
    by : (b : Bool) → b ≡ true → (not b || same_segments f.segments g.segments) ≡ true → same_segments f.segments g.segments ≡ true
    by true q k = k
    by false q k = cc

-- each of some files agrees with another
each_agrees : (f : FileSpec) (gs : List FileSpec) (k : ℕ) (d : FileSpec) → k < length gs → list_all (agree f) gs ≡ true → agree f (get_or gs k d) ≡ true
each_agrees f [] k d lt h = absurd (omega arith)
each_agrees f (g ∷ gs) zero d lt h = first_true (agree f g) (list_all (agree f) gs) h
each_agrees f (g ∷ gs) (suc k) d lt h = each_agrees f gs k d (omega arith) (then_true (agree f g) (list_all (agree f) gs) h)

-- files of one id that all agree have the same segments
pub places_same : (fs : List FileSpec) (i j : ℕ) (d : FileSpec) → all_agree fs ≡ true → i < length fs → j < length fs → (get_or fs i d).id ≡ (get_or fs j d).id → (get_or fs i d).segments ≡ (get_or fs j d).segments
places_same [] i j d h li lj e = absurd (omega arith)
places_same (f ∷ fs) zero zero d h li lj e = refl
places_same (f ∷ fs) zero (suc j) d h li lj e = agree_same f (get_or fs j d) (each_agrees f fs j d (omega arith) (first_true (list_all (agree f) fs) (all_agree fs) h)) e
places_same (f ∷ fs) (suc i) zero d h li lj e = sym (agree_same f (get_or fs i d) (each_agrees f fs i d (omega arith) (first_true (list_all (agree f) fs) (all_agree fs) h)) (sym e))
places_same (f ∷ fs) (suc i) (suc j) d h li lj e = places_same fs i j d (then_true (list_all (agree f) fs) (all_agree fs) h) (omega arith) (omega arith) e

-- what a step gives is made of what was there
stepped : {X Y : Type 0} (P : Y → Type 0) (f : X → Option Y) (o : Option X) (y : Y) → ((x : X) → f x ≡ Some y → P y) → option_and_then f o ≡ Some y → P y
stepped P f None y step h = cc
stepped P f (Some x) y step h = step x h

mapped : {X Y : Type 0} (P : Y → Type 0) (f : X → Y) (o : Option X) (y : Y) → ((x : X) → P (f x)) → option_map f o ≡ Some y → P y
mapped P f None y step h = cc
mapped P f (Some x) y step h = let e : f x ≡ y = cc in subst P e (step x)

chosen : {Y : Type 0} (P : Y → Type 0) (b : Bool) (o : Option Y) (y : Y) → (b ≡ true → o ≡ Some y → P y) → cond b o None ≡ Some y → P y
chosen P true o y step h = step refl h
chosen P false o y step h = cc

-- the files of a manifest agree
abbrev Agreed : Manifest → Type 0
Agreed m = all_agree m.files ≡ true

-- the manifest with such parts
with_parts : {W C Q : Type 0} (P : Manifest → Type 0) (f : W → C → Q → Manifest) (ow : Option W) (oc : Option C) (oq : Option Q) (m : Manifest) → ((w : W) (c : C) (q : Q) → P (f w c q))
    → option_and_then (λ w. option_and_then (λ c. option_map (f w c) oq) oc) ow ≡ Some m → P m
with_parts P f ow oc oq m all h =
    stepped P (λ w. option_and_then (λ c. option_map (f w c) oq) oc) ow m (λ w hw. stepped P (λ c. option_map (f w c) oq) oc m (λ c hc. mapped P (f w c) oq m (all w c) hc) hw) h

files_are : (d : Data) (dtype : DataType) (fs : List FileSpec) (m : Manifest) → manifest_with d dtype fs ≡ Some m → Agreed m
files_are d dtype fs m h =
    chosen Agreed (all_agree fs)
    (option_and_then (λ workers. option_and_then (λ cache. option_map (λ request. record { dtype = dtype; files = fs; request = request; workers = workers; cache = cache })
    (option_and_then request_in (get (codes "request") d)))
    (optional usual_cache cache_in (get (codes "cache") d)))
    (optional 1 (number_to 256) (get (codes "workers") d)))
    m
    (λ yes k. with_parts Agreed (λ workers cache request. record { dtype = dtype; files = fs; request = request; workers = workers; cache = cache })
    (optional 1 (number_to 256) (get (codes "workers") d)) (optional usual_cache cache_in (get (codes "cache") d)) (option_and_then request_in (get (codes "request") d)) m (λ w c q. yes) k)
    h

pub manifest_agrees : (bytes : List ℕ) (m : Manifest) → IsManifest bytes m → all_agree m.files ≡ true
manifest_agrees bytes m (d, s, h) =
    chosen Agreed (has_form form.Manifest d) (option_and_then (λ dtype. option_and_then (manifest_with d dtype) (files_in dtype d)) (option_and_then dtype_in (get (codes "dtype") d))) m
    (λ yes k. stepped Agreed (λ dtype. option_and_then (manifest_with d dtype) (files_in dtype d)) (option_and_then dtype_in (get (codes "dtype") d)) m
    (λ dtype hd. stepped Agreed (manifest_with d dtype) (files_in dtype d) m (λ fs hf. files_are d dtype fs m hf) hd) k)
    h
