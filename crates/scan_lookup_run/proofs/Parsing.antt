-- The input of the program, read from JSON.
use Rattle.std.proofs.Common.{◌≡◌, ℕ, ◌<◌, ◌≤◌, Bool, true, false, List, [], ◌∷◌, length, get_or, Option, None, Some, refl, sym, ap, ◌∙◌, subst, cond, arith}
use Rattle.std.specs.Prelude.{◌&&◌, String, string_bytes, option_and_then, option_map, codes}
use Rattle.std.specs.declared.alloc.Global.{Global}
use Rattle.std.specs.List.{list_all}
use Rattle.std.specs.Map.{keys_of}
use Rattle.serde_json.specs.Data.{Data, null, boolean, number, string, array, object, Members}
use Rattle.serde_json.specs.Find.{as_object, get}
use Rattle.serde_json.specs.Read.{read}
use Rattle.serde_json.specs.declared.value.Value.{Value}
use Rattle.serde_json.specs.View.{items_view, members_view, view}
use Rattle.scan_values.specs.DataType.{DataType}
use Rattle.scan_manifest.specs.DTypes.{dtype_in}
use Rattle.scan_manifest.specs.Json.{both, number_to, optional}
use Rattle.scan_manifest.specs.Manifest.{all_agree, cache_in, files_in, manifest_in, manifest_with, request_in, usual_cache}
use Rattle.scan_manifest.specs.declared.manifest.FileSpec.{FileSpec}
use Rattle.scan_manifest.specs.declared.manifest.Manifest.{Manifest}
use Rattle.scan_lookup_run.specs.Jobs.{IsJob, has_only, have_only, is_job_key, is_projection_key, job_in, job_of, lookups_at, manifest_at, place_at, place_of, projecting_in}
use Rattle.scan_lookup_run.specs.declared.reading.Job.{Job}

-- ---- keys of objects
pub have_only-keys : (is : List ℕ → Bool) (es : List (String Global × Value)) → have_only is (members_view es) ≡ list_all (λ k. is (string_bytes k)) (keys_of es)
have_only-keys is [] = refl
have_only-keys is (e ∷ es) = ap (λ b. is (string_bytes e.0) && b) (have_only-keys is es)

pub only_of : (is : List ℕ → Bool) (d : Data) (ms : Members) → Some ms ≡ as_object d → has_only is d ≡ have_only is ms
only_of is null ms e = cc
only_of is (boolean b) ms e = cc
only_of is (number n) ms e = cc
only_of is (string s) ms e = cc
only_of is (array ds) ms e = cc
only_of is (object ns) ms e = let same : ns ≡ ms = cc in ap (have_only is) same

pub no_object : (is : List ℕ → Bool) (d : Data) → None ≡ as_object d → has_only is d ≡ false
no_object is null e = refl
no_object is (boolean b) e = refl
no_object is (number n) e = refl
no_object is (string s) e = refl
no_object is (array ds) e = refl
no_object is (object ns) e = cc

-- ---- lists of two
pub place_pair : (vs : List Value) (f r : Value) → 2 ≤ length vs → length vs < 3 → f ≡ get_or vs 0 f → r ≡ get_or vs 1 r → place_of (items_view vs) ≡ place_at (view f) (view r)
place_pair [] f r lo hi p q = absurd (omega (arith, lo))
place_pair (a ∷ []) f r lo hi p q = absurd (omega (arith, lo))
place_pair (a ∷ b ∷ []) f r lo hi p q = ap (λ x. place_at (view x) (view b)) (sym p) ∙ ap (λ x. place_at (view f) (view x)) (sym q)
place_pair (a ∷ b ∷ c ∷ vs) f r lo hi p q = absurd (omega (arith, hi))

pub short_place : (vs : List Value) → length vs < 2 → place_of (items_view vs) ≡ None
short_place [] h = refl
short_place (a ∷ []) h = refl
short_place (a ∷ b ∷ vs) h = absurd (omega (arith, h))

pub long_place : (vs : List Value) → 3 ≤ length vs → place_of (items_view vs) ≡ None
long_place [] h = absurd (omega (arith, h))
long_place (a ∷ []) h = absurd (omega (arith, h))
long_place (a ∷ b ∷ []) h = absurd (omega (arith, h))
long_place (a ∷ b ∷ c ∷ vs) h = refl

-- ---- the files of a job agree
-- what a step gives is made of what was there
stepped : {X Y : Type 0} (P : Y → Type 0) (f : X → Option Y) (o : Option X) (y : Y) → ((x : X) → o ≡ Some x → f x ≡ Some y → P y) → option_and_then f o ≡ Some y → P y
stepped P f None y step h = cc
stepped P f (Some x) y step h = step x refl h

mapped : {X Y : Type 0} (P : Y → Type 0) (f : X → Y) (o : Option X) (y : Y) → ((x : X) → P (f x)) → option_map f o ≡ Some y → P y
mapped P f None y step h = cc
mapped P f (Some x) y step h = let e : f x ≡ y = cc in subst P e (step x)

chosen : {Y : Type 0} (P : Y → Type 0) (b : Bool) (o : Option Y) (y : Y) → (b ≡ true → o ≡ Some y → P y) → cond b o None ≡ Some y → P y
chosen P true o y step h = step refl h
chosen P false o y step h = cc

abbrev Agreed : Manifest → Type 0
Agreed m = all_agree m.files ≡ true

-- the manifest with such parts
with_parts : {W C Q : Type 0} (P : Manifest → Type 0) (f : W → C → Q → Manifest) (ow : Option W) (oc : Option C) (oq : Option Q) (m : Manifest) → ((w : W) (c : C) (q : Q) → P (f w c q))
    → option_and_then (λ w. option_and_then (λ c. option_map (f w c) oq) oc) ow ≡ Some m → P m
with_parts P f ow oc oq m all h =
    stepped P (λ w. option_and_then (λ c. option_map (f w c) oq) oc) ow m (λ w _ hw. stepped P (λ c. option_map (f w c) oq) oc m (λ c _ hc. mapped P (f w c) oq m (all w c) hc) hw) h

files_are : (d : Data) (dtype : DataType) (fs : List FileSpec) (m : Manifest) → manifest_with d dtype fs ≡ Some m → Agreed m
files_are d dtype fs m h =
    chosen Agreed (all_agree fs)
    (option_and_then (λ workers. option_and_then (λ cache. option_map (λ request. record { dtype = dtype; files = fs; request = request; workers = workers; cache = cache })
    (option_and_then request_in (get (codes "request") d)))
    (optional usual_cache cache_in (get (codes "cache") d)))
    (optional 1 (number_to 256) (get (codes "workers") d)))
    m
    (λ yes k. with_parts Agreed (λ workers cache request. record { dtype = dtype; files = fs; request = request; workers = workers; cache = cache })
    (optional 1 (number_to 256) (get (codes "workers") d)) (optional usual_cache cache_in (get (codes "cache") d)) (option_and_then request_in (get (codes "request") d)) m (λ w c q. yes) k)
    h

manifest_files : (d : Data) (m : Manifest) → manifest_in d ≡ Some m → Agreed m
manifest_files d m h =
    chosen Agreed _ (option_and_then (λ dtype. option_and_then (manifest_with d dtype) (files_in dtype d)) (option_and_then dtype_in (get (codes "dtype") d))) m
    (λ yes k. stepped Agreed (λ dtype. option_and_then (manifest_with d dtype) (files_in dtype d)) (option_and_then dtype_in (get (codes "dtype") d)) m
    (λ dtype _ hd. stepped Agreed (manifest_with d dtype) (files_in dtype d) m (λ fs _ hf. files_are d dtype fs m hf) hd) k)
    h

projecting_files : (d : Data) (m : Manifest) → projecting_in d ≡ Some m → Agreed m
projecting_files d m h =
    stepped Agreed (λ r. cond (has_only is_projection_key r) (manifest_in d) None) (get (codes "request") d) m
    (λ r _ k. chosen Agreed (has_only is_projection_key r) (manifest_in d) m (λ yes e. manifest_files d m e) k)
    h

at_files : (d : Data) (m : Manifest) → manifest_at d ≡ Some m → Agreed m
at_files d m h = stepped Agreed projecting_in (get (codes "manifest") d) m (λ x _ k. projecting_files x m k) h

abbrev JobAgreed : Job → Type 0
JobAgreed j = all_agree j.files ≡ true

same_some : {A : Type 0} (x y : A) → Some x ≡ Some y → x ≡ y
same_some x y e = cc

made_files : (d : Data) (j : Job) → job_in d ≡ Some j → JobAgreed j
made_files d j h =
    chosen JobAgreed (has_only is_job_key d) (both (λ m lookups. Some (job_of m lookups)) (manifest_at d) (lookups_at d)) j
    (λ yes k. stepped JobAgreed (λ m. option_and_then (λ lookups. Some (job_of m lookups)) (lookups_at d)) (manifest_at d) j
    (λ m at e. stepped JobAgreed (λ lookups. Some (job_of m lookups)) (lookups_at d) j (λ ls _ f. subst JobAgreed (same_some (job_of m ls) j f) (at_files d m at)) e) k)
    h

pub job_agrees : (bytes : List ℕ) (j : Job) → IsJob bytes j → all_agree j.files ≡ true
job_agrees bytes j (d, s, e) = made_files d j e

-- ---- bytes are one job at most
pub one_job : (bytes : List ℕ) (j k : Job) → IsJob bytes j → IsJob bytes k → j ≡ k
one_job bytes j k (d, s, a) (e, t, b) = same_some j k (sym a ∙ ap job_in (same_some d e (sym s.1 ∙ t.1)) ∙ b)

-- ---- bytes that ask for nothing
no_value : (j : Job) → None ≡ Some j → ⊥
no_value j e = cc

pub no_other : (bytes : List ℕ) (d : Data) → read bytes ≡ Some d → job_in d ≡ None → (j : Job) → IsJob bytes j → ⊥
no_other bytes d e none j (x, s, a) = no_value j (sym none ∙ ap job_in (sym (same_some x d (sym s.1 ∙ e))) ∙ a)
