-- The map of the locals in scope, as the list of them.
use Rattle.std.proofs.Common.{Vec, Global, ◌≡◌, ℕ, Bool, true, false, List, [], ◌∷◌, ◌++◌, map, Option, Some, is_none, option_map, if◌then◌else◌, cond, refl, ap, ◌∙◌}
use Rattle.std.specs.Str.{bytes_eq}
use Rattle.std.proofs.lemmas.Bool.{false≢true}
use Rattle.std.proofs.lemmas.List.{map-append}
use Rattle.std.specs.Map.{lookup}
use Rattle.indexmap.specs.IndexMap.{insert_entry}
use Rattle.element_text.specs.declared.scope.KnownLocal.{KnownLocal}
use Rattle.element_text.specs.Resolve.{Known, local_in}
use Rattle.element_text.specs.Scopes.{known_as, known_of}
use Rattle.lemmas.proofs.Lists.{bytes_eq_true}

abbrev pub Entries : Type 0
Entries = List (Vec ℕ Global × KnownLocal)

-- what is kept for a name is the local that has it
pub kept_local : (es : Entries) (word : List ℕ) → option_map (known_as word) (lookup (λ (k : Vec ℕ Global). bytes_eq word k.items) es) ≡ local_in (map known_of es) word
kept_local [] word = refl
kept_local (e ∷ es) word = by_test (bytes_eq word e.0.items) refl _ (local_in (map known_of es) word) (kept_local es word)
  where
    by_test : (b : Bool) → bytes_eq word e.0.items ≡ b → (o : Option KnownLocal) (l : Option Known) → option_map (known_as word) o ≡ l
        → option_map (known_as word) (cond b (Some e.1) o) ≡ (if b then Some (known_of e) else l)
    by_test true same o l h = ap (λ w. Some (known_as w e.1)) (bytes_eq_true word e.0.items same)
    by_test false same o l h = h

-- a name that is none of theirs goes last
kept_last : (es : Entries) (key : Vec ℕ Global) (local : KnownLocal) → is_none (local_in (map known_of es) key.items) ≡ true
    → insert_entry (λ (k j : Vec ℕ Global). bytes_eq k.items j.items) es key local ≡ es ++ (key, local) ∷ []
kept_last [] key local e = refl
kept_last (x ∷ es) key local e = by_test (bytes_eq key.items x.0.items) (local_in (map known_of es) key.items) _ e (kept_last es key local)
  where
    by_test : (b : Bool) (o : Option Known) (is : Entries) → is_none (if b then Some (known_of x) else o) ≡ true
        → (is_none o ≡ true → is ≡ es ++ (key, local) ∷ []) → (if b then (x.0, local) ∷ es else x ∷ is) ≡ x ∷ es ++ (key, local) ∷ []
    by_test true o is h k = absurd (false≢true h)
    by_test false o is h k = ap (λ r. x ∷ r) (k h)

-- and so does its local
pub known_last : (es : Entries) (key : Vec ℕ Global) (local : KnownLocal) (word : List ℕ) {now : Entries} → key.items ≡ word
    → is_none (local_in (map known_of es) word) ≡ true
    → now ≡ insert_entry (λ (k j : Vec ℕ Global). bytes_eq k.items j.items) es key local
    → map known_of now ≡ map known_of es ++ known_as word local ∷ []
known_last es key local word same free is =
    ap (map known_of) (is ∙ kept_last es key local (ap (λ w. is_none (local_in (map known_of es) w)) same ∙ free))
    ∙ map-append known_of es ((key, local) ∷ [])
    ∙ ap (λ w. map known_of es ++ known_as w local ∷ []) same
