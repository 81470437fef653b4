-- A map of the locals in scope, as the list of them.
use Rattle.std.proofs.Common.{Vec, Global, ◌≡◌, ℕ, Bool, true, false, List, [], ◌∷◌, ◌++◌, map, Option, Some, is_none, option_map, if◌then◌else◌, cond, refl, sym, ap, ◌∙◌}
use Rattle.std.specs.Str.{bytes_eq}
use Rattle.std.proofs.lemmas.Bool.{false≢true}
use Rattle.std.proofs.lemmas.List.{map-append}
use Rattle.std.specs.Map.{lookup}
use Rattle.indexmap.specs.IndexMap.{insert_entry}
use Rattle.element_lang.specs.declared.tree.Local.{Local}
use Rattle.element_lang.specs.Broken.{local_named}
use Rattle.element_rules.specs.Seen.{local_of}

abbrev pub Entries : Type 0
Entries = List (Vec ℕ Global × ℕ)

-- what is kept for a name is the width of the local that has it
pub kept_width : (es : Entries) (word : List ℕ) → lookup (λ (k : Vec ℕ Global). bytes_eq word k.items) es ≡ option_map (λ (l : Local). l.width) (local_named (map local_of es) word)
kept_width [] word = refl
kept_width (e ∷ es) word = by_test (bytes_eq word e.0.items) _ (local_named (map local_of es) word) (kept_width es word)
  where
    by_test : (b : Bool) (o : Option ℕ) (l : Option Local) → o ≡ option_map (λ (l : Local). l.width) l → cond b (Some e.1) o ≡ option_map (λ (l : Local). l.width) (if b then Some (local_of e) else l)
    by_test true o l h = refl
    by_test false o l h = h

-- a name that is none of theirs goes last
pub kept_last : (es : Entries) (key : Vec ℕ Global) (width : ℕ) → is_none (local_named (map local_of es) key.items) ≡ true
    → insert_entry (λ (k j : Vec ℕ Global). bytes_eq k.items j.items) es key width ≡ es ++ (key, width) ∷ []
kept_last [] key width e = refl
kept_last (x ∷ es) key width e = by_test (bytes_eq key.items x.0.items) (local_named (map local_of es) key.items) _ e (kept_last es key width)
  where
    by_test : (b : Bool) (o : Option Local) (is : Entries) → is_none (if b then Some (local_of x) else o) ≡ true
        → (is_none o ≡ true → is ≡ es ++ (key, width) ∷ []) → (if b then (x.0, width) ∷ es else x ∷ is) ≡ x ∷ es ++ (key, width) ∷ []
    by_test true o is h k = absurd (false≢true h)
    by_test false o is h k = ap (λ r. x ∷ r) (k h)

-- and so does its local
pub local_last : (es : Entries) (key : Vec ℕ Global) (width : ℕ) (word : List ℕ) {now : Entries} → word ≡ key.items
    → is_none (local_named (map local_of es) word) ≡ true
    → now ≡ insert_entry (λ (k j : Vec ℕ Global). bytes_eq k.items j.items) es key width
    → map local_of now ≡ map local_of es ++ record { name = word; width = width } ∷ []
local_last es key width word same free is =
    ap (map local_of) (is ∙ kept_last es key width (ap (λ w. is_none (local_named (map local_of es) w)) (sym same) ∙ free))
    ∙ map-append local_of es ((key, width) ∷ [])
    ∙ ap (λ w. map local_of es ++ record { name = w; width = width } ∷ []) (sym same)
