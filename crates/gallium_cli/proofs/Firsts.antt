-- The files of classes, in order of first use.
use Rattle.std.proofs.Common.{◌≡◌, ◌<◌, ℕ, suc, zero, Bool, true, false, cond, not, ◌||◌, List, [], ◌∷◌, ◌++◌, map, length, get_or, take, drop, refl, sym, ap}
use Rattle.std.proofs.Common.{◌∙◌, append_assoc}
use Rattle.std.specs.Prelude.{filter, slice_get}
use Rattle.std.specs.Bool.{Decides}
use Rattle.std.specs.List.{list_any}
use Rattle.std.specs.Str.{bytes_eq}
use Rattle.std.proofs.lemmas.Bool.{false≢true, or_left, or_right}
use Rattle.std.proofs.lemmas.List.{append-nil, map-append, take-append-drop}
use Rattle.std.proofs.lemmas.List.Elements.{filter-append}
use Rattle.std.proofs.lemmas.Option.{same_Some, slice_get_read}
use Rattle.std.proofs.lemmas.Slice.Eq.{bytes_eq-Decides}
use Rattle.element_chain.specs.declared.chain.Element.{Element}
use Rattle.gallium_cli.specs.Chains.{firsts, file_of, class_files, IsPlaceOf}

-- ## Words, each where it stands first

-- the word is among these
abbrev pub is_among : List (List ℕ) → List ℕ → Bool
is_among ws v = list_any (λ w. bytes_eq v w) ws

abbrev other_than : List ℕ → List ℕ → Bool
other_than w v = not (bytes_eq v w)

one_more : (w v : List ℕ) (us : List (List ℕ)) (b a : Bool) → bytes_eq v w ≡ b
    → w ∷ filter (other_than w) (cond a us (us ++ v ∷ []))
    ≡ cond (b || a) (w ∷ filter (other_than w) us) (w ∷ filter (other_than w) us ++ v ∷ [])
one_more w v us true true is = refl
one_more w v us false true is = refl
one_more w v us true false is =
    ap (λ vs. w ∷ vs) (filter-append (other_than w) us (v ∷ [])
    ∙ ap (λ b. filter (other_than w) us ++ cond (not b) (v ∷ []) []) is
    ∙ append-nil (filter (other_than w) us))
one_more w v us false false is =
    ap (λ vs. w ∷ vs) (filter-append (other_than w) us (v ∷ [])
    ∙ ap (λ b. filter (other_than w) us ++ cond (not b) (v ∷ []) []) is)

-- with one more word behind them
firsts_more : (ws : List (List ℕ)) (v : List ℕ)
    → firsts (ws ++ v ∷ []) ≡ cond (is_among ws v) (firsts ws) (firsts ws ++ v ∷ [])
firsts_more [] v = refl
firsts_more (w ∷ ws) v =
    ap (λ us. w ∷ filter (other_than w) us) (firsts_more ws v)
    ∙ one_more w v (firsts ws) (bytes_eq v w) (is_among ws v) refl

known_more : (ws : List (List ℕ)) (v : List ℕ) → is_among ws v ≡ true → firsts (ws ++ v ∷ []) ≡ firsts ws
known_more ws v is = firsts_more ws v ∙ ap (λ b. cond b (firsts ws) (firsts ws ++ v ∷ [])) is

new_more : (ws : List (List ℕ)) (v : List ℕ) → is_among ws v ≡ false → firsts (ws ++ v ∷ []) ≡ firsts ws ++ v ∷ []
new_more ws v is = firsts_more ws v ∙ ap (λ b. cond b (firsts ws) (firsts ws ++ v ∷ [])) is

-- with more words behind them
firsts_front : (ws vs : List (List ℕ)) → (rest : List (List ℕ)) × (firsts (ws ++ vs) ≡ firsts ws ++ rest)
firsts_front ws [] = ([], ap firsts (append-nil ws) ∙ sym (append-nil (firsts ws)))
firsts_front ws (v ∷ vs) =
    let later = firsts_front (ws ++ v ∷ []) vs in
    by_test (is_among ws v) refl later.0 (ap firsts (sym (append_assoc ws (v ∷ []) vs)) ∙ later.1)
  where
    by_test : (b : Bool) → is_among ws v ≡ b → (rest : List (List ℕ))
        → firsts (ws ++ v ∷ vs) ≡ firsts (ws ++ v ∷ []) ++ rest
        → (rest : List (List ℕ)) × (firsts (ws ++ v ∷ vs) ≡ firsts ws ++ rest)
    by_test true is rest same = (rest, same ∙ ap (λ us. us ++ rest) (known_more ws v is))
    by_test false is rest same =
        (v ∷ rest, same ∙ ap (λ us. us ++ rest) (new_more ws v is) ∙ append_assoc (firsts ws) (v ∷ []) rest)

-- ## Files of classes

abbrev classes_of : List Element → List (List ℕ)
classes_of es = map (λ (e : Element). e.class) es

-- an element of this class is among these
pub placed_among : (es : List Element) (class : List ℕ) (e : ℕ) → IsPlaceOf es class e → is_among (classes_of es) class ≡ true
placed_among [] class e (x, there, same) = cc
placed_among (y ∷ es) class zero (x, there, same) =
    or_left (bytes_eq class y.class) (is_among (classes_of es) class)
    ((bytes_eq-Decides class y.class).1 (sym same ∙ ap (λ (z : Element). z.class) (sym (same_Some _ _ there))))
placed_among (y ∷ es) class (suc e) (x, there, same) =
    or_right (bytes_eq class y.class) (is_among (classes_of es) class) (placed_among es class e (x, there, same))

-- or none is
pub none_among : (es : List Element) (class : List ℕ) → ((e : ℕ) → IsPlaceOf es class e → ⊥)
    → is_among (classes_of es) class ≡ false
none_among [] class none = refl
none_among (y ∷ es) class none =
    by_test (bytes_eq class y.class) refl (none_among es class (λ e there. none (suc e) there))
  where
    by_test : (b : Bool) → bytes_eq class y.class ≡ b → is_among (classes_of es) class ≡ false
        → (bytes_eq class y.class || is_among (classes_of es) class) ≡ false
    by_test true is later = absurd (none 0 (y, refl, sym ((bytes_eq-Decides class y.class).0 is)))
    by_test false is later = ap (λ b. b || is_among (classes_of es) class) is ∙ later

-- the files of one element more, of a class of those before it, or of a new one
pub files_known : (es : List Element) (x : Element) → is_among (classes_of es) x.class ≡ true
    → class_files (es ++ x ∷ []) ≡ class_files es
files_known es x is =
    ap (λ ws. map file_of (firsts ws)) (map-append (λ (e : Element). e.class) es (x ∷ []))
    ∙ ap (map file_of) (known_more (classes_of es) x.class is)

pub files_new : (es : List Element) (x : Element) → is_among (classes_of es) x.class ≡ false
    → class_files (es ++ x ∷ []) ≡ class_files es ++ file_of x.class ∷ []
files_new es x is =
    ap (λ ws. map file_of (firsts ws)) (map-append (λ (e : Element). e.class) es (x ∷ []))
    ∙ ap (map file_of) (new_more (classes_of es) x.class is)
    ∙ map-append file_of (firsts (classes_of es)) (x.class ∷ [])

files_front : (es more : List Element) → (rest : List (List ℕ)) × (class_files (es ++ more) ≡ class_files es ++ rest)
files_front es more =
    let front = firsts_front (classes_of es) (classes_of more) in (
      map file_of front.0,
      ap (λ ws. map file_of (firsts ws)) (map-append (λ (e : Element). e.class) es more)
          ∙ ap (map file_of) front.1 ∙ map-append file_of (firsts (classes_of es)) front.0,
    )

-- the files of the first elements come first
pub files_begin : (es : List Element) (n : ℕ) → (rest : List (List ℕ)) × (class_files es ≡ class_files (take n es) ++ rest)
files_begin es n =
    let front = files_front (take n es) (drop n es) in
    (front.0, ap class_files (sym (take-append-drop n es)) ∙ front.1)

-- ## Places

-- an element of another class stands there
pub other_place : (es : List Element) (class : List ℕ) (e : ℕ) (y : Element) (word : List ℕ) (same : Bool) → e < length es
    → y ≡ get_or es e y → word ≡ y.class → Decides same (word ≡ class) → same ≡ false → IsPlaceOf es class e → ⊥
other_place es class e y word same lt is named decides other (x, there, alike) =
    let here = same_Some _ _ (sym there ∙ slice_get_read es (length es) e y refl lt is) in
    false≢true (sym other ∙ decides.1 (named ∙ ap (λ (z : Element). z.class) (sym here) ∙ alike))

-- elements and a class that are those
pub place_here : (part es : List Element) (word class : List ℕ) (e : ℕ) → part ≡ es → word ≡ class
    → IsPlaceOf part word e → IsPlaceOf es class e
place_here part es word class e same named (x, there, is) = (x, ap (λ xs. slice_get xs e) (sym same) ∙ there, is ∙ named)

pub no_place_here : (part es : List Element) (word class : List ℕ) → part ≡ es → word ≡ class
    → ((e : ℕ) → IsPlaceOf part word e → ⊥) → (e : ℕ) → IsPlaceOf es class e → ⊥
no_place_here part es word class same named none e there = none e (place_here es part class word e (sym same) (sym named) there)
