-- Declarations are good exactly where none breaks a rule.
use Rattle.std.proofs.Common.{◌≡◌, ℕ, ◌^◌, Bool, true, false, not, ◌&&◌, ◌||◌, List, [], ◌∷◌, ◌++◌, map, length, nat_le, nat_lt, ◌==◌, if◌then◌else◌, Option, Some, None, is_none, refl, sym, ap, ap₂, ◌∙◌, arith}
use Rattle.std.specs.List.{list_any, list_all}
use Rattle.std.specs.Str.{bytes_eq}
use Rattle.std.proofs.lemmas.Bool.{eqb-true, eq-eqb, and_parts, and_from, false≢true}
use Rattle.std.proofs.lemmas.List.{append-nil, length-map}
use Rattle.std.proofs.lemmas.List.Folds.{list_all-append}
use Rattle.state_store.specs.declared.object.ObjectDecl.{ObjectDecl}
use Rattle.state_store.specs.Kept.{have_widths}
use Rattle.gal_bits.specs.Fitting.{sum_of}
use Rattle.element_lang.specs.Rules.{is_width, same_widths, are_widths, is_size, are_good_rows, is_good_object, are_good_objects}
use Rattle.element_lang.specs.Surface.{Literal, SurfaceRow, SurfaceDecl, Declared, table_decl, map_decl, vector_decl, int_decl, value_row, object_of}
use Rattle.element_lang.specs.Broken.{object_named, literal_widths, is_too_large_literal, is_too_large_row, is_list_of_numbers, has_bad_rows, decl_tests, lowest_broken, broken_decl}
use Rattle.element_text.specs.Resolve.{decls_of, are_written, is_written, are_good_decls}
use Rattle.element_text.proofs.CompleteStmts.{good_values}
use Rattle.element_text.proofs.AgreeingScopes.{has_values}
use Rattle.element_text.proofs.AgreeingTests.{none_of, none_lowest}
use Rattle.element_text.proofs.AgreeingSights.{none_or}
use Rattle.gal_bits.specs.Fits.{same_list}

-- ## Rows of a table

-- the widths and the numbers of literals
abbrev widths_in : List Literal → List ℕ
widths_in = map (λ l. l.width)

abbrev numbers_in : List Literal → List ℕ
numbers_in = map (λ l. l.value)

wide_literals : (ws : List ℕ) (ls : List Literal) → list_all is_width ws ≡ true → same_widths (widths_in ls) ws ≡ true → list_all is_width (widths_in ls) ≡ true
wide_literals ws ls wide e = ap (list_all is_width) (same_list (widths_in ls) ws e) ∙ wide

both_small : (x y h : Bool) → not y ≡ h → not (not x || y) ≡ (x && h)
both_small x y h e = grind arith

small_literals : (ws : List ℕ) (ls : List Literal) → same_widths (widths_in ls) ws ≡ true
    → not (list_any is_too_large_literal ls) ≡ have_widths ws (numbers_in ls)
small_literals [] [] e = refl
small_literals [] (l ∷ ls) e = absurd (false≢true e)
small_literals (w ∷ ws) [] e = absurd (false≢true e)
small_literals (w ∷ ws) (l ∷ ls) e =
    let p = and_parts (l.width == w) (same_widths (widths_in ls) ws) e in
    both_small (nat_lt l.value (2 ^ l.width)) (list_any is_too_large_literal ls) (have_widths ws (numbers_in ls)) (small_literals ws ls p.1)
    ∙ ap (λ n. nat_lt l.value (2 ^ n) && have_widths ws (numbers_in ls)) (eqb-true l.width w p.0)

-- Where literals have the declared widths (k and v), their widths are widths (n and m), and they are small enough where they have these widths as
-- numbers.
row_tests : (n m l s t u k v a b h i w g : Bool) → (k ≡ true → n ≡ true) → (k ≡ true → not s ≡ h) → (v ≡ true → m ≡ true) → (v ≡ true → not t ≡ i)
    → (l && (not u && not b)) ≡ (w && g)
    → ((n && (m && l)) && (not ((s || t) || u) && not (((not k || not v) || a) || b))) ≡ (((k && v) && w) && (((h && i) && not a) && g))
row_tests n m l s t u k v a b h i w g p q r o e = grind arith

all_three : (p : ℕ → Bool) (xs ys zs : List ℕ) → list_all p (xs ++ (ys ++ zs)) ≡ (list_all p xs && (list_all p ys && list_all p zs))
all_three p xs ys zs = list_all-append p xs (ys ++ zs) ∙ ap (λ b. list_all p xs && b) (list_all-append p ys zs)

-- rows break no rule exactly where they are written with the declared widths and are good
rows_agree : (keys values : List ℕ) (seen : List (List ℕ)) (rows : List SurfaceRow) → list_all is_width keys ≡ true → list_all is_width values ≡ true
    → (list_all is_width (literal_widths rows) && (not (list_any is_too_large_row rows) && not (has_bad_rows keys values seen rows))) ≡
    (are_written keys values rows && are_good_rows keys values seen (map value_row rows))
rows_agree keys values seen [] a b = refl
rows_agree keys values seen (row ∷ rows) a b =
    let ks = widths_in row.keys in
    let vs = widths_in row.values in
    let key = numbers_in row.keys in
    let new = list_any (same_widths key) seen in
    let large = is_too_large_row row || list_any is_too_large_row rows in
    let wrong = has_bad_rows keys values seen (row ∷ rows) in
    let rest = list_all is_width (literal_widths rows) in
    ap (λ x. x && (not large && not wrong)) (all_three is_width ks vs (literal_widths rows))
    ∙ row_tests (list_all is_width ks) (list_all is_width vs) rest (list_any is_too_large_literal row.keys) (list_any is_too_large_literal row.values)
    (list_any is_too_large_row rows)
    (same_widths ks keys) (same_widths vs values) new (has_bad_rows keys values (key ∷ seen) rows)
    (have_widths keys key) (have_widths values (numbers_in row.values)) (are_written keys values rows)
    (are_good_rows keys values (key ∷ seen) (map value_row rows))
    (λ e. wide_literals keys row.keys a e) (λ e. small_literals keys row.keys e) (λ e. wide_literals values row.values b e) (λ e. small_literals values row.values e)
    (rows_agree keys values (key ∷ seen) rows a b)

-- ## Each declaration

widths_split : (v a s : Bool) → ((v && a) && s) ≡ (a && (v && s))
widths_split v a s = grind arith

-- widths of values, in a list that isn't too long
lists_agree : (ws : List ℕ) → are_widths ws ≡ (list_all is_width ws && is_list_of_numbers ws)
lists_agree ws = widths_split (nat_le 1 (length ws) && nat_le (length ws) 8) (list_all is_width ws) (nat_le (sum_of ws) 128)

int_tests : (n w s q : Bool) → q ≡ true → (not (not n) && (not (not (w && true)) && (not (not s) && true))) ≡ ((((q && true) && w && true) && s && true) && n)
int_tests n w s q e = grind arith

vector_tests : (n a v s : Bool) → (not (not n) && (not (not a) && (not (not v) && (not (not s) && true)))) ≡ (((((a && v) && s) && true) && true) && n)
vector_tests n a v s = grind arith

map_tests : (n a b k v s : Bool)
    → (not (not n) && (not (not (a && b)) && (not (not k || not v) && (not (not s) && true)))) ≡ ((((((a && k) && (b && v)) && s) && true) && true) && n)
map_tests n a b k v s = grind arith

table_tests : (n a b l k v t r w g q : Bool) → q ≡ true → (a ≡ true → b ≡ true → (l && (not t && not r)) ≡ (w && g))
    → (not (not n) && (not (not (a && (b && l))) && (not (not k || not v) && (not (t || false) && (not r && true))))) ≡
    (w && ((((((a && k) && (b && v)) && q) && true) && g) && n))
table_tests n a b l k v t r w g q e h = grind arith

-- a declaration breaks no rule exactly where it is written with the declared widths, keeps the rules of its kind, and has a name of its own
decl_agrees : (objects : List ObjectDecl) (d : SurfaceDecl)
    → none_of (decl_tests objects d) ≡ (is_written d && (is_good_object (object_of d).kind (object_of d) && is_none (object_named objects (object_of d).name)))
decl_agrees objects (table_decl word keys values rows) =
    let n = is_none (object_named objects word) in
    let a = list_all is_width keys in
    let b = list_all is_width values in
    let l = list_all is_width (literal_widths rows) in
    let k = is_list_of_numbers keys in
    let v = is_list_of_numbers values in
    let t = list_any is_too_large_row rows in
    let r = has_bad_rows keys values [] rows in
    let w = are_written keys values rows in
    let g = are_good_rows keys values [] (map value_row rows) in
    let q = length rows == length (map value_row rows) in
    let counted : q ≡ true = eq-eqb (length rows) (length (map value_row rows)) (sym (length-map rows value_row)) in
    ap (λ x. not (not n) && (not (not x) && (not (not k || not v) && (not (t || false) && (not r && true)))))
    (all_three is_width keys values (literal_widths rows))
    ∙ table_tests n a b l k v t r w g q counted (rows_agree keys values [] rows)
    ∙ ap₂ (λ x y. w && ((x && y && q && true && g) && n)) (sym (lists_agree keys)) (sym (lists_agree values))
decl_agrees objects (map_decl word keys values capacity) =
    let n = is_none (object_named objects word) in
    let k = is_list_of_numbers keys in
    let v = is_list_of_numbers values in
    let s = is_size capacity in
    let both : list_all is_width (keys ++ (values ++ [])) ≡ (list_all is_width keys && list_all is_width values) =
    list_all-append is_width keys (values ++ []) ∙ ap (λ ws. list_all is_width keys && list_all is_width ws) (append-nil values) in
    ap (λ x. not (not n) && (not (not x) && (not (not k || not v) && (not (not s) && true)))) both
    ∙ map_tests n (list_all is_width keys) (list_all is_width values) k v s
    ∙ ap₂ (λ x y. (x && y && s && true && true) && n) (sym (lists_agree keys)) (sym (lists_agree values))
decl_agrees objects (vector_decl word size values) =
    let n = is_none (object_named objects word) in
    let v = is_list_of_numbers values in
    let s = is_size size in
    ap (λ ws. not (not n) && (not (not (list_all is_width ws)) && (not (not v) && (not (not s) && true)))) (append-nil values)
    ∙ vector_tests n (list_all is_width values) v s
    ∙ ap (λ x. (x && s && true && true) && n) (sym (lists_agree values))
decl_agrees objects (int_decl word width start) =
    int_tests (is_none (object_named objects word)) (is_width width) (nat_lt start (2 ^ width)) (width == width) (eq-eqb width width refl)

-- ## All declarations

found_behind : (os : List ObjectDecl) (o : ObjectDecl) (word : List ℕ)
    → is_none (object_named (os ++ o ∷ []) word) ≡ (is_none (object_named os word) && not (bytes_eq word o.name))
found_behind [] o word = by_test (bytes_eq word o.name)
  where
    by_test : (b : Bool) → is_none (if b then Some o else None) ≡ not b
    by_test true = refl
    by_test false = refl
found_behind (d ∷ os) o word = by_test (bytes_eq word d.name) (object_named (os ++ o ∷ []) word) (object_named os word) (not (bytes_eq word o.name))
    (found_behind os o word)
  where
    by_test : (b : Bool) (x y : Option ObjectDecl) (n : Bool) → is_none x ≡ (is_none y && n)
        → is_none (if b then Some d else x) ≡ (is_none (if b then Some d else y) && n)
    by_test true x y n e = refl
    by_test false x y n e = e

-- the names that are declared, the last in front, are those of these objects
abbrev AreNames : List (List ℕ) → List ObjectDecl → Type 0
AreNames names objects = (word : List ℕ) → not (list_any (bytes_eq word) names) ≡ is_none (object_named objects word)

names_pushed : (names : List (List ℕ)) (objects : List ObjectDecl) (o : ObjectDecl) → AreNames names objects → AreNames (o.name ∷ names) (objects ++ o ∷ [])
names_pushed names objects o h word =
    taken (bytes_eq word o.name) (list_any (bytes_eq word) names) (is_none (object_named objects word)) (h word) ∙ sym (found_behind objects o word)
  where
    taken : (b x n : Bool) → not x ≡ n → not (b || x) ≡ (n && not b)
    taken true x true e = refl
    taken true x false e = refl
    taken false x true e = e
    taken false x false e = e

shared : (w g n v h : Bool) → ((w && (g && n)) && (v && h)) ≡ ((w && v) && ((g && n) && h))
shared w g n v h = grind arith

decls_agree_from : (names : List (List ℕ)) (objects : List ObjectDecl) → AreNames names objects → (ds : List Declared)
    → is_none (broken_decl objects ds) ≡ (list_all is_written (decls_of ds) && are_good_objects names (map object_of (decls_of ds)))
decls_agree_from names objects h [] = refl
decls_agree_from names objects h (d ∷ ds) =
    let o = object_of d.decl in
    let n = is_none (object_named objects o.name) in
    let w = is_written d.decl in
    let g = is_good_object o.kind o in
    let v = list_all is_written (decls_of ds) in
    let more = are_good_objects (o.name ∷ names) (map object_of (decls_of ds)) in
    none_or (lowest_broken d.at (decl_tests objects d.decl)) (broken_decl (objects ++ o ∷ []) ds)
    ∙ ap₂ (λ x y. x && y) (none_lowest d.at (decl_tests objects d.decl) ∙ decl_agrees objects d.decl)
    (decls_agree_from (o.name ∷ names) (objects ++ o ∷ []) (names_pushed names objects o h) ds)
    ∙ shared w g n v more
    ∙ ap (λ x. (w && v) && ((g && x) && more)) (sym (h o.name))

pub decls_agree : (ds : List Declared) → is_none (broken_decl [] ds) ≡ are_good_decls (decls_of ds)
decls_agree ds = decls_agree_from [] [] (λ word. refl) ds

-- the values of good objects have widths of values
pub good_have_values : (names : List (List ℕ)) (os : List ObjectDecl) → are_good_objects names os ≡ true → list_all has_values os ≡ true
good_have_values names [] e = refl
good_have_values names (o ∷ os) e =
    let p = and_parts _ _ e in
    and_from _ _ (good_values o.kind o (and_parts _ _ p.0).0) (good_have_values (o.name ∷ names) os p.1)
