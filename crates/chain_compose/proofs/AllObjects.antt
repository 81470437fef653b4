-- The objects of all elements, with their names in the whole.
use Rattle.std.proofs.Common.{◌≡◌, ℕ, suc, ◌+◌, ◌*◌, ◌<◌, List, [], ◌∷◌, ◌++◌, length, map, drop, slice_index_or, refl, sym, ap, ◌∙◌, arith, length-append, append_assoc, drop-cons}
use Rattle.std.proofs.Math.Nat.{suc-mul}
use Rattle.state_store.specs.declared.object.Kind.{Kind}
use Rattle.state_store.specs.declared.object.Kind.TheVariants.{Table}
use Rattle.state_store.specs.declared.object.ObjectDecl.{ObjectDecl}
use Rattle.element_lang.specs.Sizes.{entries_of, entries_in}
use Rattle.element_lang.specs.View.{tree}
use Rattle.element_lang.specs.declared.tree.Middlebox.{Middlebox}
use Rattle.element_print.specs.Lengths.{length_as, decls_length}
use Rattle.element_chain.specs.Compose.{prefixed, named_objects, objects_from}

-- the objects of an element, and those behind it
pub objects_at : (ms : List Middlebox) (i : ℕ) (m : Middlebox) → i < length ms → m ≡ slice_index_or ms i m
    → objects_from i (map tree (drop i ms)) ≡ named_objects i m.objects ++ objects_from (i + 1) (map tree (drop (i + 1) ms))
objects_at ms i m within is =
    let next : suc i ≡ i + 1 = omega arith in
    ap (λ (ks : List Middlebox). objects_from i (map tree ks)) (drop-cons ms i m within)
    ∙ ap (λ (k : Middlebox). named_objects i k.objects ++ objects_from (suc i) (map tree (drop (suc i) ms))) (sym is)
    ∙ ap (λ (k : ℕ). named_objects i m.objects ++ objects_from k (map tree (drop k ms))) next

-- ## How many there are

abbrev pub objects_in : List Middlebox → ℕ
objects_in [] = 0
objects_in (m ∷ ms) = length m.objects + objects_in ms

named_many : (e : ℕ) (os : List ObjectDecl) → length (named_objects e os) ≡ length os
named_many e [] = refl
named_many e (o ∷ os) = ap suc (named_many e os)

many_from : (e : ℕ) (ms : List Middlebox) → length (objects_from e (map tree ms)) ≡ objects_in ms
many_from e [] = refl
many_from e (m ∷ ms) =
    omega (arith, length-append (named_objects e m.objects) (objects_from (suc e) (map tree ms)), named_many e m.objects, many_from (suc e) ms)

pub all_counted : (ms : List Middlebox) → length (objects_from 0 (map tree ms)) ≡ objects_in ms
all_counted ms = many_from 0 ms

-- ## Entries

abbrev pub entries_of_all : List Middlebox → ℕ
entries_of_all [] = 0
entries_of_all (m ∷ ms) = entries_in m.objects + entries_of_all ms

entered_as : (k : Kind) (o : ObjectDecl) (name : List ℕ) → entries_of k (record o { name = name }) ≡ entries_of k o
entered_as Table o name = refl
entered_as _ o name = refl

named_entries : (e : ℕ) (os : List ObjectDecl) → entries_in (named_objects e os) ≡ entries_in os
named_entries e [] = refl
named_entries e (o ∷ os) = omega (arith, entered_as o.kind o (prefixed e o.name), named_entries e os)

entries_append : (os ps : List ObjectDecl) → entries_in (os ++ ps) ≡ entries_in os + entries_in ps
entries_append [] ps = omega arith
entries_append (o ∷ os) ps = omega (arith, entries_append os ps)

entered_from : (e : ℕ) (ms : List Middlebox) → entries_in (objects_from e (map tree ms)) ≡ entries_of_all ms
entered_from e [] = refl
entered_from e (m ∷ ms) =
    omega (arith, entries_append (named_objects e m.objects) (objects_from (suc e) (map tree ms)), named_entries e m.objects, entered_from (suc e) ms)

pub all_entered : (ms : List Middlebox) → entries_in (objects_from 0 (map tree ms)) ≡ entries_of_all ms
all_entered ms = entered_from 0 ms

-- ## Declarations

told_as : (k : Kind) (o : ObjectDecl) (name : List ℕ) → length_as k (record o { name = name }) ≡ length_as k o
told_as Table o name = refl
told_as _ o name = refl

pub named_decls : (e prefix : ℕ) → ((name : List ℕ) → length (prefixed e name) ≡ prefix + length name) → (os : List ObjectDecl)
    → decls_length (named_objects e os) ≡ decls_length os + length os * prefix
named_decls e prefix is [] = omega arith
named_decls e prefix is (o ∷ os) =
    omega (arith, told_as o.kind o (prefixed e o.name), is o.name, named_decls e prefix is os, suc-mul (length os) prefix)

pub decls_append : (os ps : List ObjectDecl) → decls_length (os ++ ps) ≡ decls_length os + decls_length ps
decls_append [] ps = omega arith
decls_append (o ∷ os) ps = omega (arith, decls_append os ps)

-- ## Names

abbrev pub lengths_of_names : List ObjectDecl → List ℕ
lengths_of_names = map (λ (o : ObjectDecl). length o.name)

-- the names of the objects of one element more
pub names_told : (ms : List Middlebox) (i : ℕ) (m : Middlebox) (had had' all : List ℕ) → i < length ms → m ≡ slice_index_or ms i m
    → had' ≡ had ++ lengths_of_names (named_objects i m.objects)
    → had ++ lengths_of_names (objects_from i (map tree (drop i ms))) ≡ all → had' ++ lengths_of_names (objects_from (i + 1) (map tree (drop (i + 1) ms))) ≡ all
names_told ms i m had had' all within is more before =
    let next : suc i ≡ i + 1 = omega arith in
    let rest = objects_from (i + 1) (map tree (drop (i + 1) ms)) in
    ap (λ (ns : List ℕ). ns ++ lengths_of_names rest) more
    ∙ append_assoc had (lengths_of_names (named_objects i m.objects)) (lengths_of_names rest)
    ∙ ap (λ (ns : List ℕ). had ++ ns) (sym (names_append (named_objects i m.objects) rest))
    ∙ ap (λ (os : List ObjectDecl). had ++ lengths_of_names os) (sym (objects_at ms i m within is))
    ∙ before
  where
    names_append : (os ps : List ObjectDecl) → lengths_of_names (os ++ ps) ≡ lengths_of_names os ++ lengths_of_names ps
    names_append [] ps = refl
    names_append (o ∷ os) ps = ap (λ (ns : List ℕ). length o.name ∷ ns) (names_append os ps)
