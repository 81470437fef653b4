-- The tokens of printed declarations, and of whole middleboxes, are read again as they are printed.
use Rattle.std.proofs.Common.{◌≡◌, ℕ, ◌^◌, ◌≤◌, true, nat_le, nat_lt, List, [], ◌∷◌, ◌++◌, map, length, slice_index, arith}
use Rattle.std.specs.List.{All, list_all}
use Rattle.std.proofs.lemmas.List.Elements.{All-head, All-tail}
use Rattle.state_store.specs.declared.object.Kind.{Kind}
use Rattle.state_store.specs.declared.object.Kind.TheVariants.{Table, Map, Vector, Int}
use Rattle.state_store.specs.declared.object.Row.{Row}
use Rattle.state_store.specs.declared.object.ObjectDecl.{ObjectDecl}
use Rattle.state_store.specs.Kept.{have_widths}
use Rattle.element_lang.specs.declared.mark.Mark.TheVariants as marks
use Rattle.element_lang.specs.declared.sizes.TheConstants.{MAX_ROWS}
use Rattle.element_lang.specs.Token.{Token, fixed, number, IsName}
use Rattle.element_lang.specs.Accepted.{HasNames}
use Rattle.element_lang.specs.Tree.{Tree}
use Rattle.element_lang.specs.Surface.{literals, named_row, named_as, named_decl, named_body, named}
use Rattle.element_lang.specs.Rules.{is_width, are_widths, is_size, are_good_rows, is_good_object, are_good_objects, is_good, declared_by}
use Rattle.element_print.specs.Printed.{joined, in_braces, widths_tokens, literal_tokens, literals_tokens, rows_tokens, decl_tokens, decls_tokens, body_tokens, print_tokens}
use Rattle.element_print.proofs.BoolParts.{is_equal}
use Rattle.element_print.proofs.Words.{Readable, fixed_readable, name_readable, number_readable}
use Rattle.element_print.proofs.TextTokens.{AllReadable, readable_append}
use Rattle.element_print.proofs.ReadableExprs.{AllParts, InScope, closing, bracketed, readables, joined_readable, width_small, width_readable, value_readable}
use Rattle.element_print.proofs.ReadableTrees.{body_readable}
use Rattle.element_print.proofs.GoodMiddleboxes.{good_objects_of, good_body_of}
use Rattle.lemmas.proofs.Tests.{and_first, and_second}
use Rattle.std.proofs.lemmas.Bool.{leb-true}

pub all_widths : (ws : List ℕ) → are_widths ws ≡ true → list_all is_width ws ≡ true
all_widths ws h = and_second _ _ (and_first _ _ h)

width_parts : (ws : List ℕ) → list_all is_width ws ≡ true → AllParts (map (λ w. number w ∷ []) ws)
width_parts [] h = tt
width_parts (w ∷ ws) h = ((width_readable w (and_first (is_width w) (list_all is_width ws) h), tt), width_parts ws (and_second (is_width w) (list_all is_width ws) h))

widths_readable : (ws : List ℕ) → are_widths ws ≡ true → AllReadable (widths_tokens ws)
unfolding widths_tokens
widths_readable ws h =
    let parts : List (List Token) = map (λ w. number w ∷ []) ws in
    bracketed (joined marks.Comma parts) (joined_readable marks.Comma parts (width_parts ws (all_widths ws h)))

literal_parts : (ws ns : List ℕ) → list_all is_width ws ≡ true → have_widths ws ns ≡ true → AllParts (map literal_tokens (literals ws ns))
literal_parts ws [] h k = tt
literal_parts [] (n ∷ ns) h k = cc
literal_parts (w ∷ ws) (n ∷ ns) h k =
    let wide : is_width w ≡ true = and_first (is_width w) (list_all is_width ws) h in
    let others = literal_parts ws ns (and_second (is_width w) (list_all is_width ws) h) (and_second (nat_lt n (2 ^ w)) (have_widths ws ns) k) in (
      (
        value_readable n w (width_small w wide) (and_first (nat_lt n (2 ^ w)) (have_widths ws ns) k),
        (fixed_readable marks.Colon, (width_readable w wide, tt)),
      ),
      others,
    )

literals_readable : (ws ns : List ℕ) → list_all is_width ws ≡ true → have_widths ws ns ≡ true → AllReadable (literals_tokens (literals ws ns))
unfolding literals_tokens
literals_readable ws ns h k =
    let parts : List (List Token) = map literal_tokens (literals ws ns) in
    bracketed (joined marks.Comma parts) (joined_readable marks.Comma parts (literal_parts ws ns h k))

rows_readable : (keys values : List ℕ) (seen : List (List ℕ)) (rows : List Row) → list_all is_width keys ≡ true → list_all is_width values ≡ true
    → are_good_rows keys values seen rows ≡ true → AllReadable (rows_tokens (map (named_row keys values) rows))
rows_readable keys values seen [] k v h = tt
rows_readable keys values seen (row ∷ rows) k v h =
    let others : List Token = rows_tokens (map (named_row keys values) rows) in
    let value : List Token = literals_tokens (literals values row.values) in
    let value_there = literals_readable values row.values v (and_second _ _ (and_first _ _ (and_first _ _ h))) in
    let ends : AllReadable (fixed marks.Semicolon ∷ others) =
    (fixed_readable marks.Semicolon, rows_readable keys values (row.keys ∷ seen) rows k v (and_second _ _ h)) in
    readable_append (literals_tokens (literals keys row.keys)) (fixed marks.Arrow ∷ (value ++ fixed marks.Semicolon ∷ others))
    (literals_readable keys row.keys k (and_first _ _ (and_first _ _ (and_first _ _ h))))
    (fixed_readable marks.Arrow, readable_append value (fixed marks.Semicolon ∷ others) value_there ends)

size_readable : (n : ℕ) → is_size n ≡ true → Readable (number n)
size_readable n h = let small : n ≤ MAX_ROWS = leb-true n MAX_ROWS (and_second (nat_le 1 n) (nat_le n MAX_ROWS) h) in number_readable n (omega arith)

decl_readable : (kind : Kind) (o : ObjectDecl) → IsName o.name → is_good_object kind o ≡ true → AllReadable (decl_tokens (named_as kind o))
decl_readable Table o name h =
    let keys : are_widths o.keys ≡ true = and_first _ _ (and_first _ _ (and_first _ _ (and_first _ _ h))) in
    let values : are_widths o.values ≡ true = and_second _ _ (and_first _ _ (and_first _ _ (and_first _ _ h))) in
    let all : AllReadable (rows_tokens (map (named_row o.keys o.values) o.rows)) =
    rows_readable o.keys o.values [] o.rows (all_widths o.keys keys) (all_widths o.values values) (and_second _ _ h) in
    search (readables, name_readable o.name name, widths_readable o.keys keys, widths_readable o.values values, all) depth 12
decl_readable Map o name h =
    let keys : are_widths o.keys ≡ true = and_first _ _ (and_first _ _ (and_first _ _ (and_first _ _ h))) in
    let values : are_widths o.values ≡ true = and_second _ _ (and_first _ _ (and_first _ _ (and_first _ _ h))) in
    let size : is_size o.size ≡ true = and_second _ _ (and_first _ _ (and_first _ _ h)) in
    search (readables, name_readable o.name name, widths_readable o.keys keys, widths_readable o.values values, size_readable o.size size) depth 12
decl_readable Vector o name h =
    let values : are_widths o.values ≡ true = and_second _ _ (and_first _ _ (and_first _ _ (and_first _ _ h))) in
    let size : is_size o.size ≡ true = and_second _ _ (and_first _ _ (and_first _ _ h)) in
    search (readables, name_readable o.name name, widths_readable o.values values, size_readable o.size size) depth 12
decl_readable Int o name h =
    let width : is_width (slice_index o.values 0) ≡ true = and_second _ _ (and_first _ _ (and_first _ _ (and_first _ _ h))) in
    let start : nat_lt o.start (2 ^ slice_index o.values 0) ≡ true = and_second _ _ (and_first _ _ h) in
    let first = value_readable o.start (slice_index o.values 0) (width_small (slice_index o.values 0) width) start in
    search (readables, name_readable o.name name, width_readable (slice_index o.values 0) width, first) depth 12

decls_readable : (seen : List (List ℕ)) (os : List ObjectDecl) → All (λ o. IsName o.name) os → are_good_objects seen os ≡ true
    → AllReadable (decls_tokens (map (λ o. record { at = 0; decl = named_decl o }) os))
decls_readable seen [] names h = tt
decls_readable seen (o ∷ os) names h =
    readable_append (decl_tokens (named_decl o)) (decls_tokens (map (λ o. record { at = 0; decl = named_decl o }) os))
    (decl_readable o.kind o (All-head (λ (o : ObjectDecl). IsName o.name) o os names) (and_first _ _ (and_first _ _ h)))
    (decls_readable (o.name ∷ seen) os (All-tail (λ (o : ObjectDecl). IsName o.name) o os names) (and_second _ _ h))

all_declared : (m : Tree) → is_good m ≡ true → declared_by m.body ≡ length m.locals
all_declared m h = is_equal _ _ (and_second _ _ (and_first _ _ h))

-- all of them
pub middlebox_readable : (m : Tree) → HasNames m → is_good m ≡ true → AllReadable (print_tokens (named m))
middlebox_readable m names h =
    let body : List Token = body_tokens (named_body m m.body) in
    let none : InScope m [] = record { within = λ x is. absurd cc } in
    let inside = body_readable m [] 0 m.body names none (good_body_of m h) (omega (arith, all_declared m h)) in
    readable_append (decls_tokens (named m).objects) (fixed marks.Process ∷ in_braces body) (decls_readable [] m.objects names.objects (good_objects_of m h))
    (fixed_readable marks.Process, (fixed_readable marks.LeftBrace, closing body marks.RightBrace inside))
