-- A printed text is a source of its middlebox.
use Rattle.std.proofs.Common.{◌≡◌, ℕ, ◌≤◌, true, List, length, map, IsUtf8, sym, ap, subst, arith}
use Rattle.std.proofs.lemmas.List.{length-map}
use Rattle.state_store.specs.declared.object.ObjectDecl.{ObjectDecl}
use Rattle.element_lang.specs.declared.sizes.TheConstants.{MAX_DEPTH, MAX_OBJECTS}
use Rattle.element_lang.specs.Token.{Token}
use Rattle.element_lang.specs.Tree.{Tree}
use Rattle.element_lang.specs.Surface.{Declared, unplaced_decl, named_decl, named}
use Rattle.element_lang.specs.Grammar.{Spells}
use Rattle.element_lang.specs.Accepted.{HasNames, IsSpelling, IsSource, deepest}
use Rattle.element_lang.specs.Rules.{is_good}
use Rattle.element_print.specs.Printed.{text_of, print_tokens}
use Rattle.element_print.specs.ReadsBack.{HasExactly, IsSpelled, IsWithinSizes}
use Rattle.element_print.proofs.TextTokens.{text_tokens, text_utf8}
use Rattle.element_print.proofs.ReadableDecls.{middlebox_readable}
use Rattle.element_print.proofs.GoodMiddleboxes.{good_middlebox}

source_from : (text : List ℕ) (ts : List Token) (m : Tree) → IsUtf8 text → HasExactly text ts → IsSpelled ts m → deepest 0 ts ≤ MAX_DEPTH → length m.objects ≤ MAX_OBJECTS
    → is_good m ≡ true → IsSpelling text m
source_from text ts m utf8 has spelled depth few good =
    let s = spelled.surface in
    let declared : ObjectDecl → Declared = λ o. record { at = 0; decl = named_decl o } in
    let same : length (map unplaced_decl s.objects) ≡ length (map declared m.objects) = ap (λ u. length u.objects) spelled.named in
    let Deep : List Token → Type 0 = λ ts. deepest 0 ts ≤ MAX_DEPTH in
    let Spelled : List Token → Type 0 = λ ts. Spells ts spelled.surface in
    record {
      utf8 = utf8;
      placed = has.placed;
      tokens = has.tokens;
      depth = subst Deep (sym has.plain) depth;
      surface = spelled.surface;
      spells = subst Spelled (sym has.plain) spelled.spells;
      few_objects = omega (arith, few, same, length-map s.objects unplaced_decl, length-map m.objects declared);
      named = spelled.named;
      good = good;
    }

pub printed_tokens : (m : Tree) (text : List ℕ) → HasNames m → is_good m ≡ true → text ≡ text_of (print_tokens (named m)) → HasExactly text (print_tokens (named m))
printed_tokens m text names good is =
    let P : List ℕ → Type 0 = λ t. HasExactly t (print_tokens (named m)) in
    subst P (sym is) (text_tokens (print_tokens (named m)) (middlebox_readable m names good))

pub printed_source : (m : Tree) (text : List ℕ) → HasNames m → is_good m ≡ true → IsWithinSizes m → text ≡ text_of (print_tokens (named m)) → IsSource text m
printed_source m text names good sizes is =
    let P : List ℕ → Type 0 = λ t. IsSource t m in
    let ts : List Token = print_tokens (named m) in
    let readable = middlebox_readable m names good in
    let spelling = source_from (text_of ts) ts m (text_utf8 ts readable) (text_tokens ts readable) (good_middlebox m good) sizes.depth sizes.objects good in
    subst P (sym is) (record { spelling = spelling; few_entries = sizes.entries; few_writes = sizes.writes })
