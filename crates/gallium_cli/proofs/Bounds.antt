-- What the sizes of a source bound in its flat program.
use Rattle.std.proofs.Common.{◌≡◌, ◌≤◌, ◌<◌, ◌^◌, ◌==◌, ℕ, true, nat_le, List, [], ◌∷◌, length, map, slice_index, refl, sym, ap, subst, arith}
use Rattle.std.specs.Prelude.{All}
use Rattle.std.specs.List.{list_all}
use Rattle.std.proofs.lemmas.Bool.{leb-true, eqb-true, true≢false, and_from}
use Rattle.std.proofs.lemmas.List.{length-map}
use Rattle.std.proofs.lemmas.List.Elements.{All-nil, All-cons}
use Rattle.state_store.specs.declared.object.Kind.{Kind}
use Rattle.state_store.specs.declared.object.Kind.TheVariants.{Table, Map, Vector, Int}
use Rattle.state_store.specs.declared.object.ObjectDecl.{ObjectDecl}
use Rattle.element_lang.specs.Tree.{Tree}
use Rattle.element_lang.specs.Surface.{Declared, unplaced_decl, named_decl}
use Rattle.element_lang.specs.Accepted.{IsSource}
use Rattle.element_lang.specs.Sizes.{entries_of, entries_in}
use Rattle.element_lang.specs.Rules as rules
use Rattle.element_lang.specs.Rules.{are_widths, same_widths, is_width, is_good_object, are_good_objects, is_good_body, declared_by}
use Rattle.flat_ir.specs.Program.{Program}
use Rattle.flat_ir.specs.WellFormed.{IsWellFormed}
use Rattle.flatten.specs.Flatten.{flat_of}
use Rattle.gal_bits.specs.Fitting.{sum_of}
use Rattle.split_model.specs.Bounds.{IsSmall, IsBounded}
use Rattle.element_print.proofs.ReadableDecls.{all_widths}
use Rattle.lemmas.proofs.Tests.{and_first, and_second}

small_widths : (ws : List ℕ) → are_widths ws ≡ true → sum_of ws ≤ 128
small_widths ws h =
    leb-true (sum_of ws) 128 (and_second _ (nat_le (sum_of ws) 128) h)

no_widths : (ws : List ℕ) → (length ws == 0) ≡ true → sum_of ws ≤ 128
no_widths [] h = omega arith
no_widths (w ∷ ws) h = let none = eqb-true (length (w ∷ ws)) 0 h in absurd (omega arith)

same_one : (ws : List ℕ) (w : ℕ) → same_widths ws (w ∷ []) ≡ true → ws ≡ w ∷ []
same_one [] w same = absurd (true≢false (sym same))
same_one (x ∷ []) w same = ap (λ (n : ℕ). n ∷ []) (eqb-true x w (and_first (x == w) (same_widths [] []) same))
same_one (x ∷ y ∷ ys) w same = absurd (true≢false (sym (and_second (x == w) (same_widths (y ∷ ys) []) same)))

one_width : (ws : List ℕ) (w : ℕ) → same_widths ws (w ∷ []) ≡ true → w ≤ 64 → sum_of ws ≤ 128
one_width ws w same low = subst (λ (k : List ℕ). sum_of k ≤ 128) (sym (same_one ws w same)) (omega arith)

pub fitting_width : (ws : List ℕ) (w : ℕ) → same_widths ws (w ∷ []) ≡ true → is_width w ≡ true → list_all is_width ws ≡ true
fitting_width ws w same wide =
    subst (λ (k : List ℕ). list_all is_width k ≡ true) (sym (same_one ws w same)) (and_from (is_width w) true wide refl)

small : (o : ObjectDecl) → o.size ≤ 1048576 → sum_of o.keys ≤ 128 → are_widths o.values ≡ true → IsSmall o
small o size keys wide =
    record { size = size; keys = keys; values = small_widths o.values wide; widths = all_widths o.values wide }

-- an object that keeps the rules, with room for so many rows, is small
small_object : (kind : Kind) (o : ObjectDecl) → is_good_object kind o ≡ true → entries_of kind o ≤ 1048576 → IsSmall o
small_object Table o h few =
    let widths = and_first _ _ (and_first _ _ (and_first _ _ h)) in
    let rows = eqb-true o.size (length o.rows) (and_second _ (o.size == length o.rows) (and_first _ _ (and_first _ _ h))) in
    small o (omega arith) (small_widths o.keys (and_first (are_widths o.keys) _ widths)) (and_second _ (are_widths o.values) widths)
small_object Map o h few =
    let widths = and_first _ _ (and_first _ _ (and_first _ _ h)) in
    small o few (small_widths o.keys (and_first (are_widths o.keys) _ widths)) (and_second _ (are_widths o.values) widths)
small_object Vector o h few =
    let widths = and_first _ _ (and_first _ _ (and_first _ _ h)) in
    small o few (one_width o.keys 32 (and_first (same_widths o.keys (32 ∷ [])) _ widths) (omega arith)) (and_second _ (are_widths o.values) widths)
small_object Int o h few =
    let first = slice_index o.values 0 in
    let sized = and_first _ _ (and_first _ _ h) in
    let one = eqb-true o.size 1 (and_second _ (o.size == 1) sized) in
    let wide = and_first _ _ sized in
    let widths = and_first _ _ wide in
    let same = and_second _ (same_widths o.values (first ∷ [])) widths in
    let fits = and_second _ (is_width first) wide in
    record {
      size = omega arith;
      keys = no_widths o.keys (and_first (length o.keys == 0) _ widths);
      values = one_width o.values first same (leb-true first 64 (and_second (nat_le 1 first) (nat_le first 64) fits));
      widths = fitting_width o.values first same fits;
    }

small_objects : (names : List (List ℕ)) (os : List ObjectDecl) → are_good_objects names os ≡ true
    → entries_in os ≤ 1048576 → All IsSmall os
small_objects names [] h few = All-nil IsSmall
small_objects names (o ∷ os) h few =
    All-cons IsSmall o os
    (small_object o.kind o (and_first (is_good_object o.kind o) _ (and_first _ _ h)) (omega arith))
    (small_objects (o.name ∷ names) os (and_second _ (are_good_objects (o.name ∷ names) os) h) (omega arith))

-- how many objects a source declares
declared_objects : (text : List ℕ) (m : Tree) → IsSource text m → length m.objects ≤ 64
declared_objects text m is =
    let s = is.spelling in
    let declared : ObjectDecl → Declared = λ o. record { at = 0; decl = named_decl o } in
    let same : length (map unplaced_decl s.surface.objects) ≡ length (map declared m.objects) =
    ap (λ u. length u.objects) s.named in
    omega (arith, s.few_objects, same, length-map s.surface.objects unplaced_decl, length-map m.objects declared)

-- a source declares far fewer objects than there are numbers
pub few_objects : (text : List ℕ) (m : Tree) → IsSource text m → length m.objects < 2 ^ 32
few_objects text m is = let few = declared_objects text m is in omega arith

good_objects : (m : Tree) → rules.is_good m ≡ true → are_good_objects [] m.objects ≡ true
good_objects m h =
    and_first (are_good_objects [] m.objects) (declared_by m.body == length m.locals)
    (and_first _ (is_good_body m [] 0 m.body) h)

-- the flat program of a source is within bounds
pub bounded_program : (text : List ℕ) (m : Tree) (f : Program) → IsSource text m → f ≡ flat_of m → IsWellFormed f
    → length f.code ≤ 4096 → IsBounded (flat_of m)
bounded_program text m f is same formed few = record {
  formed = subst IsWellFormed same formed;
  few = subst (λ (g : Program). length g.code ≤ 4096) same few;
  objects = declared_objects text m is;
  small = small_objects [] m.objects (good_objects m is.spelling.good) is.few_entries;
}
