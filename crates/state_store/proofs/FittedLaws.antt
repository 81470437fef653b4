-- What the calls of a table say of the rows that are packed in it.
use Rattle.std.proofs.Common.{◌≡◌, ℕ, ◌*◌, Bool, true, false, cond, not, ◌&&◌, nat_le, List, Option, Some, None, is_some, option_map, refl, sym, ap, ap₂, subst, ◌∙◌}
use Rattle.std.specs.FinMap.{get, empty, insert, remove, contains_key}
use Rattle.slot_table.specs.Table.{Contents, Table, is_table_full}
use Rattle.slot_table.specs.declared.table.Slot.{Slot}
use Rattle.slot_table.specs.declared.table.Slot.TheVariants as slot
use Rattle.state_store.specs.Fitted.{IsRoomy, ArePacked, HoldsPacked, contents_of, packing_of, Fitted, is_full_at, fits_row, keep_answer, kept_by, kept_row}
use Rattle.state_store.specs.Kept.{have_widths}
use Rattle.state_store.specs.Packing.{Packing, have_room, packed, parts, words, number, packed_list, unpacked_list}
use Rattle.state_store.specs.Sizes.{key_words, value_words}
use Rattle.state_store.specs.declared.any_table.AnyTable.{AnyTable}
use Rattle.state_store.specs.declared.packed_rows.Kept.{Kept}
use Rattle.state_store.specs.declared.packed_rows.Kept.TheVariants.{Stored, Full, Misfit}
use Rattle.state_store.proofs.Entries.{map_empty, map_absent, no_entries}
use Rattle.state_store.proofs.RowLaws.{get_of, get_misfit, len_of, insert_packed, insert_of, remove_packed, remove_of}
use Rattle.std.proofs.lemmas.Bool.{and_from}

-- numbers that were packed have the widths
pub some_packed : (fit : Bool) (x y : ℕ) → Some y ≡ cond fit (Some x) None → (fit ≡ true) × (y ≡ x)
some_packed true x y e = (refl, cc)
some_packed false x y e = absurd (cc)

pub none_packed : (fit : Bool) (x : ℕ) → None ≡ cond fit (Some x) None → fit ≡ false
none_packed true x e = absurd (cc)
none_packed false x e = refl

pub as_words : (count bits : ℕ) (ws ns : List ℕ) (y : ℕ) → bits ≡ 64 * count → y ≡ packed bits ws ns → words count y ≡ packed_list count ws ns
unfolding packed_list
as_words count bits ws ns y wide e = ap (words count) (e ∙ ap (λ b. packed b ws ns) wide)

abbrev packing : List ℕ → List ℕ → ℕ → ℕ → Packing
packing keys values key_words value_words = record { keys = keys; values = values; key_words = key_words; value_words = value_words }

abbrev pub fitted_of : ℕ → Packing → Contents → Fitted
fitted_of capacity p rows = record { keys = p.keys; values = p.values; capacity = capacity; contents = contents_of p rows }

-- ---- a look
found_parts : (values : List ℕ) (count bits x : ℕ) (r : List ℕ) (o : Option (List ℕ)) → bits ≡ 64 * count → Some x ≡ option_map number o → r ≡ parts bits values x → Some r ≡ option_map (unpacked_list count values) o
unfolding unpacked_list
found_parts values count bits x r None wide e is = absurd (cc)
found_parts values count bits x r (Some w) wide e is = ap (λ l. Some l) (is ∙ ap (λ b. parts b values x) wide ∙ ap (parts (64 * count) values) (let same : x ≡ number w = cc in same))

pub look_some : (p : Packing) (rows : Contents) (key r : List ℕ) (bits x : ℕ) → HoldsPacked p rows → have_widths p.keys key ≡ true → bits ≡ 64 * p.value_words
    → Some x ≡ option_map number (get rows (packed_list p.key_words p.keys key)) → r ≡ parts bits p.values x → Some r ≡ get (contents_of p rows) key
look_some p rows key r bits x held fit wide look is =
    found_parts p.values p.value_words bits x r (get rows (packed_list p.key_words p.keys key)) wide look is ∙ sym (get_of p held.roomy rows key held.packed fit)

nothing : (o : Option (List ℕ)) → None ≡ option_map number o → o ≡ None
nothing None e = refl
nothing (Some w) e = absurd (cc)

pub look_none : (p : Packing) (rows : Contents) (key : List ℕ) → HoldsPacked p rows → have_widths p.keys key ≡ true
    → None ≡ option_map number (get rows (packed_list p.key_words p.keys key)) → None ≡ get (contents_of p rows) key
look_none p rows key held fit look =
    sym (get_of p held.roomy rows key held.packed fit ∙ ap (option_map (unpacked_list p.value_words p.values)) (nothing _ look))

pub look_misfit : (p : Packing) (rows : Contents) (key : List ℕ) → HoldsPacked p rows → have_widths p.keys key ≡ false → None ≡ get (contents_of p rows) key
look_misfit p rows key held fit = sym (get_misfit p held.roomy rows key held.packed fit)

mapped_some : (f : List ℕ → List ℕ) (o : Option (List ℕ)) → is_some (option_map f o) ≡ is_some o
mapped_some f None = refl
mapped_some f (Some x) = refl

-- a key is there where its words are
pub there_same : (p : Packing) (rows : Contents) (key : List ℕ) → HoldsPacked p rows → have_widths p.keys key ≡ true → contains_key (contents_of p rows) key ≡ contains_key rows (packed_list p.key_words p.keys key)
there_same p rows key held fit = ap is_some (get_of p held.roomy rows key held.packed fit) ∙ mapped_some _ _

-- ---- a del
pub del_misfit : (p : Packing) (capacity : ℕ) (rows : Contents) (key : List ℕ) → HoldsPacked p rows → have_widths p.keys key ≡ false
    → fitted_of capacity p rows ≡ record (fitted_of capacity p rows) { contents = remove (contents_of p rows) key }
del_misfit p capacity rows key held fit =
    ap (λ (m : Contents). record (fitted_of capacity p rows) { contents = m }) (sym (map_absent (contents_of p rows) key (sym (look_misfit p rows key held fit))))

pub del_holds : (p p' : Packing) (rows rows' : Contents) (key words : List ℕ) → HoldsPacked p rows → p' ≡ p → rows' ≡ remove rows words → HoldsPacked p' rows'
del_holds p p' rows rows' key words held same e =
    subst (λ q. HoldsPacked q rows') (sym same) (subst (HoldsPacked p) (sym e) (record { roomy = held.roomy; packed = remove_packed p held.roomy rows words held.packed }))

pub del_after : (p p' : Packing) (capacity capacity' : ℕ) (rows rows' : Contents) (key : List ℕ) → HoldsPacked p rows → have_widths p.keys key ≡ true → p' ≡ p → capacity' ≡ capacity → rows' ≡ remove rows (packed_list p.key_words p.keys key)
    → fitted_of capacity' p' rows' ≡ record (fitted_of capacity p rows) { contents = remove (contents_of p rows) key }
del_after p p' capacity capacity' rows rows' key held fit same room e =
    ap (λ n. fitted_of n p' rows') room ∙ ap (λ q. fitted_of capacity q rows') same ∙ ap (λ m. fitted_of capacity p m) e
    ∙ ap (λ (m : Contents). record (fitted_of capacity p rows) { contents = m }) (remove_of p held.roomy rows key held.packed fit)

-- ---- a put
pub full_same : (p : Packing) (table : Table) (key : List ℕ) → HoldsPacked p table.rows → have_widths p.keys key ≡ true
    → is_full_at table.capacity (contents_of p table.rows) key ≡ is_table_full table (packed_list p.key_words p.keys key)
full_same p table key held fit =
    ap₂ (λ b n. not b && nat_le table.capacity n) (there_same p table.rows key held fit) (len_of p held.roomy table.rows held.packed)

pub put_misfit_answer : (f : Fitted) (key values : List ℕ) → fits_row f key values ≡ false → Misfit ≡ keep_answer f key values
put_misfit_answer f key values misfit = rw misfit refl

pub put_misfit_after : (f : Fitted) (key values : List ℕ) → fits_row f key values ≡ false → f ≡ kept_row f key values
put_misfit_after f key values misfit = rw misfit refl

answered : (full : Bool) → kept_by (cond full slot.Full slot.Stored) ≡ cond full Full Stored
answered true = refl
answered false = refl

pub put_answer : (p : Packing) (table : Table) (key values : List ℕ) (s : Slot) (r : Kept) → HoldsPacked p table.rows → have_widths p.keys key ≡ true → have_widths p.values values ≡ true
    → s ≡ cond (is_table_full table (packed_list p.key_words p.keys key)) slot.Full slot.Stored → r ≡ kept_by s → r ≡ keep_answer (fitted_of table.capacity p table.rows) key values
put_answer p table key values s r held fit fit' e is =
    let full = full_same p table key held fit in
    is ∙ ap kept_by e ∙ answered (is_table_full table (packed_list p.key_words p.keys key)) ∙ ap (λ b. cond b Full Stored) (sym full)
    ∙ ap (λ b. cond b (cond (is_full_at table.capacity (contents_of p table.rows) key) Full Stored) Misfit) (sym (and_from _ _ fit fit'))

either_holds : (p : Packing) (full : Bool) (rows : Contents) (key values : List ℕ) → HoldsPacked p rows → have_widths p.keys key ≡ true → have_widths p.values values ≡ true
    → HoldsPacked p (cond full rows (insert rows (packed_list p.key_words p.keys key) (packed_list p.value_words p.values values)))
either_holds p true rows key values held fit fit' = held
either_holds p false rows key values held fit fit' = record { roomy = held.roomy; packed = insert_packed p held.roomy rows key values held.packed fit fit' }

pub put_holds : (p p' : Packing) (full : Bool) (rows rows' : Contents) (key values : List ℕ) → HoldsPacked p rows → have_widths p.keys key ≡ true → have_widths p.values values ≡ true → p' ≡ p
    → rows' ≡ cond full rows (insert rows (packed_list p.key_words p.keys key) (packed_list p.value_words p.values values)) → HoldsPacked p' rows'
put_holds p p' full rows rows' key values held fit fit' same e =
    subst (λ q. HoldsPacked q rows') (sym same) (subst (HoldsPacked p) (sym e) (either_holds p full rows key values held fit fit'))

either_after : (p : Packing) (full : Bool) (capacity : ℕ) (rows : Contents) (key values : List ℕ) → HoldsPacked p rows → have_widths p.keys key ≡ true → have_widths p.values values ≡ true
    → fitted_of capacity p (cond full rows (insert rows (packed_list p.key_words p.keys key) (packed_list p.value_words p.values values)))
    ≡ cond full (fitted_of capacity p rows) (record (fitted_of capacity p rows) { contents = insert (contents_of p rows) key values })
either_after p true capacity rows key values held fit fit' = refl
either_after p false capacity rows key values held fit fit' =
    ap (λ (m : Contents). record (fitted_of capacity p rows) { contents = m }) (insert_of p held.roomy rows key values held.packed fit fit')

pub put_after : (p p' : Packing) (table : Table) (capacity' : ℕ) (rows' : Contents) (key values : List ℕ) → HoldsPacked p table.rows → have_widths p.keys key ≡ true → have_widths p.values values ≡ true → p' ≡ p
    → capacity' ≡ table.capacity
    → rows' ≡ cond (is_table_full table (packed_list p.key_words p.keys key)) table.rows (insert table.rows (packed_list p.key_words p.keys key) (packed_list p.value_words p.values values))
    → fitted_of capacity' p' rows' ≡ kept_row (fitted_of table.capacity p table.rows) key values
put_after p p' table capacity' rows' key values held fit fit' same room e =
    let f = fitted_of table.capacity p table.rows in
    let more = record f { contents = insert (contents_of p table.rows) key values } in
    ap (λ n. fitted_of n p' rows') room ∙ ap (λ q. fitted_of table.capacity q rows') same ∙ ap (λ m. fitted_of table.capacity p m) e
    ∙ either_after p (is_table_full table (packed_list p.key_words p.keys key)) table.capacity table.rows key values held fit fit'
    ∙ ap (λ b. cond b f more) (sym (full_same p table key held fit))
    ∙ ap (λ b. cond b (cond (is_full_at table.capacity (contents_of p table.rows) key) f more) f) (sym (and_from _ _ fit fit'))

-- ---- no rows
pub none_hold : (p : Packing) (rows : Contents) → rows ≡ empty → IsRoomy p → HoldsPacked p rows
none_hold p rows e roomy = subst (HoldsPacked p) (sym e) (record { roomy = roomy; packed = subst (ArePacked p) (sym no_entries) tt })

pub none_contents : (p : Packing) (rows : Contents) → rows ≡ empty → contents_of p rows ≡ empty
none_contents p rows e = ap (contents_of p) e ∙ map_empty _ (ap (λ es. Rattle.std.specs.FinMap.from_sorted (Rattle.std.proofs.Common.map (Rattle.state_store.specs.Fitted.unpacked_row p) es)) no_entries)

-- a table with as many words as another
pub same_packing : (keys values : List ℕ) (t t' : AnyTable) → key_words t' ≡ key_words t → value_words t' ≡ value_words t → packing_of keys values t' ≡ packing_of keys values t
same_packing keys values t t' e f = ap₂ (λ k v. packing keys values k v) e f

pub new_roomy : (keys values ks vs : List ℕ) (t : AnyTable) (k v : ℕ) → ks ≡ keys → vs ≡ values → have_room (64 * k) ks ≡ true → have_room (64 * v) vs ≡ true → key_words t ≡ k → value_words t ≡ v → IsRoomy (packing_of keys values t)
new_roomy keys values ks vs t k v e f room room' words words' = record {
  keys = ap₂ (λ n l. have_room (64 * n) l) words (sym e) ∙ room;
  values = ap₂ (λ n l. have_room (64 * n) l) words' (sym f) ∙ room';
}
