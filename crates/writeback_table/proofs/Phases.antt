-- The five groups of the commands of a batch, one after the other, at one object.
use Rattle.std.proofs.Common.{◌≡◌, ◌≢◌, ℕ, ◌+◌, ◌≤◌, Bool, true, false, cond, ◌||◌, nat_eq, nat_lt, List, [], ◌∷◌, map, Option, Some, None, is_some, refl, sym, ap, subst, ◌∙◌, arith}
use Rattle.std.specs.Prelude.{⊤}
use Rattle.std.specs.Cmp.{tied_itself}
use Rattle.std.specs.FinMap.{get, insert, remove, empty, len, contains_key, get-insert, get-remove, get-empty, len-insert, same_map}
use Rattle.std.specs.Ordering.{eq_by_cmp, is_eq}
use Rattle.std.proofs.lemmas.Bool.Decides.{nat_tests}
use Rattle.std.proofs.lemmas.Cmp.{nat_list_cmp_total}
use Rattle.std.proofs.lemmas.Map.Lookups.{exact_bytes}
use Rattle.state_store.specs.Store.{Object, key_cmp, look, is_stored}
use Rattle.state_store.specs.declared.store.Put.{Put}
use Rattle.state_store.specs.declared.store.Put.TheVariants.{Stored}
use Rattle.state_store.specs.Laws.{IsStoredAlone, IsRemovedAlone}
use Rattle.writeback_table.specs.declared.command.To.{To}
use Rattle.writeback_table.specs.declared.command.To.TheVariants.{Value, Gone}
use Rattle.writeback_table.specs.declared.command.Update.{Update}
use Rattle.writeback_table.specs.declared.command.Command.TheVariants.{Stage, Main}
use Rattle.writeback_table.specs.Pair.{Pair, Staged, values_of, change_to, changed, takes_to, takes, can_stage}
use Rattle.writeback_table.specs.Commands.{clear_of}
use Rattle.writeback_table.proofs.Slots.{slot_after, slot_through, slot_room, over}
use Rattle.writeback_table.specs.Batches.{changed_at, changed_by, TakesAll, count_of}
use Rattle.writeback_table.proofs.Follows.{Shown, Follows}
use Rattle.lemmas.proofs.Tests.{eq_equal}

abbrev same_key : List ℕ → List ℕ → Bool
same_key q k = eq_by_cmp key_cmp q k

-- what the store shows of a put and a del
pub record Laws : Type 0 where
  pub put : (object : Object) (key values : List ℕ) → IsStoredAlone object key values
  pub del : (object : Object) (key : List ℕ) → IsRemovedAlone object key

-- ---- what a change does under a key
stored : (p : Put) → is_stored p ≡ true → p ≡ Stored
stored Stored e = refl
stored _ e = cc

differs : (q k : List ℕ) → same_key q k ≡ false → q ≢ k
differs q k e same = let s = ap is_eq (tied_itself nat_list_cmp_total k) in let t = subst (λ x. same_key x k ≡ false) same e in cc

at_key : (l : Laws) → (o : Object) (k : List ℕ) (to : To) → takes_to o k to ≡ true → look (change_to o k to) k ≡ values_of to
at_key l o k (Value v) t = let a = l.put o k v in a.this_key (stored _ t)
at_key l o k Gone t = let a = l.del o k in a.this_key

elsewhere : (l : Laws) → (o : Object) (k q : List ℕ) (to : To) → q ≢ k → look (change_to o k to) q ≡ look o q
elsewhere l o k q (Value v) n = let a = l.put o k v in a.other_keys q n
elsewhere l o k q Gone n = let a = l.del o k in a.other_keys q n

-- a staged change and the same change of a table show the same
shows_key : (l : Laws) → (rows : Staged) (below : Option (List ℕ)) (m : Object) (u : Update) (q : List ℕ) (b : Bool) → same_key q u.key ≡ b → takes m u ≡ true → over (get rows q) below ≡ look m q
    → over (cond b (Some (values_of u.to)) (get rows q)) below ≡ look (changed m u) q
shows_key l rows below m u q true e t h = sym (ap (λ x. look (changed m u) x) (exact_bytes q u.key (eq_equal (key_cmp q u.key) e)) ∙ at_key l m u.key u.to t)
shows_key l rows below m u q false e t h = h ∙ sym (elsewhere l m u.key q u.to (differs q u.key e))

-- ---- all changes staged
abbrev pub staged_at : ℕ → Staged → Update → Staged
staged_at o rows u = cond (nat_eq u.object o) (insert rows u.key (values_of u.to)) rows

abbrev pub staged_by : ℕ → Staged → List Update → Staged
staged_by o rows [] = rows
staged_by o rows (u ∷ us) = staged_by o (staged_at o rows u) us

-- rows over a table show another table
abbrev pub Overlays : Staged → Object → Object → Type 0
Overlays rows old new = (q : List ℕ) → over (get rows q) (look old q) ≡ look new q

shows_step : (l : Laws) → (rows : Staged) (old m : Object) (u : Update) (b : Bool) → cond b (takes m u) true ≡ true → Overlays rows old m → Overlays (cond b (insert rows u.key (values_of u.to)) rows) old (cond b (changed m u) m)
shows_step l rows old m u true t h = λ q. ap (λ x. over x (look old q)) (get-insert nat_list_cmp_total rows u.key (values_of u.to) q) ∙ shows_key l rows (look old q) m u q _ refl t (h q)
shows_step l rows old m u false t h = h

pub staged_shows : (l : Laws) → (o : ℕ) (rows : Staged) (old m : Object) (us : List Update) → TakesAll o m us → Overlays rows old m → Overlays (staged_by o rows us) old (changed_by o m us)
staged_shows l o rows old m [] t h = h
staged_shows l o rows old m (u ∷ us) t h = staged_shows l o (staged_at o rows u) old (changed_at o m u) us t.1 (shows_step l rows old m u (nat_eq u.object o) t.0 h)

-- ---- the first group
record StageStep (o : ℕ) (pair : Pair) (u : Update) (us : List Update) : Type 0 where
  room : slot_room o (record { pair = pair; bit = false }) (Stage u) ≡ true
  after : slot_after o (record { pair = pair; bit = false }) (Stage u) ≡ record { pair = record pair { staged = staged_at o pair.staged u }; bit = false }
  fits : len (staged_at o pair.staged u) + count_of o us ≤ pair.room

can : (known : Bool) (n room more : ℕ) → n + (1 + more) ≤ room → (known || nat_lt n room) ≡ true
can true n room more h = refl
can false n room more h = grind (arith, nat_tests)

one_more : (known : Bool) (n room more : ℕ) → n + (1 + more) ≤ room → cond known n (n + 1) + more ≤ room
one_more true n room more h = omega arith
one_more false n room more h = omega arith

stage_at : (o : ℕ) (pair : Pair) (u : Update) (us : List Update) (b : Bool) → nat_eq u.object o ≡ b → len pair.staged + (cond b 1 0 + count_of o us) ≤ pair.room → StageStep o pair u us
stage_at o pair u us true e h =
    let c : can_stage pair.staged pair.room u.key ≡ true = can (contains_key pair.staged u.key) (len pair.staged) pair.room (count_of o us) h in
    record {
      room = rw e c;
      after = rw (e, c) refl;
      fits = rw (e, len-insert nat_list_cmp_total pair.staged u.key (values_of u.to)) (one_more (contains_key pair.staged u.key) (len pair.staged) pair.room (count_of o us) h);
    }
stage_at o pair u us false e h = record { room = rw e refl; after = rw e refl; fits = rw e (omega (arith, h)) }

pub stage_follows : (o : ℕ) (shown : Shown) (v : ℕ) (pair : Pair) (us : List Update) → len pair.staged + count_of o us ≤ pair.room → ((q : List ℕ) → look pair.main q ≡ shown v q)
    → Follows o shown v (record { pair = pair; bit = false }) (map (λ u. Stage u) us)
stage_follows o shown v pair [] h s = s
stage_follows o shown v pair (u ∷ us) h s =
    let step = stage_at o pair u us (nat_eq u.object o) refl h in
    (s, step.room, subst (λ t. Follows o shown v t (map (λ u. Stage u) us)) (sym step.after) (stage_follows o shown v (record pair { staged = staged_at o pair.staged u }) us step.fits s))

pub stage_through : (o : ℕ) (pair : Pair) (us : List Update) → len pair.staged + count_of o us ≤ pair.room
    → slot_through o (record { pair = pair; bit = false }) (map (λ u. Stage u) us) ≡ record { pair = record pair { staged = staged_by o pair.staged us }; bit = false }
stage_through o pair [] h = refl
stage_through o pair (u ∷ us) h =
    let step = stage_at o pair u us (nat_eq u.object o) refl h in
    ap (λ t. slot_through o t (map (λ u. Stage u) us)) step.after ∙ stage_through o (record pair { staged = staged_at o pair.staged u }) us step.fits

-- ---- the third group
abbrev pub Covers : ℕ → Staged → List Update → Type 0
Covers o rows [] = ⊤
Covers o rows (u ∷ us) = (nat_eq u.object o ≡ true → is_some (get rows u.key) ≡ true) × Covers o rows us

stays_key : (b c : Bool) (row : Option (List ℕ)) (old : Option (Option (List ℕ))) → is_some old ≡ true → is_some (cond c (Some row) old) ≡ true
stays_key b true row old h = refl
stays_key b false row old h = h

stays_one : (rows : Staged) (u : Update) (q : List ℕ) (b : Bool) → is_some (get rows q) ≡ true → is_some (get (cond b (insert rows u.key (values_of u.to)) rows) q) ≡ true
stays_one rows u q true h = ap is_some (get-insert nat_list_cmp_total rows u.key (values_of u.to) q) ∙ stays_key true (same_key q u.key) (values_of u.to) (get rows q) h
stays_one rows u q false h = h

stays : (o : ℕ) (rows : Staged) (us : List Update) (q : List ℕ) → is_some (get rows q) ≡ true → is_some (get (staged_by o rows us) q) ≡ true
stays o rows [] q h = h
stays o rows (u ∷ us) q h = stays o (staged_at o rows u) us q (stays_one rows u q (nat_eq u.object o) h)

here : (rows : Staged) (u : Update) (b : Bool) → b ≡ true → is_some (get (cond b (insert rows u.key (values_of u.to)) rows) u.key) ≡ true
here rows u true e = ap is_some (get-insert nat_list_cmp_total rows u.key (values_of u.to) u.key) ∙ ap (λ b. is_some (cond b (Some (values_of u.to)) (get rows u.key))) (ap is_eq (tied_itself nat_list_cmp_total u.key))
here rows u false e = cc

pub staged_covers : (o : ℕ) (rows : Staged) (us : List Update) → Covers o (staged_by o rows us) us
staged_covers o rows [] = tt
staged_covers o rows (u ∷ us) = (λ e. stays o (staged_at o rows u) us u.key (here rows u (nat_eq u.object o) e), staged_covers o (staged_at o rows u) us)

hidden : (row : Option (Option (List ℕ))) (x y : Option (List ℕ)) → is_some row ≡ true → over row x ≡ over row y
hidden None x y h = cc
hidden (Some r) x y h = refl

shows_on_key : (l : Laws) → (rows : Staged) (m : Object) (u : Update) (q : List ℕ) (b : Bool) → same_key q u.key ≡ b → is_some (get rows u.key) ≡ true → over (get rows q) (look (changed m u) q) ≡ over (get rows q) (look m q)
shows_on_key l rows m u q true e h = hidden (get rows q) _ _ (subst (λ x. is_some (get rows x) ≡ true) (sym (exact_bytes q u.key (eq_equal (key_cmp q u.key) e))) h)
shows_on_key l rows m u q false e h = ap (λ x. over (get rows q) x) (elsewhere l m u.key q u.to (differs q u.key e))

shows_on : (l : Laws) → (rows : Staged) (m : Object) (u : Update) (b : Bool) → (b ≡ true → is_some (get rows u.key) ≡ true) → (q : List ℕ) → over (get rows q) (look (cond b (changed m u) m) q) ≡ over (get rows q) (look m q)
shows_on l rows m u true c q = shows_on_key l rows m u q _ refl (c refl)
shows_on l rows m u false c q = refl

main_after : (o : ℕ) (pair : Pair) (bit : Bool) (u : Update) (b : Bool) → nat_eq u.object o ≡ b → slot_after o (record { pair = pair; bit = bit }) (Main u) ≡ record { pair = record pair { main = changed_at o pair.main u }; bit = bit }
main_after o pair bit u true e = rw e refl
main_after o pair bit u false e = rw e refl

pub main_follows : (l : Laws) → (o : ℕ) (shown : Shown) (v : ℕ) (pair : Pair) (us : List Update) → TakesAll o pair.main us → Covers o pair.staged us → ((q : List ℕ) → over (get pair.staged q) (look pair.main q) ≡ shown v q)
    → Follows o shown v (record { pair = pair; bit = true }) (map (λ u. Main u) us)
main_follows l o shown v pair [] t c s = s
main_follows l o shown v pair (u ∷ us) t c s = (
  s,
  t.0,
  subst (λ x. Follows o shown v x (map (λ u. Main u) us)) (sym (main_after o pair true u (nat_eq u.object o) refl))
      (main_follows l o shown v (record pair { main = changed_at o pair.main u }) us t.1 c.1 (λ q. shows_on l pair.staged pair.main u (nat_eq u.object o) c.0 q ∙ s q)),
)

pub main_through : (o : ℕ) (pair : Pair) (bit : Bool) (us : List Update)
    → slot_through o (record { pair = pair; bit = bit }) (map (λ u. Main u) us) ≡ record { pair = record pair { main = changed_by o pair.main us }; bit = bit }
main_through o pair bit [] = refl
main_through o pair bit (u ∷ us) =
    ap (λ t. slot_through o t (map (λ u. Main u) us)) (main_after o pair bit u (nat_eq u.object o) refl) ∙ main_through o (record pair { main = changed_at o pair.main u }) bit us

-- ---- the fifth group
abbrev cleared_at : ℕ → Staged → Update → Staged
cleared_at o rows u = cond (nat_eq u.object o) (remove rows u.key) rows

abbrev pub cleared_by : ℕ → Staged → List Update → Staged
cleared_by o rows [] = rows
cleared_by o rows (u ∷ us) = cleared_by o (cleared_at o rows u) us

clear_after : (o : ℕ) (pair : Pair) (u : Update) (b : Bool) → nat_eq u.object o ≡ b → slot_after o (record { pair = pair; bit = false }) (clear_of u) ≡ record { pair = record pair { staged = cleared_at o pair.staged u }; bit = false }
clear_after o pair u true e = rw e refl
clear_after o pair u false e = rw e refl

clear_room : (o : ℕ) (pair : Pair) (u : Update) (b : Bool) → nat_eq u.object o ≡ b → slot_room o (record { pair = pair; bit = false }) (clear_of u) ≡ true
clear_room o pair u true e = rw e refl
clear_room o pair u false e = rw e refl

pub clear_follows : (o : ℕ) (shown : Shown) (v : ℕ) (pair : Pair) (us : List Update) → ((q : List ℕ) → look pair.main q ≡ shown v q) → Follows o shown v (record { pair = pair; bit = false }) (map clear_of us)
clear_follows o shown v pair [] s = s
clear_follows o shown v pair (u ∷ us) s =
    (s, clear_room o pair u (nat_eq u.object o) refl, subst (λ t. Follows o shown v t (map clear_of us)) (sym (clear_after o pair u (nat_eq u.object o) refl)) (clear_follows o shown v (record pair { staged = cleared_at o pair.staged u }) us s))

pub clear_through : (o : ℕ) (pair : Pair) (us : List Update) → slot_through o (record { pair = pair; bit = false }) (map clear_of us) ≡ record { pair = record pair { staged = cleared_by o pair.staged us }; bit = false }
clear_through o pair [] = refl
clear_through o pair (u ∷ us) =
    ap (λ t. slot_through o t (map clear_of us)) (clear_after o pair u (nat_eq u.object o) refl) ∙ clear_through o (record pair { staged = cleared_at o pair.staged u }) us

-- the updates of object o that touch a key
abbrev touches : ℕ → List Update → List ℕ → Bool
touches o [] q = false
touches o (u ∷ us) q = cond (nat_eq u.object o) (same_key q u.key || touches o us q) (touches o us q)

cleared_one : (rows : Staged) (u : Update) (q : List ℕ) (b : Bool) → get (cond b (remove rows u.key) rows) q ≡ cond (cond b (same_key q u.key) false) None (get rows q)
cleared_one rows u q true = get-remove nat_list_cmp_total rows u.key q
cleared_one rows u q false = refl

either_none : (b c t : Bool) (x : Option (Option (List ℕ))) → cond t None (cond (cond b c false) None x) ≡ cond (cond b (c || t) t) None x
either_none true true true x = refl
either_none true true false x = refl
either_none true false true x = refl
either_none true false false x = refl
either_none false c t x = refl

cleared_get : (o : ℕ) (rows : Staged) (us : List Update) (q : List ℕ) → get (cleared_by o rows us) q ≡ cond (touches o us q) None (get rows q)
cleared_get o rows [] q = refl
cleared_get o rows (u ∷ us) q =
    cleared_get o (cleared_at o rows u) us q ∙ ap (λ x. cond (touches o us q) None x) (cleared_one rows u q (nat_eq u.object o)) ∙ either_none (nat_eq u.object o) (same_key q u.key) (touches o us q) (get rows q)

untouched_one : (rows : Staged) (u : Update) (q : List ℕ) (b t : Bool) → cond b (same_key q u.key || t) t ≡ false → get (cond b (insert rows u.key (values_of u.to)) rows) q ≡ get rows q
untouched_one rows u q true t e = get-insert nat_list_cmp_total rows u.key (values_of u.to) q ∙ ap (λ b. cond b (Some (values_of u.to)) (get rows q)) (first (same_key q u.key) t e)
  where
    first : (a b : Bool) → (a || b) ≡ false → a ≡ false
    first true b e = e
    first false b e = refl
untouched_one rows u q false t e = refl

untouched_rest : (b c t : Bool) → cond b (c || t) t ≡ false → t ≡ false
untouched_rest true true t e = cc
untouched_rest true false t e = e
untouched_rest false c t e = e

untouched : (o : ℕ) (rows : Staged) (us : List Update) (q : List ℕ) → touches o us q ≡ false → get (staged_by o rows us) q ≡ get rows q
untouched o rows [] q e = refl
untouched o rows (u ∷ us) q e =
    untouched o (staged_at o rows u) us q (untouched_rest (nat_eq u.object o) (same_key q u.key) _ e) ∙ untouched_one rows u q (nat_eq u.object o) (touches o us q) e

none_left : (o : ℕ) (us : List Update) (q : List ℕ) (t : Bool) → touches o us q ≡ t → cond t None (get (staged_by o empty us) q) ≡ None
none_left o us q true e = refl
none_left o us q false e = untouched o empty us q e ∙ get-empty key_cmp q

pub all_cleared : (o : ℕ) (us : List Update) → cleared_by o (staged_by o empty us) us ≡ empty
all_cleared o us = same_map nat_list_cmp_total exact_bytes _ _ (λ q. cleared_get o (staged_by o empty us) us q ∙ none_left o us q _ refl ∙ sym (get-empty key_cmp q))
