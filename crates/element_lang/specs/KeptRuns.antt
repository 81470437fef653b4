-- Lemmas for the crates above: a run of a middlebox that keeps the rules keeps the widths of its variables and leaves a
-- store that keeps what was declared.
use Rattle.std.proofs.Common.{◌≡◌, ◌≤◌, ◌<◌, ◌+◌, ◌%◌, ◌^◌, ◌==◌, ℕ, zero, suc, Bool, true, false, cond, not, ◌&&◌}
use Rattle.std.proofs.Common.{List, [], ◌∷◌, ◌++◌, length, nat_le, map, replicate, Option, Some, None, is_some}
use Rattle.std.proofs.Common.{unwrap_or, slice_get, slice_index, slice_set, refl, sym, subst, arith, lit<}
use Rattle.std.proofs.Common.{true≢false}
use Rattle.std.proofs.lemmas.Bool.{cond_both, eqb-true, leb-true, ltb-true}
use Rattle.gal_bits.specs.Operators.{bit}
use Rattle.gal_bits.specs.Fits.{cut_fits, operator_fits, same_list}
use Rattle.packet_fields.specs.declared.field.Field.{Field}
use Rattle.packet_fields.specs.declared.packet.Packet.{Packet}
use Rattle.packet_fields.specs.Arrivals.{IsArrival}
use Rattle.packet_fields.specs.FieldOrder.{field_width_at}
use Rattle.packet_fields.specs.Fields.{field_value}
use Rattle.packet_fields.specs.Fitting.{field_fits}
use Rattle.packet_fields.specs.Table.{row, all_fields, field_widths, field_index}
use Rattle.state_store.specs.declared.object.ObjectDecl.{ObjectDecl}
use Rattle.state_store.specs.Keeping.{put_is_kept, del_is_kept}
use Rattle.state_store.specs.Kept.{have_widths, IsKeptObject, IsKept}
use Rattle.state_store.specs.Kinds.{is_table}
use Rattle.state_store.specs.Store.{Object, Store, object_at, looked_up}
use Rattle.state_store.specs.Store as store
use Rattle.state_store.specs.Widths.{AtWidths, at_widths, one_width, zero_at, set_fits}
use Rattle.element_lang.specs.Tree.{ExprTree, Exprs, StmtTree, BodyTree, Tree}
use Rattle.element_lang.specs.Tree.ExprTree.{lit, local, field, byte, shift, apply}
use Rattle.element_lang.specs.Tree.Exprs.{no_expr, expr}
use Rattle.element_lang.specs.Tree.StmtTree.{let_local, assign, set_field, look, put, del, choose, repeat, send, drop}
use Rattle.element_lang.specs.Tree.BodyTree.{done, stmt}
use Rattle.element_lang.specs.Widths.{local_widths, width_of}
use Rattle.element_lang.specs.Rules.{widths_of, same_widths, is_good_expr, are_good_exprs, is_good_stmt}
use Rattle.element_lang.specs.Rules.{is_good_body, is_good, fits_keys, fits_values, can_put, can_del, is_count}
use Rattle.element_lang.specs.Rules.{declared_in, declared_by, binds}
use Rattle.element_lang.specs.Meaning.{State, Outcome, Running, Ended, then_do, bind_from, value_of, values_of}
use Rattle.element_lang.specs.Meaning.{looked, stored, bound, deleted, turns, do_stmt, do_body, start_state}
use Rattle.element_lang.specs.Meaning.{store_after, source_store}
use Rattle.lemmas.proofs.Tests.{and_first, and_second}

-- the variables of a run fit what was declared of them
pub record Fits (m : Tree) (s : State) : Type 0 where
  pub locals : AtWidths (local_widths m) s.locals
  pub fields : AtWidths field_widths s.fields
  pub store : IsKept m.objects s.store

abbrev pub FitsOutcome : Tree → Outcome → Type 0
FitsOutcome m (Running s) = Fits m s
FitsOutcome m (Ended st verdict) = IsKept m.objects st

then_fits : (m : Tree) (o : Outcome) (go : State → Outcome) → FitsOutcome m o
    → ((s : State) → Fits m s → FitsOutcome m (go s)) → FitsOutcome m (then_do o go)
then_fits m (Running s) go fits goes = goes s fits
then_fits m (Ended st verdict) go fits goes = fits

store_fits : (m : Tree) (o : Outcome) → FitsOutcome m o → IsKept m.objects (store_after o)
store_fits m (Running s) fits = fits.store
store_fits m (Ended st verdict) fits = fits

-- ---- fields
all_at : (g w : Field → ℕ) → ((f : Field) → g f < 2 ^ w f) → (fs : List Field) → AtWidths (map w fs) (map g fs)
all_at g w fits [] place = lit< tt
all_at g w fits (f ∷ fs) zero = fits f
all_at g w fits (f ∷ fs) (suc place) = all_at g w fits fs place

pub fields_fit : (packet : Packet) → IsArrival packet
    → AtWidths field_widths (map (field_value packet.bytes packet.port) all_fields)
fields_fit packet arrives =
    all_at (field_value packet.bytes packet.port) (λ f. (row f).width) (λ f. field_fits packet f arrives) all_fields

field_assigned : (f : Field) (value : ℕ) (values : List ℕ) → AtWidths field_widths values
    → AtWidths field_widths (slice_set values (field_index f) (value % 2 ^ (row f).width))
field_assigned f value values fit =
    set_fits field_widths values (field_index f) (value % 2 ^ (row f).width) fit
    (subst (λ w. value % 2 ^ (row f).width < 2 ^ w) (sym (field_width_at f)) (cut_fits value (row f).width))

-- ---- expressions
pub value_fits : (m : Tree) (packet : Packet) (scope : List ℕ) (s : State) → IsArrival packet → Fits m s
    → (e : ExprTree) → is_good_expr (local_widths m) scope e ≡ true
    → value_of (local_widths m) packet e s < 2 ^ width_of (local_widths m) e
value_fits m packet scope s arrives fits (lit value width) good = ltb-true value (2 ^ width) (and_second _ _ good)
value_fits m packet scope s arrives fits (local x) good = fits.locals x
value_fits m packet scope s arrives fits (field f) good =
    subst (λ w. slice_index s.fields (field_index f) < 2 ^ w) (field_width_at f) (fits.fields (field_index f))
value_fits m packet scope s arrives fits (byte index) good =
    arrives.bytes (value_of (local_widths m) packet index s)
value_fits m packet scope s arrives fits (shift op by arg) good =
    operator_fits op (width_of (local_widths m) arg) (value_of (local_widths m) packet arg s ∷ by ∷ [])
value_fits m packet scope s arrives fits (apply op width args) good =
    operator_fits op width (values_of (local_widths m) packet args s)

pub values_fit : (m : Tree) (packet : Packet) (scope : List ℕ) (s : State) → IsArrival packet → Fits m s
    → (es : Exprs) → are_good_exprs (local_widths m) scope es ≡ true
    → have_widths (widths_of (local_widths m) es) (values_of (local_widths m) packet es s) ≡ true
values_fit m packet scope s arrives fits no_expr good = refl
values_fit m packet scope s arrives fits (expr e es) good =
    one_width (width_of (local_widths m) e) (value_of (local_widths m) packet e s) (widths_of (local_widths m) es)
    (values_of (local_widths m) packet es s)
    (value_fits m packet scope s arrives fits e (and_first (is_good_expr (local_widths m) scope e) _ good))
    (values_fit m packet scope s arrives fits es (and_second _ (are_good_exprs (local_widths m) scope es) good))

-- values of widths that are those of a declaration
as_declared : (widths declared values : List ℕ) → same_widths widths declared ≡ true
    → have_widths widths values ≡ true → have_widths declared values ≡ true
as_declared widths declared values same fit =
    subst (λ ws. have_widths ws values ≡ true) (same_list widths declared same) fit

-- ---- locals
one_bit : (b : Bool) → bit b < 2 ^ 1
one_bit true = lit< tt
one_bit false = lit< tt

bit_set : (widths locals : List ℕ) (x : ℕ) (b : Bool) → AtWidths widths locals
    → (slice_index widths x == 1) ≡ true → AtWidths widths (slice_set locals x (bit b))
bit_set widths locals x b fit one =
    set_fits widths locals x (bit b) fit
    (subst (λ w. bit b < 2 ^ w) (sym (eqb-true (slice_index widths x) 1 one)) (one_bit b))

bound_from : (widths : List ℕ) (i : ℕ) (into values locals : List ℕ)
    → ((place : ℕ) → slice_index values (i + place) < 2 ^ slice_index (map (slice_index widths) into) place)
    → AtWidths widths locals → AtWidths widths (bind_from i into values locals)
bound_from widths i [] values locals each fit = fit
bound_from widths i (x ∷ into) values locals each fit =
    let first : i + 0 ≡ i = omega arith in
    let here : slice_index values i < 2 ^ slice_index widths x =
    subst (λ n. slice_index values n < 2 ^ slice_index widths x) first (each 0) in
    bound_from widths (i + 1) into values (slice_set locals x (slice_index values i))
    (λ place. let next : i + suc place ≡ i + 1 + place = omega arith in
    subst (λ n. slice_index values n < 2 ^ slice_index (map (slice_index widths) into) place) next (each (suc place)))
    (set_fits widths locals x (slice_index values i) fit here)

-- what a look finds has the widths of the declared values, and so have zeros
looked_fits : (d : ObjectDecl) (o : Object) (key : List ℕ) → IsKeptObject d o → AtWidths d.values (looked_up o key)
looked_fits d o key kept = by_row (store.look o key) (kept.rows key)
  where
    by_row : (found : Option (List ℕ))
        → ((values : List ℕ) → found ≡ Some values → (have_widths d.keys key && have_widths d.values values) ≡ true)
        → AtWidths d.values (unwrap_or found (replicate o.count 0))
    by_row None rows place = zero_at o.count place (slice_index d.values place)
    by_row (Some values) rows place = at_widths d.values values (and_second _ _ (rows values refl)) place

-- ---- statements
look_fits : (m : Tree) (found : ℕ) (into : List ℕ) (object : ℕ) (key : List ℕ) (s : State) → Fits m s
    → fits_values (slice_get m.objects object) (map (slice_index (local_widths m)) into) ≡ true
    → (slice_index (local_widths m) found == 1) ≡ true → Fits m (looked found into object key s)
look_fits m found into object key s fits declared one = by_option (slice_get m.objects object) refl declared
  where
    by_option : (is : Option ObjectDecl) → slice_get m.objects object ≡ is
        → fits_values is (map (slice_index (local_widths m)) into) ≡ true → Fits m (looked found into object key s)
    by_option None is h = absurd (true≢false (sym h))
    by_option (Some d) is h =
        let widths : List ℕ = local_widths m in
        let o : Object = object_at s.store object in
        let there : AtWidths d.values (looked_up o key) = looked_fits d o key (fits.store.each object d is) in
        let same : map (slice_index widths) into ≡ d.values = same_list (map (slice_index widths) into) d.values h in
        let each = λ (place : ℕ).
        let here : place ≡ 0 + place = omega arith in
        subst (λ n. slice_index (looked_up o key) n < 2 ^ slice_index (map (slice_index widths) into) place) here
        (subst (λ ws. slice_index (looked_up o key) place < 2 ^ slice_index ws place) (sym same) (there place)) in
        record {
          locals = bound_from widths 0 into (looked_up o key)
              (slice_set s.locals found (bit (is_some (store.look o key)))) each
              (bit_set widths s.locals found (is_some (store.look o key)) fits.locals one);
          fields = fits.fields;
          store = fits.store;
        }

put_fits : (m : Tree) (ok object : ℕ) (key_widths value_widths key values : List ℕ) (s : State) → Fits m s
    → have_widths key_widths key ≡ true → have_widths value_widths values ≡ true
    → can_put (slice_get m.objects object) ≡ true → fits_keys (slice_get m.objects object) key_widths ≡ true
    → fits_values (slice_get m.objects object) value_widths ≡ true
    → (slice_index (local_widths m) ok == 1) ≡ true → Fits m (stored ok object key values s)
put_fits m ok object key_widths value_widths key values s fits keys_fit values_fit may keys_are values_are one =
    by_option (slice_get m.objects object) refl may keys_are values_are
  where
    not_true : (b : Bool) → not b ≡ true → b ≡ false
    not_true true h = sym h
    not_true false h = refl

    by_option : (is : Option ObjectDecl) → slice_get m.objects object ≡ is → can_put is ≡ true
        → fits_keys is key_widths ≡ true → fits_values is value_widths ≡ true
        → Fits m (stored ok object key values s)
    by_option None is may keys_are values_are = absurd (true≢false (sym may))
    by_option (Some d) is may keys_are values_are = record {
      locals = bit_set (local_widths m) s.locals ok _ fits.locals one;
      fields = fits.fields;
      store = put_is_kept m.objects s.store object d key values is (not_true (is_table d.kind) may)
          (as_declared key_widths d.keys key keys_are keys_fit)
          (as_declared value_widths d.values values values_are values_fit) fits.store;
    }

del_fits : (m : Tree) (was object : ℕ) (key : List ℕ) (s : State) → Fits m s
    → can_del (slice_get m.objects object) ≡ true → (slice_index (local_widths m) was == 1) ≡ true
    → Fits m (deleted was object key s)
del_fits m was object key s fits may one = by_option (slice_get m.objects object) refl may
  where
    by_option : (is : Option ObjectDecl) → slice_get m.objects object ≡ is → can_del is ≡ true
        → Fits m (deleted was object key s)
    by_option None is may = absurd (true≢false (sym may))
    by_option (Some d) is may = record {
      locals = bit_set (local_widths m) s.locals was _ fits.locals one;
      fields = fits.fields;
      store = del_is_kept m.objects s.store object d key is may fits.store;
    }

-- a value that fits a local
pub bound_fits : (m : Tree) (x value : ℕ) (s : State) → Fits m s → value < 2 ^ slice_index (local_widths m) x
    → Fits m (bound x value s)
bound_fits m x value s fits small = record {
  locals = set_fits (local_widths m) s.locals x value fits.locals small;
  fields = fits.fields;
  store = fits.store;
}

-- the value of an expression that is as wide as a local
value_bound : (m : Tree) (packet : Packet) (scope : List ℕ) (s : State) → IsArrival packet → Fits m s → (x : ℕ)
    (e : ExprTree) → is_good_expr (local_widths m) scope e ≡ true
    → (slice_index (local_widths m) x == width_of (local_widths m) e) ≡ true
    → Fits m (bound x (value_of (local_widths m) packet e s) s)
value_bound m packet scope s arrives fits x e good wide =
    bound_fits m x (value_of (local_widths m) packet e s) s fits
    (subst (λ w. value_of (local_widths m) packet e s < 2 ^ w)
    (sym (eqb-true (slice_index (local_widths m) x) (width_of (local_widths m) e) wide))
    (value_fits m packet scope s arrives fits e good))

-- turns whose numbers are below 64
turns_fit : (m : Tree) (x : ℕ) (go : State → Outcome) → slice_index (local_widths m) x ≡ 32
    → ((s : State) → Fits m s → FitsOutcome m (go s))
    → (n i : ℕ) (s : State) → i + n ≤ 64 → Fits m s → FitsOutcome m (turns n i x go s)
turns_fit m x go wide goes zero i s few fits = fits
turns_fit m x go wide goes (suc n) i s few fits =
    let small : i < 2 ^ 32 = omega arith in
    then_fits m (go (bound x i s)) (turns n (suc i) x go)
    (goes (bound x i s) (bound_fits m x i s fits (subst (λ w. i < 2 ^ w) (sym wide) small)))
    (λ after ok. turns_fit m x go wide goes n (suc i) after (omega arith) ok)

mutual
  pub stmt_fits : (m : Tree) (packet : Packet) (scope : List ℕ) (next : ℕ) (t : StmtTree) (s : State)
      → IsArrival packet → Fits m s → is_good_stmt m scope next t ≡ true
      → FitsOutcome m (do_stmt (local_widths m) packet t s)
  stmt_fits m packet scope next (let_local x value) s arrives fits h =
      let two = and_first _ _ (and_first _ _ h) in
      value_bound m packet scope s arrives fits x value (and_first _ _ two) (and_second _ _ two)
  stmt_fits m packet scope next (assign x value) s arrives fits h =
      value_bound m packet scope s arrives fits x value (and_first _ _ (and_first _ _ h)) (and_second _ _ h)
  stmt_fits m packet scope next (set_field f value) s arrives fits h = record {
    locals = fits.locals;
    fields = field_assigned f (value_of (local_widths m) packet value s) s.fields fits.fields;
    store = fits.store;
  }
  stmt_fits m packet scope next (look found into object keys) s arrives fits h =
      let three = and_first _ _ (and_first _ _ h) in
      look_fits m found into object (values_of (local_widths m) packet keys s) s fits
      (and_second _ _ (and_first _ _ three)) (and_second _ _ three)
  stmt_fits m packet scope next (put ok object keys values) s arrives fits h =
      let six = and_first _ _ (and_first _ _ h) in
      let five = and_first _ _ six in
      let four = and_first _ _ five in
      let three = and_first _ _ four in
      let two = and_first _ _ three in
      put_fits m ok object (widths_of (local_widths m) keys) (widths_of (local_widths m) values)
      (values_of (local_widths m) packet keys s) (values_of (local_widths m) packet values s) s fits
      (values_fit m packet scope s arrives fits keys (and_first _ _ two))
      (values_fit m packet scope s arrives fits values (and_second _ _ two))
      (and_second _ _ three) (and_second _ _ four) (and_second _ _ five) (and_second _ _ six)
  stmt_fits m packet scope next (del was object keys) s arrives fits h =
      let four = and_first _ _ (and_first _ _ h) in
      del_fits m was object (values_of (local_widths m) packet keys s) s fits
      (and_second _ _ (and_first _ _ (and_first _ _ four))) (and_second _ _ four)
  stmt_fits m packet scope next (choose cond first second) s arrives fits h =
      cond_both (value_of (local_widths m) packet cond s == 0) (do_body (local_widths m) packet second s)
      (do_body (local_widths m) packet first s) (FitsOutcome m)
      (λ _. body_fits m packet scope (next + declared_by first) second s arrives fits (and_second _ _ h))
      (λ _. body_fits m packet scope next first s arrives fits (and_second _ _ (and_first _ _ h)))
  stmt_fits m packet scope next (repeat index count body) s arrives fits h =
      let four = and_first _ _ (and_first _ _ (and_first _ _ h)) in
      let times = and_first (is_count count) _ (and_first _ _ (and_first _ _ four)) in
      let few : count ≤ 64 = leb-true count 64 (and_second _ (nat_le count 64) times) in
      turns_fit m index (do_body (local_widths m) packet body)
      (eqb-true (slice_index (local_widths m) index) 32 (and_second _ _ four))
      (λ after ok. body_fits m packet (index ∷ scope) (next + 1) body after arrives ok (and_second _ _ h))
      count 0 s (omega arith) fits
  stmt_fits m packet scope next (send port) s arrives fits h = fits.store
  stmt_fits m packet scope next drop s arrives fits h = fits.store

  pub body_fits : (m : Tree) (packet : Packet) (scope : List ℕ) (next : ℕ) (b : BodyTree) (s : State)
      → IsArrival packet → Fits m s → is_good_body m scope next b ≡ true
      → FitsOutcome m (do_body (local_widths m) packet b s)
  body_fits m packet scope next done s arrives fits h = fits
  body_fits m packet scope next (stmt t b) s arrives fits h =
      then_fits m (do_stmt (local_widths m) packet t s) (do_body (local_widths m) packet b)
      (stmt_fits m packet scope next t s arrives fits (and_first _ _ (and_first _ _ h)))
      (λ after goes. body_fits m packet (binds t ++ scope) (next + declared_in t) b after arrives goes (and_second _ _ h))

-- ---- whole runs
pub start_fits : (m : Tree) (st : Store) (packet : Packet) → IsArrival packet → IsKept m.objects st
    → Fits m (start_state m st packet)
start_fits m st packet arrives kept = record {
  locals = λ place. zero_at (length m.locals) place (slice_index (local_widths m) place);
  fields = fields_fit packet arrives;
  store = kept;
}

pub runs_kept : (m : Tree) (st : Store) (packet : Packet) → is_good m ≡ true → IsArrival packet
    → IsKept m.objects st → IsKept m.objects (source_store m st packet)
runs_kept m st packet h arrives kept =
    store_fits m (do_body (local_widths m) packet m.body (start_state m st packet))
    (body_fits m packet [] 0 m.body (start_state m st packet) arrives (start_fits m st packet arrives kept)
    (and_second _ _ h))
