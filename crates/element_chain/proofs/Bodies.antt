-- The body of an element by itself, and where it stands in the whole.
use Rattle.std.proofs.Common.{◌≡◌, ℕ, suc, ◌+◌, ◌<◌, ◌≤◌, ◌%◌, ◌^◌, ◌==◌, Bool, true, false, cond, List, [], ◌∷◌, ◌++◌, length, nat_le, refl, sym, ap, ◌∙◌, subst, arith, slice_index, slice_get, is_some, mod-eq_of_lt, eq-eqb}
use Rattle.std.proofs.lemmas.Bool.{eqb-true, leb-true, or_left, or_right}
use Rattle.std.proofs.lemmas.List.{length_push}
use Rattle.gal_bits.specs.Operators.{bit}
use Rattle.packet_fields.specs.Arrivals.{IsArrival}
use Rattle.packet_fields.specs.declared.field.Field.{Field}
use Rattle.packet_fields.specs.declared.packet.Packet.{Packet}
use Rattle.packet_fields.specs.declared.verdict.Verdict.TheVariants.{Drop, Send}
use Rattle.packet_fields.specs.Fields.{field_value}
use Rattle.packet_fields.specs.Table.{row, all_fields, field_index}
use Rattle.state_store.specs.Store.{Store, is_stored, put_row, put_answer, del_row}
use Rattle.state_store.specs.Store as store
use Rattle.state_store.specs.Kept.{IsKept}
use Rattle.element_lang.specs.Tree.{ExprTree, StmtTree, BodyTree, Tree}
use Rattle.element_lang.specs.Tree.StmtTree.{let_local, assign, set_field, look, put, del, choose, repeat, send, drop}
use Rattle.element_lang.specs.Tree.BodyTree.{done, stmt}
use Rattle.element_lang.specs.Widths.{local_widths, width_of}
use Rattle.element_lang.specs.Rules.{widths_of, is_good_stmt, is_good_body, is_count, counted_from, declared_in, declared_by, binds, fits_keys}
use Rattle.element_lang.specs.Meaning.{State, Outcome, Running, Ended, then_do, value_of, values_of, bound, assigned, with_fields, do_stmt, do_body, stored, deleted, looked, turns}
use Rattle.element_chain.specs.Chain.{After}
use Rattle.element_chain.specs.Compose.{Numbering, Spot, Sends, one, renamed, all_renamed, joined, declared, all_declared, numbers, stmt_placed, body_placed, sets, sets_in}
use Rattle.element_chain.specs.Laws.{reads_bytes, any_reads_bytes, uses_bytes, any_uses_bytes}
use Rattle.packet_fields.specs.FieldOrder.{index-lt, field_width_at}
use Rattle.element_lang.specs.KeptRuns.{Fits, value_fits, bound_fits, stmt_fits, body_fits}
use Rattle.element_chain.proofs.Numbers.{Extends, extends_more, IsNumbered, carries_one, stmt_carries, body_carries, the_first}
use Rattle.element_chain.proofs.Sent.{written_behind_port, written_same}
use Rattle.element_chain.proofs.Alike.{Instance, spot_of, IsIn, Alike, AlikeOutcomes, then_alike, fewer_outcomes, do_followed, value_alike, values_alike}
use Rattle.element_chain.proofs.Steps.{bound_alike, assigned_alike, field_alike, changed_alike, look_alike, turns_alike, declared_there, counted_within}
use Rattle.element_chain.proofs.Tests.{and_three, and_four}
use Rattle.lemmas.proofs.Tests.{and_first, and_second}

abbrev pub ended : After → Outcome
ended a = Ended (joined a.stores) a.verdict

-- the whole where an element sends
pub record IsAt (i : Instance) (t : State) (st : Store) : Type 0 where
  pub many : length t.locals ≡ length i.widths
  pub all : length t.fields ≡ 37
  pub fit : (f : Field) → (row f).writable ≡ true → slice_index t.fields (field_index f) < 2 ^ (row f).width
  pub kept : IsKept i.m.objects st
  pub store : t.store ≡ i.before ++ (st ++ i.after)
  pub unset : (f : Field) → i.is_set f ≡ false → slice_index t.fields (field_index f) ≡ field_value i.whole.bytes i.whole.port f

-- what stands at the sends does what the chain does with the verdict
pub record IsReady (i : Instance) (sent : Sends) : Type 0 where
  pub arrives : IsArrival i.own
  pub base : length i.before ≡ i.base
  pub as_sent : (values : List ℕ) → with_fields all_fields values i.own.bytes ≡ with_fields all_fields values i.whole.bytes
  pub drops : (st : Store) → (i.before ++ (st ++ i.after) ≡ joined (i.leaves st Drop).stores) × (Drop ≡ (i.leaves st Drop).verdict)
  pub grow : (port : ExprTree) (widths : List ℕ) → Extends widths (sent port widths).widths
  pub sends : (port : ExprTree) (widths : List ℕ) (t : State) (st : Store) → IsAt i t st → value_of i.widths i.whole port t < 2 ^ 8 → Extends (sent port widths).widths i.widths
      → do_body i.widths i.whole (sent port widths).body t
      ≡ ended (i.leaves st (Send (value_of i.widths i.whole port t) (with_fields all_fields t.fields i.whole.bytes)))

pub do_one : (widths : List ℕ) (packet : Packet) (s : StmtTree) (t : State) → do_body widths packet (one s) t ≡ do_stmt widths packet s t
do_one widths packet s t = by_outcome (do_stmt widths packet s t)
  where
    by_outcome : (o : Outcome) → then_do o (do_body widths packet done) ≡ o
    by_outcome (Running u) = refl
    by_outcome (Ended st verdict) = refl

pub length-all_widths : (spot : Spot) (xs : List ℕ) (n : Numbering) → length (all_declared spot xs n).widths ≡ length n.widths + length xs
length-all_widths spot [] n = omega arith
length-all_widths spot (x ∷ xs) n = omega (arith, length-all_widths spot xs (declared spot x n), length_push n.widths (slice_index spot.widths x))

pub below_next : (scope : List ℕ) (next : ℕ) (n : Numbering) → next ≡ length n.names → ((y : ℕ) → IsIn y scope → y < length n.names) → (y : ℕ) → IsIn y scope → y < next
below_next scope next n is within y old = omega (arith, is, within y old)

choose_by : (i : Instance) (scope names : List ℕ) (b : Bool) (x x' y y' : Outcome) → AlikeOutcomes i scope names x x' → AlikeOutcomes i scope names y y' → AlikeOutcomes i scope names (cond b x y) (cond b x' y')
choose_by i scope names true x x' y y' first second = first
choose_by i scope names false x x' y y' first second = second

more_names : (scope names others : List ℕ) → Extends names others → ((x : ℕ) → IsIn x scope → x < length names) → (x : ℕ) → IsIn x scope → IsIn x scope × (slice_index others x ≡ slice_index names x)
more_names scope names others grown within x is = (is, grown.same x (within x is))

pub in_behind : (xs scope : List ℕ) (x : ℕ) → IsIn x scope → IsIn x (xs ++ scope)
in_behind [] scope x is = is
in_behind (y ∷ xs) scope x is = or_right (y == x) _ (in_behind xs scope x is)

-- a statement's locals have numbers behind it
pub bound_within : (m : Tree) (s : StmtTree) (scope : List ℕ) (next : ℕ) → is_good_stmt m scope next s ≡ true → ((y : ℕ) → IsIn y scope → y < next) → (y : ℕ) → IsIn y (binds s ++ scope) → y < next + declared_in s
bound_within m (let_local x value) scope next good within y is = counted_within next (x ∷ []) scope y (and_second _ _ (and_first _ _ good)) within is
bound_within m (look found into object keys) scope next good within y is = counted_within next (found ∷ into) scope y (and_second _ _ (and_first _ _ good)) within is
bound_within m (put ok object keys values) scope next good within y is = counted_within next (ok ∷ []) scope y (and_second _ _ (and_first _ _ good)) within is
bound_within m (del was object keys) scope next good within y is = counted_within next (was ∷ []) scope y (and_second _ _ (and_first _ _ good)) within is
bound_within m _ scope next good within y is = omega (arith, within y is)

same_after : (i : Instance) (st : Store) (v x : ℕ) (bytes others : List ℕ) → v ≡ x → bytes ≡ others
    → (joined (i.leaves st (Send v bytes)).stores ≡ joined (i.leaves st (Send x others)).stores) × ((i.leaves st (Send v bytes)).verdict ≡ (i.leaves st (Send x others)).verdict)
same_after i st v x bytes others same also =
    let one : i.leaves st (Send v bytes) ≡ i.leaves st (Send x others) = ap (λ k. i.leaves st (Send k bytes)) same ∙ ap (λ b. i.leaves st (Send x b)) also in
    (ap (λ (a : After). joined a.stores) one, ap (λ (a : After). a.verdict) one)

module _ (i : Instance) (sent : Sends) (ready : IsReady i sent) where
  at_send : (scope names : List ℕ) (a t : State) → Fits i.m a → Alike i scope names a t → IsAt i t a.store
  at_send scope names a t fits alike = record {
    many = alike.locals.many;
    all = alike.fields.all;
    fit = λ f may. subst (λ v. v < 2 ^ (row f).width) (sym (alike.fields.same (field_index f) (written_behind_port f may))) (subst (λ w. slice_index a.fields (field_index f) < 2 ^ w) (field_width_at f) (fits.fields (field_index f)));
    kept = fits.store;
    store = alike.store;
    unset = alike.fields.unset;
  }

  send_alike : (scope names : List ℕ) (after : List ℕ) (a t : State) (port : ExprTree) (widths : List ℕ) (v : ℕ) → Fits i.m a → Alike i scope names a t → v < 2 ^ 8 → value_of i.widths i.whole port t ≡ v
      → Extends (sent port widths).widths i.widths
      → AlikeOutcomes i scope after (Ended a.store (Send (v % 2 ^ 8) (with_fields all_fields a.fields i.own.bytes))) (do_body i.widths i.whole (sent port widths).body t)
  send_alike scope names after a t port widths v fits alike small is grown =
      let low : value_of i.widths i.whole port t < 2 ^ 8 = subst (λ n. n < 2 ^ 8) (sym is) small in
      let cut : v % 2 ^ 8 ≡ v = mod-eq_of_lt small in
      let bytes : with_fields all_fields t.fields i.whole.bytes ≡ with_fields all_fields a.fields i.own.bytes
      = written_same t.fields a.fields i.whole.bytes alike.fields.same ∙ sym (ready.as_sent a.fields) in
      subst (λ o. AlikeOutcomes i scope after (Ended a.store (Send (v % 2 ^ 8) (with_fields all_fields a.fields i.own.bytes))) o)
      (sym (ready.sends port widths t a.store (at_send scope names a t fits alike) low grown))
      (same_after i a.store (value_of i.widths i.whole port t) (v % 2 ^ 8) (with_fields all_fields t.fields i.whole.bytes) (with_fields all_fields a.fields i.own.bytes) (is ∙ sym cut) bytes)

  there_in : (a : State) (o : ℕ) (ws : List ℕ) → Fits i.m a → fits_keys (slice_get i.m.objects o) ws ≡ true → o < length a.store
  there_in a o ws fits h = omega (arith, declared_there i.m.objects o ws h, fits.store.count)

  mutual
    pub stmt_alike : (scope : List ℕ) (next : ℕ) (s : StmtTree) (n : Numbering) → next ≡ length n.names → is_good_stmt i.m scope next s ≡ true → IsNumbered (local_widths i.m) n
        → ((y : ℕ) → IsIn y scope → y < length n.names) → next + declared_in s ≤ length i.m.locals → Extends (stmt_placed (spot_of i) sent s n).numbering.widths i.widths
        → (uses_bytes s ≡ true → i.own.bytes ≡ i.whole.bytes) → ((f : Field) → sets f s ≡ true → i.is_set f ≡ true)
        → (a t : State) → Fits i.m a → Alike i scope n.names a t
        → AlikeOutcomes i (binds s ++ scope) (stmt_placed (spot_of i) sent s n).numbering.names (do_stmt (local_widths i.m) i.own s a) (do_body i.widths i.whole (stmt_placed (spot_of i) sent s n).body t)
    stmt_alike scope next (let_local x value) n is good numbered within room grown bytes set a t fits alike =
        let carries = stmt_carries i.m (spot_of i) sent ready.grow scope next (let_local x value) n is good numbered in
        let old = extends_more n.widths (declared (spot_of i) x n).widths i.widths carries.widths grown in
        let first : x ≡ next = the_first next x [] (and_second _ _ (and_first _ _ good)) in
        let same = value_alike i n scope numbered within old a t alike value (and_first _ _ (and_first _ _ (and_first _ _ good))) bytes in
        subst (λ v. Alike i (x ∷ scope) (declared (spot_of i) x n).names (bound x (value_of (local_widths i.m) i.own value a) a) (bound (length n.widths) v t)) (sym same)
        (bound_alike i scope n x (value_of (local_widths i.m) i.own value a) a t (first ∙ is) numbered within (omega (arith, first, room))
        (omega (arith, grown.longer, length_push n.widths (slice_index (local_widths i.m) x))) alike)
    stmt_alike scope next (assign x value) n is good numbered within room grown bytes set a t fits alike =
        let same = value_alike i n scope numbered within grown a t alike value (and_first _ _ (and_first _ _ good)) bytes in
        subst (λ v. Alike i scope n.names (bound x (value_of (local_widths i.m) i.own value a) a) (bound (slice_index n.names x) v t)) (sym same)
        (assigned_alike i scope n x (value_of (local_widths i.m) i.own value a) a t numbered within (and_second _ _ (and_first _ _ good)) (omega (arith, room, is)) grown.longer alike)
    stmt_alike scope next (set_field f value) n is good numbered within room grown bytes set a t fits alike =
        let same = value_alike i n scope numbered within grown a t alike value (and_first _ _ (and_first _ _ good)) bytes in
        subst (λ v. Alike i scope n.names (assigned f (value_of (local_widths i.m) i.own value a) a) (assigned f v t)) (sym same)
        (field_alike i scope n.names f (value_of (local_widths i.m) i.own value a) a t (written_behind_port f (and_second _ _ (and_first _ _ good))) (index-lt f) (set f (eq-eqb (field_index f) (field_index f) refl)) alike)
    stmt_alike scope next (look found into object keys) n is good numbered within room grown bytes set a t fits alike =
        let carries = stmt_carries i.m (spot_of i) sent ready.grow scope next (look found into object keys) n is good numbered in
        let old = extends_more n.widths (all_declared (spot_of i) (found ∷ into) n).widths i.widths carries.widths grown in
        let (three, one_bit, from_next, fresh) = and_four _ _ _ _ good in
        let (good_keys, keys_fit, values_fit) = and_three _ _ _ three in
        let counted : counted_from (length n.names) (found ∷ into) ≡ true = subst (λ k. counted_from k (found ∷ into) ≡ true) is from_next in
        let same = values_alike i n scope numbered within old a t alike keys good_keys bytes in
        let there : object < length a.store = there_in a object (widths_of (local_widths i.m) keys) fits keys_fit in
        subst (λ vs. Alike i ((found ∷ into) ++ scope) (all_declared (spot_of i) (found ∷ into) n).names (looked found into object (values_of (local_widths i.m) i.own keys a) a)
        (looked (length n.widths) (numbers (suc (length n.widths)) into) (i.base + object) vs t)) (sym same)
        (look_alike i scope n found into object (values_of (local_widths i.m) i.own keys a) a t counted numbered within (omega (arith, room, is))
        (omega (arith, grown.longer, length-all_widths (spot_of i) (found ∷ into) n)) ready.base there alike)
    stmt_alike scope next (put ok object keys values) n is good numbered within room grown bytes set a t fits alike =
        let carries = stmt_carries i.m (spot_of i) sent ready.grow scope next (put ok object keys values) n is good numbered in
        let old = extends_more n.widths (declared (spot_of i) ok n).widths i.widths carries.widths grown in
        let (five, one_bit, counted, fresh) = and_four _ _ _ _ good in
        let (two, may, keys_fit, values_fit) = and_four _ _ _ _ five in
        let first : ok ≡ next = the_first next ok [] counted in
        let same_keys = values_alike i n scope numbered within old a t alike keys (and_first _ _ two) (λ h. bytes (or_left (any_reads_bytes keys) (any_reads_bytes values) h)) in
        let same_values = values_alike i n scope numbered within old a t alike values (and_second _ _ two) (λ h. bytes (or_right (any_reads_bytes keys) (any_reads_bytes values) h)) in
        let there : object < length a.store = there_in a object (widths_of (local_widths i.m) keys) fits keys_fit in
        let own : State = stored ok object (values_of (local_widths i.m) i.own keys a) (values_of (local_widths i.m) i.own values a) a in
        subst (λ ks. Alike i (ok ∷ scope) (declared (spot_of i) ok n).names own
        (stored (length n.widths) (i.base + object) ks (values_of i.widths i.whole (all_renamed i.port n.names values) t) t)) (sym same_keys)
        (subst (λ vs. Alike i (ok ∷ scope) (declared (spot_of i) ok n).names own (stored (length n.widths) (i.base + object) (values_of (local_widths i.m) i.own keys a) vs t)) (sym same_values)
        (changed_alike i scope n ok object (λ ob. bit (is_stored (put_answer ob (values_of (local_widths i.m) i.own keys a))))
        (λ ob. put_row ob (values_of (local_widths i.m) i.own keys a) (values_of (local_widths i.m) i.own values a)) a t (first ∙ is) numbered within (omega (arith, first, room))
        (omega (arith, grown.longer, length_push n.widths (slice_index (local_widths i.m) ok))) ready.base there alike))
    stmt_alike scope next (del was object keys) n is good numbered within room grown bytes set a t fits alike =
        let carries = stmt_carries i.m (spot_of i) sent ready.grow scope next (del was object keys) n is good numbered in
        let old = extends_more n.widths (declared (spot_of i) was n).widths i.widths carries.widths grown in
        let (three, one_bit, counted, fresh) = and_four _ _ _ _ good in
        let (good_keys, may, keys_fit) = and_three _ _ _ three in
        let first : was ≡ next = the_first next was [] counted in
        let same = values_alike i n scope numbered within old a t alike keys good_keys bytes in
        let there : object < length a.store = there_in a object (widths_of (local_widths i.m) keys) fits keys_fit in
        subst (λ ks. Alike i (was ∷ scope) (declared (spot_of i) was n).names (deleted was object (values_of (local_widths i.m) i.own keys a) a) (deleted (length n.widths) (i.base + object) ks t)) (sym same)
        (changed_alike i scope n was object (λ ob. bit (is_some (store.look ob (values_of (local_widths i.m) i.own keys a))))
        (λ ob. del_row ob (values_of (local_widths i.m) i.own keys a)) a t (first ∙ is) numbered within (omega (arith, first, room))
        (omega (arith, grown.longer, length_push n.widths (slice_index (local_widths i.m) was))) ready.base there alike)
    stmt_alike scope next (choose test first second) n is good numbered within room grown bytes set a t fits alike =
        let (good_test, one_bit, good_first, good_second) = and_four _ _ _ _ good in
        let middle : Numbering = (body_placed (spot_of i) sent first n).numbering in
        let last : Numbering = (body_placed (spot_of i) sent second middle).numbering in
        let one_carries = body_carries i.m (spot_of i) sent ready.grow scope next first n is good_first numbered in
        let next_is : next + declared_by first ≡ length middle.names = omega (arith, is, one_carries.count) in
        let two_carries = body_carries i.m (spot_of i) sent ready.grow scope (next + declared_by first) second middle next_is good_second one_carries.numbered in
        let grown_middle = extends_more middle.widths last.widths i.widths two_carries.widths grown in
        let old = extends_more n.widths middle.widths i.widths one_carries.widths grown_middle in
        let test_bytes : reads_bytes test ≡ true → i.own.bytes ≡ i.whole.bytes = (λ h. bytes (or_left (reads_bytes test) _ h)) in
        let first_bytes : any_uses_bytes first ≡ true → i.own.bytes ≡ i.whole.bytes = (λ h. bytes (or_right (reads_bytes test) _ (or_left (any_uses_bytes first) (any_uses_bytes second) h))) in
        let second_bytes : any_uses_bytes second ≡ true → i.own.bytes ≡ i.whole.bytes = (λ h. bytes (or_right (reads_bytes test) _ (or_right (any_uses_bytes first) (any_uses_bytes second) h))) in
        let same = value_alike i n scope numbered within old a t alike test good_test test_bytes in
        let within_middle : (y : ℕ) → IsIn y scope → y < length middle.names = (λ y there. omega (arith, within y there, one_carries.names.longer)) in
        let alike_middle = fewer_outcomes i scope n.names scope middle.names (Running a) (Running t) (more_names scope n.names middle.names one_carries.names within) alike in
        let v : ℕ = value_of (local_widths i.m) i.own test a in
        let yes_part = fewer_outcomes i scope n.names scope last.names (do_body (local_widths i.m) i.own first a) (do_body i.widths i.whole (body_placed (spot_of i) sent first n).body t)
        (more_names scope n.names last.names (extends_more n.names middle.names last.names one_carries.names two_carries.names) within)
        (body_alike scope next first n is good_first numbered within (omega (arith, room)) grown_middle first_bytes
        (λ f h. set f (or_left (sets_in f first) (sets_in f second) h)) a t fits alike) in
        let no_part = fewer_outcomes i scope middle.names scope last.names (do_body (local_widths i.m) i.own second a) (do_body i.widths i.whole (body_placed (spot_of i) sent second middle).body t)
        (more_names scope middle.names last.names two_carries.names within_middle)
        (body_alike scope (next + declared_by first) second middle next_is good_second one_carries.numbered within_middle (omega (arith, room)) grown second_bytes
        (λ f h. set f (or_right (sets_in f first) (sets_in f second) h)) a t fits alike_middle) in
        subst (λ o. AlikeOutcomes i scope last.names (cond (v == 0) (do_body (local_widths i.m) i.own second a) (do_body (local_widths i.m) i.own first a)) o)
        (sym (do_one i.widths i.whole (choose (renamed i.port n.names test) (body_placed (spot_of i) sent first n).body (body_placed (spot_of i) sent second middle).body) t
        ∙ ap (λ u. cond (u == 0) (do_body i.widths i.whole (body_placed (spot_of i) sent second middle).body t) (do_body i.widths i.whole (body_placed (spot_of i) sent first n).body t)) same))
        (choose_by i scope last.names (v == 0) _ _ _ _ no_part yes_part)
    stmt_alike scope next (repeat index count body) n is good numbered within room grown bytes set a t fits alike =
        let (four, index_counted, fresh, good_body) = and_four _ _ _ _ good in
        let (times, quiet, goes_on, is_wide) = and_four (is_count count) _ _ _ four in
        let few : count ≤ 64 = leb-true count 64 (and_second _ (nat_le count 64) times) in
        let wide : slice_index (local_widths i.m) index ≡ 32 = eqb-true (slice_index (local_widths i.m) index) 32 is_wide in
        let first : index ≡ next = the_first next index [] index_counted in
        let inner : Numbering = declared (spot_of i) index n in
        let last : Numbering = (body_placed (spot_of i) sent body inner).numbering in
        let carries = carries_one (spot_of i) index n (first ∙ is) numbered in
        let next_is : next + 1 ≡ length inner.names = omega (arith, is, carries.count) in
        let turn = body_carries i.m (spot_of i) sent ready.grow (index ∷ scope) (next + 1) body inner next_is good_body carries.numbered in
        let within_turn : (y : ℕ) → IsIn y (index ∷ scope) → y < length inner.names
        = (λ y there. omega (arith, counted_within next (index ∷ []) scope y index_counted (below_next scope next n is within) there, next_is)) in
        subst (λ o. AlikeOutcomes i scope last.names (turns count 0 index (do_body (local_widths i.m) i.own body) a) o)
        (sym (do_one i.widths i.whole (repeat (length n.widths) count (body_placed (spot_of i) sent body inner).body) t))
        (fewer_outcomes i scope n.names scope last.names (turns count 0 index (do_body (local_widths i.m) i.own body) a)
        (turns count 0 (length n.widths) (do_body i.widths i.whole (body_placed (spot_of i) sent body inner).body) t)
        (more_names scope n.names last.names (extends_more n.names inner.names last.names carries.names turn.names) within)
        (turns_alike i scope n index (do_body (local_widths i.m) i.own body) (do_body i.widths i.whole (body_placed (spot_of i) sent body inner).body) (first ∙ is) numbered within
        (omega (arith, first, room)) (omega (arith, grown.longer, turn.widths.longer, length_push n.widths (slice_index (local_widths i.m) index)))
        (λ v s low ok. bound_fits i.m index v s ok (let small : v < 2 ^ 32 = omega (arith, low) in subst (λ w. v < 2 ^ w) (sym wide) small))
        (λ s ok. body_fits i.m i.own (index ∷ scope) (next + 1) body s ready.arrives ok good_body)
        (λ s u ok alike'. body_alike (index ∷ scope) (next + 1) body inner next_is good_body carries.numbered within_turn (omega (arith, room)) grown bytes set s u ok alike')
        count 0 a t (omega (arith, few)) fits alike))
    stmt_alike scope next (send port) n is good numbered within room grown bytes set a t fits alike =
        let old = extends_more n.widths (sent (renamed i.port n.names port) n.widths).widths i.widths (ready.grow (renamed i.port n.names port) n.widths) grown in
        let wide : width_of (local_widths i.m) port ≡ 8 = eqb-true (width_of (local_widths i.m) port) 8 (and_second _ _ good) in
        let v : ℕ = value_of (local_widths i.m) i.own port a in
        let small : v < 2 ^ 8 = subst (λ w. v < 2 ^ w) wide (value_fits i.m i.own scope a ready.arrives fits port (and_first _ _ good)) in
        send_alike scope n.names n.names a t (renamed i.port n.names port) n.widths v fits alike small (value_alike i n scope numbered within old a t alike port (and_first _ _ good) bytes) grown
    stmt_alike scope next drop n is good numbered within room grown bytes set a t fits alike = (alike.store ∙ (ready.drops a.store).0, (ready.drops a.store).1)

    pub body_alike : (scope : List ℕ) (next : ℕ) (b : BodyTree) (n : Numbering) → next ≡ length n.names → is_good_body i.m scope next b ≡ true → IsNumbered (local_widths i.m) n
        → ((y : ℕ) → IsIn y scope → y < length n.names) → next + declared_by b ≤ length i.m.locals → Extends (body_placed (spot_of i) sent b n).numbering.widths i.widths
        → (any_uses_bytes b ≡ true → i.own.bytes ≡ i.whole.bytes) → ((f : Field) → sets_in f b ≡ true → i.is_set f ≡ true)
        → (a t : State) → Fits i.m a → Alike i scope n.names a t
        → AlikeOutcomes i scope n.names (do_body (local_widths i.m) i.own b a) (do_body i.widths i.whole (body_placed (spot_of i) sent b n).body t)
    body_alike scope next done n is good numbered within room grown bytes set a t fits alike = alike
    body_alike scope next (stmt s b) n is good numbered within room grown bytes set a t fits alike =
        let (good_stmt, alone, good_rest) = and_three _ _ _ good in
        let middle : Numbering = (stmt_placed (spot_of i) sent s n).numbering in
        let last : Numbering = (body_placed (spot_of i) sent b middle).numbering in
        let carries = stmt_carries i.m (spot_of i) sent ready.grow scope next s n is good_stmt numbered in
        let next_is : next + declared_in s ≡ length middle.names = omega (arith, is, carries.count) in
        let rest = body_carries i.m (spot_of i) sent ready.grow (binds s ++ scope) (next + declared_in s) b middle next_is good_rest carries.numbered in
        let grown_middle = extends_more middle.widths last.widths i.widths rest.widths grown in
        let within_rest : (y : ℕ) → IsIn y (binds s ++ scope) → y < length middle.names
        = (λ y there. omega (arith, bound_within i.m s scope next good_stmt (below_next scope next n is within) y there, next_is)) in
        subst (λ o. AlikeOutcomes i scope n.names (then_do (do_stmt (local_widths i.m) i.own s a) (do_body (local_widths i.m) i.own b)) o)
        (sym (do_followed i.widths i.whole (stmt_placed (spot_of i) sent s n).body (body_placed (spot_of i) sent b middle).body t))
        (then_alike i (binds s ++ scope) middle.names scope n.names (do_stmt (local_widths i.m) i.own s a) (do_body i.widths i.whole (stmt_placed (spot_of i) sent s n).body t)
        (do_body (local_widths i.m) i.own b) (do_body i.widths i.whole (body_placed (spot_of i) sent b middle).body)
        (stmt_alike scope next s n is good_stmt numbered within (omega (arith, room)) grown_middle (λ h. bytes (or_left (uses_bytes s) (any_uses_bytes b) h))
        (λ f h. set f (or_left (sets f s) (sets_in f b) h)) a t fits alike)
        (stmt_fits i.m i.own scope next s a ready.arrives fits good_stmt)
        (λ u v ok alike'. fewer_outcomes i (binds s ++ scope) middle.names scope n.names (do_body (local_widths i.m) i.own b u) (do_body i.widths i.whole (body_placed (spot_of i) sent b middle).body v)
        (λ y there. (in_behind (binds s) scope y there, sym (carries.names.same y (within y there))))
        (body_alike (binds s ++ scope) (next + declared_in s) b middle next_is good_rest carries.numbered within_rest (omega (arith, room)) grown
        (λ h. bytes (or_right (uses_bytes s) (any_uses_bytes b) h)) (λ f h. set f (or_right (sets f s) (sets_in f b) h)) u v ok alike')))
